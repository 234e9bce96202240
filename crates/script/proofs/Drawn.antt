-- The latches that are drawn for a generated script: each is one of scripts, and its spelling is short.
use Rattle.std.proofs.Common.{◌≡◌, ◌≢◌, ℕ, zero, suc, ◌+◌, ◌*◌, ◌/◌, ◌%◌, ◌<◌, ◌≤◌, ◌⊎◌, inl, inr, Bool, true, false, cond, eqb, List}
use Rattle.std.proofs.Common.{[], ◌∷◌, ◌++◌, length, decimal, refl, subst, arith, length-append}
use Rattle.std.specs.List.{AllByRecursion}
use Rattle.std.specs.Ordering.{nat_cmp}
use Rattle.std.specs.declared.cmp.Ordering.TheVariants.{Less, Equal}
use Rattle.std.proofs.lemmas.Bool.{eq-eqb, lt-ltb, le-ltb}
use Rattle.std.proofs.lemmas.Fmt.{length-decimal-le}
use Rattle.hex.proofs.HexLemmas.{length-encode_with}
use Rattle.hex.specs.Hex.{encode_lower, lower_digits}
use Rattle.span_key.specs.Spans.{IsBytes, IsKey, IsSpan, key_lt}
use Rattle.hlc_stamp.specs.Stamps.{is_empty_stamp}
use Rattle.hlc_stamp.specs.declared.Stamp.{Stamp}
use Rattle.latch_model.specs.declared.latch.Access.{Access}
use Rattle.latch_model.specs.declared.latch.Access.TheVariants.{Read, Write}
use Rattle.latch_model.specs.declared.latch.Latch.{Latch}
use Rattle.script.specs.Generated.{draw, drawn_key, drawn_latch, drawn_latches, drawn_span}
use Rattle.script.specs.Scripts.{IsScriptLatch}
use Rattle.script.specs.Texts.{access_text, latch_text, span_text, stamp_text}

-- ---- keys

three_bytes : (a b c : ℕ) → a < 256 → b < 256 → c < 256 → IsBytes (a ∷ b ∷ c ∷ [])
three_bytes a b c ha hb hc zero = ha
three_bytes a b c ha hb hc (suc zero) = hb
three_bytes a b c ha hb hc (suc (suc zero)) = hc
three_bytes a b c ha hb hc (suc (suc (suc i))) = omega arith

drawn_key_is : (first n : ℕ) → first < 256 → n < 65536 → IsKey (drawn_key first n)
drawn_key_is first n low small = record { bytes = three_bytes first (n / 256) (n % 256) low (omega arith) (omega arith); fits = omega arith }

some_key : (first n : ℕ) → drawn_key first n ≢ []
some_key first n e = cc

same_cmp : (n : ℕ) → nat_cmp n n ≡ Equal
same_cmp n = rw (le-ltb n n (omega arith), eq-eqb n n refl) refl

less_cmp : (m n : ℕ) → m < n → nat_cmp m n ≡ Less
less_cmp m n lt = rw (lt-ltb m n lt) refl

two_less : (f a b c d : ℕ) → (a < c) ⊎ ((a ≡ c) × (b < d)) → key_lt (f ∷ a ∷ b ∷ []) (f ∷ c ∷ d ∷ []) ≡ true
two_less f a b c d (inl lt) = rw (same_cmp f, less_cmp a c lt) refl
two_less f a b c d (inr same) =
    subst (λ (x : ℕ). key_lt (f ∷ a ∷ b ∷ []) (f ∷ x ∷ d ∷ []) ≡ true) same.0 (rw (same_cmp f, same_cmp a, less_cmp b d same.1) refl)

high_first : (m n : ℕ) → m < n → (m / 256 < n / 256) ⊎ ((m / 256 ≡ n / 256) × (m % 256 < n % 256))
high_first m n lt = grind arith

drawn_less : (first m n : ℕ) → m < n → key_lt (drawn_key first m) (drawn_key first n) ≡ true
drawn_less first m n lt = two_less first (m / 256) (m % 256) (n / 256) (n % 256) (high_first m n lt)

-- ---- latches

abbrev span_by : Bool → ℕ → ℕ → ℕ → List ℕ × List ℕ
span_by range first k e = (drawn_key first (k % 4096), cond range (drawn_key first (k % 4096 + 1 + e % 50)) [])

-- a drawn span is one of scripts, and its spelling has at most 13 bytes
record IsDrawnSpan (s : List ℕ × List ℕ) : Type 0 where
  span : IsSpan s
  key_fits : length s.0 ≤ 256
  end_fits : length s.1 ≤ 256
  short : length (span_text s) ≤ 13

key_digits : (k : List ℕ) → length (encode_lower k) ≡ 2 * length k
key_digits k = length-encode_with lower_digits k

empty_key : IsKey []
empty_key = record { bytes = λ i. omega arith; fits = omega arith }

span_is : (range : Bool) (first k e : ℕ) → first < 256 → IsDrawnSpan (span_by range first k e)
span_is true first k e low =
    let key = drawn_key first (k % 4096) in
    let end = drawn_key first (k % 4096 + 1 + e % 50) in
    let a = length-append (encode_lower key) (45 ∷ encode_lower end) in
    let b = key_digits key in
    let c = key_digits end in
    record {
      span = record {
        key = drawn_key_is first (k % 4096) low (omega arith);
        end = drawn_key_is first (k % 4096 + 1 + e % 50) low (omega arith);
        ordered = λ some. drawn_less first (k % 4096) (k % 4096 + 1 + e % 50) (omega arith);
      };
      key_fits = omega arith;
      end_fits = omega arith;
      short = omega arith;
    }
span_is false first k e low =
    let b = key_digits (drawn_key first (k % 4096)) in
    record {
      span = record { key = drawn_key_is first (k % 4096) low (omega arith); end = empty_key; ordered = λ some. absurd (some refl) };
      key_fits = omega arith;
      end_fits = omega arith;
      short = omega arith;
    }

first_low : (b : Bool) → cond b 1 97 < 256
first_low true = omega arith
first_low false = omega arith

wall_low : (b : Bool) (t : ℕ) → cond b 0 (1 + t % 1000) ≤ 1000
wall_low true t = omega arith
wall_low false t = omega arith

abbrev wall_stamp : ℕ → Stamp
wall_stamp wall = record { wall = wall; logical = 0 }

stamp_short : (b : Bool) (wall : ℕ) → wall ≤ 1000 → length (cond b [] (64 ∷ decimal wall)) ≤ 5
stamp_short true wall low = omega arith
stamp_short false wall low = let d = length-decimal-le 4 wall (omega arith) (omega arith) (omega arith) in omega arith

access_short : (a : Access) → length (access_text a) ≡ 2
access_short Read = refl
access_short Write = refl

pub record IsDrawn (l : Latch) : Type 0 where
  pub latch : IsScriptLatch l
  pub short : length (latch_text l) ≤ 20

drawn_by : (a : Access) (s : List ℕ × List ℕ) (wall : ℕ) → IsDrawnSpan s → s.0 ≢ [] → wall ≤ 1000 →
    IsDrawn (record { access = a; span = s; stamp = wall_stamp wall })
drawn_by a s wall is some low =
    let st = wall_stamp wall in
    let e = length-append (access_text a ++ span_text s) (stamp_text st) in
    let f = length-append (access_text a) (span_text s) in
    let g = access_short a in
    let h = stamp_short (is_empty_stamp st) wall low in
    let short = is.short in
    record {
      latch = record { span = is.span; key = some; key_fits = is.key_fits; end_fits = is.end_fits; wall = omega arith; logical = omega arith };
      short = omega arith;
    }

pub drawn_is : (d k e t : ℕ) → IsDrawn (drawn_latch d k e t)
drawn_is d k e t =
    let first = cond (eqb (k % 16) 0) 1 97 in
    drawn_by (cond (eqb (d % 4) 0) Write Read) (drawn_span first k e) (cond (eqb (t % 8) 0) 0 (1 + t % 1000))
    (span_is (eqb (e % 3) 0) first k e (first_low (eqb (k % 16) 0))) (some_key first (k % 4096)) (wall_low (eqb (t % 8) 0) t)

-- the latches of a request: how many they are, and what each is
pub record AreDrawn (ls : List Latch) (n : ℕ) : Type 0 where
  pub many : length ls ≡ n
  pub each : AllByRecursion IsDrawn ls

pub drawn_are : (n x : ℕ) → AreDrawn (drawn_latches n x).0 n
drawn_are zero x = record { many = refl; each = tt }
drawn_are (suc n) x =
    let d = draw x in let k = draw d in let e = draw k in let t = draw e in
    let more = drawn_are n t in
    record { many = let m = more.many in omega arith; each = (drawn_is d k e t, more.each) }
