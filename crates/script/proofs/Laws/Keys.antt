-- A key is spelled in one way.
use Rattle.std.proofs.Common.{◌≡◌, ℕ, suc, ◌+◌, ◌*◌, ◌/◌, ◌%◌, ◌<◌, Bool, true, not, ◌||◌, eqb, List, [], ◌∷◌, length, get_or, Option, Some, None}
use Rattle.std.proofs.Common.{Result, Ok, Err, unwrap_or, refl, sym, ap, subst, ◌∙◌, inl, inr, ◌≢◌, arith}
use Rattle.std.specs.List.{list_all}
use Rattle.std.specs.Result.{result_ok}
use Rattle.std.proofs.lemmas.Bool.{or_cases, not-true, eqb-true, agree_below_at}
use Rattle.hex.specs.Hex.{◌>>=◌, IsBytes, decode_of, decode_pairs, digit_or_error, hex_digit_value, value_at, pair_value, encode_with, encode_lower}
use Rattle.hex.specs.Hex.{lower_digits}
use Rattle.hex.specs.declared.error.FromHexError.{FromHexError}
use Rattle.hex.proofs.HexLemmas.{decode_of-even, decode_of-ok, decode_of-encode_lower}
use Rattle.script.specs.Fields.{is_hex, bytes_at}
use Rattle.script.proofs.Laws.Steps.{some_if}
use Rattle.script.proofs.Laws.Bytes.{Each, Each-parts, Each-cons}

-- ---- the steps of the crate hex

hex_bound : {A B : Type 0} (r : Result A FromHexError) (f : A → Result B FromHexError) (y : B) → (r >>= f) ≡ Ok y → (x : A) × (r ≡ Ok x) × (f x ≡ Ok y)
hex_bound (Ok x) f y e = (x, refl, e)
hex_bound (Err d) f y e = absurd cc

abbrev hex_done : {A : Type 0} → A → Result A FromHexError
hex_done x = Ok x

digit_is : (c i : ℕ) (o : Option ℕ) (v : ℕ) → digit_or_error c i o ≡ Ok v → o ≡ Some v
digit_is c i (Some w) v h = cc
digit_is c i None v h = absurd cc

ok_value : {A : Type 0} (x y : A) → hex_done x ≡ hex_done y → x ≡ y
ok_value x y e = cc

-- a lower-case digit is the one that its value has in the table

abbrev table_has : ℕ → Bool
table_has c = not (is_hex c) || eqb (get_or lower_digits (unwrap_or (hex_digit_value c) 99) 0) c

abbrev always : ℕ → Bool
always c = true

in_table : (c : ℕ) → c < 256 → table_has c ≡ true
in_table c lt = agree_below_at table_has always 256 c refl lt

is_hex_below : (c : ℕ) → is_hex c ≡ true → c < 256
is_hex_below c h = grind arith

table_back : (c v : ℕ) → is_hex c ≡ true → hex_digit_value c ≡ Some v → get_or lower_digits v 0 ≡ c
table_back c v h e =
    let t : table_has c ≡ true = in_table c (is_hex_below c h) in
    elim (or_cases (not (is_hex c)) (eqb (get_or lower_digits (unwrap_or (hex_digit_value c) 99) 0) c) t) [
      | inl n ↦ absurd (let m = not-true (is_hex c) n in cc)
      | inr q ↦ subst (λ (o : Option ℕ). get_or lower_digits (unwrap_or o 99) 0 ≡ c) e (eqb-true _ _ q)
    ]

value_below : (c v : ℕ) → hex_digit_value c ≡ Some v → v < 16
value_below c v h = grind arith

-- pairs of lower-case digits are the encoding of what they decode to
pairs_back : (i : ℕ) (s bytes : List ℕ) → Each is_hex s → decode_pairs i s ≡ Ok bytes → s ≡ encode_lower bytes
unfolding decode_pairs encode_with
pairs_back i [] bytes h e = let z : [] ≡ bytes = cc in subst (λ (x : List ℕ). [] ≡ encode_lower x) z refl
pairs_back i (a ∷ []) bytes h e = absurd cc
pairs_back i (a ∷ b ∷ rest) bytes h e =
    let p0 = hex_bound (pair_value a b i) _ bytes e in
    let p1 = hex_bound (value_at a i) _ p0.0 p0.1 in
    let p2 = hex_bound (value_at b (i + 1)) _ p0.0 p1.2 in
    let p3 = hex_bound (decode_pairs (i + 2) rest) _ bytes p0.2 in
    let h0 = Each-parts is_hex a (b ∷ rest) h in
    let h1 = Each-parts is_hex b rest h0.1 in
    let va = digit_is a i (hex_digit_value a) p1.0 p1.1 in
    let vb = digit_is b (i + 1) (hex_digit_value b) p2.0 p2.1 in
    let ea = table_back a p1.0 h0.0 va in
    let eb = table_back b p2.0 h1.0 vb in
    let la = value_below a p1.0 va in
    let lb = value_below b p2.0 vb in
    let ih = pairs_back (i + 2) rest p3.0 h1.1 p3.1 in
    let byte : p1.0 * 16 + p2.0 ≡ p0.0 = ok_value _ _ p2.2 in
    let made : p0.0 ∷ p3.0 ≡ bytes = ok_value _ _ p3.2 in
    let high : p0.0 / 16 ≡ p1.0 = omega arith in
    let low : p0.0 % 16 ≡ p2.0 = omega arith in
    subst (λ (x : List ℕ). (a ∷ b ∷ rest) ≡ encode_lower x) made (rw (high, low, ea, eb, ← ih))

ok_some : {E : Type 0} (r : Result (List ℕ) E) (k : List ℕ) → result_ok r ≡ Some k → r ≡ Ok k
ok_some (Ok x) k e = cc
ok_some (Err d) k e = absurd cc

pub bytes_takes : (t k : List ℕ) → bytes_at t ≡ Some k → (t ≡ encode_lower k) × (k ≢ []) × IsBytes k
unfolding bytes_at
bytes_takes [] k e = absurd cc
bytes_takes (c ∷ cs) k e =
    let s = some_if (list_all is_hex (c ∷ cs)) (result_ok (decode_of (c ∷ cs))) k e in
    let d = ok_some (decode_of (c ∷ cs)) k s.1 in
    let ok = decode_of-ok (c ∷ cs) k d in
    let pairs : decode_pairs 0 (c ∷ cs) ≡ Ok k = sym (decode_of-even (c ∷ cs) ok.0) ∙ d in
    (pairs_back 0 (c ∷ cs) k s.0 pairs, λ z. let l : suc (length cs) ≡ 2 * length k = ok.2 in let n : length k ≡ 0 = ap length z in omega arith, ok.3)

-- ---- what is encoded

digit_is_hex : (d : ℕ) → d < 16 → is_hex (get_or lower_digits d 0) ≡ true
digit_is_hex d lt = agree_below_at (λ k. is_hex (get_or lower_digits k 0)) always 16 d refl lt

pub Each-encode_lower : (k : List ℕ) → IsBytes k → Each is_hex (encode_lower k)
unfolding encode_with
Each-encode_lower [] h = refl
Each-encode_lower (b ∷ bs) h =
    let lt : b < 256 = h 0 in
    let high = digit_is_hex (b / 16) (omega arith) in
    let low = digit_is_hex (b % 16) (omega arith) in
    let rest = Each-encode_lower bs (λ i. h (suc i)) in
    Each-cons is_hex (get_or lower_digits (b / 16) 0) (get_or lower_digits (b % 16) 0 ∷ encode_lower bs) high
    (Each-cons is_hex (get_or lower_digits (b % 16) 0) (encode_lower bs) low rest)

pub bytes_again : (k : List ℕ) → k ≢ [] → IsBytes k → bytes_at (encode_lower k) ≡ Some k
unfolding bytes_at encode_with
bytes_again [] some h = absurd (some refl)
bytes_again (b ∷ bs) some h =
    let each = Each-encode_lower (b ∷ bs) h in
    let back = decode_of-encode_lower (b ∷ bs) h in
    rw (each, back) refl
