-- A span is spelled in one way.
use Rattle.std.proofs.Common.{◌≡◌, ℕ, Bool, false, ◌||◌, eqb, List, [], ◌∷◌, ◌++◌, Some, refl, sym, subst, ◌∙◌, ◌≢◌, inl, inr, arith}
use Rattle.std.specs.List.{before_first, after_first}
use Rattle.std.proofs.lemmas.Bool.{or_left}
use Rattle.hex.specs.Hex.{encode_lower}
use Rattle.span_key.specs.Spans.{Pair, IsBytes}
use Rattle.script.specs.Fields.{◌>>?◌, is_byte, has_byte, is_hex, bytes_at, span_at}
use Rattle.script.specs.Texts.{span_text}
use Rattle.script.proofs.Laws.Steps.{some_bound, some_is, chosen}
use Rattle.script.proofs.Laws.Bytes.{Each, Each-cons, Each-append, Each-weaker, lacks}
use Rattle.script.proofs.Laws.Keys.{bytes_takes, bytes_again, Each-encode_lower}
use Rattle.script.proofs.Laws.Cuts.{cut_takes, parts_same, before_again, after_again, has_again}

-- what a span that is spelled keeps
pub record IsKeyed (s : Pair) : Type 0 where
  pub some : s.0 ≢ []
  pub key : IsBytes s.0
  pub end : IsBytes s.1

range_text : (key end : List ℕ) → end ≢ [] → span_text (key, end) ≡ encode_lower key ++ (45 ∷ encode_lower end)
range_text key [] some = absurd (some refl)
range_text key (b ∷ bs) some = refl

pub span_takes : (t : List ℕ) (s : Pair) → span_at t ≡ Some s → (t ≡ span_text s) × IsKeyed s
unfolding span_at
span_takes t s e =
    let front = before_first (is_byte 45) t in
    let back = after_first (is_byte 45) t in
    elim (chosen (has_byte 45 t) (bytes_at front >>? λ key. bytes_at back >>? λ end. Some (key, end)) (bytes_at t >>? λ key. Some (key, [])) (Some s) e) [
      | inl range ↦
          let a = some_bound (bytes_at front) (λ key. bytes_at back >>? λ end. Some (key, end)) s range.1 in
          let b = some_bound (bytes_at back) (λ end. Some (a.0, end)) s a.2 in
          let key = bytes_takes front a.0 a.1 in
          let end = bytes_takes back b.0 b.1 in
          let made : Pair = (a.0, b.0) in
          let whole : t ≡ encode_lower a.0 ++ (45 ∷ encode_lower b.0) = cut_takes 45 t range.0
          ∙ parts_same 45 front back (encode_lower a.0) (encode_lower b.0) key.0 end.0 in
          subst (λ (p : Pair). (t ≡ span_text p) × IsKeyed p) (some_is made s b.2) (
            whole
                ∙ sym (range_text a.0 b.0 end.1),
            record { some = key.1; key = key.2; end = end.2 },
          )
      | inr point ↦
          let a = some_bound (bytes_at t) (λ key. Some (key, [])) s point.1 in
          let key = bytes_takes t a.0 a.1 in
          let made : Pair = (a.0, []) in
          subst (λ (p : Pair). (t ≡ span_text p) × IsKeyed p) (some_is made s a.2) (key.0, record { some = key.1; key = key.2; end = λ i. omega arith })
    ]

pub span_again : (s : Pair) → IsKeyed s → span_at (span_text s) ≡ Some s
unfolding span_at
span_again (key, []) ok =
    let clear : has_byte 45 (encode_lower key) ≡ false = lacks is_hex 45 (encode_lower key) refl (Each-encode_lower key ok.key) in
    rw (clear, bytes_again key ok.some ok.key) refl
span_again (key, b ∷ bs) ok =
    let clear : has_byte 45 (encode_lower key) ≡ false = lacks is_hex 45 (encode_lower key) refl (Each-encode_lower key ok.key) in
    let k = bytes_again key ok.some ok.key in
    let e = bytes_again (b ∷ bs) (λ z. cc) ok.end in
    let end = encode_lower (b ∷ bs) in
    rw (has_again 45 (encode_lower key) end, before_again 45 (encode_lower key) end clear, after_again 45 (encode_lower key) end clear, k, e) refl

-- ---- the bytes of a span

abbrev pub is_span_byte : ℕ → Bool
is_span_byte c = is_hex c || eqb c 45

Each-key : (k : List ℕ) → IsBytes k → Each is_span_byte (encode_lower k)
Each-key k h = Each-weaker is_hex is_span_byte (λ c g. or_left (is_hex c) (eqb c 45) g) (encode_lower k) (Each-encode_lower k h)

pub Each-span_text : (s : Pair) → IsKeyed s → Each is_span_byte (span_text s)
Each-span_text (key, []) ok = Each-key key ok.key
Each-span_text (key, b ∷ bs) ok =
    Each-append is_span_byte (encode_lower key) (45 ∷ encode_lower (b ∷ bs)) (Each-key key ok.key)
    (Each-cons is_span_byte 45 (encode_lower (b ∷ bs)) refl (Each-key (b ∷ bs) ok.end))
