-- What the tests on spans answer is what their keys say.
use Rattle.std.proofs.Common.{zero, suc, lit<, ◌≡◌, ◌≢◌, ◌↔◌, ℕ, Bool, true, false, ◌&&◌, List, [], ◌∷◌, refl, sym, ◌∙◌, ap, subst, inl, inr, IsTrue}
use Rattle.span_key.specs.Spans.{Pair, IsBytes, IsSpan, IsIn, Overlap, LiesIn, lies_in, KeyLess, KeyUpTo, key_lt, key_le, next_key, past, overlap}
use Rattle.span_key.proofs.KeyOrder.{key_lt-next_key, KeyUpTo-itself, KeyUpTo-less, KeyUpTo-both, KeyLess-never_itself, KeyLess-else}
use Rattle.span_key.proofs.KeyOrder.{KeyLess-up_to_less, KeyLess-less_up_to, KeyLess-no_empty, KeyLess-next_key, KeyUpTo-trans}

-- the keys of a span are those from its key up to the least key past it
pub in_bounds : (k : List ℕ) (s : Pair) → IsIn k s → KeyUpTo s.0 k × KeyLess k (past s)
in_bounds k (key, []) (inl h) = absurd (KeyLess-no_empty k h.1)
in_bounds k (key, []) (inr h) = subst (λ (v : List ℕ). KeyUpTo v k × KeyLess k (next_key v)) h.1 (KeyUpTo-itself k, KeyLess-next_key k)
in_bounds k (key, b ∷ bs) (inl h) = h
in_bounds k (key, b ∷ bs) (inr h) = let e = h.0 in cc

pub IsIn-from_bounds : (k : List ℕ) (s : Pair) → KeyUpTo s.0 k → KeyLess k (past s) → IsIn k s
IsIn-from_bounds k (key, []) h g = inr (refl, KeyUpTo-both k key (sym (key_lt-next_key k key) ∙ g) h)
IsIn-from_bounds k (key, b ∷ bs) h g = inl (h, g)

-- past a range is its end, and past a single key is the next key
pub past-range : (s : Pair) → s.1 ≢ [] → past s ≡ s.1
past-range (key, []) h = absurd (h refl)
past-range (key, b ∷ bs) h = refl

pub past-point : (s : Pair) → s.1 ≡ [] → past s ≡ next_key s.0
past-point (key, []) h = refl
past-point (key, b ∷ bs) h = cc

-- a span has its key
pub KeyLess-past : (s : Pair) → IsSpan s → KeyLess s.0 (past s)
KeyLess-past (key, []) ok = KeyLess-next_key key
KeyLess-past (key, b ∷ bs) ok = ok.ordered (λ e. cc)

pub IsIn-key : (s : Pair) → IsSpan s → IsIn s.0 s
IsIn-key s ok = IsIn-from_bounds s.0 s (KeyUpTo-itself s.0) (KeyLess-past s ok)

IsBytes-next_key : (k : List ℕ) → IsBytes k → IsBytes (next_key k)
IsBytes-next_key [] h zero = lit< tt
IsBytes-next_key [] h (suc i) = lit< tt
IsBytes-next_key (x ∷ xs) h zero = h 0
IsBytes-next_key (x ∷ xs) h (suc i) = IsBytes-next_key xs (λ j. h (suc j)) i

IsBytes-past : (s : Pair) → IsSpan s → IsBytes (past s)
IsBytes-past (key, []) ok = IsBytes-next_key key ok.key.bytes
IsBytes-past (key, b ∷ bs) ok = ok.end.bytes

both : (a b : Bool) → IsTrue (a && b) → IsTrue a × IsTrue b
both true b h = (refl, h)
both false b h = cc

and : (a b : Bool) → IsTrue a → IsTrue b → IsTrue (a && b)
and a b h g = ap (λ v. v && b) h ∙ g

-- each span begins before the other ends exactly where some key is in both
pub overlap_is : (s t : Pair) → IsSpan s → IsSpan t → IsTrue (overlap s t) ↔ Overlap s t
overlap_is s t s_ok t_ok = (forth, back)
  where
    forth : IsTrue (overlap s t) → Overlap s t
    forth h = by (key_le s.0 t.0) refl
      where
        parts : KeyLess s.0 (past t) × KeyLess t.0 (past s)
        parts = both (key_lt s.0 (past t)) (key_lt t.0 (past s)) h

        by : (o : Bool) → key_le s.0 t.0 ≡ o → Overlap s t
        by true e = (t.0, t_ok.key.bytes, IsIn-from_bounds t.0 s e parts.1, IsIn-key t t_ok)
        by false e = (s.0, s_ok.key.bytes, IsIn-key s s_ok, IsIn-from_bounds s.0 t (KeyUpTo-less t.0 s.0 (KeyLess-else s.0 t.0 e)) parts.0)

    back : Overlap s t → IsTrue (overlap s t)
    back w =
        let a = in_bounds w.0 s w.2 in
        let b = in_bounds w.0 t w.3 in
        and (key_lt s.0 (past t)) (key_lt t.0 (past s)) (KeyLess-up_to_less s.0 w.0 (past t) a.0 b.1) (KeyLess-up_to_less t.0 w.0 (past s) b.0 a.1)

-- s begins no earlier than t and ends no later exactly where each key of s is a key of t
pub lies_in_is : (s t : Pair) → IsSpan s → IsSpan t → IsTrue (lies_in s t) ↔ LiesIn s t
lies_in_is s t s_ok t_ok = (forth, back)
  where
    forth : IsTrue (lies_in s t) → LiesIn s t
    forth h k bytes in_s =
        let parts = both (key_le t.0 s.0) (key_le (past s) (past t)) h in
        let a = in_bounds k s in_s in
        IsIn-from_bounds k t (KeyUpTo-trans t.0 s.0 k parts.0 a.0) (KeyLess-less_up_to k (past s) (past t) a.1 parts.1)

    back : LiesIn s t → IsTrue (lies_in s t)
    back h = and (key_le t.0 s.0) (key_le (past s) (past t)) first.0 (by (key_le (past s) (past t)) refl)
      where
        first : KeyUpTo t.0 s.0 × KeyLess s.0 (past t)
        first = in_bounds s.0 t (h s.0 s_ok.key.bytes (IsIn-key s s_ok))

        -- else the least key past t is in s and so in t
        by : (o : Bool) → key_le (past s) (past t) ≡ o → KeyUpTo (past s) (past t)
        by true e = e
        by false e =
            let in_s = IsIn-from_bounds (past t) s (KeyUpTo-less s.0 (past t) first.1) (KeyLess-else (past s) (past t) e) in
            let in_t = in_bounds (past t) t (h (past t) (IsBytes-past t t_ok) in_s) in
            absurd (KeyLess-never_itself (past t) in_t.1)

-- the same of an answer that is the test
pub overlap_answer : (r : Bool) (s t : Pair) → IsSpan s → IsSpan t → r ≡ overlap s t → IsTrue r ↔ Overlap s t
overlap_answer r s t s_ok t_ok e = let law = overlap_is s t s_ok t_ok in (λ h. law.0 (sym e ∙ h), λ w. e ∙ law.1 w)

pub lies_in_answer : (r : Bool) (s t : Pair) → IsSpan s → IsSpan t → r ≡ lies_in s t → IsTrue r ↔ LiesIn s t
lies_in_answer r s t s_ok t_ok e = let law = lies_in_is s t s_ok t_ok in (λ h. law.0 (sym e ∙ h), λ w. e ∙ law.1 w)

pub overlap-swap : (s t : Pair) → overlap s t ≡ overlap t s
overlap-swap s t = by (key_lt s.0 (past t)) (key_lt t.0 (past s))
  where
    by : (a b : Bool) → (a && b) ≡ (b && a)
    by true true = refl
    by true false = refl
    by false true = refl
    by false false = refl

-- what overlaps a part of a span overlaps the span
pub overlap-wider : (s t u : Pair) → IsTrue (lies_in s t) → IsTrue (overlap s u) → IsTrue (overlap t u)
overlap-wider s t u part meet =
    let inside = both (key_le t.0 s.0) (key_le (past s) (past t)) part in
    let near = both (key_lt s.0 (past u)) (key_lt u.0 (past s)) meet in
    and (key_lt t.0 (past u)) (key_lt u.0 (past t)) (KeyLess-up_to_less t.0 s.0 (past u) inside.0 near.0)
    (KeyLess-less_up_to u.0 (past s) (past t) near.1 inside.1)

pub lies_in-itself : (s : Pair) → IsTrue (lies_in s s)
lies_in-itself s = and (key_le s.0 s.0) (key_le (past s) (past s)) (KeyUpTo-itself s.0) (KeyUpTo-itself (past s))

pub lies_in-trans : (s t u : Pair) → IsTrue (lies_in s t) → IsTrue (lies_in t u) → IsTrue (lies_in s u)
lies_in-trans s t u h g =
    let a = both (key_le t.0 s.0) (key_le (past s) (past t)) h in
    let b = both (key_le u.0 t.0) (key_le (past t) (past u)) g in
    and (key_le u.0 s.0) (key_le (past s) (past u)) (KeyUpTo-trans u.0 t.0 s.0 b.0 a.0) (KeyUpTo-trans (past s) (past t) (past u) a.1 b.1)
