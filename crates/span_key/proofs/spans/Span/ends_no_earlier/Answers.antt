use Rattle.std.proofs.Common.{◌≡◌, ◌≢◌, ◌↔◌, ℕ, List, [], Bool, true, IsTrue, sym, ◌∙◌, ap, subst}
use Rattle.std.proofs.lemmas.Bool.Decides.{same_from_decides}
use Rattle.span_key.specs.Spans.{Pair, IsSpan, KeyUpTo, key_le, key_lt, next_key, past}
use Rattle.span_key.proofs.KeyOrder.{key_le-next_key, KeyLess-up_to_less, KeyUpTo-itself, KeyUpTo-next_key}
use Rattle.span_key.proofs.SpanLaws.{past-point, past-range}
use Rattle.span_key.proofs.spans.Span.ends_no_earlier.Goals as goal

-- a single key t ends no later than s exactly where it is before the end of s
key_in_span : (r : Bool) (k : List ℕ) (s t : Pair) → t.1 ≡ [] → k ≡ t.0 → r ≡ key_lt k (past s) → r ≡ key_le (past t) (past s)
key_in_span r k s t point is e =
    e ∙ sym (key_le-next_key k (past s)) ∙ ap (λ (v : List ℕ). key_le v (past s)) (ap next_key is ∙ sym (past-point t point))

-- a range t ends no later than a single key that is not past its first, exactly where its end is the next key
range_in_key : (r : Bool) (s t : Pair) → s.1 ≡ [] → t.1 ≢ [] → IsSpan t → KeyUpTo s.0 t.0 → IsTrue r ↔ (t.1 ≡ next_key s.0) → r ≡ key_le (past t) (past s)
range_in_key r s t point range ok h is =
    same_from_decides r (key_le t.1 (next_key s.0)) is (forth, back) ∙ sym (λ i. key_le (past-range t range i) (past-point s point i))
  where
    forth : key_le t.1 (next_key s.0) ≡ true → t.1 ≡ next_key s.0
    forth e = KeyUpTo-next_key s.0 t.1 (KeyLess-up_to_less s.0 t.0 t.1 h (ok.ordered range)) e

    back : t.1 ≡ next_key s.0 → key_le t.1 (next_key s.0) ≡ true
    back e = subst (λ (v : List ℕ). KeyUpTo v (next_key s.0)) (sym e) (KeyUpTo-itself (next_key s.0))

moved : (r : Bool) {end end' key key' : List ℕ} → end ≡ end' → key ≡ key' → IsTrue r ↔ (end ≡ next_key key) → IsTrue r ↔ (end' ≡ next_key key')
moved r e k h = subst (λ (v : List ℕ × List ℕ). IsTrue r ↔ (v.0 ≡ next_key v.1)) (λ i. (e i, k i)) h

pub returns-in_default : goal.returns-in_default
returns-in_default c =
    key_in_span c.is_before_end.result c.key.result.now c.args.self.now c.args.other.now c.in_default.ensures.end c.key.ensures.key c.is_before_end.ensures

pub returns-in-None : goal.returns-in-None
returns-in-None c =
    let other = c.in-Some.ensures.end in
    range_in_key c.is_next.result c.args.self.now c.args.other.now c.in-None.ensures.end other.1 c.end.ensures.valid c.requires
    (moved c.is_next.result (c.bytes-in-None.ensures.bytes ∙ other.0) (c.bytes-in-None-2.ensures.bytes ∙ c.key-in-None.ensures.key) c.is_next.ensures)
