use Rattle.std.proofs.Common.{◌≡◌, ◌↔◌, List, [], ◌∷◌, ◌++◌, ℕ, Bool, IsTrue, nat_eq, sym, ◌∙◌, ap}
use Rattle.std.proofs.lemmas.List.{append_cancel_right}
use Rattle.std.specs.Cmp.Lexicographic.{pointwise, bytes_decides}
use Rattle.span_key.specs.Spans.{next_key}
use Rattle.span_key.proofs.spans.is_next.Goals as goal

-- a list whose last byte is 0 is the next of a key exactly where the rest is that key
next_by_front : (r : Bool) (end front key : List ℕ) → end ≡ front ++ 0 ∷ [] → r ≡ pointwise nat_eq front key → IsTrue r ↔ (end ≡ next_key key)
next_by_front r end front key split e =
    let same = bytes_decides front key in (
      λ h. split ∙ ap next_key (same.0 (sym e ∙ h)),
      λ is. e ∙ same.1 (append_cancel_right front key (0 ∷ []) (sym split ∙ is)),
    )

pub returns-then-last-eq0 : goal.returns-then-last-eq0
returns-then-last-eq0 c =
    next_by_front c.eq.result c.args.end.now c.in-Some.front.now c.args.key.now
    (c.in-Some.ensures.cases.0 ∙ ap (λ (v : ℕ). c.in-Some.front.now ++ v ∷ []) c.if-last-eq0.true)
    c.eq.ensures
