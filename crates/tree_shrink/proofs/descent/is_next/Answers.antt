use Rattle.std.proofs.Common.{subst, sym}
use Rattle.tree_shrink.specs.Stages.{Aim, Target}
use Rattle.tree_shrink.proofs.descent.is_next.Goals as goal

pub is_item_at-requires-clause-state : goal.is_item_at-requires-clause-state
is_item_at-requires-clause-state c = let (h, n, child, xs, ps, ys, qs, R, it, o, t) = c.requires.state in (h, n, child, xs, ps, ys, qs, R, o)

pub returns-in-None-clause-below : goal.returns-in-None-clause-below
returns-in-None-clause-below c = λ no h n child xs ps ys qs R it o t.
    subst (λ g. Aim g it ys) (sym c.in-None.is) (subst (λ g. Target g it ys qs) c.in-None.is t).0

pub returns-in-Some-clause-next : goal.returns-in-Some-clause-next
returns-in-Some-clause-next c = λ yes h n child xs ps ys qs R it o t.
    c.is_item_at.ensures.next yes h n child xs ps ys qs R it o (subst (λ g. Target g it ys qs) c.in-Some.is t)

pub returns-in-Some-clause-below : goal.returns-in-Some-clause-below
returns-in-Some-clause-below c = λ no h n child xs ps ys qs R it o t.
    subst (λ g. Aim g it ys) (sym c.in-Some.is)
    (c.is_item_at.ensures.below no h n child xs ps ys qs R it o (subst (λ g. Target g it ys qs) c.in-Some.is t))
