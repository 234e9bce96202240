use Rattle.std.proofs.Common.{ap, replicate, subst, sym, ◌++◌, ◌+◌, ◌-◌, ◌∙◌, ◌∷◌, ◌≡◌}
use Rattle.row_pool.specs.SeatState.{SeatState}
use Rattle.row_pool.specs.Trees.{nil}
use Rattle.tree_shrink.proofs.Gaps.{children-close, leaf-closes}
use Rattle.tree_shrink.specs.Steps.{CanClose, ClosesChildren}
use Rattle.tree_shrink.proofs.links.close_children.Goals as goal
use Rattle.tree_shrink.proofs.links.close_children.Goals.{After-kind_of}

pub kind_of-requires-clause-node : goal.kind_of-requires-clause-node
kind_of-requires-clause-node c =
    let (h, kind, us, ds, zss, free, is, p, o, at, many, low, most, few) = c.requires.gap in (kind, c.args.n, us ++ nil ∷ (ds ++ replicate free nil), o)

-- reading the kind changes nothing
quiet : (c : After-kind_of) → c.kind_of.new.seat.view ≡ c.args.seat.now.view
quiet c = ap (λ (s : SeatState). s.view) c.kind_of.ensures.same

pub close_gap-requires-clause-gap : goal.close_gap-requires-clause-gap
close_gap-requires-clause-gap c = subst (λ v. CanClose v c.args.row (33 + c.args.i) (c.args.n - 1 - c.args.i))
    (sym (quiet (goal.at.close_gap-requires-clause-gap c).After-kind_of)) (children-close c.args.seat.now.view c.args.row c.args.i c.args.n c.requires.gap)

pub returns-else-kind_of-eq-INNER-clause-closed : goal.returns-else-kind_of-eq-INNER-clause-closed
returns-else-kind_of-eq-INNER-clause-closed c = subst (λ w. ClosesChildren c.args.seat.now.view w c.args.row c.args.i c.args.n)
    (sym (quiet (goal.at.returns-else-kind_of-eq-INNER-clause-closed c).After-kind_of)) (leaf-closes c.args.seat.now.view c.args.row c.args.i c.args.n
    (λ kind m us o e. c.if-kind_of-eq-INNER.false (c.kind_of.ensures.kind kind m us o ∙ e)))
