use Rattle.std.proofs.Common.{ap, subst, sym, ◌++◌, ◌∙◌, ◌≡◌}
use Rattle.row_pool.specs.SeatState.{SeatState}
use Rattle.interval_tree.specs.Steps.{CanMove}
use Rattle.tree_shrink.proofs.Joining.{children-move, inner-moves, leaf-moves}
use Rattle.tree_shrink.specs.Steps.{MovesChildren}
use Rattle.tree_shrink.proofs.join.move_children.Goals as goal
use Rattle.tree_shrink.proofs.join.move_children.Goals.{After-kind_of}

pub kind_of-requires-clause-node : goal.kind_of-requires-clause-node
kind_of-requires-clause-node c =
    let (h, kind, m, sort, k, us, ms, vs, ws, xs, yss, is, p, o, at, many, o2, at2, apart, few) = c.requires.children in (kind, m, us ++ (ms ++ vs), o)

-- reading the kind changes nothing
quiet : (c : After-kind_of) → c.kind_of.new.seat.view ≡ c.args.seat.now.view
quiet c = ap (λ (s : SeatState). s.view) c.kind_of.ensures.same

pub move_links-requires-clause-links : goal.move_links-requires-clause-links
move_links-requires-clause-links c = subst (λ v. CanMove v c.args.from c.args.to 32 48 16) (sym (quiet (goal.at.move_links-requires-clause-links
    c).After-kind_of))
    (children-move c.args.seat.now.view c.args.from c.args.to c.requires.children)

pub returns-then-kind_of-eq-INNER-clause-moved : goal.returns-then-kind_of-eq-INNER-clause-moved
returns-then-kind_of-eq-INNER-clause-moved c = subst (λ v. MovesChildren v c.move_links.new.seat.view c.args.from c.args.to)
    (quiet (goal.at.returns-then-kind_of-eq-INNER-clause-moved c).After-kind_of)
    (inner-moves c.kind_of.new.seat.view c.move_links.new.seat.view c.args.from c.args.to c.move_links.ensures.moved)

pub returns-else-kind_of-eq-INNER-clause-moved : goal.returns-else-kind_of-eq-INNER-clause-moved
returns-else-kind_of-eq-INNER-clause-moved c = subst (λ w. MovesChildren c.args.seat.now.view w c.args.from c.args.to)
    (sym (quiet (goal.at.returns-else-kind_of-eq-INNER-clause-moved c).After-kind_of)) (leaf-moves c.args.seat.now.view c.args.from c.args.to
    (λ kind m us o e. c.if-kind_of-eq-INNER.false (c.kind_of.ensures.kind kind m us o ∙ e)))
