use Rattle.std.proofs.Common.{Some, None, subst}
use Rattle.interval_tree.proofs.Copying.{Follows}
use Rattle.interval_tree.proofs.Greatest.{top-reach, followed, greatest-of, no-top}
use Rattle.interval_tree.proofs.nodes.top_of.Goals as goal

pub follow-requires-clause-reachable : goal.follow-requires-clause-reachable
follow-requires-clause-reachable c =
    let (h, t, ys, up, here, k) = c.requires.child in top-reach c.args.seat.now.view h t ys c.args.child up here k

pub unreachable-requires : goal.unreachable-requires
unreachable-requires c =
    let (h, t, ys, up, here, k) = c.requires.child in
    no-top c.args.seat.now.view ys (followed c.args.seat.now.view h t ys c.args.child None up here k
    (subst (Follows c.args.seat.now.view c.args.child 3) c.in_default.is c.follow.ensures.tree))

pub returns-clause-top : goal.returns-clause-top
returns-clause-top c = λ h t ys up here k.
    greatest-of c.args.seat.now.view ys c.in-Some.top (followed c.args.seat.now.view h t ys c.args.child (Some c.in-Some.top) up here k
    (subst (Follows c.args.seat.now.view c.args.child 3) c.in-Some.is c.follow.ensures.tree))
