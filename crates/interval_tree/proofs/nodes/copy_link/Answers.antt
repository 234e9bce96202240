use Rattle.std.proofs.Common.{◌+◌, ◌∙◌, subst, arith}
use Rattle.interval_tree.proofs.Copying.{Follows, copy-reach, hold-reach, copy-swap, CopiedLinks, copied-some, copied-none}
use Rattle.interval_tree.proofs.nodes.copy_link.Goals as goal
use Rattle.interval_tree.proofs.nodes.copy_link.Goals.{After-swap}

pub follow-requires-clause-reachable : goal.follow-requires-clause-reachable
follow-requires-clause-reachable c = copy-reach c.args.seat.now.view c.args.row c.args.copy c.args.k 1 (omega arith) c.requires.links

pub hold-requires-clause-reach : goal.hold-requires-clause-reach
hold-requires-clause-reach c = hold-reach c.args.seat.now.view c.follow.new.seat.view c.args.row c.args.copy c.args.k c.in-Some.target c.requires.links
    c.follow.ensures.same.1 (subst (Follows c.args.seat.now.view c.args.row (3 + c.args.k)) c.in-Some.is c.follow.ensures.tree)

pub swap-requires-clause-link : goal.swap-requires-clause-link
swap-requires-clause-link c = copy-swap c.args.seat.now.view c.follow.new.seat.view c.hold.new.seat.view c.args.row c.args.copy c.args.k c.in-Some.target
    c.requires.links c.follow.ensures.same.1 (subst (Follows c.args.seat.now.view c.args.row (3 + c.args.k)) c.in-Some.is c.follow.ensures.tree)
    c.hold.ensures.view

copied : (c : After-swap) → CopiedLinks c.args.seat.now.view c.swap.new.seat.view c.args.row c.args.copy c.args.k 1
copied c = copied-some c.args.seat.now.view c.follow.new.seat.view c.hold.new.seat.view c.swap.new.seat.view c.args.row c.args.copy c.args.k c.in-Some.target
    c.swap.result c.requires.links c.follow.ensures.same.1
    (subst (Follows c.args.seat.now.view c.args.row (3 + c.args.k)) c.in-Some.is c.follow.ensures.tree) c.hold.ensures.view c.swap.ensures.node
    c.swap.ensures.others

pub returns-in-Some-clause-same : goal.returns-in-Some-clause-same
returns-in-Some-clause-same c = (
  c.swap.ensures.table ∙ c.hold.ensures.same.0 ∙ c.follow.ensures.same.0,
  (copied (goal.at.returns-in-Some-clause-same c).After-swap).refs,
)

pub returns-in-Some-clause-node : goal.returns-in-Some-clause-node
returns-in-Some-clause-node c = (copied (goal.at.returns-in-Some-clause-node c).After-swap).node

pub returns-in-Some-clause-others : goal.returns-in-Some-clause-others
returns-in-Some-clause-others c = (copied (goal.at.returns-in-Some-clause-others c).After-swap).others

pub returns-in_default-clause-node : goal.returns-in_default-clause-node
returns-in_default-clause-node c =
    let (kind, n, us, ms, vs, ws, xs, ref, low, high, e, len, many, most, o, at, few) = c.requires.links in
    copied-none c.args.seat.now.view c.follow.new.seat.view c.args.row c.args.copy c.args.k ref low high c.follow.ensures.same.1
    (subst (Follows c.args.seat.now.view c.args.row (3 + c.args.k)) c.in_default.is c.follow.ensures.tree)
