use Rattle.std.proofs.Common.{ap, ◌∙◌}
use Rattle.row_pool.specs.Trees.{tree_word}
use Rattle.row_pool.specs.Changes.{relinked}
use Rattle.interval_tree.proofs.Rows.{link-part, target-is, room-nil, swapped, others-swapped}
use Rattle.interval_tree.proofs.nodes.swap.Goals as goal

pub swap_link-requires-clause-link : goal.swap_link-requires-clause-link
swap_link-requires-clause-link c =
    let (kind, n, us, vs, u, t, R, o, len, low, refs, is, few) = c.requires.link in
    (o.entry, u, c.args.k, link-part c.args.seat.now.view c.args.row kind n us vs u c.args.k o len)

pub swap_link-requires-clause-target : goal.swap_link-requires-clause-target
swap_link-requires-clause-target c =
    let (kind, n, us, vs, u, t, R, o, len, low, refs, is, few) = c.requires.link in
    ap tree_word (target-is c.args.goal t R c.args.seat.now.view.refs refs is) ∙ is

pub swap_link-requires-clause-room : goal.swap_link-requires-clause-room
swap_link-requires-clause-room c = λ empty.
    let (kind, n, us, vs, u, t, R, o, len, low, refs, is, few) = c.requires.link in room-nil t R c.args.seat.now.view.refs refs (is ∙ empty) few

pub returns-clause-node : goal.returns-clause-node
returns-clause-node c = swapped c.args.seat.now.view c.swap_link.new.seat.view c.args.row c.args.k c.args.goal c.swap_link.result
    (λ e u j at. c.swap_link.ensures.view e u j at)

pub returns-clause-others : goal.returns-clause-others
returns-clause-others c =
    let (kind, n, us, vs, u, t, R, o, len, low, refs, is, few) = c.requires.link in
    let v = c.args.seat.now.view in
    let s = c.swap_link.ensures.view o.entry u c.args.k (link-part v c.args.row kind n us vs u c.args.k o len) in
    others-swapped v c.swap_link.new.seat.view c.args.row c.args.k o.entry u t
    (s.1 ∙ ap (λ x. relinked c.args.row o.entry c.args.k u x v) (target-is c.args.goal t R v.refs refs is))
