use Rattle.interval_tree.proofs.Linking.{link-swap, linked-node, link-spends}
use Rattle.interval_tree.proofs.insert.link_node.Goals as goal

pub publish_node-requires-clause-node : goal.publish_node-requires-clause-node
publish_node-requires-clause-node c =
    let (kind, n, us, vs, sort, m, ws, o, at, low, oc, shallow, apart, few) = c.requires.link in (sort, m, ws, oc, shallow)

pub publish_node-requires-clause-room : goal.publish_node-requires-clause-room
publish_node-requires-clause-room c = let (kind, n, us, vs, sort, m, ws, o, at, low, oc, shallow, apart, few) = c.requires.link in few

pub swap-requires-clause-link : goal.swap-requires-clause-link
swap-requires-clause-link c =
    let (kind, n, us, vs, sort, m, ws, o, at, low, oc, shallow, apart, few) = c.requires.link in
    link-swap c.args.seat.now.view c.publish_node.new.seat.view c.args.row c.args.k c.args.child kind n sort m us vs ws o at low apart few
    (c.publish_node.ensures.node sort m ws oc)

pub returns-clause-linked : goal.returns-clause-linked
returns-clause-linked c = λ kind n us vs sort m ws o at oc apart.
    linked-node c.args.seat.now.view c.publish_node.new.seat.view c.swap.new.seat.view c.args.row c.args.k c.args.child kind n sort m c.swap.result us vs ws o
    at
    apart (c.publish_node.ensures.node sort m ws oc) c.swap.ensures.node

pub returns-clause-spends : goal.returns-clause-spends
returns-clause-spends c = λ rs chain h.
    let (kind, n, us, vs, sort, m, ws, o, at, low, oc, shallow, apart, few) = c.requires.link in
    link-spends c.args.seat.now.view c.publish_node.new.seat.view c.swap.new.seat.view c.args.row c.args.child kind n sort m _ ws rs chain o oc apart
    (c.publish_node.ensures.node sort m ws oc) c.swap.ensures.others h
