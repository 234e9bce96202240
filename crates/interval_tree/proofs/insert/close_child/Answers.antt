use Rattle.interval_tree.proofs.Linking.{closing, closed}
use Rattle.interval_tree.proofs.insert.close_child.Goals as goal

pub link_node-requires-clause-link : goal.link_node-requires-clause-link
link_node-requires-clause-link c =
    let (h, kind, n, xs, it, rest, low, f) = c.requires.filled in
    closing h c.args.seat.now.view c.args.row kind n c.args.child c.args.j xs it rest low c.requires.low f

pub returns-clause-whole : goal.returns-clause-whole
returns-clause-whole c = λ h kind n xs it rest low f.
    closed h c.args.seat.now.view c.link_node.new.seat.view c.args.row kind n c.args.child c.args.j xs it rest f c.link_node.ensures.linked
