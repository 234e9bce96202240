use Rattle.std.proofs.Common.{inl, ◌≤◌, arith}
use Rattle.row_pool.specs.Trees.{depth}
use Rattle.interval_tree.proofs.Depths.{each-get}
use Rattle.interval_tree.proofs.Rows.{went-live}
use Rattle.interval_tree.proofs.nodes.publish_node.Goals as goal

pub publish-requires-clause-whole : goal.publish-requires-clause-whole
publish-requires-clause-whole c =
    let (kind, n, us, o, shallow) = c.requires.node in
    (o.entry, us, o.has, (let a = o.is_kind in let b = o.low in omega arith), o.links, (λ k u at. each-get (λ u. depth u ≤ 3) us k u shallow at), inl o.apart)

pub returns-clause-node : goal.returns-clause-node
returns-clause-node c = λ kind n us o.
    went-live c.args.seat.now.view c.publish.new.seat.view c.args.row kind n us o (c.publish.ensures.view o.entry us o.has o.apart o.links)
