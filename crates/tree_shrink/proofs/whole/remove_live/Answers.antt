use Rattle.std.proofs.Common.{[], arith, ◌*◌, ◌+◌, ◌∷◌}
use Rattle.row_pool.specs.Changes.{without_tree}
use Rattle.interval_tree.proofs.Frames.{spends-join, spends-more}
use Rattle.interval_tree.proofs.Linking.{room-less}
use Rattle.tree_shrink.proofs.whole.remove_live.Goals as goal

pub take_item-node-requires-clause-room : goal.take_item-node-requires-clause-room
take_item-node-requires-clause-room c =
    let (xs, it, l) = c.requires.tree in
    room-less (c.args.level * 2 + 1) 5 c.args.seat.now.view c.args.chain.now (let a = l.low in omega arith) c.requires.room

pub settle_root-requires-clause-left : goal.settle_root-requires-clause-left
settle_root-requires-clause-left c =
    let (xs, it, l) = c.requires.tree in (xs, it, without_tree c.args.root c.args.seat.now.view.refs, c.take_item-node.ensures.left xs it l)

pub settle_root-requires-clause-chain : goal.settle_root-requires-clause-chain
settle_root-requires-clause-chain c = let (rs, g, many) = c.requires.room in let s = c.take_item-node.ensures.spends rs g in (s.left, s.chain)

pub returns-clause-standing : goal.returns-clause-standing
returns-clause-standing c = λ xs it l.
    c.settle_root.ensures.standing xs it (without_tree c.args.root c.args.seat.now.view.refs) (c.take_item-node.ensures.left xs it l)

pub returns-clause-spends : goal.returns-clause-spends
returns-clause-spends c = λ rs g.
    let (xs, it, l) = c.requires.tree in let node = c.take_item-node.result in let s = c.take_item-node.ensures.spends rs g in
    spends-more (c.args.level * 2 + 1 + 0) 5 [] [] rs c.args.seat.now.view c.settle_root.new.seat.view c.settle_root.new.chain (let a = l.low in omega arith)
    (spends-join (c.args.level * 2 + 1) 0 [] (node ∷ []) [] rs c.args.seat.now.view c.take_item-node.new.seat.view c.settle_root.new.seat.view
    c.take_item-node.new.chain c.settle_root.new.chain s (c.settle_root.ensures.spends s.left s.chain))
