use Rattle.std.proofs.Common.{◌≡◌, ℕ, suc, List, [], ◌∷◌, length, replicate, ap, refl, ◌∙◌, arith}
use Rattle.row_pool.specs.Trees.{Tree, nil, tree_word}
use Rattle.row_pool.specs.SeatView.{SeatView}
use Rattle.interval_tree.specs.Held.{OwnsNode}
use Rattle.interval_tree.proofs.Rows.{back-cons}
use Rattle.interval_tree.proofs.Frames.{others-join, owns-same, spends-join, spends-others, spends-leaves}
use Rattle.interval_tree.proofs.Copying.{held-others}
use Rattle.interval_tree.proofs.Leading.{up-first}
use Rattle.interval_tree.proofs.Linking.{shallow}
use Rattle.interval_tree.proofs.Growing.{planted-leaf, planted-tree}
use Rattle.interval_tree.proofs.tree.plant.Goals as goal
use Rattle.interval_tree.proofs.tree.plant.Goals.{After-fresh_node-leaf, After-hold, After-swap-2}

-- the item stays the newest reference
newest : (c : After-fresh_node-leaf) → (it : Tree) (rest : List Tree) → c.args.seat.now.view.refs ≡ it ∷ rest → c.fresh_node-leaf.new.seat.view.refs ≡ it ∷ rest
newest c it rest refs = c.fresh_node-leaf.ensures.same.1 ∙ refs

pub hold-requires-clause-reach : goal.hold-requires-clause-reach
hold-requires-clause-reach c =
    let (it, rest, refs, here, latch, few) = c.requires.item in
    (it, up-first c.fresh_node-leaf.new.seat.view it rest (newest (goal.at.hold-requires-clause-reach c).After-fresh_node-leaf it rest refs), here)

pub hold-requires-clause-room : goal.hold-requires-clause-room
hold-requires-clause-room c =
    let (it, rest, refs, here, latch, few) = c.requires.item in
    let a = ap length (newest (goal.at.hold-requires-clause-room c).After-fresh_node-leaf it rest refs) in omega arith

-- the leaf with its first link, and with both
pub record Leaf (h a b : SeatView) (leaf item : ℕ) (it : Tree) (rest : List Tree) : Type 0 where
  pub fresh : OwnsNode h leaf 2 1 (replicate 64 nil)
  pub held : h.refs ≡ it ∷ it ∷ rest
  pub first : OwnsNode a leaf 2 1 (it ∷ replicate 63 nil)
  pub newest : a.refs ≡ it ∷ rest
  pub owns : OwnsNode b leaf 2 1 (it ∷ it ∷ replicate 62 nil)
  pub refs : b.refs ≡ rest

fresh : (c : After-hold) → (it : Tree) (rest : List Tree) → c.args.seat.now.view.refs ≡ it ∷ rest → tree_word it ≡ suc c.args.item
    → OwnsNode c.hold.new.seat.view c.fresh_node-leaf.result 2 1 (replicate 64 nil) × (c.hold.new.seat.view.refs ≡ it ∷ it ∷ rest)
fresh c it rest refs here =
    let f = c.fresh_node-leaf.new.seat.view in
    let move = c.hold.ensures.view it here (up-first f it rest (c.fresh_node-leaf.ensures.same.1 ∙ refs)) in (
      owns-same f c.hold.new.seat.view c.fresh_node-leaf.result 2 1 (replicate 64 nil) (ap (λ (z : SeatView). z.owned) move) c.fresh_node-leaf.ensures.node,
      ap (λ (z : SeatView). z.refs) move ∙ ap (λ l. it ∷ l) (c.fresh_node-leaf.ensures.same.1 ∙ refs),
    )

pub swap-requires-clause-link : goal.swap-requires-clause-link
swap-requires-clause-link c =
    let (it, rest, refs, here, latch, few) = c.requires.item in
    let (o, r) = fresh (goal.at.swap-requires-clause-link c).After-hold it rest refs here in
    (2, 1, [], replicate 63 nil, nil, it, it ∷ rest, o, refl, omega arith, r ∙ back-cons it (it ∷ rest) c.args.item here, omega arith, omega arith)

planted : (c : After-swap-2) → (it : Tree) (rest : List Tree) → c.args.seat.now.view.refs ≡ it ∷ rest → tree_word it ≡ suc c.args.item
    → Leaf c.hold.new.seat.view c.swap.new.seat.view c.swap-2.new.seat.view c.fresh_node-leaf.result c.args.item it rest
planted c it rest refs here =
    let f = c.fresh_node-leaf.new.seat.view in
    let move = c.hold.ensures.view it here (up-first f it rest (c.fresh_node-leaf.ensures.same.1 ∙ refs)) in
    let o = owns-same f c.hold.new.seat.view c.fresh_node-leaf.result 2 1 (replicate 64 nil) (ap (λ (z : SeatView). z.owned) move)
    c.fresh_node-leaf.ensures.node in
    let r = ap (λ (z : SeatView). z.refs) move ∙ ap (λ l. it ∷ l) (c.fresh_node-leaf.ensures.same.1 ∙ refs) in
    let a = c.swap.ensures.node 2 1 [] (replicate 63 nil) nil it (it ∷ rest) o refl (r ∙ back-cons it (it ∷ rest) c.args.item here) (omega arith) in
    let b = c.swap-2.ensures.node 2 1 (it ∷ []) (replicate 62 nil) nil it rest a.1 refl (a.2 ∙ back-cons it rest c.args.item here) (omega arith) in
    record { fresh = o; held = r; first = a.1; newest = a.2; owns = b.1; refs = b.2 }

pub swap-requires-2-clause-link : goal.swap-requires-2-clause-link
swap-requires-2-clause-link c =
    let (it, rest, refs, here, latch, few) = c.requires.item in
    let (o, r) = fresh (goal.at.swap-requires-2-clause-link c).After-hold it rest refs here in
    let a = c.swap.ensures.node 2 1 [] (replicate 63 nil) nil it (it ∷ rest) o refl (r ∙ back-cons it (it ∷ rest) c.args.item here) (omega arith) in
    (2, 1, it ∷ [], replicate 62 nil, nil, it, rest, a.1, refl, omega arith, a.2 ∙ back-cons it rest c.args.item here, omega arith, omega arith)

pub publish_node-requires-clause-node : goal.publish_node-requires-clause-node
publish_node-requires-clause-node c =
    let (it, rest, refs, here, latch, few) = c.requires.item in
    let l = planted (goal.at.publish_node-requires-clause-node c).After-swap-2 it rest refs here in
    (2, 1, it ∷ it ∷ replicate 62 nil, l.owns, shallow 0 3 2 1 (it ∷ it ∷ replicate 62 nil) (it ∷ []) (omega arith) (planted-leaf it latch))

pub publish_node-requires-clause-room : goal.publish_node-requires-clause-room
publish_node-requires-clause-room c =
    let (it, rest, refs, here, latch, few) = c.requires.item in
    let l = planted (goal.at.publish_node-requires-clause-room c).After-swap-2 it rest refs here in let a = ap length l.refs in omega arith

pub returns-clause-tree : goal.returns-clause-tree
returns-clause-tree c = λ it rest refs here latch.
    let l = planted (goal.at.returns-clause-tree c).After-swap-2 it rest refs here in
    planted-tree c.swap-2.new.seat.view c.publish_node.new.seat.view c.fresh_node-leaf.result it rest latch l.refs
    (c.publish_node.ensures.node 2 1 (it ∷ it ∷ replicate 62 nil) l.owns)

pub returns-clause-spends : goal.returns-clause-spends
returns-clause-spends c = λ rs h.
    let (it, rest, refs, here, latch, few) = c.requires.item in
    let l = planted (goal.at.returns-clause-spends c).After-swap-2 it rest refs here in
    let leaf = c.fresh_node-leaf.result in let k = c.fresh_node-leaf.new.chain in
    let v = c.args.seat.now.view in let f = c.fresh_node-leaf.new.seat.view in let b = c.swap-2.new.seat.view in let w = c.publish_node.new.seat.view in
    let move = c.hold.ensures.view it here (up-first f it rest (c.fresh_node-leaf.ensures.same.1 ∙ refs)) in
    let others = others-join f c.hold.new.seat.view b leaf (held-others f c.hold.new.seat.view it leaf move)
    (others-join c.hold.new.seat.view c.swap.new.seat.view b leaf c.swap.ensures.others c.swap-2.ensures.others) in
    let s1 = c.fresh_node-leaf.ensures.spends rs h in
    let s2 = spends-others f b leaf 2 1 (replicate 64 nil) k [] s1.left c.fresh_node-leaf.ensures.node others s1.chain in
    let g = c.publish_node.ensures.node 2 1 (it ∷ it ∷ replicate 62 nil) l.owns in
    let s3 = spends-leaves b w leaf 2 1 (it ∷ it ∷ replicate 62 nil) k [] s2.left l.owns g.others g.gone s2.chain in
    spends-join 1 0 [] (leaf ∷ []) [] rs v f w k k s1 (spends-join 0 0 (leaf ∷ []) (leaf ∷ []) [] s1.left f b w k k s2 s3)
