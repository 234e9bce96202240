use Rattle.std.proofs.Common.{List, [], ap, arith, length, refl, subst, sym, ℕ, ◌++◌, ◌-◌, ◌∙◌, ◌∷◌, ◌≡◌}
use Rattle.row_pool.proofs.NewestRef.{without_tree-first}
use Rattle.row_pool.specs.Chains.{IsChain}
use Rattle.row_pool.specs.Changes.{without_tree}
use Rattle.row_pool.specs.Trees.{Tree, children, nil, tree_word}
use Rattle.latch_item.specs.Items.{word}
use Rattle.latch_item.specs.Shape.{Kid, Node, Stands}
use Rattle.interval_tree.proofs.Frames.{apart-one, owns-kept, spends-add, spends-join, spends-others}
use Rattle.interval_tree.proofs.Linking.{room-after}
use Rattle.interval_tree.specs.Held.{OwnsNode, Spends}
use Rattle.tree_shrink.proofs.Gaps.{TakenOut, taken-out}
use Rattle.tree_shrink.proofs.links.take_child.Goals as goal
use Rattle.tree_shrink.proofs.links.take_child.Goals.{After-swap-link}

pub swap-link-requires-clause-link : goal.swap-link-requires-clause-link
swap-link-requires-clause-link c =
    let (h, kind, n, us, vs, u, ys, o, at, most, kid, few) = c.requires.child in
    (kind, n, us, vs, u, nil, c.args.seat.now.view.refs, o, at, most, refl, refl, omega arith)

-- the child is the newest reference
out : (c : After-swap-link) → (h kind n : ℕ) (us vs : List Tree) (u : Tree) (ys : List Tree) → OwnsNode c.args.seat.now.view c.args.row kind n (us ++ u ∷ vs)
    → length us ≡ c.args.k → Kid (Node h) u ys
    → TakenOut h c.swap-link.new.seat.view c.args.row kind n c.swap-link.result us vs u ys c.args.seat.now.view.refs
out c h kind n us vs u ys o at kid = taken-out h c.args.seat.now.view c.swap-link.new.seat.view c.args.row c.args.k c.swap-link.result kind n us vs u ys o at
    kid
    c.swap-link.ensures.node

-- the chain until then
until-out : (c : After-swap-link) → (rs : List ℕ) → IsChain c.args.seat.now.view c.args.chain.now rs
    → Spends 0 (c.args.row ∷ []) (c.args.row ∷ []) rs c.args.seat.now.view c.swap-link.new.seat.view c.args.chain.now
until-out c rs g =
    let (h, kind, n, us, vs, u, ys, o, at, most, kid, few) = c.requires.child in
    spends-others c.args.seat.now.view c.swap-link.new.seat.view c.args.row kind n (us ++ u ∷ vs) c.args.chain.now [] rs o c.swap-link.ensures.others g

pub overflow_sub-link : goal.overflow_sub-link
overflow_sub-link c =
    let (h, kind, n, us, vs, u, ys, o, at, most, kid, few) = c.requires.child in
    (out (goal.at.overflow_sub-link c).After-swap-link h kind n us vs u ys o at kid).low

pub own_node-requires-clause-node : goal.own_node-requires-clause-node
own_node-requires-clause-node c =
    let (h, kind, n, us, vs, u, ys, o, at, most, kid, few) = c.requires.child in
    let z = out (goal.at.own_node-requires-clause-node c).After-swap-link h kind n us vs u ys o at kid in
    (h, ys, ap tree_word z.tree ∙ z.child_is, subst (λ t. Stands h t ys) (sym z.tree) kid.node)

pub own_node-requires-clause-few : goal.own_node-requires-clause-few
own_node-requires-clause-few c =
    let (h, kind, n, us, vs, u, ys, o, at, most, kid, few) = c.requires.child in
    let a = ap length (out (goal.at.own_node-requires-clause-few c).After-swap-link h kind n us vs u ys o at kid).back in omega arith

pub own_node-requires-clause-room : goal.own_node-requires-clause-room
own_node-requires-clause-room c = room-after 0 1 (c.args.row ∷ []) (c.args.row ∷ []) c.args.seat.now.view c.swap-link.new.seat.view c.args.chain.now
    c.args.chain.now (until-out (goal.at.own_node-requires-clause-room c).After-swap-link) c.requires.room

pub returns-clause-same : goal.returns-clause-same
returns-clause-same c =
    let (h, kind, n, us, vs, u, ys, o, at, most, kid, few) = c.requires.child in
    let z = out (goal.at.returns-clause-same c).After-swap-link h kind n us vs u ys o at kid in
    let v = c.args.seat.now.view in let link : ℕ = c.swap-link.result - 1 in (
      c.own_node.ensures.same.0 ∙ c.swap-link.ensures.table,
      c.own_node.ensures.same.1 ∙ ap (without_tree link) z.back ∙ without_tree-first link u v.refs z.child_is,
    )

pub returns-clause-taken : goal.returns-clause-taken
returns-clause-taken c = λ h kind n us vs u ys o at kid.
    let at2 = (goal.at.returns-clause-taken c).After-swap-link in
    let z = out at2 h kind n us vs u ys o at kid in
    let row = c.args.row in let w = c.swap-link.new.seat.view in let x = c.own_node.new.seat.view in let child = c.own_node.result in
    let (rs, g, many) = c.requires.room in let s = until-out at2 rs g in
    let k = owns-kept 1 [] (child ∷ []) s.left w x c.args.chain.now c.own_node.new.chain row kind n (us ++ nil ∷ vs) s.chain
    (c.own_node.ensures.spends s.left s.chain) z.owns refl in (
      k.owns,
      subst (λ (t : Tree). OwnsNode x child (word t 1) (word t 2) (children t)) z.tree c.own_node.ensures.node,
      (λ e. apart-one row child k.apart (sym e)),
    )

pub returns-clause-spends : goal.returns-clause-spends
returns-clause-spends c = λ rs g.
    let row = c.args.row in let v = c.args.seat.now.view in let w = c.swap-link.new.seat.view in let x = c.own_node.new.seat.view in
    let child = c.own_node.result in let d = c.own_node.new.chain in
    let s = until-out (goal.at.returns-clause-spends c).After-swap-link rs g in
    spends-join 0 1 (row ∷ []) (row ∷ []) (row ∷ child ∷ []) rs v w x c.args.chain.now d s
    (spends-add row 1 [] (child ∷ []) s.left w x d (c.own_node.ensures.spends s.left s.chain))
