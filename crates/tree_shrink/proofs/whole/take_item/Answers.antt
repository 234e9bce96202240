use Rattle.std.proofs.Common.{List, [], ap, arith, refl, ℕ, ◌*◌, ◌+◌, ◌∙◌, ◌∷◌}
use Rattle.std.specs.Prelude.{Some}
use Rattle.row_pool.proofs.NewestRef.{tree_of-first, without_tree-first}
use Rattle.row_pool.specs.Chains.{IsChain}
use Rattle.row_pool.specs.Changes.{tree_of, without_tree}
use Rattle.row_pool.specs.Trees.{Tree, children, tree_word}
use Rattle.latch_item.specs.Items.{word}
use Rattle.interval_tree.proofs.Frames.{owns-grows}
use Rattle.interval_tree.proofs.Linking.{room-after, room-less}
use Rattle.tree_shrink.proofs.Bench.{Bench, bench-call, bench-chain, bench-grows, bench-more, bench-start, node_at}
use Rattle.tree_shrink.proofs.Reaching.{leaving-aimed, left-of-root, stood-over}
use Rattle.tree_shrink.specs.Stages.{Aimed, Leaving, Shrunk}
use Rattle.tree_shrink.proofs.whole.take_item.Goals as goal
use Rattle.tree_shrink.proofs.whole.take_item.Goals.{After-own_node-node, After-remove_owned}

pub own_node-node-requires-clause-node : goal.own_node-node-requires-clause-node
own_node-node-requires-clause-node c = let (xs, it, l) = c.requires.tree in (c.args.level, xs, l.here, l.stands)

pub own_node-node-requires-clause-few : goal.own_node-node-requires-clause-few
own_node-node-requires-clause-few c = let (xs, it, l) = c.requires.tree in let a = l.few in omega arith

pub own_node-node-requires-clause-room : goal.own_node-node-requires-clause-room
own_node-node-requires-clause-room c = room-less 1 (c.args.level * 2 + 1) c.args.seat.now.view c.args.chain.now (omega arith) c.requires.room

aimed : (c : After-own_node-node) → (xs : List Tree) (it : Tree) → Leaving c.args.level c.args.seat.now.view c.args.root c.args.item xs it
    → Aimed c.args.level c.own_node-node.new.seat.view c.own_node-node.result (Some c.args.item) (word (tree_of c.args.root c.args.seat.now.view.refs) 1)
    (word (tree_of c.args.root c.args.seat.now.view.refs) 2) (children (tree_of c.args.root c.args.seat.now.view.refs)) xs it
    (without_tree c.args.root c.args.seat.now.view.refs)
aimed c xs it l = leaving-aimed c.args.level c.args.seat.now.view c.own_node-node.new.seat.view c.args.root c.args.item c.own_node-node.result xs it l
    c.own_node-node.ensures.node c.own_node-node.ensures.same.1

pub remove_owned-requires-clause-low : goal.remove_owned-requires-clause-low
remove_owned-requires-clause-low c = let (xs, it, l) = c.requires.tree in l.low

pub remove_owned-requires-clause-aimed : goal.remove_owned-requires-clause-aimed
remove_owned-requires-clause-aimed c =
    let (xs, it, l) = c.requires.tree in let t : Tree = tree_of c.args.root c.args.seat.now.view.refs in (
      word t 1,
      word t 2,
      children t,
      xs,
      it,
      without_tree c.args.root c.args.seat.now.view.refs,
      aimed (goal.at.remove_owned-requires-clause-aimed c).After-own_node-node xs it l,
    )

pub remove_owned-requires-clause-room : goal.remove_owned-requires-clause-room
remove_owned-requires-clause-room c = room-after 1 (c.args.level * 2) [] (c.own_node-node.result ∷ []) c.args.seat.now.view c.own_node-node.new.seat.view
    c.args.chain.now c.own_node-node.new.chain c.own_node-node.ensures.spends
    (room-less (1 + c.args.level * 2) (c.args.level * 2 + 1) c.args.seat.now.view c.args.chain.now (omega arith) c.requires.room)

shrunk : (c : After-remove_owned) → (xs : List Tree) (it : Tree) → Leaving c.args.level c.args.seat.now.view c.args.root c.args.item xs it
    → Aimed c.args.level c.own_node-node.new.seat.view c.own_node-node.result (Some c.args.item) (word (tree_of c.args.root c.args.seat.now.view.refs) 1)
    (word (tree_of c.args.root c.args.seat.now.view.refs) 2) (children (tree_of c.args.root c.args.seat.now.view.refs)) xs it
    (without_tree c.args.root c.args.seat.now.view.refs)
    → Shrunk c.args.level c.remove_owned.new.seat.view c.own_node-node.result (word (tree_of c.args.root c.args.seat.now.view.refs) 1)
    (word (tree_of c.args.root c.args.seat.now.view.refs) 2) xs it c.remove_owned.result (without_tree c.args.root c.args.seat.now.view.refs)
shrunk c xs it l a = let t : Tree = tree_of c.args.root c.args.seat.now.view.refs in
    c.remove_owned.ensures.shrunk (word t 1) (word t 2) (children t) xs it (without_tree c.args.root c.args.seat.now.view.refs) a

-- the bench until the item is out
until-gone : (c : After-remove_owned) → (xs : List Tree) (it : Tree) → Leaving c.args.level c.args.seat.now.view c.args.root c.args.item xs it
    → (s : Shrunk c.args.level c.remove_owned.new.seat.view c.own_node-node.result (word (tree_of c.args.root c.args.seat.now.view.refs) 1)
    (word (tree_of c.args.root c.args.seat.now.view.refs) 2) xs it c.remove_owned.result (without_tree c.args.root c.args.seat.now.view.refs))
    → (rs : List ℕ) → IsChain c.args.seat.now.view c.args.chain.now rs
    → Bench c.args.seat.now.view [] rs (0 + 1 + c.args.level * 2) c.remove_owned.new.seat.view c.remove_owned.new.chain
    (node_at c.own_node-node.result (word (tree_of c.args.root c.args.seat.now.view.refs) 1) s.many s.stood.us ∷ [])
    (it ∷ without_tree c.args.root c.args.seat.now.view.refs)
until-gone c xs it l s rs g =
    let v = c.args.seat.now.view in let node = c.own_node-node.result in let t : Tree = tree_of c.args.root v.refs in
    let b = bench-call [] (node_at node (word t 1) (word t 2) (children t) ∷ []) [] (bench-start v c.args.chain.now rs [] v.refs g tt tt refl)
    c.own_node-node.ensures.spends (c.own_node-node.ensures.node, tt) (refl, tt) c.own_node-node.ensures.same.1 in
    bench-call (node_at node (word t 1) (word t 2) (children t) ∷ []) (node_at node (word t 1) s.many s.stood.us ∷ []) [] b c.remove_owned.ensures.spends
    (s.stood.owns, tt) (refl, tt) s.refs

pub drop_ref-requires-clause-reference : goal.drop_ref-requires-clause-reference
drop_ref-requires-clause-reference c =
    let (xs, it, l) = c.requires.tree in let at = goal.at.drop_ref-requires-clause-reference c in
    let s = shrunk at.After-remove_owned xs it l (aimed at.After-own_node-node xs it l) in
    let R : List Tree = without_tree c.args.root c.args.seat.now.view.refs in
    ap (λ ts. tree_word (tree_of c.args.item ts)) s.refs ∙ ap tree_word (tree_of-first c.args.item it R l.is) ∙ l.is

pub drop_ref-requires-clause-chain : goal.drop_ref-requires-clause-chain
drop_ref-requires-clause-chain c =
    let (xs, it, l) = c.requires.tree in let (rs, g, many) = c.requires.room in let at = goal.at.drop_ref-requires-clause-chain c in
    bench-chain (until-gone at.After-remove_owned xs it l (shrunk at.After-remove_owned xs it l (aimed at.After-own_node-node xs it l)) rs g)

pub returns-clause-left : goal.returns-clause-left
returns-clause-left c = λ xs it l.
    let at = goal.at.returns-clause-left c in let v = c.args.seat.now.view in let b = c.remove_owned.new.seat.view in let w = c.drop_ref.new.seat.view in
    let a = aimed at.After-own_node-node xs it l in let s = shrunk at.After-remove_owned xs it l a in
    let g = c.drop_ref.ensures.chain in let t : Tree = tree_of c.args.root v.refs in let node = c.own_node-node.result in
    left-of-root c.args.level v c.own_node-node.new.seat.view b w c.args.root c.args.item node (word t 1) (word t 2) c.remove_owned.result (children t) xs it
    l a
    s (stood-over (λ us o. owns-grows g.more b w node (word t 1) s.many us g.owns_more o) s.stood)
    (c.drop_ref.ensures.refs ∙ ap (without_tree c.args.item) s.refs ∙ without_tree-first c.args.item it (without_tree c.args.root v.refs) l.is)

pub returns-clause-spends : goal.returns-clause-spends
returns-clause-spends c = λ rs g.
    let (xs, it, l) = c.requires.tree in let at = goal.at.returns-clause-spends c in let v = c.args.seat.now.view in
    let s = shrunk at.After-remove_owned xs it l (aimed at.After-own_node-node xs it l) in
    let b = bench-grows (until-gone at.After-remove_owned xs it l s rs g) c.drop_ref.ensures.chain
    (c.drop_ref.ensures.refs ∙ ap (without_tree c.args.item) s.refs ∙ without_tree-first c.args.item it (without_tree c.args.root v.refs) l.is) in
    (bench-more (c.args.level * 2 + 1) (omega arith) b).spends
