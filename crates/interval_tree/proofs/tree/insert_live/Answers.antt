use Rattle.std.proofs.Common.{◌≤◌, ◌+◌, ◌*◌, ℕ, List, [], ◌∷◌, length, ap, ◌∙◌, arith}
use Rattle.row_pool.specs.Trees.{Tree}
use Rattle.row_pool.specs.SeatView.{SeatView}
use Rattle.row_pool.specs.Changes.{without_tree}
use Rattle.row_pool.specs.Chains.{IsChain}
use Rattle.row_pool.proofs.Sums.{without_tree-length}
use Rattle.interval_tree.specs.Held.{Spends}
use Rattle.interval_tree.specs.States.{RootNode, Coming, Ready, Grown}
use Rattle.interval_tree.proofs.Frames.{spends-join, spends-leaves, spends-more}
use Rattle.interval_tree.proofs.Linking.{room-after, room-less, shallow}
use Rattle.interval_tree.proofs.Growing.{coming-node, coming-refs, owned-root, root-ready, stands-up}
use Rattle.interval_tree.proofs.tree.insert_live.Goals as goal
use Rattle.interval_tree.proofs.tree.insert_live.Goals.{After-own_node-node, After-roomy_root-top, After-insert_owned}

pub own_node-node-requires-clause-node : goal.own_node-node-requires-clause-node
own_node-node-requires-clause-node c =
    let (xs, it, rest, p) = c.requires.tree in coming-node c.args.level c.args.seat.now.view c.args.root c.args.item xs it rest p

pub own_node-node-requires-clause-few : goal.own_node-node-requires-clause-few
own_node-node-requires-clause-few c = let (xs, it, rest, p) = c.requires.tree in let a = ap length p.refs in let b = p.few in omega arith

pub own_node-node-requires-clause-room : goal.own_node-node-requires-clause-room
own_node-node-requires-clause-room c = room-less 1 7 c.args.seat.now.view c.args.chain.now (omega arith) c.requires.room

owned : (c : After-own_node-node) → (xs : List Tree) (it : Tree) (rest : List Tree)
    → Coming c.args.level c.args.seat.now.view c.args.root c.args.item xs it rest
    → RootNode c.args.level c.own_node-node.new.seat.view c.own_node-node.result xs
owned c xs it rest p = owned-root c.args.level c.args.seat.now.view c.own_node-node.new.seat.view c.args.root c.args.item c.own_node-node.result xs it rest p
    c.own_node-node.ensures.node

pub roomy_root-top-requires-clause-node : goal.roomy_root-top-requires-clause-node
roomy_root-top-requires-clause-node c =
    let (xs, it, rest, p) = c.requires.tree in
    (xs, owned (goal.at.roomy_root-top-requires-clause-node c).After-own_node-node xs it rest p, p.low, p.many, p.sorted)

pub roomy_root-top-requires-clause-few : goal.roomy_root-top-requires-clause-few
roomy_root-top-requires-clause-few c =
    let (xs, it, rest, p) = c.requires.tree in
    let a = ap length (c.own_node-node.ensures.same.1 ∙ coming-refs c.args.level c.args.seat.now.view c.args.root c.args.item xs it rest p) in
    let r = without_tree-length c.args.root rest in let b = p.few in omega arith

pub roomy_root-top-requires-clause-room : goal.roomy_root-top-requires-clause-room
roomy_root-top-requires-clause-room c =
    room-after 1 2 [] (c.own_node-node.result ∷ []) c.args.seat.now.view c.own_node-node.new.seat.view c.args.chain.now c.own_node-node.new.chain
    c.own_node-node.ensures.spends (room-less 3 7 c.args.seat.now.view c.args.chain.now (omega arith) c.requires.room)

-- the root that has room, ready for the item
pub record Rooted (level : ℕ) (b : SeatView) (top item : ℕ) (xs : List Tree) (it : Tree) (rest : List Tree) : Type 0 where
  pub root : RootNode level b top xs
  pub ready : Ready level b top item root.kind root.many root.us xs it rest

rooted : (c : After-roomy_root-top) → (xs : List Tree) (it : Tree) (rest : List Tree)
    → Coming c.args.level c.args.seat.now.view c.args.root c.args.item xs it rest
    → Rooted c.roomy_root-top.result.1 c.roomy_root-top.new.seat.view c.roomy_root-top.result.0 c.args.item xs it (without_tree c.args.root rest)
rooted c xs it rest p =
    let (root, low) = c.roomy_root-top.ensures.node xs (owned-root c.args.level c.args.seat.now.view c.own_node-node.new.seat.view c.args.root c.args.item
    c.own_node-node.result xs it rest p c.own_node-node.ensures.node) p.low p.many p.sorted in
    record {
      root = root;
      ready = root-ready c.args.level c.roomy_root-top.result.1 c.args.seat.now.view c.roomy_root-top.new.seat.view c.args.root c.args.item
          c.roomy_root-top.result.0 xs it rest p root low (c.roomy_root-top.ensures.same.1 ∙ c.own_node-node.ensures.same.1);
    }

pub insert_owned-requires-clause-ready : goal.insert_owned-requires-clause-ready
insert_owned-requires-clause-ready c =
    let (xs, it, rest, p) = c.requires.tree in
    let r = rooted (goal.at.insert_owned-requires-clause-ready c).After-roomy_root-top xs it rest p in
    (r.root.kind, r.root.many, r.root.us, xs, it, without_tree c.args.root rest, r.ready)

until-rooted : (c : After-roomy_root-top) → (rs : List ℕ) → IsChain c.args.seat.now.view c.args.chain.now rs
    → Spends 3 [] (c.roomy_root-top.result.0 ∷ []) rs c.args.seat.now.view c.roomy_root-top.new.seat.view c.roomy_root-top.new.chain
until-rooted c rs h =
    let a = c.own_node-node.ensures.spends rs h in
    spends-join 1 2 [] (c.own_node-node.result ∷ []) (c.roomy_root-top.result.0 ∷ []) rs c.args.seat.now.view c.own_node-node.new.seat.view
    c.roomy_root-top.new.seat.view c.own_node-node.new.chain c.roomy_root-top.new.chain a (c.roomy_root-top.ensures.spends a.left a.chain)

pub insert_owned-requires-clause-room : goal.insert_owned-requires-clause-room
insert_owned-requires-clause-room c =
    room-less (c.roomy_root-top.result.1 * 2) 4 c.roomy_root-top.new.seat.view c.roomy_root-top.new.chain (let a = c.roomy_root-top.ensures.low in omega arith)
    (room-after 3 4 [] (c.roomy_root-top.result.0 ∷ []) c.args.seat.now.view c.roomy_root-top.new.seat.view c.args.chain.now c.roomy_root-top.new.chain
    (until-rooted (goal.at.insert_owned-requires-clause-room c).After-roomy_root-top) c.requires.room)

grown : (c : After-insert_owned) → (xs : List Tree) (it : Tree) (rest : List Tree)
    → Rooted c.roomy_root-top.result.1 c.roomy_root-top.new.seat.view c.roomy_root-top.result.0 c.args.item xs it (without_tree c.args.root rest)
    → (kind n : ℕ) × (1 ≤ n) × Grown c.roomy_root-top.result.1 c.insert_owned.new.seat.view c.roomy_root-top.result.0 kind n xs it
    (without_tree c.args.root rest)
grown c xs it rest r = (
  r.root.kind,
  r.root.many,
  r.root.some_items,
  c.insert_owned.ensures.grown r.root.kind r.root.many r.root.us xs it (without_tree c.args.root rest) r.ready,
)

pub publish_node-requires-clause-node : goal.publish_node-requires-clause-node
publish_node-requires-clause-node c =
    let (xs, it, rest, p) = c.requires.tree in
    let (kind, n, some_items, g) = grown (goal.at.publish_node-requires-clause-node c).After-insert_owned xs it rest
    (rooted (goal.at.publish_node-requires-clause-node c).After-roomy_root-top xs it rest p) in
    (kind, g.many, g.us, g.owns, shallow c.roomy_root-top.result.1 3 kind g.many g.us g.ys (let a = c.roomy_root-top.ensures.low in omega arith) g.node)

pub publish_node-requires-clause-room : goal.publish_node-requires-clause-room
publish_node-requires-clause-room c =
    let (xs, it, rest, p) = c.requires.tree in
    let (kind, n, some_items, g) = grown (goal.at.publish_node-requires-clause-room c).After-insert_owned xs it rest
    (rooted (goal.at.publish_node-requires-clause-room c).After-roomy_root-top xs it rest p) in
    let a = ap length g.refs in let r = without_tree-length c.args.root rest in let b = p.few in omega arith

pub returns-clause-tree : goal.returns-clause-tree
returns-clause-tree c = λ xs it rest p.
    let (kind, n, some_items, g) = grown (goal.at.returns-clause-tree c).After-insert_owned xs it rest
    (rooted (goal.at.returns-clause-tree c).After-roomy_root-top xs it rest p) in (
      g.ys,
      g.more,
      stands-up c.roomy_root-top.result.1 c.insert_owned.new.seat.view c.publish_node.new.seat.view c.roomy_root-top.result.0 kind n xs g.ys it
          (without_tree c.args.root rest) c.roomy_root-top.ensures.low some_items p.sorted g (c.publish_node.ensures.node kind g.many g.us g.owns),
    )

pub returns-clause-spends : goal.returns-clause-spends
returns-clause-spends c = λ rs h.
    let (xs, it, rest, p) = c.requires.tree in
    let (kind, n, some_items, g) = grown (goal.at.returns-clause-spends c).After-insert_owned xs it rest
    (rooted (goal.at.returns-clause-spends c).After-roomy_root-top xs it rest p) in
    let top = c.roomy_root-top.result.0 in let k : ℕ = c.roomy_root-top.result.1 * 2 in
    let b = c.roomy_root-top.new.seat.view in let d = c.insert_owned.new.seat.view in let w = c.publish_node.new.seat.view in
    let q = c.insert_owned.new.chain in
    let s1 = until-rooted (goal.at.returns-clause-spends c).After-roomy_root-top rs h in
    let s2 = c.insert_owned.ensures.spends s1.left s1.chain in
    let l = c.publish_node.ensures.node kind g.many g.us g.owns in
    let s3 = spends-leaves d w top kind g.many g.us q [] s2.left g.owns l.others l.gone s2.chain in
    spends-more (3 + (k + 0)) 7 [] [] rs c.args.seat.now.view w q (let a = c.roomy_root-top.ensures.low in omega arith)
    (spends-join 3 (k + 0) [] (top ∷ []) [] rs c.args.seat.now.view b w c.roomy_root-top.new.chain q s1
    (spends-join k 0 (top ∷ []) (top ∷ []) [] s1.left b d w q q s2 s3))
