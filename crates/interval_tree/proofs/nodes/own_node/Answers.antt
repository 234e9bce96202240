use Rattle.std.proofs.Common.{◌≡◌, ℕ, suc, ◌≤◌, List, [], ◌∷◌, length, replicate, ap, sym, subst, ◌∙◌, inl, IsTrue, IsFalse, arith}
use Rattle.row_pool.specs.Trees.{Tree, tree_word, children, nil}
use Rattle.row_pool.specs.SeatView.{SeatView}
use Rattle.row_pool.specs.SeatState.{SeatState, OwnsOrReachesAs}
use Rattle.row_pool.specs.Layout.{IsContent}
use Rattle.row_pool.specs.Changes.{tree_of}
use Rattle.row_pool.specs.Chains.{IsChain}
use Rattle.row_pool.specs.Views.{Reaches}
use Rattle.latch_item.specs.Items.{word}
use Rattle.latch_item.specs.Shape.{Stands}
use Rattle.interval_tree.specs.Held.{OwnsNode, Spends}
use Rattle.interval_tree.proofs.Rows.{content-low}
use Rattle.interval_tree.proofs.Frames.{spends-others}
use Rattle.interval_tree.proofs.Copying.{ref-up, plan-most}
use Rattle.interval_tree.proofs.Fresh.{Owned, node-kind, owned-in-place, owned-copy}
use Rattle.interval_tree.proofs.nodes.own_node.Goals as goal
use Rattle.interval_tree.proofs.nodes.own_node.Goals.{After-own_if_single, After-read-n, After-drop_ref, After-copy_node}

-- the tree's kind is a node's
kind-of : (v : SeatView) (row : ℕ) → (h : ℕ) × (xs : List Tree) × (tree_word (tree_of row v.refs) ≡ suc row)
    × Stands h (tree_of row v.refs) xs → (2 ≤ word (tree_of row v.refs) 1) × (word (tree_of row v.refs) 1 ≤ 3)
kind-of v row (h, xs, ref, node) = let t : Tree = tree_of row v.refs in node-kind h (word t 1) (word t 2) (children t) xs node

readable : (v w : SeatView) (row u : ℕ) → w ≡ v → tree_word (tree_of row v.refs) ≡ suc row → 2 ≤ word (tree_of row v.refs) 1 → 1 ≤ u → u ≤ 2
    → OwnsOrReachesAs (λ kind. IsContent kind u) w row
readable v w row u is ref low one two = subst (λ z. OwnsOrReachesAs (λ kind. IsContent kind u) z row) (sym is)
    (inl (tree_of row v.refs, ref-up v row ref, ref, content-low (word (tree_of row v.refs) 1) u low one two))

-- what a load says of the node's tree
said : (v w : SeatView) (row u x : ℕ) → w ≡ v → tree_word (tree_of row v.refs) ≡ suc row → ((t : Tree) → Reaches w t → tree_word t ≡ suc row → x ≡ word t u)
    → x ≡ word (tree_of row v.refs) u
said v w row u x is ref f = f (tree_of row v.refs) (subst (λ z. Reaches z (tree_of row v.refs)) (sym is) (ref-up v row ref)) ref

-- the steps until the fresh row is taken change nothing that the seat knows
quiet : (c : After-read-n) → IsFalse c.own_if_single.result → c.read-n.new.seat.view ≡ c.args.seat.now.view
quiet c shared = ap (λ (z : SeatState). z.view) (c.read-n.ensures.same ∙ c.read-kind.ensures.same) ∙ c.own_if_single.ensures.shared shared

in-place : (c : After-own_if_single) → IsTrue c.own_if_single.result
    → Owned c.args.seat.now.view c.own_if_single.new.seat.view c.args.row c.args.row (tree_of c.args.row c.args.seat.now.view.refs) c.args.chain.now
    c.args.chain.now
in-place c single =
    let (h, xs, ref, node) = c.requires.node in
    owned-in-place c.args.seat.now.view c.own_if_single.new.seat.view c.args.row c.args.chain.now c.known.ensures ref
    (kind-of c.args.seat.now.view c.args.row c.requires.node) (c.own_if_single.ensures.owned single ref)

pub returns-then-own_if_single-clause-node : goal.returns-then-own_if_single-clause-node
returns-then-own_if_single-clause-node c =
    (in-place (goal.at.returns-then-own_if_single-clause-node c).After-own_if_single c.if-own_if_single.true).node

pub returns-then-own_if_single-clause-spends : goal.returns-then-own_if_single-clause-spends
returns-then-own_if_single-clause-spends c =
    (in-place (goal.at.returns-then-own_if_single-clause-spends c).After-own_if_single c.if-own_if_single.true).spends

pub read-kind-requires-clause-reachable : goal.read-kind-requires-clause-reachable
read-kind-requires-clause-reachable c =
    let (h, xs, ref, node) = c.requires.node in
    readable c.args.seat.now.view c.own_if_single.new.seat.view c.args.row 1 (c.own_if_single.ensures.shared c.if-own_if_single.false) ref
    ((kind-of c.args.seat.now.view c.args.row c.requires.node).0) (omega arith) (omega arith)

pub read-n-requires-clause-reachable : goal.read-n-requires-clause-reachable
read-n-requires-clause-reachable c =
    let (h, xs, ref, node) = c.requires.node in
    readable c.args.seat.now.view c.read-kind.new.seat.view c.args.row 2
    (ap (λ (z : SeatState). z.view) c.read-kind.ensures.same ∙ c.own_if_single.ensures.shared c.if-own_if_single.false) ref
    ((kind-of c.args.seat.now.view c.args.row c.requires.node).0) (omega arith) (omega arith)

-- what the two loads say
kind-said : (c : After-read-n) → IsFalse c.own_if_single.result → c.read-kind.result ≡ word (tree_of c.args.row c.args.seat.now.view.refs) 1
kind-said c shared =
    let (h, xs, ref, node) = c.requires.node in
    said c.args.seat.now.view c.own_if_single.new.seat.view c.args.row 1 c.read-kind.result (c.own_if_single.ensures.shared shared) ref c.read-kind.ensures.tree

count-said : (c : After-read-n) → IsFalse c.own_if_single.result → c.read-n.result ≡ word (tree_of c.args.row c.args.seat.now.view.refs) 2
count-said c shared =
    let (h, xs, ref, node) = c.requires.node in
    said c.args.seat.now.view c.read-kind.new.seat.view c.args.row 2 c.read-n.result
    (ap (λ (z : SeatState). z.view) c.read-kind.ensures.same ∙ c.own_if_single.ensures.shared shared) ref c.read-n.ensures.tree

pub fresh_node-copy-requires-clause-kind : goal.fresh_node-copy-requires-clause-kind
fresh_node-copy-requires-clause-kind c =
    let k = kind-said (goal.at.fresh_node-copy-requires-clause-kind c).After-read-n c.if-own_if_single.false in
    let a = kind-of c.args.seat.now.view c.args.row c.requires.node in (omega arith, omega arith)

pub overflow_cast-n : goal.overflow_cast-n
overflow_cast-n c =
    let (h, xs, ref, node) = c.requires.node in
    let k = count-said (goal.at.overflow_cast-n c).After-read-n c.if-own_if_single.false in
    let a = plan-most c.args.seat.now.view c.args.row c.read-n.result h xs node k in omega arith

pub copy_node-requires-clause-node : goal.copy_node-requires-clause-node
copy_node-requires-clause-node c =
    let (h, xs, ref, node) = c.requires.node in
    let at = (goal.at.copy_node-requires-clause-node c).After-read-n in let no_one = c.if-own_if_single.false in
    let row = c.args.row in
    let same = c.fresh_node-copy.ensures.same.1 ∙ ap (λ (z : SeatView). z.refs) (quiet at no_one) in (
      h,
      xs,
      subst (λ ts. tree_word (tree_of row ts) ≡ suc row) (sym same) ref,
      subst (λ ts. Stands h (tree_of row ts) xs) (sym same) node,
      kind-said at no_one ∙ ap (λ ts. word (tree_of row ts) 1) (sym same),
      count-said at no_one ∙ ap (λ ts. word (tree_of row ts) 2) (sym same),
      c.fresh_node-copy.ensures.node,
      (let a = ap length same in let b = c.requires.few in omega arith),
    )

-- the chain once the copy stands
copy-chain : (c : After-copy_node) → IsFalse c.own_if_single.result → (rs : List ℕ) → IsChain c.args.seat.now.view c.args.chain.now rs
    → Spends 1 [] (c.fresh_node-copy.result ∷ []) rs c.args.seat.now.view c.fresh_node-copy.new.seat.view c.fresh_node-copy.new.chain
copy-chain c shared rs h =
    let same = ap (λ (z : SeatState). z.view) (c.read-n.ensures.same ∙ c.read-kind.ensures.same) ∙ c.own_if_single.ensures.shared shared in
    subst (λ z. (rs : List ℕ) → IsChain z c.args.chain.now rs
    → Spends 1 [] (c.fresh_node-copy.result ∷ []) rs z c.fresh_node-copy.new.seat.view c.fresh_node-copy.new.chain) same c.fresh_node-copy.ensures.spends rs h

pub drop_ref-requires-clause-chain : goal.drop_ref-requires-clause-chain
drop_ref-requires-clause-chain c =
    let (rs, h, many) = c.requires.room in
    let a = copy-chain (goal.at.drop_ref-requires-clause-chain c).After-copy_node c.if-own_if_single.false rs h in
    let b = spends-others c.fresh_node-copy.new.seat.view c.copy_node.new.seat.view c.fresh_node-copy.result c.read-kind.result c.read-n.result
    (replicate 64 nil) c.fresh_node-copy.new.chain [] a.left c.fresh_node-copy.ensures.node c.copy_node.ensures.others a.chain in
    (b.left, b.chain)

copied : (c : After-drop_ref) → IsFalse c.own_if_single.result
    → Owned c.args.seat.now.view c.drop_ref.new.seat.view c.args.row c.fresh_node-copy.result (tree_of c.args.row c.args.seat.now.view.refs) c.args.chain.now
    c.drop_ref.new.chain
copied c shared =
    let v = c.args.seat.now.view in let f = c.fresh_node-copy.new.seat.view in let l = c.copy_node.new.seat.view in
    let row = c.args.row in let copy = c.fresh_node-copy.result in let t : Tree = tree_of row v.refs in
    let same = ap (λ (z : SeatState). z.view) (c.read-n.ensures.same ∙ c.read-kind.ensures.same) ∙ c.own_if_single.ensures.shared shared in
    let refs = c.fresh_node-copy.ensures.same.1 ∙ ap (λ (z : SeatView). z.refs) same in
    let spends = subst (λ z. (rs : List ℕ) → IsChain z c.args.chain.now rs → Spends 1 [] (copy ∷ []) rs z f c.fresh_node-copy.new.chain) same
    c.fresh_node-copy.ensures.spends in
    let o = subst (λ ts. OwnsNode l copy c.read-kind.result c.read-n.result (children (tree_of row ts))) refs c.copy_node.ensures.node in
    let z = owned-copy v f l c.drop_ref.new.seat.view row copy c.read-kind.result c.read-n.result (children t) c.args.chain.now c.fresh_node-copy.new.chain
    c.drop_ref.new.chain refs spends c.fresh_node-copy.ensures.node c.copy_node.ensures.others c.copy_node.ensures.same.1 o c.drop_ref.ensures.refs
    c.drop_ref.ensures.chain in
    record {
      node = subst (λ (k : ℕ × ℕ). OwnsNode c.drop_ref.new.seat.view copy k.0 k.1 (children t)) (λ i. (kind i, count i)) z.0;
      refs = z.1.0;
      spends = z.1.1;
    }
  where
    kind : c.read-kind.result ≡ word (tree_of c.args.row c.args.seat.now.view.refs) 1
    kind = let (h, xs, ref, node) = c.requires.node in
        said c.args.seat.now.view c.own_if_single.new.seat.view c.args.row 1 c.read-kind.result (c.own_if_single.ensures.shared shared) ref
        c.read-kind.ensures.tree

    count : c.read-n.result ≡ word (tree_of c.args.row c.args.seat.now.view.refs) 2
    count = let (h, xs, ref, node) = c.requires.node in
        said c.args.seat.now.view c.read-kind.new.seat.view c.args.row 2 c.read-n.result
        (ap (λ (z : SeatState). z.view) c.read-kind.ensures.same ∙ c.own_if_single.ensures.shared shared) ref c.read-n.ensures.tree

pub returns-clause-node : goal.returns-clause-node
returns-clause-node c = (copied (goal.at.returns-clause-node c).After-drop_ref c.if-own_if_single.false).node

pub returns-clause-spends : goal.returns-clause-spends
returns-clause-spends c = (copied (goal.at.returns-clause-spends c).After-drop_ref c.if-own_if_single.false).spends
