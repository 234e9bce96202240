use Rattle.std.proofs.Common.{List, arith, inl, length, subst, suc, sym, ℕ, ◌++◌, ◌∷◌, ◌≡◌}
use Rattle.std.proofs.lemmas.Bool.{ltb-false, ltb-true}
use Rattle.row_pool.specs.Trees.{Tree, children, tree_word}
use Rattle.row_pool.specs.Views.{Reaches}
use Rattle.latch_item.specs.Items.{word}
use Rattle.latch_item.specs.Shape.{Kid, Node}
use Rattle.interval_tree.proofs.Fresh.{node-kind}
use Rattle.interval_tree.proofs.Rows.{content-count, up-link}
use Rattle.interval_tree.specs.Held.{OwnsNode}
use Rattle.tree_shrink.proofs.mend.is_rich.Goals as goal
use Rattle.tree_shrink.proofs.mend.is_rich.Goals.{After-row_at-child, After-read}

pub row_at-child-requires-clause-link : goal.row_at-child-requires-clause-link
row_at-child-requires-clause-link c =
    let (h, kind, n, us, vs, u, ys, o, at, most, kid) = c.requires.child in (kind, n, us, vs, u, o, at, most, let a = kid.here in omega arith)

-- the child is reached
reached : (c : After-row_at-child) → (kind n : ℕ) (us vs : List Tree) (u : Tree) → OwnsNode c.args.seat.now.view c.args.row kind n (us ++ u ∷ vs)
    → length us ≡ c.args.k → Reaches c.row_at-child.new.seat.view u × (tree_word u ≡ suc c.row_at-child.result)
reached c kind n us vs u o at = (
  subst (λ v. Reaches v u) (sym c.row_at-child.ensures.same.1) (up-link c.args.seat.now.view c.args.row kind n us vs u c.args.k o at),
  c.row_at-child.ensures.row kind n us vs u o at,
)

pub read-requires-clause-reachable : goal.read-requires-clause-reachable
read-requires-clause-reachable c =
    let (h, kind, n, us, vs, u, ys, o, at, most, kid) = c.requires.child in
    let z = reached (goal.at.read-requires-clause-reachable c).After-row_at-child kind n us vs u o at in
    inl (u, z.0, z.1, content-count (word u 1) (node-kind h (word u 1) (word u 2) (children u) ys kid.node).0)

number : (c : After-read) → (h kind n : ℕ) (us vs : List Tree) (u : Tree) (ys : List Tree) → OwnsNode c.args.seat.now.view c.args.row kind n (us ++ u ∷ vs)
    → length us ≡ c.args.k → Kid (Node h) u ys → c.read.result ≡ word u 2
number c h kind n us vs u ys o at kid = c.read.ensures.tree u
    (subst (λ v. Reaches v u) (sym c.row_at-child.ensures.same.1) (up-link c.args.seat.now.view c.args.row kind n us vs u c.args.k o at))
    (c.row_at-child.ensures.row kind n us vs u o at)

pub returns-clause-rich : goal.returns-clause-rich
returns-clause-rich c = λ yes h kind n us vs u ys o at kid.
    let e = number (goal.at.returns-clause-rich c).After-read h kind n us vs u ys o at kid in let b = ltb-true 15 c.read.result yes in omega arith

pub returns-clause-poor : goal.returns-clause-poor
returns-clause-poor c = λ no h kind n us vs u ys o at kid.
    let e = number (goal.at.returns-clause-poor c).After-read h kind n us vs u ys o at kid in let b = ltb-false 15 c.read.result no in omega arith
