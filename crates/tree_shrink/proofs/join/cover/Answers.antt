use Rattle.std.proofs.Common.{List, [], ap, arith, length, refl, subst, sym, ℕ, ◌-◌, ◌∙◌, ◌∷◌, ◌≡◌, ◌≢◌}
use Rattle.row_pool.specs.Chains.{IsChain}
use Rattle.row_pool.specs.SeatView.{SeatView}
use Rattle.row_pool.specs.Trees.{Tree, tree_word}
use Rattle.latch_item.specs.Items.{IsLatch}
use Rattle.interval_tree.proofs.Frames.{away-one, owns-kept, spends-join}
use Rattle.interval_tree.proofs.Leading.{newest}
use Rattle.interval_tree.proofs.Rows.{up-link}
use Rattle.interval_tree.specs.Held.{OwnsNode}
use Rattle.interval_tree.specs.Nodes.{Raised}
use Rattle.interval_tree.specs.States.{ReachesItem}
use Rattle.tree_shrink.proofs.Borders.{raised-latch}
use Rattle.tree_shrink.specs.Steps.{SpendsAll}
use Rattle.tree_shrink.proofs.join.cover.Goals as goal
use Rattle.tree_shrink.proofs.join.cover.Goals.{After-raise_top, After-row_at-top}

pub overflow_sub-item : goal.overflow_sub-item
overflow_sub-item c =
    let (kind, n, sort, k, us, vs, a, b, m, R, o, o2, fa, fb, fm, is, refs, apart, few) = c.requires.nodes in let z = fm.here in omega arith

pub raise_top-requires-clause-node : goal.raise_top-requires-clause-node
raise_top-requires-clause-node c =
    let (kind, n, sort, k, us, vs, a, b, m, R, o, o2, fa, fb, fm, is, refs, apart, few) = c.requires.nodes in
    (kind, n, a, us, m, o, fa, newest c.args.seat.now.view m R (c.args.item - 1) refs (let z = fm.here in omega arith) fm)

pub raise_top-requires-clause-few : goal.raise_top-requires-clause-few
raise_top-requires-clause-few c =
    let (kind, n, sort, k, us, vs, a, b, m, R, o, o2, fa, fb, fm, is, refs, apart, few) = c.requires.nodes in let z = ap length refs in omega arith

-- the left node with the item, and the right node
record Once (v w : SeatView) (left right kind n sort k : ℕ) (us vs : List Tree) (a b m : Tree) : Type 0 where
  new : Tree
  raised : Raised m a new
  owns : OwnsNode w left kind n (new ∷ us)
  right_owns : OwnsNode w right sort k (b ∷ vs)
  fits : IsLatch new

once : (c : After-raise_top) → (kind n sort k : ℕ) (us vs : List Tree) (a b m : Tree) (R : List Tree)
    → OwnsNode c.args.seat.now.view c.args.left kind n (a ∷ us)
    → OwnsNode c.args.seat.now.view c.args.right sort k (b ∷ vs) → IsLatch a → IsLatch m → tree_word m ≡ c.args.item → c.args.seat.now.view.refs ≡ m ∷ R
    → c.args.left ≢ c.args.right
    → Once c.args.seat.now.view c.raise_top.new.seat.view c.args.left c.args.right kind n sort k us vs a b m
once c kind n sort k us vs a b m R o o2 fa fm is refs apart =
    let v = c.args.seat.now.view in let w = c.raise_top.new.seat.view in
    let (new, raised, owns) = c.raise_top.ensures.node kind n a us m o fa (newest v m R (c.args.item - 1) refs (let z = fm.here in omega arith) fm) in
    let (rs, g) = c.requires.chain in
    record {
      new = new;
      raised = raised;
      owns = owns;
      right_owns = (owns-kept 0 (c.args.left ∷ []) (c.args.left ∷ []) rs v w c.args.chain.now c.raise_top.new.chain c.args.right sort k (b ∷ vs) g
          (c.raise_top.ensures.spends rs g) o2 (away-one c.args.right c.args.left (λ e. apart (sym e)))).owns;
      fits = raised-latch m a new raised fm fa;
    }

pub row_at-top-requires-clause-link : goal.row_at-top-requires-clause-link
row_at-top-requires-clause-link c =
    let (kind, n, sort, k, us, vs, a, b, m, R, o, o2, fa, fb, fm, is, refs, apart, few) = c.requires.nodes in
    let z = once (goal.at.row_at-top-requires-clause-link c).After-raise_top kind n sort k us vs a b m R o o2 fa fm is refs apart in
    (sort, k, [], vs, b, z.right_owns, refl, omega arith, let y = fb.here in omega arith)

-- the item of the greatest bound of the right node
top-at : (c : After-row_at-top) → (sort k : ℕ) (b : Tree) (vs : List Tree) → OwnsNode c.raise_top.new.seat.view c.args.right sort k (b ∷ vs) → IsLatch b
    → ReachesItem c.row_at-top.new.seat.view b c.row_at-top.result
top-at c sort k b vs o fits = subst (λ v. ReachesItem v b c.row_at-top.result) (sym c.row_at-top.ensures.same.1)
    (up-link c.raise_top.new.seat.view c.args.right sort k [] vs b 0 o refl, c.row_at-top.ensures.row sort k [] vs b o refl, fits)

pub raise_top-requires-2-clause-node : goal.raise_top-requires-2-clause-node
raise_top-requires-2-clause-node c =
    let (kind, n, sort, k, us, vs, a, b, m, R, o, o2, fa, fb, fm, is, refs, apart, few) = c.requires.nodes in
    let at = goal.at.raise_top-requires-2-clause-node c in
    let z = once at.After-raise_top kind n sort k us vs a b m R o o2 fa fm is refs apart in (
      kind,
      n,
      z.new,
      us,
      b,
      subst (λ v. OwnsNode v c.args.left kind n (z.new ∷ us)) (sym c.row_at-top.ensures.same.1) z.owns,
      z.fits,
      top-at at.After-row_at-top sort k b vs z.right_owns fb,
    )

pub raise_top-requires-2-clause-few : goal.raise_top-requires-2-clause-few
raise_top-requires-2-clause-few c =
    let (kind, n, sort, k, us, vs, a, b, m, R, o, o2, fa, fb, fm, is, refs, apart, few) = c.requires.nodes in
    let z = ap length (ap (λ (v : SeatView). v.refs) c.row_at-top.ensures.same.1 ∙ c.raise_top.ensures.same.1 ∙ refs) in omega arith

pub raise_top-requires-2-clause-chain : goal.raise_top-requires-2-clause-chain
raise_top-requires-2-clause-chain c =
    let (rs, g) = c.requires.chain in let s = c.raise_top.ensures.spends rs g in
    (s.left, subst (λ v. IsChain v c.raise_top.new.chain s.left) (sym c.row_at-top.ensures.same.1) s.chain)

pub returns-clause-same : goal.returns-clause-same
returns-clause-same c = (
  c.raise_top-2.ensures.same.0 ∙ c.row_at-top.ensures.same.0 ∙ c.raise_top.ensures.same.0,
  c.raise_top-2.ensures.same.1 ∙ ap (λ (v : SeatView). v.refs) c.row_at-top.ensures.same.1 ∙ c.raise_top.ensures.same.1,
)

pub returns-clause-nodes : goal.returns-clause-nodes
returns-clause-nodes c = λ kind n sort k us vs a b m R o o2 fa fb fm is refs apart.
    let at = goal.at.returns-clause-nodes c in
    let z = once at.After-raise_top kind n sort k us vs a b m R o o2 fa fm is refs apart in
    let (last, raised, owns) = c.raise_top-2.ensures.node kind n z.new us b
    (subst (λ v. OwnsNode v c.args.left kind n (z.new ∷ us)) (sym c.row_at-top.ensures.same.1) z.owns) z.fits (top-at at.After-row_at-top sort k b vs
    z.right_owns fb) in
    (z.new, last, z.raised, raised, owns)

pub returns-clause-spends : goal.returns-clause-spends
returns-clause-spends c = λ rs g.
    let left = c.args.left in let s = c.raise_top.ensures.spends rs g in
    spends-join 0 0 (left ∷ []) (left ∷ []) (left ∷ []) rs c.args.seat.now.view c.raise_top.new.seat.view c.raise_top-2.new.seat.view c.raise_top.new.chain
    c.raise_top-2.new.chain s (subst (λ v. SpendsAll 0 (left ∷ []) (left ∷ []) v c.raise_top-2.new.seat.view c.raise_top.new.chain c.raise_top-2.new.chain)
    c.row_at-top.ensures.same.1 c.raise_top-2.ensures.spends s.left s.chain)
