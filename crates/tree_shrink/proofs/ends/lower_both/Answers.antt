use Rattle.std.proofs.Common.{List, [], ap, arith, length, refl, subst, sym, ℕ, ◌∙◌, ◌∷◌, ◌≡◌}
use Rattle.row_pool.specs.Chains.{IsChain}
use Rattle.row_pool.specs.SeatView.{SeatView}
use Rattle.row_pool.specs.Trees.{Tree}
use Rattle.latch_item.specs.Items.{IsLatch}
use Rattle.interval_tree.proofs.Frames.{spends-same}
use Rattle.interval_tree.proofs.Rows.{up-link}
use Rattle.interval_tree.specs.Held.{OwnsNode}
use Rattle.interval_tree.specs.States.{ReachesItem}
use Rattle.tree_shrink.proofs.Lending.{carried-over, lower-top, old-long}
use Rattle.tree_shrink.specs.Steps.{SpendsAll}
use Rattle.tree_shrink.proofs.ends.lower_both.Goals as goal
use Rattle.tree_shrink.proofs.ends.lower_both.Goals.{After-row_at-top, After-may_have}

pub row_at-top-requires-clause-link : goal.row_at-top-requires-clause-link
row_at-top-requires-clause-link c =
    let (h, kind, n, top, us, ls, l, m, u, R, o) = c.requires.node in
    (kind, n, [], us, top, o.owns, refl, omega arith, let a = o.top_fits.here in omega arith)

top-at : (c : After-row_at-top) → (kind n : ℕ) (top : Tree) (us : List Tree) → OwnsNode c.args.seat.now.view c.args.row kind n (top ∷ us) → IsLatch top
    → ReachesItem c.row_at-top.new.seat.view top c.row_at-top.result
top-at c kind n top us o fits = subst (λ v. ReachesItem v top c.row_at-top.result) (sym c.row_at-top.ensures.same.1)
    (up-link c.args.seat.now.view c.args.row kind n [] us top 0 o refl, c.row_at-top.ensures.row kind n [] us top o refl, fits)

pub may_have-requires-clause-items : goal.may_have-requires-clause-items
may_have-requires-clause-items c =
    let (h, kind, n, top, us, ls, l, m, u, R, o) = c.requires.node in (
      h,
      top,
      m,
      u,
      l,
      R,
      top-at (goal.at.may_have-requires-clause-items c).After-row_at-top kind n top us o.owns o.top_fits,
      carried-over (ap (λ (v : SeatView). v.refs) c.row_at-top.ensures.same.1) o.carried,
    )

-- the two questions change nothing
quiet : (c : After-may_have) → c.may_have.new.seat.view ≡ c.args.seat.now.view
quiet c = c.may_have.ensures.same.1 ∙ c.row_at-top.ensures.same.1

pub set_top-requires-clause-node : goal.set_top-requires-clause-node
set_top-requires-clause-node c =
    let (h, kind, n, top, us, ls, l, m, u, R, o) = c.requires.node in (
      h,
      kind,
      n,
      top ∷ us,
      ls,
      subst (λ v. OwnsNode v c.args.row kind n (top ∷ us)) (sym (quiet (goal.at.set_top-requires-clause-node c).After-may_have)) o.owns,
      o.body,
      o.some_items,
      o.sorted,
    )

pub set_top-requires-clause-few : goal.set_top-requires-clause-few
set_top-requires-clause-few c =
    let (h, kind, n, top, us, ls, l, m, u, R, o) = c.requires.node in
    let a = ap length (ap (λ (v : SeatView). v.refs) (quiet (goal.at.set_top-requires-clause-few c).After-may_have) ∙ o.carried.refs) in
    let b = old-long u R in let d = o.few in omega arith

pub set_top-requires-clause-chain : goal.set_top-requires-clause-chain
set_top-requires-clause-chain c = subst (λ v. (rs : List ℕ) × IsChain v c.args.chain.now rs)
    (sym (quiet (goal.at.set_top-requires-clause-chain c).After-may_have)) c.requires.chain

pub returns-then-may_have-clause-same : goal.returns-then-may_have-clause-same
returns-then-may_have-clause-same c = (
  c.set_top.ensures.same.0 ∙ c.may_have.ensures.same.0 ∙ c.row_at-top.ensures.same.0,
  c.set_top.ensures.same.1 ∙ ap (λ (v : SeatView). v.refs) (quiet (goal.at.returns-then-may_have-clause-same c).After-may_have),
)

pub returns-then-may_have-clause-node : goal.returns-then-may_have-clause-node
returns-then-may_have-clause-node c = λ h kind n top us ls l m u R o.
    c.set_top.ensures.node h kind n (top ∷ us) ls
    (subst (λ v. OwnsNode v c.args.row kind n (top ∷ us)) (sym (quiet (goal.at.returns-then-may_have-clause-node c).After-may_have)) o.owns) o.body o.some_items
    o.sorted

pub returns-then-may_have-clause-spends : goal.returns-then-may_have-clause-spends
returns-then-may_have-clause-spends c = subst (λ v. SpendsAll 0 (c.args.row ∷ []) (c.args.row ∷ []) v c.set_top.new.seat.view c.args.chain.now
    c.set_top.new.chain)
    (quiet (goal.at.returns-then-may_have-clause-spends c).After-may_have) c.set_top.ensures.spends

pub returns-else-may_have-clause-same : goal.returns-else-may_have-clause-same
returns-else-may_have-clause-same c = (
  c.may_have.ensures.same.0 ∙ c.row_at-top.ensures.same.0,
  ap (λ (v : SeatView). v.refs) (quiet (goal.at.returns-else-may_have-clause-same c).After-may_have),
)

pub returns-else-may_have-clause-node : goal.returns-else-may_have-clause-node
returns-else-may_have-clause-node c = λ h kind n top us ls l m u R o. (
  top ∷ us,
  subst (λ v. OwnsNode v c.args.row kind n (top ∷ us)) (sym (quiet (goal.at.returns-else-may_have-clause-node c).After-may_have)) o.owns,
  lower-top o (c.may_have.ensures.not c.if-may_have.false h top m u l R
      (top-at (goal.at.returns-else-may_have-clause-node c).After-row_at-top kind n top us o.owns o.top_fits)
      (carried-over (ap (λ (v : SeatView). v.refs) c.row_at-top.ensures.same.1) o.carried)),
)

pub returns-else-may_have-clause-spends : goal.returns-else-may_have-clause-spends
returns-else-may_have-clause-spends c = λ rs g. spends-same (c.args.row ∷ []) rs c.args.seat.now.view c.may_have.new.seat.view c.args.chain.now
    (quiet (goal.at.returns-else-may_have-clause-spends c).After-may_have) g
