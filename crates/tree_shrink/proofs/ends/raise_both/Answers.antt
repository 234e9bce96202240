use Rattle.std.proofs.Common.{List, [], ap, arith, length, subst, sym, ℕ, ◌∙◌, ◌∷◌, ◌≢◌}
use Rattle.row_pool.specs.Chains.{IsChain}
use Rattle.row_pool.specs.SeatView.{SeatView}
use Rattle.row_pool.specs.Trees.{Tree}
use Rattle.latch_item.specs.Items.{IsLatch}
use Rattle.interval_tree.proofs.Frames.{spends-join}
use Rattle.interval_tree.specs.Held.{OwnsNode}
use Rattle.interval_tree.specs.Nodes.{Raised}
use Rattle.interval_tree.specs.States.{Greatest}
use Rattle.tree_shrink.proofs.Borders.{raised-latch}
use Rattle.tree_shrink.proofs.Lending.{both-raised, carried-item, carried-kid, carried-over, old-long, one-raised, part-none}
use Rattle.tree_shrink.specs.Stages.{Carried}
use Rattle.tree_shrink.specs.Steps.{SpendsAll}
use Rattle.tree_shrink.proofs.ends.raise_both.Goals as goal
use Rattle.tree_shrink.proofs.ends.raise_both.Goals.{After-raise_top, After-top_of-top}

pub raise_top-requires-clause-node : goal.raise_top-requires-clause-node
raise_top-requires-clause-node c =
    let (h, kind, n, top, us, l, m, u, R, o, fits, carried, few) = c.requires.node in (kind, n, top, us, m, o, fits, carried-item carried)

pub raise_top-requires-clause-few : goal.raise_top-requires-clause-few
raise_top-requires-clause-few c =
    let (h, kind, n, top, us, l, m, u, R, o, fits, carried, few) = c.requires.node in
    let a = ap length carried.refs in let b = old-long u R in omega arith

once : (c : After-raise_top) → (h kind n : ℕ) (top : Tree) (us l : List Tree) (m u : Tree) (R : List Tree)
    → OwnsNode c.args.seat.now.view c.args.row kind n (top ∷ us) → IsLatch top → Carried h c.args.seat.now.view m u l c.args.item c.args.kid R
    → (new : Tree) × Raised m top new × OwnsNode c.raise_top.new.seat.view c.args.row kind n (new ∷ us)
once c h kind n top us l m u R o fits carried = c.raise_top.ensures.node kind n top us m o fits (carried-item carried)

pub top_of-top-requires-clause-child : goal.top_of-top-requires-clause-child
top_of-top-requires-clause-child c =
    let (h, kind, n, top, us, l, m, u, R, o, fits, carried, few) = c.requires.node in
    let k = carried-kid (carried-over c.raise_top.ensures.same.1 carried) c.if-kid-ne0.true in (h, u, l, k.0, k.1, k.2)

best : (c : After-top_of-top) → c.args.kid ≢ 0 → (h : ℕ) (m u : Tree) (l R : List Tree) → Carried h c.args.seat.now.view m u l c.args.item c.args.kid R
    → Greatest c.top_of-top.new.seat.view l c.top_of-top.result
best c ne h m u l R carried =
    let k = carried-kid (carried-over c.raise_top.ensures.same.1 carried) ne in
    subst (λ v. Greatest v l c.top_of-top.result) (sym c.top_of-top.ensures.same.1) (c.top_of-top.ensures.top h u l k.0 k.1 k.2)

pub raise_top-requires-then-kid-ne0-clause-node : goal.raise_top-requires-then-kid-ne0-clause-node
raise_top-requires-then-kid-ne0-clause-node c =
    let (h, kind, n, top, us, l, m, u, R, o, fits, carried, few) = c.requires.node in
    let at = goal.at.raise_top-requires-then-kid-ne0-clause-node c in
    let (new, raised, owns) = once at.After-raise_top h kind n top us l m u R o fits carried in
    let g = best at.After-top_of-top c.if-kid-ne0.true h m u l R carried in (
      kind,
      n,
      new,
      us,
      g.item,
      subst (λ v. OwnsNode v c.args.row kind n (new ∷ us)) (sym c.top_of-top.ensures.same.1) owns,
      raised-latch m top new raised carried.fits fits,
      g.reached,
    )

pub raise_top-requires-then-kid-ne0-clause-few : goal.raise_top-requires-then-kid-ne0-clause-few
raise_top-requires-then-kid-ne0-clause-few c =
    let (h, kind, n, top, us, l, m, u, R, o, fits, carried, few) = c.requires.node in
    let a = ap length (ap (λ (v : SeatView). v.refs) c.top_of-top.ensures.same.1 ∙ c.raise_top.ensures.same.1 ∙ carried.refs) in
    let b = old-long u R in omega arith

pub raise_top-requires-then-kid-ne0-clause-chain : goal.raise_top-requires-then-kid-ne0-clause-chain
raise_top-requires-then-kid-ne0-clause-chain c =
    let (rs, g) = c.requires.chain in let s = c.raise_top.ensures.spends rs g in
    (s.left, subst (λ v. IsChain v c.raise_top.new.chain s.left) (sym c.top_of-top.ensures.same.1) s.chain)

pub returns-then-kid-ne0-clause-same : goal.returns-then-kid-ne0-clause-same
returns-then-kid-ne0-clause-same c = (
  c.raise_top-then-kid-ne0.ensures.same.0 ∙ c.top_of-top.ensures.same.0 ∙ c.raise_top.ensures.same.0,
  c.raise_top-then-kid-ne0.ensures.same.1 ∙ ap (λ (v : SeatView). v.refs) c.top_of-top.ensures.same.1 ∙ c.raise_top.ensures.same.1,
)

pub returns-then-kid-ne0-clause-node : goal.returns-then-kid-ne0-clause-node
returns-then-kid-ne0-clause-node c = λ h kind n top us l m u R o fits carried.
    let at = goal.at.returns-then-kid-ne0-clause-node c in
    let (new, raised, owns) = once at.After-raise_top h kind n top us l m u R o fits carried in
    let g = best at.After-top_of-top c.if-kid-ne0.true h m u l R carried in
    let (last, raised2, owns2) = c.raise_top-then-kid-ne0.ensures.node kind n new us g.item
    (subst (λ v. OwnsNode v c.args.row kind n (new ∷ us)) (sym c.top_of-top.ensures.same.1) owns) (raised-latch m top new raised carried.fits fits) g.reached in
    (last, owns2, λ xs ys t same. both-raised top m new g.item last xs l ys t raised g.greatest raised2 same)

pub returns-then-kid-ne0-clause-spends : goal.returns-then-kid-ne0-clause-spends
returns-then-kid-ne0-clause-spends c = λ rs g.
    let row = c.args.row in let s = c.raise_top.ensures.spends rs g in
    spends-join 0 0 (row ∷ []) (row ∷ []) (row ∷ []) rs c.args.seat.now.view c.raise_top.new.seat.view c.raise_top-then-kid-ne0.new.seat.view
    c.raise_top.new.chain
    c.raise_top-then-kid-ne0.new.chain s
    (subst (λ v. SpendsAll 0 (row ∷ []) (row ∷ []) v c.raise_top-then-kid-ne0.new.seat.view c.raise_top.new.chain c.raise_top-then-kid-ne0.new.chain)
    c.top_of-top.ensures.same.1 c.raise_top-then-kid-ne0.ensures.spends s.left s.chain)

pub returns-else-kid-ne0-clause-node : goal.returns-else-kid-ne0-clause-node
returns-else-kid-ne0-clause-node c = λ h kind n top us l m u R o fits carried.
    let (new, raised, owns) = once (goal.at.returns-else-kid-ne0-clause-node c).After-raise_top h kind n top us l m u R o fits carried in
    (new, owns, λ xs ys t same. one-raised top m new xs l ys t raised (part-none h u l carried.part (carried.kid_is ∙ c.if-kid-ne0.false)) same)
