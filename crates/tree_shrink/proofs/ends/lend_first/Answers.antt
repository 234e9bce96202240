use Rattle.std.proofs.Common.{List, [], ap, arith, length, refl, ℕ, ◌++◌, ◌-◌, ◌∙◌, ◌∷◌, ◌≡◌, ◌≤◌}
use Rattle.row_pool.specs.Changes.{with_old_target}
use Rattle.row_pool.specs.SeatState.{SeatState}
use Rattle.row_pool.specs.SeatView.{SeatView}
use Rattle.row_pool.specs.Trees.{Tree, nil, tree_word}
use Rattle.latch_item.specs.Shape.{Node}
use Rattle.interval_tree.proofs.Frames.{others-join, others-same}
use Rattle.interval_tree.proofs.Fresh.{node-most}
use Rattle.interval_tree.specs.Held.{OthersStand, OwnsNode}
use Rattle.tree_shrink.proofs.Borders.{FirstOut, first-out, first-sorted}
use Rattle.tree_shrink.proofs.Lending.{KidOut, chain-after, kid-cuts, kid-lent, kid-lightens, lent-first-can, lent-first-closed, lent-first-kid, old-long}
use Rattle.tree_shrink.proofs.Lending.{read-node, spends-after}
use Rattle.tree_shrink.proofs.Seams.{kid-place, kid_back, kid_front}
use Rattle.tree_shrink.proofs.ends.lend_first.Goals as goal
use Rattle.tree_shrink.proofs.ends.lend_first.Goals.{After-count_of-n, After-swap-kid, After-close_gap, After-cut_item-item}

-- the number of items was read
counted : (c : After-count_of-n) → (h kind n : ℕ) (us xs : List Tree) → OwnsNode c.args.seat.now.view c.args.row kind n us → Node h kind n us xs
    → (c.count_of-n.result ≡ n) × OwnsNode c.count_of-n.new.seat.view c.args.row kind c.count_of-n.result us × Node h kind c.count_of-n.result us xs
counted c h kind n us xs o nd = let e = c.count_of-n.ensures.count kind n us o in let z = read-node h xs c.count_of-n.ensures.same e o nd in (e, z.0, z.1)

pub overflow_cast-n : goal.overflow_cast-n
overflow_cast-n c =
    let (h, kind, n, us, xs, o, nd, two, few, sorted) = c.requires.node in
    let a = c.count_of-n.ensures.count kind n us o in let b = node-most h kind n us xs nd in omega arith

pub swap-kid-requires-clause-link : goal.swap-kid-requires-clause-link
swap-kid-requires-clause-link c =
    let (h, kind, n, us, xs, o, nd, two, few, sorted) = c.requires.node in
    let (e, o2, nd2) = counted (goal.at.swap-kid-requires-clause-link c).After-count_of-n h kind n us xs o nd in
    let a = ap length (ap (λ (s : SeatState). s.view.refs) c.count_of-n.ensures.same) in
    lent-first-can (first-out h kind c.count_of-n.result us xs nd2 (omega arith)) o2 (omega arith)

-- the child is out
taken : (c : After-swap-kid) → {h kind : ℕ} {us xs : List Tree} (q : FirstOut h kind c.count_of-n.result us xs)
    → OwnsNode c.count_of-n.new.seat.view c.args.row kind c.count_of-n.result us → (c.swap-kid.result ≡ tree_word q.pair.goes)
    × OwnsNode c.swap-kid.new.seat.view c.args.row kind c.count_of-n.result
    (kid_front q.pair.seam q.pair.top q.pair.s ++ nil ∷ ((q.pair.stays ∷ []) ++ kid_back q.pair.seam))
    × (c.swap-kid.new.seat.view.refs ≡ with_old_target q.pair.goes c.count_of-n.new.seat.view.refs)
taken c q o = lent-first-kid q o c.swap-kid.ensures.node

pub close_gap-requires-clause-gap : goal.close_gap-requires-clause-gap
close_gap-requires-clause-gap c =
    let (h, kind, n, us, xs, o, nd, two, few, sorted) = c.requires.node in
    let at = goal.at.close_gap-requires-clause-gap c in
    let (e, o2, nd2) = counted at.After-count_of-n h kind n us xs o nd in
    let q = first-out h kind c.count_of-n.result us xs nd2 (omega arith) in let p = q.pair in
    let k = taken at.After-swap-kid q o2 in (
      kind,
      c.count_of-n.result,
      kid_front p.seam p.top p.s,
      p.stays ∷ [],
      kid_back p.seam,
      k.1,
      kid-place h c.count_of-n.result p.top p.s p.ps p.qs 0 p.seam,
      refl,
      omega arith,
      (let a = ap length (k.2 ∙ ap (with_old_target p.goes) (ap (λ (s : SeatState). s.view.refs) c.count_of-n.ensures.same)) in
          let b = old-long p.goes c.args.seat.now.view.refs in omega arith),
    )

record Out (h kind n : ℕ) (us xs : List Tree) (v w : SeatView) (row kid : ℕ) : Type 0 where
  q : FirstOut h kind n us xs
  out : KidOut h kind n 0 us xs v w row kid q.pair
  two : 2 ≤ n

out : (c : After-close_gap) → (h kind n : ℕ) (us xs : List Tree) → OwnsNode c.args.seat.now.view c.args.row kind n us → Node h kind n us xs → 2 ≤ n
    → Out h kind c.count_of-n.result us xs c.args.seat.now.view c.close_gap.new.seat.view c.args.row c.swap-kid.result
out c h kind n us xs o nd two =
    let e = c.count_of-n.ensures.count kind n us o in let z = read-node h xs c.count_of-n.ensures.same e o nd in
    let m : ℕ = c.count_of-n.result in
    let q = first-out h kind m us xs z.1 (omega arith) in
    let k = lent-first-kid q z.0 c.swap-kid.ensures.node in
    record {
      q = q;
      out = record {
        named = k.0;
        owns = lent-first-closed q k.1 c.close_gap.ensures.closed;
        back = c.close_gap.ensures.same.1 ∙ k.2 ∙ ap (with_old_target q.pair.goes) (ap (λ (s : SeatState). s.view.refs) c.count_of-n.ensures.same);
      };
      two = omega arith;
    }

pub cut_item-item-requires-clause-seam : goal.cut_item-item-requires-clause-seam
cut_item-item-requires-clause-seam c =
    let (h, kind, n, us, xs, o, nd, two, few, sorted) = c.requires.node in
    kid-cuts (out (goal.at.cut_item-item-requires-clause-seam c).After-close_gap h kind n us xs o nd two).out few

-- only the node changed until the item was out
others : (c : After-cut_item-item) → OthersStand c.args.row c.args.seat.now.view c.cut_item-item.new.seat.view
others c = others-same c.args.seat.now.view c.count_of-n.new.seat.view c.cut_item-item.new.seat.view c.args.row
    (ap (λ (s : SeatState). s.view) c.count_of-n.ensures.same)
    (others-join c.count_of-n.new.seat.view c.swap-kid.new.seat.view c.cut_item-item.new.seat.view c.args.row c.swap-kid.ensures.others
    (others-join c.swap-kid.new.seat.view c.close_gap.new.seat.view c.cut_item-item.new.seat.view c.args.row c.close_gap.ensures.others
    c.cut_item-item.ensures.others))

pub lower_both-requires-clause-node : goal.lower_both-requires-clause-node
lower_both-requires-clause-node c =
    let (h, kind, n, us, xs, o, nd, two, few, sorted) = c.requires.node in
    let k = out (goal.at.lower_both-requires-clause-node c).After-close_gap h kind n us xs o nd two in
    let p = k.q.pair in let z = kid-lightens k.out k.two few (first-sorted k.q sorted) c.cut_item-item.ensures.seam in
    (h, kind, c.count_of-n.result - 1, p.top, z.0, p.ls, p.l, p.s, p.goes, c.args.seat.now.view.refs, z.1)

pub lower_both-requires-clause-chain : goal.lower_both-requires-clause-chain
lower_both-requires-clause-chain c =
    let (h, kind, n, us, xs, o, nd, two, few, sorted) = c.requires.node in
    chain-after o (others (goal.at.lower_both-requires-clause-chain c).After-cut_item-item) c.requires.chain

pub returns-clause-lent : goal.returns-clause-lent
returns-clause-lent c = λ h kind n us xs o nd two sorted.
    let (h2, kind2, n2, us2, xs2, o2, nd2, two2, few, sorted2) = c.requires.node in
    let k = out (goal.at.returns-clause-lent c).After-close_gap h kind n us xs o nd two in let p = k.q.pair in (
      p.ls,
      p.l,
      p.s,
      k.q.list,
      kid-lent k.out (c.count_of-n.ensures.count kind n us o) k.two few (first-sorted k.q sorted) c.cut_item-item.ensures.seam c.lower_both.ensures.node
          c.lower_both.ensures.same.1,
    )

pub returns-clause-spends : goal.returns-clause-spends
returns-clause-spends c =
    let (h, kind, n, us, xs, o, nd, two, few, sorted) = c.requires.node in
    spends-after o (others (goal.at.returns-clause-spends c).After-cut_item-item) c.lower_both.ensures.spends
