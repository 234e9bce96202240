use Rattle.std.proofs.Common.{List, ap, arith, length, ℕ, ◌-◌, ◌∙◌, ◌≡◌, ◌≤◌}
use Rattle.row_pool.specs.Changes.{with_old_target}
use Rattle.row_pool.specs.SeatState.{SeatState}
use Rattle.row_pool.specs.SeatView.{SeatView}
use Rattle.row_pool.specs.Trees.{Tree}
use Rattle.latch_item.specs.Shape.{Node}
use Rattle.interval_tree.proofs.Frames.{others-join, others-same}
use Rattle.interval_tree.proofs.Fresh.{node-most}
use Rattle.interval_tree.specs.Held.{OthersStand, OwnsNode}
use Rattle.tree_shrink.proofs.Borders.{LastOut, last-out, last-sorted}
use Rattle.tree_shrink.proofs.Lending.{KidOut, chain-after, kid-cuts, kid-lent, kid-lightens, lent-last-can, lent-last-kid, read-node, spends-after}
use Rattle.tree_shrink.proofs.ends.lend_last.Goals as goal
use Rattle.tree_shrink.proofs.ends.lend_last.Goals.{After-count_of-n, After-swap-kid, After-cut_item-item}

-- the number of items was read
counted : (c : After-count_of-n) → (h kind n : ℕ) (us xs : List Tree) → OwnsNode c.args.seat.now.view c.args.row kind n us → Node h kind n us xs
    → (c.count_of-n.result ≡ n) × OwnsNode c.count_of-n.new.seat.view c.args.row kind c.count_of-n.result us × Node h kind c.count_of-n.result us xs
counted c h kind n us xs o nd = let e = c.count_of-n.ensures.count kind n us o in let z = read-node h xs c.count_of-n.ensures.same e o nd in (e, z.0, z.1)

pub overflow_cast-n : goal.overflow_cast-n
overflow_cast-n c =
    let (h, kind, n, us, xs, o, nd, two, few, sorted) = c.requires.node in
    let a = c.count_of-n.ensures.count kind n us o in let b = node-most h kind n us xs nd in omega arith

pub overflow_add-n : goal.overflow_add-n
overflow_add-n c =
    let (h, kind, n, us, xs, o, nd, two, few, sorted) = c.requires.node in
    let a = c.count_of-n.ensures.count kind n us o in let b = node-most h kind n us xs nd in omega arith

pub swap-kid-requires-clause-link : goal.swap-kid-requires-clause-link
swap-kid-requires-clause-link c =
    let (h, kind, n, us, xs, o, nd, two, few, sorted) = c.requires.node in
    let (e, o2, nd2) = counted (goal.at.swap-kid-requires-clause-link c).After-count_of-n h kind n us xs o nd in
    let a = ap length (ap (λ (s : SeatState). s.view.refs) c.count_of-n.ensures.same) in
    lent-last-can (last-out h kind c.count_of-n.result us xs nd2 (omega arith)) (omega arith) (node-most h kind c.count_of-n.result us xs nd2) o2 (omega arith)

-- the child is out
record Out (h kind n : ℕ) (us xs : List Tree) (v w : SeatView) (row kid : ℕ) : Type 0 where
  q : LastOut h kind n us xs
  out : KidOut h kind n (n - 1) us xs v w row kid q.pair
  two : 2 ≤ n

out : (c : After-swap-kid) → (h kind n : ℕ) (us xs : List Tree) → OwnsNode c.args.seat.now.view c.args.row kind n us → Node h kind n us xs → 2 ≤ n
    → Out h kind c.count_of-n.result us xs c.args.seat.now.view c.swap-kid.new.seat.view c.args.row c.swap-kid.result
out c h kind n us xs o nd two =
    let e = c.count_of-n.ensures.count kind n us o in let z = read-node h xs c.count_of-n.ensures.same e o nd in
    let m : ℕ = c.count_of-n.result in
    let q = last-out h kind m us xs z.1 (omega arith) in
    let k = lent-last-kid q (omega arith) z.0 c.swap-kid.ensures.node in
    record {
      q = q;
      out = record { named = k.0; owns = k.1; back = k.2 ∙ ap (with_old_target q.pair.goes) (ap (λ (s : SeatState). s.view.refs) c.count_of-n.ensures.same) };
      two = omega arith;
    }

pub overflow_sub-n : goal.overflow_sub-n
overflow_sub-n c =
    let (h, kind, n, us, xs, o, nd, two, few, sorted) = c.requires.node in let a = c.count_of-n.ensures.count kind n us o in omega arith

pub cut_item-item-requires-clause-seam : goal.cut_item-item-requires-clause-seam
cut_item-item-requires-clause-seam c =
    let (h, kind, n, us, xs, o, nd, two, few, sorted) = c.requires.node in
    kid-cuts (out (goal.at.cut_item-item-requires-clause-seam c).After-swap-kid h kind n us xs o nd two).out few

-- only the node changed until the item was out
others : (c : After-cut_item-item) → OthersStand c.args.row c.args.seat.now.view c.cut_item-item.new.seat.view
others c = others-same c.args.seat.now.view c.count_of-n.new.seat.view c.cut_item-item.new.seat.view c.args.row
    (ap (λ (s : SeatState). s.view) c.count_of-n.ensures.same)
    (others-join c.count_of-n.new.seat.view c.swap-kid.new.seat.view c.cut_item-item.new.seat.view c.args.row c.swap-kid.ensures.others
    c.cut_item-item.ensures.others)

pub lower_both-requires-clause-node : goal.lower_both-requires-clause-node
lower_both-requires-clause-node c =
    let (h, kind, n, us, xs, o, nd, two, few, sorted) = c.requires.node in
    let k = out (goal.at.lower_both-requires-clause-node c).After-swap-kid h kind n us xs o nd two in
    let p = k.q.pair in let z = kid-lightens k.out k.two few (last-sorted k.q sorted) c.cut_item-item.ensures.seam in
    (h, kind, c.count_of-n.result - 1, p.top, z.0, p.ls, p.l, p.s, p.goes, c.args.seat.now.view.refs, z.1)

pub lower_both-requires-clause-chain : goal.lower_both-requires-clause-chain
lower_both-requires-clause-chain c =
    let (h, kind, n, us, xs, o, nd, two, few, sorted) = c.requires.node in
    chain-after o (others (goal.at.lower_both-requires-clause-chain c).After-cut_item-item) c.requires.chain

pub returns-clause-lent : goal.returns-clause-lent
returns-clause-lent c = λ h kind n us xs o nd two sorted.
    let (h2, kind2, n2, us2, xs2, o2, nd2, two2, few, sorted2) = c.requires.node in
    let k = out (goal.at.returns-clause-lent c).After-swap-kid h kind n us xs o nd two in let p = k.q.pair in (
      p.ls,
      p.l,
      p.s,
      k.q.list,
      kid-lent k.out (c.count_of-n.ensures.count kind n us o) k.two few (last-sorted k.q sorted) c.cut_item-item.ensures.seam c.lower_both.ensures.node
          c.lower_both.ensures.same.1,
    )

pub returns-clause-spends : goal.returns-clause-spends
returns-clause-spends c =
    let (h, kind, n, us, xs, o, nd, two, few, sorted) = c.requires.node in
    spends-after o (others (goal.at.returns-clause-spends c).After-cut_item-item) c.lower_both.ensures.spends
