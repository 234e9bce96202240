use Rattle.std.proofs.Common.{◌≡◌, ◌≤◌, ◌<◌, ◌+◌, ℕ, suc, List, [], ◌∷◌, length, sym, subst, arith}
use Rattle.row_pool.specs.Trees.{Tree}
use Rattle.row_pool.specs.SeatState.{SeatState}
use Rattle.row_pool.specs.Chains.{IsChain}
use Rattle.latch_item.specs.Shape.{Node}
use Rattle.interval_tree.specs.Held.{OwnsNode, Spends}
use Rattle.interval_tree.specs.States.{RootNode}
use Rattle.interval_tree.proofs.Frames.{spends-more, spends-self}
use Rattle.interval_tree.proofs.Fresh.{node-most}
use Rattle.interval_tree.proofs.Growing.{full-low}
use Rattle.interval_tree.proofs.tree.roomy_root.Goals as goal
use Rattle.interval_tree.proofs.tree.roomy_root.Goals.{After-count_of-count}

pub count_of-count-requires-clause-node : goal.count_of-count-requires-clause-node
count_of-count-requires-clause-node c = let (xs, r, low, few, sorted) = c.requires.node in (r.kind, r.many, r.us, r.owns)

-- the root is full
pub record Full (level : ℕ) (v : SeatState) (node kind : ℕ) (us xs : List Tree) : Type 0 where
  pub owns : OwnsNode v.view node kind 31 us
  pub is_node : Node level kind 31 us xs
  pub low : level ≤ 1

full : (c : After-count_of-count) → 31 ≤ c.count_of-count.result → (xs : List Tree) → (r : RootNode c.args.level c.args.seat.now.view c.args.node xs)
    → c.args.level ≤ 2 → length xs < 8190 → Full c.args.level c.count_of-count.new.seat c.args.node r.kind r.us xs
full c many xs r low few =
    let a = c.count_of-count.ensures.count r.kind r.many r.us r.owns in let b = node-most c.args.level r.kind r.many r.us xs r.node in
    let all : r.many ≡ 31 = omega arith in
    let n = subst (λ m. Node c.args.level r.kind m r.us xs) all r.node in
    record {
      owns = subst (λ (s : SeatState). OwnsNode s.view c.args.node r.kind 31 r.us) (sym c.count_of-count.ensures.same)
          (subst (λ m. OwnsNode c.args.seat.now.view c.args.node r.kind m r.us) all r.owns);
      is_node = n;
      low = full-low c.args.level r.kind r.us xs n low few;
    }

pub grow_root-over-requires-clause-node : goal.grow_root-over-requires-clause-node
grow_root-over-requires-clause-node c =
    let (xs, r, low, few, sorted) = c.requires.node in
    let f = full (goal.at.grow_root-over-requires-clause-node c).After-count_of-count c.if-count-lt31.false xs r low few in
    (c.args.level, r.kind, r.us, xs, f.low, f.owns, f.is_node, sorted)

pub returns-then-count-lt31-clause-node : goal.returns-then-count-lt31-clause-node
returns-then-count-lt31-clause-node c = λ xs r low few sorted. (
  record {
    kind = r.kind;
    many = r.many;
    us = r.us;
    owns = subst (λ (s : SeatState). OwnsNode s.view c.args.node r.kind r.many r.us) (sym c.count_of-count.ensures.same) r.owns;
    node = r.node;
    some_items = r.some_items;
  },
  let a = c.count_of-count.ensures.count r.kind r.many r.us r.owns in let b = c.if-count-lt31.true in omega arith,
)

pub returns-then-count-lt31-clause-low : goal.returns-then-count-lt31-clause-low
returns-then-count-lt31-clause-low c = let (xs, r, low, few, sorted) = c.requires.node in low

pub returns-then-count-lt31-clause-spends : goal.returns-then-count-lt31-clause-spends
returns-then-count-lt31-clause-spends c = λ rs h.
    subst (λ (s : SeatState). Spends 2 (c.args.node ∷ []) (c.args.node ∷ []) rs c.args.seat.now.view s.view c.args.chain.now)
    (sym c.count_of-count.ensures.same)
    (spends-more 0 2 (c.args.node ∷ []) (c.args.node ∷ []) rs c.args.seat.now.view c.args.seat.now.view c.args.chain.now (omega arith)
    (spends-self (c.args.node ∷ []) rs c.args.seat.now.view c.args.chain.now h))

pub returns-clause-node : goal.returns-clause-node
returns-clause-node c = λ xs r low few sorted.
    let f = full (goal.at.returns-clause-node c).After-count_of-count c.if-count-lt31.false xs r low few in
    let (vs, o, n) = c.grow_root-over.ensures.root c.args.level r.kind r.us xs f.low f.owns f.is_node sorted in
    let e : c.args.level + 1 ≡ suc c.args.level = omega arith in
    (record { kind = 3; many = 1; us = vs; owns = o; node = subst (λ h. Node h 3 1 vs xs) (sym e) n; some_items = omega arith }, omega arith)

pub returns-clause-low : goal.returns-clause-low
returns-clause-low c =
    let (xs, r, low, few, sorted) = c.requires.node in
    let f = full (goal.at.returns-clause-low c).After-count_of-count c.if-count-lt31.false xs r low few in let a = f.low in omega arith

pub returns-clause-spends : goal.returns-clause-spends
returns-clause-spends c = λ rs h.
    subst (λ (s : SeatState). Spends 2 (c.args.node ∷ []) (c.grow_root-over.result ∷ []) rs s.view c.grow_root-over.new.seat.view c.grow_root-over.new.chain)
    c.count_of-count.ensures.same (c.grow_root-over.ensures.spends rs (subst (λ (s : SeatState). IsChain s.view c.args.chain.now rs)
    (sym c.count_of-count.ensures.same) h))
