use Rattle.std.proofs.Common.{ℕ, List, [], ◌∷◌, ◌++◌, length, ap, sym, subst, ◌∙◌, arith}
use Rattle.row_pool.specs.Trees.{Tree}
use Rattle.row_pool.specs.Chains.{IsChain}
use Rattle.latch_item.specs.Shape.{Sorted}
use Rattle.interval_tree.specs.Held.{OwnsNode}
use Rattle.interval_tree.specs.States.{CutParts}
use Rattle.interval_tree.proofs.Frames.{owns-kept, away-one, spends-add, spends-join, spends-swap, spends-swap-after}
use Rattle.interval_tree.proofs.Lists.{sorted-back, sorted-front}
use Rattle.interval_tree.proofs.bounds.split_node.Goals as goal
use Rattle.interval_tree.proofs.bounds.split_node.Goals.{After-cut_node-right, After-set_top, After-set_top-2}

halves-sorted : (ls : List Tree) (m : Tree) (rs : List Tree) → Sorted (ls ++ m ∷ rs) → Sorted ls × Sorted rs
halves-sorted ls m rs h = (sorted-front ls (m ∷ rs) h, (sorted-back ls (m ∷ rs) h).1)

-- the cut node, and the chain then
parts : (c : After-cut_node-right) → (h kind : ℕ) × (xs : List Tree) × Sorted xs
    × CutParts h c.cut_node-right.new.seat.view c.args.row c.cut_node-right.result.0 c.cut_node-right.result.1 kind xs c.args.seat.now.view.refs
parts c = let (h, kind, us, xs, o, b, sorted) = c.requires.node in (h, kind, xs, sorted, c.cut_node-right.ensures.parts h kind us xs o b)

chained : (c : After-cut_node-right) → (rs : List ℕ) × IsChain c.cut_node-right.new.seat.view c.cut_node-right.new.chain rs
chained c = let (rs, h, many) = c.requires.room in let s = c.cut_node-right.ensures.spends rs h in (s.left, s.chain)

pub set_top-requires-clause-node : goal.set_top-requires-clause-node
set_top-requires-clause-node c =
    let (h, kind, xs, sorted, p) = parts (goal.at.set_top-requires-clause-node c).After-cut_node-right in
    (h, kind, 15, p.us, p.ls, p.left_owns, p.left_body, omega arith, (halves-sorted p.ls p.m p.rs (subst Sorted p.list sorted)).0)

pub set_top-requires-clause-few : goal.set_top-requires-clause-few
set_top-requires-clause-few c =
    let (h, kind, xs, sorted, p) = parts (goal.at.set_top-requires-clause-few c).After-cut_node-right in
    let a = ap length p.refs in let b = c.requires.few in omega arith

pub set_top-requires-clause-chain : goal.set_top-requires-clause-chain
set_top-requires-clause-chain c = chained (goal.at.set_top-requires-clause-chain c).After-cut_node-right

-- the right half through the setting of the left one's first link
right-kept : (c : After-set_top) → (h kind : ℕ) (xs : List Tree)
    → (p : CutParts h c.cut_node-right.new.seat.view c.args.row c.cut_node-right.result.0 c.cut_node-right.result.1 kind xs c.args.seat.now.view.refs)
    → OwnsNode c.set_top.new.seat.view c.cut_node-right.result.0 kind 15 p.vs
right-kept c h kind xs p =
    let (rs, g, many) = c.requires.room in let s = c.cut_node-right.ensures.spends rs g in
    (owns-kept 0 (c.args.row ∷ []) (c.args.row ∷ []) s.left c.cut_node-right.new.seat.view c.set_top.new.seat.view c.cut_node-right.new.chain
    c.set_top.new.chain c.cut_node-right.result.0 kind 15 p.vs s.chain (c.set_top.ensures.spends s.left s.chain) p.right_owns
    (away-one c.cut_node-right.result.0 c.args.row (λ z. p.apart (sym z)))).owns

pub set_top-requires-2-clause-node : goal.set_top-requires-2-clause-node
set_top-requires-2-clause-node c =
    let (h, kind, xs, sorted, p) = parts (goal.at.set_top-requires-2-clause-node c).After-cut_node-right in (
      h,
      kind,
      15,
      p.vs,
      p.rs,
      right-kept (goal.at.set_top-requires-2-clause-node c).After-set_top h kind xs p,
      p.right_body,
      omega arith,
      (halves-sorted p.ls p.m p.rs (subst Sorted p.list sorted)).1,
    )

pub set_top-requires-2-clause-few : goal.set_top-requires-2-clause-few
set_top-requires-2-clause-few c =
    let (h, kind, xs, sorted, p) = parts (goal.at.set_top-requires-2-clause-few c).After-cut_node-right in
    let a = ap length p.refs in let b = c.requires.few in let d = ap length c.set_top.ensures.same.1 in omega arith

pub set_top-requires-2-clause-chain : goal.set_top-requires-2-clause-chain
set_top-requires-2-clause-chain c =
    let (rs, h) = chained (goal.at.set_top-requires-2-clause-chain c).After-cut_node-right in
    let s = c.set_top.ensures.spends rs h in (s.left, s.chain)

pub returns-clause-halves : goal.returns-clause-halves
returns-clause-halves c = λ h kind us xs o b sorted.
    let p = c.cut_node-right.ensures.parts h kind us xs o b in
    let right_owns = right-kept (goal.at.returns-clause-halves c).After-set_top h kind xs p in
    let (low, high) = halves-sorted p.ls p.m p.rs (subst Sorted p.list sorted) in
    let (ls, left, left_node) = c.set_top.ensures.node h kind 15 p.us p.ls p.left_owns p.left_body (omega arith) low in
    let (vs, right, right_node) = c.set_top-2.ensures.node h kind 15 p.vs p.rs right_owns p.right_body (omega arith) high in
    let (rs, g, many) = c.requires.room in let s = c.cut_node-right.ensures.spends rs g in let t = c.set_top.ensures.spends s.left s.chain in
    record {
      us = ls;
      vs = vs;
      ls = p.ls;
      rs = p.rs;
      m = p.m;
      left_owns = (owns-kept 0 (c.cut_node-right.result.0 ∷ []) (c.cut_node-right.result.0 ∷ []) t.left c.set_top.new.seat.view c.set_top-2.new.seat.view
          c.set_top.new.chain c.set_top-2.new.chain c.args.row kind 15 ls t.chain (c.set_top-2.ensures.spends t.left t.chain) left
          (away-one c.args.row c.cut_node-right.result.0 p.apart)).owns;
      right_owns = right;
      left_node = left_node;
      right_node = right_node;
      apart = p.apart;
      list = p.list;
      latch = p.latch;
      here = p.here;
      refs = c.set_top-2.ensures.same.1 ∙ c.set_top.ensures.same.1 ∙ p.refs;
    }

pub returns-clause-spends : goal.returns-clause-spends
returns-clause-spends c = λ rs h.
    let row = c.args.row in let right = c.cut_node-right.result.0 in
    let v = c.args.seat.now.view in let a = c.cut_node-right.new.seat.view in let b = c.set_top.new.seat.view in let d = c.set_top-2.new.seat.view in
    let p = c.cut_node-right.new.chain in let q = c.set_top.new.chain in let e = c.set_top-2.new.chain in
    let s1 = c.cut_node-right.ensures.spends rs h in
    let t2 = spends-add right 0 (row ∷ []) (row ∷ []) s1.left a b q (c.set_top.ensures.spends s1.left s1.chain) in
    let s2 = spends-swap right row 0 [] (row ∷ right ∷ []) s1.left a b q (spends-swap-after right row 0 (right ∷ row ∷ []) [] s1.left a b q t2) in
    let s3 = spends-add row 0 (right ∷ []) (right ∷ []) s2.left b d e (c.set_top-2.ensures.spends s2.left s2.chain) in
    spends-join 1 0 (row ∷ []) (row ∷ right ∷ []) (row ∷ right ∷ []) rs v a d p e s1
    (spends-join 0 0 (row ∷ right ∷ []) (row ∷ right ∷ []) (row ∷ right ∷ []) s1.left a b d q e s2 s3)
