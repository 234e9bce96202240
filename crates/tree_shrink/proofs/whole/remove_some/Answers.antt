use Rattle.std.proofs.Common.{List, [], ap, arith, length, refl, ℕ, ◌+◌, ◌-◌, ◌∷◌, ◌≤◌}
use Rattle.row_pool.proofs.Sums.{without_tree-length}
use Rattle.row_pool.specs.Changes.{without_tree}
use Rattle.row_pool.specs.Trees.{Tree}
use Rattle.latch_item.specs.Shape.{Among}
use Rattle.interval_tree.proofs.Frames.{spends-more}
use Rattle.interval_tree.proofs.Growing.{beside-first, refers-standing}
use Rattle.tree_shrink.proofs.Reaching.{leaving, one-less, only-one}
use Rattle.tree_shrink.proofs.whole.remove_some.Goals as goal

pub uproot-requires-clause-tree : goal.uproot-requires-clause-tree
uproot-requires-clause-tree c = let (xs, it, r, many, among, is) = c.requires.tree in (c.args.height, xs, it, r, among, is)

pub uproot-requires-clause-chain : goal.uproot-requires-clause-chain
uproot-requires-clause-chain c = let (rs, g, many) = c.requires.room in (rs, g)

pub returns-then-len-eq1-clause-tree : goal.returns-then-len-eq1-clause-tree
returns-then-len-eq1-clause-tree c = λ xs it r many among is.
    ([], only-one it xs (let a = c.if-len-eq1.true in omega arith) among, refl, c.uproot.ensures.same.1)

pub returns-then-len-eq1-clause-spends : goal.returns-then-len-eq1-clause-spends
returns-then-len-eq1-clause-spends c = λ rs g.
    spends-more 0 5 [] [] rs c.args.seat.now.view c.uproot.new.seat.view c.uproot.new.chain (omega arith) (c.uproot.ensures.spends rs g)

some-long : (it : Tree) (xs : List Tree) → Among it xs → 1 ≤ length xs
some-long it [] a = absurd a
some-long it (x ∷ xs) a = omega arith

pub overflow_sub-height : goal.overflow_sub-height
overflow_sub-height c = let (xs, it, r, many, among, is) = c.requires.tree in let a = r.1.levels in omega arith

pub remove_live-over-requires-clause-tree : goal.remove_live-over-requires-clause-tree
remove_live-over-requires-clause-tree c =
    let (xs, it, r, many, among, is) = c.requires.tree in (
      xs,
      it,
      leaving c.args.seat.now.view c.args.root c.args.height c.args.item xs it (c.args.height - 1) r refl
          (let a = some-long it xs among in let b = c.if-len-eq1.false in omega arith) among is c.requires.few,
    )

pub returns-clause-tree : goal.returns-clause-tree
returns-clause-tree c = λ xs it r many among is.
    let w = c.remove_live-over.new.seat.view in let over = c.remove_live-over.result.0 in let h : ℕ = c.remove_live-over.result.1 + 1 in
    let (ys, gone, st) = c.remove_live-over.ensures.standing xs it (leaving c.args.seat.now.view c.args.root c.args.height c.args.item xs it (c.args.height -
    1) r refl
    (let a = some-long it xs among in let b = c.if-len-eq1.false in omega arith) among is c.requires.few) in
    let R : List Tree = without_tree c.args.root c.args.seat.now.view.refs in
    (ys, gone, refers-standing w over h ys R st, beside-first w over h ys R st)

pub returns-then-len-eq1-clause-few : goal.returns-then-len-eq1-clause-few
returns-then-len-eq1-clause-few c =
    let a = ap length c.uproot.ensures.same.1 in let b = without_tree-length c.args.root c.args.seat.now.view.refs in omega arith

pub returns-clause-few : goal.returns-clause-few
returns-clause-few c =
    let (xs, it, r, many, among, is) = c.requires.tree in
    let (ys, gone, st) = c.remove_live-over.ensures.standing xs it (leaving c.args.seat.now.view c.args.root c.args.height c.args.item xs it
    (c.args.height - 1) r
    refl (let a = some-long it xs among in let b = c.if-len-eq1.false in omega arith) among is c.requires.few) in
    let a = ap length st.refs in let b = one-less c.args.root c.args.seat.now.view.refs r.0 in omega arith
