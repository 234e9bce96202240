use Rattle.std.proofs.Common.{◌++◌, length, ap, sym, refl, subst, arith}
use Rattle.row_pool.specs.Changes.{HasRefs, picked, without_trees}
use Rattle.row_pool.specs.SeatView.{SeatView}
use Rattle.latch_shots.specs.Roots.{AreRoots}
use Rattle.held_latches.proofs.References.{parted}
use Rattle.held_latches.proofs.Stocks.{stock-refs}
use Rattle.held_latches.proofs.pool.Pool.split.Goals as goal

pub split-requires-clause-first : goal.split-requires-clause-first
split-requires-clause-first c = let (shots, trees, loose, s, is) = c.requires.stock in (s.first, c.requires.few)

pub split-requires-clause-references : goal.split-requires-clause-references
split-requires-clause-references c =
    let (shots, trees, loose, s, is) = c.requires.stock in
    subst (λ l. HasRefs l c.args.self.now.seat.view.refs) is (parted shots trees c.args.self.now.seat.view.refs s.refs).has

pub returns-clause-same : goal.returns-clause-same
returns-clause-same c = ((refl, ap (λ (v : SeatView). v.owned) c.split.ensures.seat.2), ap (λ (v : SeatView). v.size) c.split.ensures.seat.2)

pub returns-clause-out : goal.returns-clause-out
returns-clause-out c = ap (λ (v : SeatView). length v.out) c.split.ensures.seat.2

pub returns-clause-stock : goal.returns-clause-stock
returns-clause-stock c = λ shots trees loose s is.
    let v = c.args.self.now.seat.view in
    let o = parted shots trees v.refs s.refs in
    let left = c.split.ensures.seat.2 in let new = c.split.ensures.new.2 in (
      stock-refs v c.split.new.seat.view c.args.self.now.chain (shots ++ trees) trees loose (ap (λ (v : SeatView). v.number) left)
          (ap (λ (v : SeatView). v.owned) left) (subst (AreRoots trees) (sym (ap (λ (v : SeatView). v.refs) left))
          (subst (λ l. AreRoots trees (without_trees l v.refs)) is o.left)) s,
      subst (AreRoots shots) (sym (ap (λ (v : SeatView). v.refs) new)) (subst (λ l. AreRoots shots (picked l v.refs)) is o.taken),
    )

pub returns-clause-seat : goal.returns-clause-seat
returns-clause-seat c =
    let new = c.split.ensures.new.2 in
    ((let a = ap (λ (v : SeatView). v.number) new in omega arith), ap (λ (v : SeatView). v.owned) new)
