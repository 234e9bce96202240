use Rattle.std.proofs.Common.{◌≡◌, ◌+◌, ◌-◌, ◌<◌, ap, sym, subst, ◌∙◌, arith}
use Rattle.row_pool.specs.Trees.{Tree}
use Rattle.row_pool.specs.SeatState.{SeatState}
use Rattle.interval_tree.specs.States.{ReachesItem}
use Rattle.interval_tree.specs.Steps.{HasItems, BestItem}
use Rattle.interval_tree.proofs.Greatest.{PicksItem, first-at, both-items, items-next, best-items, no-items}
use Rattle.interval_tree.proofs.bounds.+best_item.Goals as goal

pub row_at-item-requires-clause-link : goal.row_at-item-requires-clause-link
row_at-item-requires-clause-link t c =
    first-at c.args.seat.now.view c.args.row c.args.k c.args.n c.args.best (let a = c.if-n-eq0.false in omega arith) c.requires.links

pub greater_unless_single-better-requires-clause-items : goal.greater_unless_single-better-requires-clause-items
greater_unless_single-better-requires-clause-items t c =
    subst (λ v. (s t : Tree) × ReachesItem v s c.args.best × ReachesItem v t c.row_at-item.result) (sym c.row_at-item.ensures.same.1)
    (both-items c.args.seat.now.view c.args.row c.args.k c.args.n c.args.best c.row_at-item.result (let a = c.if-n-eq0.false in omega arith)
    c.row_at-item.ensures.row c.requires.links)

pub best_item-requires : goal.best_item-requires
best_item-requires t c =
    let same = ap (λ (s : SeatState). s.view) c.greater_unless_single-better.ensures.same ∙ c.row_at-item.ensures.same.1 in
    let low : 0 < c.args.n = (let a = c.if-n-eq0.false in omega arith) in (
      let claim : c.args.n ≡ t = c.decreases in omega arith,
      (
        ap (λ (s : SeatState). s.table) c.greater_unless_single-better.ensures.same ∙ c.row_at-item.ensures.same.0 ∙ c.requires.table,
        subst (λ v. HasItems v c.args.row (c.args.k + 1) (c.args.n - 1) c.greater_unless_single-better.result) (sym same)
            (items-next c.args.seat.now.view c.args.row c.args.k c.args.n c.args.best c.row_at-item.result c.greater_unless_single-better.result low
            c.row_at-item.ensures.row (subst (λ v. PicksItem v c.args.best c.row_at-item.result c.greater_unless_single-better.result)
            c.row_at-item.ensures.same.1 c.greater_unless_single-better.ensures.best) c.requires.links),
      ),
    )

pub returns-then-n-eq0-clause-best : goal.returns-then-n-eq0-clause-best
returns-then-n-eq0-clause-best t c = no-items c.args.seat.now.view c.args.row c.args.k c.args.n c.args.best c.if-n-eq0.true

pub returns-clause-best : goal.returns-clause-best
returns-clause-best t c =
    let same = ap (λ (s : SeatState). s.view) c.greater_unless_single-better.ensures.same ∙ c.row_at-item.ensures.same.1 in
    best-items c.args.seat.now.view c.args.row c.args.k c.args.n c.args.best c.row_at-item.result c.greater_unless_single-better.result c.best_item.result
    (let a = c.if-n-eq0.false in omega arith) c.row_at-item.ensures.row
    (subst (λ v. PicksItem v c.args.best c.row_at-item.result c.greater_unless_single-better.result) c.row_at-item.ensures.same.1
    c.greater_unless_single-better.ensures.best)
    (subst (λ v. BestItem v c.args.row (c.args.k + 1) (c.args.n - 1) c.greater_unless_single-better.result c.best_item.result) same c.best_item.ensures.best)
