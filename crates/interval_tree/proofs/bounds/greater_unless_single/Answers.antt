use Rattle.std.proofs.Common.{◌∙◌, sym, subst}
use Rattle.row_pool.specs.Trees.{Tree}
use Rattle.row_pool.specs.SeatState.{SeatState}
use Rattle.latch_item.specs.Items.{item_of}
use Rattle.interval_tree.specs.States.{ReachesItem}
use Rattle.interval_tree.proofs.Greatest.{Picks, has-item, item-at, best-one}
use Rattle.interval_tree.proofs.bounds.greater_unless_single.Goals as goal

pub is_point-requires-clause-item : goal.is_point-requires-clause-item
is_point-requires-clause-item c = let (s, t, a, b) = c.requires.items in has-item c.args.seat.now.view t c.args.other b

pub greater-requires-clause-items : goal.greater-requires-clause-items
greater-requires-clause-items c =
    subst (λ (z : SeatState). (s t : Tree) × ReachesItem z.view s c.args.one × ReachesItem z.view t c.args.other) (sym c.is_point.ensures.same) c.requires.items

pub returns-then-is_point-clause-best : goal.returns-then-is_point-clause-best
returns-then-is_point-clause-best c = λ s t a b single.
    let v = c.args.seat.now.view in
    best-one v s t c.args.one (single (sym (c.is_point.ensures.point (item_of t) (item-at v t c.args.other b)) ∙ c.if-is_point.true)) a

pub returns-else-is_point-clause-best : goal.returns-else-is_point-clause-best
returns-else-is_point-clause-best c = λ s t a b single.
    subst (λ (z : SeatState). Picks z.view c.args.one c.args.other c.greater.result) c.is_point.ensures.same c.greater.ensures.best s t a b
