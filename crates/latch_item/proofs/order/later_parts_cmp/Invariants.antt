use Rattle.std.proofs.Common.{◌≡◌}
use Rattle.latch_item.specs.Items.{Item, HasItem, part}
use Rattle.latch_item.specs.Bytes.{Agree}
use Rattle.latch_item.proofs.order.later_parts_cmp.Given as goal

abbrev pub invariant-loop-i : goal.invariant-loop-i
invariant-loop-i l = record {
  same : l.seat ≡ l.fn.seat;
  alike : (x y : Item) → HasItem l.fn.seat.view l.a x → HasItem l.fn.seat.view l.b y → Agree (part l.a_end x.span) (part l.b_end y.span) l.i;
}
