use Rattle.std.proofs.Common.{◌≡◌}
use Rattle.latch_item.specs.Items.{Item, HasItem, part}
use Rattle.latch_item.specs.Bytes.{Agree}
use Rattle.latch_item.proofs.order.later_part_cmp.Given as goal

abbrev pub invariant-loop-i : goal.invariant-loop-i
invariant-loop-i l = record {
  same : l.seat ≡ l.fn.seat;
  alike : (x : Item) → HasItem l.fn.seat.view l.a x → Agree (part l.end x.span) l.bytes l.i;
}
