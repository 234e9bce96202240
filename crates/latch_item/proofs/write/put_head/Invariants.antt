use Rattle.std.proofs.Common.{◌≡◌, slice_index}
use Rattle.latch_item.specs.Puts.{Puts}
use Rattle.latch_item.proofs.write.put_head.Given as goal

abbrev pub invariant-loop-i : goal.invariant-loop-i
invariant-loop-i l = record {
  table : l.seat.table ≡ l.fn.seat.table;
  follows : l.seat.follows ≡ l.fn.seat.follows;
  puts : Puts l.fn.seat.view l.seat.view l.row 2 l.i (slice_index l.head);
}
