use Rattle.std.proofs.Common.{◌≡◌}
use Rattle.latch_item.specs.Bytes.{key_word}
use Rattle.latch_item.specs.Puts.{Puts}
use Rattle.latch_item.proofs.write.put_bytes.Given as goal

abbrev pub invariant-loop-i : goal.invariant-loop-i
invariant-loop-i l = record {
  table : l.seat.table ≡ l.fn.seat.table;
  follows : l.seat.follows ≡ l.fn.seat.follows;
  puts : Puts l.fn.seat.view l.seat.view l.row l.from l.i (key_word l.bytes);
}
