use Rattle.std.proofs.Common.{◌≡◌, ◌-◌}
use Rattle.latch_item.specs.Puts.{Puts}
use Rattle.latch_item.proofs.write.put_zeros.Given as goal

abbrev pub invariant-loop-word : goal.invariant-loop-word
invariant-loop-word l = record {
  table : l.seat.table ≡ l.fn.seat.table;
  follows : l.seat.follows ≡ l.fn.seat.follows;
  puts : Puts l.fn.seat.view l.seat.view l.row l.from (l.word - l.from) (λ i. 0);
}
