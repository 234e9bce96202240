use Rattle.std.proofs.Common.{arith}
use Rattle.tree_rows.proofs.Shrinking.{same-then}
use Rattle.tree_rows.proofs.removal.grow.Goals as goal

pub loop-k-preserved : goal.loop-k-preserved
loop-k-preserved c = record {
  stand = c.come-came.ensures.stand c.loop-k.k c.loop-k.invariant.stand (omega arith);
  same_seat = same-then c.args.seat.now.view c.loop-k.seat.view c.come-came.new.seat.view c.loop-k.invariant.same_seat c.come-came.ensures.same_seat;
}
