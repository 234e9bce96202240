use Rattle.std.proofs.Common.{◌-◌, ◌+◌, ◌∙◌, ◌++◌, ap, arith}
use Rattle.sequence_core.specs.Lanes.{lanes_below}
use Rattle.sequence_core.proofs.LaneLists.{all_next}
use Rattle.sequence_core.proofs.lanes.FreeLanes.new.Goals as goal

pub loop-taken-preserved : goal.loop-taken-preserved
loop-taken-preserved c = record {
  items =
      ap (λ xs. xs ++ lanes_below (c.args.lanes - (c.loop-taken.taken + 1))) c.in_ok-push.ensures.items
      ∙ all_next c.args.lanes c.loop-taken.taken c.loop-taken.free.items (lanes_below c.args.lanes) c.loop-taken-test.true c.loop-taken.invariant.items;
  room = omega (arith, c.in_ok-push.ensures.capacity);
}
