use Rattle.std.proofs.Common.{◌≡◌, ◌-◌, ◌≤◌, ◌++◌, vec_capacity}
use Rattle.sequence_core.specs.Lanes.{lanes_below}
use Rattle.sequence_core.proofs.lanes.FreeLanes.new.Given as goal

abbrev pub invariant-loop-taken : goal.invariant-loop-taken
invariant-loop-taken l = record {
  items : l.free.items ++ lanes_below (l.lanes - l.taken) ≡ lanes_below l.lanes;
  room : l.lanes ≤ vec_capacity l.free;
}
