use Rattle.std.proofs.Common.{◌≡◌, drop}
use Rattle.std.specs.List.{flat_map}
use Rattle.latch_model.specs.Histories.{Snapshot, in_waiting_order, met_by, met_in}
use Rattle.latch_shots.specs.Shots.{AreShots, content_of}
use Rattle.shot_walks.proofs.first.first_met.Given as goal

-- the latches that were passed met nothing
abbrev pub invariant-loop-k : goal.invariant-loop-k
invariant-loop-k l = record {
  same : content_of l.shots ≡ content_of l.fn.shots;
  none : (s : Snapshot) → AreShots l.fn.shots s → met_in s l.latches ≡ flat_map (met_by s) (drop l.k (in_waiting_order l.latches));
}
