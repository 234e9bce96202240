use Rattle.std.proofs.Common.{◌≡◌, ◌++◌, drop}
use Rattle.std.specs.List.{flat_map}
use Rattle.latch_model.specs.Histories.{Snapshot, in_waiting_order, met_by, met_in}
use Rattle.latch_shots.specs.Shots.{AreShots, content_of}
use Rattle.shot_walks.proofs.Numbering.{numbers}
use Rattle.shot_walks.proofs.numbers.add_met.Given as goal

-- the numbers so far and those of what the other latches meet are all
abbrev pub invariant-loop-k : goal.invariant-loop-k
invariant-loop-k l = record {
  same : content_of l.shots ≡ content_of l.fn.shots;
  numbers : (s : Snapshot) → AreShots l.fn.shots s
      → l.ids.items ++ numbers (flat_map (met_by s) (drop l.k (in_waiting_order l.latches))) ≡ l.fn.ids.items ++ numbers (met_in s l.latches);
}
