use Rattle.std.proofs.Common.{◌≡◌, ◌++◌, List}
use Rattle.latch_model.specs.Histories.{HeldLatch, Snapshot, met_by}
use Rattle.latch_shots.specs.Shots.{AreShots, content_of}
use Rattle.latch_shots.specs.Walks.{Meets, walk_steps_left}
use Rattle.shot_walks.proofs.Numbering.{numbers}
use Rattle.shot_walks.proofs.numbers.add_for.Given as goal

-- the numbers so far and those of what the walk still comes to are all
abbrev pub invariant-loop-met : goal.invariant-loop-met
invariant-loop-met l = record {
  same : content_of l.shots ≡ content_of l.fn.shots;
  walk : (s : Snapshot) → AreShots l.fn.shots s
      → (todo : List HeldLatch) × Meets l.shots l.walk l.asked todo × (l.ids.items ++ numbers todo ≡ l.fn.ids.items ++ numbers (met_by s l.asked));
}

abbrev pub decreases-loop-met : goal.decreases-loop-met
decreases-loop-met l = walk_steps_left l.walk
