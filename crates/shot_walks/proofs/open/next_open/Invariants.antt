use Rattle.std.proofs.Common.{◌≡◌, List}
use Rattle.latch_model.specs.Histories.{HeldLatch}
use Rattle.latch_shots.specs.Shots.{content_of}
use Rattle.latch_shots.specs.Walks.{Meets, walk_steps_left}
use Rattle.shot_walks.specs.Waits.{Learns, Passed}
use Rattle.shot_walks.proofs.open.next_open.Given as goal

abbrev pub invariant-loop-met : goal.invariant-loop-met
invariant-loop-met l = record {
  same : content_of l.shots ≡ content_of l.fn.shots;
  learns : Learns l.fn.seat l.seat;
  walk : (todo : List HeldLatch) → Meets l.fn.shots l.fn.walk l.asked todo
      → (rest : List HeldLatch) × Passed l.seat.r.ended todo rest × Meets l.shots l.walk l.asked rest;
}

abbrev pub decreases-loop-met : goal.decreases-loop-met
decreases-loop-met l = walk_steps_left l.walk
