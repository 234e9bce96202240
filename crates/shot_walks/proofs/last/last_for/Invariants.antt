use Rattle.std.proofs.Common.{◌≡◌, ◌++◌, List}
use Rattle.latch_model.specs.Histories.{HeldLatch, met_by}
use Rattle.latch_shots.specs.Shots.{content_of}
use Rattle.latch_shots.specs.Walks.{Meets, walk_steps_left}
use Rattle.shot_walks.specs.Waits.{IsLastOpen, Learns}
use Rattle.shot_walks.proofs.last.last_for.Given as goal

-- of those that were met, this is the last that was found open
abbrev pub invariant-loop-met : goal.invariant-loop-met
invariant-loop-met l = record {
  same : content_of l.shots ≡ content_of l.fn.shots;
  learns : Learns l.fn.seat l.seat;
  walk : (front : List HeldLatch) × (todo : List HeldLatch) × Meets l.shots l.walk l.asked todo × (met_by l.fn.seat.r.shot l.asked ≡ front ++ todo)
      × IsLastOpen l.fn.seat.r l.seat.r front l.last;
}

abbrev pub decreases-loop-met : goal.decreases-loop-met
decreases-loop-met l = walk_steps_left l.walk
