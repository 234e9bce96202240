use Rattle.std.proofs.Common.{◌≡◌, ◌-◌, length}
use Rattle.latch_shots.specs.Shots.{content_of}
use Rattle.shot_walks.specs.Waits.{AllEnded, Learns}
use Rattle.shot_walks.proofs.Orders.{met_from}
use Rattle.shot_walks.proofs.last.last_open.Given as goal

-- what the latches meet that were passed, from the end, has ended
abbrev pub invariant-loop-passed : goal.invariant-loop-passed
invariant-loop-passed l = record {
  same : content_of l.shots ≡ content_of l.fn.shots;
  learns : Learns l.fn.seat l.seat;
  ended : AllEnded l.seat.r.ended (met_from l.seat.r (length l.order - l.passed));
}
