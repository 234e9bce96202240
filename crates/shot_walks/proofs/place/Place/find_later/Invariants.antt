use Rattle.std.proofs.Common.{◌≡◌, None}
use Rattle.latch_shots.specs.Shots.{content_of}
use Rattle.shot_walks.specs.Places.{Stands}
use Rattle.shot_walks.specs.Waits.{Learns}
use Rattle.shot_walks.proofs.place.Place.find_later.Given as goal

-- it goes on with the latch number k
abbrev pub invariant-loop-k : goal.invariant-loop-k
invariant-loop-k l = record {
  same : content_of l.shots ≡ content_of l.fn.shots;
  learns : Learns l.fn.seat l.seat;
  stands : Stands (content_of l.shots) (record l.self { ask = l.k }) l.seat.r None;
}
