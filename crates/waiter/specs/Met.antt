-- What is kept of a held latch that was met, and of the last poll.
use Rattle.std.specs.Prelude.{Bool, true, false, Option, Some, None}
use Rattle.latch_model.specs.Histories.{HeldLatch}
use Rattle.waiter.specs.declared.mark.Met.{Met}
use Rattle.waiter.specs.declared.waiting.Stage.{Stage}
use Rattle.waiter.specs.declared.waiting.Stage.TheVariants as stage
use Rattle.waiter.specs.Says.{Last, Unpolled, Ready, Blocked, Poisoned}

-- the held latch that a mark and what is kept beside it show
abbrev pub held_of : Met → HeldLatch
held_of m = record {
  by = m.mark.by;
  lane = m.lane;
  place = m.mark.place;
  latch = record { access = m.access; span = m.mark.span; stamp = m.mark.stamp };
}

-- the last poll of a request that keeps this stage and what it met
abbrev pub last_of : Stage → HeldLatch → Last
last_of stage.Unpolled x = Unpolled
last_of stage.Ready x = Ready
last_of stage.Blocked x = Blocked x
last_of stage.Poisoned x = Poisoned x

-- what the last check met, where one met
abbrev pub met_of : Bool → HeldLatch → Option HeldLatch
met_of true x = Some x
met_of false x = None
