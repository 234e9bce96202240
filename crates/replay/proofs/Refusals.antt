-- Why a request of a run didn't begin, by what its manager says.
use Rattle.std.proofs.Common.{◌≡◌, ◌≤◌, length, Some, IsSome}
use Rattle.latch_model.specs.Declaration.{Declaration}
use Rattle.latch_model.specs.declared.latch.Mode.{Mode}
use Rattle.sequence_core.specs.Says.{DeskState, LacksRows}
use Rattle.sequence_core.specs.declared.fault.SeqFault.{SeqFault}
use Rattle.signal_board.specs.Says.{PassSays}
use Rattle.step_run.specs.Faults.{StopsBy, fault_of}
use Rattle.step_run.specs.Runs.{HasProgramRoom}
use Rattle.step_run.specs.declared.fault.RunFault.{RunFault}
use Rattle.step_run.proofs.Stopping.{finds_place, lacks_rows}
use Rattle.latch_manager.specs.Declining.{Declined}
use Rattle.latch_manager.specs.Making.{Made}

module _ (made : Made) (old : PassSays) (mode : Mode) (request : Declaration) (fault : SeqFault) (new : PassSays)
    (d : Declined made old mode request fault new) where
  -- the desk of which the refusal speaks
  refuser : DeskState
  refuser = record { core = made.core; sizes = made.sizes; log = d.log; given = d.given; free = d.free }

  -- there was place for its latches
  pub declined_at_place : HasProgramRoom made.sizes → length request.latches ≤ 16 → IsSome (fault_of fault)
  unfolding refuser
  declined_at_place sizes few = finds_place refuser mode request.latches fault sizes few d.refuses

  -- what stops the run is what the refusal says
  pub declined_for : (is : RunFault) → fault_of fault ≡ Some is → StopsBy (LacksRows mode request.latches) is
  unfolding refuser
  declined_for is e = lacks_rows refuser mode request.latches fault is d.refuses e
