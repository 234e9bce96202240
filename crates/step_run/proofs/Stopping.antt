-- Where a run stops for want of rows, an opening of its script lacks them; and at the sizes of a run no request is refused for its latches.
use Rattle.std.proofs.Common.{◌≡◌, ◌+◌, ◌-◌, ◌*◌, ◌<◌, ◌≤◌, List, length, Some, IsSome, refl, subst, arith}
use Rattle.std.specs.List.{Contains}
use Rattle.latch_model.specs.declared.latch.Latch.{Latch}
use Rattle.latch_model.specs.declared.latch.Mode.{Mode}
use Rattle.script.specs.declared.command.Command.{Command}
use Rattle.sequence_core.specs.Says.{DeskState, LacksRows, Refuses}
use Rattle.sequence_core.specs.declared.fault.SeqFault.{SeqFault}
use Rattle.sequence_core.specs.declared.fault.SeqFault.TheVariants as seq_faults
use Rattle.step_run.specs.Faults.{OpeningLacks, ScriptLacks, StopsBy, fault_of}
use Rattle.step_run.specs.Runs.{HasProgramRoom}
use Rattle.step_run.specs.declared.fault.RunFault.{RunFault}
use Rattle.step_run.specs.declared.fault.RunFault.TheVariants.{RowsOut, Memory}

-- what stops a command of a script stops the script
pub script_stops : (commands : List Command) (c : Command) (fault : RunFault) → Contains commands c → StopsBy (OpeningLacks c) fault
    → StopsBy (ScriptLacks commands) fault
script_stops commands c (RowsOut free need) has lacks = (c, has, lacks)
script_stops commands c Memory has lacks = tt

-- the latches of the other sessions leave place for those of one request
pub finds_place : (d : DeskState) (mode : Mode) (ls : List Latch) (fault : SeqFault) → HasProgramRoom d.sizes → length ls ≤ 16 → Refuses d mode ls fault
    → IsSome (fault_of fault)
finds_place d mode ls (seq_faults.LatchesFull held asked) sizes few r =
    let latches : d.sizes.latches ≡ 1024 = sizes.latches in
    let lanes : d.sizes.lanes ≡ 64 = sizes.lanes in
    let asks : asked ≡ length ls = r.2 in
    let over : d.sizes.latches < held + asked = r.3 in
    let most : held ≤ 16 * (d.sizes.lanes - 1) = r.4 in
    absurd (omega arith)
finds_place d mode ls (seq_faults.RowsOut free need) sizes few r = refl
finds_place d mode ls seq_faults.Memory sizes few r = refl

-- the cause of a refusal is that of the fault of the run
pub lacks_rows : (d : DeskState) (mode : Mode) (ls : List Latch) (fault : SeqFault) (is : RunFault) → Refuses d mode ls fault → fault_of fault ≡ Some is
    → StopsBy (LacksRows mode ls) is
lacks_rows d mode ls (seq_faults.LatchesFull held asked) is r e = absurd cc
lacks_rows d mode ls (seq_faults.RowsOut free need) is r e =
    let same : RowsOut free need ≡ is = cc in subst (StopsBy (LacksRows mode ls)) same r.2
lacks_rows d mode ls seq_faults.Memory is r e = let same : Memory ≡ is = cc in subst (StopsBy (LacksRows mode ls)) same tt
