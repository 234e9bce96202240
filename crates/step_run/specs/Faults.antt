-- When a run may stop without an output.
use Rattle.std.specs.Prelude.{ℕ, List, Option, Some, None}
use Rattle.std.specs.List.{Contains}
use Rattle.script.specs.declared.command.Command.{Command}
use Rattle.script.specs.declared.command.Command.TheVariants.{Begin, Wait, Check, Poison, Release, Metrics}
use Rattle.sequence_core.specs.Says.{LacksRows}
use Rattle.sequence_core.specs.declared.fault.SeqFault.{SeqFault}
use Rattle.sequence_core.specs.declared.fault.SeqFault.TheVariants as seq_faults
use Rattle.step_run.specs.declared.fault.RunFault.{RunFault}
use Rattle.step_run.specs.declared.fault.RunFault.TheVariants.{RowsOut, Memory}

-- The rows for the latches of an opening are more than are free. A look needs none, and no other command does.
abbrev pub OpeningLacks : Command → ℕ → ℕ → Type 0
OpeningLacks (Begin session name mode policy turns latches) free need = LacksRows mode latches free need
OpeningLacks (Wait name) free need = ⊥
OpeningLacks (Check name latches) free need = ⊥
OpeningLacks (Poison name) free need = ⊥
OpeningLacks (Release name) free need = ⊥
OpeningLacks Metrics free need = ⊥

-- That is so of one of these commands.
abbrev pub ScriptLacks : List Command → ℕ → ℕ → Type 0
ScriptLacks commands free need = (c : Command) × Contains commands c × OpeningLacks c free need

-- A run stopped where so many rows were free and needed, or for want of memory, which may come at any time.
abbrev pub StopsBy : (ℕ → ℕ → Type 0) → RunFault → Type 0
StopsBy Lacks (RowsOut free need) = Lacks free need
StopsBy Lacks Memory = Unit {0}

-- The fault of a run in which a request doesn't begin: rows or memory. At the sizes of a run there is place for the latches.
abbrev pub fault_of : SeqFault → Option RunFault
fault_of (seq_faults.LatchesFull held asked) = None
fault_of (seq_faults.RowsOut free need) = Some (RowsOut free need)
fault_of seq_faults.Memory = Some Memory
