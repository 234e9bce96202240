-- The numbers of the statuses.
use Rattle.std.specs.Prelude.{ℕ}
use Rattle.latch_tool.specs.declared.status.Status.{Status}
use Rattle.latch_tool.specs.declared.status.Status.TheVariants.{Done, Usage, Script, ReadFault, WriteFault, Memory, RowsOut}

abbrev pub code_of : Status → ℕ
code_of Done = 0
code_of Usage = 2
code_of (Script line cause) = 3
code_of ReadFault = 4
code_of WriteFault = 5
code_of Memory = 6
code_of (RowsOut free need) = 7
