-- The numbers of the causes of a fault.
use Rattle.std.specs.Prelude.{ℕ}
use Rattle.script.specs.declared.fault.FaultCause.{FaultCause}
use Rattle.script.specs.declared.fault.FaultCause.TheVariants as cause

abbrev pub number_of : FaultCause → ℕ
number_of cause.NoEnd = 1
number_of cause.OtherFirstLine = 2
number_of cause.NoCommand = 3
number_of cause.NoSession = 4
number_of cause.NoName = 5
number_of cause.NoPolicy = 6
number_of cause.NoTurns = 7
number_of cause.NoLatch = 8
number_of cause.LongKey = 9
number_of cause.Reversed = 10
number_of cause.ManyLatches = 11
number_of cause.BusySession = 12
number_of cause.UsedName = 13
number_of cause.NoOpenName = 14
number_of cause.NoCheck = 15
number_of cause.OpenAtEnd = 16
number_of cause.BytesBehindEnd = 17
number_of cause.TooLong = 18
