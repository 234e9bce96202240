use Rattle.std.proofs.Common.{◌≡◌, ◌≤◌, ◌-◌, false, length, take}
use Rattle.script.specs.Fields.{has_byte}
use Rattle.script.proofs.field.blocks_without.Given as goal

-- the byte isn't in what was passed
abbrev pub invariant-loop-passed : goal.invariant-loop-passed
invariant-loop-passed l = (l.passed ≤ length l.text) × (has_byte l.c (take l.passed l.text) ≡ false)

abbrev pub decreases-loop-passed : goal.decreases-loop-passed
decreases-loop-passed l = length l.text - l.passed
