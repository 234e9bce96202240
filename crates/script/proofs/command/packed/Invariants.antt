use Rattle.std.proofs.Common.{◌≡◌, ◌≤◌, length, drop}
use Rattle.script.specs.Names as names
use Rattle.script.proofs.command.packed.Given as goal

-- the number of the bytes from this place on
abbrev pub invariant-loop-left : goal.invariant-loop-left
invariant-loop-left l = record {
  within : l.left ≤ length l.bytes;
  value : l.number ≡ names.packed (drop l.left l.bytes);
}

abbrev pub decreases-loop-left : goal.decreases-loop-left
decreases-loop-left l = l.left
