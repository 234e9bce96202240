use Rattle.std.proofs.Common.{◌≡◌, length}
use Rattle.script.specs.Lines.{latches_at}
use Rattle.script.proofs.Loop.{with_front}
use Rattle.script.proofs.line.latches.Given as goal

-- the latches so far and those of the fields that are left are those of all
abbrev pub invariant-loop-field : goal.invariant-loop-field
invariant-loop-field l = with_front l.list.items (latches_at l.fields) ≡ latches_at l.fn.fields

abbrev pub decreases-loop-field : goal.decreases-loop-field
decreases-loop-field l = length l.fields
