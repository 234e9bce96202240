use Rattle.std.proofs.Common.{◌≡◌, ◌++◌, take}
use Rattle.report.specs.Reports.{latches_text}
use Rattle.report.proofs.lines.push_latches.Given as goal

abbrev pub invariant-loop-latch : goal.invariant-loop-latch
invariant-loop-latch l = l.out.items ≡ l.initial.out.items ++ latches_text (take l.latch-index l.latches)
