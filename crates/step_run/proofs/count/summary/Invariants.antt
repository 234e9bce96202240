use Rattle.std.proofs.Common.{◌≡◌, take}
use Rattle.report.specs.Words.{summary_of}
use Rattle.step_run.proofs.count.summary.Given as goal

abbrev pub invariant-loop-entry : goal.invariant-loop-entry
invariant-loop-entry l = l.summary ≡ summary_of (take l.entry-index l.entries)
