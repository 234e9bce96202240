use Rattle.std.proofs.Common.{take}
use Rattle.step_run.specs.Runs.{Sound}
use Rattle.step_run.specs.Seen.{seen_run}
use Rattle.step_run.proofs.Runs.{StandsAfter}
use Rattle.step_run.proofs.run_all.Given as goal

abbrev pub invariant-loop-i : goal.invariant-loop-i
invariant-loop-i l = record {
  sound : Sound 0 (seen_run l.run);
  stands : StandsAfter (take l.i l.fn.script) (seen_run l.run) l.out.items;
}
