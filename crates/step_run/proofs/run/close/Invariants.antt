use Rattle.std.proofs.Common.{◌≡◌, []}
use Rattle.std.specs.VecDeque.{deque_len}
use Rattle.step_run.specs.Runs.{Sound}
use Rattle.step_run.specs.Seen.{seen_run}
use Rattle.step_run.proofs.run.close.Given as goal

abbrev pub invariant-loop-live : goal.invariant-loop-live
invariant-loop-live l = record {
  sound : Sound 0 (seen_run l.run);
  idle : l.initial.run.lives.items ≡ [] → (l.run.lives.items ≡ []) × (l.run.desk.log ≡ l.initial.run.desk.log);
}

abbrev pub decreases-loop-live : goal.decreases-loop-live
decreases-loop-live l = deque_len l.run.lives
