use Rattle.std.proofs.Common.{◌≢◌, ℕ, ◌+◌, ◌<◌, ◌≤◌, length, get_or}
use Rattle.step_run.proofs.last.last_line.Given as goal

abbrev pub invariant-loop-from : goal.invariant-loop-from
invariant-loop-from l = record {
  inside : l.from < length l.text;
  one_feed : (k : ℕ) → l.from ≤ k → k + 1 < length l.text → get_or l.text k 0 ≢ 10;
}

abbrev pub decreases-loop-from : goal.decreases-loop-from
decreases-loop-from l = l.from
