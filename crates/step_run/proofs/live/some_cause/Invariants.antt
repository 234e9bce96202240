use Rattle.std.proofs.Common.{◌≡◌, ℕ, ◌<◌, true, get_or}
use Rattle.step_run.specs.Lives.{cause_of, is_none, seen_live}
use Rattle.step_run.specs.declared.live.Live.{Live}
use Rattle.step_run.proofs.live.some_cause.Given as goal

abbrev pub invariant-loop-i : goal.invariant-loop-i
invariant-loop-i l = (k : ℕ) (d : Live) → k < l.i → is_none (cause_of (seen_live (get_or l.lives.items k d)).value) ≡ true
