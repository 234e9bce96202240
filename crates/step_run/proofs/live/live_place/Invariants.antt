use Rattle.std.proofs.Common.{◌≡◌, ℕ, ◌<◌, false, get_or}
use Rattle.script.specs.Commands.{same_name}
use Rattle.step_run.specs.declared.live.Live.{Live}
use Rattle.step_run.proofs.live.live_place.Given as goal

abbrev pub invariant-loop-i : goal.invariant-loop-i
invariant-loop-i l = (k : ℕ) (d : Live) → k < l.i → same_name (get_or l.lives.items k d).name.now l.name ≡ false
