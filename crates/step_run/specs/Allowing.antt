-- Which commands a run may be given, and what a check leaves.
use Rattle.std.specs.Prelude.{◌≡◌, ℕ, false, List, position, Some, slice_get}
use Rattle.script.specs.Commands.{same_name}
use Rattle.script.specs.Scripts.{IsOpening}
use Rattle.script.specs.declared.command.Command.{Command}
use Rattle.script.specs.declared.command.Command.TheVariants.{Begin, Wait, Check, Poison, Release, Metrics}
use Rattle.waiter.specs.Says.{OptimistSays}
use Rattle.step_run.specs.Lives.{LiveSays, has_name}
use Rattle.step_run.specs.declared.live.Value.TheVariants.{Optimist}

-- The name is that of an optimistic request that hasn't waited, if it is live.
abbrev pub AllowedCheck : List ℕ → List LiveSays → Type 0
AllowedCheck name ls = (i : ℕ) (l : LiveSays) → position (λ l. same_name l.name name) ls ≡ Some i → slice_get ls i ≡ Some l →
    (o : OptimistSays) × (l.value ≡ Optimist o)

-- A session opens a request only where it has no live name, and a check is of an optimistic request.
abbrev pub Allowed : Command → List LiveSays → Type 0
Allowed (Begin session name mode policy turns latches) ls = (has_name session ls ≡ false) × IsOpening session name turns latches
Allowed (Wait name) ls = Unit {0}
Allowed (Check name latches) ls = AllowedCheck name ls
Allowed (Poison name) ls = Unit {0}
Allowed (Release name) ls = Unit {0}
Allowed Metrics ls = Unit {0}
