-- What the report of a replay tells, for every script and every schedule of its sessions.
use Rattle.std.specs.Prelude.{◌≡◌, ◌↔◌, ℕ, false, List}
use Rattle.std.specs.List.{Contains}
use Rattle.latch_model.specs.Histories.{before, is_open}
use Rattle.latch_model.specs.Legal.{Excludes, HeldInConflict, IsLegal, NamesPoisoned}
use Rattle.latch_model.specs.declared.history.Cause.{Cause}
use Rattle.latch_model.specs.declared.history.Entry.{Entry}
use Rattle.latch_model.specs.declared.history.Entry.TheVariants.{Ended}
use Rattle.latch_model.specs.declared.history.Fault.TheVariants.{Poisoned}
use Rattle.latch_model.specs.declared.history.Grant.{Grant}
use Rattle.script.specs.Follows.{FollowsScript}
use Rattle.script.specs.declared.command.Command.{Command}
use Rattle.replay.specs.Running.{program_sizes}

-- One history of a run of a script: it is legal at the program's sizes, and each of its requests has ended; each session's calls stand in it
-- once and in their order, and no others; the prerequisites of a request are the requests that held conflicting latches at its begin; no two
-- requests hold conflicting latches at a moment when both are granted; and a poison error names an earlier request that held a conflicting
-- latch and was poisoned.
pub record IsRunOf (commands : List Command) (h : List Entry) : Type 0 where
  pub legal : IsLegal h program_sizes
  pub closed : (id : ℕ) → is_open h id ≡ false
  pub follows : FollowsScript h commands
  pub prerequisites : (id p : ℕ) → Contains (before h id) p ↔ HeldInConflict h id p
  pub excludes : Excludes h program_sizes
  pub poison_errors : (id who p : ℕ) (grant : Grant) (cause : Cause) → Contains h (Ended id who grant cause (Poisoned p)) → NamesPoisoned h id p
