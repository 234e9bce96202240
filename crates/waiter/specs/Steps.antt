-- The steps of a poll.
use Rattle.std.specs.Prelude.{◌≡◌, ℕ, Bool, true, false}
use Rattle.std.specs.List.{Contains}
use Rattle.latch_model.specs.declared.latch.Policy.{Policy}
use Rattle.latch_model.specs.declared.latch.Policy.TheVariants.{Error}
use Rattle.signal_board.specs.Says.{LaneSays}
use Rattle.signal_board.specs.Views.{RequestView}
use Rattle.waiter.specs.Polls.{BlockedUnder}

-- Whether the request that blocks was found poisoned under the policy Error; and what was found otherwise.
abbrev pub Judges : Policy → RequestView → RequestView → ℕ → Bool → Type 0
Judges policy old new by true = (policy ≡ Error) × Contains new.poisoned by × (new.cause ≡ old.cause)
Judges policy old new by false = BlockedUnder policy old new by

pub record Judged (policy : Policy) (old new : LaneSays) (by : ℕ) (bad : Bool) : Type 0 where
  pub same : new ≡ record old { r = record old.r { ended = new.r.ended; poisoned = new.r.poisoned; cause = new.r.cause } }
  pub ended : (p : ℕ) → Contains old.r.ended p → Contains new.r.ended p
  pub poisoned : (p : ℕ) → Contains old.r.poisoned p → Contains new.r.poisoned p
  pub judges : Judges policy old.r new.r by bad
