-- What a wait answers: how the request comes out of it, and why it failed.
use Rattle.std.specs.Prelude.{◌≡◌, ℕ, ◌≤◌, ◌<◌, Option, Some, length}
use Rattle.std.specs.List.{Contains}
use Rattle.latch_model.specs.Histories.{HeldLatch}
use Rattle.latch_model.specs.declared.history.Cause.{Cause}
use Rattle.latch_model.specs.declared.history.Cause.TheVariants.{None as no_cause, Called, From}
use Rattle.latch_model.specs.declared.history.Fault.TheVariants as fault
use Rattle.latch_model.specs.declared.history.Grant.TheVariants.{Never, Waited}
use Rattle.latch_model.specs.declared.latch.Policy.{Policy}
use Rattle.latch_model.specs.declared.latch.Policy.TheVariants.{Wait, Error}
use Rattle.signal_board.specs.Rule.{IsPrerequisite}
use Rattle.signal_board.specs.Views.{RequestView}
use Rattle.shot_walks.specs.Waits.{waits_for}
use Rattle.waiter.specs.Says.{EndingSays, GrantedSays, Shows, WaitingSays}
use Rattle.waiter.specs.declared.mark.Mark.{Mark}

-- A cause that a wait may find: none, or a prerequisite that was poisoned.
abbrev pub IsFound : RequestView → Cause → Type 0
IsFound r no_cause = Unit {0}
IsFound r Called = ⊥
IsFound r (From p) = (lane : ℕ) × IsPrerequisite r p lane

-- The cause with which a request comes out of a wait: one that came stays; where none came, one may be found under the policy Wait, and under the
-- policy Error there is none.
abbrev pub CauseFound : RequestView → Cause → Policy → Cause → Type 0
CauseFound r no_cause Wait cause = IsFound r cause
CauseFound r no_cause Error cause = cause ≡ no_cause
CauseFound r Called policy cause = cause ≡ Called
CauseFound r (From p) policy cause = cause ≡ From p

abbrev pub CauseAfter : RequestView → Cause → Type 0
CauseAfter r cause = CauseFound r r.cause r.request.policy cause

-- A request after some polls: it is the same but for what it knows of others, and for its cause.
pub record StillWaits (old new : RequestView) : Type 0 where
  pub same : new ≡ record old { ended = new.ended; poisoned = new.poisoned; cause = new.cause }
  pub cause : CauseAfter old new.cause

-- A wait that grants: the front is no less than what the request has been shown.
pub record WaitGrants (waiting : WaitingSays) (granted : GrantedSays) : Type 0 where
  pub r : RequestView
  pub still : StillWaits waiting.r r
  pub front : ℕ
  pub later : length r.shown ≤ front
  pub granted_is : granted ≡ record { core = waiting.core; r = record r { front = Some front }; grant = Waited front }

-- Where the patience has a limit and the request came with fewer turns, its turns are the limit now.
abbrev pub AtLimit : Option ℕ → ℕ → ℕ → Type 0
AtLimit limit came now = (n : ℕ) → limit ≡ Some n → came < n → now ≡ n

-- A wait that met a latch of a poisoned request, under the policy Error. The mark shows that latch.
pub record WaitMeets (waiting : WaitingSays) (mark : Mark) (ending : EndingSays) : Type 0 where
  pub r : RequestView
  pub still : StillWaits waiting.r r
  pub x : HeldLatch
  pub waits : Contains (waits_for waiting.r) x
  pub shows : Shows mark x
  pub policy : waiting.r.request.policy ≡ Error
  pub ending_is : ending ≡ record { core = waiting.core; r = r; grant = Never; fault = fault.Poisoned mark.by }

-- A wait whose patience refused: so many polls were Blocked.
pub record WaitStops (waiting : WaitingSays) (turns : ℕ) (limit : Option ℕ) (ending : EndingSays) : Type 0 where
  pub r : RequestView
  pub still : StillWaits waiting.r r
  pub at_limit : AtLimit limit waiting.turns turns
  pub ending_is : ending ≡ record { core = waiting.core; r = r; grant = Never; fault = fault.Cancelled turns }
