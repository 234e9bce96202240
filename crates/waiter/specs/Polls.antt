-- What a poll and a check answer, and when.
use Rattle.std.specs.Prelude.{◌≡◌, ◌⊎◌, ℕ, ◌+◌, ◌-◌, ◌^◌, min, not, List, [], ◌∷◌, position, Option, Some, None}
use Rattle.std.specs.List.{Contains}
use Rattle.latch_model.specs.Checks.{is_declared}
use Rattle.latch_model.specs.Histories.{HeldLatch, met_in}
use Rattle.latch_model.specs.declared.history.Cause.TheVariants.{From}
use Rattle.latch_model.specs.declared.latch.Latch.{Latch}
use Rattle.latch_model.specs.declared.latch.Policy.{Policy}
use Rattle.latch_model.specs.declared.latch.Policy.TheVariants.{Wait, Error}
use Rattle.shot_walks.specs.Waits.{FirstOpen}
use Rattle.signal_board.specs.Says.{first_cause}
use Rattle.signal_board.specs.Steps.{IsReady}
use Rattle.signal_board.specs.Views.{RequestView}
use Rattle.waiter.specs.Says.{Blocked, OptimistSays, Poisoned, Ready, WaitingSays}
use Rattle.waiter.specs.declared.optimist.Checked.{Checked}
use Rattle.waiter.specs.declared.optimist.Checked.TheVariants as checked
use Rattle.waiter.specs.declared.waiting.Polled.{Polled}
use Rattle.waiter.specs.declared.waiting.Polled.TheVariants as polled

-- A poll changes nothing but what is known of ends and of poison, the request's own cause, its turns and its last poll; and what was known stays known.
pub record SameBut (old new : WaitingSays) : Type 0 where
  pub core : new.core ≡ old.core
  pub request : new.r ≡ record old.r { ended = new.r.ended; poisoned = new.r.poisoned; cause = new.r.cause }
  pub ended : (p : ℕ) → Contains old.r.ended p → Contains new.r.ended p
  pub poisoned : (p : ℕ) → Contains old.r.poisoned p → Contains new.r.poisoned p

-- The request by which it is blocked wasn't found poisoned: then no cause and no poison is new, and if it was known to be poisoned, it is then known ended,
-- since an open one that is poisoned stays so.
abbrev pub FoundSound : RequestView → RequestView → ℕ → Type 0
FoundSound old new by = (new.cause ≡ old.cause) × (new.poisoned ≡ old.poisoned) × (Contains old.poisoned by → Contains new.ended by)

-- It was found poisoned, under the policy Wait: then it is known poisoned, and the request is poisoned from it, unless it has a cause already.
abbrev pub FoundPoisoned : RequestView → RequestView → ℕ → Type 0
FoundPoisoned old new by = Contains new.poisoned by × (new.cause ≡ first_cause old.cause (From by))

-- What a blocked poll found of the poison of the request that blocks it, by policy.
abbrev pub BlockedUnder : Policy → RequestView → RequestView → ℕ → Type 0
BlockedUnder Error old new by = FoundSound old new by
BlockedUnder Wait old new by = FoundPoisoned old new by ⊎ FoundSound old new by

-- Ready: each prerequisite is known ended.
pub record IsReadyPoll (old new : WaitingSays) : Type 0 where
  pub last : new.last ≡ Ready
  pub ready : IsReady new.r
  pub same_cause : new.r.cause ≡ old.r.cause
  pub same_poisoned : new.r.poisoned ≡ old.r.poisoned
  pub turns : new.turns ≡ old.turns

-- Blocked by latch number `place` of request `by`, which counts as a turn.
pub record IsBlockedPoll (old new : WaitingSays) (by place : ℕ) : Type 0 where
  pub latch : HeldLatch
  pub last : new.last ≡ Blocked latch
  pub whose : by ≡ latch.by
  pub which : place ≡ latch.place
  pub first : FirstOpen old.r new.r latch
  pub turns : new.turns ≡ min (old.turns + 1) (2 ^ 64 - 1)
  pub found : BlockedUnder old.r.request.policy old.r new.r by

-- Poisoned by latch number `place` of request `by`, which was found poisoned: under the policy Error alone.
pub record IsPoisonedPoll (old new : WaitingSays) (by place : ℕ) : Type 0 where
  pub latch : HeldLatch
  pub last : new.last ≡ Poisoned latch
  pub whose : by ≡ latch.by
  pub which : place ≡ latch.place
  pub first : FirstOpen old.r new.r latch
  pub policy : old.r.request.policy ≡ Error
  pub found : Contains new.r.poisoned by
  pub same_cause : new.r.cause ≡ old.r.cause
  pub turns : new.turns ≡ old.turns

-- What a poll leaves, by its answer.
abbrev pub Polls : WaitingSays → WaitingSays → Polled → Type 0
Polls old new polled.Ready = IsReadyPoll old new
Polls old new (polled.Blocked by place) = IsBlockedPoll old new by place
Polls old new (polled.Poisoned by place) = IsPoisonedPoll old new by place

-- The place of the first asked latch that lies in no declared one, where there is one.
abbrev pub first_undeclared : List Latch → List Latch → Option ℕ
first_undeclared declared asked = position (λ l. not (is_declared declared l)) asked

-- What a check leaves, by its answer. Clear: each asked latch lies in a declared one and none meets a latch of the snapshot; they are kept as the check that
-- passed. Met: each lies in a declared one, and this latch of the snapshot is the first that they meet, in the waiting order; no check that passed stands any
-- more. NotDeclared: the asked latch at this place is the first that lies in no declared one, and nothing changes. What isn't kept is handed back.
abbrev pub Checks : OptimistSays → OptimistSays → List Latch → Checked → Type 0
Checks old new asked checked.Clear =
    (first_undeclared old.r.request.latches asked ≡ None) × (met_in old.r.shot asked ≡ []) × (new ≡ record old { passed = Some asked })
Checks old new asked (checked.Met by place back) =
    (first_undeclared old.r.request.latches asked ≡ None)
    × (back ≡ asked)
    × ((x : HeldLatch) × (rest : List HeldLatch) × (met_in old.r.shot asked ≡ x ∷ rest) × (by ≡ x.by) × (place ≡ x.place)
    × (new ≡ record old { met = Some x; passed = None }))
Checks old new asked (checked.NotDeclared index back) = (first_undeclared old.r.request.latches asked ≡ Some index) × (back ≡ asked) × (new ≡ old)
