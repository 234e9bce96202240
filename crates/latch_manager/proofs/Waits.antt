-- A request stays the same through its polls, and its cause is one that a wait may find.
use Rattle.std.proofs.Common.{◌≡◌, ℕ, ◌+◌, ◌-◌, ◌^◌, ◌<◌, ◌≤◌, min, List, Option, Some, refl, sym, ◌∙◌, ap, subst, arith, inl, inr}
use Rattle.std.specs.List.{Contains}
use Rattle.std.proofs.Math.Nat.{min-le_left}
use Rattle.latch_model.specs.declared.history.Fault.TheVariants as fault
use Rattle.latch_model.specs.declared.history.Grant.TheVariants.{Never}
use Rattle.waiter.specs.declared.mark.Mark.{Mark}
use Rattle.latch_model.specs.Histories.{HeldLatch}
use Rattle.latch_model.specs.declared.history.Cause.{Cause}
use Rattle.latch_model.specs.declared.history.Cause.TheVariants.{None as no_cause, Called, From}
use Rattle.latch_model.specs.declared.latch.Policy.{Policy}
use Rattle.latch_model.specs.declared.latch.Policy.TheVariants.{Wait, Error}
use Rattle.signal_board.specs.Rule.{IsPrerequisite}
use Rattle.signal_board.specs.Says.{first_cause}
use Rattle.signal_board.specs.Views.{RequestView}
use Rattle.shot_walks.specs.Waits.{FirstOpen, waits_for}
use Rattle.waiter.specs.Says.{CoreId, EndingSays, Shows, ShowsLast, WaitingSays}
use Rattle.waiter.specs.Polls.{BlockedUnder, IsBlockedPoll, IsPoisonedPoll, Polls, SameBut}
use Rattle.waiter.specs.declared.waiting.Polled.{Polled}
use Rattle.waiter.specs.declared.waiting.Polled.TheVariants as polled
use Rattle.waiter.proofs.Polling.{first_waits}
use Rattle.latch_manager.specs.Waiting.{CauseAfter, CauseFound, StillWaits, WaitMeets, WaitStops}

-- a request that wasn't polled
came_so : (r : RequestView) (cause : Cause) (policy : Policy) → CauseFound r cause policy cause
came_so r no_cause Wait = tt
came_so r no_cause Error = refl
came_so r Called policy = refl
came_so r (From p) policy = refl

pub still-same : (r : RequestView) → StillWaits r r
still-same r = record { same = refl; cause = came_so r r.cause r.request.policy }

-- A request that learnt of ends alone.
abbrev pub LearntEnds : WaitingSays → WaitingSays → Type 0
LearntEnds old new = new ≡ record old { r = record old.r { ended = new.r.ended } }

module _ (old new : WaitingSays) (learnt : LearntEnds old new) where
  pub core-learnt : new.core ≡ old.core
  core-learnt = ap (λ (w : WaitingSays). w.core) learnt

  pub turns-learnt : new.turns ≡ old.turns
  turns-learnt = ap (λ (w : WaitingSays). w.turns) learnt

  pub still-learnt : (came : RequestView) → StillWaits came old.r → StillWaits came new.r
  still-learnt came still =
      subst (λ (w : WaitingSays). StillWaits came w.r) (sym learnt)
      (record { same = ap (λ (x : RequestView). record x { ended = new.r.ended }) still.same; cause = still.cause })

-- ---- what a poll finds

-- the request that blocks it is a prerequisite
blocker : (old new : RequestView) (x : HeldLatch) → FirstOpen old new x → IsPrerequisite old x.by x.lane
blocker old new x f = (x, first_waits old new x f, refl, refl)

first_found : (r : RequestView) (came now : Cause) (p lane : ℕ) → IsPrerequisite r p lane → CauseFound r came Wait now
    → CauseFound r came Wait (first_cause now (From p))
first_found r no_cause no_cause p lane is k = (lane, is)
first_found r no_cause Called p lane is k = k
first_found r no_cause (From q) p lane is k = k
first_found r Called now p lane is k = ap (λ (x : Cause). first_cause x (From p)) k
first_found r (From q) now p lane is k = ap (λ (x : Cause). first_cause x (From p)) k

same_cause : (r : RequestView) (came now later : Cause) (policy : Policy) → later ≡ now → CauseFound r came policy now → CauseFound r came policy later
same_cause r came now later policy e k = subst (CauseFound r came policy) (sym e) k

-- by the policy, what a blocked poll leaves as the cause
blocked_cause : (r old new : RequestView) (came : Cause) (policy : Policy) (p lane : ℕ) → IsPrerequisite r p lane → BlockedUnder policy old new p
    → CauseFound r came policy old.cause → CauseFound r came policy new.cause
blocked_cause r old new came Error p lane is found k = same_cause r came old.cause new.cause Error found.0 k
blocked_cause r old new came Wait p lane is (inl found) k =
    same_cause r came (first_cause old.cause (From p)) new.cause Wait found.1 (first_found r came old.cause p lane is k)
blocked_cause r old new came Wait p lane is (inr found) k = same_cause r came old.cause new.cause Wait found.0 k

module _ (came old new : WaitingSays) (still : StillWaits came.r old.r) (but : SameBut old new) where
  same_after : new.r ≡ record came.r { ended = new.r.ended; poisoned = new.r.poisoned; cause = new.r.cause }
  same_after =
      but.request
      ∙ ap (λ (x : RequestView). record x { ended = new.r.ended; poisoned = new.r.poisoned; cause = new.r.cause }) still.same

  policy_is : old.r.request.policy ≡ came.r.request.policy
  policy_is = ap (λ (x : RequestView). x.request.policy) still.same

  still-with : CauseAfter came.r new.r.cause → StillWaits came.r new.r
  still-with k = record { same = same_after; cause = k }

  keeps : new.r.cause ≡ old.r.cause → StillWaits came.r new.r
  keeps e = still-with (same_cause came.r came.r.cause old.r.cause new.r.cause came.r.request.policy e still.cause)

  prerequisite : (p lane : ℕ) → IsPrerequisite old.r p lane → IsPrerequisite came.r p lane
  prerequisite p lane is = subst (λ (x : RequestView). IsPrerequisite x p lane) (still.same) is

  pub still-polled : (answer : Polled) → Polls old new answer → StillWaits came.r new.r
  still-polled polled.Ready p = keeps p.same_cause
  still-polled (polled.Blocked by place) p =
      still-with (blocked_cause came.r old.r new.r came.r.cause came.r.request.policy by p.latch.lane
      (prerequisite by p.latch.lane (subst (λ (n : ℕ). IsPrerequisite old.r n p.latch.lane) (sym p.whose) (blocker old.r new.r p.latch p.first)))
      (subst (λ (x : Policy). BlockedUnder x old.r new.r by) policy_is p.found) still.cause)
  still-polled (polled.Poisoned by place) p = keeps p.same_cause

-- ---- what the wait answers then

waits_same : (came old : RequestView) → StillWaits came old → waits_for old ≡ waits_for came
waits_same came old still = ap waits_for still.same

-- It met a latch of a poisoned request.
pub wait-meets : (came old new : WaitingSays) (by place : ℕ) (mark : Mark) (ending : EndingSays) → new.core ≡ came.core → StillWaits came.r old.r →
    SameBut old new → IsPoisonedPoll old new by place → ShowsLast (Some mark) new.last →
    ending ≡ record { core = new.core; r = new.r; grant = Never; fault = fault.Poisoned by } → WaitMeets came mark ending
wait-meets came old new by place mark ending core still but p shows is =
    let m = subst (ShowsLast (Some mark)) p.last shows in
    let shown : Shows mark p.latch = subst (λ (x : Mark). Shows x p.latch) (sym (some_is mark m.0 m.1)) m.2 in
    let number : by ≡ mark.by = p.whose ∙ sym shown.0 in
    record {
      r = new.r;
      still = still-polled came old new still but (polled.Poisoned by place) p;
      x = p.latch;
      waits = subst (λ (xs : List HeldLatch). Contains xs p.latch) (waits_same came.r old.r still) (first_waits old.r new.r p.latch p.first);
      shows = shown;
      policy = ap (λ (x : RequestView). x.request.policy) (sym still.same) ∙ p.policy;
      ending_is =
          is ∙ ap (λ (x : CoreId × ℕ). record { core = x.0; r = new.r; grant = Never; fault = fault.Poisoned x.1 }) (λ i. (core i, number i));
    }
  where
    some_is : (a b : Mark) → Some a ≡ Some b → a ≡ b
    some_is a b e = cc

-- Its patience refused after a poll that was blocked.
pub wait-stops : (came old new : WaitingSays) (by place : ℕ) (limit : Option ℕ) (ending : EndingSays) → new.core ≡ came.core → StillWaits came.r old.r →
    SameBut old new → IsBlockedPoll old new by place → ((n : ℕ) → limit ≡ Some n → came.turns < n → old.turns < n) →
    ((n : ℕ) → limit ≡ Some n → n ≤ new.turns) → ending ≡ record { core = new.core; r = new.r; grant = Never; fault = fault.Cancelled new.turns } →
    WaitStops came new.turns limit ending
wait-stops came old new by place limit ending core still but p left most is = record {
  r = new.r;
  still = still-polled came old new still but (polled.Blocked by place) p;
  at_limit = λ n e lt.
      let before : old.turns < n = left n e lt in
      let now : n ≤ new.turns = most n e in
      let one : new.turns ≡ min (old.turns + 1) (2 ^ 64 - 1) = p.turns in
      let up : min (old.turns + 1) (2 ^ 64 - 1) ≤ old.turns + 1 = min-le_left (old.turns + 1) (2 ^ 64 - 1) in
      omega arith;
  ending_is = is ∙ ap (λ (x : CoreId). record { core = x; r = new.r; grant = Never; fault = fault.Cancelled new.turns }) core;
}
