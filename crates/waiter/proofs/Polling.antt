-- What the steps of a poll leave.
use Rattle.std.proofs.Common.{◌≡◌, ◌+◌, ◌-◌, ◌^◌, ◌≤◌, ◌∙◌, ℕ, min, Bool, true, false, List, [], ◌∷◌, refl, sym, ap, subst, inl, inr, arith}
use Rattle.std.specs.List.{Contains}
use Rattle.latch_model.specs.Histories.{HeldLatch}
use Rattle.latch_model.specs.declared.history.Cause.TheVariants.{From}
use Rattle.latch_model.specs.declared.latch.Policy.{Policy}
use Rattle.latch_model.specs.declared.latch.Policy.TheVariants.{Wait, Error}
use Rattle.latch_model.specs.Declaration.{Declaration}
use Rattle.latch_model.specs.declared.latch.Mode.{Mode}
use Rattle.latch_shots.specs.Shots.{content_of}
use Rattle.latch_shots.specs.declared.shots.Shots.{Shots}
use Rattle.shot_walks.specs.Orders.{IsOrder}
use Rattle.shot_walks.specs.Places.{Stands}
use Rattle.shot_walks.specs.declared.place.Place.{Place}
use Rattle.waiter.specs.Kept.{WaitingKept, WalkKept, stood_at}
use Rattle.shot_walks.specs.Waits.{AllEnded, FirstOpen, Learns, waits_for}
use Rattle.shot_walks.proofs.Ends.{passed_ahead, passed_grow, waits_still}
use Rattle.signal_board.specs.Rule.{IsPrerequisite}
use Rattle.signal_board.specs.Says.{LaneSays, first_cause, told_cause, told_end}
use Rattle.signal_board.specs.Steps.{IsReady, MayHave, known}
use Rattle.signal_board.specs.Views.{RequestView}
use Rattle.waiter.specs.Polls.{BlockedUnder, IsBlockedPoll, IsPoisonedPoll, IsReadyPoll, SameBut}
use Rattle.waiter.specs.Says.{Blocked, CoreId, Last, Poisoned, Ready, WaitingSays}
use Rattle.waiter.specs.Steps.{Judged}
use Rattle.waiter.proofs.Keeping.{heard, learnt, waiting_knows}

-- Whether the request that blocks was found poisoned.
pub judged_sound : (policy : Policy) (s t : LaneSays) (p : ℕ) → t ≡ record s { r = told_cause false p s.r } →
    (Contains s.r.poisoned p → Contains t.r.ended p) → Judged policy s t p false
judged_sound policy s t p e fell =
    subst (λ (w : LaneSays). (Contains s.r.poisoned p → Contains w.r.ended p) → Judged policy s w p false) (sym e) (go (known p s.r.poisoned)) fell
  where
    under : (policy : Policy) (b : Bool) → (Contains s.r.poisoned p → Contains (told_end b p s.r).ended p) → BlockedUnder policy s.r (told_end b p s.r) p
    under Error true f = (refl, refl, f)
    under Error false f = (refl, refl, f)
    under Wait true f = inr (refl, refl, f)
    under Wait false f = inr (refl, refl, f)

    go : (b : Bool) → (Contains s.r.poisoned p → Contains (told_end b p s.r).ended p) → Judged policy s (record s { r = told_end b p s.r }) p false
    go true f = record { same = refl; ended = heard (p ∷ []) s.r.ended; poisoned = λ q h. h; judges = under policy true f }
    go false f = record { same = refl; ended = λ q h. h; poisoned = λ q h. h; judges = under policy false f }

pub judged_bad : (policy : Policy) (s t : LaneSays) (p : ℕ) → t ≡ record s { r = told_cause true p s.r } → policy ≡ Error → Judged policy s t p true
judged_bad policy s t p e is =
    subst (λ (w : LaneSays). Judged policy s w p true) (sym e)
    (record { same = refl; ended = λ q h. h; poisoned = heard (p ∷ []) s.r.poisoned; judges = (is, (0, omega arith, refl), refl) })

pub judged_caused : (policy : Policy) (s t u : LaneSays) (p : ℕ) → t ≡ record s { r = told_cause true p s.r } →
    u ≡ record t { r = record t.r { cause = first_cause t.r.cause (From p) } } → policy ≡ Wait → Judged policy s u p false
judged_caused policy s t u p e d is =
    subst (λ (w : LaneSays). Judged policy s w p false) (sym (d
    ∙ ap (λ (w : LaneSays). record w { r = record w.r { cause = first_cause w.r.cause (From p) } }) e))
    (subst (λ (x : Policy). Judged x s caused p false) (sym is)
    (record { same = refl; ended = λ q h. h; poisoned = heard (p ∷ []) s.r.poisoned; judges = inl ((0, omega arith, refl), refl) }))
  where
    caused : LaneSays
    caused = record s { r = record s.r { poisoned = p ∷ s.r.poisoned; cause = first_cause s.r.cause (From p) } }

pub may_have : (s t : LaneSays) (p lane : ℕ) → t ≡ record s { r = told_cause true p s.r } → s.r.request.policy ≡ Wait → IsPrerequisite s.r p lane →
    MayHave t.r (From p)
may_have s t p lane e policy is =
    subst (λ (w : LaneSays). MayHave w.r (From p)) (sym e) (policy, (lane, is), (0, omega arith, refl))

-- The held latch that is found is one that the request waits for.
pub first_waits : (r t : RequestView) (x : HeldLatch) → FirstOpen r t x → Contains (waits_for r) x
first_waits r t x f = passed_ahead t.ended (waits_for r) (x ∷ f.rest) x f.passed (0, omega arith, refl)

-- Where the request stands after it has gone on.
pub walk_found : (s t : LaneSays) (shots new : Shots) (order : List ℕ) (place next : Place) (last found : Last) → Learns s t →
    WalkKept s.r shots order place last →
    Stands (content_of new) next t.r (stood_at found) → WalkKept t.r new order next found
walk_found s t shots new order place next last found l w stands = record {
  order_is = subst (λ (x : LaneSays). IsOrder order x.r.request.latches) (sym l.0) w.order_is;
  stands = stands;
}

-- Each prerequisite is known ended.
pub ready : (r t : RequestView) → r.request ≡ t.request → r.shot ≡ t.shot → AllEnded t.ended (waits_for r) → IsReady t
ready r t er es all = λ p lane w. subst (Contains t.ended) w.2 (all w.0 (subst (λ (y : List HeldLatch). Contains y w.0)
    (λ i. waits_for (record r { request = sym er i; shot = sym es i })) w.1))

-- A poll: from the old seat to the one that has learnt of ends, and to the one that was told of poison.
abbrev pub says : CoreId → RequestView → ℕ → Last → WaitingSays
says core r turns last = record { core = core; r = r; turns = turns; last = last }

-- what the first open one is, once more is known
first_after : (s m : RequestView) (t : RequestView) (x : HeldLatch) → ((p : ℕ) → Contains m.ended p → Contains t.ended p) → FirstOpen s m x → FirstOpen s t x
first_after s m t x keeps f = record {
  rest = f.rest;
  passed = passed_grow m.ended t.ended (waits_for s) (x ∷ f.rest) keeps f.passed;
  not_shown = f.not_shown;
}

-- Ends that were learnt before don't matter to what was found of poison.
under_learnt : (policy : Policy) (s m t : LaneSays) (by : ℕ) → Learns s m → BlockedUnder policy m.r t.r by → BlockedUnder policy s.r t.r by
under_learnt policy s m t by l u = go policy (subst (λ (w : LaneSays). BlockedUnder policy w.r t.r by) l.0 u)
  where
    go : (policy : Policy) → BlockedUnder policy (record s.r { ended = m.r.ended }) t.r by → BlockedUnder policy s.r t.r by
    go Error v = v
    go Wait v = v

module _ (core new_core : CoreId) (s m t : LaneSays) (turns more : ℕ) (last : Last) (policy : Policy) (p place : ℕ) (x : HeldLatch)
    (learns : Learns s m) (is : policy ≡ s.r.request.policy) (found : FirstOpen s.r m.r x) (whose : p ≡ x.by) (which : place ≡ x.place) where
  pub blocked_poll : Judged policy m t p false → more ≡ min (turns + 1) (2 ^ 64 - 1) →
      IsBlockedPoll (says core s.r turns last) (says new_core t.r more (Blocked x)) p place
  blocked_poll j counts = record {
    latch = x;
    last = refl;
    whose = whose;
    which = which;
    first = first_after s.r m.r t.r x j.ended found;
    turns = counts;
    found = subst (λ (y : Policy). BlockedUnder y s.r t.r p) is (under_learnt policy s m t p learns j.judges);
  }

  pub poisoned_poll : Judged policy m t p true → IsPoisonedPoll (says core s.r turns last) (says new_core t.r turns (Poisoned x)) p place
  poisoned_poll j = record {
    latch = x;
    last = refl;
    whose = whose;
    which = which;
    first = first_after s.r m.r t.r x j.ended found;
    policy = sym is ∙ j.judges.0;
    found = j.judges.1;
    same_cause = j.judges.2 ∙ ap (λ (w : LaneSays). w.r.cause) learns.0;
    turns = refl;
  }

-- What a poll leaves as it was.
pub same_judged : (core new_core : CoreId) (s m t : LaneSays) (turns more : ℕ) (last next : Last) (policy : Policy) (p : ℕ) (bad : Bool) → new_core ≡ core →
    Learns s m → Judged policy m t p bad → SameBut (says core s.r turns last) (says new_core t.r more next)
same_judged core new_core s m t turns more last next policy p bad cores l j = record {
  core = cores;
  request = ap (λ (w : LaneSays). w.r) j.same ∙ ap (λ (w : LaneSays). record w.r { ended = t.r.ended; poisoned = t.r.poisoned; cause = t.r.cause }) l.0;
  ended = λ q has. j.ended q (l.1 q has);
  poisoned = λ q has. j.poisoned q (subst (λ (w : LaneSays). Contains w.r.poisoned q) (sym l.0) has);
}

pub same_ready : (core new_core : CoreId) (s m : LaneSays) (turns : ℕ) (last : Last) → new_core ≡ core → Learns s m →
    SameBut (says core s.r turns last) (says new_core m.r turns Ready)
same_ready core new_core s m turns last cores l = record {
  core = cores;
  request = ap (λ (w : LaneSays). w.r) l.0 ∙ ap (λ (w : LaneSays). record s.r { ended = m.r.ended; poisoned = w.r.poisoned; cause = w.r.cause }) (sym l.0);
  ended = l.1;
  poisoned = λ q has. subst (λ (w : LaneSays). Contains w.r.poisoned q) (sym l.0) has;
}

pub ready_poll : (core new_core : CoreId) (s m : LaneSays) (turns : ℕ) (last : Last) → Learns s m → AllEnded m.r.ended (waits_for s.r) →
    IsReadyPoll (says core s.r turns last) (says new_core m.r turns Ready)
ready_poll core new_core s m turns last l all = record {
  last = refl;
  ready = ready s.r m.r (ap (λ (w : LaneSays). w.r.request) (sym l.0)) (ap (λ (w : LaneSays). w.r.shot) (sym l.0)) all;
  same_cause = ap (λ (w : LaneSays). w.r.cause) l.0;
  same_poisoned = ap (λ (w : LaneSays). w.r.poisoned) l.0;
  turns = refl;
}

-- What the request keeps after it was found ready, blocked, or poisoned by its blocker.
module _ (who : ℕ) (mode : Mode) (request : Declaration) (shots new : Shots) (turns more : ℕ) (last : Last) (order : List ℕ) (place next : Place)
    (s m t : LaneSays) (kept : WaitingKept who mode request shots turns last order place s) (learns : Learns s m) where
  kept_then : WaitingKept who mode request shots turns last order place m
  kept_then = learnt who mode request shots turns last order place s m learns kept

  pub ready_kept : AllEnded m.r.ended (waits_for s.r) → WalkKept m.r new order next Ready → WaitingKept who mode request new turns Ready order next m
  ready_kept all walk = record {
    who_is = kept_then.who_is;
    mode_is = kept_then.mode_is;
    request_is = kept_then.request_is;
    given = ready s.r m.r (ap (λ (w : LaneSays). w.r.request) (sym learns.0)) (ap (λ (w : LaneSays). w.r.shot) (sym learns.0)) all;
    walk = walk;
  }

  module _ (x : HeldLatch) (found : FirstOpen s.r m.r x) (walk : WalkKept m.r new order next (Blocked x)) (policy : Policy) (p : ℕ) where
    blocked_then : 1 ≤ more → WaitingKept who mode request new more (Blocked x) order next m
    blocked_then le = record {
      who_is = kept_then.who_is;
      mode_is = kept_then.mode_is;
      request_is = kept_then.request_is;
      given = (waits_still s m x learns (first_waits s.r m.r x found), le);
      walk = walk;
    }

    pub blocked_kept : Judged policy m t p false → 1 ≤ more → WaitingKept who mode request new more (Blocked x) order next t
    blocked_kept j le = waiting_knows who mode request new more (Blocked x) order next m t m.r.shown t.r.ended t.r.poisoned t.r.cause j.ended j.poisoned j.same
        (blocked_then le)

    pub poisoned_kept : Judged policy m t p true → policy ≡ s.r.request.policy → p ≡ x.by → WaitingKept who mode request new turns (Poisoned x) order next t
    poisoned_kept j is whose =
        let blocked = waiting_knows who mode request new 1 (Blocked x) order next m t m.r.shown t.r.ended t.r.poisoned t.r.cause j.ended j.poisoned j.same
        (record {
          who_is = kept_then.who_is;
          mode_is = kept_then.mode_is;
          request_is = kept_then.request_is;
          given = (waits_still s m x learns (first_waits s.r m.r x found), omega arith);
          walk = walk;
        }) in
        let same_policy : t.r.request.policy ≡ s.r.request.policy =
        ap (λ (w : LaneSays). w.r.request.policy) j.same ∙ ap (λ (w : LaneSays). w.r.request.policy) learns.0 in
        record {
          who_is = blocked.who_is;
          mode_is = blocked.mode_is;
          request_is = blocked.request_is;
          given = (blocked.given.0, same_policy ∙ (sym is ∙ j.judges.0), subst (Contains t.r.poisoned) whose j.judges.1);
          walk = record { order_is = blocked.walk.order_is; stands = blocked.walk.stands };
        }
