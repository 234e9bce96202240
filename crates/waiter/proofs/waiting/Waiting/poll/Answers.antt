use Rattle.std.proofs.Common.{◌+◌, ◌-◌, ◌^◌, ◌≤◌, ◌∙◌, ℕ, List, min, sym, ap, subst, arith, refl}
use Rattle.latch_model.specs.Declaration.{Declaration}
use Rattle.latch_shots.specs.Shots.{table_of}
use Rattle.waiter.specs.Kept.{WalkKept}
use Rattle.waiter.specs.Met.{held_of, last_of}
use Rattle.waiter.specs.Polls.{IsBlockedPoll, IsPoisonedPoll, IsReadyPoll}
use Rattle.waiter.specs.Says.{Blocked, CoreId, Poisoned, Ready, WaitingSays}
use Rattle.waiter.proofs.Polling.{blocked_kept, blocked_poll, first_waits, poisoned_kept, poisoned_poll, ready_kept, ready_poll, says}
use Rattle.shot_walks.proofs.Ends.{waits_still}
use Rattle.waiter.proofs.waiting.Waiting.poll.Goals as goal

pub invariant_of-self : goal.invariant_of-self
invariant_of-self c =
    let w = c.self.inside in
    let new = c.find_open-found.new in
    let none = c.find_open-found.ensures.none c.if-not-found.true in
    let walk = subst (λ (o : List ℕ). WalkKept new.seat.r new.shots o new.place Ready) c.as_slice.ensures.value none.1 in
    ready_kept w.who w.mode w.request w.shots new.shots w.turns w.turns (last_of w.stage (held_of w.met)) w.order.items w.place new.place w.seat
    new.seat new.seat
    c.self.invariant c.find_open-found.ensures.learns none.0 walk

pub returns-then-not-found-clause-answer : goal.returns-then-not-found-clause-answer
returns-then-not-found-clause-answer c =
    let w = c.self.inside in
    let new = c.find_open-found.new in
    let none = c.find_open-found.ensures.none c.if-not-found.true in
    let core : CoreId = record { signals = w.seat.table; rows = table_of w.shots } in
    let new_core : CoreId = record { signals = new.seat.table; rows = table_of new.shots } in
    subst (λ (v : WaitingSays). IsReadyPoll v (says new_core new.seat.r w.turns Ready)) c.self.view_is
    (ready_poll core new_core w.seat new.seat w.turns (last_of w.stage (held_of w.met)) c.find_open-found.ensures.learns none.0)

pub is_poisoned-requires-clause-prerequisite : goal.is_poisoned-requires-clause-prerequisite
is_poisoned-requires-clause-prerequisite c =
    let w = c.self.inside in
    let new = c.find_open-found.new in
    let found = c.find_open-found.ensures.found c.if-not-found.false in
    let x = held_of new.met in
    (x, waits_still w.seat new.seat x c.find_open-found.ensures.learns (first_waits w.seat.r new.seat.r x found.0), refl, refl)

pub invariant_of-self-then-is_poisoned : goal.invariant_of-self-then-is_poisoned
invariant_of-self-then-is_poisoned c =
    let w = c.self.inside in
    let g = c.self.invariant in
    let new = c.find_open-found.new in
    let found = c.find_open-found.ensures.found c.if-not-found.false in
    let walk = subst (λ (o : List ℕ). WalkKept new.seat.r new.shots o new.place (Blocked (held_of new.met))) c.as_slice.ensures.value found.1 in
    poisoned_kept w.who w.mode w.request w.shots new.shots w.turns w.turns (last_of w.stage (held_of w.met)) w.order.items w.place new.place w.seat new.seat
    c.is_poisoned.new.seat g c.find_open-found.ensures.learns (held_of new.met) found.0 walk c.policy-policy.result new.met.mark.by c.if-is_poisoned.ensures
    (c.policy-policy.ensures ∙ ap (λ (d : Declaration). d.policy) g.request_is) refl

pub invariant_of-self-else-is_poisoned : goal.invariant_of-self-else-is_poisoned
invariant_of-self-else-is_poisoned c =
    let w = c.self.inside in
    let g = c.self.invariant in
    let new = c.find_open-found.new in
    let found = c.find_open-found.ensures.found c.if-not-found.false in
    let walk = subst (λ (o : List ℕ). WalkKept new.seat.r new.shots o new.place (Blocked (held_of new.met))) c.as_slice.ensures.value found.1 in
    let some : 1 ≤ min (w.turns + 1) (2 ^ 64 - 1) = omega arith in
    blocked_kept w.who w.mode w.request w.shots new.shots w.turns c.saturating_add-self-inside.result (last_of w.stage (held_of w.met)) w.order.items w.place
    new.place w.seat new.seat c.is_poisoned.new.seat g c.find_open-found.ensures.learns (held_of new.met) found.0 walk c.policy-policy.result new.met.mark.by
    c.if-is_poisoned.ensures (subst (λ (n : ℕ). 1 ≤ n) (sym c.saturating_add-self-inside.ensures) some)

pub returns-then-is_poisoned-clause-answer : goal.returns-then-is_poisoned-clause-answer
returns-then-is_poisoned-clause-answer c =
    let w = c.self.inside in
    let g = c.self.invariant in
    let new = c.find_open-found.new in
    let end = c.is_poisoned.new.seat in
    let found = c.find_open-found.ensures.found c.if-not-found.false in
    let x = held_of new.met in
    let core : CoreId = record { signals = w.seat.table; rows = table_of w.shots } in
    let new_core : CoreId = record { signals = end.table; rows = table_of new.shots } in
    subst (λ (v : WaitingSays). IsPoisonedPoll v (says new_core end.r w.turns (Poisoned x)) x.by x.place) c.self.view_is
    (poisoned_poll core new_core w.seat new.seat end w.turns w.turns (last_of w.stage (held_of w.met)) c.policy-policy.result x.by x.place x
    c.find_open-found.ensures.learns (c.policy-policy.ensures ∙ ap (λ (d : Declaration). d.policy) g.request_is) found.0 refl refl c.if-is_poisoned.ensures)

pub returns-else-is_poisoned-clause-answer : goal.returns-else-is_poisoned-clause-answer
returns-else-is_poisoned-clause-answer c =
    let w = c.self.inside in
    let g = c.self.invariant in
    let new = c.find_open-found.new in
    let end = c.is_poisoned.new.seat in
    let found = c.find_open-found.ensures.found c.if-not-found.false in
    let x = held_of new.met in
    let more = c.saturating_add-self-inside.result in
    let core : CoreId = record { signals = w.seat.table; rows = table_of w.shots } in
    let new_core : CoreId = record { signals = end.table; rows = table_of new.shots } in
    subst (λ (v : WaitingSays). IsBlockedPoll v (says new_core end.r more (Blocked x)) x.by x.place) c.self.view_is
    (blocked_poll core new_core w.seat new.seat end w.turns more (last_of w.stage (held_of w.met)) c.policy-policy.result x.by x.place x
    c.find_open-found.ensures.learns (c.policy-policy.ensures ∙ ap (λ (d : Declaration). d.policy) g.request_is) found.0 refl refl c.if-is_poisoned.ensures
    c.saturating_add-self-inside.ensures)
