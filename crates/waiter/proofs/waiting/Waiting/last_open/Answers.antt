use Rattle.std.proofs.Common.{◌≡◌, ◌∙◌, sym, ap, subst}
use Rattle.latch_model.specs.Histories.{HeldLatch}
use Rattle.waiter.specs.Met.{held_of, last_of}
use Rattle.waiter.specs.Says.{Blocked, LastGiven, WaitingSays}
use Rattle.shot_walks.specs.Waits.{IsWaitedFor}
use Rattle.waiter.specs.declared.waiting.Stage.{Stage}
use Rattle.waiter.specs.declared.waiting.Stage.TheVariants as stage
use Rattle.waiter.proofs.Keeping.{learnt, waiting_in}
use Rattle.waiter.proofs.waiting.Waiting.last_open.Goals as goal
use Rattle.waiter.proofs.waiting.Waiting.last_open.Goals.{in-Some, in-None}

pub invariant_of-self : goal.invariant_of-self
invariant_of-self c =
    let w = c.self.inside in
    let last = last_of w.stage (held_of w.met) in
    waiting_in w.who w.mode w.request w.shots c.last_open.new.shots w.turns last w.order.items w.place c.last_open.new.seat c.last_open.ensures.same
    (learnt w.who w.mode w.request w.shots w.turns last w.order.items w.place w.seat c.last_open.new.seat c.last_open.ensures.learns c.self.invariant)

pub returns-clause-waited_for : goal.returns-clause-waited_for
returns-clause-waited_for c =
    let w = c.self.inside in
    let x : HeldLatch = c.requires.blocked.0 in
    let last : last_of w.stage (held_of w.met) ≡ Blocked x = ap (λ (v : WaitingSays). v.last) c.self.view_is ∙ c.requires.blocked.1 in
    let given : LastGiven w.seat.r w.turns (Blocked x) = subst (LastGiven w.seat.r w.turns) last c.self.invariant.given in
    let waited : IsWaitedFor w.seat.r c.match-last_open.result = elim c.match-last_open.branch [
      | in-Some s ↦ subst (IsWaitedFor w.seat.r) (sym s.result-is) s.in-Some.ensures.waited_for
      | in-None n ↦ (x, given.0, ap (λ (y : HeldLatch). y.by) (sym (blocker w.stage (held_of w.met) x last)) ∙ sym n.result-is)
    ] in
    subst (λ (v : WaitingSays). IsWaitedFor v.r c.match-last_open.result) c.self.view_is waited
  where
    blocker : (s : Stage) (h x : HeldLatch) → last_of s h ≡ Blocked x → h ≡ x
    blocker stage.Unpolled h x e = cc
    blocker stage.Ready h x e = cc
    blocker stage.Blocked h x e = cc
    blocker stage.Poisoned h x e = cc
