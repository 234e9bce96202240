use Rattle.std.proofs.Common.{◌≡◌, ℕ, ◌<◌, ◌≤◌, true, false, sym, ◌∙◌, subst, inl, inr}
use Rattle.std.proofs.lemmas.Bool.{cases_lt}
use Rattle.latch_manager.specs.Acquiring.{WaitFailsAs}
use Rattle.latch_manager.specs.Patience.{Refused}
use Rattle.latch_manager.specs.declared.wait.WaitFault.{WaitFault}
use Rattle.latch_manager.proofs.Waits.{core-learnt, still-learnt, still-polled, turns-learnt, wait-meets, wait-stops}
use Rattle.latch_manager.proofs.wait.until_granted.Goals as goal

pub returns-in-Poisoned-clause-failed : goal.returns-in-Poisoned-clause-failed
returns-in-Poisoned-clause-failed g c =
    subst
    (λ (f : WaitFault). WaitFailsAs c.args.waiting c.fail.result.ending (g.P.Patience.refusals c.args.patience.now) (g.P.Patience.refusals c.loop.patience)
    (g.P.Patience.limit c.args.patience.now) f)
    (sym c.fail.ensures.fault.1)
    (wait-meets c.args.waiting c.loop.waiting c.poll.new.self c.in-Poisoned.by c.in-Poisoned.place c.fail.ensures.fault.0 c.fail.result.ending
    (c.poll.ensures.same.core ∙ c.loop.invariant.2) c.loop.invariant.3 c.poll.ensures.same c.in-Poisoned.ensures.answer c.fail.ensures.fault.2
    c.fail.ensures.ending)

pub returns-then-not-more-clause-failed : goal.returns-then-not-more-clause-failed
returns-then-not-more-clause-failed g c =
    subst
    (λ (f : WaitFault). WaitFailsAs c.args.waiting c.cancel.result.ending (g.P.Patience.refusals c.args.patience.now) (g.P.Patience.refusals c.more.new.self)
    (g.P.Patience.limit c.args.patience.now) f)
    (sym c.cancel.ensures.fault) (
      wait-stops c.args.waiting c.loop.waiting c.poll.new.self c.in-Blocked.by c.in-Blocked.place (g.P.Patience.limit c.args.patience.now)
          c.cancel.result.ending (c.poll.ensures.same.core ∙ c.loop.invariant.2) c.loop.invariant.3 c.poll.ensures.same c.in-Blocked.ensures.answer
          c.loop.invariant.6
          (λ n e. subst (λ (t : ℕ). n ≤ t) c.turns.ensures ((c.more.ensures.at_limit n (c.loop.invariant.5 ∙ e)).0 c.if-not-more.true))
          c.cancel.ensures.ending,
      subst (λ (x : ℕ). Refused x (g.P.Patience.refusals c.more.new.self)) c.loop.invariant.4 (c.more.ensures.refused c.if-not-more.true),
    )

pub loop-preserved : goal.loop-preserved
loop-preserved g c =
    let polled = c.poll.new.self in
    let woken = c.place_to_sleep-at.new.waiting in
    let learnt = c.place_to_sleep-at.ensures.same in (
      tt,
      tt,
      core-learnt polled woken learnt ∙ (c.poll.ensures.same.core ∙ c.loop.invariant.2),
      still-learnt polled woken learnt c.args.waiting.r
          (still-polled c.args.waiting c.loop.waiting polled c.loop.invariant.3 c.poll.ensures.same c.poll.result c.poll.ensures.answer),
      c.more.ensures.same c.if-not-more.false ∙ c.loop.invariant.4,
      c.more.ensures.limit ∙ c.loop.invariant.5,
      λ n e lt. elim (cases_lt polled.turns n) [
        | inl less ↦ subst (λ (t : ℕ). t < n) (sym (turns-learnt polled woken learnt)) less
        | inr most ↦
            let no_more : c.more.result ≡ false =
            (c.more.ensures.at_limit n (c.loop.invariant.5 ∙ e)).1 (subst (λ (t : ℕ). n ≤ t) (sym c.turns.ensures) most) in
            absurd (false-true (sym no_more ∙ c.if-not-more.false))
      ],
    )
  where
    false-true : false ≡ true → ⊥
    false-true e = cc
