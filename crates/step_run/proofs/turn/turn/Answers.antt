use Rattle.std.proofs.Common.{not, sym, ap, ◌∙◌, subst}
use Rattle.step_run.specs.Runs.{IsLent, Sound, StandsBut}
use Rattle.step_run.specs.Seen.{seen_run}
use Rattle.step_run.specs.State.{State}
use Rattle.latch_model.specs.declared.history.Cause.{Cause}
use Rattle.step_run.specs.Lives.{is_none}
use Rattle.step_run.proofs.Moving.{but_moved, lent_moved, sound_moved}
use Rattle.step_run.proofs.Turning.{not_none, pending_of}
use Rattle.step_run.proofs.turn.turn.Goals as goal
use Rattle.step_run.proofs.turn.turn.Goals.{After-ask}

-- the run and the request after it has asked
lent : (c : After-ask) → IsLent c.args.i c.ask.new.waiting.r.who (seen_run c.ask.new.run)
lent c =
    let d = c.ask.ensures.others in
    subst (λ w. IsLent c.args.i w (seen_run c.ask.new.run)) (sym c.ask.ensures.same.1)
    (lent_moved c.args.i c.args.waiting.r.who c.args.run.now c.ask.new.run d.0 d.1 d.2 d.3 c.ask.ensures.lives c.requires.lent)

sound : (c : After-ask) → Sound c.ask.new.waiting.r.who (seen_run c.ask.new.run)
sound c =
    let d = c.ask.ensures.others in
    subst (λ w. Sound w (seen_run c.ask.new.run)) (sym c.ask.ensures.same.1)
    (sound_moved c.args.waiting.r.who c.args.run.now c.ask.new.run d.0 d.1 d.2 d.3 c.ask.ensures.lives c.requires.sound)

stands : (c : After-ask) (s : State) → StandsBut c.args.i s (seen_run c.args.run.now) → StandsBut c.args.i s (seen_run c.ask.new.run)
stands c s h = let d = c.ask.ensures.others in but_moved c.args.i s c.args.run.now c.ask.new.run d.0 d.1 d.2 d.3 c.ask.ensures.lives h

pub grant-requires-clause-lent : goal.grant-requires-clause-lent
grant-requires-clause-lent c = lent (goal.at.grant-requires-clause-lent c).After-ask

pub grant-requires-clause-sound : goal.grant-requires-clause-sound
grant-requires-clause-sound c = sound (goal.at.grant-requires-clause-sound c).After-ask

pub block-requires-clause-lent : goal.block-requires-clause-lent
block-requires-clause-lent c = lent (goal.at.block-requires-clause-lent c).After-ask

pub block-requires-clause-sound : goal.block-requires-clause-sound
block-requires-clause-sound c = sound (goal.at.block-requires-clause-sound c).After-ask

pub fail-requires-clause-lent : goal.fail-requires-clause-lent
fail-requires-clause-lent c = lent (goal.at.fail-requires-clause-lent c).After-ask

pub fail-requires-clause-sound : goal.fail-requires-clause-sound
fail-requires-clause-sound c = sound (goal.at.fail-requires-clause-sound c).After-ask

pub returns-in-Ready-clause-turn : goal.returns-in-Ready-clause-turn
returns-in-Ready-clause-turn c = λ s n h at o f t.
    c.grant.ensures.turn s n c.args.waiting (stands (goal.at.returns-in-Ready-clause-turn c).After-ask s h) at (pending_of n o)
    (c.in-Ready.ensures.asked s c.args.i n h at f)

pub returns-in-Blocked-clause-turn : goal.returns-in-Blocked-clause-turn
returns-in-Blocked-clause-turn c = λ s n h at o f t.
    c.block.ensures.turn s n c.args.waiting (stands (goal.at.returns-in-Blocked-clause-turn c).After-ask s h) at o t
    (ap not (c.is_none-had_cause.ensures ∙ ap (λ (x : Cause). is_none x) (c.cause.ensures ∙ f.cause)) ∙ not_none n.cause)
    (c.in-Blocked.ensures.asked s c.args.i n h at f)

pub returns-in-Poisoned-clause-turn : goal.returns-in-Poisoned-clause-turn
returns-in-Poisoned-clause-turn c = λ s n h at o f t.
    c.fail.ensures.turn s n c.args.waiting (stands (goal.at.returns-in-Poisoned-clause-turn c).After-ask s h) at (pending_of n o)
    (c.in-Poisoned.ensures.asked s c.args.i n h at f)

pub grant-requires-clause-ready : goal.grant-requires-clause-ready
grant-requires-clause-ready c = c.in-Ready.ensures.last

pub block-requires-clause-blocked : goal.block-requires-clause-blocked
block-requires-clause-blocked c = c.in-Blocked.ensures.last

pub fail-requires-clause-poisoned : goal.fail-requires-clause-poisoned
fail-requires-clause-poisoned c = c.in-Poisoned.ensures.last
