use Rattle.std.proofs.Common.{map, refl, ap, ◌∙◌}
use Rattle.step_run.specs.Lives.{seen_live}
use Rattle.step_run.specs.Seen.{seen_run}
use Rattle.sequence_core.specs.Says.{DeskState}
use Rattle.step_run.proofs.Asking.{asked_whole, last_is}
use Rattle.waiter.specs.Says.{WaitingSays, id_of}
use Rattle.step_run.proofs.Lives.{warned_trans}
use Rattle.step_run.proofs.Sounding.{lives_warned}
use Rattle.step_run.proofs.turn.ask.Goals as goal

pub hear_blocker-requires-clause-lives : goal.hear_blocker-requires-clause-lives
hear_blocker-requires-clause-lives c = lives_warned (id_of c.args.run.now.core) _ _ c.hear_causes.ensures.lives c.requires.lives

pub returns-clause-lives : goal.returns-clause-lives
returns-clause-lives c = warned_trans _ _ _ c.hear_causes.ensures.lives c.hear_blocker.ensures.lives

pub returns-clause-asked : goal.returns-clause-asked
returns-clause-asked c = λ s i n h at f.
    let one = c.hear_causes.ensures.waiting in
    let two = c.hear_blocker.ensures.waiting in
    asked_whole s i n (seen_run c.args.run.now) (map seen_live c.hear_causes.new.lives.items) c.args.waiting.now c.tell.new.waiting c.hear_causes.new.waiting
    c.poll-polled.new.self c.hear_blocker.new.waiting c.tell-2.new.waiting c.poll-polled.result c.args.run.now.desk.log c.tell.new.self.log one.0 two.0
    h at f refl c.tell.ensures.told one.1 c.hear_causes.ensures.knows c.hear_causes.ensures.lives c.poll-polled.ensures.same c.poll-polled.ensures.answer
    two.1 c.hear_blocker.ensures.heard
    (ap (λ (d : DeskState). d.log) c.tell.ensures.desk) c.tell-2.ensures.told c.tell-2.ensures.ended

pub returns-clause-last : goal.returns-clause-last
returns-clause-last c =
    last_is c.hear_causes.new.waiting c.poll-polled.new.self c.tell-2.new.waiting c.poll-polled.result c.poll-polled.ensures.answer
    (ap (λ (w : WaitingSays). w.last) c.tell-2.ensures.told ∙ ap (λ (w : WaitingSays). w.last) c.hear_blocker.ensures.waiting.1)
