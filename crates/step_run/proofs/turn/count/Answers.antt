use Rattle.std.proofs.Common.{[], ◌∷◌, ◌++◌, map, refl, ap, ◌∙◌, arith}
use Rattle.std.proofs.lemmas.Result.{on_ok_weaker}
use Rattle.step_run.specs.Lives.{LiveSays, seen_live}
use Rattle.step_run.specs.Runs.{RunSays}
use Rattle.step_run.specs.Seen.{seen_run}
use Rattle.latch_model.specs.declared.history.Fault.TheVariants.{Cancelled}
use Rattle.latch_model.specs.declared.history.Entry.TheVariants.{Ended}
use Rattle.latch_model.specs.declared.history.Grant.TheVariants.{Never}
use Rattle.step_run.specs.declared.live.Value.TheVariants.{Waiting}
use Rattle.step_run.proofs.Lives.{seen_at}
use Rattle.step_run.proofs.Sounding.{lent_session, sound_put}
use Rattle.step_run.proofs.Turning.{lent_name, makes_cancelled, makes_counted}
use Rattle.step_run.proofs.turn.count.Goals as goal

pub give_back-requires : goal.give_back-requires
give_back-requires c = (c.requires.lent.live, c.requires.lent.at, c.requires.lent.over)

pub give_up-requires-clause-session : goal.give_up-requires-clause-session
give_up-requires-clause-session c =
    lent_session (seen_run c.args.run.now) c.args.i c.args.waiting.r.who c.args.waiting.r.who c.requires.lent c.requires.sound

pub returns-then-polls-from-clause-sound : goal.returns-then-polls-from-clause-sound
returns-then-polls-from-clause-sound c =
    sound_put (seen_run c.args.run.now) (seen_run c.give_back.new.run) c.args.i c.args.waiting.r.who (Waiting c.args.waiting) c.requires.lent refl
    (c.requires.core, refl) c.give_back.ensures c.requires.sound

pub returns-then-polls-from-clause-counted : goal.returns-then-polls-from-clause-counted
returns-then-polls-from-clause-counted c = λ s n m h at o same p f e k.
    makes_counted c.args.i s (seen_run c.args.run.now) _ n m c.args.waiting c.args.turns c.args.out.now.items h at o same p f e k
    (λ d. absurd (c.if-polls-from.true (omega (arith, c.turns-polls.ensures, d, c.from.ensures))))
    (ap (λ (q : RunSays). q.log) c.give_back.ensures) (ap (λ (q : RunSays). q.lives) c.give_back.ensures)

pub returns-clause-counted : goal.returns-clause-counted
returns-clause-counted c = λ s n m h at o same p f e k.
    let x = c.index.result.now in
    let r = seen_run c.args.run.now in
    let lent = c.requires.lent in
    let live = seen_at c.args.run.now.lives.items c.args.i x lent.live lent.at c.index.ensures in
    on_ok_weaker c.words_line-written.result
    (λ w. makes_cancelled c.args.i s r (seen_run c.give_up.new.run) n m c.args.waiting c.args.turns x.name.now c.args.out.now.items
    c.words_line-written.new.out.items h at lent same f e k (omega (arith, c.turns-polls.ensures, c.if-polls-from.false, c.from.ensures))
    (ap (λ (l : LiveSays). l.name) live ∙ (lent_name c.args.i c.args.waiting.r.who s r n h at lent).name)
    (c.give_up.ensures.log
    ∙ ap (λ q. r.log ++ Ended c.args.waiting.r.id c.args.waiting.r.who Never c.args.waiting.r.cause (Cancelled q) ∷ []) c.turns-polls.ensures)
    (ap (λ ys. map seen_live ys) c.give_up.ensures.lives) w)
    c.words_line-written.ensures
