use Rattle.std.proofs.Common.{map, ap, ◌∙◌}
use Rattle.std.proofs.lemmas.Result.{on_ok_weaker}
use Rattle.step_run.specs.Lives.{LiveSays, seen_live}
use Rattle.step_run.specs.Seen.{seen_run}
use Rattle.latch_model.specs.declared.history.Fault.TheVariants.{Poisoned as by_poison}
use Rattle.latch_model.specs.declared.history.Grant.TheVariants.{Never}
use Rattle.step_run.proofs.Lives.{seen_at}
use Rattle.step_run.proofs.Sounding.{lent_session}
use Rattle.step_run.proofs.Turning.{itself, lent_name, makes_poisoned, stands_ended}
use Rattle.step_run.proofs.turn.fail.Goals as goal

pub returns-clause-turn : goal.returns-clause-turn
returns-clause-turn c = λ s n old h at o a.
    let x = c.index.result.now in
    let r = seen_run c.args.run.now in
    let k = c.requires.lent in
    let live = seen_at c.args.run.now.lives.items c.args.i x k.live k.at c.index.ensures in
    on_ok_weaker c.polled_line-written.result
    (λ w. makes_poisoned s n c.args.by old c.args.waiting (seen_run c.give_up.new.run) x.name.now c.args.out.now.items c.polled_line-written.new.out.items a
    (ap (λ (l : LiveSays). l.name) live ∙ (lent_name c.args.i c.args.waiting.r.who s r n h at k).name)
    (stands_ended c.args.i s r (seen_run c.give_up.new.run) n n c.args.waiting.r Never (by_poison c.args.by) h at k (itself n) a.fits
    c.give_up.ensures.log (ap (λ ys. map seen_live ys) c.give_up.ensures.lives)) w)
    (c.polled_line-written.ensures.poisoned a.latch a.last)

pub give_up-requires-clause-session : goal.give_up-requires-clause-session
give_up-requires-clause-session c =
    lent_session (seen_run c.args.run.now) c.args.i c.args.waiting.r.who c.args.waiting.r.who c.requires.lent c.requires.sound
