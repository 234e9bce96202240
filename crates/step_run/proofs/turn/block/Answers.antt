use Rattle.std.proofs.Common.{◌&&◌, not, refl, ap, ◌∙◌}
use Rattle.std.proofs.lemmas.Result.{on_ok_weaker}
use Rattle.step_run.specs.Lives.{LiveSays}
use Rattle.step_run.specs.Seen.{seen_run}
use Rattle.step_run.specs.State.{Named}
use Rattle.latch_model.specs.Checks.{has_cause}
use Rattle.latch_model.specs.declared.history.Cause.{Cause}
use Rattle.step_run.specs.State.{is_poisoned_in}
use Rattle.step_run.specs.Lives.{is_none}
use Rattle.step_run.specs.Runs.{spread_if}
use Rattle.step_run.specs.declared.live.Value.TheVariants.{Waiting}
use Rattle.step_run.proofs.Lives.{seen_at}
use Rattle.step_run.proofs.Sounding.{sound_put}
use Rattle.step_run.proofs.Turning.{blocked_counted, lent_name, makes_blocked, pending_of, spread_counted, spread_same, spreads_now}
use Rattle.step_run.proofs.turn.block.Goals as goal

pub give_back-requires : goal.give_back-requires
give_back-requires c = (c.requires.lent.live, c.requires.lent.at, c.requires.lent.over)

pub returns-in-Err-clause-sound : goal.returns-in-Err-clause-sound
returns-in-Err-clause-sound c =
    sound_put (seen_run c.args.run.now) (seen_run c.give_back.new.run) c.args.i c.args.waiting.r.who (Waiting c.args.waiting) c.requires.lent refl
    (c.requires.core, refl) c.give_back.ensures c.requires.sound

pub returns-in-Ok-clause-turn : goal.returns-in-Ok-clause-turn
returns-in-Ok-clause-turn c = λ s n old h at p t had a.
    let x = c.index.result.now in
    let r = seen_run c.args.run.now in
    let k = c.requires.lent in
    let b = is_poisoned_in s.names a.latch.by in
    let m : Named = spread_if b n a.latch.by in
    let live = seen_at c.args.run.now.lives.items c.args.i x k.live k.at c.index.ensures in
    let counted = spread_counted n b a.latch.by in
    on_ok_weaker c.spend.result
    (λ w. makes_blocked s n c.args.by old c.args.waiting (seen_run c.spend.new.run) x.name.now c.args.out.now.items c.blocked_lines.new.out.items
    c.spend.new.out.items c.is_new-spreads.result a
    (ap (λ (l : LiveSays). l.name) live ∙ (lent_name c.args.i c.args.waiting.r.who s r n h at k).name)
    (c.is_new-spreads.ensures ∙ ap (λ y. not y && not (is_none c.cause.result)) had
    ∙ ap (λ (y : Cause). not (has_cause n.cause) && not (is_none y)) c.cause.ensures
    ∙ spreads_now n b a.latch.by c.args.waiting.r s.history a.fits)
    (c.in-Ok.ensures a.latch a.last) w)
    (c.spend.ensures.spent s n m h at (pending_of n p) (spread_same n b a.latch.by) (counted.1 ∙ p) a.fits
    (blocked_counted n m old c.args.waiting counted.2 counted.0 t a.turns))
