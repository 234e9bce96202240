use Rattle.std.proofs.Common.{map, refl, ap, ◌∙◌}
use Rattle.std.proofs.lemmas.Result.{on_ok_weaker}
use Rattle.waiter.specs.Says.{id_of}
use Rattle.step_run.specs.Lives.{IsLive, seen_live}
use Rattle.step_run.specs.Seen.{seen_run}
use Rattle.step_run.proofs.Commanding.{makes_released}
use Rattle.step_run.proofs.Lives.{seen_get}
use Rattle.step_run.proofs.Places.{Each-at, map-remove}
use Rattle.step_run.proofs.Sounding.{sound_remove}
use Rattle.step_run.proofs.command.release_at.Goals as goal

pub end_value-requires-clause-sound : goal.end_value-requires-clause-sound
end_value-requires-clause-sound c =
    let x = c.let_go-value.result in
    let xs = c.args.run.now.lives.items in
    sound_remove (seen_run c.args.run.now) c.args.i (seen_live x) (map seen_live c.let_go-value.new.lives.items)
    (seen_get xs c.args.i x c.let_go-value.ensures.value c.requires.inside)
    (ap (λ ys. map seen_live ys) c.let_go-value.ensures.lives ∙ map-remove seen_live xs c.args.i) c.requires.sound

pub end_value-requires-clause-value : goal.end_value-requires-clause-value
end_value-requires-clause-value c =
    let x = c.let_go-value.result in
    let at = seen_get c.args.run.now.lives.items c.args.i x c.let_go-value.ensures.value c.requires.inside in
    let l = Each-at (IsLive (id_of c.args.run.now.core)) (seen_run c.args.run.now).lives c.args.i (seen_live x) at c.requires.sound.lives in
    (x.session, l.low, l.high, l.of)

pub returns-clause-step : goal.returns-clause-step
returns-clause-step c = λ s n h here.
    let x = c.let_go-value.result in
    let xs = c.args.run.now.lives.items in
    let at = seen_get xs c.args.i x c.let_go-value.ensures.value c.requires.inside in
    let l = Each-at (IsLive (id_of c.args.run.now.core)) (seen_run c.args.run.now).lives c.args.i (seen_live x) at c.requires.sound.lives in
    on_ok_weaker c.words_line-written.result
    (λ w. makes_released s (seen_run c.args.run.now) (seen_run c.end_value.new.run) c.args.i n (seen_live x) x.name.now c.args.out.now.items
    c.words_line-written.new.out.items h here at l.of c.end_value.ensures.log
    (ap (λ ys. map seen_live ys) (c.end_value.ensures.lives ∙ c.let_go-value.ensures.lives) ∙ map-remove seen_live xs c.args.i) refl w)
    c.words_line-written.ensures
