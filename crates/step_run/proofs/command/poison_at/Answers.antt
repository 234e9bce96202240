use Rattle.std.proofs.Common.{true, map, refl, sym, ap, ◌∙◌, subst}
use Rattle.std.proofs.lemmas.Result.{on_ok_weaker}
use Rattle.waiter.specs.Says.{id_of}
use Rattle.step_run.specs.Lives.{IsLive, IsOf, seen_live, with_value}
use Rattle.step_run.specs.Seen.{seen_run}
use Rattle.step_run.specs.Lives.{called_value, may_poison}
use Rattle.step_run.specs.declared.live.Value.{Value}
use Rattle.step_run.proofs.Commanding.{held_called, makes_called, makes_uncalled, none_called, of_called}
use Rattle.step_run.proofs.Lives.{seen_get, set_value}
use Rattle.step_run.proofs.Places.{Each-at}
use Rattle.step_run.proofs.Sounding.{sound_value}
use Rattle.step_run.proofs.command.poison_at.Goals as goal

pub poison-requires : goal.poison-requires
poison-requires c =
    let x = c.index_mut-live.result.now in
    let at = seen_get c.args.run.now.lives.items c.args.i x c.index_mut-live.ensures.value c.requires.inside in (
      x.session,
      subst (λ (v : Value). IsOf (id_of c.args.run.now.core) x.session v) (sym c.deref_mut.ensures.value)
          (Each-at (IsLive (id_of c.args.run.now.core)) (seen_run c.args.run.now).lives c.args.i (seen_live x) at c.requires.sound.lives).of,
    )

pub returns-then-poison-clause-sound : goal.returns-then-poison-clause-sound
returns-then-poison-clause-sound c =
    let x = c.index_mut-live.result.now in
    let xs = c.args.run.now.lives.items in
    let at = seen_get xs c.args.i x c.index_mut-live.ensures.value c.requires.inside in
    let l = Each-at (IsLive (id_of c.args.run.now.core)) (seen_run c.args.run.now).lives c.args.i (seen_live x) at c.requires.sound.lives in
    sound_value (seen_run c.args.run.now) c.args.i (seen_live x) (called_value x.value.value) _ true at (held_called x.value.value)
    (of_called (id_of c.args.run.now.core) x.session x.value.value l.of)
    (set_value xs c.args.i x c.poison.new.value c.index_mut-live.ensures.value
    ∙ ap (λ (v : Value). with_value c.args.i v (map seen_live xs)) (c.poison.ensures.value ∙ ap called_value c.deref_mut.ensures.value))
    (λ e. absurd (cc)) c.requires.sound

pub returns-else-poison-clause-sound : goal.returns-else-poison-clause-sound
returns-else-poison-clause-sound c =
    let x = c.index_mut-live.result.now in
    let xs = c.args.run.now.lives.items in
    let at = seen_get xs c.args.i x c.index_mut-live.ensures.value c.requires.inside in
    let l = Each-at (IsLive (id_of c.args.run.now.core)) (seen_run c.args.run.now).lives c.args.i (seen_live x) at c.requires.sound.lives in
    sound_value (seen_run c.args.run.now) c.args.i (seen_live x) (called_value x.value.value) _ c.args.run.now.some_cause at (held_called x.value.value)
    (of_called (id_of c.args.run.now.core) x.session x.value.value l.of)
    (set_value xs c.args.i x c.poison.new.value c.index_mut-live.ensures.value
    ∙ ap (λ (v : Value). with_value c.args.i v (map seen_live xs)) (c.poison.ensures.value ∙ ap called_value c.deref_mut.ensures.value))
    (λ e. (e, none_called x.value.value (ap may_poison (sym c.deref_mut.ensures.value) ∙ sym c.poison.ensures.called ∙ c.if-poison.false))) c.requires.sound

pub returns-then-poison-clause-step : goal.returns-then-poison-clause-step
returns-then-poison-clause-step c = λ s n h here.
    let x = c.index_mut-live.result.now in
    let xs = c.args.run.now.lives.items in
    let at = seen_get xs c.args.i x c.index_mut-live.ensures.value c.requires.inside in
    on_ok_weaker c.words_line.result
    (λ w. makes_called s (seen_run c.args.run.now) _ c.args.i n (seen_live x) x.name.now c.args.out.now.items c.words_line.new.out.items h here at
    (ap may_poison (sym c.deref_mut.ensures.value) ∙ sym c.poison.ensures.called ∙ c.if-poison.true) refl
    (set_value xs c.args.i x c.poison.new.value c.index_mut-live.ensures.value
    ∙ ap (λ (v : Value). with_value c.args.i v (map seen_live xs)) (c.poison.ensures.value ∙ ap called_value c.deref_mut.ensures.value))
    refl w)
    c.words_line.ensures

pub returns-else-poison-clause-step : goal.returns-else-poison-clause-step
returns-else-poison-clause-step c = λ s n h here.
    let x = c.index_mut-live.result.now in
    let xs = c.args.run.now.lives.items in
    let at = seen_get xs c.args.i x c.index_mut-live.ensures.value c.requires.inside in
    makes_uncalled s (seen_run c.args.run.now) _ c.args.i n (seen_live x) c.args.out.now.items h here at
    (ap may_poison (sym c.deref_mut.ensures.value) ∙ sym c.poison.ensures.called ∙ c.if-poison.false) refl
    (set_value xs c.args.i x c.poison.new.value c.index_mut-live.ensures.value
    ∙ ap (λ (v : Value). with_value c.args.i v (map seen_live xs)) (c.poison.ensures.value ∙ ap called_value c.deref_mut.ensures.value))
