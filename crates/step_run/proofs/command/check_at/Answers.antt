use Rattle.std.proofs.Common.{◌≡◌, List, map, refl, sym, ap, ◌∙◌, subst}
use Rattle.std.proofs.lemmas.Result.{on_ok_weaker}
use Rattle.step_run.specs.Lives.{IsLive, seen_live, with_value}
use Rattle.step_run.specs.Seen.{seen_run}
use Rattle.latch_model.specs.declared.latch.Latch.{Latch}
use Rattle.waiter.specs.Says.{OptimistSays, id_of}
use Rattle.step_run.specs.Checking.{ChecksAs}
use Rattle.step_run.specs.Lives.{IsOf, cause_of, is_held}
use Rattle.step_run.specs.declared.live.Value.{Value}
use Rattle.step_run.specs.declared.live.Value.TheVariants.{Optimist}
use Rattle.step_run.proofs.Commanding.{makes_checked}
use Rattle.step_run.proofs.Lives.{seen_get, set_value}
use Rattle.step_run.proofs.Places.{Each-at}
use Rattle.step_run.proofs.Sounding.{sound_value}
use Rattle.step_run.proofs.command.check_at.Goals as goal

pub check_value-requires-clause-optimistic : goal.check_value-requires-clause-optimistic
check_value-requires-clause-optimistic c =
    let x = c.index_mut-live.result.now in
    let o = c.requires.optimistic (seen_live x) (seen_get c.args.run.now.lives.items c.args.i x c.index_mut-live.ensures.value c.requires.inside) in
    (o.0, c.deref_mut.ensures.value ∙ o.1)

pub check_value-requires-clause-core : goal.check_value-requires-clause-core
check_value-requires-clause-core c =
    let x = c.index_mut-live.result.now in
    let at = seen_get c.args.run.now.lives.items c.args.i x c.index_mut-live.ensures.value c.requires.inside in (
      x.session,
      subst (λ (v : Value). IsOf (id_of c.args.run.now.core) x.session v) (sym c.deref_mut.ensures.value)
          (Each-at (IsLive (id_of c.args.run.now.core)) (seen_run c.args.run.now).lives c.args.i (seen_live x) at c.requires.sound.lives).of,
    )

pub returns-clause-sound : goal.returns-clause-sound
returns-clause-sound c =
    let x = c.index_mut-live.result.now in
    let xs = c.args.run.now.lives.items in
    let at = seen_get xs c.args.i x c.index_mut-live.ensures.value c.requires.inside in
    let o = c.requires.optimistic (seen_live x) at in
    let p = c.check_value.ensures.kept o.0 (c.deref_mut.ensures.value ∙ o.1) in
    let of : IsOf (id_of c.args.run.now.core) x.session (Optimist o.0) =
    subst (λ (v : Value). IsOf (id_of c.args.run.now.core) x.session v) o.1
    (Each-at (IsLive (id_of c.args.run.now.core)) (seen_run c.args.run.now).lives c.args.i (seen_live x) at c.requires.sound.lives).of in
    sound_value (seen_run c.args.run.now) c.args.i (seen_live x) c.check_value.new.value _ c.args.run.now.some_cause at (ap is_held p.1 ∙ sym (ap is_held o.1))
    (subst (λ (v : Value). IsOf (id_of c.args.run.now.core) x.session v) (sym p.1) (p.2 ∙ of.0, ap (λ r. r.who) p.3 ∙ of.1))
    (set_value xs c.args.i x c.check_value.new.value c.index_mut-live.ensures.value)
    (λ e. (e, λ f. ap cause_of p.1 ∙ ap (λ r. r.cause) p.3 ∙ sym (ap cause_of o.1) ∙ f)) c.requires.sound

pub returns-clause-step : goal.returns-clause-step
returns-clause-step c = λ s n h here.
    let x = c.index_mut-live.result.now in
    let xs = c.args.run.now.lives.items in
    let at = seen_get xs c.args.i x c.index_mut-live.ensures.value c.requires.inside in
    let o = c.requires.optimistic (seen_live x) at in
    on_ok_weaker c.check_value.result
    (λ (w : (p : OptimistSays) × (c.check_value.new.value ≡ Optimist p)
    × ChecksAs o.0 p x.name.now c.in_ok-copy.copy c.args.out.now.items c.check_value.new.out.items).
    makes_checked s (seen_run c.args.run.now) _ c.args.i n (seen_live x) o.0 w.0 c.args.asked.now x.name.now c.args.out.now.items c.check_value.new.out.items
    h here at o.1 refl
    (subst (λ (ls : List Latch). ChecksAs o.0 w.0 x.name.now ls c.args.out.now.items c.check_value.new.out.items) c.in_ok-copy.ensures w.2)
    refl
    (set_value xs c.args.i x c.check_value.new.value c.index_mut-live.ensures.value ∙ ap (λ (v : Value). with_value c.args.i v (map seen_live xs)) w.1))
    (c.check_value.ensures.checked o.0 (c.deref_mut.ensures.value ∙ o.1))
