use Rattle.std.proofs.Common.{List, map, refl, sym, ap, ◌∙◌, subst}
use Rattle.std.specs.Prelude.{OnOk}
use Rattle.step_run.specs.Runs.{IsLent, Makes, RunSays, Sound}
use Rattle.step_run.specs.Lives.{IsLive, IsOf, LiveSays, seen_live}
use Rattle.step_run.specs.declared.live.Value.{Value}
use Rattle.step_run.specs.Seen.{seen_run}
use Rattle.waiter.specs.Says.{WaitingSays, id_of}
use Rattle.step_run.specs.Steps.{Step}
use Rattle.step_run.specs.declared.live.Value.TheVariants.{Granted, Over}
use Rattle.step_run.proofs.Commanding.{kept_over, kept_value, waits_none, waits_optimistic, waits_pending}
use Rattle.step_run.proofs.Lives.{seen_there}
use Rattle.step_run.proofs.Places.{Each-at}
use Rattle.step_run.proofs.Sounding.{lent_take, of_optimist, of_waiting, sound_put, sound_take}
use Rattle.step_run.proofs.command.wait_at.Goals as goal

pub give_back-requires : goal.give_back-requires
give_back-requires c =
    let w = seen_there c.args.run.now.lives.items c.args.i c.requires.inside in
    let k = lent_take (seen_run c.args.run.now) c.args.i w.0 (map seen_live c.take.new.lives.items) w.1 c.take.ensures.lives in
    (k.live, k.at, k.over)

pub turn-requires-clause-lent : goal.turn-requires-clause-lent
turn-requires-clause-lent c =
    let w = seen_there c.args.run.now.lives.items c.args.i c.requires.inside in
    let l = Each-at (IsLive (id_of c.args.run.now.core)) (seen_run c.args.run.now).lives c.args.i w.0 w.1 c.requires.sound.lives in
    let of = of_optimist (id_of c.args.run.now.core) w.0.session w.0.value c.in-Optimist.optimist (c.in-Optimist.ensures.value w.0 w.1) l.of in
    subst (λ k. IsLent c.args.i k (record (seen_run c.args.run.now) { lives = map seen_live c.take.new.lives.items }))
    (sym (ap (λ (x : WaitingSays). x.r.who) c.into_waiting.ensures ∙ of.1))
    (lent_take (seen_run c.args.run.now) c.args.i w.0 (map seen_live c.take.new.lives.items) w.1 c.take.ensures.lives)

pub turn-requires-clause-sound : goal.turn-requires-clause-sound
turn-requires-clause-sound c =
    let w = seen_there c.args.run.now.lives.items c.args.i c.requires.inside in
    let l = Each-at (IsLive (id_of c.args.run.now.core)) (seen_run c.args.run.now).lives c.args.i w.0 w.1 c.requires.sound.lives in
    let of = of_optimist (id_of c.args.run.now.core) w.0.session w.0.value c.in-Optimist.optimist (c.in-Optimist.ensures.value w.0 w.1) l.of in
    subst (λ k. Sound k (record (seen_run c.args.run.now) { lives = map seen_live c.take.new.lives.items }))
    (sym (ap (λ (x : WaitingSays). x.r.who) c.into_waiting.ensures ∙ of.1))
    (sound_take (seen_run c.args.run.now) c.args.i w.0 (map seen_live c.take.new.lives.items) w.1 c.take.ensures.lives c.requires.sound)

pub turn-requires-clause-core : goal.turn-requires-clause-core
turn-requires-clause-core c =
    let w = seen_there c.args.run.now.lives.items c.args.i c.requires.inside in
    let l = Each-at (IsLive (id_of c.args.run.now.core)) (seen_run c.args.run.now).lives c.args.i w.0 w.1 c.requires.sound.lives in
    let of = of_optimist (id_of c.args.run.now.core) w.0.session w.0.value c.in-Optimist.optimist (c.in-Optimist.ensures.value w.0 w.1) l.of in
    ap (λ (x : WaitingSays). x.core) c.into_waiting.ensures ∙ of.0

pub turn-requires-in-Waiting-clause-lent : goal.turn-requires-in-Waiting-clause-lent
turn-requires-in-Waiting-clause-lent c =
    let w = seen_there c.args.run.now.lives.items c.args.i c.requires.inside in
    let l = Each-at (IsLive (id_of c.args.run.now.core)) (seen_run c.args.run.now).lives c.args.i w.0 w.1 c.requires.sound.lives in
    let of = of_waiting (id_of c.args.run.now.core) w.0.session w.0.value c.in-Waiting.waiting (c.in-Waiting.ensures.value w.0 w.1) l.of in
    subst (λ k. IsLent c.args.i k (record (seen_run c.args.run.now) { lives = map seen_live c.take.new.lives.items })) (sym of.1)
    (lent_take (seen_run c.args.run.now) c.args.i w.0 (map seen_live c.take.new.lives.items) w.1 c.take.ensures.lives)

pub turn-requires-in-Waiting-clause-sound : goal.turn-requires-in-Waiting-clause-sound
turn-requires-in-Waiting-clause-sound c =
    let w = seen_there c.args.run.now.lives.items c.args.i c.requires.inside in
    let l = Each-at (IsLive (id_of c.args.run.now.core)) (seen_run c.args.run.now).lives c.args.i w.0 w.1 c.requires.sound.lives in
    let of = of_waiting (id_of c.args.run.now.core) w.0.session w.0.value c.in-Waiting.waiting (c.in-Waiting.ensures.value w.0 w.1) l.of in
    subst (λ k. Sound k (record (seen_run c.args.run.now) { lives = map seen_live c.take.new.lives.items })) (sym of.1)
    (sound_take (seen_run c.args.run.now) c.args.i w.0 (map seen_live c.take.new.lives.items) w.1 c.take.ensures.lives c.requires.sound)

pub turn-requires-in-Waiting-clause-core : goal.turn-requires-in-Waiting-clause-core
turn-requires-in-Waiting-clause-core c =
    let w = seen_there c.args.run.now.lives.items c.args.i c.requires.inside in
    let l = Each-at (IsLive (id_of c.args.run.now.core)) (seen_run c.args.run.now).lives c.args.i w.0 w.1 c.requires.sound.lives in
    (of_waiting (id_of c.args.run.now.core) w.0.session w.0.value c.in-Waiting.waiting (c.in-Waiting.ensures.value w.0 w.1) l.of).0

pub returns-in-Optimist-clause-step : goal.returns-in-Optimist-clause-step
returns-in-Optimist-clause-step c = λ s n h here.
    let w = seen_there c.args.run.now.lives.items c.args.i c.requires.inside in
    let a = waits_optimistic c.args.i s (seen_run c.args.run.now) _ n w.0 c.in-Optimist.optimist c.into_waiting.result h here w.1
    (sym (c.in-Optimist.ensures.value w.0 w.1)) (ap (λ (x : WaitingSays). x.r) c.into_waiting.ensures)
    (ap (λ (x : WaitingSays). x.turns) c.into_waiting.ensures)
    refl c.take.ensures.lives in
    subst (λ (t : Step). OnOk c.turn.result (Makes t (seen_run c.turn.new.run) c.args.out.now.items c.turn.new.out.items)) (sym a.same)
    (c.turn.ensures.turn a.state a.name a.stands a.at a.going a.fits a.turns)

pub returns-in-Waiting-clause-step : goal.returns-in-Waiting-clause-step
returns-in-Waiting-clause-step c = λ s n h here.
    let w = seen_there c.args.run.now.lives.items c.args.i c.requires.inside in
    let a = waits_pending c.args.i s (seen_run c.args.run.now) _ n w.0 c.in-Waiting.waiting h here w.1
    (sym (c.in-Waiting.ensures.value w.0 w.1)) refl c.take.ensures.lives in
    subst (λ (t : Step). OnOk c.turn-in-Waiting.result (Makes t (seen_run c.turn-in-Waiting.new.run) c.args.out.now.items c.turn-in-Waiting.new.out.items))
    (sym a.same)
    (c.turn-in-Waiting.ensures.turn a.state a.name a.stands a.at a.going a.fits a.turns)

pub returns-in-Granted-clause-sound : goal.returns-in-Granted-clause-sound
returns-in-Granted-clause-sound c =
    let w = seen_there c.args.run.now.lives.items c.args.i c.requires.inside in
    let r = seen_run c.args.run.now in
    let core = id_of c.args.run.now.core in
    let taken = map seen_live c.take.new.lives.items in
    let l = Each-at (IsLive core) r.lives c.args.i w.0 w.1 c.requires.sound.lives in
    sound_put (record r { lives = taken }) (seen_run c.give_back.new.run) c.args.i w.0.session (Granted c.in-Granted.granted)
    (lent_take r c.args.i w.0 taken w.1 c.take.ensures.lives) refl
    (subst (λ (v : Value). IsOf core w.0.session v) (sym (c.in-Granted.ensures.value w.0 w.1)) l.of) c.give_back.ensures
    (sound_take r c.args.i w.0 taken w.1 c.take.ensures.lives c.requires.sound)

pub returns-in-Granted-clause-step : goal.returns-in-Granted-clause-step
returns-in-Granted-clause-step c = λ s n h here.
    let w = seen_there c.args.run.now.lives.items c.args.i c.requires.inside in
    let r = seen_run c.args.run.now in
    let new = seen_run c.give_back.new.run in
    let v = Granted c.in-Granted.granted in
    waits_none c.args.i s r new n w.0 v c.args.out.now.items h here w.1 (sym (c.in-Granted.ensures.value w.0 w.1)) refl
    (ap (λ (q : RunSays). q.log) c.give_back.ensures)
    (kept_value c.args.i v w.0 r.lives (map seen_live c.take.new.lives.items) new.lives w.1 (c.in-Granted.ensures.value w.0 w.1) c.take.ensures.lives
    (ap (λ (q : RunSays). q.lives) c.give_back.ensures))

pub returns-in-Over-clause-sound : goal.returns-in-Over-clause-sound
returns-in-Over-clause-sound c =
    let w = seen_there c.args.run.now.lives.items c.args.i c.requires.inside in
    let r = seen_run c.args.run.now in
    subst (λ (ls : List LiveSays). Sound 0 (record r { lives = ls }))
    (sym (kept_over c.args.i w.0 r.lives (map seen_live c.take.new.lives.items) w.1 (c.in-Over.ensures.value w.0 w.1) c.take.ensures.lives)) c.requires.sound

pub returns-in-Over-clause-step : goal.returns-in-Over-clause-step
returns-in-Over-clause-step c = λ s n h here.
    let w = seen_there c.args.run.now.lives.items c.args.i c.requires.inside in
    let r = seen_run c.args.run.now in
    waits_none c.args.i s r _ n w.0 Over c.args.out.now.items h here w.1 (sym (c.in-Over.ensures.value w.0 w.1)) refl refl
    (kept_over c.args.i w.0 r.lives (map seen_live c.take.new.lives.items) w.1 (c.in-Over.ensures.value w.0 w.1) c.take.ensures.lives)
