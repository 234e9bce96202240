use Rattle.std.proofs.Common.{◌≡◌, ◌≤◌, [], ◌∷◌, ◌++◌, length, map, refl, sym, ap, ◌∙◌, subst}
use Rattle.step_run.specs.Runs.{RunSays, Sound}
use Rattle.step_run.specs.Lives.{LiveSays, seen_live}
use Rattle.step_run.specs.Seen.{seen_run}
use Rattle.latch_model.specs.declared.history.Fault.TheVariants.{None as no_fault}
use Rattle.latch_model.specs.declared.history.Grant.{Grant}
use Rattle.latch_model.specs.declared.history.Grant.TheVariants.{Waited}
use Rattle.latch_model.specs.declared.history.Entry.TheVariants.{Ended}
use Rattle.latch_model.specs.declared.latch.Mode.TheVariants.{Look}
use Rattle.sequence_core.specs.Says.{end_entry}
use Rattle.waiter.specs.Says.{EndingSays}
use Rattle.step_run.specs.declared.live.Value.TheVariants.{Granted as GrantedValue}
use Rattle.step_run.proofs.Lives.{seen_at}
use Rattle.step_run.proofs.Sounding.{lent_session, sound_put}
use Rattle.step_run.proofs.Turning.{granted_look, granted_other, itself, lent_name, not_look, stands_ended, stands_granted}
use Rattle.step_run.proofs.turn.settle.Goals as goal

pub end-requires-clause-sound : goal.end-requires-clause-sound
end-requires-clause-sound c = subst (λ w. Sound w (seen_run c.args.run.now)) (sym (ap (λ (e : EndingSays). e.r.who) c.finish.ensures)) c.requires.sound

pub end-requires-clause-core : goal.end-requires-clause-core
end-requires-clause-core c = ap (λ (e : EndingSays). e.core) c.finish.ensures ∙ c.requires.core

pub end-requires-clause-session : goal.end-requires-clause-session
end-requires-clause-session c =
    let w = lent_session (seen_run c.args.run.now) c.args.i c.args.granted.r.who c.args.granted.r.who c.requires.lent c.requires.sound in
    subst (λ k. (1 ≤ k) × (k ≤ 64)) (sym (ap (λ (e : EndingSays). e.r.who) c.finish.ensures)) w

pub give_back-requires : goal.give_back-requires
give_back-requires c = (c.requires.lent.live, c.requires.lent.at, c.requires.lent.over)

pub returns-in-Look-clause-stands : goal.returns-in-Look-clause-stands
returns-in-Look-clause-stands c = λ s n h at o f g.
    let x = c.index.result.now in
    let r = seen_run c.args.run.now in
    let k = c.requires.lent in
    let live = seen_at c.args.run.now.lives.items c.args.i x k.live k.at c.index.ensures in
    let mode : n.mode ≡ Look = sym (ap (λ (l : LiveSays). l.mode) live ∙ (lent_name c.args.i c.args.granted.r.who s r n h at k).mode) ∙ c.in-Look.is in
    granted_look s n (seen_run c.end.new.run) n.mode mode
    (stands_ended c.args.i s r (seen_run c.end.new.run) n n c.args.granted.r (Waited (length s.history)) no_fault h at k (itself n) f
    (c.end.ensures.log ∙ ap (λ (e : EndingSays). c.args.run.now.desk.log ++ end_entry e ∷ []) c.finish.ensures
    ∙ ap (λ (q : Grant). c.args.run.now.desk.log ++ Ended c.args.granted.r.id c.args.granted.r.who q c.args.granted.r.cause no_fault ∷ []) g)
    (ap (λ ys. map seen_live ys) c.end.ensures.lives))

pub returns-in-Acquire-clause-sound : goal.returns-in-Acquire-clause-sound
returns-in-Acquire-clause-sound c =
    sound_put (seen_run c.args.run.now) (seen_run c.give_back.new.run) c.args.i c.args.granted.r.who (GrantedValue c.args.granted) c.requires.lent refl
    (c.requires.core, refl) c.give_back.ensures c.requires.sound

pub returns-in-Acquire-clause-stands : goal.returns-in-Acquire-clause-stands
returns-in-Acquire-clause-stands c = λ s n h at o f g.
    let x = c.index.result.now in
    let r = seen_run c.args.run.now in
    let k = c.requires.lent in
    let live = seen_at c.args.run.now.lives.items c.args.i x k.live k.at c.index.ensures in
    let mode : x.mode ≡ n.mode = ap (λ (l : LiveSays). l.mode) live ∙ (lent_name c.args.i c.args.granted.r.who s r n h at k).mode in
    granted_other s n _ n.mode (λ e. not_look x.mode c.in-Acquire.is (mode ∙ e))
    (stands_granted c.args.i c.args.granted.r.who s r _ n c.args.granted h at o f g
    (ap (λ (q : RunSays). q.log) c.give_back.ensures) (ap (λ (q : RunSays). q.lives) c.give_back.ensures))
