use Rattle.std.proofs.Common.{◌≡◌, List, length, sym, ap, ◌∙◌, subst}
use Rattle.std.proofs.lemmas.Result.{on_ok_weaker}
use Rattle.step_run.specs.Runs.{IsLent, RunSays, Sound, StandsBut}
use Rattle.step_run.specs.Lives.{LiveSays}
use Rattle.step_run.specs.Seen.{seen_run}
use Rattle.latch_model.specs.declared.history.Grant.TheVariants.{Waited}
use Rattle.latch_model.specs.declared.history.Entry.{Entry}
use Rattle.waiter.specs.Says.{GrantedSays}
use Rattle.step_run.specs.Runs.{FitsRequest}
use Rattle.step_run.proofs.Lives.{seen_at}
use Rattle.step_run.proofs.Turning.{granted_fits, lent_name, makes_granted, seen_desk}
use Rattle.step_run.proofs.turn.grant.Goals as goal

pub settle-requires-clause-lent : goal.settle-requires-clause-lent
settle-requires-clause-lent c =
    subst (λ (r : RunSays). IsLent c.args.i c.stamp-granted.result.0.r.who r)
    (sym (seen_desk c.args.run.now c.stamp-granted.new.desk c.stamp-granted.ensures.desk))
    (subst (λ w. IsLent c.args.i w (seen_run c.args.run.now)) (sym (ap (λ (g : GrantedSays). g.r.who) c.stamp-granted.ensures.granted)) c.requires.lent)

pub settle-requires-clause-sound : goal.settle-requires-clause-sound
settle-requires-clause-sound c =
    subst (λ (r : RunSays). Sound c.stamp-granted.result.0.r.who r) (sym (seen_desk c.args.run.now c.stamp-granted.new.desk c.stamp-granted.ensures.desk))
    (subst (λ w. Sound w (seen_run c.args.run.now)) (sym (ap (λ (g : GrantedSays). g.r.who) c.stamp-granted.ensures.granted)) c.requires.sound)

pub settle-requires-clause-core : goal.settle-requires-clause-core
settle-requires-clause-core c = ap (λ (g : GrantedSays). g.core) c.stamp-granted.ensures.granted ∙ c.requires.core

pub returns-clause-turn : goal.returns-clause-turn
returns-clause-turn c = λ s n old h at o a.
    let x = c.index.result.now in
    let r = seen_run c.args.run.now in
    let k = c.requires.lent in
    let g = c.stamp-granted.result.0 in
    let front = c.stamp-granted.result.1 in
    let live = seen_at c.args.run.now.lives.items c.args.i x k.live k.at c.index.ensures in
    let whole : front ≡ length s.history = c.stamp-granted.ensures.front (a.shown ∙ sym h.history) ∙ ap (λ (e : List Entry). length e) h.history in
    let moved = seen_desk c.args.run.now c.stamp-granted.new.desk c.stamp-granted.ensures.desk in
    on_ok_weaker c.number_line-written.result
    (λ w. makes_granted s n old c.args.waiting (seen_run c.settle.new.run) x.name.now c.args.out.now.items c.number_line-written.new.out.items front a
    (ap (λ (l : LiveSays). l.name) live ∙ (lent_name c.args.i c.args.waiting.r.who s r n h at k).name)
    whole
    (c.settle.ensures.stands s n (subst (λ (q : RunSays). StandsBut c.args.i s q) (sym moved) h) at o
    (subst (λ (q : GrantedSays). FitsRequest s.history n q.r) (sym c.stamp-granted.ensures.granted) (granted_fits s.history n c.args.waiting.r _ _ a.fits))
    (ap (λ (q : GrantedSays). q.grant) c.stamp-granted.ensures.granted ∙ ap (λ k. Waited k) whole)) w)
    c.number_line-written.ensures
