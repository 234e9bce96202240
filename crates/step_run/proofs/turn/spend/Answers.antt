use Rattle.std.proofs.Common.{ℕ, refl, sym, ap, ◌∙◌, subst}
use Rattle.std.specs.Prelude.{OnOk}
use Rattle.step_run.specs.Runs.{Makes, RunSays}
use Rattle.step_run.specs.Lives.{LiveSays}
use Rattle.step_run.specs.Seen.{seen_run}
use Rattle.step_run.specs.declared.live.Value.TheVariants.{Waiting}
use Rattle.step_run.specs.Steps.{spent_turn}
use Rattle.std.specs.Prelude.{Option}
use Rattle.step_run.proofs.Lives.{seen_at}
use Rattle.step_run.proofs.Sounding.{sound_put}
use Rattle.step_run.proofs.Turning.{lent_name, makes_uncounted}
use Rattle.step_run.proofs.turn.spend.Goals as goal

pub give_back-requires : goal.give_back-requires
give_back-requires c = (c.requires.lent.live, c.requires.lent.at, c.requires.lent.over)

pub returns-in-None-clause-sound : goal.returns-in-None-clause-sound
returns-in-None-clause-sound c =
    sound_put (seen_run c.args.run.now) (seen_run c.give_back.new.run) c.args.i c.args.waiting.r.who (Waiting c.args.waiting) c.requires.lent refl
    (c.requires.core, refl) c.give_back.ensures c.requires.sound

pub returns-in-None-clause-spent : goal.returns-in-None-clause-spent
returns-in-None-clause-spent c = λ s n m h at o same p f k.
    let x = c.index.result.now in
    let r = seen_run c.args.run.now in
    let lent = c.requires.lent in
    let live = seen_at c.args.run.now.lives.items c.args.i x lent.live lent.at c.index.ensures in
    let turns = same.turns ∙ sym (ap (λ (l : LiveSays). l.turns) live ∙ (lent_name c.args.i c.args.waiting.r.who s r n h at lent).turns) in
    makes_uncounted c.args.i s r _ n m c.args.waiting c.args.out.now.items h at o same p f (turns ∙ c.in-None.is)
    (ap (λ (q : RunSays). q.log) c.give_back.ensures) (ap (λ (q : RunSays). q.lives) c.give_back.ensures)

pub returns-in-Some-clause-spent : goal.returns-in-Some-clause-spent
returns-in-Some-clause-spent c = λ s n m h at o same p f k.
    let x = c.index.result.now in
    let r = seen_run c.args.run.now in
    let lent = c.requires.lent in
    let live = seen_at c.args.run.now.lives.items c.args.i x lent.live lent.at c.index.ensures in
    let turns = same.turns ∙ sym (ap (λ (l : LiveSays). l.turns) live ∙ (lent_name c.args.i c.args.waiting.r.who s r n h at lent).turns) in
    subst (λ (q : Option ℕ). OnOk c.count.result (Makes (spent_turn m s q) (seen_run c.count.new.run) c.args.out.now.items c.count.new.out.items))
    (sym (turns ∙ c.in-Some.is))
    (c.count.ensures.counted s n m h at o same p f (turns ∙ c.in-Some.is) k)
