use Rattle.std.proofs.Common.{sym, subst}
use Rattle.std.specs.Prelude.{OnOk}
use Rattle.step_run.specs.Runs.{Makes}
use Rattle.step_run.specs.Seen.{seen_run}
use Rattle.step_run.specs.Steps.{Step, released}
use Rattle.step_run.proofs.Commanding.{inside_of, on_here, on_none}
use Rattle.step_run.proofs.command.release.Goals as goal

pub returns-in-Some-clause-step : goal.returns-in-Some-clause-step
returns-in-Some-clause-step c = λ s h.
    let xs = c.args.run.now.lives.items in
    let name = c.args.name.now in
    let w = on_here s (seen_run c.args.run.now) name c.in-Some.i (λ n. released n s) h
    (inside_of c.in-Some.i xs c.in-Some.ensures.inside)
    (sym c.in-Some.ensures.place) in
    subst (λ (t : Step). OnOk c.release_at.result (Makes t (seen_run c.release_at.new.run) c.args.out.now.items c.release_at.new.out.items)) (sym w.2)
    (c.release_at.ensures.step s w.0 h w.1)

pub returns-in-None-clause-step : goal.returns-in-None-clause-step
returns-in-None-clause-step c = λ s h.
    let name = c.args.name.now in
    on_none s (seen_run c.args.run.now) name c.args.out.now.items (λ n. released n s) h
    (sym c.in-None.ensures.place)
