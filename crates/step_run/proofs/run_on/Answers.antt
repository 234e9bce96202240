use Rattle.std.proofs.Common.{◌++◌, ℕ, List, ap, ◌∙◌}
use Rattle.report.specs.Words.{summary_of, summary_text}
use Rattle.latch_model.specs.Recorded.{Recorded}
use Rattle.latch_model.specs.declared.history.Entry.{Entry}
use Rattle.step_run.specs.State.{start}
use Rattle.step_run.specs.Steps.{run}
use Rattle.step_run.proofs.run_on.Goals as goal

pub returns-clause-output : goal.returns-clause-output
returns-clause-output c =
    let cs = c.args.script.now in
    c.in_ok-summary_text.ensures.ok
    ∙ ap (λ s. c.run_all-done.new.out.items ++ summary_text s) (c.summary.ensures ∙ ap (λ (es : List Entry). summary_of es)
    (c.as_slice.ensures.value ∙ ap (λ (r : Recorded). r.entries) c.history.view_is
    ∙ c.close-history.ensures c.in_ok-done.ensures.lives ∙ c.in_ok-done.ensures.history))
    ∙ ap (λ (w : List ℕ). w ++ summary_text (summary_of (run start cs).state.history)) c.in_ok-done.ensures.written

pub returns-clause-history : goal.returns-clause-history
returns-clause-history c = c.close-history.ensures c.in_ok-done.ensures.lives ∙ c.in_ok-done.ensures.history
