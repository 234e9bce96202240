use Rattle.std.proofs.Common.{◌∙◌, ◌++◌, List, ℕ, ap}
use Rattle.latch_model.specs.Recorded.{Recorded}
use Rattle.report.specs.Reports.{report_text}
use Rattle.report.proofs.lines.render.Goals as goal

pub returns : goal.returns
returns c =
    let entries = c.as_slice.ensures.value ∙ ap (λ (r : Recorded). r.entries) c.history.view_is in
    c.in_ok-push_report.ensures ∙ ap (λ (xs : List ℕ). xs ++ report_text c.as_slice.result.now) c.new-out.ensures.items ∙ ap report_text entries
