use Rattle.std.proofs.Common.{◌∙◌, ◌++◌, List, ℕ, ap}
use Rattle.latch_model.specs.Recorded.{Recorded}
use Rattle.report.specs.Json.{report_json}
use Rattle.report.proofs.objects.render_json.Goals as goal

pub returns : goal.returns
returns c =
    let entries = c.as_slice.ensures.value ∙ ap (λ (r : Recorded). r.entries) c.history.view_is in
    c.in_ok-put_report.ensures ∙ ap (λ (xs : List ℕ). xs ++ report_json c.as_slice.result.now) c.new-out.ensures.items ∙ ap report_json entries
