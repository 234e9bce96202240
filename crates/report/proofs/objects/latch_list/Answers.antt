use Rattle.std.proofs.Common.{◌∙◌, ap}
use Rattle.script.specs.Texts.{latch_text}
use Rattle.report.specs.Json.{quoted}
use Rattle.report.specs.Plain.{shown}
use Rattle.report.proofs.Values.{list_shown}
use Rattle.report.proofs.objects.latch_list.Goals as goal

pub returns : goal.returns
returns c =
    ap shown c.from.ensures
    ∙ list_shown (λ x. quoted (latch_text x)) c.in_ok-latch_values.field-0.items c.args.latches.now c.in_ok-latch_values.ensures
