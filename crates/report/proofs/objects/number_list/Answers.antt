use Rattle.std.proofs.Common.{◌∙◌, ap, decimal}
use Rattle.report.specs.Plain.{shown}
use Rattle.report.proofs.Values.{list_shown}
use Rattle.report.proofs.objects.number_list.Goals as goal

pub returns : goal.returns
returns c = ap shown c.from.ensures ∙ list_shown decimal c.in_ok-number_values.field-0.items c.args.numbers.now c.in_ok-number_values.ensures
