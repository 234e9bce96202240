use Rattle.std.proofs.Common.{◌∙◌, ap}
use Rattle.std.proofs.lemmas.Result.{IfOk-weaker}
use Rattle.serde_json.specs.View.{view}
use Rattle.report.specs.Plain.{shown}
use Rattle.report.proofs.Values.{end_shown}
use Rattle.report.proofs.objects.end_value.Goals as goal

pub returns : goal.returns
returns c =
    IfOk-weaker c.end_object.result _ _ (λ v e. ap shown e
    ∙ end_shown c.args.id c.args.grant.now c.args.poison c.args.fault
    (view c.in_ok-cause.cause) (view c.in_ok-fault.fault) (view c.in_ok-grant.grant) (view c.in_ok-latches.latches)
    c.checked_list.result.now c.checked_list.ensures
    c.in_ok-cause.ensures c.in_ok-fault.ensures c.in_ok-grant.ensures c.in_ok-latches.ensures) c.end_object.ensures
