use Rattle.std.proofs.Common.{◌∙◌, ap}
use Rattle.std.proofs.lemmas.Result.{IfOk-weaker}
use Rattle.serde_json.specs.View.{view}
use Rattle.script.specs.Commands.{policy_text}
use Rattle.report.specs.Plain.{shown}
use Rattle.report.proofs.Values.{begin_shown}
use Rattle.report.proofs.objects.begin_value.Goals as goal

pub returns : goal.returns
returns c =
    IfOk-weaker c.begin_object.result _ _ (λ v e. ap shown e
    ∙ begin_shown c.args.ids.now c.args.id c.args.lane c.args.who c.args.mode c.args.request.now
    (view c.in_ok-before.before) (view c.in_ok-latches.latches) (view c.in_ok-mode.mode) (view c.in_ok-policy.policy)
    c.tag.result c.list.result.now c.mode_word.result.now c.policy_word.result.now
    c.tag.ensures (c.list.ensures.list ∙ c.latches.ensures) c.mode_word.ensures (c.policy_word.ensures ∙ ap policy_text c.policy.ensures)
    c.in_ok-before.ensures c.in_ok-latches.ensures c.in_ok-mode.ensures c.in_ok-policy.ensures) c.begin_object.ensures
