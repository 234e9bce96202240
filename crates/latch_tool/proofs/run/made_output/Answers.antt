use Rattle.std.proofs.Common.{IfErr, List, ◌∙◌, ap, subst}
use Rattle.std.proofs.lemmas.Result.{IfOk-weaker}
use Rattle.script.specs.declared.command.Command.{Command}
use Rattle.step_run.specs.Faults.{ScriptLacks, StopsBy}
use Rattle.step_run.specs.Steps.{step_output}
use Rattle.latch_tool.proofs.run.made_output.Goals as goal

pub returns-clause-output : goal.returns-clause-output
returns-clause-output c = IfOk-weaker c.stepped.result _ _ (λ out e. e ∙ ap step_output c.in_ok-make_script.ensures) c.stepped.ensures.output

pub returns-clause-stops : goal.returns-clause-stops
returns-clause-stops c =
    subst (λ (commands : List Command). IfErr c.stepped.result (StopsBy (ScriptLacks commands))) c.in_ok-make_script.ensures c.stepped.ensures.stops
