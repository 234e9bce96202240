use Rattle.std.proofs.lemmas.Result.{on_ok_weaker, on_err_weaker}
use Rattle.report.proofs.Commas.{numbers_text-from_first}
use Rattle.report.proofs.Growth.{take-through}
use Rattle.report.proofs.text.push_numbers.Goals as goal

pub returns-in_ok-push_number-in-Some-clause-ok : goal.returns-in_ok-push_number-in-Some-clause-ok
returns-in_ok-push_number-in-Some-clause-ok c =
    on_ok_weaker c.push_others.result
    (numbers_text-from_first _ _ _ _ _ _ c.in-Some.ensures.cases.0 c.in_ok-push_number-in-Some.ensures.ok) c.push_others.ensures.ok

pub returns-in_ok-push_number-in-Some-clause-err : goal.returns-in_ok-push_number-in-Some-clause-err
returns-in_ok-push_number-in-Some-clause-err c =
    on_err_weaker c.push_others.result (take-through _ _ _ _ c.in_ok-push_number-in-Some.ensures.ok) c.push_others.ensures.err
