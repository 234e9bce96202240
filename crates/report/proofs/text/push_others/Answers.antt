use Rattle.std.proofs.Common.{rules}
use Rattle.report.proofs.Growth.{take-through}
use Rattle.report.proofs.text.push_others.Goals as goal

pub returns-in_err-push_after-clause-err : goal.returns-in_err-push_after-clause-err
returns-in_err-push_after-clause-err c = search (rules, take-through)
