use Rattle.std.proofs.Common.{List, Result, sym, subst, ℕ}
use Rattle.std.proofs.lemmas.Result.{err_from_is_err_and}
use Rattle.script.specs.Lines.{fields}
use Rattle.script.specs.Outcomes.{Gives}
use Rattle.script.specs.declared.command.Command.{Command}
use Rattle.script.proofs.Laws.Commands.{command_takes}
use Rattle.script.proofs.Walked.{next_fails, more_is}
use Rattle.script.proofs.read.next.Goals as goal

pub returns-in_err-command-clause-commands : goal.returns-in_err-command-clause-commands
returns-in_err-command-clause-commands c =
    let p = err_from_is_err_and c.from_residual.result c.from_residual.ensures.1 in
    rw (p.1, p.2) (next_fails c.in_err-command.field-0.0 c.args.draft.now.commands.items c.args.line.now c.in_err-command.ensures)

pub add-requires-clause-fits : goal.add-requires-clause-fits
add-requires-clause-fits c = (command_takes (fields c.args.line.now) c.in_ok-command.field-0 c.in_ok-command.ensures).1

pub returns-clause-commands : goal.returns-clause-commands
returns-clause-commands c =
    let same = more_is c.args.draft.now.commands.items c.args.line.now c.in_ok-command.field-0 c.in_ok-command.ensures in
    subst (λ (read : Result (List Command) ℕ). Gives (λ u. c.add.new.self.commands.items) c.add.result read) (sym same) c.add.ensures.commands
