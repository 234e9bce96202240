use Rattle.std.proofs.Common.{List, ◌≤◌, length, subst}
use Rattle.script.specs.declared.command.Command.{Command}
use Rattle.script.specs.declared.limits.TheConstants.{COMMAND_LIMIT}
use Rattle.script.proofs.Laws.Sizes.{few_commands}
use Rattle.script.proofs.command.Script.commands.Goals as goal

pub returns-clause-few : goal.returns-clause-few
returns-clause-few c =
    subst (λ (cs : List Command). length cs ≤ COMMAND_LIMIT) c.self.view_is (few_commands c.self.inside.commands.items c.self.invariant.0 c.self.invariant.1)
