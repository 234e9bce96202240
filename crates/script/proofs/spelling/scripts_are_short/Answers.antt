use Rattle.script.proofs.Laws.Sizes.{few_commands, name_size}
use Rattle.script.proofs.spelling.scripts_are_short.Goals as goal

pub returns : goal.returns
returns c = record { commands = few_commands; names = name_size }
