use Rattle.script.proofs.Ascii.{name_is_text}
use Rattle.script.proofs.command.Name.new.Goals as goal

pub unreachable-requires-in-Err : goal.unreachable-requires-in-Err
unreachable-requires-in-Err c = c.in-Err.ensures.cases.0 (name_is_text c.args.bytes.now c.requires)
