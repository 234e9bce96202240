use Rattle.script.proofs.Laws.Scripts.{one_script, one_spelling, fault_none}
use Rattle.script.proofs.spelling.one_spelling.Goals as goal

pub returns : goal.returns
returns c = record { script = one_script; text = one_spelling; fault = fault_none }
