use Rattle.std.proofs.Common.{refl}
use Rattle.script.specs.Scripts.{text_of}
use Rattle.script.proofs.Laws.Scripts.{script_again}
use Rattle.script.proofs.spelling.scripts_are_read_back.Goals as goal

pub returns : goal.returns
returns c = λ cs script fits. script_again (text_of cs) cs (record { script = script; fits = fits; spelled = refl })
