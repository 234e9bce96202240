use Rattle.script.proofs.Generating.{generated_script}
use Rattle.script.proofs.Measured.{generated_fits}
use Rattle.script.proofs.spelling.generated_is_a_script.Goals as goal

pub returns : goal.returns
returns c = record { script = generated_script; fits = generated_fits }
