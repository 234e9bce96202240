use Rattle.latch_model.proofs.Naming.{prerequisite_names}
use Rattle.latch_model.proofs.laws.prerequisites_held_in_conflict.Goals as goal

pub returns : goal.returns
returns c = prerequisite_names
