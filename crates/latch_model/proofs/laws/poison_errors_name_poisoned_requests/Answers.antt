use Rattle.latch_model.proofs.Naming.{error_names}
use Rattle.latch_model.proofs.laws.poison_errors_name_poisoned_requests.Goals as goal

pub returns : goal.returns
returns c = error_names
