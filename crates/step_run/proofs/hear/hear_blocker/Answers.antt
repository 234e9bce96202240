use Rattle.std.proofs.Common.{map, refl}
use Rattle.step_run.specs.Lives.{seen_live}
use Rattle.step_run.proofs.Lives.{all_themselves}
use Rattle.step_run.proofs.hear.hear_blocker.Goals as goal

pub returns-else-may_be_poisoned-clause-lives : goal.returns-else-may_be_poisoned-clause-lives
returns-else-may_be_poisoned-clause-lives c = let ls = map seen_live c.args.lives.now.items in all_themselves ls ls refl
