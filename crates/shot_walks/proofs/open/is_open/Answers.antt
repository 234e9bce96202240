use Rattle.shot_walks.proofs.Ends.{learns_end}
use Rattle.shot_walks.proofs.open.is_open.Goals as goal

pub returns-clause-learns : goal.returns-clause-learns
returns-clause-learns c = learns_end c.done.result _ _ _ c.done.ensures.seat
