use Rattle.latch_model.specs.Histories.{met_by}
use Rattle.latch_shots.proofs.shots.Shots.first_met.Goals as goal

pub next-requires-clause-walk : goal.next-requires-clause-walk
next-requires-clause-walk c = let (s, h) = c.requires.shown in (met_by s c.args.asked.now, c.first-walk.ensures.walk s h)
