use Rattle.latch_model.specs.Histories.{met_by}
use Rattle.latch_shots.proofs.TestShots.{asked-again}
use Rattle.latch_shots.proofs.tests.meets.Goals as goal

pub next-requires-clause-walk : goal.next-requires-clause-walk
next-requires-clause-walk c = let (s, h) = c.requires.shots in (met_by s c.args.asked.now, c.first-walk.ensures.walk s h)

pub next-requires-2-clause-walk : goal.next-requires-2-clause-walk
next-requires-2-clause-walk c =
    let (s, h) = c.requires.shots in
    let l = c.args.asked.now in
    asked-again c.next.new.shots c.next.new.self l c.next.result (met_by s l) (c.next.ensures.next (met_by s l) (c.first-walk.ensures.walk s h))
