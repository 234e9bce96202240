use Rattle.tree_rows.specs.Shrinking.{HasPlanted}
use Rattle.tree_rows.proofs.removal.before_and_after.Goals as goal
use Rattle.tree_rows.proofs.removal.before_and_after.Goals.{After-shrink-went}

went : (c : After-shrink-went) → HasPlanted c.in_ok-rows.rows c.shrink-went.new.seat c.shrink-went.new.chain c.shrink-went.new.tree c.args.n
went c = c.shrink-went.ensures.stays.stand c.args.n
    (c.look-was.ensures.stays.stand c.args.n (c.shrink-shrunk.ensures.stays.stand c.args.n c.in_ok-rows.ensures.stand))

pub look-now-requires : goal.look-now-requires
look-now-requires c = record { stand = (c.args.n, went (goal.at.look-now-requires c).After-shrink-went) }

pub finish-requires-clause-stand : goal.finish-requires-clause-stand
finish-requires-clause-stand c =
    (c.args.n, c.look-now.ensures.stays.stand c.args.n (went (goal.at.finish-requires-clause-stand c).After-shrink-went))
