use Rattle.tree_rows.specs.Shrinking.{HasPlanted}
use Rattle.tree_rows.proofs.removal.is_copied.Goals as goal
use Rattle.tree_rows.proofs.removal.is_copied.Goals.{After-shot_root-second}

after : (c : After-shot_root-second) → HasPlanted c.in_ok-rows.rows c.shot_root-second.new.seat c.shot_root-second.new.chain c.shrink-went.new.tree 31
after c = c.shot_root-second.ensures.stays.stand 31
    (c.shrink-went.ensures.stays.stand 31 (c.hold_shot-held.ensures.stand 31 c.in_ok-rows.ensures.stand))

pub give_back-requires-clause-stand : goal.give_back-requires-clause-stand
give_back-requires-clause-stand c = (31, after (goal.at.give_back-requires-clause-stand c).After-shot_root-second)

pub finish-requires-clause-stand : goal.finish-requires-clause-stand
finish-requires-clause-stand c = (31, c.give_back.ensures.stand 31 (after (goal.at.finish-requires-clause-stand c).After-shot_root-second))
