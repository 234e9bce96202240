use Rattle.tree_rows.proofs.removal.is_changed_in_place.Goals as goal

pub finish-requires-clause-stand : goal.finish-requires-clause-stand
finish-requires-clause-stand c =
    let before = c.shot_root-first.ensures.stays.stand 31 c.in_ok-rows.ensures.stand in
    (31, c.shot_root-second.ensures.stays.stand 31 (c.shrink-went.ensures.stays.stand 31 before))
