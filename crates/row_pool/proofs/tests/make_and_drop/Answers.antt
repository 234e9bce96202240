use Rattle.row_pool.proofs.tests.make_and_drop.Goals as goal

pub drop_one-requires : goal.drop_one-requires
drop_one-requires c =
    let g = c.requires.stand in
    let h = c.make_item-row.ensures.stand g.0 g.1 g.2 in
    record { stand = (h.0, g.0, h.1, h.4, h.2) }

pub returns-then-len-gt0-clause-stand : goal.returns-then-len-gt0-clause-stand
returns-then-len-gt0-clause-stand c = λ ts rs g.
    let h = c.make_item-row.ensures.stand ts rs g in
    c.drop_one.ensures.stand h.0 ts h.1 h.2 h.4
