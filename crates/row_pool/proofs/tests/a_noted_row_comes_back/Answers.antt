use Rattle.std.proofs.Common.{[], arith}
use Rattle.row_pool.proofs.tests.a_noted_row_comes_back.Goals as goal

pub make_noted_item-row-requires : goal.make_noted_item-row-requires
make_noted_item-row-requires g c = let h = c.in_ok-rows.ensures.stand in record { stand = ([], h.0, h.1, (let a = h.2 in omega arith), omega arith) }

pub drop_one-requires : goal.drop_one-requires
drop_one-requires g c =
    let h = c.in_ok-rows.ensures.stand in
    let k = c.make_noted_item-row.ensures.stand [] h.0 h.1 in
    record { stand = (k.0, [], k.1, k.3, k.2) }

pub close_all-requires-clause-stand : goal.close_all-requires-clause-stand
close_all-requires-clause-stand g c =
    let h = c.in_ok-rows.ensures.stand in
    let k = c.make_noted_item-row.ensures.stand [] h.0 h.1 in
    c.drop_one.ensures.stand k.0 [] k.1 k.2 k.3
