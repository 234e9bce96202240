use Rattle.std.proofs.Common.{[], ◌∷◌, arith}
use Rattle.read_list.proofs.tests.a_list_of_three.Goals as goal

pub push_three-a-requires : goal.push_three-a-requires
push_three-a-requires g c =
    let h = c.in_ok-rows.ensures.stock in
    record { stock = (h.0, h.1, c.new-list.ensures c.in_ok-rows.seat.view, (let a = h.2 in omega arith)) }

pub unlink_and_drop-requires : goal.unlink_and_drop-requires
unlink_and_drop-requires g c =
    let h = c.push_three-a.ensures.stock in
    record { stock = (h.0, c.push_three-a.result.0 ∷ [], c.push_three-a.result.2 ∷ [], h.1, h.2) }

pub pop_three-first-requires : goal.pop_three-first-requires
pop_three-first-requires g c =
    let h = c.push_three-a.ensures.stock in
    record { stock = c.unlink_and_drop.ensures.stock h.0 (c.push_three-a.result.0 ∷ []) (c.push_three-a.result.2 ∷ []) h.1 h.2 }
