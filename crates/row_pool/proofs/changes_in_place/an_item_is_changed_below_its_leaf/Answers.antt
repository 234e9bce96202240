use Rattle.std.proofs.Common.{arith}
use Rattle.row_pool.proofs.changes_in_place.an_item_is_changed_below_its_leaf.Goals as goal

pub shared_below-leaf-requires : goal.shared_below-leaf-requires
shared_below-leaf-requires g c = let h = c.in_ok-rows.ensures.stand in record { stand = (h.0, h.1, (let a = h.2 in omega arith)) }
