use Rattle.std.proofs.Common.{ℕ, List, [], ◌∷◌, arith}
use Rattle.row_pool.specs.Trees.{Tree}
use Rattle.row_pool.specs.TestSeats.{Holding, IsLeafOver}
use Rattle.row_pool.proofs.changes_in_place.shared_below.Goals.{After-make_leaf-leaf}
use Rattle.row_pool.proofs.changes_in_place.shared_below.Goals as goal

-- a leaf over the item t, to which the seat has a reference besides
made : (c : After-make_leaf-leaf) → (t : Tree) × (x : Tree) × (us : List ℕ)
    × Holding c.args.rows.now c.make_leaf-leaf.new.seat c.make_leaf-leaf.new.chain (x ∷ t ∷ []) us
    × IsLeafOver c.make_leaf-leaf.result c.make_item-item.result x t
made c =
    let g = c.requires.stand in
    let h = c.make_item-item.ensures.stand [] g.0 g.1 in
    let k = c.make_leaf-leaf.ensures.stand h.0 (h.0 ∷ []) h.1 h.2 (c.hold_again.ensures.stand h.0 [] h.1 h.2 h.4) in
    (h.0, k.0, k.1, k.3, record { here = k.2; is_leaf = k.5; first = k.4; below = h.2; is_item = h.5 })

pub make_item-item-requires : goal.make_item-item-requires
make_item-item-requires c = let g = c.requires.stand in record { stand = ([], g.0, g.1, (let a = g.2 in omega arith), omega arith) }

pub hold_again-requires : goal.hold_again-requires
hold_again-requires c =
    let g = c.requires.stand in
    let h = c.make_item-item.ensures.stand [] g.0 g.1 in
    record { stand = (h.0, [], h.1, h.4, h.2, omega arith) }

pub make_leaf-leaf-requires : goal.make_leaf-leaf-requires
make_leaf-leaf-requires c =
    let g = c.requires.stand in
    let h = c.make_item-item.ensures.stand [] g.0 g.1 in
    let held = c.hold_again.ensures.stand h.0 [] h.1 h.2 h.4 in
    record { stand = (h.0, h.0 ∷ [], h.1, held, h.2, h.5, (let a = g.2 in let b = h.3 in omega arith), omega arith) }

pub change_below-changed-requires : goal.change_below-changed-requires
change_below-changed-requires c =
    let m = made (goal.at.change_below-changed-requires c).After-make_leaf-leaf in
    record { stand = (m.1, m.0, m.0 ∷ [], m.2, m.3, m.4) }

pub drop_second-requires : goal.drop_second-requires
drop_second-requires c =
    let m = made (goal.at.drop_second-requires c).After-make_leaf-leaf in
    let h = c.change_below-changed.ensures.stand m.1 m.0 (m.0 ∷ []) m.2 m.3 m.4 in
    record {
      stand = (h.0, m.0, [], m.2, h.2, m.4.below, λ z. let a = h.3.is_leaf in let b = m.4.is_item in absurd (omega arith));
    }

pub returns-clause-stand : goal.returns-clause-stand
returns-clause-stand c =
    let m = made (goal.at.returns-clause-stand c).After-make_leaf-leaf in
    let h = c.change_below-changed.ensures.stand m.1 m.0 (m.0 ∷ []) m.2 m.3 m.4 in
    let o = c.drop_second.ensures.stand h.0 m.0 [] m.2 h.2 m.4.below (λ z. let a = h.3.is_leaf in let b = m.4.is_item in absurd (omega arith)) in
    (h.0, h.1, o.0, o.1, h.3)
