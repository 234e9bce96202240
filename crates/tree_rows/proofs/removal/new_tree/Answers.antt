use Rattle.std.proofs.Common.{[]}
use Rattle.tree_rows.proofs.Planting.{planted-none}
use Rattle.tree_rows.proofs.removal.new_tree.Goals as goal

pub grow-grown-requires : goal.grow-grown-requires
grow-grown-requires c =
    let o = c.in_ok-rows.ensures.owns in
    record {
      stand = (
        o.0,
        [],
        planted-none c.in_ok-rows.rows c.in_ok-rows.seat c.in_ok-rows.chain c.new-tree.result o.0 o.1 o.2
            (c.new-tree.ensures.tree c.in_ok-rows.seat.view),
      );
    }
