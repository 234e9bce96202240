use Rattle.std.proofs.Common.{[], arith}
use Rattle.interval_tree.proofs.TestGrowing.{growing-same}
use Rattle.interval_tree.proofs.tests.is_sorted_by_key.Goals as goal

pub finish-requires : goal.finish-requires
finish-requires c =
    let g = c.add_point-later.ensures.growing [] c.in_ok-rows.ensures.growing (omega arith) in
    record {
      growing = (
        2,
        growing-same c.in_ok-rows.rows c.add_point-earlier.new.seat c.list-list.new.seat c.add_point-earlier.new.chain c.add_point-earlier.new.tree 2 []
            c.list-list.ensures.same.0 c.list-list.ensures.same.1 (c.add_point-earlier.ensures.growing [] g (omega arith)),
      );
    }
