use Rattle.std.proofs.Common.{[], arith}
use Rattle.interval_tree.specs.TestTrees.{Growing}
use Rattle.interval_tree.proofs.tests.heights.Goals as goal
use Rattle.interval_tree.proofs.tests.heights.Goals.{After-grow, After-grow-2, After-grow-3}

pub grow-requires-clause-growing : goal.grow-requires-clause-growing
grow-requires-clause-growing c = ([], c.in_ok-rows.ensures.growing, omega arith)

pub grow-requires-2-clause-growing : goal.grow-requires-2-clause-growing
grow-requires-2-clause-growing c = ([], c.grow.ensures.growing [] c.in_ok-rows.ensures.growing (omega arith), omega arith)

pub grow-requires-3-clause-growing : goal.grow-requires-3-clause-growing
grow-requires-3-clause-growing c =
    ([], c.grow-2.ensures.growing [] (c.grow.ensures.growing [] c.in_ok-rows.ensures.growing (omega arith)) (omega arith), omega arith)

grown : (c : After-grow-3) → Growing c.in_ok-rows.rows c.grow-3.new.seat c.grow-3.new.chain c.grow-3.new.tree c.args.n []
grown c = c.grow-3.ensures.growing [] (c.grow-2.ensures.growing [] (c.grow.ensures.growing [] c.in_ok-rows.ensures.growing (omega arith)) (omega arith))
    (omega arith)

pub is_in_order-listed-requires : goal.is_in_order-listed-requires
is_in_order-listed-requires c =
    record { growing = (c.grow-3.new.chain, c.args.n, [], grown (goal.at.is_in_order-listed-requires c).After-grow-3) }

pub finish-requires : goal.finish-requires
finish-requires c =
    record { growing = (c.args.n, c.is_in_order-listed.ensures.growing c.grow-3.new.chain c.args.n [] (grown (goal.at.finish-requires c).After-grow-3)) }
