use Rattle.std.proofs.Common.{[], arith}
use Rattle.interval_tree.proofs.tests.tree_and_shots_stand.Goals as goal

pub shots_stand-stand-requires-clause-growing : goal.shots_stand-stand-requires-clause-growing
shots_stand-stand-requires-clause-growing c = ([], c.in_ok-rows.ensures.growing, omega arith)

pub is_in_order-listed-requires : goal.is_in_order-listed-requires
is_in_order-listed-requires c = record {
  growing = (
    c.shots_stand-stand.new.chain,
    c.args.n,
    [],
    c.shots_stand-stand.ensures.growing [] c.in_ok-rows.ensures.growing (omega arith),
  );
}

pub finish-requires : goal.finish-requires
finish-requires c = record {
  growing = (
    c.args.n,
    c.is_in_order-listed.ensures.growing c.shots_stand-stand.new.chain c.args.n []
        (c.shots_stand-stand.ensures.growing [] c.in_ok-rows.ensures.growing (omega arith)),
  );
}
