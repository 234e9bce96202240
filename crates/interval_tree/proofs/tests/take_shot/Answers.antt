use Rattle.std.proofs.Common.{arith}
use Rattle.interval_tree.proofs.TestGrowing.{refs-few}
use Rattle.interval_tree.proofs.TestShots.{growing-shot}
use Rattle.interval_tree.proofs.tests.take_shot.Goals as goal

pub snapshot-requires-clause-few : goal.snapshot-requires-clause-few
snapshot-requires-clause-few c =
    let (chain, n, roots, g, few) = c.requires.growing in
    let a = refs-few c.args.seat.now.view c.args.tree.now g.items roots g.keeps g.shots g.no_more in omega arith

pub returns-clause-growing : goal.returns-clause-growing
returns-clause-growing c = λ chain n roots g.
    growing-shot c.args.rows.now c.args.seat.now c.snapshot.new.seat chain c.args.tree.now n roots c.snapshot.result.root g c.snapshot.ensures.table
    c.snapshot.ensures.root (c.snapshot.ensures.tree g.items g.keeps) (c.snapshot.ensures.reference, c.snapshot.ensures.empty)
