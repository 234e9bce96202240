use Rattle.std.proofs.Common.{◌<◌, ℕ, List, length}
use Rattle.interval_tree.specs.TestTrees.{Growing, ShotsStand}
use Rattle.interval_tree.proofs.tests.grow.Given as goal

abbrev pub invariant-loop-k : goal.invariant-loop-k
invariant-loop-k l = (roots : List ℕ) → Growing l.rows l.initial.seat l.initial.chain l.initial.tree l.from roots → length roots < 1000
    → Growing l.rows l.seat l.chain l.tree l.k roots × ShotsStand roots l.initial.seat.view l.seat.view
