use Rattle.tree_rows.specs.Shrinking.{Stays}
use Rattle.tree_rows.proofs.removal.shrink.Given as goal

abbrev pub invariant-loop-turn : goal.invariant-loop-turn
invariant-loop-turn l = Stays l.rows l.fn.seat l.seat l.fn.chain l.chain l.fn.tree l.tree
