use Rattle.std.proofs.Common.{◌-◌}
use Rattle.tree_rows.proofs.removal.+rounds.Given as goal

abbrev pub decreases-rounds : goal.decreases-rounds
decreases-rounds l = l.to - l.from
