use Rattle.std.proofs.Common.{◌-◌}
use Rattle.interval_tree.proofs.tests.+shots_stand.Given as goal

abbrev pub decreases-shots_stand : goal.decreases-shots_stand
decreases-shots_stand l = l.to - l.from
