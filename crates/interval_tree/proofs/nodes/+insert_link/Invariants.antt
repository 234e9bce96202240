use Rattle.std.proofs.Common.{◌-◌}
use Rattle.interval_tree.proofs.nodes.+insert_link.Given as goal

abbrev pub decreases-insert_link : goal.decreases-insert_link
decreases-insert_link l = 65 - l.k
