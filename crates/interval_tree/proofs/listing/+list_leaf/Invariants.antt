use Rattle.std.proofs.Common.{◌-◌}
use Rattle.interval_tree.proofs.listing.+list_leaf.Given as goal

abbrev pub decreases-list_leaf : goal.decreases-list_leaf
decreases-list_leaf l = 32 - l.i
