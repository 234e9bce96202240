use Rattle.std.proofs.Common.{◌+◌, ◌-◌, ◌*◌}
use Rattle.interval_tree.proofs.listing.+list_from.Given as goal

abbrev pub decreases-list_from : goal.decreases-list_from
decreases-list_from l = l.level * 64 + (32 - l.i)
