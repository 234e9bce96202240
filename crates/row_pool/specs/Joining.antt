-- What a join tells the first seat.
use Rattle.std.specs.Prelude.{ℕ, ◌++◌}
use mathlib.Core.Option.{Option, some, none}
use Rattle.row_pool.specs.Lists.{find}
use Rattle.row_pool.specs.Numbers.{without_first}
use Rattle.row_pool.specs.SeatView.{SeatView}
use Rattle.row_pool.specs.Changes.{joined}

-- The first seat after a join, where its list has this for the number of the other. It always has a cap: the rule says so. The first seat knows nothing of the
-- rule, so a view that no pool has, of a row too many, stands for the other case; what holds of each view then tells that the number was listed.
abbrev pub joined_by : Option ℕ → SeatView → SeatView → SeatView
joined_by none v w = record { refs = v.refs ++ w.refs; owned = v.owned ++ w.owned; number = v.number; out = without_first w.number v.out; size = 4194305 }
joined_by (some cap) v w = joined v w

abbrev pub joined_listed : SeatView → SeatView → SeatView
joined_listed v w = joined_by (find w.number v.out) v w
