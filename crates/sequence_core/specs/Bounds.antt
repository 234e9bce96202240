-- The bounds of a desk's sizes.
use Rattle.std.specs.Prelude.{ℕ, Bool, nat_lt, ◌||◌, if◌then◌else◌, Option, Some, None}
use Rattle.latch_model.specs.declared.history.Sizes.{Sizes}
use Rattle.sequence_core.specs.declared.fault.Which.{Which}
use Rattle.sequence_core.specs.declared.fault.Which.TheVariants.{Latches, Lanes, Rows}
use Rattle.sequence_core.specs.declared.limits.TheConstants.{MOST_LATCHES, MOST_LANES, FEWEST_ROWS, MOST_ROWS}

-- whether a number is below the one or above the other
abbrev pub outside : ℕ → ℕ → ℕ → Bool
outside low high n = nat_lt n low || nat_lt high n

-- The first of the sizes that is out of its bounds.
abbrev pub bad_size : Sizes → Option Which
bad_size s =
    if outside 1 MOST_LATCHES s.latches then Some Latches
    else (if outside 1 MOST_LANES s.lanes then Some Lanes else (if outside FEWEST_ROWS MOST_ROWS s.rows then Some Rows else None))
