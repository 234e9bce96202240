-- Timestamps. A stamp is a wall time and a logical count. Stamps are in the order of their wall times, and
-- where these are equal in the order of their logical counts.
use Rattle.std.specs.Prelude.{◌≡◌, ◌<◌, ◌≤◌, ◌⊎◌, Bool, ◌==◌, ◌&&◌, ◌||◌, nat_lt, nat_le}
use Rattle.std.specs.Ordering.{nat_cmp, ordering_then}
use Rattle.std.specs.declared.cmp.Ordering.{Ordering}
use Rattle.hlc_stamp.specs.declared.Stamp.{Stamp}

-- a is earlier than b: its wall time is less, or the wall times are equal and its count is less
abbrev pub StampBefore : Stamp → Stamp → Type 0
StampBefore a b = (a.wall < b.wall) ⊎ ((a.wall ≡ b.wall) × (a.logical < b.logical))

-- a is not later than b
abbrev pub StampUpTo : Stamp → Stamp → Type 0
StampUpTo a b = (a.wall < b.wall) ⊎ ((a.wall ≡ b.wall) × (a.logical ≤ b.logical))

-- the same as a test
abbrev pub stamp_le : Stamp → Stamp → Bool
stamp_le a b = nat_lt a.wall b.wall || (a.wall == b.wall && nat_le a.logical b.logical)

-- the order as `cmp` answers it
abbrev pub stamp_cmp : Stamp → Stamp → Ordering
stamp_cmp a b = ordering_then (nat_cmp a.wall b.wall) (nat_cmp a.logical b.logical)

-- the stamp (0, 0), which stands for no time
abbrev pub IsEmptyStamp : Stamp → Type 0
IsEmptyStamp a = (a.wall ≡ 0) × (a.logical ≡ 0)

abbrev pub is_empty_stamp : Stamp → Bool
is_empty_stamp a = a.wall == 0 && a.logical == 0

abbrev pub empty_stamp : Stamp
empty_stamp = record { wall = 0; logical = 0 }
