-- For whom a request waits, as the tests with threads speak of it: for at most one other.
use Rattle.std.specs.Prelude.{◌≡◌, ℕ, Option, Some, None}
use Rattle.signal_board.specs.Views.{RequestView}
use Rattle.signal_board.specs.Rule.{IsPrerequisite, begun_as}
use Rattle.signal_board.specs.Says.{LaneSays}

-- The request waits for this one alone, which is in this lane; or for none.
abbrev pub WaitsFor : RequestView → Option (ℕ × ℕ) → Type 0
WaitsFor r None = (p lane : ℕ) → IsPrerequisite r p lane → ⊥
WaitsFor r (Some w) = IsPrerequisite r w.0 w.1 × ((p lane : ℕ) → IsPrerequisite r p lane → p ≡ w.0)

-- Two views of one request at one board, which may know more at the one than at the other.
abbrev pub SameRequest : LaneSays → LaneSays → Type 0
SameRequest a b = (b.table ≡ a.table) × (begun_as b.r ≡ begun_as a.r) × (b.r.shot ≡ a.r.shot)
