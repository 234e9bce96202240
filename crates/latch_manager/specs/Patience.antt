-- How long a wait goes on.
use Rattle.std.specs.Prelude.{ℕ, ◌+◌, ◌-◌, ◌≤◌, ◌^◌, min}

-- A count of refusals rose, or stands at its last value.
abbrev pub Refused : ℕ → ℕ → Type 0
Refused before now = min (before + 1) (2 ^ 64 - 1) ≤ now
