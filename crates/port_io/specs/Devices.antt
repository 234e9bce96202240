-- What devices answer: counts of faults, and bytes that were taken.
use Rattle.std.specs.Prelude.{ℕ, ◌+◌, ◌-◌, ◌^◌, ◌<◌, ◌≤◌, min, List, length, take, Option}
use Rattle.std.specs.Io.KnownBytes.{Appends, Consumes}

-- a count of 64 bits after one more: at its last value it stands still
abbrev pub next_count : ℕ → ℕ
next_count n = min (n + 1) (2 ^ 64 - 1)

-- the count of faults rose, or stands at its last value
abbrev pub CountsFault : ℕ → ℕ → Type 0
CountsFault before now = next_count before ≤ now

-- more than `limit` bytes were taken from the front of what was left
abbrev pub TakesMoreThan : ℕ → Option (List ℕ) → Option (List ℕ) → Type 0
TakesMoreThan limit before now = (taken : List ℕ) × (limit < length taken) × Consumes before now taken

-- at most `limit` bytes were taken from the front of what was left
abbrev pub TakesAtMost : ℕ → Option (List ℕ) → Option (List ℕ) → Type 0
TakesAtMost limit before now = (taken : List ℕ) × (length taken ≤ limit) × Consumes before now taken

-- a front of the piece was appended, and not the whole of it
abbrev pub AppendsPart : Option (List ℕ) → Option (List ℕ) → List ℕ → Type 0
AppendsPart before now piece = (n : ℕ) × (n < length piece) × Appends before now (take n piece)
