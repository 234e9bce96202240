-- For private clauses: how values and texts without an escape are shown as JSON.
use Rattle.std.specs.Prelude.{ℕ, Bool, false, not, ◌&&◌, ◌==◌, nat_lt, List}
use Rattle.serde_json.specs.Data.{Data}
use Rattle.serde_json.specs.Written.{compact_text, has_float}

-- a byte that stands for itself between quotes; each byte of a word, a number and a latch is one
abbrev pub is_plain : ℕ → Bool
is_plain c = nat_lt 44 c && (nat_lt c 123 && not (c == 92))

-- whether a value has a number whose text isn't said, and its text
abbrev pub shown : Data → Bool × List ℕ
shown d = (has_float d, compact_text d)

-- it has none, and this is its text
abbrev pub sound : List ℕ → Bool × List ℕ
sound text = (false, text)
