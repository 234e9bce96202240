-- The last line of a text.
use Rattle.std.specs.Prelude.{◌≡◌, ◌≢◌, ℕ, ◌+◌, ◌-◌, ◌<◌, ◌≤◌, ◌⊎◌, ◌==◌, not, List, length, drop, slice_index, take}
use Rattle.std.specs.List.{suffix_len}

-- the text ends with a line feed
pub record EndsLine (text : List ℕ) : Type 0 where
  pub some : 0 < length text
  pub feed : slice_index text (length text - 1) ≡ 10

-- The last line begins where the text does, or behind a line feed, and has no line feed but the one at its end.
pub record IsLastLine (text line : List ℕ) : Type 0 where
  pub from : ℕ
  pub inside : from < length text
  pub rest : line ≡ drop from text
  pub starts : (from ≡ 0) ⊎ (slice_index text (from - 1) ≡ 10)
  pub one_feed : (k : ℕ) → from ≤ k → k + 1 < length text → slice_index text k ≢ 10

-- The same, computed: the line feed at the end, and as many bytes in front of it as are none.
abbrev pub last_line : List ℕ → List ℕ
last_line text = drop (length text - 1 - suffix_len (λ b. not (b == 10)) (take (length text - 1) text)) text
