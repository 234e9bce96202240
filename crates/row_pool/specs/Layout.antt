-- How a row of 80 words is laid out: its count in word 0, its kind in word 1, then its links and its content.
use Rattle.std.specs.Prelude.{◌⊎◌, ℕ, zero, suc, ◌+◌, ◌*◌, ◌/◌, ◌%◌, ◌<◌, ◌≤◌, List, slice_index}
use Rattle.std.specs.Prelude.{eqb, ltb, if◌then◌else◌}

-- word w of the row r
abbrev pub cell : List ℕ → ℕ → ℕ → ℕ
cell ws r w = slice_index ws (r * 80 + w)

-- how many counted links a row of this kind has; they begin at word 3
abbrev pub link_count : ℕ → ℕ
link_count zero = 0
link_count (suc zero) = 0
link_count (suc (suc zero)) = 64
link_count (suc (suc (suc zero))) = 64
link_count (suc (suc (suc (suc k)))) = 0

-- where its counted links begin
abbrev pub first_link : ℕ → ℕ
first_link zero = 3
first_link (suc zero) = 75
first_link (suc (suc k)) = 3

-- a word that is no count and no counted link
abbrev pub IsContent : ℕ → ℕ → Type 0
IsContent kind w = (1 ≤ w) × (w < 80) × ((w < first_link kind) ⊎ (first_link kind + link_count kind ≤ w))

-- the link to the row after r of n rows in a chain
abbrev pub next_of : ℕ → ℕ → ℕ
next_of n r = if ltb (suc r) n then suc (suc r) else 0

-- word k of a pool of n rows at the start
abbrev pub word_at : ℕ → ℕ → ℕ
word_at n k = if eqb (k % 80) 1 then next_of n (k / 80) else 0

-- the word is a counted link of a row of that kind
abbrev pub IsLink : ℕ → ℕ → Type 0
IsLink kind w = (first_link kind ≤ w) × (w < first_link kind + link_count kind)
