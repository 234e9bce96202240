-- Which items of a list overlap a span, and at how many items a walk through the list stops.
use Rattle.std.specs.Prelude.{◌≡◌, ℕ, suc, Bool, true, false, cond, List, [], ◌∷◌}
use Rattle.std.specs.List.{filter}
use Rattle.row_pool.specs.Trees.{Tree}
use Rattle.span_key.specs.Spans.{Pair, key_lt, past, overlap}
use Rattle.latch_item.specs.Items.{item_of}

-- the items that have a key in common with the span
abbrev pub found : Pair → List Tree → List Tree
found span xs = filter (λ x. overlap (item_of x).span span) xs

-- the item's key is before the upper bound of the span
abbrev pub starts : Pair → Tree → Bool
starts span x = key_lt (item_of x).span.0 (past span)

-- the item's upper bound is not before the key of the span
abbrev pub reaches : Pair → Tree → Bool
reaches span x = key_lt span.0 (past (item_of x).span)

-- some item reaches the span and doesn't begin before its end, so that a walk ends no later than there
abbrev pub late : Pair → List Tree → Bool
late span [] = false
late span (x ∷ xs) = cond (reaches span x) (cond (starts span x) (late span xs) true) (late span xs)

-- at how many items a walk stops: those that overlap, up to the first late one, and that one
abbrev pub marks : Pair → List Tree → ℕ
marks span [] = 0
marks span (x ∷ xs) = cond (reaches span x) (cond (starts span x) (suc (marks span xs)) 1) (marks span xs)

-- what is to be done behind a list, where the walk doesn't end in it
abbrev pub spare : Pair → List Tree → ℕ → ℕ
spare span xs n = cond (late span xs) 0 n

-- the item's upper bound is before the key of the span
abbrev pub Misses : Pair → Tree → Type 0
Misses span x = reaches span x ≡ false
