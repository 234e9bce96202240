-- Fields with a space in front of each.
use Rattle.std.specs.Prelude.{ℕ, List, ◌∷◌}
use Rattle.std.specs.List.{flat_map}

abbrev pub spaced : List (List ℕ) → List ℕ
spaced fs = flat_map (λ f. 32 ∷ f) fs
