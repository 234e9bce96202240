-- The lanes that no open request has, in falling order.
use Rattle.std.specs.Prelude.{ℕ, zero, suc, ◌-◌, ◌<◌, ◌==◌, Bool, nat_lt, if◌then◌else◌, List, [], ◌∷◌, length, slice_index}
use Rattle.std.specs.List.{list_any}

-- The free lanes, and how many lanes there are.
pub record LanesSays : Type 0 where
  pub free : List ℕ
  pub lanes : ℕ

-- all lanes below n
abbrev pub lanes_below : ℕ → List ℕ
lanes_below zero = []
lanes_below (suc n) = n ∷ lanes_below n

-- Each number is below those in front of it.
abbrev pub AreBelow : ℕ → List ℕ → Type 0
AreBelow n [] = Unit {0}
AreBelow n (m ∷ ms) = (m < n) × AreBelow n ms

abbrev pub Falls : List ℕ → Type 0
Falls [] = Unit {0}
Falls (m ∷ ms) = AreBelow m ms × Falls ms

-- a falling list with one more
abbrev pub with_lane : ℕ → List ℕ → List ℕ
with_lane n [] = n ∷ []
with_lane n (m ∷ ms) = if nat_lt n m then m ∷ with_lane n ms else n ∷ m ∷ ms

-- whether a lane is among some
abbrev pub is_among : List ℕ → ℕ → Bool
is_among ns lane = list_any (λ n. n == lane) ns

-- the least of a falling list
abbrev pub least : List ℕ → ℕ
least ns = slice_index ns (length ns - 1)
