-- The last writer of a scope.
use Rattle.std.specs.Prelude.{ℕ, if◌then◌else◌, List, [], ◌∷◌}
use Rattle.std.specs.List.{list_any}
use Rattle.span_key.specs.declared.scopes.Scope.{Scope}
use Rattle.latch_model.specs.Histories.{Begin}
use Rattle.latch_model.specs.Metrics.{writes_in}

-- the number of the last request that declares a write in a scope, or 0
abbrev pub last_writer : Scope → List Begin → ℕ
last_writer scope [] = 0
last_writer scope (b ∷ bs) = if list_any (writes_in scope) bs then last_writer scope bs else (if writes_in scope b then b.id else 0)
