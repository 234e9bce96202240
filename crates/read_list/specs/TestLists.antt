-- What a seat has in the tests: no reference, one chain, and items.
use Rattle.std.specs.Prelude.{◌≡◌, ◌⊎◌, ℕ, true, List, []}
use mathlib.Core.Option.{some}
use Rattle.atomic_table.specs.Seated.{TableId}
use Rattle.row_pool.specs.Lists.{find, mem}
use Rattle.row_pool.specs.Trees.{Entry}
use Rattle.row_pool.specs.SeatState.{SeatState}
use Rattle.row_pool.specs.Chains.{IsChain}
use Rattle.row_pool.specs.declared.chain.Chain.{Chain}

-- an item that nothing links to
pub record IsBareItem (e : Entry) : Type 0 where
  pub kind : e.kind ≡ 1
  pub unlinked : e.linked ≡ 0
  pub links : e.links ≡ []

-- the seat owns the rows `rs` of its chain and the items `items`, and nothing else
pub record Stock (pool : TableId) (s : SeatState) (c : Chain) (rs items : List ℕ) : Type 0 where
  pub table : s.table ≡ pool
  pub refs : s.view.refs ≡ []
  pub chain : IsChain s.view c rs
  pub all : (q : ℕ) (e : Entry) → find q s.view.owned ≡ some e → (mem q rs ≡ true) ⊎ (mem q items ≡ true)
  pub bare : (q : ℕ) → mem q items ≡ true → (e : Entry) × (find q s.view.owned ≡ some e) × IsBareItem e
