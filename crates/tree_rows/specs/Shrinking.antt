-- What the calls of the tests with removals keep, and what the seat of a shot has.
use Rattle.std.specs.Prelude.{◌≡◌, ℕ, suc, ◌≤◌, List, [], ◌∷◌, Option, None, Some}
use Rattle.atomic_table.specs.Seated.{TableId}
use Rattle.row_pool.specs.Trees.{Tree as Row, tree_word}
use Rattle.row_pool.specs.SeatState.{SeatState, SameSeat}
use Rattle.row_pool.specs.declared.chain.Chain.{Chain}
use Rattle.interval_tree.specs.Trees.{Keeps, root_of}
use Rattle.interval_tree.specs.declared.tree.Tree.{Tree}
use Rattle.tree_rows.specs.Planting.{Planted}

-- The seat keeps the tree, whose requests have no greater numbers than n, and has no other reference. All that it owns is in the chain
abbrev pub HasPlanted : TableId → SeatState → Chain → Tree → ℕ → Type 0
HasPlanted pool s c tree n = (rs : List ℕ) × (xs : List Row) × Planted pool s c tree rs xs n

-- That stands, and no request is new
pub record Stays (pool : TableId) (s z : SeatState) (c d : Chain) (t u : Tree) : Type 0 where
  pub stand : (n : ℕ) → HasPlanted pool s c t n → HasPlanted pool z d u n
  pub same_seat : SameSeat s.view z.view

-- one reference to a root, and none besides
abbrev pub IsOnce : Option ℕ → List Row → Type 0
IsOnce None ts = ts ≡ []
IsOnce (Some root) ts = (t : Row) × (ts ≡ t ∷ []) × (tree_word t ≡ suc root)

-- Another seat than the first one keeps the tree, and has nothing else
pub record HoldsTree (pool : TableId) (h : SeatState) (kept : Tree) : Type 0 where
  pub table : h.table ≡ pool
  pub other : 2 ≤ h.view.number
  pub items : List Row
  pub keeps : Keeps h.view kept items
  pub once : IsOnce (root_of kept) h.view.refs
  pub bare : h.view.owned ≡ []
