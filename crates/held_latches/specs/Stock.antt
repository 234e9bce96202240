-- What the first seat of a pool has: references to roots, a chain of free rows, and items that are in no tree.
use Rattle.std.specs.Prelude.{◌≡◌, ℕ, ◌⊎◌, true, eqb, List, [], ◌∷◌, map, Option, None, Some}
use Rattle.std.specs.List.{IsDistinct}
use mathlib.Core.Option.{some}
use Rattle.row_pool.specs.Chains.{IsChain}
use Rattle.row_pool.specs.Lists.{find, mem}
use Rattle.row_pool.specs.SeatView.{SeatView}
use Rattle.row_pool.specs.Trees.{Entry, Tree as Row}
use Rattle.row_pool.specs.declared.chain.Chain.{Chain}
use Rattle.latch_item.specs.Items.{Item, OwnsItem}
use Rattle.interval_tree.specs.Trees.{Keeps, height_of, root_of}
use Rattle.interval_tree.specs.declared.tree.Tree.{Tree}
use Rattle.latch_shots.specs.Roots.{AreRoots, Root}

-- An item that is in no tree: the seat owns its row, and no link of the seat's own rows leads to it.
pub record LooseItem (v : SeatView) (row : ℕ) (x : Item) : Type 0 where
  pub owns : OwnsItem v row x
  pub unlinked : owns.entry.linked ≡ 0

-- a row with the item that stands in it
pub record Placed : Type 0 where
  pub row : ℕ
  pub item : Item

abbrev pub rows_of : List Placed → List ℕ
rows_of ps = map (λ (p : Placed). p.row) ps

abbrev pub AreLoose : SeatView → List Placed → Type 0
AreLoose v [] = Unit {0}
AreLoose v (p ∷ ps) = LooseItem v p.row p.item × AreLoose v ps

-- The seat is the first one. Its references are just those of the roots, and its rows are just those of the chain and of the loose items.
pub record Stock (v : SeatView) (chain : Chain) (roots : List Root) (loose : List Placed) : Type 0 where
  pub first : v.number ≡ 1
  pub refs : AreRoots roots v.refs
  pub free : List ℕ
  pub chained : IsChain v chain free
  pub all : (q : ℕ) (e : Entry) → find q v.owned ≡ some e → (mem q free ≡ true) ⊎ (mem q (rows_of loose) ≡ true)
  pub items : AreLoose v loose
  pub apart : IsDistinct eqb (rows_of loose)

-- the root of a tree with these items
abbrev pub tree_root : Tree → List Row → Root
tree_root tree items = record { row = root_of tree; height = height_of tree; items = items }

-- Some seat keeps the tree with these items, so it has as many items, and no height without one. Each seat that refers to its root keeps it.
abbrev pub Fits : Tree → List Row → Type 0
Fits tree items = (v : SeatView) × Keeps v tree items

-- the rows of the roots that have one, in their order
abbrev pub with_row : Option ℕ → List ℕ → List ℕ
with_row None rows = rows
with_row (Some root) rows = root ∷ rows

abbrev pub root_rows : List Root → List ℕ
root_rows [] = []
root_rows (r ∷ rs) = with_row r.row (root_rows rs)
