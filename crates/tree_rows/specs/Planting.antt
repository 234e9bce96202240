-- What a seat has in the tests: a tree, one chain of all rows that it owns, and no reference but the tree's and a shot's.
use Rattle.std.specs.Prelude.{◌≡◌, ℕ, suc, ◌≤◌, true, List, [], ◌∷◌, length, Option, None, Some}
use mathlib.Core.Option.{some}
use Rattle.atomic_table.specs.Seated.{TableId}
use Rattle.row_pool.specs.Lists.{find, mem}
use Rattle.row_pool.specs.Trees.{Tree as Row, Entry, tree_word}
use Rattle.row_pool.specs.Changes.{tree_of, without_tree}
use Rattle.row_pool.specs.SeatState.{SeatState, SameSeat}
use Rattle.row_pool.specs.Chains.{IsChain}
use Rattle.row_pool.specs.declared.chain.Chain.{Chain}
use Rattle.latch_item.specs.Items.{Item, OwnsItem, item_of}
use Rattle.latch_item.specs.Shape.{Each, Refers}
use Rattle.latch_item.specs.declared.shot.Shot.{Shot}
use Rattle.interval_tree.specs.Trees.{Keeps, other_refs}
use Rattle.interval_tree.specs.declared.tree.Tree.{Tree}

-- the rows of the chain are all that the seat owns
pub record OwnsChain (pool : TableId) (s : SeatState) (c : Chain) (rs : List ℕ) : Type 0 where
  pub table : s.table ≡ pool
  pub chain : IsChain s.view c rs
  pub all : (q : ℕ) (e : Entry) → find q s.view.owned ≡ some e → mem q rs ≡ true

-- Besides, the seat keeps the tree of the items xs, whose requests have no greater numbers than n
pub record Planted (pool : TableId) (s : SeatState) (c : Chain) (tree : Tree) (rs : List ℕ) (xs : List Row) (n : ℕ) : Type 0 where
  pub owns : OwnsChain pool s c rs
  pub keeps : Keeps s.view tree xs
  pub ids : Each (λ y. (item_of y).id ≤ n) xs
  pub refs : other_refs tree s.view.refs ≡ []
  pub few : length s.view.refs ≤ length xs
  pub low : length xs ≤ 8190

-- the references to a root and one more to it, and none besides
abbrev pub IsTwice : Option ℕ → List Row → Type 0
IsTwice None ts = ts ≡ []
IsTwice (Some root) ts = (t : Row) × (rest : List Row) × (ts ≡ t ∷ rest) × (tree_word t ≡ suc root) × (tree_word (tree_of root rest) ≡ suc root)
    × (without_tree root rest ≡ [])

-- the seat refers to a shot and to its tree, and to nothing else
pub record Shown (pool : TableId) (s : SeatState) (c : Chain) (shot : Shot) (rs : List ℕ) (xs : List Row) : Type 0 where
  pub owns : OwnsChain pool s c rs
  pub refers : Refers s.view shot xs
  pub twice : IsTwice shot.root s.view.refs

-- A row left the chain and is an item of this number now; the seat owns it and the rows of the chain, and its references are as they were
pub record NewItem (pool : TableId) (s n : SeatState) (c : Chain) (rs : List ℕ) (row id : ℕ) : Type 0 where
  pub left : List ℕ
  pub many : length rs ≡ suc (length left)
  pub table : n.table ≡ pool
  pub same_seat : SameSeat s.view n.view
  pub refs : n.view.refs ≡ s.view.refs
  pub chain : IsChain n.view c left
  pub all : (q : ℕ) (e : Entry) → find q n.view.owned ≡ some e → mem q (row ∷ left) ≡ true
  pub item : Item
  pub owns : OwnsItem n.view row item
  pub unlinked : owns.entry.linked ≡ 0
  pub numbered : item.id ≡ id
