-- What a seat has in the tests: references alone, and one chain of all that it owns.
use Rattle.std.specs.Prelude.{◌≡◌, ℕ, suc, true, List, [], ◌∷◌}
use mathlib.Core.Option.{some, none}
use lib.ListN.{get_elem?}
use Rattle.atomic_table.specs.Seated.{TableId}
use Rattle.row_pool.specs.Lists.{find, mem}
use Rattle.row_pool.specs.Trees.{Tree, Entry, tree_word, children}
use Rattle.row_pool.specs.SeatView.{SeatView}
use Rattle.row_pool.specs.SeatState.{SeatState, SameSeat, kind_of}
use Rattle.row_pool.specs.Chains.{IsChain}
use Rattle.row_pool.specs.declared.chain.Chain.{Chain}

pub record Holding (pool : TableId) (s : SeatState) (c : Chain) (ts : List Tree) (rs : List ℕ) : Type 0 where
  pub table : s.table ≡ pool
  pub refs : s.view.refs ≡ ts
  pub chain : IsChain s.view c rs
  pub all : (q : ℕ) (e : Entry) → find q s.view.owned ≡ some e → mem q rs ≡ true

-- a worker has one reference, which is to the row
pub record HoldsRow (pool : TableId) (row : ℕ) (w : SeatState × Chain) : Type 0 where
  pub tree : Tree
  pub rows : List ℕ
  pub stand : Holding pool w.0 w.1 (tree ∷ []) rows
  pub is : tree_word tree ≡ suc row

-- it has none any more
pub record HoldsNone (pool : TableId) (v w : SeatState × Chain) : Type 0 where
  pub rows : List ℕ
  pub stand : Holding pool w.0 w.1 [] rows
  pub same_seat : SameSeat v.0.view w.0.view

-- an owned row went live as the tree t, and the seat has its reference in front of `ts`
pub record WentLive (r : ℕ) (t : Tree) (ts : List Tree) (v w : SeatView) : Type 0 where
  pub refs : w.refs ≡ t ∷ ts
  pub others : (q : ℕ) → (q ≡ r → ⊥) → find q w.owned ≡ find q v.owned
  pub gone : find r w.owned ≡ none
  pub same_seat : SameSeat v w

-- x is a leaf in the row `leaf` whose first link leads to an item w in the row `item`
pub record IsLeafOver (leaf item : ℕ) (x w : Tree) : Type 0 where
  pub here : tree_word x ≡ suc leaf
  pub is_leaf : kind_of x ≡ 2
  pub first : get_elem? (children x) 0 ≡ some w
  pub below : tree_word w ≡ suc item
  pub is_item : kind_of w ≡ 1
