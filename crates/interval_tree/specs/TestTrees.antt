-- What a seat has in the tests: a tree, shots of it, and one chain of all that it owns.
use Rattle.std.specs.Prelude.{◌≡◌, ℕ, ◌<◌, true, cond, eqb, List, [], ◌∷◌, Option, None, Some}
use mathlib.Core.Option.{some}
use Rattle.atomic_table.specs.Seated.{TableId}
use Rattle.row_pool.specs.Lists.{find, mem}
use Rattle.row_pool.specs.Trees.{Tree as Row, Entry}
use Rattle.row_pool.specs.SeatState.{SeatState}
use Rattle.row_pool.specs.SeatView.{SeatView}
use Rattle.row_pool.specs.Changes.{HasRefs, tree_of, without_trees}
use Rattle.row_pool.specs.Chains.{IsChain}
use Rattle.row_pool.specs.declared.chain.Chain.{Chain}
use Rattle.latch_item.specs.Items.{item_of}
use Rattle.latch_item.specs.Shape.{Each}
use Rattle.interval_tree.specs.Trees.{Keeps, other_refs}
use Rattle.interval_tree.specs.declared.tree.Tree.{Tree}

-- The first seat keeps the tree, whose items have ids below n, and has besides just these references, one for each shot, to the shots' roots. All rows that it
-- owns are in the chain
pub record Growing (pool : TableId) (s : SeatState) (c : Chain) (tree : Tree) (n : ℕ) (roots : List ℕ) : Type 0 where
  pub table : s.table ≡ pool
  pub first : s.view.number ≡ 1
  pub alone : s.view.out ≡ []
  pub items : List Row
  pub keeps : Keeps s.view tree items
  pub ids : Each (λ y. (item_of y).id < n) items
  pub shots : HasRefs roots (other_refs tree s.view.refs)
  pub no_more : without_trees roots (other_refs tree s.view.refs) ≡ []
  pub rows : List ℕ
  pub chain : IsChain s.view c rows
  pub all : (q : ℕ) (e : Entry) → find q s.view.owned ≡ some e → mem q rows ≡ true

-- the first seat has no references, and all that it owns is in the chain
pub record Gone (pool : TableId) (s : SeatState) (c : Chain) : Type 0 where
  pub table : s.table ≡ pool
  pub first : s.view.number ≡ 1
  pub alone : s.view.out ≡ []
  pub refs : s.view.refs ≡ []
  pub rows : List ℕ
  pub chain : IsChain s.view c rows
  pub all : (q : ℕ) (e : Entry) → find q s.view.owned ≡ some e → mem q rows ≡ true

-- ---- shots
-- the roots of the shots that the seat refers to, with one shot more; an empty tree's shot has none
abbrev pub with_shot : Option ℕ → List ℕ → List ℕ
with_shot None roots = roots
with_shot (Some root) roots = root ∷ roots

-- the shot of this root is one of these
abbrev pub HasShot : Option ℕ → List ℕ → Type 0
HasShot None roots = Unit {0}
HasShot (Some root) roots = mem root roots ≡ true

-- the numbers without the first q
abbrev pub without_number : ℕ → List ℕ → List ℕ
without_number q [] = []
without_number q (r ∷ rs) = cond (eqb r q) rs (r ∷ without_number q rs)

-- the roots without that of one shot
abbrev pub without_shot : Option ℕ → List ℕ → List ℕ
without_shot None roots = roots
without_shot (Some root) roots = without_number root roots

-- what the seat has below these roots is the same
abbrev pub ShotsStand : List ℕ → SeatView → SeatView → Type 0
ShotsStand roots v w = (root : ℕ) → mem root roots ≡ true → tree_of root w.refs ≡ tree_of root v.refs
