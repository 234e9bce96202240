-- What a step changes of a stock.
use Rattle.std.specs.Prelude.{◌≡◌, ◌≢◌, ℕ, suc, ◌+◌, ◌<◌, ◌≤◌, true, List, ◌∷◌, ◌++◌, length}
use Rattle.std.specs.declared.cmp.Ordering.TheVariants.{Equal}
use Rattle.row_pool.specs.Lists.{find, mem}
use Rattle.row_pool.specs.SeatState.{SameSeat}
use Rattle.row_pool.specs.Trees.{Tree as Row, tree_word}
use Rattle.latch_item.specs.Items.{Item, item_cmp, item_of}
use Rattle.latch_item.specs.Shape.{Among, Each}
use Rattle.interval_tree.specs.Nodes.{Inserted}
use Rattle.interval_tree.specs.declared.tree.Tree.{Tree}
use Rattle.tree_shrink.specs.Stages.{Removed}
use Rattle.latch_shots.specs.Roots.{Root}
use Rattle.held_latches.specs.Stock.{Fits, Placed, Stock, rows_of, tree_root}
use Rattle.held_latches.specs.declared.pool.Pool.{Pool}

-- the stock of a pool
abbrev pub PoolHas : Pool → List Root → List Placed → Type 0
PoolHas p roots loose = Stock p.seat.view p.chain roots loose

-- how many rows are free
abbrev pub free_rows : Pool → ℕ
free_rows p = p.chain.len

-- The rows of these loose items are as they were.
abbrev pub Stay : List Placed → Pool → Pool → Type 0
Stay loose old new = (q : ℕ) → mem q (rows_of loose) ≡ true → find q new.seat.view.owned ≡ find q old.seat.view.owned

-- the same pool and the same seats split off
abbrev pub SamePool : Pool → Pool → Type 0
SamePool old new = (new.seat.table ≡ old.seat.table) × SameSeat old.seat.view new.seat.view

-- A loose item can go into a tree: nothing of the tree is at its place in the order, and there is room.
pub record CanGrow (p : Pool) (tree : Tree) (row : ℕ) (front back : List Root) (items : List Row) (x : Item) (loose : List Placed) : Type 0 where
  pub stock : PoolHas p (front ++ tree_root tree items ∷ back) (record { row = row; item = x } ∷ loose)
  pub fits : Fits tree items
  pub differs : Each (λ y. item_cmp (item_of y) x ≢ Equal) items
  pub many : length items < 8190
  pub few : length front + length back ≤ 16

-- It did. At most 7 rows were used.
pub record Grown (old new : Pool) (tree : Tree) (row : ℕ) (front back : List Root) (items : List Row) (x : Item) (loose : List Placed) : Type 0 where
  pub it : Row
  pub more : List Row
  pub here : tree_word it ≡ suc row
  pub is : item_of it ≡ x
  pub inserted : Inserted it items more
  pub fits : Fits tree more
  pub stock : PoolHas new (front ++ tree_root tree more ∷ back) loose
  pub stay : Stay loose old new
  pub spent : free_rows old ≤ free_rows new + 7

-- An item can go out of a tree.
pub record CanShrink (p : Pool) (tree : Tree) (row : ℕ) (front back : List Root) (items : List Row) (it : Row) (loose : List Placed) : Type 0 where
  pub stock : PoolHas p (front ++ tree_root tree items ∷ back) loose
  pub fits : Fits tree items
  pub among : Among it items
  pub here : tree_word it ≡ suc row
  pub few : length front + length back ≤ 16

-- It did. At most 5 rows were used.
pub record Shrunk (old new : Pool) (tree : Tree) (front back : List Root) (items : List Row) (it : Row) (loose : List Placed) : Type 0 where
  pub less : List Row
  pub removed : Removed it items less
  pub fits : Fits tree less
  pub stock : PoolHas new (front ++ tree_root tree less ∷ back) loose
  pub stay : Stay loose old new
  pub spent : free_rows old ≤ free_rows new + 5

-- A shot can be taken of a tree.
pub record CanShow (p : Pool) (tree : Tree) (front back : List Root) (items : List Row) (loose : List Placed) : Type 0 where
  pub stock : PoolHas p (front ++ tree_root tree items ∷ back) loose
  pub fits : Fits tree items
  pub few : length front + length back ≤ 16

-- Nothing else that the seat owns has changed.
abbrev pub SameRows : Pool → Pool → Type 0
SameRows old new = (new.chain ≡ old.chain) × (new.seat.view.owned ≡ old.seat.view.owned)
