-- A tree as a seat keeps it.
use Rattle.std.specs.Prelude.{◌≡◌, ◌≢◌, ℕ, suc, List, length, map, Option, None, Some}
use Rattle.std.specs.declared.cmp.Ordering.TheVariants.{Equal}
use Rattle.row_pool.specs.Trees.{Tree as Row, tree_word}
use Rattle.row_pool.specs.SeatView.{SeatView}
use Rattle.row_pool.specs.Changes.{without_tree}
use Rattle.latch_item.specs.Items.{Item, OwnsItem, item_of, item_cmp}
use Rattle.latch_item.specs.Shape.{Each, RefersTo}
use Rattle.interval_tree.specs.declared.tree.Tree.{Tree}

-- The seat refers to the tree's root, which stands for a tree of this height whose items, in order, are the list xs; a tree without items has no root
pub record Keeps (v : SeatView) (tree : Tree) (xs : List Row) : Type 0 where
  pub refers : RefersTo v tree.root tree.height xs
  pub many : tree.len ≡ length xs
  pub low : tree.root ≡ None → tree.height ≡ 0

-- how many levels of nodes a tree has
abbrev pub height_of : Tree → ℕ
height_of tree = tree.height

-- the row of a tree's root, none of an empty tree
abbrev pub root_of : Tree → Option ℕ
root_of tree = tree.root

-- the references beside the one to a root
abbrev pub beside : Option ℕ → List Row → List Row
beside None ts = ts
beside (Some root) ts = without_tree root ts

-- the references of a seat beside the one to the tree's root
abbrev pub other_refs : Tree → List Row → List Row
other_refs tree ts = beside tree.root ts

-- The seat owns the row as the item x, no link of the seat's own rows leads to it, and x is at no place in the order that an item of the list has
pub record IsNewItem (v : SeatView) (row : ℕ) (x : Item) (xs : List Row) : Type 0 where
  pub owns : OwnsItem v row x
  pub unlinked : owns.entry.linked ≡ 0
  pub differs : Each (λ y. item_cmp (item_of y) x ≢ Equal) xs

-- the rows of the items of a list
abbrev pub AreRows : List ℕ → List Row → Type 0
AreRows rows xs = map suc rows ≡ map tree_word xs
