-- The states of an insertion.
use Rattle.std.specs.Prelude.{◌≡◌, ◌≢◌, ◌⊎◌, ℕ, suc, ◌^◌, ◌<◌, ◌≤◌, List, [], ◌∷◌, ◌++◌, length, Option, Some, None}
use Rattle.row_pool.specs.Trees.{Tree, tree_word}
use Rattle.row_pool.specs.SeatView.{SeatView}
use Rattle.row_pool.specs.Changes.{tree_of}
use Rattle.row_pool.specs.Views.{Reaches}
use Rattle.latch_item.specs.Items.{Before, BoundUpTo, IsLatch, word}
use Rattle.latch_item.specs.Shape.{Each, Sorted, Among, IsTop, IsTree, Node, Stands}
use Rattle.interval_tree.specs.Held.{OwnsNode}
use Rattle.interval_tree.specs.Nodes.{Body, Inserted, Differs, Lifts, Hole}

-- the seat reaches the live item t in the row
abbrev pub ReachesItem : SeatView → Tree → ℕ → Type 0
ReachesItem v t row = Reaches v t × (tree_word t ≡ suc row) × IsLatch t

-- the item, in the row `result`, whose bound is the greatest of b's and those of a list
pub record Best (v : SeatView) (b : Tree) (js : List Tree) (result : ℕ) : Type 0 where
  pub item : Tree
  pub reached : ReachesItem v item result
  pub over : BoundUpTo item b
  pub most : Each (λ y. BoundUpTo item y) js
  pub origin : (item ≡ b) ⊎ Among item js

-- the item, in the row `result`, of the greatest bound of a list
pub record Greatest (v : SeatView) (xs : List Tree) (result : ℕ) : Type 0 where
  pub item : Tree
  pub reached : ReachesItem v item result
  pub greatest : IsTop item xs

-- The seat owns a node that isn't full, and its newest reference is to an item that isn't in it
pub record Ready (h : ℕ) (v : SeatView) (row item kind n : ℕ) (us xs : List Tree) (it : Tree) (rest : List Tree) : Type 0 where
  pub owns : OwnsNode v row kind n us
  pub node : Node h kind n us xs
  pub room : n < 31
  pub sorted : Sorted xs
  pub differs : Each (Differs it) xs
  pub latch : IsLatch it
  pub here : tree_word it ≡ suc item
  pub refs : v.refs ≡ it ∷ rest
  pub few : length rest < 2 ^ 31

-- The node has the item, and the seat's newest reference is gone
pub record Grown (h : ℕ) (w : SeatView) (row kind n : ℕ) (xs : List Tree) (it : Tree) (rest : List Tree) : Type 0 where
  pub many : ℕ
  pub us : List Tree
  pub ys : List Tree
  pub owns : OwnsNode w row kind many us
  pub node : Node h kind many us ys
  pub more : Inserted it xs ys
  pub least : n ≤ many
  pub most : many ≤ 31
  pub refs : w.refs ≡ rest

-- The seat owns a node of the level h + 1 and its child number j, which is out and is to get the item
pub record Opened (h : ℕ) (v : SeatView) (row kind n : ℕ) (top : Tree) (child j item : ℕ) (xs : List Tree) (it : Tree) (rest : List Tree) : Type 0 where
  pub us : List Tree
  pub ps : List Tree
  pub qs : List Tree
  pub ys : List Tree
  pub below : List Tree
  pub sort : ℕ
  pub count : ℕ
  pub owns : OwnsNode v row kind n (top ∷ us)
  pub hole : Hole h kind n us ps qs j
  pub tops : Lifts it xs top
  pub least : 15 ≤ count
  pub list : xs ≡ ps ++ (ys ++ qs)
  pub low : Each (λ y. Before y it) ps
  pub high : Each (λ y. Before it y) qs
  pub apart : child ≢ row
  pub owns_child : OwnsNode v child sort count below
  pub node : Node h sort count below ys
  pub sorted : Sorted ys
  pub differs : Each (Differs it) ys
  pub latch : IsLatch it
  pub here : tree_word it ≡ suc item
  pub refs : v.refs ≡ it ∷ rest
  pub few : length rest < 2 ^ 31

-- The child has the item
pub record Filled (h : ℕ) (v : SeatView) (row kind n child j : ℕ) (xs : List Tree) (it : Tree) (rest : List Tree) : Type 0 where
  pub top : Tree
  pub us : List Tree
  pub ps : List Tree
  pub qs : List Tree
  pub ys : List Tree
  pub zs : List Tree
  pub below : List Tree
  pub sort : ℕ
  pub many : ℕ
  pub owns : OwnsNode v row kind n (top ∷ us)
  pub hole : Hole h kind n us ps qs j
  pub tops : Lifts it xs top
  pub least : 15 ≤ many
  pub list : xs ≡ ps ++ (ys ++ qs)
  pub low : Each (λ y. Before y it) ps
  pub high : Each (λ y. Before it y) qs
  pub apart : child ≢ row
  pub owns_child : OwnsNode v child sort many below
  pub node : Node h sort many below zs
  pub more : Inserted it ys zs
  pub refs : v.refs ≡ rest
  pub few : length rest < 2 ^ 31

-- The node is whole again
pub record Whole (h : ℕ) (w : SeatView) (row kind n : ℕ) (xs : List Tree) (it : Tree) (rest : List Tree) : Type 0 where
  pub us : List Tree
  pub ys : List Tree
  pub owns : OwnsNode w row kind n us
  pub node : Node h kind n us ys
  pub more : Inserted it xs ys
  pub refs : w.refs ≡ rest

-- Two halves of a full node whose first links are not set yet, with a reference to the item between them
pub record CutParts (h : ℕ) (w : SeatView) (row right middle kind : ℕ) (xs : List Tree) (rest : List Tree) : Type 0 where
  pub us : List Tree
  pub vs : List Tree
  pub ls : List Tree
  pub rs : List Tree
  pub m : Tree
  pub left_owns : OwnsNode w row kind 15 us
  pub right_owns : OwnsNode w right kind 15 vs
  pub left_body : Body h kind 15 us ls
  pub right_body : Body h kind 15 vs rs
  pub apart : row ≢ right
  pub list : xs ≡ ls ++ m ∷ rs
  pub latch : IsLatch m
  pub here : tree_word m ≡ suc middle
  pub refs : w.refs ≡ m ∷ rest

-- Two halves of a full node, with a reference to the item between them
pub record Halves (h : ℕ) (w : SeatView) (row right middle kind : ℕ) (xs : List Tree) (rest : List Tree) : Type 0 where
  pub us : List Tree
  pub vs : List Tree
  pub ls : List Tree
  pub rs : List Tree
  pub m : Tree
  pub left_owns : OwnsNode w row kind 15 us
  pub right_owns : OwnsNode w right kind 15 vs
  pub left_node : Node h kind 15 us ls
  pub right_node : Node h kind 15 vs rs
  pub apart : row ≢ right
  pub list : xs ≡ ls ++ m ∷ rs
  pub latch : IsLatch m
  pub here : tree_word m ≡ suc middle
  pub refs : w.refs ≡ m ∷ rest

-- the seat owns the root of a tree of h + 1 levels, which has at least one item
pub record RootNode (h : ℕ) (v : SeatView) (row : ℕ) (xs : List Tree) : Type 0 where
  pub kind : ℕ
  pub many : ℕ
  pub us : List Tree
  pub owns : OwnsNode v row kind many us
  pub node : Node h kind many us xs
  pub some_items : 1 ≤ many

-- The seat's newest reference is to an item that isn't in the tree, and it has one to the root of a tree of h + 1 levels
pub record Coming (h : ℕ) (v : SeatView) (root item : ℕ) (xs : List Tree) (it : Tree) (rest : List Tree) : Type 0 where
  pub refs : v.refs ≡ it ∷ rest
  pub here : tree_word it ≡ suc item
  pub latch : IsLatch it
  pub apart : item ≢ root
  pub root_is : tree_word (tree_of root rest) ≡ suc root
  pub stands : Stands h (tree_of root rest) xs
  pub some_items : 1 ≤ word (tree_of root rest) 2
  pub sorted : Sorted xs
  pub differs : Each (Differs it) xs
  pub low : h ≤ 2
  pub many : length xs < 8190
  pub few : length rest < 2 ^ 31

-- the same for a tree of this root and height, which may be empty
abbrev pub Entering : Option ℕ → ℕ → SeatView → ℕ → List Tree → Tree → List Tree → Type 0
Entering None height v item xs it rest = (xs ≡ []) × (v.refs ≡ it ∷ rest) × (tree_word it ≡ suc item) × IsLatch it × (length rest < 2 ^ 31)
Entering (Some root) height v item xs it rest = (level : ℕ) × (height ≡ suc level) × Coming level v root item xs it rest

-- The seat's newest reference is to the root of a tree
pub record Standing (w : SeatView) (root height : ℕ) (ys rest : List Tree) : Type 0 where
  pub tree : Tree
  pub here : tree_word tree ≡ suc root
  pub is : IsTree tree height ys
  pub refs : w.refs ≡ tree ∷ rest
