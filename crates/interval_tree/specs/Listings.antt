-- What is left of the listing of a node.
use Rattle.std.specs.Prelude.{◌≡◌, ℕ, zero, suc, ◌+◌, ◌-◌, ◌≤◌, List, [], ◌∷◌, ◌++◌, length, map, replicate}
use Rattle.row_pool.specs.Trees.{Tree, nil, tree_word, children}
use Rattle.latch_item.specs.Items.{word, IsLatch}
use Rattle.latch_item.specs.Shape.{Each, Pairs, Kid, Node, weave}

-- the row of a tree
abbrev pub row_number : Tree → ℕ
row_number t = tree_word t - 1

-- the rows of the items of a list
abbrev pub rows_of : List Tree → List ℕ
rows_of xs = map row_number xs

-- a child of a node of this level, and its list; those of a leaf are nothing, without items
abbrev pub Part : ℕ → Tree → List Tree → Type 0
Part zero c ys = (c ≡ nil) × (ys ≡ [])
Part (suc h) c ys = Kid (Node h) c ys

-- In the live node t of this level the child number i and all that is behind it have the list zs
pub record Rest (h : ℕ) (t : Tree) (i : ℕ) (zs : List Tree) : Type 0 where
  pub n : ℕ
  pub top : Tree
  pub is : List Tree
  pub js : List Tree
  pub cs : List Tree
  pub ds : List Tree
  pub yss : List (List Tree)
  pub free : ℕ
  pub low : 2 ≤ word t 1
  pub high : word t 1 ≤ 3
  pub number : word t 2 ≡ n
  pub links : children t ≡ top ∷ (((is ++ js) ++ replicate free nil) ++ ((cs ++ ds) ++ replicate free nil))
  pub place : length is ≡ i
  pub count : i + length js ≡ n
  pub full : n + free ≡ 31
  pub left : length cs ≡ i
  pub right : length ds ≡ suc (length js)
  pub items : Each IsLatch js
  pub below : Pairs (Part h) ds yss
  pub list : zs ≡ weave js yss
