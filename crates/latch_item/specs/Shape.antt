-- The shape of a tree of items, of at most three levels. Each node has at most 31 items, and at least 15 where it isn't the root. An inner node has one child
-- more than items, and the items of the child number i stand between the items i - 1 and i. Each node links to an item of the greatest upper bound below it.
use Rattle.std.specs.Prelude.{◌≡◌, ◌⊎◌, ℕ, zero, suc, ◌+◌, ◌≤◌, List, [], ◌∷◌, ◌++◌, length, replicate, Option, Some, None}
use Rattle.row_pool.specs.Trees.{Tree, nil, tree_word, children}
use Rattle.row_pool.specs.SeatView.{SeatView}
use Rattle.row_pool.specs.Changes.{tree_of}
use Rattle.latch_item.specs.declared.shot.Shot.{Shot}
use Rattle.latch_item.specs.Items.{word, Before, BoundUpTo, IsLatch}

abbrev pub Each : (Tree → Type 0) → List Tree → Type 0
Each P [] = Unit {0}
Each P (x ∷ xs) = P x × Each P xs

-- R holds of each tree and the list at its place, and there are as many lists as trees
abbrev pub Pairs : (Tree → List Tree → Type 0) → List Tree → List (List Tree) → Type 0
Pairs R [] [] = Unit {0}
Pairs R [] (ys ∷ yss) = ⊥
Pairs R (c ∷ cs) [] = ⊥
Pairs R (c ∷ cs) (ys ∷ yss) = R c ys × Pairs R cs yss

abbrev pub Sorted : List Tree → Type 0
Sorted [] = Unit {0}
Sorted (x ∷ xs) = Each (λ y. Before x y) xs × Sorted xs

-- the items with the lists of the children between them
abbrev pub weave : List Tree → List (List Tree) → List Tree
weave its [] = its
weave [] (ys ∷ yss) = ys
weave (x ∷ its) (ys ∷ yss) = ys ++ x ∷ weave its yss

abbrev pub Among : Tree → List Tree → Type 0
Among t [] = ⊥
Among t (x ∷ xs) = (x ≡ t) ⊎ Among t xs

-- the greatest upper bound of the list is that of its item `top`
pub record IsTop (top : Tree) (xs : List Tree) : Type 0 where
  pub among : Among top xs
  pub most : Each (λ y. BoundUpTo top y) xs

-- the 64 links of a node with n items: to the item of the greatest upper bound, to the items, and to the children
pub record Spread (n : ℕ) (us : List Tree) (top : Tree) (its cs : List Tree) : Type 0 where
  pub free : ℕ
  pub room : ℕ
  pub links : us ≡ top ∷ ((its ++ replicate free nil) ++ (cs ++ replicate room nil))
  pub count : length its ≡ n
  pub items : n + free ≡ 31
  pub children : length cs + room ≡ 32

-- a leaf, by its kind, its number of items and its links, that has the list xs
pub record Leaf (kind n : ℕ) (us xs : List Tree) : Type 0 where
  pub top : Tree
  pub is : kind ≡ 2
  pub spread : Spread n us top xs []
  pub items : Each IsLatch xs
  pub greatest : IsTop top xs

-- a child is a live node with at least 15 items
pub record Kid (Sub : ℕ → ℕ → List Tree → List Tree → Type 0) (c : Tree) (ys : List Tree) : Type 0 where
  pub row : ℕ
  pub here : tree_word c ≡ suc row
  pub least : 15 ≤ word c 2
  pub node : Sub (word c 1) (word c 2) (children c) ys

-- an inner node, whose children are nodes of the sort `Sub`
pub record Inner (Sub : ℕ → ℕ → List Tree → List Tree → Type 0) (kind n : ℕ) (us xs : List Tree) : Type 0 where
  pub top : Tree
  pub its : List Tree
  pub cs : List Tree
  pub yss : List (List Tree)
  pub is : kind ≡ 3
  pub spread : Spread n us top its cs
  pub list : xs ≡ weave its yss
  pub items : Each IsLatch its
  pub greatest : IsTop top xs
  pub one_more : length cs ≡ suc n
  pub below : Pairs (Kid Sub) cs yss

-- a node that stands h levels above the leaves
abbrev pub Node : ℕ → ℕ → ℕ → List Tree → List Tree → Type 0
Node zero = Leaf
Node (suc h) = Inner (Node h)

-- a live node h levels above the leaves, that has the list xs
abbrev pub Stands : ℕ → Tree → List Tree → Type 0
Stands h t xs = Node h (word t 1) (word t 2) (children t) xs

-- a tree of this height, whose items in order are the list xs
pub record IsTree (t : Tree) (height : ℕ) (xs : List Tree) : Type 0 where
  pub level : ℕ
  pub levels : height ≡ suc level
  pub low : level ≤ 2
  pub stands : Stands level t xs
  pub some_items : 1 ≤ word t 2
  pub sorted : Sorted xs

abbrev pub RefersTo : SeatView → Option ℕ → ℕ → List Tree → Type 0
RefersTo v None height xs = xs ≡ []
RefersTo v (Some root) height xs = (tree_word (tree_of root v.refs) ≡ suc root) × IsTree (tree_of root v.refs) height xs

-- The seat refers to the shot, whose list is xs: the shot has no root and the list is empty, or the seat has a reference to the root, which stands for a tree
-- of the shot's height that has this list
abbrev pub Refers : SeatView → Shot → List Tree → Type 0
Refers v shot xs = RefersTo v shot.root shot.height xs
