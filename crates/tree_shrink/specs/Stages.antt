-- The stages of a removal.
use Rattle.std.specs.Prelude.{List, None, Option, Some, [], length, suc, ℕ, ◌++◌, ◌+◌, ◌<◌, ◌^◌, ◌∷◌, ◌≡◌, ◌≢◌, ◌≤◌, ◌⊎◌}
use Rattle.row_pool.specs.Changes.{tree_of, with_old_target}
use Rattle.row_pool.specs.SeatView.{SeatView}
use Rattle.row_pool.specs.Trees.{Tree, nil, tree_word}
use Rattle.latch_item.specs.Items.{Before, BoundUpTo, IsLatch, word}
use Rattle.latch_item.specs.Shape.{Among, Each, IsTop, Node, Sorted, Stands}
use Rattle.interval_tree.specs.Held.{OwnsNode}
use Rattle.interval_tree.specs.Listings.{Part}
use Rattle.interval_tree.specs.Nodes.{Body, Stops}
use Rattle.tree_shrink.specs.Slots.{Slot, slot_links}

-- the list ys is xs without its item x
pub record Removed (x : Tree) (xs ys : List Tree) : Type 0 where
  pub front : List Tree
  pub back : List Tree
  pub old : xs ≡ front ++ x ∷ back
  pub new : ys ≡ front ++ back

-- the lists have the same items
abbrev pub SameItems : List Tree → List Tree → Type 0
SameItems xs ys = ((t : Tree) → Among t xs → Among t ys) × ((t : Tree) → Among t ys → Among t xs)

-- ---- what neighbours give one another
-- The newest references are to an item m of a node and to the child u beside it, which has the list l
pub record Carried (h : ℕ) (v : SeatView) (m u : Tree) (l : List Tree) (item kid : ℕ) (rest : List Tree) : Type 0 where
  pub fits : IsLatch m
  pub part : Part h u l
  pub item_is : tree_word m ≡ item
  pub kid_is : tree_word u ≡ kid
  pub refs : v.refs ≡ m ∷ with_old_target u rest

-- The two are out of a node, whose list is ls then
pub record Lent (h : ℕ) (w : SeatView) (node kind n : ℕ) (ls l : List Tree) (m : Tree) (item kid : ℕ) (rest : List Tree) : Type 0 where
  pub us : List Tree
  pub u : Tree
  pub owns : OwnsNode w node kind n us
  pub whole : Node h kind n us ls
  pub carried : Carried h w m u l item kid rest

-- The two are to come into a node of 15 items, whose list is xs
pub record Gains (h : ℕ) (v : SeatView) (node kind : ℕ) (us xs l : List Tree) (m u : Tree) (item kid : ℕ) (rest : List Tree) : Type 0 where
  pub owns : OwnsNode v node kind 15 us
  pub whole : Node h kind 15 us xs
  pub carried : Carried h v m u l item kid rest
  pub few : length rest + 4 < 2 ^ 32

-- The two are out of a node, whose list is ls then; its first link leads to an item of the greatest bound that there was with them
pub record Lightens (h : ℕ) (v : SeatView) (node kind n : ℕ) (top : Tree) (us ls l : List Tree) (m u : Tree) (item kid : ℕ) (rest : List Tree) : Type 0 where
  pub owns : OwnsNode v node kind n (top ∷ us)
  pub body : Body h kind n (top ∷ us) ls
  pub sorted : Sorted ls
  pub some_items : 1 ≤ n
  pub top_fits : IsLatch top
  pub most : Each (λ y. BoundUpTo top y) ls
  pub origin : Among top ls ⊎ ((m ≡ top) ⊎ Among top l)
  pub carried : Carried h v m u l item kid rest
  pub few : length rest + 4 < 2 ^ 32

-- The seat owns a node with this list
pub record Has (h : ℕ) (w : SeatView) (node kind n : ℕ) (ys rest : List Tree) : Type 0 where
  pub us : List Tree
  pub owns : OwnsNode w node kind n us
  pub whole : Node h kind n us ys
  pub refs : w.refs ≡ rest

-- The seat owns two nodes of 15 items, and its newest reference is to the item between them
pub record Joins (h : ℕ) (v : SeatView) (left right item kind sort : ℕ) (us vs ls rs : List Tree) (m : Tree) (rest : List Tree) : Type 0 where
  pub left_owns : OwnsNode v left kind 15 us
  pub left_node : Node h kind 15 us ls
  pub right_owns : OwnsNode v right sort 15 vs
  pub right_node : Node h sort 15 vs rs
  pub fits : IsLatch m
  pub here : tree_word m ≡ item
  pub apart : left ≢ right
  pub refs : v.refs ≡ m ∷ rest
  pub few : length rest + 6 < 2 ^ 32

-- ---- a node whose child is out
-- The seat owns a node of level h + 1 and its child number j, which is out. In front of the child is the list ps, behind it qs
pub record Open (h : ℕ) (v : SeatView) (row n child j : ℕ) (xs ps ys qs rest : List Tree) : Type 0 where
  pub top : Tree
  pub slot : Slot (suc h) n ps qs j
  pub owns : OwnsNode v row 3 n (slot_links slot top nil)
  pub greatest : IsTop top xs
  pub list : xs ≡ ps ++ (ys ++ qs)
  pub sorted : Sorted xs
  pub apart : child ≢ row
  pub sort : ℕ
  pub count : ℕ
  pub below : List Tree
  pub owns_child : OwnsNode v child sort count below
  pub node : Node h sort count below ys
  pub least : 15 ≤ count
  pub refs : v.refs ≡ rest
  pub few : length rest < 2 ^ 31 + 3

-- The node is open at a child that has more than 15 items. Of its neighbours' lists the child's list got an end of what was in front of it, and a beginning of
-- what was behind
pub record Roomy (h : ℕ) (w : SeatView) (row least child j : ℕ) (xs ps ys qs rest : List Tree) : Type 0 where
  pub n : ℕ
  pub ps2 : List Tree
  pub ys2 : List Tree
  pub qs2 : List Tree
  pub front : List Tree
  pub back : List Tree
  pub before : ps ≡ ps2 ++ front
  pub wider : ys2 ≡ front ++ (ys ++ back)
  pub behind : qs ≡ back ++ qs2
  pub state : Open h w row n child j xs ps2 ys2 qs2 rest
  pub room : 16 ≤ state.count
  pub many : least ≤ n

-- ---- what is to go
-- the item is the last one of the list
abbrev pub Last : Tree → List Tree → Type 0
Last it xs = (ys : List Tree) × (xs ≡ ys ++ it ∷ [])

-- the item is the first one of the list
abbrev pub Heads : Tree → List Tree → Type 0
Heads it xs = (ys : List Tree) × (xs ≡ it ∷ ys)

-- what is to go from a list: the item in a row, or the last one where no row is named
abbrev pub Aim : Option ℕ → Tree → List Tree → Type 0
Aim None it xs = Last it xs
Aim (Some item) it xs = (tree_word it ≡ suc item) × Among it xs

-- what is to go is in a child's list, or it is the item behind the child
abbrev pub Target : Option ℕ → Tree → List Tree → List Tree → Type 0
Target None it ys qs = Last it ys × (qs ≡ [])
Target (Some item) it ys qs = (tree_word it ≡ suc item) × (Among it ys ⊎ Heads it qs)

-- of a node's items, those in front of a place and those behind it: all are in front where the last one is to go, else those before the item
abbrev pub Way : Option ℕ → Tree → List Tree → List Tree → Type 0
Way None it is js = js ≡ []
Way (Some item) it is js = Each (λ y. Before y it) is × Stops it js

-- The seat owns a node from which an item is to go. A leaf has at least two
pub record Aimed (h : ℕ) (v : SeatView) (row : ℕ) (goal : Option ℕ) (kind n : ℕ) (us xs : List Tree) (it : Tree) (rest : List Tree) : Type 0 where
  pub owns : OwnsNode v row kind n us
  pub node : Node h kind n us xs
  pub some_items : 1 ≤ n
  pub leaf : h ≡ 0 → 2 ≤ n
  pub sorted : Sorted xs
  pub aim : Aim goal it xs
  pub refs : v.refs ≡ rest
  pub few : length rest < 2 ^ 31 + 3

-- The node is open at a child that has more than 15 items, and what is to go is in its list or behind it
pub record Entered (h : ℕ) (w : SeatView) (row least goes j : ℕ) (xs : List Tree) (it : Tree) (goal : Option ℕ) (rest : List Tree) : Type 0 where
  pub n : ℕ
  pub ps : List Tree
  pub ys : List Tree
  pub qs : List Tree
  pub state : Open h w row n goes j xs ps ys qs rest
  pub room : 16 ≤ state.count
  pub target : Target goal it ys qs
  pub many : least ≤ n + 1

-- ---- the item is gone
-- the first of the links leads to an item
pub record Led (us : List Tree) : Type 0 where
  pub top : Tree
  pub tail : List Tree
  pub links : us ≡ top ∷ tail
  pub fits : IsLatch top

-- The seat owns a node with the list ys. Without items the node's first link may lead to any item
pub record Stood (h : ℕ) (w : SeatView) (row kind n : ℕ) (ys : List Tree) : Type 0 where
  pub us : List Tree
  pub owns : OwnsNode w row kind n us
  pub body : Body h kind n us ys
  pub whole : 1 ≤ n → Node h kind n us ys
  pub led : Led us

-- The item is gone, and the seat's newest reference is to it
pub record Shrunk (h : ℕ) (w : SeatView) (row kind n : ℕ) (xs : List Tree) (it : Tree) (item : ℕ) (rest : List Tree) : Type 0 where
  pub many : ℕ
  pub ys : List Tree
  pub stood : Stood h w row kind many ys
  pub gone : Removed it xs ys
  pub least : n ≤ many + 1
  pub fits : IsLatch it
  pub item_is : tree_word it ≡ item
  pub refs : w.refs ≡ it ∷ rest

-- The node's list was xs when its first link was set, and is ys since the item went
pub record Lowers (h : ℕ) (v : SeatView) (row kind n : ℕ) (xs ys : List Tree) (it : Tree) (item : ℕ) : Type 0 where
  pub top : Tree
  pub tail : List Tree
  pub owns : OwnsNode v row kind n (top ∷ tail)
  pub body : Body h kind n (top ∷ tail) ys
  pub sorted : Sorted ys
  pub greatest : IsTop top xs
  pub fits : IsLatch top
  pub gone : Removed it xs ys
  pub item_is : tree_word it ≡ item

-- The node is open at a child whose list is zs, and with the child its list is xs without the item
pub record Finishing (h : ℕ) (v : SeatView) (row n child j : ℕ) (xs ps zs qs : List Tree) (it : Tree) (item : ℕ) : Type 0 where
  pub top : Tree
  pub slot : Slot (suc h) n ps qs j
  pub owns : OwnsNode v row 3 n (slot_links slot top nil)
  pub greatest : IsTop top xs
  pub fits : IsLatch top
  pub apart : child ≢ row
  pub sort : ℕ
  pub count : ℕ
  pub below : List Tree
  pub owns_child : OwnsNode v child sort count below
  pub node : Node h sort count below zs
  pub least : 15 ≤ count
  pub gone : Removed it xs (ps ++ (zs ++ qs))
  pub sorted : Sorted xs
  pub item_is : tree_word it ≡ item

-- The node is open at a child whose list is zs. The child's last item m is out, and is to take the place of the item behind the child
pub record Replacing (h : ℕ) (v : SeatView) (row n child j : ℕ) (xs ps zs qs : List Tree) (it m : Tree) (last : ℕ) (rest : List Tree) : Type 0 where
  pub top : Tree
  pub slot : Slot (suc h) n ps qs j
  pub owns : OwnsNode v row 3 n (slot_links slot top nil)
  pub greatest : IsTop top xs
  pub fits : IsLatch top
  pub apart : child ≢ row
  pub sort : ℕ
  pub count : ℕ
  pub below : List Tree
  pub owns_child : OwnsNode v child sort count below
  pub node : Node h sort count below zs
  pub least : 15 ≤ count
  pub list : xs ≡ ps ++ ((zs ++ m ∷ []) ++ qs)
  pub sorted : Sorted xs
  pub heads : Heads it qs
  pub item : IsLatch m
  pub last_is : tree_word m ≡ last
  pub refs : v.refs ≡ m ∷ rest
  pub few : length rest < 2 ^ 31 + 3

-- The node has the list ys, which is xs without the item, to which the seat has its newest reference
pub record Replaced (h : ℕ) (w : SeatView) (row n : ℕ) (xs : List Tree) (it : Tree) (item : ℕ) (rest : List Tree) : Type 0 where
  pub ys : List Tree
  pub stood : Stood h w row 3 n ys
  pub gone : Removed it xs ys
  pub fits : IsLatch it
  pub item_is : tree_word it ≡ item
  pub refs : w.refs ≡ it ∷ rest

-- ---- the whole tree
-- The seat refers to the root of a tree of h + 1 levels and at least two items, of which one is to go
pub record Leaving (h : ℕ) (v : SeatView) (root item : ℕ) (xs : List Tree) (it : Tree) : Type 0 where
  pub here : tree_word (tree_of root v.refs) ≡ suc root
  pub stands : Stands h (tree_of root v.refs) xs
  pub some_items : 1 ≤ word (tree_of root v.refs) 2
  pub sorted : Sorted xs
  pub many : 2 ≤ length xs
  pub among : Among it xs
  pub is : tree_word it ≡ suc item
  pub low : h ≤ 2
  pub few : length v.refs < 2 ^ 31

-- The seat owns the root that the item went from. Without items, which only an inner one can be, it has one child
pub record Left (h : ℕ) (w : SeatView) (node : ℕ) (xs : List Tree) (it : Tree) (rest : List Tree) : Type 0 where
  pub kind : ℕ
  pub many : ℕ
  pub ys : List Tree
  pub stood : Stood h w node kind many ys
  pub gone : Removed it xs ys
  pub sorted : Sorted ys
  pub leaf : h ≡ 0 → 1 ≤ many
  pub low : h ≤ 2
  pub refs : w.refs ≡ rest
  pub few : length rest < 2 ^ 31
