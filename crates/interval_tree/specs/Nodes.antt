-- Lists of items and nodes while an insertion is under way.
use Rattle.std.specs.Prelude.{◌≡◌, ◌≢◌, ◌⊎◌, ℕ, zero, suc, ◌+◌, ◌-◌, ◌<◌, List, [], ◌∷◌, ◌++◌, length, replicate}
use Rattle.std.specs.declared.cmp.Ordering.TheVariants.{Equal}
use Rattle.row_pool.specs.Trees.{Tree, nil, tree_word}
use Rattle.latch_item.specs.Items.{Before, BoundUpTo, IsLatch, item_cmp, item_of}
use Rattle.latch_item.specs.Shape.{Each, Pairs, IsTop, Spread, Kid, Node, weave}

-- the list is the old one and the item x, at its place in the order
pub record Inserted (x : Tree) (xs ys : List Tree) : Type 0 where
  pub front : List Tree
  pub back : List Tree
  pub old : xs ≡ front ++ back
  pub new : ys ≡ front ++ x ∷ back
  pub low : Each (λ y. Before y x) front
  pub high : Each (λ y. Before x y) back

-- the items are at different places in the order
abbrev pub Differs : Tree → Tree → Type 0
Differs it y = item_cmp (item_of y) (item_of it) ≢ Equal

-- the first item, if there is one, is not before `it`
abbrev pub Stops : Tree → List Tree → Type 0
Stops it [] = Unit {0}
Stops it (y ∷ ys) = Before y it → ⊥

-- the items below `low` are before `it`, and the one at `high`, if there is one, is not
pub record Between (it : Tree) (its : List Tree) (low high : ℕ) : Type 0 where
  pub front : List Tree
  pub middle : List Tree
  pub back : List Tree
  pub whole : its ≡ front ++ (middle ++ back)
  pub first : length front ≡ low
  pub last : length front + length middle ≡ high
  pub before : Each (λ y. Before y it) front
  pub stops : Stops it back

-- the item of the greatest bound after the item came: the old one, or the item
abbrev pub Raised : Tree → Tree → Tree → Type 0
Raised it old new = ((new ≡ old) × BoundUpTo old it) ⊎ ((new ≡ it) × BoundUpTo it old)

-- whatever place the item gets, `top` has the greatest bound then
abbrev pub Lifts : Tree → List Tree → Tree → Type 0
Lifts it xs top = (ys : List Tree) → Inserted it xs ys → IsTop top ys

-- ---- nodes of which the first link is not yet set
-- what the children of a node of this level are, how many there are, and its kind
abbrev pub LevelKid : ℕ → Tree → List Tree → Type 0
LevelKid zero c ys = ⊥
LevelKid (suc h) c ys = Kid (Node h) c ys

abbrev pub Many : ℕ → ℕ → ℕ → Type 0
Many zero c n = c ≡ 0
Many (suc h) c n = c ≡ suc n

abbrev pub kind_at : ℕ → ℕ
kind_at zero = 2
kind_at (suc h) = 3

-- a node whose first link may lead anywhere
pub record Body (h kind n : ℕ) (us xs : List Tree) : Type 0 where
  pub top : Tree
  pub its : List Tree
  pub cs : List Tree
  pub yss : List (List Tree)
  pub is : kind ≡ kind_at h
  pub spread : Spread n us top its cs
  pub list : xs ≡ weave its yss
  pub items : Each IsLatch its
  pub many : Many h (length cs) n
  pub below : Pairs (LevelKid h) cs yss

abbrev pub joined : List (List Tree) → List Tree
joined [] = []
joined (ys ∷ yss) = ys ++ joined yss

-- ---- a node whose child is out
-- what stands in front of a child, and behind it
abbrev pub ahead : List Tree → List (List Tree) → List Tree
ahead [] yss = []
ahead (x ∷ its) [] = []
ahead (x ∷ its) (ys ∷ yss) = ys ++ x ∷ ahead its yss

abbrev pub behind : List Tree → List (List Tree) → List Tree
behind [] yss = []
behind (x ∷ its) yss = x ∷ weave its yss

-- The links behind the first one of an inner node whose child number j is out. Without the child its list is ps and qs
pub record Hole (h kind n : ℕ) (us ps qs : List Tree) (j : ℕ) : Type 0 where
  pub is : List Tree
  pub js : List Tree
  pub cs : List Tree
  pub ds : List Tree
  pub yss : List (List Tree)
  pub zss : List (List Tree)
  pub free : ℕ
  pub room : ℕ
  pub links : us ≡ ((is ++ js) ++ replicate free nil) ++ ((cs ++ nil ∷ ds) ++ replicate room nil)
  pub inner : kind ≡ 3
  pub place : length is ≡ j
  pub count : length is + length js ≡ n
  pub full : n + free ≡ 31
  pub room_is : n + 1 + room ≡ 32
  pub left : length cs ≡ j
  pub left_lists : length yss ≡ j
  pub right : length ds ≡ length js
  pub right_lists : length zss ≡ length js
  pub items_left : Each IsLatch is
  pub items_right : Each IsLatch js
  pub kids_left : Pairs (Kid (Node h)) cs yss
  pub kids_right : Pairs (Kid (Node h)) ds zss
  pub front : ps ≡ ahead is yss
  pub back : qs ≡ behind js zss

-- the links in front of a node's hole once the item m is in front of it, and those behind the hole
abbrev pub item_front : {h kind n : ℕ} {us ps qs : List Tree} {j : ℕ} → Hole h kind n us ps qs j → Tree → Tree → List Tree
item_front o top m = top ∷ (((o.is ++ m ∷ o.js) ++ replicate (o.free - 1) nil) ++ o.cs)

abbrev pub hole_back : {h kind n : ℕ} {us ps qs : List Tree} {j : ℕ} → Hole h kind n us ps qs j → List Tree
hole_back o = o.ds ++ replicate o.room nil

-- the links behind the last child, once there is one child more
abbrev pub hole_end : {h kind n : ℕ} {us ps qs : List Tree} {j : ℕ} → Hole h kind n us ps qs j → List Tree
hole_end o = replicate (o.room - 1) nil

-- none of the links is empty
abbrev pub EachRow : List Tree → Type 0
EachRow ts = Each (λ t. 0 < tree_word t) ts
