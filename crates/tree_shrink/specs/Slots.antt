-- Nodes of any level in one form, and nodes with a place left open.
use Rattle.std.specs.Prelude.{List, [], length, replicate, suc, ℕ, ◌++◌, ◌+◌, ◌∷◌, ◌≡◌}
use Rattle.row_pool.specs.Trees.{Tree, nil}
use Rattle.latch_item.specs.Items.{IsLatch}
use Rattle.latch_item.specs.Shape.{Each, Pairs, weave}
use Rattle.interval_tree.specs.Listings.{Part}
use Rattle.interval_tree.specs.Nodes.{ahead, behind, kind_at}

-- A node whose first link may lead anywhere. A leaf of n items counts as having n + 1 children that are nothing
pub record Flat (h kind n : ℕ) (us xs : List Tree) : Type 0 where
  pub top : Tree
  pub its : List Tree
  pub ks : List Tree
  pub yss : List (List Tree)
  pub free : ℕ
  pub is : kind ≡ kind_at h
  pub links : us ≡ top ∷ ((its ++ replicate free nil) ++ (ks ++ replicate free nil))
  pub count : length its ≡ n
  pub full : n + free ≡ 31
  pub many : length ks ≡ suc n
  pub list : xs ≡ weave its yss
  pub items : Each IsLatch its
  pub below : Pairs (Part h) ks yss

-- What stands around the child number j of a node of n items: in front the list ps, behind the list qs
pub record Slot (h n : ℕ) (ps qs : List Tree) (j : ℕ) : Type 0 where
  pub is : List Tree
  pub js : List Tree
  pub cs : List Tree
  pub ds : List Tree
  pub yss : List (List Tree)
  pub zss : List (List Tree)
  pub free : ℕ
  pub place : length is ≡ j
  pub count : j + length js ≡ n
  pub full : n + free ≡ 31
  pub left : length cs ≡ j
  pub left_lists : length yss ≡ j
  pub right : length ds ≡ length js
  pub right_lists : length zss ≡ length js
  pub items_left : Each IsLatch is
  pub items_right : Each IsLatch js
  pub kids_left : Pairs (Part h) cs yss
  pub kids_right : Pairs (Part h) ds zss
  pub front : ps ≡ ahead is yss
  pub back : qs ≡ behind js zss

-- the links of the node, with x as the child
abbrev pub slot_links : {h n : ℕ} {ps qs : List Tree} {j : ℕ} → Slot h n ps qs j → Tree → Tree → List Tree
slot_links o top x = top ∷ (((o.is ++ o.js) ++ replicate o.free nil) ++ ((o.cs ++ x ∷ o.ds) ++ replicate o.free nil))

-- What stands around the item number j of a node of n items and the two children beside it
pub record Seam (h n : ℕ) (ps qs : List Tree) (j : ℕ) : Type 0 where
  pub is : List Tree
  pub js : List Tree
  pub cs : List Tree
  pub ds : List Tree
  pub yss : List (List Tree)
  pub zss : List (List Tree)
  pub free : ℕ
  pub place : length is ≡ j
  pub count : j + suc (length js) ≡ n
  pub full : n + free ≡ 31
  pub left : length cs ≡ j
  pub left_lists : length yss ≡ j
  pub right : length ds ≡ length js
  pub right_lists : length zss ≡ length js
  pub items_left : Each IsLatch is
  pub items_right : Each IsLatch js
  pub kids_left : Pairs (Part h) cs yss
  pub kids_right : Pairs (Part h) ds zss
  pub front : ps ≡ ahead is yss
  pub back : qs ≡ behind js zss

-- the links of the node, with s as the item and x and y as the children in front of it and behind it
abbrev pub seam_links : {h n : ℕ} {ps qs : List Tree} {j : ℕ} → Seam h n ps qs j → Tree → Tree → Tree → Tree → List Tree
seam_links o top s x y = top ∷ (((o.is ++ s ∷ o.js) ++ replicate o.free nil) ++ ((o.cs ++ x ∷ y ∷ o.ds) ++ replicate o.free nil))

-- the links once the item and the child behind it are gone
abbrev pub cut_links : {h n : ℕ} {ps qs : List Tree} {j : ℕ} → Seam h n ps qs j → Tree → Tree → List Tree
cut_links o top x = top ∷ (((o.is ++ o.js) ++ replicate (suc o.free) nil) ++ ((o.cs ++ x ∷ o.ds) ++ replicate (suc o.free) nil))

-- the item in front of the slot, and the child in front of that
pub record Leftward (h n : ℕ) (ps qs : List Tree) (j before : ℕ) (o : Slot h n ps qs j) : Type 0 where
  pub ls : List Tree
  pub kid : Tree
  pub l : List Tree
  pub s : Tree
  pub seam : Seam h n ls qs before
  pub at : j ≡ suc before
  pub fits : IsLatch s
  pub part : Part h kid l
  pub list : ps ≡ ls ++ (l ++ s ∷ [])
  pub links : (top x : Tree) → slot_links o top x ≡ seam_links seam top s kid x

-- the item behind the slot, and the child behind that
pub record Rightward (h n : ℕ) (ps qs : List Tree) (j : ℕ) (o : Slot h n ps qs j) : Type 0 where
  pub rs : List Tree
  pub kid : Tree
  pub l : List Tree
  pub s : Tree
  pub seam : Seam h n ps rs j
  pub fits : IsLatch s
  pub part : Part h kid l
  pub list : qs ≡ s ∷ (l ++ rs)
  pub links : (top x : Tree) → slot_links o top x ≡ seam_links seam top s x kid
