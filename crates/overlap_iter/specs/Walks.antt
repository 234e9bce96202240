-- What a walk through a tree still has to come to, and how many links it may still follow.
use Rattle.std.specs.Prelude.{◌≡◌, ℕ, zero, suc, ◌+◌, ◌-◌, ◌*◌, ◌<◌, ◌≤◌, cond, leb, List, [], ◌∷◌, ◌++◌, length, slice_index}
use Rattle.std.specs.Prelude.{slice_set, Option, Some, None}
use mathlib.Core.Option.{some}
use lib.ListN.{get_elem?}
use Rattle.row_pool.specs.Trees.{Tree, nil, tree_word, children}
use Rattle.row_pool.specs.SeatView.{SeatView}
use Rattle.row_pool.specs.SeatState.{kind_of}
use Rattle.row_pool.specs.Layout.{first_link, link_count}
use Rattle.row_pool.specs.Changes.{tree_of}
use Rattle.row_pool.specs.Views.{Reaches}
use Rattle.span_key.specs.Spans.{Pair}
use Rattle.latch_item.specs.Items.{word, IsLatch}
use Rattle.latch_item.specs.Shape.{Each, Pairs, Sorted, Spread, Kid, Node, Stands, weave}
use Rattle.overlap_iter.specs.Overlaps.{found, marks, spare}
use Rattle.overlap_iter.specs.declared.cursor.Cursor.{Cursor}

-- ---- places in a tree
-- the tree that a shot's root stands for, and nothing where it has no root
abbrev pub root_of : SeatView → Option ℕ → Tree
root_of v None = nil
root_of v (Some root) = tree_of root v.refs

-- the seat reaches the tree, where it isn't nothing
abbrev pub HasRoot : SeatView → Tree → Type 0
HasRoot v root = 0 < tree_word root → Reaches v root

-- a tree below another, or itself
pub data Within (t : Tree) : Tree → Type 0 where
  itself : Within t t
  kid : {u c : Tree} (k : ℕ) → Within t u → get_elem? (children u) k ≡ some c → Within t c

-- a row of this kind has the links of a node
abbrev pub IsNodeKind : ℕ → Type 0
IsNodeKind kind = (first_link kind ≡ 3) × (link_count kind ≡ 64)

-- A child of a node of this level has the list. The children of a leaf are nothing, and have no items
abbrev pub ChildOf : ℕ → Tree → List Tree → Type 0
ChildOf zero c ys = ys ≡ []
ChildOf (suc l) c ys = Kid (Node l) c ys

-- the items of a node, each with the list of the child behind it
abbrev pub behind : List Tree → List (List Tree) → List Tree
behind [] yss = []
behind (x ∷ its) yss = x ∷ weave its yss

-- ---- what is left of a walk
-- In the node u of this level, which stands in the row, the items from the place j on and the children behind these are the list bs. Coming to them takes 3
-- links for each of these items, and 95 for each stop in the children and each level below
pub record RestOfNode (span : Pair) (level : ℕ) (u : Tree) (row j : ℕ) (bs : List Tree) (work : ℕ) : Type 0 where
  pub top : Tree
  pub passed : List Tree
  pub items : List Tree
  pub left : List Tree
  pub kids : List Tree
  pub lists : List (List Tree)
  pub here : tree_word u ≡ suc row
  pub kind : IsNodeKind (kind_of u)
  pub spread : Spread (word u 2) (children u) top (passed ++ items) (left ++ kids)
  pub place : length passed ≡ j
  pub left_many : length left ≡ suc j
  pub kids_many : length kids ≡ length items
  pub latches : Each IsLatch items
  pub below : Pairs (ChildOf level) kids lists
  pub todo : bs ≡ behind items lists
  pub work_is : work ≡ 3 * length items + 95 * level * marks span bs

-- a node on the way up, and the nodes above it
pub record Frame (Above : List Tree → ℕ → Type 0) (span : Pair) (root : Tree) (level row j : ℕ) (bs : List Tree) (work : ℕ) : Type 0 where
  pub node : Tree
  pub inside : Within root node
  pub here : List Tree
  pub here_work : ℕ
  pub rest : List Tree
  pub rest_work : ℕ
  pub node_rest : RestOfNode span level node row j here here_work
  pub above : Above rest rest_work
  pub todo : bs ≡ here ++ rest
  pub work_is : work ≡ here_work + spare span here rest_work

-- n nodes on the way up from the level: what is left in them is the list bs, and coming to it takes `work` links at most
abbrev pub Frames : Pair → Tree → List ℕ → List ℕ → ℕ → ℕ → List Tree → ℕ → Type 0
Frames span root rows places zero level bs work = (bs ≡ []) × (work ≡ 0)
Frames span root rows places (suc n) level bs work =
    Frame (Frames span root rows places n (suc level)) span root level (slice_index rows level) (slice_index places level) bs work

-- the node of this row, of the level below `low`, which comes next, has the list
pub record Entering (root : Tree) (low row : ℕ) (ys : List Tree) : Type 0 where
  pub level : ℕ
  pub low_is : low ≡ suc level
  pub node : Tree
  pub inside : Within root node
  pub here : tree_word node ≡ suc row
  pub stands : Stands level node ys

-- what comes before the nodes on the way up: a node, or nothing
abbrev pub Comes : Pair → Tree → ℕ → Option ℕ → List Tree → ℕ → List Tree → ℕ → Type 0
Comes span root low None rest more bs work = (bs ≡ rest) × (more ≤ work)
Comes span root low (Some row) rest more bs work = (ys : List Tree) × Entering root low row ys × (bs ≡ ys ++ rest)
    × (1 + 95 * low * marks span ys + spare span ys more ≤ work)

-- a cursor in the tree of `root` has the list bs to come
pub record Framed (span : Pair) (root : Tree) (c : Cursor) (bs : List Tree) (work : ℕ) : Type 0 where
  pub levels : ℕ
  pub height_is : c.low + levels ≡ c.height
  pub low_height : c.height ≤ 3
  pub rows_three : length c.rows ≡ 3
  pub places_three : length c.places ≡ 3
  pub rest : List Tree
  pub more : ℕ
  pub frames : Frames span root c.rows c.places levels c.low rest more
  pub comes : Comes span root c.low c.next rest more bs work

-- the cursor with so many items of the lowest node passed
abbrev pub at_place : Cursor → ℕ → Cursor
at_place c j = record { rows = c.rows; places = slice_set c.places c.low j; low = c.low; height = c.height; next = c.next }

-- the same where the child at the place of the lowest node is to be looked at first
pub record Opens (span : Pair) (root : Tree) (c : Cursor) (bs : List Tree) (work : ℕ) : Type 0 where
  pub levels : ℕ
  pub height_is : c.low + suc levels ≡ c.height
  pub low_height : c.height ≤ 3
  pub rows_three : length c.rows ≡ 3
  pub places_three : length c.places ≡ 3
  pub low_place : slice_index c.places c.low ≤ 31
  pub node : Tree
  pub inside : Within root node
  pub here : tree_word node ≡ suc (slice_index c.rows c.low)
  pub kind : IsNodeKind (kind_of node)
  pub child : Tree
  pub at : get_elem? (children node) (32 + slice_index c.places c.low) ≡ some child
  pub ys : List Tree
  pub child_is : ChildOf c.low child ys
  pub rest : List Tree
  pub more : ℕ
  pub frames : Frames span root c.rows c.places (suc levels) c.low rest more
  pub todo : bs ≡ ys ++ rest
  pub enough : 2 + 95 * c.low * marks span ys + spare span ys more ≤ work

-- ---- what contracts say of a walk
-- The cursor is in the tree of `root`, and the items that it still comes to are `todo`, in this order. It follows `work` links at most for them
pub record Walks (span : Pair) (root : Tree) (c : Cursor) (todo : List Tree) (work : ℕ) : Type 0 where
  pub items : List Tree
  pub framed : Framed span root c items work
  pub sorted : Sorted items
  pub todo_is : todo ≡ found span items

-- The same, where the links that were followed, from `before` to `after`, and those still to follow are at most `most`
pub record WalksWithin (span : Pair) (root : Tree) (c : Cursor) (todo : List Tree) (before after most : ℕ) : Type 0 where
  pub work : ℕ
  pub walks : Walks span root c todo work
  pub paid : after + work ≤ before + most

-- the walk came to an item, which stands in the row i
pub record Came (span : Pair) (root : Tree) (c : Cursor) (todo : List Tree) (i before after most : ℕ) : Type 0 where
  pub item : Tree
  pub rest : List Tree
  pub next : todo ≡ item ∷ rest
  pub here : tree_word item ≡ suc i
  pub inside : Within root item
  pub latch : IsLatch item
  pub walks : WalksWithin span root c rest before after most

-- A bound on the steps that are left, so that a loop over the answers is seen to end: 1, 34 and 1,123 for a place of each level, and 33, 1,122 and 37,059 for
-- a node to enter below it
abbrev pub entries_left : ℕ → Option ℕ → ℕ
entries_left low None = 0
entries_left zero (Some row) = 0
entries_left (suc zero) (Some row) = 33
entries_left (suc (suc zero)) (Some row) = 1122
entries_left (suc (suc (suc l))) (Some row) = 37059

abbrev pub places_left : ℕ → List ℕ → ℕ
places_left low places = cond (leb low 0) (32 - slice_index places 0) 0 + cond (leb low 1) ((32 - slice_index places 1) * 34) 0
    + cond (leb low 2) ((32 - slice_index places 2) * 1123) 0

abbrev pub steps_left : Cursor → ℕ
steps_left c = entries_left c.low c.next + places_left c.low c.places
