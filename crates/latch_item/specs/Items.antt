-- What the words of an item row say of a latch, and the order of items.
use Rattle.std.specs.Prelude.{◌≡◌, ◌≢◌, ◌⊎◌, ℕ, zero, suc, ◌-◌, ◌^◌, ◌<◌, ◌≤◌, Bool, List, [], ◌∷◌, length, map, take, slice_index, eqb, ltb}
use Rattle.std.specs.Prelude.{if◌then◌else◌}
use mathlib.Core.Option.{some}
use Rattle.std.specs.Ordering.{nat_cmp, ordering_then}
use Rattle.std.specs.declared.cmp.Ordering.{Ordering}
use Rattle.std.specs.declared.cmp.Ordering.TheVariants.{Less}
use Rattle.row_pool.specs.Trees.{Tree, Entry, tree_word, children, words_of}
use Rattle.row_pool.specs.SeatView.{SeatView}
use Rattle.row_pool.specs.Lists.{find}
use Rattle.row_pool.specs.Views.{Reaches}
use Rattle.hlc_stamp.specs.declared.Stamp.{Stamp}
use Rattle.span_key.specs.Spans.{Pair, IsSpan, key_cmp, bound_cmp}
use Rattle.latch_item.specs.Bytes.{key_word, bytes_of}

-- a latch as its item says it: the request and the latch's place there, the request's lane, the span, and the normal stamp
pub record Item : Type 0 where
  pub id : ℕ
  pub place : ℕ
  pub lane : ℕ
  pub span : Pair
  pub stamp : Stamp

-- the words of an item row that say which latch it is; words 9 and 10 belong to the read list
abbrev pub IsItemPlace : ℕ → Type 0
IsItemPlace w = (2 ≤ w) × (w < 75) × (w ≢ 9) × (w ≢ 10)

-- what stands in word w of an item row
abbrev pub item_word : Item → ℕ → ℕ
item_word x w =
    if eqb w 2 then x.id
    else (if eqb w 3 then x.place
    else (if eqb w 4 then x.lane
    else (if eqb w 5 then x.stamp.wall
    else (if eqb w 6 then x.stamp.logical
    else (if eqb w 7 then length x.span.0
    else (if eqb w 8 then length x.span.1
    else (if ltb w 43 then key_word x.span.0 (w - 11) else key_word x.span.1 (w - 43))))))))

-- a span, and numbers of 32 bits
pub record IsValid (x : Item) : Type 0 where
  pub span : IsSpan x.span
  pub place : x.place < 2 ^ 32
  pub lane : x.lane < 2 ^ 32
  pub logical : x.stamp.logical < 2 ^ 32

abbrev pub word : Tree → ℕ → ℕ
word t w = slice_index (words_of t) w

-- the live row is this item
pub record IsItemOf (t : Tree) (x : Item) : Type 0 where
  pub row : ℕ
  pub here : tree_word t ≡ suc row
  pub kind : word t 1 ≡ 1
  pub leaf : children t ≡ []
  pub valid : IsValid x
  pub words : (w : ℕ) → IsItemPlace w → word t w ≡ item_word x w

-- the seat owns the row, which is this item
pub record OwnsItem (v : SeatView) (row : ℕ) (x : Item) : Type 0 where
  pub entry : Entry
  pub has : find row v.owned ≡ some entry
  pub kind : entry.kind ≡ 1
  pub links : entry.links ≡ []
  pub valid : IsValid x
  pub words : (w : ℕ) → IsItemPlace w → find w entry.known ≡ some (item_word x w)

-- the seat reaches or owns the row, which is this item
abbrev pub HasItem : SeatView → ℕ → Item → Type 0
HasItem v row x = ((t : Tree) × Reaches v t × (tree_word t ≡ suc row) × IsItemOf t x) ⊎ OwnsItem v row x

-- the key, or the end, of a span
abbrev pub part : Bool → Pair → List ℕ
part end span = if end then span.1 else span.0

-- items are in the order of their keys, their ends, their requests and their places in these; an empty end comes first
abbrev pub item_cmp : Item → Item → Ordering
item_cmp x y =
    ordering_then (key_cmp x.span.0 y.span.0)
    (ordering_then (key_cmp x.span.1 y.span.1)
    (ordering_then (nat_cmp x.id y.id) (nat_cmp x.place y.place)))

-- n numbers from a on
abbrev pub run : ℕ → ℕ → List ℕ
run a zero = []
run a (suc n) = a ∷ run (suc a) n

-- what the words of a row spell, read as those of an item
unfoldable pub item_of : Tree → Item
item_of t = record {
  id = word t 2;
  place = word t 3;
  lane = word t 4;
  span = (take (word t 7) (bytes_of (map (word t) (run 11 32))), take (word t 8) (bytes_of (map (word t) (run 43 32))));
  stamp = record { wall = word t 5; logical = word t 6 };
}

-- the live row is the item of some latch
abbrev pub IsLatch : Tree → Type 0
IsLatch t = IsItemOf t (item_of t)

-- the item t comes after the item s
abbrev pub Before : Tree → Tree → Type 0
Before s t = item_cmp (item_of s) (item_of t) ≡ Less

-- the upper bound of the item t is no less than that of s
abbrev pub BoundUpTo : Tree → Tree → Type 0
BoundUpTo t s = bound_cmp (item_of t).span (item_of s).span ≡ Less → ⊥
