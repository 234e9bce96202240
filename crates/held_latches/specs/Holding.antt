-- What the trees of both scopes hold.
use Rattle.std.specs.Prelude.{◌≡◌, ℕ, suc, ◌+◌, ◌-◌, ◌*◌, ◌<◌, ◌≤◌, List, [], ◌∷◌, ◌++◌, length, slice_index, slice_get, Some}
use Rattle.std.specs.Prelude.{Bool, true, not, ◌&&◌, ◌==◌, nat_lt}
use Rattle.std.specs.List.{All, filter}
use Rattle.span_key.specs.Scopes.{scope_of}
use Rattle.atomic_table.specs.Seated.{TableId}
use Rattle.span_key.specs.declared.scopes.Scope.{Scope}
use Rattle.span_key.specs.declared.scopes.Scope.TheVariants.{Global, Local}
use Rattle.latch_model.specs.Latches.{at_normal, in_scope}
use Rattle.latch_model.specs.declared.latch.Latch.{Latch}
use Rattle.latch_model.specs.Histories.{HeldLatch, Snapshot, in_order, list_of}
use Rattle.latch_model.specs.declared.latch.Access.TheVariants.{Read, Write}
use Rattle.row_pool.specs.Trees.{Tree as Row, tree_word}
use Rattle.latch_item.specs.Items.{Item, item_of}
use Rattle.latch_item.specs.Shape.{Among}
use Rattle.read_list.specs.Lists.{IsReadList}
use Rattle.held_latches.specs.Lists.{total}
use Rattle.held_latches.specs.Content.{AllApart, Content, EachOf, IsIn, held_of, items_in, read_items}
use Rattle.held_latches.specs.Scopes.{aside_in, aside_of, many_of}
use Rattle.held_latches.specs.Steps.{PoolHas, free_rows}
use Rattle.held_latches.specs.Stock.{Fits, Placed, rows_of, tree_root}
use Rattle.held_latches.specs.declared.held.HeldLatches.{HeldLatches}
use Rattle.held_latches.specs.declared.scopes.ScopeTrees.{ScopeTrees}

-- the table's place for a latch: by its request's lane and its place in the request, of which there are at most 16
abbrev pub slot_of : Item → ℕ
slot_of x = x.lane * 16 + x.place

-- The item stands in the row that the table has for it.
pub record Filed (table : List ℕ) (row : ℕ) (x : Item) : Type 0 where
  pub there : row ≡ slice_index table (slot_of x)
  pub low : x.place < 16
  pub within : slot_of x < length table

-- What holds of one scope's content: its items are filed, no two are of the same place of a request, and the reads of requests before the last writer are in
-- the tree, the others in the list.
pub record IsSound (s : ScopeTrees) (table : List ℕ) (c : Content) : Type 0 where
  pub writes_apart : AllApart (items_in c.writes)
  pub reads_apart : AllApart (read_items c)
  pub filed_writes : (t : Row) → Among t c.writes → (row : ℕ) → tree_word t ≡ suc row → Filed table row (item_of t)
  pub filed_reads : (t : Row) → Among t c.reads → (row : ℕ) → tree_word t ≡ suc row → Filed table row (item_of t)
  pub filed_pending : (p : Placed) → IsIn p c.pending → Filed table p.row p.item
  pub early : (t : Row) → Among t c.reads → (item_of t).id < s.writer
  pub late : (p : Placed) → IsIn p c.pending → s.writer ≤ p.item.id

-- The pool has both contents, and the rows that are set aside for them are free.
pub record Kept (h : HeldLatches) (g l : Content) : Type 0 where
  pub stock : PoolHas h.pool (tree_root h.global.writes g.writes ∷ tree_root h.global.reads g.reads
      ∷ tree_root h.local.writes l.writes ∷ tree_root h.local.reads l.reads ∷ []) (g.pending ++ l.pending)
  pub fits_global : Fits h.global.writes g.writes × Fits h.global.reads g.reads
  pub fits_local : Fits h.local.writes l.writes × Fits h.local.reads l.reads
  pub listed_global : IsReadList h.pool.seat.view h.global.pending (rows_of g.pending)
  pub listed_local : IsReadList h.pool.seat.view h.local.pending (rows_of l.pending)
  pub sound_global : IsSound h.global h.rows.items g
  pub sound_local : IsSound h.local h.rows.items l
  pub set_aside : aside_of g + aside_of l ≤ free_rows h.pool
  pub few : many_of g + many_of l ≤ 8190

-- The held latches are those of the snapshot, list by list, and n seats are split off.
pub record Holds (h : HeldLatches) (s : Snapshot) (n : ℕ) : Type 0 where
  pub global : Content
  pub local : Content
  pub kept : Kept h global local
  pub global_reads : s.global_reads ≡ in_order (held_of Read (read_items global))
  pub global_writes : s.global_writes ≡ in_order (held_of Write (items_in global.writes))
  pub local_reads : s.local_reads ≡ in_order (held_of Read (read_items local))
  pub local_writes : s.local_writes ≡ in_order (held_of Write (items_in local.writes))
  pub out : length h.pool.seat.view.out ≡ n

-- each of the held latches
abbrev pub EachHeld : (HeldLatch → Type 0) → Snapshot → Type 0
EachHeld P s = EachOf P s.global_reads × EachOf P s.global_writes × EachOf P s.local_reads × EachOf P s.local_writes

-- each of them is in the scope of its list
pub record InScopes (s : Snapshot) : Type 0 where
  pub global : All (λ (x : HeldLatch). in_scope Global x.latch ≡ true) s.global_reads × All (λ (x : HeldLatch). in_scope Global x.latch ≡ true) s.global_writes
  pub local : All (λ (x : HeldLatch). in_scope Local x.latch ≡ true) s.local_reads × All (λ (x : HeldLatch). in_scope Local x.latch ≡ true) s.local_writes

-- the pool of the held latches
abbrev pub table_of : HeldLatches → TableId
table_of h = h.pool.seat.table

-- the last request that declared a write in a scope, or 0
abbrev pub writer_of : HeldLatches → Scope → ℕ
writer_of h Global = h.global.writer
writer_of h Local = h.local.writer

-- The request of this number is the last that declared a write in each scope where it did.
abbrev pub WritesIn : HeldLatches → ℕ → Bool → Bool → Type 0
WritesIn h id global local = (global ≡ true → writer_of h Global ≡ id) × (local ≡ true → writer_of h Local ≡ id)

-- how many rows the pool has, how many rows are free and not set aside, and how many latches the table has places for
abbrev pub size_of : HeldLatches → ℕ
size_of h = h.pool.seat.view.size

abbrev pub free_of : HeldLatches → ℕ
free_of h = free_rows h.pool - aside_in h.global - aside_in h.local

abbrev pub slots_of : HeldLatches → ℕ
slots_of h = length h.rows.items

-- the same pool, with as many rows, and as many places
abbrev pub SameSizes : HeldLatches → HeldLatches → Type 0
SameSizes old new = (table_of new ≡ table_of old) × (slots_of new ≡ slots_of old) × (size_of new ≡ size_of old)

-- the same last writers
abbrev pub SameWriters : HeldLatches → HeldLatches → Type 0
SameWriters old new = (writer_of new Global ≡ writer_of old Global) × (writer_of new Local ≡ writer_of old Local)

-- The same, and k rows are free beside those that are set aside for the latches.
pub record HasSpare (h : HeldLatches) (s : Snapshot) (n k : ℕ) : Type 0 where
  pub holds : Holds h s n
  pub spare : aside_of holds.global + aside_of holds.local + k ≤ free_rows h.pool

-- A held latch is of no place below j of the request, nor of the lane; no request has more than 16 latches.
pub record Beside (id lane j : ℕ) (y : HeldLatch) : Type 0 where
  pub other_request : y.by ≡ id → j ≤ y.place
  pub other_lane : y.lane ≡ lane → j ≤ y.place
  pub low : y.place < 16

-- The latches of a request, of places below j, can come: there is room for them, and for so many rows more. The request is the last that began, and nobody
-- holds these places or has the lane but for its own later places.
pub record MayInsert (h : HeldLatches) (s : Snapshot) (n more id lane j : ℕ) : Type 0 where
  pub has : HasSpare h s n (13 * j + more)
  pub fits : total s + j ≤ 8190
  pub low : j ≤ 16
  pub within : lane * 16 + 16 ≤ slots_of h
  pub writers : (writer_of h Global ≤ id) × (writer_of h Local ≤ id)
  pub apart : EachHeld (Beside id lane j) s

-- the latch number j of a request, as snapshots list it
abbrev pub own_latch : ℕ → ℕ → ℕ → Latch → HeldLatch
own_latch id lane j l = record { by = id; lane = lane; place = j; latch = at_normal l }

-- The latches of a request, from its place j on, are among the held ones, each in the list of its scope and access.
abbrev pub HoldsOwn : Snapshot → ℕ → ℕ → List Latch → ℕ → Type 0
HoldsOwn s id lane ls j = (k : ℕ) (l : Latch) → j ≤ k → slice_get ls k ≡ Some l → IsIn (own_latch id lane k l) (list_of s (scope_of l.span) l.access)

-- the lists without the latches of a request that are of places below j
abbrev pub later_or_other : ℕ → ℕ → HeldLatch → Bool
later_or_other id j y = not ((y.by == id) && nat_lt y.place j)

abbrev pub without_below : ℕ → ℕ → Snapshot → Snapshot
without_below id j s = record {
  global_reads = filter (later_or_other id j) s.global_reads;
  global_writes = filter (later_or_other id j) s.global_writes;
  local_reads = filter (later_or_other id j) s.local_reads;
  local_writes = filter (later_or_other id j) s.local_writes;
}
