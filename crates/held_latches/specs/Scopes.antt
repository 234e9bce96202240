-- The trees and the list of one scope, among those of both.
use Rattle.std.specs.Prelude.{◌≡◌, ◌⊎◌, ℕ, suc, ◌+◌, ◌*◌, ◌≤◌, List, [], ◌∷◌, ◌++◌, length, None}
use Rattle.std.specs.List.{filter}
use Rattle.latch_model.specs.Histories.{in_order, with_latch}
use Rattle.latch_model.specs.Latches.{reads, writes}
use Rattle.latch_model.specs.declared.latch.Access.{Access}
use Rattle.latch_model.specs.declared.latch.Access.TheVariants.{Read, Write}
use Rattle.row_pool.specs.Trees.{Tree as Row, tree_word}
use Rattle.latch_item.specs.Items.{Item, item_of}
use Rattle.latch_item.specs.Shape.{Among}
use Rattle.interval_tree.specs.Trees.{root_of}
use Rattle.row_pool.specs.SeatView.{SeatView}
use Rattle.read_list.specs.Lists.{IsReadList}
use Rattle.latch_shots.specs.Held.{held_as}
use Rattle.latch_shots.specs.Roots.{Root}
use Rattle.held_latches.specs.Content.{AllApart, Content, IsIn, held_of, is_other, items_in, read_items}
use Rattle.held_latches.specs.Lists.{with_if}
use Rattle.held_latches.specs.Steps.{PoolHas, Stay, free_rows}
use Rattle.held_latches.specs.Stock.{Fits, Placed, rows_of, tree_root}
use Rattle.held_latches.specs.declared.pool.Pool.{Pool}
use Rattle.held_latches.specs.declared.scopes.ScopeTrees.{ScopeTrees}

-- The roots in front of a scope's and behind them, and the loose items in front of its pending reads and behind them.
pub record Around : Type 0 where
  pub front : List Root
  pub back : List Root
  pub before : List Placed
  pub after : List Placed
  pub few : length front + length back ≤ 8

abbrev pub roots_with : ScopeTrees → Content → Around → List Root
roots_with s c a = a.front ++ tree_root s.writes c.writes ∷ tree_root s.reads c.reads ∷ a.back

abbrev pub loose_with : Content → Around → List Placed
loose_with c a = a.before ++ (c.pending ++ a.after)

-- The pool has the content in the scope's trees and in its list, beside what is around.
pub record ScopeHas (p : Pool) (s : ScopeTrees) (c : Content) (a : Around) : Type 0 where
  pub stock : PoolHas p (roots_with s c a) (loose_with c a)
  pub fits_writes : Fits s.writes c.writes
  pub fits_reads : Fits s.reads c.reads
  pub listed : IsReadList p.seat.view s.pending (rows_of c.pending)

-- Pending reads went into the tree, in the list's order; each takes at most 7 rows. The reads are the same.
pub record Flushing (old new : Pool) (s t : ScopeTrees) (c d : Content) (a : Around) : Type 0 where
  pub has : ScopeHas new t d a
  pub writes : (t.writes ≡ s.writes) × (d.writes ≡ c.writes)
  pub order : in_order (held_of Read (read_items d)) ≡ in_order (held_of Read (read_items c))
  pub apart : AllApart (read_items d)
  pub many : length d.reads + length d.pending ≡ length c.reads + length c.pending
  pub spent : free_rows old + 7 * length d.pending ≤ free_rows new + 7 * length c.pending
  pub stay : Stay (a.before ++ a.after) old new
  pub came : (t : Row) → Among t d.reads → Among t c.reads ⊎ ((p : Placed) × IsIn p c.pending × (tree_word t ≡ suc p.row) × (item_of t ≡ p.item))
  pub left : (p : Placed) → IsIn p d.pending → IsIn p c.pending

-- A latch that is held for writing came: its item is in the tree of writes.
pub record AddedWrite (old new : Pool) (s t : ScopeTrees) (c d : Content) (a : Around) (row : ℕ) (x : Item) : Type 0 where
  pub has : ScopeHas new t d a
  pub reads : (d.reads ≡ c.reads) × (d.pending ≡ c.pending)
  pub order : in_order (held_of Write (items_in d.writes)) ≡ with_latch (held_as Write x) (in_order (held_of Write (items_in c.writes)))
  pub apart : AllApart (items_in d.writes)
  pub many : length d.writes ≡ suc (length c.writes)
  pub spent : free_rows old ≤ free_rows new + 8
  pub stay : Stay (a.before ++ a.after) old new
  pub came : (t : Row) → Among t d.writes → Among t c.writes ⊎ ((tree_word t ≡ suc row) × (item_of t ≡ x))

-- A latch that is held for reading came: its item is the last in the list of pending reads.
pub record AddedRead (old new : Pool) (s t : ScopeTrees) (c d : Content) (a : Around) (row : ℕ) (x : Item) : Type 0 where
  pub has : ScopeHas new t d a
  pub trees : (d.writes ≡ c.writes) × (d.reads ≡ c.reads)
  pub pending : d.pending ≡ c.pending ++ record { row = row; item = x } ∷ []
  pub order : in_order (held_of Read (read_items d)) ≡ with_latch (held_as Read x) (in_order (held_of Read (read_items c)))
  pub apart : AllApart (read_items d)
  pub spent : free_rows old ≤ free_rows new + 1
  pub stay : Stay (a.before ++ a.after) old new

-- A latch that was held for writing is gone, with the item of a row.
pub record TookWrite (old new : Pool) (s t : ScopeTrees) (c d : Content) (a : Around) (it : Row) : Type 0 where
  pub has : ScopeHas new t d a
  pub reads : (d.reads ≡ c.reads) × (d.pending ≡ c.pending)
  pub order : in_order (held_of Write (items_in d.writes))
      ≡ filter (is_other (item_of it).id (item_of it).place) (in_order (held_of Write (items_in c.writes)))
  pub apart : AllApart (items_in d.writes)
  pub many : suc (length d.writes) ≡ length c.writes
  pub spent : free_rows old ≤ free_rows new + 5
  pub stay : Stay (a.before ++ a.after) old new
  pub left : (t : Row) → Among t d.writes → Among t c.writes

-- A latch that was held for reading is gone from the tree, with the item of a row.
pub record TookRead (old new : Pool) (s t : ScopeTrees) (c d : Content) (a : Around) (it : Row) : Type 0 where
  pub has : ScopeHas new t d a
  pub others : (d.writes ≡ c.writes) × (d.pending ≡ c.pending)
  pub order : in_order (held_of Read (read_items d)) ≡ filter (is_other (item_of it).id (item_of it).place) (in_order (held_of Read (read_items c)))
  pub apart : AllApart (read_items d)
  pub many : suc (length d.reads) ≡ length c.reads
  pub spent : free_rows old ≤ free_rows new + 5
  pub stay : Stay (a.before ++ a.after) old new
  pub left : (t : Row) → Among t d.reads → Among t c.reads

-- A latch that was held for reading is gone from the list.
pub record TookPending (old new : Pool) (s t : ScopeTrees) (c d : Content) (a : Around) (p : Placed) : Type 0 where
  pub has : ScopeHas new t d a
  pub trees : (d.writes ≡ c.writes) × (d.reads ≡ c.reads)
  pub order : in_order (held_of Read (read_items d)) ≡ filter (is_other p.item.id p.item.place) (in_order (held_of Read (read_items c)))
  pub apart : AllApart (read_items d)
  pub many : suc (length d.pending) ≡ length c.pending
  pub spent : free_rows old ≤ free_rows new
  pub stay : Stay (a.before ++ a.after) old new
  pub left : (q : Placed) → IsIn q d.pending → IsIn q c.pending

-- how many latches a content has, and for how many rows that are set aside for them: 5 for each in a tree, 12 for each in the list
abbrev pub many_of : Content → ℕ
many_of c = length c.writes + length c.reads + length c.pending

abbrev pub aside_of : Content → ℕ
aside_of c = 5 * (length c.writes + length c.reads) + 12 * length c.pending

-- the same by the lengths that the trees and the list keep
abbrev pub aside_in : ScopeTrees → ℕ
aside_in s = 5 * (s.writes.len + s.reads.len) + 12 * s.pending.len

-- there are no latches
pub record IsEmpty (s : ScopeTrees) : Type 0 where
  pub no_writes : (root_of s.writes ≡ None) × Fits s.writes []
  pub no_reads : (root_of s.reads ≡ None) × Fits s.reads []
  pub none_pending : (v : SeatView) → IsReadList v s.pending []

-- The trees and the list have the content, which is at most what a desk holds.
pub record HasContent (s : ScopeTrees) (c : Content) : Type 0 where
  pub fits_writes : Fits s.writes c.writes
  pub fits_reads : Fits s.reads c.reads
  pub listed : (v : SeatView) × IsReadList v s.pending (rows_of c.pending)
  pub few : length c.writes + length c.reads + length c.pending ≤ 8190

-- A latch came, for reading or for writing: to the tree of writes or to the list, and with the rows that are set aside for it at most 13 rows were used.
pub record Added (old new : Pool) (s t : ScopeTrees) (c d : Content) (a : Around) (row : ℕ) (x : Item) (access : Access) : Type 0 where
  pub has : ScopeHas new t d a
  pub apart : AllApart (items_in d.writes) × AllApart (read_items d)
  pub order_writes : in_order (held_of Write (items_in d.writes)) ≡ with_if (writes access) (held_as Write x) (in_order (held_of Write (items_in c.writes)))
  pub order_reads : in_order (held_of Read (read_items d)) ≡ with_if (reads access) (held_as Read x) (in_order (held_of Read (read_items c)))
  pub came_writes : (t : Row) → Among t d.writes → Among t c.writes ⊎ ((tree_word t ≡ suc row) × (item_of t ≡ x))
  pub came_reads : (t : Row) → Among t d.reads → Among t c.reads
  pub came_pending : (p : Placed) → IsIn p d.pending → IsIn p c.pending ⊎ (p ≡ record { row = row; item = x })
  pub many : many_of d ≡ suc (many_of c)
  pub spent : free_rows old + aside_of d ≤ free_rows new + aside_of c + 13
  pub stay : Stay (a.before ++ a.after) old new
