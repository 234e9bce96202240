-- One latch goes out of a scope, or all of a request out of both.
use Rattle.std.specs.Prelude.{◌≡◌, ◌⊎◌, ℕ, suc, ◌+◌, ◌<◌, ◌≤◌, if◌then◌else◌, Bool, List, ◌++◌, slice_get, Some}
use Rattle.std.specs.List.{filter}
use Rattle.span_key.specs.Scopes.{scope_of}
use Rattle.span_key.specs.declared.scopes.Scope.{Scope}
use Rattle.span_key.specs.declared.scopes.Scope.TheVariants.{Global, Local}
use Rattle.latch_model.specs.Histories.{HeldLatch, Snapshot, in_order, list_of}
use Rattle.latch_model.specs.Latches.{reads, writes}
use Rattle.latch_model.specs.declared.latch.Access.{Access}
use Rattle.latch_model.specs.declared.latch.Access.TheVariants.{Read, Write}
use Rattle.latch_model.specs.declared.latch.Latch.{Latch}
use Rattle.row_pool.specs.Trees.{Tree as Row, tree_word}
use Rattle.latch_item.specs.Items.{Item, item_of}
use Rattle.latch_item.specs.Shape.{Among}
use Rattle.held_latches.specs.Content.{AllApart, Content, EachOf, IsIn, held_of, is_other, items_in, read_items}
use Rattle.held_latches.specs.Scopes.{Around, ScopeHas, aside_of, many_of}
use Rattle.held_latches.specs.Steps.{Stay, free_rows}
use Rattle.held_latches.specs.Stock.{Placed}
use Rattle.held_latches.specs.declared.pool.Pool.{Pool}
use Rattle.held_latches.specs.declared.scopes.ScopeTrees.{ScopeTrees}

-- The item stands in the row: a write in the tree of writes, and a read in the tree of reads, or in the list where its request is none before the last writer.
abbrev pub StandsIn : ScopeTrees → Content → Access → ℕ → Item → Type 0
StandsIn s c Write row x = (t : Row) × Among t c.writes × (tree_word t ≡ suc row) × (item_of t ≡ x)
StandsIn s c Read row x = ((t : Row) × Among t c.reads × (tree_word t ≡ suc row) × (item_of t ≡ x) × (x.id < s.writer))
    ⊎ ((p : Placed) × IsIn p c.pending × (p.row ≡ row) × (p.item ≡ x) × (s.writer ≤ x.id))

-- a list without a place of a request, where it is the one
abbrev pub without_if : Bool → ℕ → ℕ → List HeldLatch → List HeldLatch
without_if there id place xs = if there then filter (is_other id place) xs else xs

-- A latch that was held went out of its scope's trees or its list, and with the rows that are set aside no row was used.
pub record Taken (old new : Pool) (s t : ScopeTrees) (c d : Content) (a : Around) (x : Item) (access : Access) : Type 0 where
  pub has : ScopeHas new t d a
  pub apart : AllApart (items_in d.writes) × AllApart (read_items d)
  pub order_writes : in_order (held_of Write (items_in d.writes)) ≡ without_if (writes access) x.id x.place (in_order (held_of Write (items_in c.writes)))
  pub order_reads : in_order (held_of Read (read_items d)) ≡ without_if (reads access) x.id x.place (in_order (held_of Read (read_items c)))
  pub left_writes : (t : Row) → Among t d.writes → Among t c.writes
  pub left_reads : (t : Row) → Among t d.reads → Among t c.reads
  pub left_pending : (p : Placed) → IsIn p d.pending → IsIn p c.pending
  pub many : suc (many_of d) ≡ many_of c
  pub spent : free_rows old + aside_of d ≤ free_rows new + aside_of c
  pub stay : Stay (a.before ++ a.after) old new

-- the lists without a place of a request in the list of one scope and access
abbrev pub without_place : ℕ → ℕ → Scope → Access → Snapshot → Snapshot
without_place id place Global Read s = record s { global_reads = filter (is_other id place) s.global_reads }
without_place id place Global Write s = record s { global_writes = filter (is_other id place) s.global_writes }
without_place id place Local Read s = record s { local_reads = filter (is_other id place) s.local_reads }
without_place id place Local Write s = record s { local_writes = filter (is_other id place) s.local_writes }

-- A held latch is one of these latches, by its place, and that one is of this scope and access.
pub record IsOwn (ls : List Latch) (scope : Scope) (access : Access) (y : HeldLatch) : Type 0 where
  pub latch : Latch
  pub here : slice_get ls y.place ≡ Some latch
  pub scope_is : scope_of latch.span ≡ scope
  pub access_is : latch.access ≡ access

-- The latches of a request that are held are just its own, each in the list of its scope and access.
abbrev pub OnlyOwn : Snapshot → ℕ → List Latch → Type 0
OnlyOwn s id ls = (scope : Scope) (access : Access) → EachOf (λ y. y.by ≡ id → IsOwn ls scope access y) (list_of s scope access)
