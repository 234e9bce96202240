-- What contracts say of the shots of a request, and of what is left of them.
use Rattle.std.specs.Prelude.{◌≡◌, ℕ, ◌≤◌, true, List, []}
use mathlib.Core.Option.{some}
use Rattle.atomic_table.specs.Seated.{TableId}
use Rattle.span_key.specs.declared.scopes.Scope.{Scope}
use Rattle.span_key.specs.declared.scopes.Scope.TheVariants.{Global, Local}
use Rattle.latch_model.specs.Histories.{Snapshot}
use Rattle.latch_model.specs.declared.latch.Access.{Access}
use Rattle.latch_model.specs.declared.latch.Access.TheVariants.{Read, Write}
use Rattle.row_pool.specs.Chains.{IsChain}
use Rattle.row_pool.specs.Lists.{find, mem}
use Rattle.row_pool.specs.SeatView.{SeatView}
use Rattle.row_pool.specs.Trees.{Entry}
use Rattle.row_pool.specs.declared.chain.Chain.{Chain}
use Rattle.latch_item.specs.declared.shot.Shot.{Shot}
use Rattle.latch_shots.specs.Shown.{Show}
use Rattle.latch_shots.specs.declared.shots.Returned.{Returned}
use Rattle.latch_shots.specs.declared.shots.Shots.{Shots}

-- the pool of the shots, what their seat knows, and the seat's number
abbrev pub table_of : Shots → TableId
table_of shots = shots.seat.table

abbrev pub view_of : Shots → SeatView
view_of shots = shots.seat.view

abbrev pub number_of : Shots → ℕ
number_of shots = shots.seat.view.number

-- All that shots are but for the count of links that their seat followed. It stays while they are searched, and so does all that is said of it.
pub record Content : Type 0 where
  pub table : TableId
  pub view : SeatView
  pub own : ℕ
  pub global_reads : Shot
  pub global_writes : Shot
  pub local_reads : Shot
  pub local_writes : Shot

abbrev pub content_of : Shots → Content
content_of shots = record {
  table = shots.seat.table;
  view = shots.seat.view;
  own = shots.own;
  global_reads = shots.global_reads;
  global_writes = shots.global_writes;
  local_reads = shots.local_reads;
  local_writes = shots.local_writes;
}

-- the shot of the latches with this access in this scope
abbrev pub shot_of : Content → Scope → Access → Shot
shot_of c Global Read = c.global_reads
shot_of c Global Write = c.global_writes
shot_of c Local Read = c.local_reads
shot_of c Local Write = c.local_writes

-- The shots show a snapshot.
abbrev pub ShowsSnapshot : Content → Snapshot → Type 0
ShowsSnapshot c s = Show c.view c.own c.global_reads c.global_writes c.local_reads c.local_writes s

abbrev pub AreShots : Shots → Snapshot → Type 0
AreShots shots s = ShowsSnapshot (content_of shots) s

-- The rows that the seat owns are those of the chain.
pub record OwnsJust (v : SeatView) (c : Chain) : Type 0 where
  pub rows : List ℕ
  pub chain : IsChain v c rows
  pub all : (q : ℕ) (e : Entry) → find q v.owned ≡ some e → mem q rows ≡ true

-- A seat of this pool and number, which was split off, comes back: it refers to nothing, and the rows that it owns are those of the chain.
pub record IsReturned (table : TableId) (number : ℕ) (r : Returned) : Type 0 where
  pub same_table : r.seat.table ≡ table
  pub same_number : r.seat.view.number ≡ number
  pub split_off : 2 ≤ number
  pub no_refs : r.seat.view.refs ≡ []
  pub owns : OwnsJust r.seat.view r.rows
