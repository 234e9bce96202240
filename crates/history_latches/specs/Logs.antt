-- That what is held is what a history says, and which entries may come next.
use Rattle.std.specs.Prelude.{IsTrue, ◌≡◌, ℕ, ◌*◌, ◌≤◌, if◌then◌else◌, List, [], ◌∷◌, ◌++◌, length, Some}
use Rattle.std.specs.List.{Contains}
use Rattle.atomic_table.specs.Seated.{TableId}
use Rattle.span_key.specs.declared.scopes.Scope.{Scope}
use Rattle.latch_model.specs.Histories.{Begin, begin_with, begins, entry_of, holds_latches, is_end, latches_held, open_begins}
use Rattle.latch_model.specs.Legal.{IsLegal}
use Rattle.latch_model.specs.declared.history.Entry.{Entry}
use Rattle.latch_model.specs.declared.history.Sizes.{Sizes}
use Rattle.latch_model.specs.declared.latch.Latch.{Latch}
use Rattle.latch_model.specs.declared.latch.Mode.{Mode}
use Rattle.latch_model.specs.declared.latch.TheConstants.Latches.{LIMIT}
use Rattle.held_latches.specs.Holding.{Holds, free_of as held_free, size_of, slots_of, table_of as held_table, writer_of}
use Rattle.history_latches.specs.Lists.{lists_of}
use Rattle.history_latches.specs.Writers.{last_writer}
use Rattle.history_latches.specs.declared.latches.HistoryLatches.{HistoryLatches}

-- the pool of the held latches, and how many of its rows are free and not set aside
abbrev pub table_of : HistoryLatches → TableId
table_of h = held_table h.held

abbrev pub free_of : HistoryLatches → ℕ
free_of h = held_free h.held

-- What is held is what the history says: the latches of its open requests, for each of which a seat is split off, and in each scope the last writer. There are
-- as many rows, and places for latches, as the sizes give.
pub record HoldsLog (h : HistoryLatches) (log : List Entry) (sizes : Sizes) : Type 0 where
  pub holds : Holds h.held (lists_of (latches_held log)) (length (open_begins log))
  pub writers : (scope : Scope) → writer_of h.held scope ≡ last_writer scope (begins log)
  pub rows : size_of h.held ≡ sizes.rows
  pub slots : slots_of h.held ≡ sizes.lanes * LIMIT

-- the sizes for which there is place
pub record InBounds (sizes : Sizes) : Type 0 where
  pub latches : sizes.latches ≤ 8190
  pub lanes : sizes.lanes ≤ 256
  pub rows : (1 ≤ sizes.rows) × (sizes.rows ≤ 4194304)

-- The begin is that of a request with this number, lane, latches and mode.
pub record IsBeginOf (b : Begin) (id lane : ℕ) (ls : List Latch) (mode : Mode) : Type 0 where
  pub id_is : b.id ≡ id
  pub lane_is : b.lane ≡ lane
  pub latches_are : b.request.latches ≡ ls
  pub mode_is : b.mode ≡ mode

-- The begin may come next, where what is held is what the history says. No request has more latches than the limit.
pub record MayBegin (h : HistoryLatches) (log : List Entry) (sizes : Sizes) (b : Begin) : Type 0 where
  pub keeps : HoldsLog h log sizes
  pub bounds : InBounds sizes
  pub legal : IsLegal (log ++ entry_of b ∷ []) sizes
  pub few : (x : Begin) → Contains (begins (log ++ entry_of b ∷ [])) x → length x.request.latches ≤ LIMIT

-- the latches that a request of this mode holds: all that it declares, or none
abbrev pub to_hold : Mode → List Latch → List Latch
to_hold mode ls = if holds_latches mode then ls else []

-- The entry may come next, where what is held is what the history says, and it ends the request of this begin.
pub record MayEnd (h : HistoryLatches) (log : List Entry) (sizes : Sizes) (e : Entry) (b : Begin) : Type 0 where
  pub keeps : HoldsLog h log sizes
  pub legal : IsLegal (log ++ e ∷ []) sizes
  pub begun : begin_with log b.id ≡ Some b
  pub ends : IsTrue (is_end b.id e)
  pub few : length b.request.latches ≤ LIMIT
