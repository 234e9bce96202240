-- What a desk keeps beside its seat, and that it is what the history says.
use Rattle.std.specs.Prelude.{◌≡◌, ℕ, ◌+◌, ◌≤◌, not, ◌&&◌, nat_lt, List, length, None}
use Rattle.std.specs.List.{Contains}
use Rattle.latch_model.specs.Deciding.{has_lane}
use Rattle.latch_model.specs.Histories.{Begin, begins, latches_held, open_begins}
use Rattle.latch_model.specs.Legal.{IsLegal}
use Rattle.latch_model.specs.declared.history.Entry.{Entry}
use Rattle.latch_model.specs.declared.history.Sizes.{Sizes}
use Rattle.latch_model.specs.declared.latch.TheConstants.Latches.{LIMIT}
use Rattle.history_latches.specs.Logs.{HoldsLog}
use Rattle.signal_board.specs.Says.{DeskSays}
use Rattle.sequence_core.specs.Bounds.{bad_size}
use Rattle.sequence_core.specs.Lanes.{Falls, is_among}
use Rattle.sequence_core.specs.declared.kept.Kept.{Kept}

-- What is kept is what the history says. There is room for the end of each open request, and the free lanes are those that none of them has.
pub record IsKept (log : List Entry) (sizes : Sizes) (k : Kept) : Type 0 where
  pub entries : k.book.entries ≡ log
  pub room : length (open_begins log) ≤ k.book.room
  pub begun : k.begun ≡ length (begins log)
  pub lanes : k.free.lanes ≡ sizes.lanes
  pub falls : Falls k.free.free
  pub free : (lane : ℕ) → is_among k.free.free lane ≡ (nat_lt lane sizes.lanes && not (has_lane log lane))
  pub each_lane : length k.free.free + length (open_begins log) ≡ sizes.lanes
  pub holds : HoldsLog k.held log sizes
  pub fit : length (latches_held log) ≤ sizes.latches
  pub few : (b : Begin) → Contains (begins log) b → length b.request.latches ≤ LIMIT

-- A desk between two calls: its sizes are within their bounds and its board's, each lane's pass was given, and the history is legal.
pub record Rests (seat : DeskSays) (sizes : Sizes) (k : Kept) : Type 0 where
  pub bounds : bad_size sizes ≡ None
  pub same_sizes : seat.sizes ≡ sizes
  pub given : seat.given ≡ sizes.lanes
  pub legal : IsLegal seat.log sizes
  pub kept : IsKept seat.log sizes k
