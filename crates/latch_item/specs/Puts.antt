-- Words that are put into a row which a seat owns.
use Rattle.std.specs.Prelude.{◌≡◌, ℕ, ◌+◌, ◌<◌, ◌≤◌}
use mathlib.Core.Option.{some}
use Rattle.row_pool.specs.Trees.{Entry}
use Rattle.row_pool.specs.SeatView.{SeatView}
use Rattle.row_pool.specs.SeatState.{OnlyEntryChanges}
use Rattle.row_pool.specs.Lists.{find}

-- the n words of a row from `from` on are known to hold f 0, f 1 and so on, and otherwise the entry d is as e was
pub record Holds (from n : ℕ) (f : ℕ → ℕ) (e d : Entry) : Type 0 where
  pub kind : d.kind ≡ e.kind
  pub own : d.own ≡ e.own
  pub linked : d.linked ≡ e.linked
  pub here : (i : ℕ) → i < n → find (from + i) d.known ≡ some (f i)
  pub others : (u : ℕ) → (from ≤ u → u < from + n → ⊥) → find u d.known ≡ find u e.known

-- of all that the seat has only these words of the row change
pub record Puts (v w : SeatView) (row from n : ℕ) (f : ℕ → ℕ) : Type 0 where
  pub only : OnlyEntryChanges row v w
  pub put : (e : Entry) → find row v.owned ≡ some e → (d : Entry) × (find row w.owned ≡ some d) × Holds from n f e d
