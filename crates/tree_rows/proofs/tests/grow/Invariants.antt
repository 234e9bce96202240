use Rattle.std.proofs.Common.{ℕ, ◌≤◌, List}
use Rattle.row_pool.specs.Trees.{Tree as Row}
use Rattle.row_pool.specs.SeatState.{SameSeat}
use Rattle.tree_rows.specs.Planting.{Planted}
use Rattle.tree_rows.proofs.tests.grow.Given as goal

abbrev pub invariant-loop-i : goal.invariant-loop-i
invariant-loop-i l = record {
  stand : (rs : List ℕ) × (xs : List Row) × (m : ℕ) × Planted l.rows l.seat l.chain l.tree rs xs m × (m ≤ l.i);
  same_seat : SameSeat l.fn.seat.view l.seat.view;
}
