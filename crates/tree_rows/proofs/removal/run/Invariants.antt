use Rattle.row_pool.specs.SeatState.{SameSeat}
use Rattle.tree_rows.specs.Shrinking.{HasPlanted}
use Rattle.tree_rows.proofs.removal.run.Given as goal

abbrev pub invariant-loop-k : goal.invariant-loop-k
invariant-loop-k l = record { stand : HasPlanted l.rows l.seat l.chain l.tree l.k; same_seat : SameSeat l.fn.seat.view l.seat.view }
