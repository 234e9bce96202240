use Rattle.std.proofs.Common.{◌≡◌, ◌≤◌, List}
use Rattle.row_pool.specs.Trees.{Tree}
use Rattle.overlap_iter.specs.Walks.{steps_left}
use Rattle.latch_shots.specs.Walks.{Among, meeting}
use Rattle.latch_shots.proofs.walk.Walk.next_among.Given as goal

abbrev pub invariant-loop-row : goal.invariant-loop-row
invariant-loop-row l = record {
  table : l.seat.table ≡ l.fn.seat.table;
  view : l.seat.view ≡ l.fn.seat.view;
  access : l.self.access ≡ l.fn.self.access;
  less : steps_left l.self.cursor ≤ steps_left l.fn.self.cursor;
  walk : (xs : List Tree) → Among l.fn.seat.view l.fn.self.cursor l.asked.span xs
      → (rest : List Tree) × Among l.seat.view l.self.cursor l.asked.span rest × (meeting l.own l.asked l.fn.self.access xs ≡ meeting l.own l.asked l.fn.self.access rest);
}

abbrev pub decreases-loop-row : goal.decreases-loop-row
decreases-loop-row l = steps_left l.self.cursor
