use Rattle.std.proofs.Common.{◌≡◌, ◌≤◌, ℕ, List}
use Rattle.row_pool.specs.Trees.{Tree}
use Rattle.overlap_iter.specs.Walks.{HasRoot, Walks, WalksWithin, steps_left}
use Rattle.overlap_iter.proofs.cursor.Cursor.next.Given as goal

abbrev pub invariant-loop-self : goal.invariant-loop-self
invariant-loop-self l = record {
  table : l.seat.table ≡ l.fn.seat.table;
  view : l.seat.view ≡ l.fn.seat.view;
  less : steps_left l.self ≤ steps_left l.fn.self;
  walks : (root : Tree) (todo : List Tree) (work : ℕ) → HasRoot l.fn.seat.view root → Walks l.span root l.fn.self todo work
      → WalksWithin l.span root l.self todo l.fn.seat.follows l.seat.follows work;
}

abbrev pub decreases-loop-self : goal.decreases-loop-self
decreases-loop-self l = steps_left l.self
