use Rattle.std.proofs.Common.{◌≡◌, List}
use Rattle.row_pool.specs.Trees.{Tree}
use Rattle.latch_item.specs.Shape.{Refers}
use Rattle.overlap_iter.specs.Walks.{root_of, steps_left}
use Rattle.overlap_iter.proofs.WholeWalks.{SoFar}
use Rattle.overlap_iter.proofs.whole.overlapping.Given as goal

abbrev pub invariant-loop-item : goal.invariant-loop-item
invariant-loop-item l = record {
  table : l.seat.table ≡ l.fn.seat.table;
  view : l.seat.view ≡ l.fn.seat.view;
  so_far : (xs : List Tree) → Refers l.fn.seat.view l.shot xs
      → SoFar l.span (root_of l.fn.seat.view l.shot.root) l.cursor l.items.items xs l.shot.height l.fn.seat.follows l.seat.follows;
}

abbrev pub decreases-loop-item : goal.decreases-loop-item
decreases-loop-item l = steps_left l.cursor
