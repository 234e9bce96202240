use Rattle.std.proofs.Common.{◌≡◌, ℕ, List}
use Rattle.row_pool.specs.Trees.{Tree}
use Rattle.latch_item.specs.Shape.{Refers}
use Rattle.overlap_iter.specs.Walks.{Walks, root_of, steps_left}
use Rattle.tree_rows.proofs.tests.ids.Given as goal

abbrev pub invariant-loop-item : goal.invariant-loop-item
invariant-loop-item l = record {
  table : l.seat.table ≡ l.fn.seat.table;
  view : l.seat.view ≡ l.fn.seat.view;
  walk : (xs : List Tree) → Refers l.fn.seat.view l.shot xs
      → (todo : List Tree) × (work : ℕ) × Walks l.span (root_of l.fn.seat.view l.shot.root) l.cursor todo work;
}

abbrev pub decreases-loop-item : goal.decreases-loop-item
decreases-loop-item l = steps_left l.cursor
