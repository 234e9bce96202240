-- What a request captured, as shots of trees.
use Rattle.std.specs.Prelude.{◌≡◌, ℕ, ◌≤◌, true, List, [], ◌∷◌}
use Rattle.std.specs.List.{All}
use Rattle.span_key.specs.declared.scopes.Scope.TheVariants.{Global, Local}
use Rattle.latch_model.specs.Histories.{HeldLatch, Snapshot}
use Rattle.latch_model.specs.Latches.{in_scope}
use Rattle.latch_model.specs.declared.latch.Access.TheVariants.{Read, Write}
use Rattle.row_pool.specs.Trees.{Tree}
use Rattle.row_pool.specs.SeatView.{SeatView}
use Rattle.latch_item.specs.declared.shot.Shot.{Shot}
use Rattle.latch_shots.specs.Held.{held_in, others}
use Rattle.latch_shots.specs.Roots.{Root, AreRoots}

-- the root of a shot with these items
abbrev pub root_of : Shot → List Tree → Root
root_of shot items = record { row = shot.root; height = shot.height; items = items }

-- The references of a seat that was split off are just those to the roots of these four shots, and their items but for those of the request itself are the
-- latches of the snapshot, list by list.
pub record Show (v : SeatView) (own : ℕ) (global_reads global_writes local_reads local_writes : Shot) (s : Snapshot) : Type 0 where
  pub split_off : 2 ≤ v.number
  pub alone : v.owned ≡ []
  pub items_global_reads : List Tree
  pub items_global_writes : List Tree
  pub items_local_reads : List Tree
  pub items_local_writes : List Tree
  pub roots : AreRoots (root_of global_reads items_global_reads ∷ root_of global_writes items_global_writes
      ∷ root_of local_reads items_local_reads ∷ root_of local_writes items_local_writes ∷ []) v.refs
  pub are_global_reads : s.global_reads ≡ others own (held_in Read items_global_reads)
  pub are_global_writes : s.global_writes ≡ others own (held_in Write items_global_writes)
  pub are_local_reads : s.local_reads ≡ others own (held_in Read items_local_reads)
  pub are_local_writes : s.local_writes ≡ others own (held_in Write items_local_writes)
  pub global_scope : All (λ (x : HeldLatch). in_scope Global x.latch ≡ true) s.global_reads
      × All (λ (x : HeldLatch). in_scope Global x.latch ≡ true) s.global_writes
  pub local_scope : All (λ (x : HeldLatch). in_scope Local x.latch ≡ true) s.local_reads
      × All (λ (x : HeldLatch). in_scope Local x.latch ≡ true) s.local_writes
