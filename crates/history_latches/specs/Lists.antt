-- What a snapshot lists of held latches.
use Rattle.std.specs.Prelude.{◌&&◌, List, map}
use Rattle.std.specs.List.{filter}
use Rattle.span_key.specs.declared.scopes.Scope.{Scope}
use Rattle.span_key.specs.declared.scopes.Scope.TheVariants.{Global, Local}
use Rattle.latch_model.specs.Histories.{HeldLatch, Snapshot, in_order, listed}
use Rattle.latch_model.specs.Latches.{has_access, in_scope}
use Rattle.latch_model.specs.declared.latch.Access.{Access}
use Rattle.latch_model.specs.declared.latch.Access.TheVariants.{Read, Write}

-- of some held latches, those of one scope and access as a snapshot lists them
abbrev pub listed_in : List HeldLatch → Scope → Access → List HeldLatch
listed_in xs scope access = in_order (map listed (filter (λ x. in_scope scope x.latch && has_access access x.latch) xs))

-- all of them, in four lists
abbrev pub lists_of : List HeldLatch → Snapshot
lists_of xs = record {
  global_reads = listed_in xs Global Read;
  global_writes = listed_in xs Global Write;
  local_reads = listed_in xs Local Read;
  local_writes = listed_in xs Local Write;
}
