use Rattle.std.proofs.Common.{◌≡◌, ℕ, ◌-◌, length}
use Rattle.span_key.specs.declared.scopes.Scope.TheVariants.{Global, Local}
use Rattle.latch_model.specs.Histories.{Snapshot}
use Rattle.held_latches.specs.Holding.{MayInsert, size_of, slots_of, table_of, writer_of}
use Rattle.held_latches.proofs.Inserting.{came-from}
use Rattle.held_latches.proofs.held.HeldLatches.insert.Given as goal

abbrev pub invariant-loop-passed : goal.invariant-loop-passed
invariant-loop-passed l = record {
  table : table_of l.self ≡ table_of l.fn.self;
  slots : slots_of l.self ≡ slots_of l.fn.self;
  size : size_of l.self ≡ size_of l.fn.self;
  writers : (writer_of l.self Global ≡ writer_of l.fn.self Global) × (writer_of l.self Local ≡ writer_of l.fn.self Local);
  came : (s : Snapshot) (n more : ℕ) → MayInsert l.fn.self s n more l.id l.lane (length l.latches)
      → MayInsert l.self (came-from l.id l.lane (length l.latches - l.passed) l.latches s) n more l.id l.lane (length l.latches - l.passed);
}
