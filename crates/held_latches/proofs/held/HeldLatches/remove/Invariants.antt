use Rattle.std.proofs.Common.{◌≡◌, ℕ}
use Rattle.span_key.specs.declared.scopes.Scope.TheVariants.{Global, Local}
use Rattle.latch_model.specs.Histories.{Snapshot}
use Rattle.held_latches.specs.Holding.{HasSpare, HoldsOwn, size_of, slots_of, table_of, without_below, writer_of}
use Rattle.held_latches.specs.Taking.{OnlyOwn}
use Rattle.held_latches.proofs.held.HeldLatches.remove.Given as goal

abbrev pub invariant-loop-place : goal.invariant-loop-place
invariant-loop-place l = record {
  same : (table_of l.self ≡ table_of l.fn.self) × (slots_of l.self ≡ slots_of l.fn.self) × (size_of l.self ≡ size_of l.fn.self);
  writers : (writer_of l.self Global ≡ writer_of l.fn.self Global) × (writer_of l.self Local ≡ writer_of l.fn.self Local);
  held : (s : Snapshot) (n k : ℕ) → HasSpare l.fn.self s n k → HoldsOwn s l.id l.lane l.latches 0 → OnlyOwn s l.id l.latches
      → HasSpare l.self (without_below l.id l.place s) n k;
}
