use Rattle.std.proofs.Common.{◌+◌, ◌*◌, ◌≤◌, length}
use Rattle.held_latches.specs.Content.{AllApart, Content, read_items}
use Rattle.held_latches.specs.Scopes.{Around, Flushing, ScopeHas}
use Rattle.held_latches.specs.Steps.{SamePool, free_rows}
use Rattle.held_latches.proofs.scopes.ScopeTrees.flush.Given as goal

abbrev pub invariant-loop : goal.invariant-loop
invariant-loop l = record {
  same : SamePool l.fn.pool l.pool;
  flushing : (c : Content) (a : Around) → ScopeHas l.fn.pool l.fn.self c a → AllApart (read_items c) → length c.reads + length c.pending ≤ 8190
      → 7 * length c.pending ≤ free_rows l.fn.pool → (d : Content) × Flushing l.fn.pool l.pool l.fn.self l.self c d a;
}

abbrev pub decreases-loop : goal.decreases-loop
decreases-loop l = l.self.pending.len
