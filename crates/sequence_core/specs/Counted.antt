-- What metrics count.
use Rattle.std.specs.Prelude.{ℕ, List}
use Rattle.span_key.specs.declared.scopes.Scope.{Scope}
use Rattle.span_key.specs.declared.scopes.Scope.TheVariants.{Global, Local}
use Rattle.latch_model.specs.Metrics.{held_count, pending_count}
use Rattle.latch_model.specs.declared.history.Entry.{Entry}
use Rattle.latch_model.specs.declared.latch.Access.TheVariants.{Read, Write}
use Rattle.sequence_core.specs.declared.metrics.Counts.{Counts}
use Rattle.sequence_core.specs.declared.metrics.Metrics.{Metrics}

-- how many reads of a scope are held, how many of these are pending, and how many writes are held
abbrev pub counts_of : Scope → List Entry → Counts
counts_of scope h = record { read = held_count scope Read h; pending = pending_count scope h; write = held_count scope Write h }

-- the counts of both scopes, and the free rows
abbrev pub metrics_of : List Entry → ℕ → Metrics
metrics_of h free = record { global = counts_of Global h; local = counts_of Local h; free = free }
