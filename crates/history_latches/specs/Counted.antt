-- How many latches of a scope are held in a history.
use Rattle.std.specs.Prelude.{List}
use Rattle.span_key.specs.declared.scopes.Scope.{Scope}
use Rattle.latch_model.specs.Metrics.{held_count, pending_count}
use Rattle.latch_model.specs.declared.history.Entry.{Entry}
use Rattle.latch_model.specs.declared.latch.Access.TheVariants.{Read, Write}
use Rattle.held_latches.specs.declared.counts.Counted.{Counted}

-- how many reads of the scope are held, how many of these are pending, and how many writes are held
abbrev pub counts_of : Scope → List Entry → Counted
counts_of scope log = record { read = held_count scope Read log; pending = pending_count scope log; write = held_count scope Write log }
