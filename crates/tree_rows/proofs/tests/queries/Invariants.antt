use Rattle.std.proofs.Common.{◌≡◌}
use Rattle.tree_rows.proofs.tests.queries.Given as goal

abbrev pub invariant-loop-q : goal.invariant-loop-q
invariant-loop-q l = record { table : l.seat.table ≡ l.fn.seat.table; view : l.seat.view ≡ l.fn.seat.view }
