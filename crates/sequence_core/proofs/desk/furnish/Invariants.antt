use Rattle.std.proofs.Common.{◌≡◌, ◌≤◌, vec_capacity}
use Rattle.sequence_core.specs.Says.{AreFresh}
use Rattle.sequence_core.proofs.desk.furnish.Given as goal

abbrev pub invariant-loop-given : goal.invariant-loop-given
invariant-loop-given l = record {
  seat : l.seat ≡ record l.fn.seat { given = l.given };
  passes : AreFresh l.board.table l.given l.passes.items;
  room : l.sizes.lanes ≤ vec_capacity l.passes;
}
