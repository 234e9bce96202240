use Rattle.std.proofs.Common.{◌≡◌}
use Rattle.signal_board.specs.Rule.{open_count}
use Rattle.sequence_core.proofs.held_open.come_and_go.Given as goal

abbrev pub invariant-loop-round : goal.invariant-loop-round
invariant-loop-round g l = record {
  core : l.desk.core ≡ l.fn.desk.core;
  given : l.desk.given ≡ l.fn.desk.given;
  pass : (l.pass.table ≡ l.fn.pass.table) × (l.pass.p.who ≡ l.fn.pass.p.who);
  idle : open_count l.pass.p.mine ≡ 0;
}
