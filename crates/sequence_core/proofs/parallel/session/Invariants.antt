use Rattle.std.proofs.Common.{◌≡◌}
use Rattle.signal_board.specs.Rule.{open_count}
use Rattle.sequence_core.proofs.parallel.session.Given as goal

abbrev pub invariant-loop-round : goal.invariant-loop-round
invariant-loop-round g l = (l.pass.table ≡ l.fn.pass.table) × (l.pass.p.who ≡ l.fn.pass.p.who) × (open_count l.pass.p.mine ≡ 0)
