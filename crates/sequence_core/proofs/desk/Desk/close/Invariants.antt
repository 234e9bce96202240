use Rattle.std.proofs.Common.{vec_len}
use Rattle.sequence_core.proofs.Closing.{Retires}
use Rattle.sequence_core.proofs.desk.Desk.close.Given as goal

abbrev pub invariant-loop-pass : goal.invariant-loop-pass
invariant-loop-pass l = Retires l.board.table l.initial.seat l.initial.passes.items l.seat l.passes.items

abbrev pub decreases-loop-pass : goal.decreases-loop-pass
decreases-loop-pass l = vec_len l.passes
