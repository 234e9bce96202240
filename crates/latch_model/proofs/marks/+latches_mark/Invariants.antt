use Rattle.std.proofs.Common.{length}
use Rattle.latch_model.proofs.marks.+latches_mark.Given as goal

abbrev pub decreases-latches_mark : goal.decreases-latches_mark
decreases-latches_mark l = length l.latches.now
