use Rattle.std.proofs.Common.{length}
use Rattle.replay.proofs.crew.+crew+fn-crew-join_mut+arg2+fn-crew-join_mut+arg3.Given as goal

abbrev pub decreases-join_mut+arg2 : goal.decreases-join_mut+arg2
decreases-join_mut+arg2 g l = length l.front.now

abbrev pub decreases-join_mut+arg3 : goal.decreases-join_mut+arg3
decreases-join_mut+arg3 g l = length l.back.now

abbrev pub decreases-crew : goal.decreases-crew
decreases-crew g l = length l.passes.now
