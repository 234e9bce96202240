use Rattle.std.proofs.Common.{◌∙◌}
use Rattle.replay.proofs.Closing.{fresh-whos}
use Rattle.replay_rows.proofs.watched.watched.Goals as goal

pub close-history-requires-clause-whos : goal.close-history-requires-clause-whos
close-history-requires-clause-whos g c = c.within-core.ensures.whos ∙ fresh-whos c.in-Ok.made.0.board.table 64 c.in-Ok.made.2.items c.in-Ok.ensures.passes
