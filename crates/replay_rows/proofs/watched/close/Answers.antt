use Rattle.std.proofs.Common.{◌∙◌}
use Rattle.replay.proofs.Closing.{each-pass}
use Rattle.replay_rows.proofs.watched.close.Goals as goal

pub close-requires-clause-passes : goal.close-requires-clause-passes
close-requires-clause-passes c =
    each-pass 64 c.args.passes.items c.requires.whos c.args.desk (c.known.ensures.given ∙ c.requires.sizes.lanes) c.requires.rested
