use Rattle.std.proofs.Common.{◌∙◌, All, OnOk, subst}
use Rattle.sequence_core.specs.Says.{AreFresh}
use Rattle.replay.specs.Running.{FollowsIn}
use Rattle.replay.proofs.Closing.{fresh-whos}
use Rattle.replay.proofs.run.replay_on.Goals as goal

pub finish-history-requires-clause-whos : goal.finish-history-requires-clause-whos
finish-history-requires-clause-whos g c =
    c.within-core.ensures.whos ∙ fresh-whos c.in-Ok.core.board.table 64 c.in-Ok.passes.items
    (subst (λ k. AreFresh c.in-Ok.core.board.table k c.in-Ok.passes.items) c.requires.room.lanes c.in-Ok.ensures.passes)

pub returns-in-Ok-ran-clause-follows : goal.returns-in-Ok-ran-clause-follows
returns-in-Ok-ran-clause-follows g c =
    c.finish-history.ensures.follows c.args.script.now c.commands-keeps_the_rules.ensures.rules
    (subst (λ r. OnOk r (All (FollowsIn c.args.script.now) c.within-core.new.passes.items)) c.in-Ok-ran.is c.within-core.ensures.follows)
