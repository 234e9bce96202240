use Rattle.std.proofs.Common.{sym, subst}
use Rattle.waiter.specs.Says.{WaitingSays}
use Rattle.latch_manager.specs.Acquiring.{WaitEnds}
use Rattle.latch_manager.specs.Waiting.{WaitGrants}
use Rattle.signal_board.specs.Says.{PassSays}
use Rattle.replay.specs.Sessions.{Holding, Standing}
use Rattle.replay.proofs.Acquired.{wait-ends}
use Rattle.replay.proofs.Waits.{turned-holds}
use Rattle.replay.proofs.hand.wait_with.Goals as goal

pub returns-in-Ok-clause-stands : goal.returns-in-Ok-clause-stands
returns-in-Ok-clause-stands g c bs ds k turns of grows waits quiet has s =
    subst (λ (p : PassSays). Standing g.N.Making.made.core p.p ds (Holding c.in-Ok.granted)) (sym c.in-Ok.ensures.granted.1)
    (turned-holds g.N.Making.made.core c.args.pass.now.p bs ds k grows waits quiet c.args.optimist s c.in-Ok.granted
    (subst (λ (w : WaitingSays). WaitGrants w c.in-Ok.granted) c.into_waiting.ensures c.in-Ok.ensures.granted.0))

pub returns-in-Err-clause-stands : goal.returns-in-Err-clause-stands
returns-in-Err-clause-stands g c bs ds k turns of grows waits quiet has s =
    wait-ends g.N.Making.made c.args.pass.now c.wait.new.pass bs ds k grows waits quiet c.args.optimist s (g.P.Patience.refusals c.args.patience.now)
    (g.P.Patience.refusals c.wait.new.patience) (g.P.Patience.limit c.args.patience.now) turns of has c.in-Err._fault
    (subst
    (λ (w : WaitingSays). WaitEnds g.N.Making.made c.args.pass.now w (g.P.Patience.refusals c.args.patience.now)
    (g.P.Patience.refusals c.wait.new.patience) (g.P.Patience.limit c.args.patience.now) c.in-Err._fault c.wait.new.pass)
    c.into_waiting.ensures c.in-Err.ensures.failed)
