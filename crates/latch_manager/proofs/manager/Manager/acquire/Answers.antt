use Rattle.latch_model.specs.declared.latch.Mode.TheVariants.{Acquire}
use Rattle.latch_manager.proofs.Acquires.{acquire-fails}
use Rattle.latch_manager.proofs.manager.Manager.acquire.Goals as goal

pub returns-in-Err-wait-clause-failed : goal.returns-in-Err-wait-clause-failed
returns-in-Err-wait-clause-failed g c =
    acquire-fails g.N.Making.made c.args.pass.now c.sequence.new.pass c.wait.new.pass c.args.request Acquire c.in-Ok.opened c.in-Ok.ensures.began
    c.waiting.result c.waiting.ensures (g.P.Patience.refusals c.args.patience.now) (g.P.Patience.refusals c.wait.new.patience)
    (g.P.Patience.limit c.args.patience.now) c.in-Err-wait.fault c.acquire_fault.result c.acquire_fault.ensures c.in-Err-wait.ensures.failed
