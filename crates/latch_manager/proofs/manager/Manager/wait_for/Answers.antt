use Rattle.latch_model.specs.declared.latch.Mode.TheVariants.{Look}
use Rattle.latch_manager.proofs.Acquires.{acquire-fails, looks-so}
use Rattle.latch_manager.proofs.manager.Manager.wait_for.Goals as goal

pub returns-in-Ok-wait-clause-looked : goal.returns-in-Ok-wait-clause-looked
returns-in-Ok-wait-clause-looked g c =
    looks-so g.N.Making.made c.args.pass.now c.sequence.new.pass c.release.new.pass c.args.request Look c.in-Ok.opened c.in-Ok.ensures.began
    c.waiting.result c.waiting.ensures c.in-Ok-wait.granted c.wait.new.pass c.id-id.result c.in-Ok-wait.ensures.granted.0
    c.in-Ok-wait.ensures.granted.1 c.id-id.ensures c.release.ensures.finished

pub returns-in-Err-wait-clause-failed : goal.returns-in-Err-wait-clause-failed
returns-in-Err-wait-clause-failed g c =
    acquire-fails g.N.Making.made c.args.pass.now c.sequence.new.pass c.wait.new.pass c.args.request Look c.in-Ok.opened c.in-Ok.ensures.began
    c.waiting.result c.waiting.ensures (g.P.Patience.refusals c.args.patience.now) (g.P.Patience.refusals c.wait.new.patience)
    (g.P.Patience.limit c.args.patience.now) c.in-Err-wait.fault c.acquire_fault.result c.acquire_fault.ensures c.in-Err-wait.ensures.failed
