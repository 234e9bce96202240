use Rattle.std.proofs.Common.{subst}
use Rattle.latch_model.specs.declared.latch.Mode.TheVariants.{Acquire}
use Rattle.latch_manager.specs.Acquiring.{AcquireFails}
use Rattle.latch_manager.specs.declared.manager.AcquireFault.{AcquireFault}
use Rattle.replay.proofs.Acquired.{acquire-cancelled, acquire-poisoned, acquires-stands}
use Rattle.replay.proofs.Refusals.{declined_at_place, declined_for}
use Rattle.replay.proofs.hand.acquire_with.Goals as goal

pub returns-in-Ok-clause-stands : goal.returns-in-Ok-clause-stands
returns-in-Ok-clause-stands g c bs line policy turns latches of is s =
    acquires-stands g.N.Making.made c.args.pass.now c.acquire.new.pass bs line policy turns latches c.args.request s is c.in-Ok.granted c.in-Ok.ensures.granted

pub returns-in-Err-Poisoned-clause-stands : goal.returns-in-Err-Poisoned-clause-stands
returns-in-Err-Poisoned-clause-stands g c bs line policy turns latches of is s =
    acquire-poisoned g.N.Making.made c.args.pass.now c.acquire.new.pass bs line policy turns latches c.args.request s is
    (g.P.Patience.refusals c.args.patience.now)
    (g.P.Patience.refusals c.acquire.new.patience) (g.P.Patience.limit c.args.patience.now) c.in-Err-Poisoned.field-0-0
    (subst
    (λ (x : AcquireFault). AcquireFails g.N.Making.made c.args.pass.now c.args.request Acquire (g.P.Patience.refusals c.args.patience.now)
    (g.P.Patience.refusals c.acquire.new.patience) (g.P.Patience.limit c.args.patience.now) x c.acquire.new.pass)
    c.in-Err-Poisoned.field-0-is c.in-Err-Poisoned.ensures.failed)

pub returns-clause-stands : goal.returns-clause-stands
returns-clause-stands g c bs line policy turns latches of is s =
    acquire-cancelled g.N.Making.made c.args.pass.now c.acquire.new.pass bs line policy turns latches c.args.request s is
    (g.P.Patience.refusals c.args.patience.now)
    (g.P.Patience.refusals c.acquire.new.patience) (g.P.Patience.limit c.args.patience.now) c.in-Err-Cancelled.field-0-0
    of (subst
    (λ (x : AcquireFault). AcquireFails g.N.Making.made c.args.pass.now c.args.request Acquire (g.P.Patience.refusals c.args.patience.now)
    (g.P.Patience.refusals c.acquire.new.patience) (g.P.Patience.limit c.args.patience.now) x c.acquire.new.pass)
    c.in-Err-Cancelled.field-0-is c.in-Err-Cancelled.ensures.failed)

pub run_fault-requires : goal.run_fault-requires
run_fault-requires g c =
    let failed = subst
    (λ (x : AcquireFault). AcquireFails g.N.Making.made c.args.pass.now c.args.request Acquire (g.P.Patience.refusals c.args.patience.now)
    (g.P.Patience.refusals c.acquire.new.patience) (g.P.Patience.limit c.args.patience.now) x c.acquire.new.pass)
    c.in-Err-Seq.field-0-is c.in-Err-Seq.ensures.failed in
    declined_at_place g.N.Making.made c.args.pass.now Acquire c.args.request c.in-Err-Seq.refusal.fault c.acquire.new.pass failed.0
    c.requires.sizes c.requires.few

pub returns-in-Err-Seq-clause-stops : goal.returns-in-Err-Seq-clause-stops
returns-in-Err-Seq-clause-stops g c =
    let failed = subst
    (λ (x : AcquireFault). AcquireFails g.N.Making.made c.args.pass.now c.args.request Acquire (g.P.Patience.refusals c.args.patience.now)
    (g.P.Patience.refusals c.acquire.new.patience) (g.P.Patience.limit c.args.patience.now) x c.acquire.new.pass)
    c.in-Err-Seq.field-0-is c.in-Err-Seq.ensures.failed in
    declined_for g.N.Making.made c.args.pass.now Acquire c.args.request c.in-Err-Seq.refusal.fault c.acquire.new.pass failed.0
    c.run_fault.result c.run_fault.ensures
