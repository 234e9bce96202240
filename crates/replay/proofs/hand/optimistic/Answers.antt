use Rattle.latch_model.specs.declared.latch.Mode.TheVariants.{Optimistic}
use Rattle.replay.proofs.Acquired.{optimistic-stands}
use Rattle.replay.proofs.Refusals.{declined_at_place, declined_for}
use Rattle.replay.proofs.hand.optimistic.Goals as goal

pub returns-in-Ok-clause-stands : goal.returns-in-Ok-clause-stands
returns-in-Ok-clause-stands g c bs line policy turns latches is s =
    optimistic-stands g.N.Making.made c.args.pass.now c.optimistic.new.pass bs line policy turns latches c.args.request s is c.in-Ok.optimist
    c.in-Ok.ensures.began c.in-Ok.ensures.unchecked

pub run_fault-requires : goal.run_fault-requires
run_fault-requires g c =
    declined_at_place g.N.Making.made c.args.pass.now Optimistic c.args.request c.in-Err.refusal.fault c.optimistic.new.pass c.in-Err.ensures.declined
    c.requires.sizes c.requires.few

pub returns-in-Err-clause-stops : goal.returns-in-Err-clause-stops
returns-in-Err-clause-stops g c =
    declined_for g.N.Making.made c.args.pass.now Optimistic c.args.request c.in-Err.refusal.fault c.optimistic.new.pass c.in-Err.ensures.declined
    c.run_fault.result c.run_fault.ensures
