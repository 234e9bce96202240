use Rattle.std.proofs.Common.{sym, subst}
use Rattle.latch_model.specs.declared.latch.Access.{Access}
use Rattle.held_latches.specs.Taking.{StandsIn, Taken}
use Rattle.held_latches.proofs.Taken.{taken-write}
use Rattle.held_latches.proofs.scopes.ScopeTrees.take.Goals as goal

pub take_write-requires-clause-takes : goal.take_write-requires-clause-takes
take_write-requires-clause-takes c =
    let (d, a, x, h, stands, is) = c.requires.takes in
    let (t, among, here, same) = subst (λ (k : Access). StandsIn c.args.self.now d k c.args.row x) c.in-Write.is stands in (d, a, t, h, among, here)

pub take_any_read-requires-clause-takes : goal.take_any_read-requires-clause-takes
take_any_read-requires-clause-takes c =
    let (d, a, x, h, stands, is) = c.requires.takes in
    (d, a, x, h, subst (λ (k : Access). StandsIn c.args.self.now d k c.args.row x) c.in-Read.is stands, is)

pub returns-in-Write-clause-taken : goal.returns-in-Write-clause-taken
returns-in-Write-clause-taken c = λ d a x h stands is writes reads.
    let (t, among, here, same) = subst (λ (k : Access). StandsIn c.args.self.now d k c.args.row x) c.in-Write.is stands in
    let (e, g) = c.take_write.ensures.taken d a t h writes among here in (
      e,
      subst (λ (k : Access). Taken c.args.pool.now c.take_write.new.pool c.args.self.now c.take_write.new.self d e a x k) (sym c.in-Write.is)
          (taken-write c.args.pool.now c.take_write.new.pool c.args.self.now c.take_write.new.self d e a t x same reads g),
    )

pub returns-in-Read-clause-taken : goal.returns-in-Read-clause-taken
returns-in-Read-clause-taken c = λ d a x h stands is writes reads.
    let read = subst (λ (k : Access). StandsIn c.args.self.now d k c.args.row x) c.in-Read.is stands in
    let (e, g) = c.take_any_read.ensures.taken d a x h read is writes reads in
    (e, subst (λ (k : Access). Taken c.args.pool.now c.take_any_read.new.pool c.args.self.now c.take_any_read.new.self d e a x k) (sym c.in-Read.is) g)
