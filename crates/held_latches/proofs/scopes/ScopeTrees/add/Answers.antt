use Rattle.held_latches.proofs.Adding.{added-read, added-write}
use Rattle.held_latches.proofs.scopes.ScopeTrees.add.Goals as goal

pub returns-in-Read-clause-added : goal.returns-in-Read-clause-added
returns-in-Read-clause-added c = λ d a h w r aw ar many.
    let (e, o) = c.add_read.ensures.added d a h r ar in
    (e, rw c.in-Read.is (added-read c.args.pool.now c.add_read.new.pool c.args.self.now c.add_read.new.self d e a c.add_read.result _ aw o))

pub returns-in-Write-clause-added : goal.returns-in-Write-clause-added
returns-in-Write-clause-added c = λ d a h w r aw ar many.
    let (e, o) = c.add_write.ensures.added d a h w aw many in
    (e, rw c.in-Write.is (added-write c.args.pool.now c.add_write.new.pool c.args.self.now c.add_write.new.self d e a c.add_write.result _ ar o))
