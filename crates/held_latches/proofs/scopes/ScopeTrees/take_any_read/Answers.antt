use Rattle.held_latches.proofs.Taken.{in-list, in-tree, taken-pending, taken-read}
use Rattle.held_latches.proofs.scopes.ScopeTrees.take_any_read.Goals as goal

pub take_read-requires-clause-takes : goal.take_read-requires-clause-takes
take_read-requires-clause-takes c =
    let (d, a, x, h, stands, is) = c.requires.takes in
    let (t, among, here, same) = in-tree c.args.self.now d c.args.row c.args.id x stands is c.if-id-self.true in (d, a, t, h, among, here)

pub take_pending-requires-clause-takes : goal.take_pending-requires-clause-takes
take_pending-requires-clause-takes c =
    let (d, a, x, h, stands, is) = c.requires.takes in
    let (p, listed, here, same) = in-list c.args.self.now d c.args.row c.args.id x stands is c.if-id-self.false in (d, a, p, h, listed, here)

pub returns-then-id-self-clause-taken : goal.returns-then-id-self-clause-taken
returns-then-id-self-clause-taken c = λ d a x h stands is writes reads.
    let (t, among, here, same) = in-tree c.args.self.now d c.args.row c.args.id x stands is c.if-id-self.true in
    let (e, g) = c.take_read.ensures.taken d a t h reads among here in
    (e, taken-read c.args.pool.now c.take_read.new.pool c.args.self.now c.take_read.new.self d e a t x same writes g)

pub returns-else-id-self-clause-taken : goal.returns-else-id-self-clause-taken
returns-else-id-self-clause-taken c = λ d a x h stands is writes reads.
    let (p, listed, here, same) = in-list c.args.self.now d c.args.row c.args.id x stands is c.if-id-self.false in
    let (e, g) = c.take_pending.ensures.taken d a p h reads listed here in
    (e, taken-pending c.args.pool.now c.take_pending.new.pool c.args.self.now c.take_pending.new.self d e a p x same writes g)
