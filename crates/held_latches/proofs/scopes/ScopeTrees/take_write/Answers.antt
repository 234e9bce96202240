use Rattle.held_latches.proofs.OneLatch.{can-take-write, took-write}
use Rattle.held_latches.proofs.scopes.ScopeTrees.take_write.Goals as goal

pub shrink-requires-clause-shrinks : goal.shrink-requires-clause-shrinks
shrink-requires-clause-shrinks c =
    let (d, a, it, h, among, here) = c.requires.takes in
    (_, _, _, _, _, can-take-write c.args.pool.now c.args.self.now d a it c.args.row h among here)

pub returns-clause-taken : goal.returns-clause-taken
returns-clause-taken c = λ d a it h all among here.
    took-write c.args.pool.now c.shrink.new.self c.args.self.now c.shrink.new.tree d a it h all
    (c.shrink.ensures.shrunk _ _ _ _ _ (can-take-write c.args.pool.now c.args.self.now d a it c.args.row h among here))
