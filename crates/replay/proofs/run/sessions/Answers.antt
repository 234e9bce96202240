use Rattle.replay.proofs.Closing.{all-fresh}
use Rattle.replay.proofs.run.sessions.Goals as goal

pub crew-requires-clause-fresh : goal.crew-requires-clause-fresh
crew-requires-clause-fresh g c κs within k d b = all-fresh g.N.Making.made.core.signals 64 c.args.passes.now c.requires.passes k d b
