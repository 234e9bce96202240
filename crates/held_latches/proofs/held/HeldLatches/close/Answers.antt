use Rattle.held_latches.proofs.Counting.{all-free}
use Rattle.held_latches.proofs.held.HeldLatches.close.Goals as goal

pub whole-requires-clause-first : goal.whole-requires-clause-first
whole-requires-clause-first c = let a = all-free c.args.self c.requires.holds in (a.first, a.out, a.refs)

pub whole-requires-clause-all : goal.whole-requires-clause-all
whole-requires-clause-all c = let a = all-free c.args.self c.requires.holds in (a.free, a.chained, a.all)
