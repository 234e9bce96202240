use Rattle.std.proofs.Common.{[]}
use Rattle.row_pool.proofs.eight_threads.take_two_back.Goals as goal

pub take_back-requires-2-clause-stand : goal.take_back-requires-2-clause-stand
take_back-requires-2-clause-stand c = let d = c.requires.stand in let h = c.take_back.ensures.stand [] d.0 d.1 in ([], h.0, h.1)

pub returns-clause-stand : goal.returns-clause-stand
returns-clause-stand c = let d = c.requires.stand in let h = c.take_back.ensures.stand [] d.0 d.1 in c.take_back-2.ensures.stand [] h.0 h.1
