use Rattle.latch_shots.proofs.tests.close_all.Goals as goal

pub whole-requires : goal.whole-requires
whole-requires c = let g = c.requires.stand in record { first = (c.requires.first.0, c.requires.first.1, g.1.refs); all = (g.0, g.1.chain, g.1.all) }

pub close-requires : goal.close-requires
close-requires c = let g = c.requires.stand in record { table = g.1.table; first = c.requires.first; all = (g.0, g.1.chain, c.whole.ensures g.0 g.1.chain) }
