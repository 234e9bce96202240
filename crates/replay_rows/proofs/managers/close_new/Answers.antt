use Rattle.replay_rows.proofs.Passes.{all_fresh}
use Rattle.replay_rows.proofs.managers.close_new.Goals as goal

pub close-requires : goal.close-requires
close-requires g c = all_fresh g.N.Making.made c.args.passes.items c.requires.passes
