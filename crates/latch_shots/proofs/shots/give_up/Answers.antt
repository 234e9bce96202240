use Rattle.latch_shots.proofs.Closing.{owns-more}
use Rattle.latch_shots.proofs.shots.give_up.Goals as goal

pub returns-clause-owns : goal.returns-clause-owns
returns-clause-owns c =
    owns-more c.args.seat.now.view c.drop_ref.new.seat.view c.args.chain.now c.drop_ref.new.chain c.requires.owns c.drop_ref.ensures.chain
