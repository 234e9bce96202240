use Rattle.script.proofs.Examples.{blocks_in_order, exchanged_blocks}
use Rattle.script.proofs.following.blocks_stand_in_order.Goals as goal

pub returns : goal.returns
returns c = record { in_order = blocks_in_order; exchanged = exchanged_blocks }
