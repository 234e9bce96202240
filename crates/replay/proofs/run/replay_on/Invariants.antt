use Rattle.waiter.specs.Says.{id_of}
use Rattle.replay.proofs.run.replay_on.Given as goal

-- The making is that of the desk which was made.
abbrev pub ghosts-within : goal.ghosts-within
ghosts-within g a = record { made = record { core = id_of a.core; sizes = a.core.board.sizes } }
