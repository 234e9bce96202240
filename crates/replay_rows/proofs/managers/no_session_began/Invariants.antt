use Rattle.waiter.specs.Says.{id_of}
use Rattle.replay_rows.proofs.managers.no_session_began.Given as goal

abbrev pub ghosts-close_new : goal.ghosts-close_new
ghosts-close_new g a = record { made = record { core = id_of a.core; sizes = a.core.board.sizes } }
