use Rattle.waiter.specs.Says.{id_of}
use Rattle.sequence_core.proofs.parallel.threads_share_a_desk.Given as goal

abbrev pub ghosts-beside_each_other : goal.ghosts-beside_each_other
ghosts-beside_each_other g a = record { core = id_of a.core }
