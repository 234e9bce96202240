use Rattle.signal_board.proofs.parallel.threads_share_a_board.Given as goal

abbrev pub ghosts-beside_each_other : goal.ghosts-beside_each_other
ghosts-beside_each_other g a = record { table = a.board.table }
