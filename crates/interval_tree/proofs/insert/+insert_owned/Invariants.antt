use Rattle.interval_tree.proofs.insert.+insert_owned.Given as goal

abbrev pub decreases-insert_owned : goal.decreases-insert_owned
decreases-insert_owned l = l.height
