use Rattle.tree_shrink.proofs.descent.+remove_owned.Given as goal

abbrev pub decreases-remove_owned : goal.decreases-remove_owned
decreases-remove_owned l = l.height
