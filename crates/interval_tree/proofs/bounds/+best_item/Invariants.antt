use Rattle.interval_tree.proofs.bounds.+best_item.Given as goal

abbrev pub decreases-best_item : goal.decreases-best_item
decreases-best_item l = l.n
