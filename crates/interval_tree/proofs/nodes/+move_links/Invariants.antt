use Rattle.interval_tree.proofs.nodes.+move_links.Given as goal

abbrev pub decreases-move_links : goal.decreases-move_links
decreases-move_links l = l.n
