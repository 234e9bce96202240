use Rattle.interval_tree.proofs.nodes.+copy_links.Given as goal

abbrev pub decreases-copy_links : goal.decreases-copy_links
decreases-copy_links l = l.m
