use Rattle.tree_shrink.proofs.links.+shift_down.Given as goal

abbrev pub decreases-shift_down : goal.decreases-shift_down
decreases-shift_down l = l.n
