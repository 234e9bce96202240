use Rattle.std.proofs.Common.{[], ◌∷◌}
use Rattle.interval_tree.proofs.Frames.{spends-self}
use Rattle.interval_tree.proofs.Splitting.{none-moved}
use Rattle.interval_tree.proofs.bounds.move_children.Goals as goal

pub returns-else-kind-eq3-clause-moved : goal.returns-else-kind-eq3-clause-moved
returns-else-kind-eq3-clause-moved c = none-moved c.args.seat.now.view c.args.from c.args.to (c.requires.none c.if-kind-eq3.false)

pub returns-else-kind-eq3-clause-spends : goal.returns-else-kind-eq3-clause-spends
returns-else-kind-eq3-clause-spends c = λ rs chain h. spends-self (c.args.from ∷ c.args.to ∷ []) rs c.args.seat.now.view chain h
