use Rattle.std.proofs.Common.{◌+◌, arith}
use Rattle.tree_rows.proofs.Shrinking.{has-later}
use Rattle.tree_rows.proofs.removal.change.Goals as goal

pub returns-then-many-eq0-clause-stand : goal.returns-then-many-eq0-clause-stand
returns-then-many-eq0-clause-stand c = c.come.ensures.stand c.args.k c.requires.stand (omega arith)

pub returns-clause-stand : goal.returns-clause-stand
returns-clause-stand c =
    has-later c.args.rows.now c.go.new.seat c.go.new.chain c.go.new.tree c.args.k (c.args.k + 1)
    (c.go.ensures.stays.stand c.args.k c.requires.stand) (omega arith)
