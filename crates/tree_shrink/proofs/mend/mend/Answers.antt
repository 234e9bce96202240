use Rattle.std.proofs.Common.{arith, subst, ◌+◌, ◌-◌, ◌≡◌}
use Rattle.tree_shrink.specs.Steps.{IsPoor, Mends}
use Rattle.tree_shrink.proofs.mend.mend.Goals as goal

pub mend_left-requires-clause-poor : goal.mend_left-requires-clause-poor
mend_left-requires-clause-poor c =
    let e : c.args.i ≡ c.args.i - 1 + 1 = (let a = c.if-i-eq0.false in omega arith) in
    subst (λ j. IsPoor c.args.seat.now.view c.args.row c.args.child j c.args.n) e c.requires.poor

pub returns-else-i-eq0-clause-roomy : goal.returns-else-i-eq0-clause-roomy
returns-else-i-eq0-clause-roomy c =
    let e : c.args.i - 1 + 1 ≡ c.args.i = (let a = c.if-i-eq0.false in omega arith) in
    subst (λ j. Mends c.args.seat.now.view c.mend_left.new.seat.view c.args.row c.args.child j c.args.n c.mend_left.result.0 c.mend_left.result.1) e
    c.mend_left.ensures.roomy
