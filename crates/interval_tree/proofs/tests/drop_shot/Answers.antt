use Rattle.std.proofs.Common.{sym, subst}
use Rattle.interval_tree.specs.TestTrees.{Growing, HasShot, ShotsStand, without_shot}
use Rattle.interval_tree.proofs.TestShots.{growing-dropped, shot-held, shots-dropped}
use Rattle.interval_tree.proofs.tests.drop_shot.Goals as goal

pub drop_ref-requires-clause-reference : goal.drop_ref-requires-clause-reference
drop_ref-requires-clause-reference c =
    let (n, roots, g, has) = c.requires.growing in
    shot-held c.args.seat.now.view c.args.tree.now roots c.in-Some.root g.shots (subst (λ r. HasShot r roots) c.in-Some.is has)

pub returns-in-Some-clause-growing : goal.returns-in-Some-clause-growing
returns-in-Some-clause-growing c = λ n roots g has.
    subst (λ r. Growing c.args.rows.now c.drop_ref.new.seat c.drop_ref.new.chain c.args.tree.now n (without_shot r roots)) (sym c.in-Some.is)
    (growing-dropped c.args.rows.now c.args.seat.now c.drop_ref.new.seat c.args.chain.now c.drop_ref.new.chain c.args.tree.now n roots c.in-Some.root g
    (subst (λ r. HasShot r roots) c.in-Some.is has) c.known.ensures c.drop_ref.ensures.same.0 c.drop_ref.ensures.refs c.drop_ref.ensures.chain)

pub returns-in-Some-clause-others : goal.returns-in-Some-clause-others
returns-in-Some-clause-others c = λ n roots g has.
    subst (λ r. ShotsStand (without_shot r roots) c.args.seat.now.view c.drop_ref.new.seat.view) (sym c.in-Some.is)
    (shots-dropped c.args.seat.now.view c.drop_ref.new.seat.view c.args.tree.now roots c.in-Some.root g.shots
    (subst (λ r. HasShot r roots) c.in-Some.is has) c.known.ensures c.drop_ref.ensures.refs)
