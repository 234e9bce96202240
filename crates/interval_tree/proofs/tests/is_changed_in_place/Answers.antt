use Rattle.std.proofs.Common.{[], arith, subst}
use Rattle.interval_tree.specs.TestTrees.{Growing, with_shot}
use Rattle.interval_tree.proofs.TestShots.{has-newest, without-newest}
use Rattle.interval_tree.proofs.tests.is_changed_in_place.Goals as goal
use Rattle.interval_tree.proofs.tests.is_changed_in_place.Goals.{After-grow, After-take_shot-first, After-drop_shot, After-take_shot-second, After-drop_shot-2}

pub grow-requires-clause-growing : goal.grow-requires-clause-growing
grow-requires-clause-growing c = ([], c.in_ok-rows.ensures.growing, omega arith)

grown : (c : After-grow) → Growing c.in_ok-rows.rows c.grow.new.seat c.grow.new.chain c.grow.new.tree 30 []
grown c = c.grow.ensures.growing [] c.in_ok-rows.ensures.growing (omega arith)

pub take_shot-first-requires : goal.take_shot-first-requires
take_shot-first-requires c = record { growing = (c.grow.new.chain, 30, [], grown (goal.at.take_shot-first-requires c).After-grow, omega arith) }

pub drop_shot-requires : goal.drop_shot-requires
drop_shot-requires c =
    let root = c.take_shot-first.result.root in
    let g = grown (goal.at.drop_shot-requires c).After-grow in
    record { growing = (30, with_shot root [], c.take_shot-first.ensures.growing c.grow.new.chain 30 [] g, has-newest root []) }

-- the first shot is given up
given_up : (c : After-drop_shot) → Growing c.in_ok-rows.rows c.take_shot-first.new.seat c.grow.new.chain c.grow.new.tree 30
    (with_shot c.take_shot-first.result.root [])
    → Growing c.in_ok-rows.rows c.drop_shot.new.seat c.drop_shot.new.chain c.grow.new.tree 30 []
given_up c g =
    let root = c.take_shot-first.result.root in
    subst (Growing c.in_ok-rows.rows c.drop_shot.new.seat c.drop_shot.new.chain c.grow.new.tree 30) (without-newest root [])
    (c.drop_shot.ensures.growing 30 (with_shot root []) g (has-newest root []))

pub grow-requires-2-clause-growing : goal.grow-requires-2-clause-growing
grow-requires-2-clause-growing c =
    let at = goal.at.grow-requires-2-clause-growing c in
    ([], given_up at.After-drop_shot (c.take_shot-first.ensures.growing c.grow.new.chain 30 [] (grown at.After-grow)), omega arith)

pub take_shot-second-requires : goal.take_shot-second-requires
take_shot-second-requires c =
    let at = goal.at.take_shot-second-requires c in
    let g = given_up at.After-drop_shot (c.take_shot-first.ensures.growing c.grow.new.chain 30 [] (grown at.After-grow)) in
    record { growing = (c.grow-2.new.chain, 31, [], c.grow-2.ensures.growing [] g (omega arith), omega arith) }

pub drop_shot-requires-2 : goal.drop_shot-requires-2
drop_shot-requires-2 c =
    let at = goal.at.drop_shot-requires-2 c in
    let root = c.take_shot-second.result.root in
    let g = given_up at.After-drop_shot (c.take_shot-first.ensures.growing c.grow.new.chain 30 [] (grown at.After-grow)) in
    record {
      growing = (
        31,
        with_shot root [],
        c.take_shot-second.ensures.growing c.grow-2.new.chain 31 [] (c.grow-2.ensures.growing [] g (omega arith)),
        has-newest root [],
      );
    }

pub finish-requires : goal.finish-requires
finish-requires c =
    let at = goal.at.finish-requires c in
    let root = c.take_shot-second.result.root in
    let g = given_up at.After-drop_shot (c.take_shot-first.ensures.growing c.grow.new.chain 30 [] (grown at.After-grow)) in
    record {
      growing = (
        31,
        subst (Growing c.in_ok-rows.rows c.drop_shot-2.new.seat c.drop_shot-2.new.chain c.grow-2.new.tree 31) (without-newest root [])
            (c.drop_shot-2.ensures.growing 31 (with_shot root [])
            (c.take_shot-second.ensures.growing c.grow-2.new.chain 31 [] (c.grow-2.ensures.growing [] g (omega arith))) (has-newest root [])),
      );
    }
