use Rattle.std.proofs.Common.{[], arith, subst}
use Rattle.interval_tree.specs.TestTrees.{Growing, with_shot}
use Rattle.interval_tree.proofs.TestShots.{has-newest, has-older, with-shot-long, without-newest, without-older}
use Rattle.interval_tree.proofs.tests.is_copied.Goals as goal
use Rattle.interval_tree.proofs.tests.is_copied.Goals.{After-take_shot-first, After-take_shot-second}

pub grow-requires-clause-growing : goal.grow-requires-clause-growing
grow-requires-clause-growing c = ([], c.in_ok-rows.ensures.growing, omega arith)

pub take_shot-first-requires : goal.take_shot-first-requires
take_shot-first-requires c =
    record { growing = (c.grow.new.chain, 30, [], c.grow.ensures.growing [] c.in_ok-rows.ensures.growing (omega arith), omega arith) }

first : (c : After-take_shot-first)
    → Growing c.in_ok-rows.rows c.take_shot-first.new.seat c.grow.new.chain c.grow.new.tree 30 (with_shot c.take_shot-first.result.root [])
first c = c.take_shot-first.ensures.growing c.grow.new.chain 30 [] (c.grow.ensures.growing [] c.in_ok-rows.ensures.growing (omega arith))

pub grow-requires-2-clause-growing : goal.grow-requires-2-clause-growing
grow-requires-2-clause-growing c =
    let root = c.take_shot-first.result.root in let few = with-shot-long root [] in
    (with_shot root [], first (goal.at.grow-requires-2-clause-growing c).After-take_shot-first, omega arith)

pub take_shot-second-requires : goal.take_shot-second-requires
take_shot-second-requires c =
    let root = c.take_shot-first.result.root in let few = with-shot-long root [] in
    let g = first (goal.at.take_shot-second-requires c).After-take_shot-first in
    record { growing = (c.grow-2.new.chain, 31, with_shot root [], c.grow-2.ensures.growing (with_shot root []) g (omega arith), omega arith) }

-- both shots, of which the older is given up first
second : (c : After-take_shot-second)
    → Growing c.in_ok-rows.rows c.take_shot-first.new.seat c.grow.new.chain c.grow.new.tree 30 (with_shot c.take_shot-first.result.root [])
    → Growing c.in_ok-rows.rows c.take_shot-second.new.seat c.grow-2.new.chain c.grow-2.new.tree 31
    (with_shot c.take_shot-second.result.root (with_shot c.take_shot-first.result.root []))
second c g =
    let root = c.take_shot-first.result.root in let few = with-shot-long root [] in
    c.take_shot-second.ensures.growing c.grow-2.new.chain 31 (with_shot root []) (c.grow-2.ensures.growing (with_shot root []) g (omega arith))

pub drop_shot-requires : goal.drop_shot-requires
drop_shot-requires c =
    let at = goal.at.drop_shot-requires c in
    let one = c.take_shot-first.result.root in let two = c.take_shot-second.result.root in
    record { growing = (31, with_shot two (with_shot one []), second at.After-take_shot-second (first at.After-take_shot-first), has-older one two []) }

pub drop_shot-requires-2 : goal.drop_shot-requires-2
drop_shot-requires-2 c =
    let at = goal.at.drop_shot-requires-2 c in
    let one = c.take_shot-first.result.root in let two = c.take_shot-second.result.root in
    record {
      growing = (
        31,
        with_shot two [],
        subst (Growing c.in_ok-rows.rows c.drop_shot.new.seat c.drop_shot.new.chain c.grow-2.new.tree 31) (without-older one two [])
            (c.drop_shot.ensures.growing 31 (with_shot two (with_shot one [])) (second at.After-take_shot-second (first at.After-take_shot-first))
            (has-older one two [])),
        has-newest two [],
      );
    }

pub finish-requires : goal.finish-requires
finish-requires c =
    let at = goal.at.finish-requires c in
    let one = c.take_shot-first.result.root in let two = c.take_shot-second.result.root in
    let g = subst (Growing c.in_ok-rows.rows c.drop_shot.new.seat c.drop_shot.new.chain c.grow-2.new.tree 31) (without-older one two [])
    (c.drop_shot.ensures.growing 31 (with_shot two (with_shot one [])) (second at.After-take_shot-second (first at.After-take_shot-first))
    (has-older one two [])) in
    record {
      growing = (
        31,
        subst (Growing c.in_ok-rows.rows c.drop_shot-2.new.seat c.drop_shot-2.new.chain c.grow-2.new.tree 31) (without-newest two [])
            (c.drop_shot-2.ensures.growing 31 (with_shot two []) g (has-newest two [])),
      );
    }
