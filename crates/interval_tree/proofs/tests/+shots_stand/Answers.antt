use Rattle.std.proofs.Common.{◌≡◌, ◌+◌, ◌-◌, ◌*◌, ◌<◌, ◌≤◌, ℕ, List, length, true, ap, sym, subst, ◌∙◌, arith}
use Rattle.row_pool.specs.Changes.{tree_of}
use Rattle.row_pool.specs.Lists.{mem}
use Rattle.row_pool.specs.SeatView.{SeatView}
use Rattle.latch_item.specs.Shape.{Refers}
use Rattle.interval_tree.specs.TestTrees.{Growing, with_shot}
use Rattle.interval_tree.proofs.TestGrowing.{growing-same}
use Rattle.interval_tree.proofs.TestShots.{has-newest, has-still, refers-still, with-shot-long, without-newest}
use Rattle.interval_tree.proofs.tests.+shots_stand.Goals as goal
use Rattle.interval_tree.proofs.tests.+shots_stand.Goals.{After-list_shot-listed, After-list_shot-again}

ten : (length from to : ℕ) → length * 10 ≤ from → from ≤ to → to ≤ 1000 → length < 1000
ten length from to low upward most = omega arith

-- the seat once ten items more have come and their shot was listed
shown : (t : ℕ) (c : After-list_shot-listed t) (roots : List ℕ) → Growing c.args.rows.now c.args.seat.now c.args.chain.now c.args.tree.now c.args.from roots
    → length roots * 10 ≤ c.args.from → Growing c.args.rows.now c.list_shot-listed.new.seat c.grow-2.new.chain c.grow-2.new.tree (c.args.from + 10)
    (with_shot c.take_shot-shot.result.root roots)
shown t c roots g low =
    growing-same c.args.rows.now c.take_shot-shot.new.seat c.list_shot-listed.new.seat c.grow-2.new.chain c.grow-2.new.tree (c.args.from + 10)
    (with_shot c.take_shot-shot.result.root roots) c.list_shot-listed.ensures.same.0 c.list_shot-listed.ensures.same.1
    (c.take_shot-shot.ensures.growing c.grow-2.new.chain (c.args.from + 10) roots
    (c.grow-2.ensures.growing roots g (ten (length roots) c.args.from c.args.to low c.requires.range.0 c.requires.range.1)))

tens : (t : ℕ) (c : After-list_shot-listed t) (roots : List ℕ) → length roots * 10 ≤ c.args.from
    → length (with_shot c.take_shot-shot.result.root roots) * 10 ≤ c.args.from + 10
tens t c roots low = let a = with-shot-long c.take_shot-shot.result.root roots in omega arith

pub shots_stand-others_stand-requires : goal.shots_stand-others_stand-requires
shots_stand-others_stand-requires t c =
    let at = (goal.at.shots_stand-others_stand-requires t c).After-list_shot-listed in
    let (roots, g, low) = c.requires.growing in
    let enough = c.if-to-from-lt10.false in (
      let claim : c.args.to - c.args.from ≡ t = c.decreases in omega arith,
      ((with_shot c.take_shot-shot.result.root roots, shown t at roots g low, tens t at roots low), (omega arith, c.requires.range.1)),
    )

pub list_shot-again-requires-clause-table : goal.list_shot-again-requires-clause-table
list_shot-again-requires-clause-table t c =
    let at = (goal.at.list_shot-again-requires-clause-table t c).After-list_shot-listed in
    let (roots, g, low) = c.requires.growing in
    (c.shots_stand-others_stand.ensures.growing (with_shot c.take_shot-shot.result.root roots) (shown t at roots g low) (tens t at roots low)).table

pub list_shot-again-requires-clause-shot : goal.list_shot-again-requires-clause-shot
list_shot-again-requires-clause-shot t c =
    let at = (goal.at.list_shot-again-requires-clause-shot t c).After-list_shot-listed in
    let (roots, g, low) = c.requires.growing in let (xs, refers) = c.take_shot-shot.ensures.shot in
    let shot = c.take_shot-shot.result in (
      xs,
      refers-still c.list_shot-listed.new.seat.view c.shots_stand-others_stand.new.seat.view (with_shot shot.root roots) shot.root shot.height xs
          (has-newest shot.root roots)
          (c.shots_stand-others_stand.ensures.others (with_shot shot.root roots) (shown t at roots g low) (tens t at roots low))
          (subst (λ v. Refers v shot xs) (sym c.list_shot-listed.ensures.same.1) refers),
    )

-- the seat once all items have come and the shot was listed again
again : (t : ℕ) (c : After-list_shot-again t) (roots : List ℕ)
    → Growing c.args.rows.now c.list_shot-listed.new.seat c.grow-2.new.chain c.grow-2.new.tree (c.args.from + 10) roots → length roots * 10 ≤ c.args.from + 10
    → Growing c.args.rows.now c.list_shot-again.new.seat c.shots_stand-others_stand.new.chain c.shots_stand-others_stand.new.tree c.args.to roots
again t c roots g low =
    growing-same c.args.rows.now c.shots_stand-others_stand.new.seat c.list_shot-again.new.seat c.shots_stand-others_stand.new.chain
    c.shots_stand-others_stand.new.tree c.args.to roots c.list_shot-again.ensures.same.0 c.list_shot-again.ensures.same.1
    (c.shots_stand-others_stand.ensures.growing roots g low)

pub drop_shot-requires : goal.drop_shot-requires
drop_shot-requires t c =
    let at = (goal.at.drop_shot-requires t c).After-list_shot-listed in
    let (roots, g, low) = c.requires.growing in let root = c.take_shot-shot.result.root in
    record {
      growing = (
        c.args.to,
        with_shot root roots,
        again t (goal.at.drop_shot-requires t c).After-list_shot-again (with_shot root roots) (shown t at roots g low) (tens t at roots low),
        has-newest root roots,
      );
    }

pub returns-clause-growing : goal.returns-clause-growing
returns-clause-growing t c = λ roots g low.
    let at = (goal.at.returns-clause-growing t c).After-list_shot-listed in let root = c.take_shot-shot.result.root in
    subst (Growing c.args.rows.now c.drop_shot.new.seat c.drop_shot.new.chain c.shots_stand-others_stand.new.tree c.args.to) (without-newest root roots)
    (c.drop_shot.ensures.growing c.args.to (with_shot root roots)
    (again t (goal.at.returns-clause-growing t c).After-list_shot-again (with_shot root roots) (shown t at roots g low) (tens t at roots low))
    (has-newest root roots))

pub returns-clause-others : goal.returns-clause-others
returns-clause-others t c = λ roots g low q m.
    let root = c.take_shot-shot.result.root in
    let listed = (goal.at.returns-clause-others t c).After-list_shot-listed in
    c.drop_shot.ensures.others c.args.to (with_shot root roots)
    (again t (goal.at.returns-clause-others t c).After-list_shot-again (with_shot root roots) (shown t listed roots g low) (tens t listed roots low))
    (has-newest root roots) q (ap (mem q) (without-newest root roots) ∙ m)
    ∙ ap (λ (v : SeatView). tree_of q v.refs) c.list_shot-again.ensures.same.1
    ∙ c.shots_stand-others_stand.ensures.others (with_shot root roots) (shown t listed roots g low) (tens t listed roots low) q (has-still root roots q m)
    ∙ ap (λ (v : SeatView). tree_of q v.refs) c.list_shot-listed.ensures.same.1 ∙ c.take_shot-shot.ensures.others roots q m
    ∙ c.grow-2.ensures.others roots g (ten (length roots) c.args.from c.args.to low c.requires.range.0 c.requires.range.1) q m
