use Rattle.std.proofs.Common.{◌∙◌, ◌+◌, ◌++◌, drop, ap}
use Rattle.std.specs.List.{flat_map}
use Rattle.latch_model.specs.Histories.{in_waiting_order, met_by}
use Rattle.latch_shots.proofs.Staying.{AreShots-stays}
use Rattle.shot_walks.proofs.Orders.{meets_next}
use Rattle.shot_walks.proofs.first.first_met.Goals as goal

pub returns-in-Some-clause-first : goal.returns-in-Some-clause-first
returns-in-Some-clause-first c = λ s h.
    let ls = c.args.latches.now in
    let later = flat_map (met_by s) (drop (c.loop-k.k + 1) (in_waiting_order ls)) in
    let shown = AreShots-stays c.args.shots.now c.loop-k.shots s c.loop-k.invariant.same h in
    let (x, rest, first, met) = c.in-Some.ensures.first s shown in
    let next = meets_next s ls c.args.order.now c.loop-k.k c.index-latches-order.result c.requires.order c.loop-k-test.true c.index-latches-order.is in
    (x, rest ++ later, c.loop-k.invariant.none s h ∙ next ∙ ap (λ xs. xs ++ later) first, met)

pub loop-k-preserved : goal.loop-k-preserved
loop-k-preserved c = record {
  same = c.first_met.ensures.same ∙ c.loop-k.invariant.same;
  none = λ s h.
      let ls = c.args.latches.now in
      let later = flat_map (met_by s) (drop (c.loop-k.k + 1) (in_waiting_order ls)) in
      let shown = AreShots-stays c.args.shots.now c.loop-k.shots s c.loop-k.invariant.same h in
      let next = meets_next s ls c.args.order.now c.loop-k.k c.index-latches-order.result c.requires.order c.loop-k-test.true c.index-latches-order.is in
      c.loop-k.invariant.none s h ∙ next ∙ ap (λ xs. xs ++ later) (c.in_default.ensures.first s shown);
}
