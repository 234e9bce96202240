use Rattle.std.proofs.Common.{◌∙◌, ◌+◌, ◌++◌, drop}
use Rattle.std.specs.List.{flat_map}
use Rattle.latch_model.specs.Histories.{in_waiting_order, met_by, met_in}
use Rattle.latch_shots.proofs.Staying.{AreShots-stays}
use Rattle.shot_walks.proofs.Numbering.{numbers, numbers_next}
use Rattle.shot_walks.proofs.Orders.{meets_next}
use Rattle.shot_walks.proofs.numbers.add_met.Goals as goal

pub loop-k-preserved : goal.loop-k-preserved
loop-k-preserved c = record {
  same = c.add_for.ensures.same ∙ c.loop-k.invariant.same;
  numbers = λ s h.
      let ls = c.args.latches.now in
      let l = c.index-latches-order.result in
      let k = c.loop-k.k in
      let all = c.args.ids.now.items ++ numbers (met_in s ls) in
      let left = flat_map (met_by s) (drop k (in_waiting_order ls)) in
      let later = flat_map (met_by s) (drop (k + 1) (in_waiting_order ls)) in
      let next = meets_next s ls c.args.order.now k l c.requires.order c.loop-k-test.true c.index-latches-order.is in
      let shown = AreShots-stays c.args.shots.now c.loop-k.shots s c.loop-k.invariant.same h in
      numbers_next all c.loop-k.ids.items c.add_for.new.ids.items left (met_by s l) later (c.loop-k.invariant.numbers s h) next
      (c.in_ok-add_for.ensures.added s shown);
}
