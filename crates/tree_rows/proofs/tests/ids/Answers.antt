use Rattle.std.proofs.Common.{ap, ◌∙◌}
use Rattle.row_pool.specs.SeatState.{SeatState}
use Rattle.latch_item.specs.Items.{item_of}
use Rattle.overlap_iter.specs.Walks.{root_of}
use Rattle.overlap_iter.proofs.Frames.{root-stays, has-item}
use Rattle.overlap_iter.proofs.WholeWalks.{shot-root}
use Rattle.tree_rows.proofs.tests.ids.Goals as goal

pub next-requires-clause-walk : goal.next-requires-clause-walk
next-requires-clause-walk c =
    let (xs, o) = c.requires.shot in
    let shot = c.args.shot.now in
    let root = root_of c.args.seat.now.view shot.root in
    let s = c.loop-item.invariant.walk xs o in
    let up = root-stays c.args.seat.now.view c.loop-item.seat.view root c.loop-item.invariant.view
    (shot-root c.args.seat.now.view shot.root shot.height xs o) in
    (root, s.0, s.1, up, s.2)

pub item_facts-requires-clause-item : goal.item_facts-requires-clause-item
item_facts-requires-clause-item c =
    let (xs, o) = c.requires.shot in
    let shot = c.args.shot.now in
    let root = root_of c.args.seat.now.view shot.root in
    let s = c.loop-item.invariant.walk xs o in
    let up = root-stays c.args.seat.now.view c.loop-item.seat.view root c.loop-item.invariant.view
    (shot-root c.args.seat.now.view shot.root shot.height xs o) in
    let n = c.in-Some.ensures.next root s.0 s.1 up s.2 in (
      item_of n.item,
      has-item c.next.new.seat.view root n.item c.in-Some.item (root-stays c.loop-item.seat.view c.next.new.seat.view root c.next.ensures.same.1 up)
          n.inside n.here n.latch,
    )

pub loop-item-preserved : goal.loop-item-preserved
loop-item-preserved c = record {
  table = ap (λ (s : SeatState). s.table) c.item_facts.ensures.same ∙ c.next.ensures.same.0 ∙ c.loop-item.invariant.table;
  view = ap (λ (s : SeatState). s.view) c.item_facts.ensures.same ∙ c.next.ensures.same.1 ∙ c.loop-item.invariant.view;
  walk = λ xs o.
      let s = c.loop-item.invariant.walk xs o in
      let shot = c.args.shot.now in
      let root = root_of c.args.seat.now.view shot.root in
      let up = root-stays c.args.seat.now.view c.loop-item.seat.view root c.loop-item.invariant.view
      (shot-root c.args.seat.now.view shot.root shot.height xs o) in
      let n = c.in-Some.ensures.next root s.0 s.1 up s.2 in
      (n.rest, n.walks.work, n.walks.walks);
}
