use Rattle.std.proofs.Common.{◌∙◌, refl, sym}
use Rattle.latch_shots.specs.Shots.{content_of}
use Rattle.shot_walks.proofs.Ends.{latches_stay, learns_both}
use Rattle.shot_walks.proofs.Looking.{LooksAt, looked-open, looked-past, looks-at, looks-waits}
use Rattle.shot_walks.proofs.Orders.{IsNext, is_next}
use Rattle.shot_walks.proofs.Standing.{finds-open-after}
use Rattle.shot_walks.proofs.place.Place.find_later.Goals as goal
use Rattle.shot_walks.proofs.place.Place.find_later.Goals.{After-begun-walk}

next : (c : After-begun-walk) → IsNext c.loop-k.seat.r c.loop-k.k c.index-latches-order.result
next c =
    let mine = c.requires.mine ∙ sym (latches_stay c.args.seat.now c.loop-k.seat c.loop-k.invariant.learns) in
    is_next c.loop-k.seat.r c.args.latches.now c.args.order.now c.loop-k.k c.index-latches-order.result mine c.requires.order c.loop-k-test.true
    c.index-latches-order.is

looked : (c : After-begun-walk)
    → LooksAt (content_of c.begun-walk.new.shots) c.begun-walk.result c.index-latches-order.result c.loop-k.seat.r c.loop-k.k
looked c =
    looks-at (content_of c.loop-k.shots) (content_of c.begun-walk.new.shots) (record c.loop-k.self { ask = c.loop-k.k }) c.take.result c.begun-walk.result
    c.index-latches-order.result c.loop-k.seat.r c.take.ensures.value (next c) c.begun-walk.ensures.walk c.loop-k.invariant.stands

pub next_open-requires-clause-walk : goal.next_open-requires-clause-walk
next_open-requires-clause-walk c =
    let o = looked (goal.at.next_open-requires-clause-walk c).After-begun-walk in
    (o.todo, o.meets, looks-waits _ _ _ _ _ o)

pub returns-in-Some-clause-finds : goal.returns-in-Some-clause-finds
returns-in-Some-clause-finds c =
    let at = (goal.at.returns-in-Some-clause-finds c).After-begun-walk in
    let o = looked at in
    let b = content_of c.loop-k.shots in
    let d = content_of c.begun-walk.new.shots in
    let e = content_of c.next_open.new.shots in
    let p = record c.loop-k.self { ask = c.loop-k.k } in
    let s = c.loop-k.seat in
    let t = c.next_open.new.seat in
    let (x, rest, passed, met, unended, meets) = c.in-Some.ensures.next o.todo o.meets (looks-waits _ _ _ _ _ o) in (
      x,
      met,
      finds-open-after e _ c.args.seat.now s t.r x c.loop-k.invariant.learns
          (looked-open b d e p _ c.begun-walk.result c.next_open.new.walk c.index-latches-order.result c.in-Some.met x rest s t c.next_open.ensures.learns
          (c.next_open.ensures.same ∙ c.begun-walk.ensures.same) refl (next at) c.loop-k.invariant.stands o passed met unended meets),
    )

pub loop-k-preserved : goal.loop-k-preserved
loop-k-preserved c =
    let at = (goal.at.loop-k-preserved c).After-begun-walk in
    let o = looked at in
    let b = content_of c.loop-k.shots in
    let d = content_of c.begun-walk.new.shots in
    let e = content_of c.next_open.new.shots in
    let p = record c.loop-k.self { ask = c.loop-k.k } in
    let s = c.loop-k.seat in
    let t = c.next_open.new.seat in
    record {
      same = c.next_open.ensures.same ∙ c.begun-walk.ensures.same ∙ c.loop-k.invariant.same;
      learns = learns_both c.args.seat.now s t c.loop-k.invariant.learns c.next_open.ensures.learns;
      stands = looked-past b d e p c.begun-walk.result _ c.index-latches-order.result s t c.next_open.ensures.learns
          (c.next_open.ensures.same ∙ c.begun-walk.ensures.same) c.take.ensures.after c.loop-k.invariant.stands o
          (c.in_default.ensures.next o.todo o.meets (looks-waits _ _ _ _ _ o));
    }
