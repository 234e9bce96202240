use Rattle.std.proofs.Common.{sym, subst}
use Rattle.latch_model.specs.Histories.{HeldLatch}
use Rattle.latch_shots.specs.declared.shots.Shots.{Shots}
use Rattle.shot_walks.specs.Waits.{FirstOpen}
use Rattle.waiter.specs.Kept.{WalkKept, stood_at}
use Rattle.waiter.specs.Says.{Blocked, Ready}
use Rattle.waiter.proofs.Polling.{walk_found}
use Rattle.waiter.proofs.waiting.find_open.Goals as goal

pub keep-requires-clause-met : goal.keep-requires-clause-met
keep-requires-clause-met c =
    let stands = c.requires.stands in
    let open_one = (c.in-Open.ensures.finds (stood_at stands.0) stands.2.stands).1 in
    (open_one.0, open_one.1)

pub returns-in-AllEnded-clause-none : goal.returns-in-AllEnded-clause-none
returns-in-AllEnded-clause-none c e =
    let stands = c.requires.stands in
    let none = c.in-AllEnded.ensures.finds (stood_at stands.0) stands.2.stands in (
      none.0,
      walk_found c.args.seat.now c.find_open.new.seat c.args.shots.now c.find_open.new.shots c.args.order.now c.args.place.now c.find_open.new.self
          stands.0 Ready c.find_open.ensures.learns stands.2 none.1,
    )

pub returns-in-Still-clause-found : goal.returns-in-Still-clause-found
returns-in-Still-clause-found c e =
    let s = c.args.seat.now in
    let t = c.find_open.new.seat in
    let stands = c.requires.stands in
    let still = (c.in-Still.ensures.finds (stood_at stands.0) stands.2.stands).1 in
    subst (λ (y : HeldLatch). FirstOpen s.r t.r y × WalkKept t.r c.find_open.new.shots c.args.order.now c.find_open.new.self (Blocked y))
    (sym (stands.1 still.0 still.1)) (
      still.2.0,
      walk_found s t c.args.shots.now c.find_open.new.shots c.args.order.now c.args.place.now c.find_open.new.self stands.0 (Blocked still.0)
          c.find_open.ensures.learns stands.2 still.2.1,
    )

pub returns-in-Open-clause-found : goal.returns-in-Open-clause-found
returns-in-Open-clause-found c e =
    let s = c.args.seat.now in
    let t = c.find_open.new.seat in
    let stands = c.requires.stands in
    let open_one = (c.in-Open.ensures.finds (stood_at stands.0) stands.2.stands).1 in
    let kept = c.keep.ensures.kept open_one.0 open_one.1 in
    subst (λ (y : HeldLatch × Shots). FirstOpen s.r t.r y.0 × WalkKept t.r y.1 c.args.order.now c.find_open.new.self (Blocked y.0))
    (λ i. (sym kept i, sym c.keep.ensures.same i)) (
      open_one.2.0,
      walk_found s t c.args.shots.now c.find_open.new.shots c.args.order.now c.args.place.now c.find_open.new.self stands.0 (Blocked open_one.0)
          c.find_open.ensures.learns stands.2 open_one.2.1,
    )
