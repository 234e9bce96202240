use Rattle.std.proofs.Common.{◌≡◌, ◌+◌, ◌-◌, ◌<◌, ◌∙◌, ℕ, Some, length, refl, sym, ap, subst, arith}
use Rattle.std.specs.List.{slice_get}
use Rattle.latch_model.specs.Histories.{in_waiting_order}
use Rattle.shot_walks.specs.Waits.{AllEnded}
use Rattle.shot_walks.proofs.Ends.{ended_none, latches_stay, learns_both, learns_nothing, waits_at, waits_stay}
use Rattle.shot_walks.proofs.Lasts.{all_from, last_from, last_waits}
use Rattle.shot_walks.proofs.Orders.{IsNext, is_next, met_from, met_from_end, order_at}
use Rattle.shot_walks.proofs.last.last_open.Goals as goal
use Rattle.shot_walks.proofs.last.last_open.Goals.{After-index-latches-order}

-- the latch that is looked at, and what was passed behind it
next : (c : After-index-latches-order) → IsNext c.loop-passed.seat.r (length c.args.order.now - 1 - c.loop-passed.passed) c.index-latches-order.result
next c =
    let t = c.loop-passed.seat in
    let less : length c.args.order.now - 1 - c.loop-passed.passed < length c.args.order.now = let left = c.loop-passed-test.true in omega arith in
    let mine = c.requires.mine ∙ sym (latches_stay c.args.seat.now t c.loop-passed.invariant.learns) in
    is_next t.r c.args.latches.now c.args.order.now (length c.args.order.now - 1 - c.loop-passed.passed) c.index-latches-order.result mine c.requires.order less
    c.index-latches-order.is

behind : (c : After-index-latches-order)
    → AllEnded c.loop-passed.seat.r.ended (met_from c.loop-passed.seat.r (length c.args.order.now - 1 - c.loop-passed.passed + 1))
behind c =
    let same : length c.args.order.now - c.loop-passed.passed ≡ length c.args.order.now - 1 - c.loop-passed.passed + 1 =
    let left = c.loop-passed-test.true in omega arith in
    subst (λ (k : ℕ). AllEnded c.loop-passed.seat.r.ended (met_from c.loop-passed.seat.r k)) same c.loop-passed.invariant.ended

pub loop-passed-init : goal.loop-passed-init
loop-passed-init c =
    let s = c.args.seat.now in
    let all : length c.args.order.now - 0 ≡ length c.args.order.now = omega arith in
    let none = ap (met_from s.r) all ∙ met_from_end s.r c.args.latches.now c.args.order.now c.requires.mine c.requires.order in
    record {
      same = refl;
      learns = learns_nothing s;
      ended = subst (AllEnded s.r.ended) (sym none) (ended_none s.r.ended);
    }

pub last_for-requires-clause-waits : goal.last_for-requires-clause-waits
last_for-requires-clause-waits c =
    let l = c.index-latches-order.result in
    let t = c.loop-passed.seat in
    let k : ℕ = length c.args.order.now - 1 - c.loop-passed.passed in
    let less : k < length c.args.order.now = let left = c.loop-passed-test.true in omega arith in
    let at = order_at c.args.latches.now c.args.order.now k l c.requires.order less c.index-latches-order.is in
    let mine = c.requires.mine ∙ sym (latches_stay c.args.seat.now t c.loop-passed.invariant.learns) in
    waits_at t.r k l (subst (λ ls. slice_get (in_waiting_order ls) k ≡ Some l) mine at)

pub returns-in-Some-clause-last : goal.returns-in-Some-clause-last
returns-in-Some-clause-last c =
    let at = (goal.at.returns-in-Some-clause-last c).After-index-latches-order in
    last_from c.args.seat.now c.loop-passed.seat c.last_for.new.seat (length c.args.order.now - 1 - c.loop-passed.passed) c.index-latches-order.result
    c.in-Some.by c.loop-passed.invariant.learns c.last_for.ensures.learns (next at) c.in-Some.ensures.last (behind at)

pub returns-in-Some-clause-waited_for : goal.returns-in-Some-clause-waited_for
returns-in-Some-clause-waited_for c =
    let at = (goal.at.returns-in-Some-clause-waited_for c).After-index-latches-order in
    last_waits c.args.seat.now.r c.last_for.new.seat.r (Some c.in-Some.by)
    (last_from c.args.seat.now c.loop-passed.seat c.last_for.new.seat (length c.args.order.now - 1 - c.loop-passed.passed) c.index-latches-order.result
    c.in-Some.by c.loop-passed.invariant.learns c.last_for.ensures.learns (next at) c.in-Some.ensures.last (behind at))

pub loop-passed-preserved : goal.loop-passed-preserved
loop-passed-preserved c =
    let at = (goal.at.loop-passed-preserved c).After-index-latches-order in
    let u = c.last_for.new.seat in
    let k : ℕ = length c.args.order.now - 1 - c.loop-passed.passed in
    let same : k ≡ length c.args.order.now - (c.loop-passed.passed + 1) = let left = c.loop-passed-test.true in omega arith in
    record {
      same = c.last_for.ensures.same ∙ c.loop-passed.invariant.same;
      learns = learns_both c.args.seat.now c.loop-passed.seat u c.loop-passed.invariant.learns c.last_for.ensures.learns;
      ended = subst (λ (n : ℕ). AllEnded u.r.ended (met_from u.r n)) same
          (all_from c.loop-passed.seat u k c.index-latches-order.result c.last_for.ensures.learns (next at) c.in_default.ensures.last (behind at));
    }

pub returns-clause-last : goal.returns-clause-last
returns-clause-last c =
    let t = c.loop-passed.seat in
    let none : length c.args.order.now - c.loop-passed.passed ≡ 0 = let past = c.loop-passed-test.false in omega arith in
    subst (AllEnded t.r.ended) (ap (met_from t.r) none ∙ waits_stay c.args.seat.now t c.loop-passed.invariant.learns) c.loop-passed.invariant.ended
