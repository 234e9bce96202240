use Rattle.std.proofs.Common.{◌∙◌, refl, subst}
use Rattle.std.specs.List.{Contains}
use Rattle.latch_shots.specs.Shots.{view_of}
use Rattle.shot_walks.specs.Waits.{Passed}
use Rattle.shot_walks.proofs.Ends.{learns_both, learns_nothing, not_shown_still, passed_all, passed_grow, passed_next, passed_none}
use Rattle.shot_walks.proofs.Ends.{prerequisite, waits_ahead, waits_first, waits_still}
use Rattle.shot_walks.proofs.open.next_open.Goals as goal

pub loop-met-init : goal.loop-met-init
loop-met-init c = record {
  same = refl;
  learns = learns_nothing c.args.seat.now;
  walk = λ todo h. (todo, passed_none c.args.seat.now.r.ended todo, h);
}

pub next-requires-clause-walk : goal.next-requires-clause-walk
next-requires-clause-walk c = let (todo, h, w) = c.requires.walk in let (rest, p, m) = c.loop-met.invariant.walk todo h in (rest, m)

pub is_open-requires-clause-waits : goal.is_open-requires-clause-waits
is_open-requires-clause-waits c =
    let s = c.args.seat.now in
    let t = c.loop-met.seat in
    let (todo, h, w) = c.requires.walk in
    let (rest, p, m) = c.loop-met.invariant.walk todo h in
    let (x, after, e, met, more) = c.in-Some.ensures.next rest m in
    prerequisite t.r (view_of c.next.new.shots) c.in-Some.met x met
    (waits_still s t x c.loop-met.invariant.learns (waits_first s.r rest x after (waits_ahead s.r t.r.ended todo rest w p) e))

pub returns-then-is_open-clause-next : goal.returns-then-is_open-clause-next
returns-then-is_open-clause-next c = λ todo h w.
    let s = c.args.seat.now in
    let t = c.loop-met.seat in
    let (rest, p, m) = c.loop-met.invariant.walk todo h in
    let (x, after, e, met, more) = c.in-Some.ensures.next rest m in
    let known = c.is_open.new.seat.r.ended in (
      x,
      after,
      subst (Passed known todo) e (passed_grow t.r.ended known todo rest c.is_open.ensures.learns.1 p),
      met,
      not_shown_still s t c.in-Some.met.by x.by c.loop-met.invariant.learns met.whose (c.is_open.ensures.open c.if-is_open.true).1,
      more,
    )

pub loop-met-preserved : goal.loop-met-preserved
loop-met-preserved c = record {
  same = c.next.ensures.same ∙ c.loop-met.invariant.same;
  learns = learns_both c.args.seat.now c.loop-met.seat c.is_open.new.seat c.loop-met.invariant.learns c.is_open.ensures.learns;
  walk = λ todo h.
      let t = c.loop-met.seat in
      let (rest, p, m) = c.loop-met.invariant.walk todo h in
      let (x, after, e, met, more) = c.in-Some.ensures.next rest m in
      let known = c.is_open.new.seat.r.ended in
      let ended = subst (Contains known) met.whose (c.is_open.ensures.over c.if-is_open.false) in
      let passed = subst (Passed known todo) e (passed_grow t.r.ended known todo rest c.is_open.ensures.learns.1 p) in
      (after, passed_next known todo x after passed ended, more);
}

pub returns-clause-next : goal.returns-clause-next
returns-clause-next c = λ todo h w.
    let (rest, p, m) = c.loop-met.invariant.walk todo h in
    passed_all c.loop-met.seat.r.ended todo (subst (Passed c.loop-met.seat.r.ended todo) (c.in_default.ensures.next rest m).0 p)
