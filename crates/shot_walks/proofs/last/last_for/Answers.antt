use Rattle.std.proofs.Common.{[], ◌∷◌, ◌++◌, ◌∙◌, List, refl, sym, ap, subst}
use Rattle.std.proofs.lemmas.List.{append-nil}
use Rattle.std.specs.List.{Contains}
use Rattle.latch_model.specs.Histories.{HeldLatch, met_by}
use Rattle.latch_shots.specs.Shots.{content_of, view_of}
use Rattle.shot_walks.specs.Waits.{IsLastOpen}
use Rattle.shot_walks.proofs.Ends.{ended_none, ended_one, learns_both, learns_nothing, not_shown_still, prerequisite, waits_still}
use Rattle.shot_walks.proofs.Lasts.{last_behind, last_grow, last_open, met_next, met_there}
use Rattle.shot_walks.proofs.last.last_for.Goals as goal

pub loop-met-init : goal.loop-met-init
loop-met-init c =
    let r = c.args.seat.now.r in
    let todo = met_by r.shot c.args.asked.now in
    record {
      same = ap content_of c.first-walk.ensures.same;
      learns = learns_nothing c.args.seat.now;
      walk = ([], todo, c.first-walk.ensures.walk r.shot c.requires.shown, refl, ended_none r.ended);
    }

pub next-requires-clause-walk : goal.next-requires-clause-walk
next-requires-clause-walk c = let (front, todo, m, parted, last) = c.loop-met.invariant.walk in (todo, m)

pub is_open-requires-clause-waits : goal.is_open-requires-clause-waits
is_open-requires-clause-waits c =
    let (front, todo, m, parted, last) = c.loop-met.invariant.walk in
    let (x, rest, e, met, more) = c.in-Some.ensures.next todo m in
    let there = met_there _ front todo x rest parted e in
    prerequisite c.loop-met.seat.r (view_of c.next.new.shots) c.in-Some.met x met
    (waits_still c.args.seat.now c.loop-met.seat x c.loop-met.invariant.learns (c.requires.waits x there))

pub loop-met-preserved-then-is_open : goal.loop-met-preserved-then-is_open
loop-met-preserved-then-is_open c =
    let s = c.args.seat.now in
    let t = c.loop-met.seat in
    let u = c.is_open.new.seat in
    let (front, todo, m, parted, last) = c.loop-met.invariant.walk in
    let (x, rest, e, met, more) = c.in-Some.ensures.next todo m in
    let unended = not_shown_still s t c.in-Some.met.by x.by c.loop-met.invariant.learns met.whose (c.is_open.ensures.open c.if-is_open.true).1 in
    record {
      same = c.next.ensures.same ∙ c.loop-met.invariant.same;
      learns = learns_both s t u c.loop-met.invariant.learns c.is_open.ensures.learns;
      walk = (front ++ x ∷ [], rest, more, met_next _ front todo x rest parted e, last_open s.r u.r front x c.in-Some.met.by met.whose unended);
    }

pub loop-met-preserved : goal.loop-met-preserved
loop-met-preserved c =
    let s = c.args.seat.now in
    let t = c.loop-met.seat in
    let u = c.is_open.new.seat in
    let (front, todo, m, parted, last) = c.loop-met.invariant.walk in
    let (x, rest, e, met, more) = c.in-Some.ensures.next todo m in
    let ended = subst (Contains u.r.ended) met.whose (c.is_open.ensures.over c.if-is_open.false) in
    record {
      same = c.next.ensures.same ∙ c.loop-met.invariant.same;
      learns = learns_both s t u c.loop-met.invariant.learns c.is_open.ensures.learns;
      walk = (
        front ++ x ∷ [],
        rest,
        more,
        met_next _ front todo x rest parted e,
        last_behind s.r u.r front (x ∷ []) c.loop-met.last (ended_one u.r.ended x ended)
            (last_grow s.r t.r u.r front c.loop-met.last c.is_open.ensures.learns.1 last),
      );
    }

pub returns-clause-last : goal.returns-clause-last
returns-clause-last c =
    let s = c.args.seat.now in
    let t = c.loop-met.seat in
    let (front, todo, m, parted, last) = c.loop-met.invariant.walk in
    let whole = parted ∙ ap (λ xs. front ++ xs) (c.in_default.ensures.next todo m).0 ∙ append-nil front in
    subst (λ (xs : List HeldLatch). IsLastOpen s.r t.r xs c.loop-met.last) (sym whole) last
