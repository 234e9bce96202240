use Rattle.std.proofs.Common.{Some, refl, sym, subst}
use Rattle.std.specs.List.{Contains}
use Rattle.std.specs.Prelude.{IfSome, Option}
use Rattle.latch_model.specs.Histories.{HeldLatch}
use Rattle.shot_walks.specs.Places.{Stands}
use Rattle.shot_walks.proofs.Ends.{prerequisite}
use Rattle.shot_walks.proofs.Standing.{at_some, stands-learnt, stands-past, stands-waits}
use Rattle.shot_walks.proofs.place.Place.is_still_open.Goals as goal

pub is_open-requires-clause-waits : goal.is_open-requires-clause-waits
is_open-requires-clause-waits c =
    let p = c.args.self.now in
    let r = c.args.seat.now.r in
    let (k, last, h) = c.requires.stands in
    let (x, is, met) = at_some k.view p.met c.in-Some.met last c.in-Some.is h.at in
    prerequisite r k.view c.in-Some.met x met (stands-waits k p r x (subst (Stands k p r) is h))

pub returns-clause-over : goal.returns-clause-over
returns-clause-over c = λ _ k last h.
    let p = c.args.self.now in
    let s = c.args.seat.now in
    let t = c.is_open.new.seat in
    let (x, is, met) = at_some k.view p.met c.in-Some.met last c.in-Some.is h.at in
    let ended = subst (Contains t.r.ended) met.whose (c.is_open.ensures.over c.if-is_open.false) in
    let stands = stands-learnt k p s t (Some x) c.is_open.ensures.learns (subst (Stands k p s.r) is h) in
    (subst (λ (o : Option HeldLatch). IfSome o (λ y. Contains t.r.ended y.by)) (sym is) ended, stands-past k p _ t.r x refl stands ended)
