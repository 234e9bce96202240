use Rattle.std.proofs.Common.{subst}
use Rattle.std.proofs.lemmas.Option.{IfSome_then}
use Rattle.latch_shots.specs.Shots.{content_of}
use Rattle.shot_walks.specs.Places.{Stands}
use Rattle.shot_walks.proofs.Standing.{finds-open-after, still_open}
use Rattle.shot_walks.proofs.place.Place.find_open.Goals as goal

pub returns-then-is_still_open-clause-finds : goal.returns-then-is_still_open-clause-finds
returns-then-is_still_open-clause-finds c = λ last h.
    let k = content_of c.args.shots.now in
    let p = c.args.self.now in
    let s = c.args.seat.now in
    let (same, learnt, still) = c.is_still_open.ensures.still c.if-is_still_open.true in
    let (x, is, unended) = still k last h in
    (learnt, (x, is, still_open k p c.is_still_open.new.self s c.is_still_open.new.seat x same learnt (subst (Stands k p s.r) is h) unended))

pub returns-in-Some-clause-finds : goal.returns-in-Some-clause-finds
returns-in-Some-clause-finds c = λ last h.
    let s = c.args.seat.now in
    let t = c.is_still_open.new.seat in
    let u = c.find_later.new.seat in
    let ended = (c.is_still_open.ensures.over c.if-is_still_open.false (content_of c.args.shots.now) last h).0 in
    let (x, met, stands) = c.in-Some.ensures.finds in (
      IfSome_then last ended (λ y has. c.find_later.ensures.learns.1 y.by has),
      (x, met, finds-open-after (content_of c.find_later.new.shots) c.find_later.new.self s t u.r x c.is_still_open.ensures.learns stands),
    )
