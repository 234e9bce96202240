use Rattle.std.proofs.Common.{suc, ◌*◌, length, sym, ap, subst}
use Rattle.row_pool.specs.SeatState.{SeatState}
use Rattle.latch_item.specs.Shape.{Refers}
use Rattle.overlap_iter.specs.Overlaps.{found}
use Rattle.latch_shots.specs.Shots.{content_of}
use Rattle.latch_shots.proofs.Walking.{among-first, reads-next}
use Rattle.latch_shots.proofs.walk.Walk.next_read.Goals as goal

pub first-self-requires-clause-shot : goal.first-self-requires-clause-shot
first-self-requires-clause-shot c =
    let (todo, (xs, refers, e)) = c.requires.reads in
    (xs, subst (λ shot. Refers c.args.shots.now.seat.view shot xs) (sym c.list-shot.ensures) refers)

pub next_among-requires-clause-walk : goal.next_among-requires-clause-walk
next_among-requires-clause-walk c =
    let (todo, (xs, refers, e)) = c.requires.reads in
    let v = c.args.shots.now.seat.view in
    let shot = c.list-shot.result in
    let span = c.args.asked.now.span in
    let o = subst (λ shot. Refers v shot xs) (sym c.list-shot.ensures) refers in (
      found span xs,
      among-first v c.first-self.new.seat.view shot span c.first-self.result xs c.args.shots.now.seat.follows c.first-self.new.seat.follows
          (96 * shot.height * suc (length (found span xs))) (ap (λ (s : SeatState). s.view) c.first-self.ensures.same) o (c.first-self.ensures.walk xs o),
    )

pub returns-clause-next : goal.returns-clause-next
returns-clause-next c = λ todo reads.
    let (xs, refers, e) = reads in
    let shots = c.args.shots.now in
    let v = shots.seat.view in
    let shot = c.list-shot.result in
    let l = c.args.asked.now in
    let o = subst (λ shot. Refers v shot xs) (sym c.list-shot.ensures) refers in
    let among = among-first v c.first-self.new.seat.view shot l.span c.first-self.result xs shots.seat.follows c.first-self.new.seat.follows
    (96 * shot.height * suc (length (found l.span xs))) (ap (λ (s : SeatState). s.view) c.first-self.ensures.same) o (c.first-self.ensures.walk xs o) in
    reads-next (content_of (record shots { seat = c.next_among.new.seat })) c.next_among.new.self l c.next_among.result todo (found l.span xs)
    c.next_among.ensures.access e (c.next_among.ensures.next (found l.span xs) among)
