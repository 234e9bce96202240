use Rattle.std.proofs.Common.{◌++◌, sym, ap, ◌∙◌}
use Rattle.latch_shots.specs.Shots.{content_of}
use Rattle.latch_shots.specs.Walks.{meeting}
use Rattle.latch_shots.proofs.Staying.{content-stays}
use Rattle.latch_shots.proofs.Walking.{meets-rest, reads-left}
use Rattle.latch_shots.proofs.walk.Walk.next.Goals as goal

pub returns-in-Some-clause-next : goal.returns-in-Some-clause-next
returns-in-Some-clause-next c = λ todo h.
    let shots = c.args.shots.now in
    let seat = c.next_among.new.seat in
    let l = c.args.asked.now in
    let w = c.args.self.now in
    let (x, rest, next, met, among) = c.in-Some.ensures.next h.items h.among in (
      x,
      meeting shots.own l w.access rest ++ h.later,
      h.todo_is ∙ ap (λ xs. xs ++ h.later) next,
      met,
      meets-rest (content_of shots) (content_of (record shots { seat = seat })) w c.next_among.new.self l rest h.later
          (content-stays (content_of shots) seat.table seat.view c.next_among.ensures.same.0 c.next_among.ensures.same.1) c.next_among.ensures.access h.behind
          among,
    )

pub next_read-requires-clause-reads : goal.next_read-requires-clause-reads
next_read-requires-clause-reads c =
    let (todo, h) = c.requires.walk in
    let shots = c.args.shots.now in
    let seat = c.next_among.new.seat in
    let none = (c.in_default.ensures.next h.items h.among).0 in (
      todo,
      reads-left (content_of shots) (content_of (record shots { seat = seat })) c.args.self.now c.args.asked.now todo
          (content-stays (content_of shots) seat.table seat.view c.next_among.ensures.same.0 c.next_among.ensures.same.1)
          (sym c.next_among.ensures.access ∙ c.in-Write.is) c.in-Write-access.is h none,
    )

pub returns-in-Write-access-clause-next : goal.returns-in-Write-access-clause-next
returns-in-Write-access-clause-next c = λ todo h.
    let shots = c.args.shots.now in
    let seat = c.next_among.new.seat in
    let none = (c.in_default.ensures.next h.items h.among).0 in
    c.next_read.ensures.next todo
    (reads-left (content_of shots) (content_of (record shots { seat = seat })) c.args.self.now c.args.asked.now todo
    (content-stays (content_of shots) seat.table seat.view c.next_among.ensures.same.0 c.next_among.ensures.same.1)
    (sym c.next_among.ensures.access ∙ c.in-Write.is) c.in-Write-access.is h none)
