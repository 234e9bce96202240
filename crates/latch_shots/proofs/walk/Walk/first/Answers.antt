use Rattle.std.proofs.Common.{suc, ◌*◌, length, sym, ap, subst}
use Rattle.latch_model.specs.declared.latch.Access.TheVariants.{Write}
use Rattle.row_pool.specs.SeatState.{SeatState}
use Rattle.latch_item.specs.Shape.{Refers}
use Rattle.overlap_iter.specs.Overlaps.{found}
use Rattle.latch_shots.specs.Shots.{Content, content_of}
use Rattle.latch_shots.proofs.Meeting.{listed}
use Rattle.latch_shots.proofs.Walking.{meets-begin}
use Rattle.latch_shots.proofs.walk.Walk.first.Goals as goal

pub first-cursor-requires-clause-shot : goal.first-cursor-requires-clause-shot
first-cursor-requires-clause-shot c =
    let (s, h) = c.requires.shown in
    let o = listed (content_of c.args.shots.now) s c.args.asked.now Write c.known.ensures h in
    (o.items, subst (λ shot. Refers c.args.shots.now.seat.view shot o.items) (sym c.list-shot.ensures) o.refers)

pub returns-clause-walk : goal.returns-clause-walk
returns-clause-walk c = λ s h.
    let shots = c.args.shots.now in
    let shot = c.list-shot.result in
    let with_seat : SeatState → Content = λ z. content_of (record shots { seat = z }) in
    let span = c.args.asked.now.span in
    meets-begin (content_of shots) (with_seat c.first-cursor.new.seat) s c.args.asked.now shot c.first-cursor.result shots.seat.follows
    c.first-cursor.new.seat.follows (λ xs. 96 * shot.height * suc (length (found span xs))) c.known.ensures h (ap with_seat c.first-cursor.ensures.same)
    c.list-shot.ensures c.first-cursor.ensures.walk
