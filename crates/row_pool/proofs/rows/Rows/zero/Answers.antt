use Rattle.std.proofs.Common.{◌≡◌, ℕ, ap, ◌∙◌}
use mathlib.Core.Option.{some}
use Rattle.row_pool.specs.Lists.{find}
use Rattle.row_pool.specs.Trees.{Entry}
use Rattle.row_pool.specs.SeatView.{SeatView}
use Rattle.row_pool.specs.Changes.{written, with_entry}
use Rattle.row_pool.proofs.Seats.{find-here}
use Rattle.row_pool.proofs.NewNodes.{written-twice, entry-twice}
use Rattle.row_pool.proofs.rows.Rows.zero.Goals.{After-note}
use Rattle.row_pool.proofs.rows.Rows.zero.Goals as goal

-- the row's entry behind the load
noted : (c : After-note) (e : Entry) → find c.args.row c.args.seat.now.view.owned ≡ some e
    → find c.args.row c.note.new.seat.view.owned ≡ some (written c.args.word c.note.result e)
noted c e has = ap (λ (v : SeatView). find c.args.row v.owned) (c.note.ensures.view e has)
    ∙ find-here c.args.row (written c.args.word c.note.result e) c.args.seat.now.view.owned

pub put-requires-clause-plain : goal.put-requires-clause-plain
put-requires-clause-plain c =
    let p = c.requires.plain in
    (written c.args.word c.note.result p.0, noted (goal.at.put-requires-clause-plain c).After-note p.0 p.1, p.2, p.3)

pub returns-then-note-ne0-clause-view : goal.returns-then-note-ne0-clause-view
returns-then-note-ne0-clause-view c = λ e has.
    let w : ℕ = c.args.word in
    let n : ℕ = c.note.result in
    let v : SeatView = c.args.seat.now.view in
    let move : c.note.new.seat.view ≡ with_entry c.args.row (written w n e) v = c.note.ensures.view e has in
    c.put.ensures.view (written w n e) (noted (goal.at.returns-then-note-ne0-clause-view c).After-note e has)
    ∙ ap (λ d. with_entry c.args.row d c.note.new.seat.view) (written-twice w n 0 e)
    ∙ ap (λ u. with_entry c.args.row (written w 0 e) u) move
    ∙ entry-twice c.args.row (written w n e) (written w 0 e) v
