use Rattle.std.proofs.Common.{◌≡◌, [], length, ap, sym, refl, ◌∙◌, inl, arith}
use mathlib.Core.Option.{some, some-ne-none}
use Rattle.row_pool.specs.Lists.{find}
use Rattle.row_pool.specs.SeatView.{SeatView}
use Rattle.row_pool.specs.Changes.{turned_into}
use Rattle.row_pool.proofs.Seats.{find-here, find-put}
use Rattle.row_pool.proofs.Writes.{nil_links-none}
use Rattle.row_pool.proofs.TestSeats.{went-live}
use Rattle.row_pool.proofs.tests.item_goes_live.Goals.{After-write}
use Rattle.row_pool.proofs.tests.item_goes_live.Goals as goal

-- the row is an item
turned : (c : After-write) → find c.args.row c.write.new.seat.view.owned ≡ some (turned_into 1 c.requires.free_row.0)
turned c =
    let e = c.requires.free_row in
    ap (λ (v : SeatView). find c.args.row v.owned) (c.write.ensures.kind refl e.0 e.1) ∙ find-here c.args.row (turned_into 1 e.0) c.args.seat.now.view.owned

pub publish-requires-clause-whole : goal.publish-requires-clause-whole
publish-requires-clause-whole c =
    let e = c.requires.free_row in (
      turned_into 1 e.0,
      [],
      turned (goal.at.publish-requires-clause-whole c).After-write,
      omega arith,
      nil_links-none,
      λ k u h. absurd (some-ne-none u (sym h)),
      inl e.3,
    )

pub publish-requires-clause-room : goal.publish-requires-clause-room
publish-requires-clause-room c = λ _ _ _.
    let e = c.requires.free_row in
    let refs = ap (λ (v : SeatView). length v.refs) (c.write.ensures.kind refl e.0 e.1) in
    let room = c.requires.room in omega arith

pub returns-clause-live : goal.returns-clause-live
returns-clause-live c =
    let e = c.requires.free_row in
    let r = c.args.row in
    let move = c.write.ensures.kind refl e.0 e.1 in
    let live = c.publish.ensures.view (turned_into 1 e.0) [] (turned (goal.at.returns-clause-live c).After-write) e.3 nil_links-none in (
      live.0,
      live.1.here,
      live.1.kind,
      went-live c.args.seat.now.view c.write.new.seat.view c.publish.new.seat.view r live.0 c.args.seat.now.view.refs
          (ap (λ (v : SeatView). v.refs) move)
          (λ q n. ap (λ (v : SeatView). find q v.owned) move ∙ sym (find-put q r (turned_into 1 e.0) c.args.seat.now.view.owned n))
          (record {
            number = ap (λ (v : SeatView). v.number) move;
            out = ap (λ (v : SeatView). v.out) move;
            size = ap (λ (v : SeatView). v.size) move;
          }) live.2,
    )
