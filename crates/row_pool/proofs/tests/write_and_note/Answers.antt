use Rattle.std.proofs.Common.{◌≡◌, ℕ, ◌+◌, ◌≤◌, ap, ◌∙◌, sym, refl, subst, inr, arith}
use mathlib.Core.Option.{some, some-injective}
use Rattle.row_pool.specs.Lists.{find}
use Rattle.row_pool.specs.Trees.{Entry}
use Rattle.row_pool.specs.SeatView.{SeatView}
use Rattle.row_pool.specs.Layout.{first_link, link_count}
use Rattle.row_pool.specs.Changes.{written}
use Rattle.row_pool.proofs.Seats.{find-here, find-put}
use Rattle.row_pool.proofs.tests.write_and_note.Goals as goal

pub note-requires-clause-owned : goal.note-requires-clause-owned
note-requires-clause-owned c =
    let g = c.requires.free_row in
    let d : Entry = written 5 c.args.value g.0 in
    let move = c.write.ensures.content (λ z. absurd (omega arith)) g.0 g.1 in
    let found : find c.args.row c.write.new.seat.view.owned ≡ some d = ap (λ (v : SeatView). find c.args.row v.owned) move
    ∙ find-here c.args.row d c.args.seat.now.view.owned in
    (d, found, (omega arith, omega arith, inr (subst (λ k. first_link k + link_count k ≤ 5) (sym g.2) (omega arith))), λ z w. absurd (omega arith))

pub returns-clause-only : goal.returns-clause-only
returns-clause-only c =
    let g = c.requires.free_row in
    let d : Entry = written 5 c.args.value g.0 in
    let move = c.write.ensures.content (λ z. absurd (omega arith)) g.0 g.1 in
    let found : find c.args.row c.write.new.seat.view.owned ≡ some d = ap (λ (v : SeatView). find c.args.row v.owned) move
    ∙ find-here c.args.row d c.args.seat.now.view.owned in
    let last = c.note.ensures.view d found in
    let r : ℕ = c.args.row in
    record {
      same_seat = record {
        number = ap (λ (v : SeatView). v.number) last ∙ ap (λ (v : SeatView). v.number) move;
        out = ap (λ (v : SeatView). v.out) last ∙ ap (λ (v : SeatView). v.out) move;
        size = ap (λ (v : SeatView). v.size) last ∙ ap (λ (v : SeatView). v.size) move;
      };
      refs = ap (λ (v : SeatView). v.refs) last ∙ ap (λ (v : SeatView). v.refs) move;
      others = λ q n. ap (λ (v : SeatView). find q v.owned) last ∙ sym (find-put q r (written 5 c.note.result d) c.write.new.seat.view.owned n)
          ∙ ap (λ (v : SeatView). find q v.owned) move ∙ sym (find-put q r d c.args.seat.now.view.owned n);
    }

pub returns-clause-free_row : goal.returns-clause-free_row
returns-clause-free_row c = λ e f.
    let g = c.requires.free_row in
    let d : Entry = written 5 c.args.value e in
    let move = c.write.ensures.content (λ z. absurd (omega arith)) e f in
    let found : find c.args.row c.write.new.seat.view.owned ≡ some d = ap (λ (v : SeatView). find c.args.row v.owned) move
    ∙ find-here c.args.row d c.args.seat.now.view.owned in
    let last = c.note.ensures.view d found in
    let same : g.0 ≡ e = some-injective g.0 e (sym g.1 ∙ f) in (
      written 5 c.note.result d,
      ap (λ (v : SeatView). find c.args.row v.owned) last ∙ find-here c.args.row (written 5 c.note.result d) c.write.new.seat.view.owned,
      sym (ap (λ (e : Entry). e.kind) same) ∙ g.2,
      refl,
    )

pub returns-clause-noted : goal.returns-clause-noted
returns-clause-noted c =
    let g = c.requires.free_row in
    let d : Entry = written 5 c.args.value g.0 in
    let move = c.write.ensures.content (λ z. absurd (omega arith)) g.0 g.1 in
    let found : find c.args.row c.write.new.seat.view.owned ≡ some d = ap (λ (v : SeatView). find c.args.row v.owned) move
    ∙ find-here c.args.row d c.args.seat.now.view.owned in
    c.note.ensures.known d c.args.value found refl
