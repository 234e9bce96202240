use Rattle.std.proofs.Common.{◌≡◌, ◌+◌, ◌*◌, ap, sym, refl, ◌∙◌, inr}
use mathlib.Core.Option.{some}
use Rattle.row_pool.specs.Lists.{find}
use Rattle.row_pool.specs.Trees.{Entry}
use Rattle.row_pool.specs.SeatState.{SeatState, SeatInvariant}
use Rattle.row_pool.proofs.Allowed.{notes-allowed}
use Rattle.row_pool.proofs.Access.{word-inside}
use Rattle.row_pool.proofs.rows.Rows.note.Goals as goal

pub load-requires : goal.load-requires
load-requires c =
    let good : SeatInvariant c.seat.inside.seat.table_id c.seat.inside.seat.me = c.seat.invariant in
    let view = ap (λ (k : SeatState). k.view) c.seat.view_is in
    let e : Entry = c.requires.owned.0 in
    let has : find c.args.row c.seat.inside.seat.me.0.owned ≡ some e = rw view c.requires.owned.1 in
    let same : c.seat.inside.seat.table_id ≡ c.self.inside.table.shared.table_id = ap (λ (k : SeatState). k.table) c.seat.view_is ∙ c.requires.table
    ∙ sym c.self.view_is in (
      same,
      word-inside good same c.args.row c.args.word (c.args.row * 80 + c.args.word) (inr (e, has)) c.requires.owned.2.1 refl,
      notes-allowed c.self.inside.table.shared.key c.self.inside.table.shared.table_id.slots c.seat.inside.seat.id c.seat.inside.seat.me good.unspent
          c.args.row (c.args.row * 80 + c.args.word) c.args.word e has refl c.requires.owned.2 c.requires.owned.3,
    )
