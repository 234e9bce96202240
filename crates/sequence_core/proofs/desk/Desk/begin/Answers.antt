use Rattle.std.proofs.Common.{◌<◌, length, ap, sym, subst}
use Rattle.latch_model.specs.Histories.{latches_held, open_begins}
use Rattle.latch_model.specs.declared.history.Sizes.{Sizes}
use Rattle.history_latches.specs.Logs.{free_of}
use Rattle.history_latches.specs.declared.latches.HistoryLatches.{HistoryLatches}
use Rattle.signal_board.specs.Says.{DeskSays}
use Rattle.sequence_core.specs.Preparing.{FitsIn, RowsFor}
use Rattle.sequence_core.specs.Says.{DeskState}
use Rattle.sequence_core.proofs.Resting.{has_place, refuses}
use Rattle.sequence_core.proofs.desk.Desk.begin.Goals as goal

pub open-requires-clause-fits : goal.open-requires-clause-fits
open-requires-clause-fits c =
    let seat = c.self.inside.seat in
    let fits = (c.in-Ok.ensures.fits seat.log c.self.inside.sizes c.self.invariant.kept.holds).0 in
    subst (λ (d : DeskSays). FitsIn d.sizes.latches c.args.mode (length (latches_held d.log)) (length c.args.request.latches)) (sym c.show.ensures.desk)
    (subst (λ (s : Sizes). FitsIn s.latches c.args.mode (length (latches_held seat.log)) (length c.args.request.latches))
    (sym c.self.invariant.same_sizes) fits)

pub open-requires-clause-rows : goal.open-requires-clause-rows
open-requires-clause-rows c =
    let rows = (c.in-Ok.ensures.fits c.self.inside.seat.log c.self.inside.sizes c.self.invariant.kept.holds).1 in
    subst (λ (h : HistoryLatches). RowsFor c.args.mode (free_of h) c.args.request.latches) (sym c.in-Ok.ensures.same.held) rows

pub returns-in-Err-clause-refused : goal.returns-in-Err-clause-refused
returns-in-Err-clause-refused c =
    let seat = c.self.inside.seat in
    let sizes = c.self.inside.sizes in
    let left : length (open_begins seat.log) < sizes.lanes =
    subst (λ n. length (open_begins seat.log) < n) c.self.invariant.given (c.show.ensures.lane_left c.requires.idle) in
    refuses seat sizes c.self.inside.kept c.self.invariant c.args.mode c.args.request.latches c.in-Err.fault c.args.self.now
    (sym (ap (λ (d : DeskState). d.log) c.self.view_is)) (sym (ap (λ (d : DeskState). d.sizes) c.self.view_is))
    (sym (ap (λ (d : DeskState). d.free) c.self.view_is)) left (c.in-Err.ensures.refused seat.log sizes c.self.invariant.kept.holds)

pub returns-in-Ok-clause-fits : goal.returns-in-Ok-clause-fits
returns-in-Ok-clause-fits c =
    has_place c.self.inside.seat c.self.inside.sizes c.self.inside.kept c.self.invariant c.args.mode c.args.request.latches c.args.self.now
    (sym (ap (λ (d : DeskState). d.log) c.self.view_is)) (sym (ap (λ (d : DeskState). d.sizes) c.self.view_is))
    (sym (ap (λ (d : DeskState). d.free) c.self.view_is)) (c.in-Ok.ensures.fits c.self.inside.seat.log c.self.inside.sizes c.self.invariant.kept.holds)
