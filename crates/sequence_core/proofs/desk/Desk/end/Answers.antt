use Rattle.std.proofs.Common.{◌≡◌, ◌++◌, ◌∷◌, [], ◌∙◌, ◌≤◌, length, ap, sym, subst, List}
use Rattle.latch_model.specs.Declaration.{Declaration}
use Rattle.latch_model.specs.Histories.{Begin, begin_with}
use Rattle.latch_model.specs.Legal.{IsLegal}
use Rattle.latch_model.specs.declared.history.Entry.{Entry}
use Rattle.latch_model.specs.declared.history.Entry.TheVariants.{Ended}
use Rattle.latch_model.specs.declared.history.Sizes.{Sizes}
use Rattle.latch_model.specs.declared.latch.Latch.{Latch}
use Rattle.latch_model.specs.declared.latch.TheConstants.Latches.{LIMIT}
use Rattle.history_latches.specs.Logs.{IsBeginOf, MayEnd}
use Rattle.signal_board.specs.Rule.{begun_as}
use Rattle.signal_board.specs.Says.{DeskSays, LaneSays}
use Rattle.sequence_core.specs.Kept.{Rests}
use Rattle.sequence_core.specs.Preparing.{AddsEnd}
use Rattle.sequence_core.specs.Says.{DeskState}
use Rattle.sequence_core.proofs.Entries.{ends_held}
use Rattle.sequence_core.proofs.Keeping.{may_end}
use Rattle.sequence_core.proofs.Resting.{rests_ended}
use Rattle.sequence_core.proofs.desk.Desk.end.Goals as goal
use Rattle.sequence_core.proofs.desk.Desk.end.Goals.{After-list-latches}

-- the end that comes
entry : After-list-latches → Entry
entry c =
    let parts = c.into_parts-seat.result in
    Ended c.id-id.result parts.who parts.grant c.cause.result parts.fault

-- keeps the history legal
legal : (c : After-list-latches) → IsLegal (c.self.inside.seat.log ++ entry c ∷ []) c.self.inside.sizes
unfolding entry
legal c = subst (λ (s : Sizes). IsLegal (c.self.inside.seat.log ++ entry c ∷ []) s) c.self.invariant.same_sizes c.end.ensures.legal

-- it is that of an open request, whose latches are those that are removed
open_one : After-list-latches → Begin
open_one c = begun_as c.into_parts-seat.result.seat.r

latches : (c : After-list-latches) → (open_one c).request.latches ≡ c.list-latches.result.now
unfolding open_one
latches c =
    let parts = c.into_parts-seat in
    ap (λ (d : Declaration). d.latches) (ap (λ (x : LaneSays). x.r.request) parts.ensures.seat ∙ sym parts.ensures.request)
    ∙ sym (c.list-latches.ensures.list ∙ c.latches.ensures)

is_of : (c : After-list-latches) → IsBeginOf (open_one c) c.id-id.result c.lane-lane.result c.list-latches.result.now c.into_parts-seat.result.mode
unfolding open_one
is_of c = record {
  id_is = sym c.id-id.ensures;
  lane_is = sym c.lane-lane.ensures;
  latches_are = latches c;
  mode_is = ap (λ (x : LaneSays). x.r.mode) c.into_parts-seat.ensures.seat ∙ sym c.into_parts-seat.ensures.mode;
}

may : (c : After-list-latches) → MayEnd c.self.inside.kept.held c.self.inside.seat.log c.self.inside.sizes (entry c) (open_one c)
unfolding entry open_one
may c =
    let parts = c.into_parts-seat.result in
    let few = subst (λ (ls : List Latch). length ls ≤ LIMIT) (sym c.list-latches.ensures.list ∙ sym (latches c)) c.list-latches.ensures.few in
    ends_held c.self.inside.seat.log c.self.inside.sizes c.self.inside.kept c.self.invariant.kept c.id-id.result parts.who parts.grant c.cause.result
    parts.fault (open_one c) c.id-id.ensures c.end.ensures.begun few (legal c)

pub add_end-requires-clause-room : goal.add_end-requires-clause-room
add_end-requires-clause-room c =
    let seat = c.self.inside.seat in
    let parts = c.into_parts-seat.result in
    let begun = ap (begin_with seat.log) c.id-id.ensures ∙ c.end.ensures.begun in
    let now = subst (λ (s : Sizes). IsLegal (seat.log ++ Ended c.id-id.result parts.who parts.grant c.cause.result parts.fault ∷ []) s)
    c.self.invariant.same_sizes c.end.ensures.legal in
    let m = may_end seat.log c.self.inside.sizes c.self.inside.kept c.self.invariant.legal c.self.invariant.kept c.id-id.result parts.who parts.grant
    c.cause.result parts.fault (begun_as parts.seat.r) begun now in
    (m.0, m.1)

pub add_end-requires-clause-may : goal.add_end-requires-clause-may
unfolding entry open_one
add_end-requires-clause-may c =
    let d = (goal.at.add_end-requires-clause-may c).After-list-latches in
    (c.self.inside.seat.log, c.self.inside.sizes, open_one d, may d, is_of d)

pub invariant_of-self : goal.invariant_of-self
unfolding entry open_one
invariant_of-self c =
    let d = (goal.at.invariant_of-self c).After-list-latches in
    let seat = c.self.inside.seat in
    let kept = c.self.inside.kept in
    let parts = c.into_parts-seat.result in
    let e : Entry = Ended c.id-id.result parts.who parts.grant c.cause.result parts.fault in
    let begun = ap (begin_with seat.log) c.id-id.ensures ∙ c.end.ensures.begun in
    let adds = subst (λ lane. AddsEnd kept e lane c.add_end.new.self) c.lane-lane.ensures c.add_end.ensures.adds in
    subst (λ (x : DeskSays). Rests x c.self.inside.sizes c.add_end.new.self) (sym c.end.ensures.desk)
    (rests_ended seat c.self.inside.sizes kept c.self.invariant c.id-id.result parts.who parts.grant c.cause.result parts.fault
    (begun_as parts.seat.r) begun c.end.ensures.legal c.add_end.new.self adds
    (c.add_end.ensures.holds seat.log c.self.inside.sizes (open_one d) (may d) (is_of d)))

pub returns-clause-legal : goal.returns-clause-legal
returns-clause-legal c =
    let parts = c.into_parts-seat in
    let id = c.id-id.ensures ∙ ap (λ (x : LaneSays). x.r.id) parts.ensures.seat in
    let cause = c.cause.ensures ∙ ap (λ (x : LaneSays). x.r.cause) parts.ensures.seat in
    let log = ap (λ (d : DeskState). d.log) c.self.view_is in
    let sizes = c.self.invariant.same_sizes ∙ ap (λ (d : DeskState). d.sizes) c.self.view_is in
    subst (λ (x : List Entry × Sizes). IsLegal x.0 x.1)
    (λ i. (log i ++ Ended (id i) (parts.ensures.who i) (parts.ensures.grant i) (cause i) (parts.ensures.fault i) ∷ [], sizes i)) c.end.ensures.legal
