use Rattle.std.proofs.Common.{◌≡◌, ◌+◌, ◌*◌, ◌++◌, ◌∷◌, [], ◌≤◌, length, ◌∙◌, ap, sym, subst, List, ℕ, refl}
use Rattle.latch_model.specs.Histories.{Begin, entry_of}
use Rattle.latch_model.specs.Legal.{IsLegal}
use Rattle.latch_model.specs.declared.history.Entry.{Entry}
use Rattle.latch_model.specs.declared.latch.Latch.{Latch}
use Rattle.latch_model.specs.declared.latch.TheConstants.Latches.{LIMIT}
use Rattle.latch_model.proofs.Appending.{legal_begin}
use Rattle.latch_shots.specs.Shots.{AreShots}
use Rattle.history_latches.specs.Logs.{IsBeginOf, MayBegin, free_of, to_hold}
use Rattle.signal_board.specs.Says.{LaneSays, shown_all, shown_to}
use Rattle.signal_board.specs.Steps.{new_request, wrote}
use Rattle.sequence_core.specs.Preparing.{AddsBegin, RowsFor, begin_next}
use Rattle.sequence_core.specs.Says.{next_begin}
use Rattle.sequence_core.proofs.Entries.{begins_held, rows_held}
use Rattle.sequence_core.proofs.Keeping.{begin_is, entry_is, kept_begun, may_begin}
use Rattle.sequence_core.proofs.NextRequest.{number_fits, room_left}
use Rattle.sequence_core.proofs.Resting.{in_bounds}
use Rattle.sequence_core.proofs.desk.open.Goals as goal
use Rattle.sequence_core.proofs.desk.open.Goals.{After-list}

-- the begin that comes
comes : After-list → Begin
comes c = next_begin c.args.seat.now.log c.args.pass.now.p.who c.args.mode c.args.request

-- its entry
is_entry : (c : After-list) → c.next_entry-entry.result ≡ entry_of (comes c)
unfolding comes
is_entry c =
    let seat = c.args.seat.now in
    entry_is seat.log seat.sizes c.args.kept.now c.requires.legal c.requires.kept c.requires.lanes c.who-who.result c.args.pass.now.p.who c.args.mode
    c.args.prepared.copy c.args.request c.next_entry-entry.result c.next_entry-entry.ensures c.who-who.ensures c.requires.prepared.0

-- keeps the history legal
legal : (c : After-list) → IsLegal (c.args.seat.now.log ++ entry_of (comes c) ∷ []) c.args.seat.now.sizes
unfolding comes
legal c =
    let seat = c.args.seat.now in
    let who = c.args.pass.now.p.who in
    legal_begin seat.log seat.sizes (next_begin seat.log who c.args.mode c.args.request) c.requires.legal
    (may_begin seat.log seat.sizes c.args.kept.now c.requires.legal c.requires.kept c.requires.lanes who c.args.mode c.args.request c.requires.fits)

-- its number, lane, latches and mode
same_latches : (c : After-list) → c.list.result.now ≡ c.args.request.latches
same_latches c = c.list.ensures.list ∙ c.latches.ensures

few : (c : After-list) → length c.args.request.latches ≤ LIMIT
few c = subst (λ (ls : List Latch). length ls ≤ LIMIT) c.latches.ensures c.list.ensures.few

is_of : (c : After-list) →
    IsBeginOf (comes c) (c.args.kept.now.begun + 1) (begin_next c.args.kept.now c.args.pass.now.p.who c.args.mode c.args.request).lane
    c.list.result.now c.args.mode
unfolding comes
is_of c =
    let seat = c.args.seat.now in
    let is = begin_is seat.log seat.sizes c.args.kept.now c.requires.legal c.requires.kept c.requires.lanes c.args.pass.now.p.who c.args.mode c.args.request in
    record {
      id_is = ap (λ (b : Begin). b.id) (sym is);
      lane_is = ap (λ (b : Begin). b.lane) (sym is);
      latches_are = sym (same_latches c);
      mode_is = refl;
    }

may : (c : After-list) → MayBegin c.args.kept.now.held c.args.seat.now.log c.args.seat.now.sizes (comes c)
unfolding comes
may c =
    let seat = c.args.seat.now in
    begins_held seat.log seat.sizes c.args.kept.now c.requires.legal c.requires.kept (in_bounds seat.sizes c.requires.bounds) (comes c) refl
    (few c) (legal c)

pub next_entry-entry-requires-clause-number : goal.next_entry-entry-requires-clause-number
next_entry-entry-requires-clause-number c =
    number_fits c.args.seat.now.log c.args.seat.now.sizes c.args.kept.now c.requires.kept c.is_small.ensures

pub begin-lane-requires-clause-legal : goal.begin-lane-requires-clause-legal
begin-lane-requires-clause-legal c =
    let seat = c.args.seat.now in
    let who = c.args.pass.now.p.who in
    let is = entry_is seat.log seat.sizes c.args.kept.now c.requires.legal c.requires.kept c.requires.lanes c.who-who.result who c.args.mode
    c.args.prepared.copy c.args.request c.next_entry-entry.result c.next_entry-entry.ensures c.who-who.ensures c.requires.prepared.0 in
    subst (λ (e : Entry). IsLegal (seat.log ++ e ∷ []) seat.sizes) (sym is)
    (legal_begin seat.log seat.sizes (next_begin seat.log who c.args.mode c.args.request) c.requires.legal
    (may_begin seat.log seat.sizes c.args.kept.now c.requires.legal c.requires.kept c.requires.lanes who c.args.mode c.args.request c.requires.fits))

pub add_begin-shots-requires-clause-may : goal.add_begin-shots-requires-clause-may
add_begin-shots-requires-clause-may c =
    let d = (goal.at.add_begin-shots-requires-clause-may c).After-list in
    (c.args.seat.now.log, c.args.seat.now.sizes, comes d, may d, is_of d)

pub add_begin-shots-requires-clause-rows : goal.add_begin-shots-requires-clause-rows
add_begin-shots-requires-clause-rows c =
    let d = (goal.at.add_begin-shots-requires-clause-rows c).After-list in
    rows_held c.args.mode (free_of c.args.kept.now.held) c.list.result.now
    (subst (λ (ls : List Latch). RowsFor c.args.mode (free_of c.args.kept.now.held) ls) (sym (same_latches d)) c.requires.rows)

pub add_begin-shots-requires-clause-room : goal.add_begin-shots-requires-clause-room
add_begin-shots-requires-clause-room c = room_left c.args.seat.now.log c.args.seat.now.sizes c.args.kept.now c.requires.kept c.requires.prepared.1

pub new-requires-clause-shots : goal.new-requires-clause-shots
unfolding comes
new-requires-clause-shots c =
    let d = (goal.at.new-requires-clause-shots c).After-list in
    let seat = c.args.seat.now in
    let shot = ap (λ (x : LaneSays). x.r.shot) c.begin-lane.ensures.lane
    ∙ ap (λ (e : Entry). (new_request seat.log e).shot) (is_entry d) in
    subst (AreShots c.add_begin-shots.result) (sym shot)
    (c.add_begin-shots.ensures.shots seat.log seat.sizes (comes d) (may d) (is_of d))

pub returns-clause-seat : goal.returns-clause-seat
unfolding comes
returns-clause-seat c =
    let d = (goal.at.returns-clause-seat c).After-list in
    let seat = c.args.seat.now in
    c.begin-lane.ensures.desk ∙ ap (λ (e : Entry). record seat { log = seat.log ++ e ∷ [] }) (is_entry d)

pub returns-clause-kept : goal.returns-clause-kept
unfolding comes
returns-clause-kept c =
    let d = (goal.at.returns-clause-kept c).After-list in
    let seat = c.args.seat.now in
    let kept = c.args.kept.now in
    let new = c.add_begin-shots.new.self in
    let b = comes d in
    let of = is_of d in
    let is = is_entry d in
    let adds = subst (λ (x : Entry × ℕ × ℕ). AddsBegin kept x.0 x.1 x.2 new) (λ i. (is i, sym of.id_is i, sym of.lane_is i)) c.add_begin-shots.ensures.adds in
    kept_begun seat.log seat.sizes kept c.requires.legal c.requires.kept b refl (few d) (legal d) new adds c.requires.prepared.1
    (c.add_begin-shots.ensures.holds seat.log seat.sizes b (may d) of)

pub returns-clause-legal : goal.returns-clause-legal
unfolding comes
returns-clause-legal c = legal (goal.at.returns-clause-legal c).After-list

pub returns-clause-opened : goal.returns-clause-opened
unfolding comes
returns-clause-opened c =
    let d = (goal.at.returns-clause-opened c).After-list in
    let seat = c.args.seat.now in
    let log = seat.log in
    let signals = ap (λ (x : LaneSays). x.table) c.begin-lane.ensures.lane ∙ c.requires.core.0 in
    let rows = c.add_begin-shots.ensures.shots_table ∙ c.requires.core.1 in
    let r = ap (λ (x : LaneSays). x.r) c.begin-lane.ensures.lane
    ∙ ap (λ (e : Entry). shown_to (log ++ e ∷ []) (new_request log e)) (is_entry d) in
    c.new.ensures ∙ (λ i. record { core = record { signals = signals i; rows = rows i }; r = r i })

pub returns-clause-free : goal.returns-clause-free
returns-clause-free c =
    let d = (goal.at.returns-clause-free c).After-list in
    subst (λ (ls : List Latch). free_of c.args.kept.now.held ≤ free_of c.add_begin-shots.new.self.held + 13 * length (to_hold c.args.mode ls)) (same_latches d)
    c.add_begin-shots.ensures.free

pub returns-clause-pass : goal.returns-clause-pass
unfolding comes
returns-clause-pass c =
    let d = (goal.at.returns-clause-pass c).After-list in
    let seat = c.args.seat.now in
    let pass = c.args.pass.now in
    c.begin-lane.ensures.pass
    ∙ ap (λ (e : Entry). record pass { p = shown_all (seat.log ++ e ∷ []) (wrote pass.p (length seat.log) e) }) (is_entry d)
