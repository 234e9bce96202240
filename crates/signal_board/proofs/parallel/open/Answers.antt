use Rattle.std.proofs.Common.{◌≡◌, ℕ, ◌-◌, [], ◌∷◌, List, IfNone, IfSome, refl, ap, subst}
use lib.Count.{count_trailing_zeros}
use Rattle.latch_model.specs.Histories.{Begin, before}
use Rattle.latch_model.specs.declared.history.Entry.{Entry}
use Rattle.latch_model.specs.declared.latch.Mode.TheVariants.{Acquire}
use Rattle.latch_model.specs.Declaration.{Declaration}
use Rattle.signal_board.specs.Rule.{InLane}
use Rattle.signal_board.proofs.Waiting.{waits_as}
use Rattle.signal_board.proofs.parallel.open.Goals as goal

-- the begin with this number, in the lane of the lowest bit that is clear
abbrev begin_of : ℕ → ℕ → ℕ → Declaration → Begin
begin_of next taken who request =
    record { id = next; lane = count_trailing_zeros 64 (18446744073709551615 - taken); who = who; mode = Acquire; request = request }

pub begin-seat-requires-clause-begins : goal.begin-seat-requires-clause-begins
begin-seat-requires-clause-begins g c =
    let old = c.deref_mut-locked.result.now in
    (begin_of old.next old.taken c.who-who.result c.args.request, refl, c.who-who.ensures)

pub returns-clause-waits : goal.returns-clause-waits
returns-clause-waits g c =
    let old = c.deref_mut-locked.result.now in
    let b = begin_of old.next old.taken c.who-who.result c.args.request in
    let w = c.waits_of-waits.result in
    let new = c.begin-seat.ensures in
    waits_as old.entries.items b _ c.begin-seat.new.entries.items new.entries new.legal c.begin-seat.result.r (ap (λ x. x.r) new.lane) w
    (subst (λ (l : List Entry). IfSome w (λ (x : ℕ × ℕ). (before l old.next ≡ x.0 ∷ []) × InLane l x.0 x.1)) c.as_slice.ensures.value
    c.waits_of-waits.ensures.one)
    (subst (λ (l : List Entry). IfNone w (before l old.next ≡ [])) c.as_slice.ensures.value c.waits_of-waits.ensures.none)
