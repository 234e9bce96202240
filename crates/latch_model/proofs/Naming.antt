-- What a request's prerequisites are, and what a poison error names.
use Rattle.std.proofs.Common.{◌≡◌, ◌↔◌, ℕ, zero, suc, Bool, true, false, ◌&&◌, not, List, [], ◌∷◌, Some, refl, ap, subst, inl, inr}
use Rattle.std.proofs.lemmas.Bool.{eqb-true}
use Rattle.std.specs.List.{Contains, slice_get}
use Rattle.latch_model.specs.Histories.{Begin, before, has_begun, has_ended, held, holds_latches, in_front, is_end, is_open, latches_of, open_begins}
use Rattle.latch_model.specs.Legal.{EndedPoisoned, EndsPoisoned, HeldInConflict, IsLegal, IsLegalFault, NamesPoisoned}
use Rattle.latch_model.specs.declared.history.Cause.{Cause}
use Rattle.latch_model.specs.declared.history.Entry.{Entry}
use Rattle.latch_model.specs.declared.history.Entry.TheVariants.{Begun, Ended}
use Rattle.latch_model.specs.declared.history.Fault.TheVariants.{Poisoned}
use Rattle.latch_model.specs.declared.history.Grant.{Grant}
use Rattle.latch_model.specs.declared.history.Sizes.{Sizes}
use Rattle.latch_model.proofs.Appending.{before_smaller}
use Rattle.latch_model.proofs.Lists.{Contains-from_In, In, In-filter, In-from_Contains}
use Rattle.latch_model.proofs.Members.{filter_of-In, list_any_of}
use Rattle.latch_model.proofs.Sentences.{in_conflict-In, in_conflict_of}
use Rattle.latch_model.proofs.Waiting.{prerequisite_begun}

-- a prerequisite held a conflicting latch, and who held one is a prerequisite
pub prerequisite_names : (h : List Entry) (id p : ℕ) → Contains (before h id) p ↔ HeldInConflict h id p
prerequisite_names h id p = (forth, back)
  where
    forth : Contains (before h id) p → HeldInConflict h id p
    forth there =
        let w = in_conflict_of (latches_of h id) (open_begins (in_front h id)) p (In-from_Contains (before h id) p there) in
        record {
          holder = w.0;
          number = w.4;
          holds = Contains-from_In (held (in_front h id)) w.0 (In-filter (λ b. holds_latches b.mode) (open_begins (in_front h id)) w.0 w.1 w.2);
          conflicts = w.3;
        }

    back : HeldInConflict h id p → Contains (before h id) p
    back w =
        let there = filter_of-In (λ (b : Begin). holds_latches b.mode) (open_begins (in_front h id)) w.holder
        (In-from_Contains (held (in_front h id)) w.holder w.holds) in
        Contains-from_In (before h id) p (subst (λ (k : ℕ). In k (before h id)) w.number
        (in_conflict-In (latches_of h id) (open_begins (in_front h id)) w.holder there.0 there.1 w.conflicts))

-- the entry of an end
ended_entry : (h : List Entry) (p : ℕ) → has_ended h p ≡ true → EndsPoisoned h p → EndedPoisoned h p
ended_entry h p ended poisoned = let w = list_any_of (is_end p) h ended in by w.0 (Contains-from_In h w.0 w.1) w.2
  where
    by : (e : Entry) → Contains h e → is_end p e ≡ true → EndedPoisoned h p
    by (Begun id lane who mode request) there is = cc
    by (Ended id who grant cause fault) there is =
        let same : id ≡ p = eqb-true id p is in
        let found : Contains h (Ended p who grant cause fault) = subst (λ (k : ℕ). Contains h (Ended k who grant cause fault)) same there in
        record { who = who; grant = grant; cause = cause; fault = fault; ended = found; has_cause = poisoned who grant cause fault found }

place_of-In : {X : Type 0} (xs : List X) (x : X) → In x xs → (k : ℕ) × (slice_get xs k ≡ Some x)
place_of-In [] x there = absurd there
place_of-In (y ∷ ys) x (inl same) = (zero, ap Some same)
place_of-In (y ∷ ys) x (inr there) = let w = place_of-In ys x there in (suc w.0, w.1)

-- what has begun and isn't open has ended
begun_and_closed : (b c : Bool) → b ≡ true → (b && not c) ≡ false → c ≡ true
begun_and_closed true true begun closed = refl
begun_and_closed true false begun closed = cc
begun_and_closed false c begun closed = cc

pub error_names : (h : List Entry) (sizes : Sizes) → IsLegal h sizes → ((k : ℕ) → is_open h k ≡ false) → (id who p : ℕ) (grant : Grant) (cause : Cause)
    → Contains h (Ended id who grant cause (Poisoned p)) → NamesPoisoned h id p
error_names h sizes legal closed id who p grant cause there =
    let at = place_of-In h (Ended id who grant cause (Poisoned p)) (In-from_Contains h (Ended id who grant cause (Poisoned p)) there) in
    let fault : IsLegalFault h id grant (Poisoned p) = (legal at.0 (Ended id who grant cause (Poisoned p)) at.1).legal_fault in
    let named : In p (before h id) = In-from_Contains (before h id) p fault.2 in
    let ended : has_ended h p ≡ true = begun_and_closed (has_begun h p) (has_ended h p) (prerequisite_begun h id p named) (closed p) in
    ((before_smaller h sizes id p legal named).1, (prerequisite_names h id p).0 fault.2, ended_entry h p ended fault.3)
