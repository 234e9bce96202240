-- What a begin needs: the next number fits its type, and the held latches are few.
use Rattle.std.proofs.Common.{◌≡◌, ◌+◌, ◌*◌, ◌<◌, ◌≤◌, ◌^◌, Bool, true, false, cond, not, List, [], ◌∷◌, length}
use Rattle.std.proofs.Common.{refl, ap, subst, inl, inr, arith}
use Rattle.std.proofs.Math.Seq.{take-length}
use Rattle.latch_model.specs.Deciding.{weight}
use Rattle.latch_model.specs.Histories.{Begin, begins, has_ended, holds_latches, latches_held}
use Rattle.latch_model.specs.Histories.{open_begins}
use Rattle.latch_model.specs.declared.history.Entry.{Entry}
use Rattle.latch_model.specs.declared.history.Sizes.{Sizes}
use Rattle.latch_model.specs.declared.latch.TheConstants.Latches.{LIMIT}
use Rattle.latch_model.proofs.Lists.{Contains-from_In, In}
use Rattle.latch_model.proofs.Members.{filter_of-In}
use Rattle.latch_model.proofs.Ordered.{begun_in-upto}
use Rattle.latch_model.proofs.Weights.{weight-is}
use Rattle.sequence_core.specs.Kept.{IsKept}
use Rattle.sequence_core.specs.Preparing.{HasRoom}
use Rattle.sequence_core.specs.declared.kept.Kept.{Kept}

-- no more requests have begun than there are entries
pub begun_upto : (h : List Entry) → length (begins h) ≤ length h
begun_upto h = subst (λ (t : List Entry). length (begins t) ≤ length h) (take-length h) (begun_in-upto h (length h))

pub number_fits : (log : List Entry) (sizes : Sizes) (k : Kept) → IsKept log sizes k → length k.book.entries + k.book.room + 1 < 2 ^ 64 → k.begun + 1 < 2 ^ 64
number_fits log sizes k kept small =
    let begun = kept.begun in
    let upto = begun_upto log in
    let entries : length k.book.entries ≡ length log = ap length kept.entries in
    omega arith

pub log_fits : (log : List Entry) (sizes : Sizes) (k : Kept) → IsKept log sizes k → length k.book.entries + k.book.room + 1 < 2 ^ 64 → length log + 1 < 2 ^ 64
log_fits log sizes k kept small =
    let entries : length k.book.entries ≡ length log = ap length kept.entries in
    omega arith

-- there is room for the begin
pub room_left : (log : List Entry) (sizes : Sizes) (k : Kept) → IsKept log sizes k → HasRoom k → 0 < k.book.room
room_left log sizes k kept room =
    let lanes = kept.lanes in
    let each = kept.each_lane in
    omega arith

few_each : (bs : List Begin) → ((b : Begin) → In b bs → length b.request.latches ≤ LIMIT) → weight bs ≤ 16 * length bs
few_each [] h = omega arith
few_each (b ∷ bs) h = by (holds_latches b.mode) (few_each bs (λ x there. h x (inr there)))
  where
    by : (t : Bool) → weight bs ≤ 16 * length bs → cond t (length b.request.latches) 0 + weight bs ≤ 16 * length (b ∷ bs)
    by true e = let f = h b (inl refl) in omega arith
    by false e = omega arith

-- each open request holds at most 16 latches
pub held_few : (log : List Entry) (sizes : Sizes) (k : Kept) → IsKept log sizes k → length (latches_held log) ≤ 16 * length (open_begins log)
held_few log sizes k kept =
    let is : length (latches_held log) ≡ weight (open_begins log) = weight-is (open_begins log) in
    let few = few_each (open_begins log) (λ b there. kept.few b (Contains-from_In (begins log) b
    (filter_of-In (λ (x : Begin). not (has_ended log x.id)) (begins log) b there).0)) in
    omega arith
