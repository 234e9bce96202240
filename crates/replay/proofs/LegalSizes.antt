-- Legality asks a history's sizes for its latches and lanes, and for no rows.
use Rattle.std.proofs.Common.{◌≡◌, ◌+◌, ◌<◌, ◌≤◌, List, length, take, subst}
use Rattle.latch_model.specs.Histories.{latches_held}
use Rattle.latch_model.specs.Legal.{IsLegal, IsLegalBegin}
use Rattle.latch_model.specs.declared.history.Entry.{Entry}
use Rattle.latch_model.specs.declared.history.Entry.TheVariants.{Begun, Ended}
use Rattle.latch_model.specs.declared.history.Sizes.{Sizes}

pub legal_at : (h : List Entry) (old new : Sizes) → old.latches ≡ new.latches → old.lanes ≡ new.lanes → IsLegal h old → IsLegal h new
legal_at h old new latches lanes legal n (Begun id lane who mode request) at =
    let begin : IsLegalBegin h old n id lane = legal n (Begun id lane who mode request) at in
    record {
      number = begin.number;
      lane_free = begin.lane_free;
      lane_there = subst (λ k. lane < k) lanes begin.lane_there;
      latches_fit = subst (λ k. length (latches_held (take (n + 1) h)) ≤ k) latches begin.latches_fit;
    }
legal_at h old new latches lanes legal n (Ended id who grant poison fault) at = legal n (Ended id who grant poison fault) at
