-- What a begin and an end need of the held latches.
use Rattle.std.proofs.Common.{◌≡◌, ◌+◌, ◌*◌, ◌≤◌, ℕ, IsTrue, Bool, true, false, cond, List, [], ◌∷◌, ◌++◌, length, Some, refl, arith}
use Rattle.std.proofs.lemmas.Bool.{eq-eqb}
use Rattle.latch_model.specs.Histories.{Begin, begin_with, begins, entry_of, holds_latches}
use Rattle.latch_model.specs.Legal.{IsLegal}
use Rattle.latch_model.specs.declared.history.Cause.{Cause}
use Rattle.latch_model.specs.declared.history.Entry.{Entry}
use Rattle.latch_model.specs.declared.history.Entry.TheVariants.{Ended}
use Rattle.latch_model.specs.declared.history.Fault.{Fault}
use Rattle.latch_model.specs.declared.history.Grant.{Grant}
use Rattle.latch_model.specs.declared.history.Sizes.{Sizes}
use Rattle.latch_model.specs.declared.latch.Latch.{Latch}
use Rattle.latch_model.specs.declared.latch.Mode.{Mode}
use Rattle.latch_model.specs.declared.latch.TheConstants.Latches.{LIMIT}
use Rattle.history_latches.specs.Logs.{InBounds, MayBegin, MayEnd, to_hold}
use Rattle.sequence_core.specs.Kept.{IsKept}
use Rattle.sequence_core.specs.Preparing.{RowsFor}
use Rattle.sequence_core.specs.declared.kept.Kept.{Kept}
use Rattle.sequence_core.proofs.Keeping.{few_now}

pub begins_held : (log : List Entry) (sizes : Sizes) (k : Kept) → IsLegal log sizes → IsKept log sizes k → InBounds sizes → (b : Begin) →
    b.id ≡ length (begins log) + 1 → length b.request.latches ≤ LIMIT → IsLegal (log ++ entry_of b ∷ []) sizes → MayBegin k.held log sizes b
begins_held log sizes k legal kept bounds b number small now_legal = record {
  keeps = kept.holds;
  bounds = bounds;
  legal = now_legal;
  few = few_now log sizes k legal kept b number small now_legal;
}

pub ends_held : (log : List Entry) (sizes : Sizes) (k : Kept) → IsKept log sizes k → (id who : ℕ) (grant : Grant) (cause : Cause) (fault : Fault) (b : Begin) →
    id ≡ b.id → begin_with log b.id ≡ Some b → length b.request.latches ≤ LIMIT → IsLegal (log ++ Ended id who grant cause fault ∷ []) sizes →
    MayEnd k.held log sizes (Ended id who grant cause fault) b
ends_held log sizes k kept id who grant cause fault b same begun small legal = record {
  keeps = kept.holds;
  legal = legal;
  begun = begun;
  ends = eq-eqb id b.id same;
  few = small;
}

-- the rows that are asked for are those of the latches that will be held
pub rows_held : (mode : Mode) (free : ℕ) (ls : List Latch) → RowsFor mode free ls → 13 * length (to_hold mode ls) ≤ free
rows_held mode free ls rows = by (holds_latches mode) rows
  where
    by : (t : Bool) → (IsTrue t → 13 * length ls ≤ free) → 13 * length (cond t ls []) ≤ free
    by true enough = enough refl
    by false enough = omega arith
