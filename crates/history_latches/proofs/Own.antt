-- The latches that a request holds of those that it declares.
use Rattle.std.proofs.Common.{◌≡◌, ℕ, ◌≤◌, Bool, true, false, cond, List, [], length, slice_get, Some, refl, subst, arith}
use Rattle.latch_model.specs.Histories.{Begin}
use Rattle.latch_model.specs.declared.latch.Latch.{Latch}
use Rattle.latch_model.specs.declared.latch.Mode.{Mode}
use Rattle.history_latches.specs.Logs.{IsBeginOf}

-- What holds at a begin's own number, lane, latches and mode holds at those that it is of.
pub at_begin : (P : ℕ → ℕ → List Latch → Mode → Type 0) (b : Begin) (id lane : ℕ) (ls : List Latch) (mode : Mode) → IsBeginOf b id lane ls mode →
    P b.id b.lane b.request.latches b.mode → P id lane ls mode
at_begin P b id lane ls mode is p =
    subst (λ (x : ℕ × ℕ × List Latch × Mode). P x.0 x.1 x.2 x.3)
    (λ i. (is.id_is i, is.lane_is i, is.latches_are i, is.mode_is i)) p

pub length_hold : (t : Bool) (ls : List Latch) → length (cond t ls []) ≡ cond t (length ls) 0
length_hold true ls = refl
length_hold false ls = refl

pub hold_upto : (t : Bool) (ls : List Latch) → length (cond t ls []) ≤ length ls
hold_upto true ls = omega arith
hold_upto false ls = omega arith

pub hold_all : (t : Bool) (ls : List Latch) → t ≡ true → cond t ls [] ≡ ls
hold_all true ls e = refl
hold_all false ls e = cc

-- a latch that a request holds
pub hold_at : (t : Bool) (ls : List Latch) (k : ℕ) (l : Latch) → slice_get (cond t ls []) k ≡ Some l → (t ≡ true) × (slice_get ls k ≡ Some l)
hold_at true ls k l at = (refl, at)
hold_at false ls k l at = cc
