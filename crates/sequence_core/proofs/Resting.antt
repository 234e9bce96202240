-- A desk between two calls, and behind one more entry.
use Rattle.std.proofs.Common.{◌≡◌, ℕ, ◌+◌, ◌<◌, ◌≤◌, ◌^◌, Bool, true, false, cond, List, [], ◌∷◌, ◌++◌, length, slice_get}
use Rattle.std.proofs.Common.{Some, None, refl, inl, inr, length-append, sym, ◌∙◌, ap, subst, arith}
use Rattle.std.proofs.lemmas.Bool.Decides.{nat_tests}
use Rattle.atomic_table.specs.Seated.{TableId}
use Rattle.latch_model.specs.Histories.{Begin, begin_with, latches_held, open_begins}
use Rattle.latch_model.specs.Legal.{IsLegal}
use Rattle.latch_model.specs.declared.history.Cause.{Cause}
use Rattle.latch_model.specs.declared.history.Entry.{Entry}
use Rattle.latch_model.specs.declared.history.Entry.TheVariants.{Ended}
use Rattle.latch_model.specs.declared.history.Fault.{Fault}
use Rattle.latch_model.specs.declared.history.Grant.{Grant}
use Rattle.latch_model.specs.declared.history.Sizes.{Sizes}
use Rattle.latch_model.specs.declared.latch.Latch.{Latch}
use Rattle.latch_model.specs.declared.latch.Mode.{Mode}
use Rattle.latch_model.proofs.Appending.{last_or_earlier}
use Rattle.signal_board.specs.Says.{DeskSays, PassSays}
use Rattle.sequence_core.specs.Bounds.{bad_size, outside}
use Rattle.history_latches.specs.Logs.{HoldsLog, InBounds, free_of}
use Rattle.sequence_core.specs.Kept.{IsKept, Rests}
use Rattle.sequence_core.specs.Preparing.{AddsEnd, FitsIn, Lacks, RowsFor, SameBut}
use Rattle.sequence_core.specs.Says.{AreFresh, DeskState, HasPlace, HasRows, Refuses, fresh_pass}
use Rattle.sequence_core.specs.declared.fault.SeqFault.{SeqFault}
use Rattle.sequence_core.specs.declared.fault.SeqFault.TheVariants.{LatchesFull, RowsOut, Memory}
use Rattle.sequence_core.specs.declared.fault.Which.TheVariants.{Latches, Lanes, Rows}
use Rattle.sequence_core.specs.declared.kept.Kept.{Kept}
use Rattle.sequence_core.specs.declared.limits.TheConstants.{MOST_LATCHES, MOST_LANES, FEWEST_ROWS, MOST_ROWS}
use Rattle.sequence_core.proofs.Keeping.{kept_ended, kept_same}
use Rattle.sequence_core.proofs.NextRequest.{held_few}

inside : (low high n : ℕ) → outside low high n ≡ false → (low ≤ n) × (n ≤ high)
inside low high n e = (grind (arith, nat_tests), grind (arith, nat_tests))

-- sizes of which none is out of bounds
pub in_bounds : (s : Sizes) → bad_size s ≡ None → InBounds s
in_bounds s e = by (outside 1 MOST_LATCHES s.latches) (outside 1 MOST_LANES s.lanes) (outside FEWEST_ROWS MOST_ROWS s.rows) refl refl refl e
  where
    by : (a b r : Bool) → outside 1 MOST_LATCHES s.latches ≡ a → outside 1 MOST_LANES s.lanes ≡ b → outside FEWEST_ROWS MOST_ROWS s.rows ≡ r →
        cond a (Some Latches) (cond b (Some Lanes) (cond r (Some Rows) None)) ≡ None → InBounds s
    by true b r f g h n = cc
    by false true r f g h n = cc
    by false false true f g h n = cc
    by false false false f g h n =
        let latches = inside 1 MOST_LATCHES s.latches f in
        let lanes = inside 1 MOST_LANES s.lanes g in
        let rows = inside FEWEST_ROWS MOST_ROWS s.rows h in
        record { latches = latches.1; lanes = lanes.1; rows = (omega arith, rows.1) }

module _ (seat : DeskSays) (sizes : Sizes) (k : Kept) (rests : Rests seat sizes k) where
  bounds : InBounds sizes
  bounds = in_bounds sizes rests.bounds

  pub held_small : length (latches_held seat.log) < 2 ^ 16
  held_small =
      let fit = rests.kept.fit in
      let b = bounds.latches in
      omega arith

  pub lanes_small : (length k.free.free ≤ k.free.lanes) × (k.free.lanes < 2 ^ 16)
  lanes_small =
      let each = rests.kept.each_lane in
      let same = rests.kept.lanes in
      let b = bounds.lanes in
      (omega arith, omega arith)

  -- why a request can't begin, said of the history
  pub refuses : (mode : Mode) (ls : List Latch) (fault : SeqFault) (state : DeskState) → state.log ≡ seat.log → state.sizes ≡ sizes →
      state.free ≡ free_of k.held → length (open_begins seat.log) < sizes.lanes →
      Lacks sizes.latches mode (length (latches_held seat.log)) (free_of k.held) ls fault → Refuses state mode ls fault
  refuses mode ls fault state logs same free left lacks =
      subst (λ (x : List Entry × Sizes × ℕ). Refuses (record state { log = x.0; sizes = x.1; free = x.2 }) mode ls fault)
      (λ i. (sym logs i, sym same i, sym free i)) (by fault lacks)
    where
      by : (f : SeqFault) → Lacks sizes.latches mode (length (latches_held seat.log)) (free_of k.held) ls f →
          Refuses (record state { log = seat.log; sizes = sizes; free = free_of k.held }) mode ls f
      by (LatchesFull held asked) l =
          let few = held_few seat.log sizes k rests.kept in
          let h = l.1 in
          (l.0, h, l.2, let a = l.2 in let over = l.3 in omega arith, omega arith)
      by (RowsOut free need) l = (l.0, l.2, (l.1, l.3, let f = l.2 in let over = l.4 in omega arith))
      by Memory l = l

  pub has_place : (mode : Mode) (ls : List Latch) (state : DeskState) → state.log ≡ seat.log → state.sizes ≡ sizes → state.free ≡ free_of k.held →
      FitsIn sizes.latches mode (length (latches_held seat.log)) (length ls) × RowsFor mode (free_of k.held) ls → HasPlace state mode ls × HasRows state mode ls
  has_place mode ls state logs same free fits =
      subst (λ (x : List Entry × Sizes × ℕ). HasPlace (record state { log = x.0; sizes = x.1; free = x.2 }) mode ls
      × HasRows (record state { log = x.0; sizes = x.1; free = x.2 }) mode ls) (λ i. (sym logs i, sym same i, sym free i)) fits

  pub rests_same : (new : Kept) → SameBut k new → Rests seat sizes new
  rests_same new same = record {
    bounds = rests.bounds;
    same_sizes = rests.same_sizes;
    given = rests.given;
    legal = rests.legal;
    kept = kept_same seat.log sizes k new same rests.kept;
  }

  -- behind an end
  pub rests_ended : (id who : ℕ) (grant : Grant) (cause : Cause) (fault : Fault) (b : Begin) → begin_with seat.log id ≡ Some b →
      IsLegal (seat.log ++ Ended id who grant cause fault ∷ []) seat.sizes → (new : Kept) → AddsEnd k (Ended id who grant cause fault) b.lane new →
      HoldsLog new.held (seat.log ++ Ended id who grant cause fault ∷ []) sizes →
      Rests (record seat { log = seat.log ++ Ended id who grant cause fault ∷ [] }) sizes new
  rests_ended id who grant cause fault b begun legal new adds holds =
      let now : IsLegal (seat.log ++ Ended id who grant cause fault ∷ []) sizes =
      subst (λ (s : Sizes). IsLegal (seat.log ++ Ended id who grant cause fault ∷ []) s) rests.same_sizes legal in
      record {
        bounds = rests.bounds;
        same_sizes = rests.same_sizes;
        given = rests.given;
        legal = now;
        kept = kept_ended seat.log sizes k rests.legal rests.kept id who grant cause fault b begun now new adds holds;
      }

-- The passes of a new desk, one after another.
pub fresh_next : (table : TableId) (n : ℕ) (passes next : List PassSays) (p : PassSays) → AreFresh table n passes → next ≡ passes ++ p ∷ [] →
    p ≡ fresh_pass table (n + 1) → AreFresh table (n + 1) next
fresh_next table n passes next p fresh is last = record {
  as_many = let long : length next ≡ length passes + 1 = ap length is ∙ length-append passes (p ∷ []) in let many = fresh.as_many in omega arith;
  each = λ i q at. elim (last_or_earlier passes p i q (sym (ap (λ (l : List PassSays). slice_get l i) is) ∙ at)) [
    | inl early ↦ fresh.each i q early
    | inr w ↦ sym w.1 ∙ (last ∙ ap (λ k. fresh_pass table (k + 1)) (let many = fresh.as_many in let place = w.0 in omega arith))
  ];
}

-- a new desk
pub rests_first : (table : TableId) (seat : DeskSays) (sizes : Sizes) (k : Kept) → bad_size sizes ≡ None →
    seat ≡ record { table = table; sizes = sizes; log = []; given = sizes.lanes; retired = [] } → IsKept [] sizes k → Rests seat sizes k
rests_first table seat sizes k bounds is kept =
    subst (λ (x : DeskSays). Rests x sizes k) (sym is) (record {
      bounds = bounds;
      same_sizes = refl;
      given = refl;
      legal = λ n e at. cc;
      kept = kept;
    })
