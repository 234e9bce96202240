-- What is kept stays what the history says, behind a begin and behind an end.
use Rattle.std.proofs.Common.{◌≡◌, ℕ, suc, ◌==◌, ◌+◌, ◌-◌, ◌<◌, ◌≤◌, Bool, true, false, not, ◌&&◌, nat_lt, IsTrue, List, slice_index, []}
use Rattle.std.proofs.Common.{◌∷◌, ◌++◌, length, Some}
use Rattle.std.proofs.Common.{refl, sym, ◌∙◌, ap, subst, inl, inr, arith}
use Rattle.std.proofs.Math.Seq.{take-append_seam, take-length}
use Rattle.std.proofs.lemmas.Bool.{and_parts, not-true}
use Rattle.std.proofs.lemmas.List.{length-append}
use Rattle.std.proofs.lemmas.List.Sums.{count_by-le-length, length-filter}
use Rattle.std.specs.List.{Contains}
use Rattle.latch_model.specs.Declaration.{Declaration}
use Rattle.latch_model.specs.Histories.{Begin, HeldLatch, begin_with, begins, entry_of, has_begun, has_ended, holds_latches, is_open}
use Rattle.latch_model.specs.Histories.{latch_count, latches_held, open_begins}
use Rattle.latch_model.specs.Legal.{IsLegal, IsLegalBegin, IsLegalEnd}
use Rattle.latch_model.specs.Next.{CanBegin}
use Rattle.latch_model.specs.declared.history.Cause.{Cause}
use Rattle.latch_model.specs.declared.history.Entry.{Entry}
use Rattle.latch_model.specs.declared.history.Entry.TheVariants.{Ended}
use Rattle.latch_model.specs.declared.history.Fault.{Fault}
use Rattle.latch_model.specs.declared.history.Grant.{Grant}
use Rattle.latch_model.specs.declared.history.Sizes.{Sizes}
use Rattle.latch_model.specs.declared.latch.Mode.{Mode}
use Rattle.latch_model.specs.declared.latch.Mode.TheVariants.{Acquire, Optimistic, Look}
use Rattle.latch_model.specs.declared.latch.TheConstants.Latches.{LIMIT}
use Rattle.latch_model.proofs.Appending.{IsLegal-below, last_at, no_end_of_next}
use Rattle.latch_model.proofs.Counting.{open_begins-begun, open_count}
use Rattle.latch_model.proofs.Elements.{take_whole}
use Rattle.latch_model.proofs.Growing.{begins-append, begins-end}
use Rattle.latch_model.proofs.Lists.{Contains-from_In, In, In-from_Contains}
use Rattle.latch_model.proofs.Members.{In-append_cases}
use Rattle.signal_board.proofs.Laws.{lane_small}
use Rattle.sequence_core.specs.Book.{BookSays}
use Rattle.history_latches.specs.Logs.{HoldsLog}
use Rattle.history_latches.specs.declared.latches.HistoryLatches.{HistoryLatches}
use Rattle.latch_shots.specs.Held.{others}
use Rattle.history_latches.proofs.Ending.{held_ended}
use Rattle.sequence_core.specs.Kept.{IsKept}
use Rattle.sequence_core.specs.Lanes.{Falls, LanesSays, is_among, lanes_below, least}
use Rattle.sequence_core.specs.Preparing.{AddsBegin, AddsEnd, HasRoom, SameBut, begin_next}
use Rattle.sequence_core.specs.Says.{next_begin}
use Rattle.sequence_core.specs.declared.kept.Kept.{Kept}
use Rattle.sequence_core.proofs.FreeLanes.{AreFree, free_begun, free_ended, its_lane_taken, last_is_least, last_there}
use Rattle.sequence_core.proofs.LaneLists.{among_all, falls_all, falls_front, falls_with, length_all, length_with}

-- a list ends with its last
last_split : (ns : List ℕ) → 0 < length ns → (front : List ℕ) × (ns ≡ front ++ least ns ∷ [])
last_split [] there = absurd (omega arith)
last_split (m ∷ []) there = ([], refl)
last_split (m ∷ n ∷ ns) there =
    let w = last_split (n ∷ ns) (omega arith) in
    let place : length (m ∷ n ∷ ns) - 1 ≡ suc (length (n ∷ ns) - 1) = omega arith in
    (m ∷ w.0, ap (λ xs. m ∷ xs) w.1 ∙ ap (λ x. m ∷ (w.0 ++ x ∷ [])) (sym (ap (λ j. slice_index (m ∷ n ∷ ns) j) place)))

-- each begin opens a request and each end closes one
opened_count : (h : List Entry) (sizes : Sizes) → IsLegal h sizes → length (open_begins h) + length h ≡ length (begins h) + length (begins h)
opened_count h sizes legal =
    subst (λ (t : List Entry). length (open_begins t) + length h ≡ length (begins t) + length (begins t)) (take-length h)
    (open_count h sizes (length h) (IsLegal-below h sizes (length h) legal) (length h) (omega arith) (omega arith))

module _ (log : List Entry) (sizes : Sizes) (k : Kept) (legal : IsLegal log sizes) (kept : IsKept log sizes k) where
  -- where a lane is left one is free
  pub some_free : length (open_begins log) < sizes.lanes → 0 < length k.free.free
  some_free left = let e = kept.each_lane in omega arith

  module _ (left : length (open_begins log) < sizes.lanes) where
    split : (front : List ℕ) × (k.free.free ≡ front ++ least k.free.free ∷ [])
    split = last_split k.free.free (some_free left)

    falls : Falls (split.0 ++ least k.free.free ∷ [])
    falls = subst Falls split.1 kept.falls

    free : AreFree (split.0 ++ least k.free.free ∷ []) log sizes.lanes
    free = subst (λ ns. AreFree ns log sizes.lanes) split.1 kept.free

    -- the begin that comes next
    pub begin_is : (who : ℕ) (mode : Mode) (request : Declaration) → begin_next k who mode request ≡ next_begin log who mode request
    begin_is who mode request = λ i. record {
      id = ap (λ n. n + 1) kept.begun i;
      lane = sym (last_is_least log sizes.lanes split.0 (least k.free.free) falls free) i;
      who = who;
      mode = mode;
      request = request;
    }

    -- and the entry that was made for it
    pub entry_is : (made_who who : ℕ) (mode : Mode) (copy request : Declaration) (e : Entry) → e ≡ entry_of (begin_next k made_who mode copy) →
        made_who ≡ who → copy ≡ request → e ≡ entry_of (next_begin log who mode request)
    entry_is made_who who mode copy request e is same_who same =
        is ∙ ((λ i. entry_of (begin_next k (same_who i) mode (same i))) ∙ ap entry_of (begin_is who mode request))

    pub may_begin : (who : ℕ) (mode : Mode) (request : Declaration) →
        (IsTrue (holds_latches mode) → length (latches_held log) + length request.latches ≤ sizes.latches) →
        CanBegin log sizes (next_begin log who mode request)
    may_begin who mode request fits = record {
      number = refl;
      lane_free = refl;
      lane_there = subst (λ n. n < sizes.lanes) (sym (last_is_least log sizes.lanes split.0 (least k.free.free) falls free))
          (last_there log sizes.lanes split.0 (least k.free.free) falls free);
      latches_fit = by mode fits;
    }
      where
        by : (m : Mode) → (IsTrue (holds_latches m) → length (latches_held log) + length request.latches ≤ sizes.latches) →
            length (latches_held log) + latch_count (next_begin log who m request) ≤ sizes.latches
        by Acquire f = f refl
        by Optimistic f = f refl
        by Look f = let e = kept.fit in omega arith

  -- behind a begin
  module _ (b : Begin) (number : b.id ≡ length (begins log) + 1) (small : length b.request.latches ≤ LIMIT)
      (now_legal : IsLegal (log ++ entry_of b ∷ []) sizes) where
    unended : has_ended log b.id ≡ false
    unended = no_end_of_next log sizes b.id legal (omega arith)

    opened : length (open_begins (log ++ entry_of b ∷ [])) ≡ length (open_begins log) + 1
    opened = ap length (open_begins-begun log b unended) ∙ length-append (open_begins log) (b ∷ [])

    begun_now : begins (log ++ entry_of b ∷ []) ≡ begins log ++ b ∷ []
    begun_now = begins-append log (entry_of b ∷ [])

    fits_now : length (latches_held (log ++ entry_of b ∷ [])) ≤ sizes.latches
    fits_now =
        let here : IsLegalBegin (log ++ entry_of b ∷ []) sizes (length log) b.id b.lane = now_legal (length log) (entry_of b) (last_at log (entry_of b)) in
        subst (λ (t : List Entry). length (latches_held t) ≤ sizes.latches)
        (take_whole (log ++ entry_of b ∷ []) (length log + 1) (omega (arith, length-append log (entry_of b ∷ [])))) here.latches_fit

    pub few_now : (x : Begin) → Contains (begins (log ++ entry_of b ∷ [])) x → length x.request.latches ≤ LIMIT
    few_now x there = elim (In-append_cases (begins log) (b ∷ []) x (subst (In x) begun_now (In-from_Contains (begins (log ++ entry_of b ∷ [])) x there))) [
      | inl early ↦ kept.few x (Contains-from_In (begins log) x early)
      | inr last ↦ elim last [
        | inl e ↦ subst (λ (y : Begin). length y.request.latches ≤ LIMIT) e small
        | inr none ↦ absurd none
      ]
    ]

    pub kept_begun : (new : Kept) → AddsBegin k (entry_of b) b.id b.lane new → HasRoom k → HoldsLog new.held (log ++ entry_of b ∷ []) sizes →
        IsKept (log ++ entry_of b ∷ []) sizes new
    kept_begun new adds room holds = record {
      entries = ap (λ (x : BookSays). x.entries) adds.book ∙ ap (λ es. es ++ entry_of b ∷ []) kept.entries;
      room =
          let left : new.book.room ≡ k.book.room - 1 = ap (λ (x : BookSays). x.room) adds.book in
          let lanes = kept.lanes in
          let each = kept.each_lane in
          let o = opened in
          omega arith;
      begun = adds.begun ∙ (number ∙ sym (ap length begun_now ∙ length-append (begins log) (b ∷ [])));
      lanes = adds.lanes ∙ kept.lanes;
      falls = falls_front new.free.free (b.lane ∷ []) (subst Falls adds.free kept.falls);
      free = free_begun log sizes.lanes new.free.free b.lane (subst Falls adds.free kept.falls)
          (subst (λ ns. AreFree ns log sizes.lanes) adds.free kept.free) b refl unended;
      each_lane =
          let o = opened in
          let l : length k.free.free ≡ length new.free.free + 1 = ap length adds.free ∙ length-append new.free.free (b.lane ∷ []) in
          let each = kept.each_lane in
          omega arith;
      holds = holds;
      fit = fits_now;
      few = few_now;
    }

  -- behind an end
  module _ (id who : ℕ) (grant : Grant) (cause : Cause) (fault : Fault) (b : Begin) (begun : begin_with log id ≡ Some b)
      (now_legal : IsLegal (log ++ Ended id who grant cause fault ∷ []) sizes) where
    still : has_ended log id ≡ false
    still =
        let here : IsLegalEnd (log ++ Ended id who grant cause fault ∷ []) (length log) id who grant cause fault =
        now_legal (length log) (Ended id who grant cause fault) (last_at log (Ended id who grant cause fault)) in
        let open_then : IsTrue (is_open log id) =
        subst (λ (t : List Entry). IsTrue (is_open t id)) (take-append_seam log (Ended id who grant cause fault ∷ [])) here.open_before in
        not-true (has_ended log id) (and_parts (has_begun log id) (not (has_ended log id)) open_then).1

    closed : length (open_begins (log ++ Ended id who grant cause fault ∷ [])) + 1 ≡ length (open_begins log)
    closed =
        let then = opened_count log sizes legal in
        let now = opened_count (log ++ Ended id who grant cause fault ∷ []) sizes now_legal in
        let same : length (begins (log ++ Ended id who grant cause fault ∷ [])) ≡ length (begins log) = ap length (begins-end log id who grant cause fault) in
        let long = length-append log (Ended id who grant cause fault ∷ []) in
        omega arith

    -- there is room for the end, and the lane isn't free
    pub may_end : (0 < k.book.room) × (length k.free.free < k.free.lanes) × (is_among k.free.free b.lane ≡ false)
    may_end =
        let c = closed in
        let r = kept.room in
        let e = kept.each_lane in
        let l = kept.lanes in
        (omega arith, omega arith, its_lane_taken log sizes legal id b begun still k.free.free sizes.lanes kept.free)

    pub kept_ended : (new : Kept) → AddsEnd k (Ended id who grant cause fault) b.lane new →
        HoldsLog new.held (log ++ Ended id who grant cause fault ∷ []) sizes →
        IsKept (log ++ Ended id who grant cause fault ∷ []) sizes new
    kept_ended new adds holds = record {
      entries = ap (λ (x : BookSays). x.entries) adds.book ∙ ap (λ es. es ++ Ended id who grant cause fault ∷ []) kept.entries;
      room =
          let left : new.book.room ≡ k.book.room - 1 = ap (λ (x : BookSays). x.room) adds.book in
          let c = closed in
          let r = kept.room in
          omega arith;
      begun = adds.begun ∙ (kept.begun ∙ sym (ap length (begins-end log id who grant cause fault)));
      lanes = ap (λ (x : LanesSays). x.lanes) adds.free ∙ kept.lanes;
      falls = subst Falls (sym (ap (λ (x : LanesSays). x.free) adds.free))
          (falls_with b.lane k.free.free kept.falls (its_lane_taken log sizes legal id b begun still k.free.free sizes.lanes kept.free));
      free = subst (λ ns. AreFree ns (log ++ Ended id who grant cause fault ∷ []) sizes.lanes) (sym (ap (λ (x : LanesSays). x.free) adds.free))
          (free_ended log sizes legal id b begun still who grant cause fault k.free.free sizes.lanes
          (lane_small log sizes legal id b.lane (b, begun, refl)) kept.free);
      each_lane =
          let longer : length new.free.free ≡ length k.free.free + 1 = ap (λ (x : LanesSays). length x.free) adds.free ∙ length_with b.lane k.free.free in
          let c = closed in
          let e = kept.each_lane in
          omega arith;
      holds = holds;
      fit =
          let less : length (others id (latches_held log)) ≤ length (latches_held log) =
          subst (λ n. n ≤ length (latches_held log)) (sym (length-filter (λ (x : HeldLatch). not (x.by == id)) (latches_held log)))
          (count_by-le-length (λ (x : HeldLatch). not (x.by == id)) (latches_held log)) in
          let is : length (latches_held (log ++ Ended id who grant cause fault ∷ [])) ≡ length (others id (latches_held log)) =
          ap length (held_ended log id who grant cause fault) in
          let f = kept.fit in
          omega arith;
      few = λ x there. kept.few x (subst (λ bs. Contains bs x) (begins-end log id who grant cause fault) there);
    }

-- what is kept of the empty history
pub kept_first : (sizes : Sizes) (k : Kept) → k.book ≡ record { entries = []; room = 0 } → k.begun ≡ 0 →
    k.free ≡ record { free = lanes_below sizes.lanes; lanes = sizes.lanes } → HoldsLog k.held [] sizes → IsKept [] sizes k
kept_first sizes k book begun lanes holds = record {
  entries = ap (λ (x : BookSays). x.entries) book;
  room = omega arith;
  begun = begun;
  lanes = ap (λ (x : LanesSays). x.lanes) lanes;
  falls = subst (λ (x : LanesSays). Falls x.free) (sym lanes) (falls_all sizes.lanes);
  free = subst (λ (x : LanesSays). AreFree x.free [] sizes.lanes) (sym lanes) (λ i. among_all sizes.lanes i ∙ by (nat_lt i sizes.lanes));
  each_lane =
      let n = length_all sizes.lanes in
      let l : length k.free.free ≡ length (lanes_below sizes.lanes) = ap (λ (x : LanesSays). length x.free) lanes in
      omega arith;
  holds = holds;
  fit = omega arith;
  few = λ b there. absurd (In-from_Contains [] b there);
}
  where
    by : (t : Bool) → t ≡ (t && true)
    by true = refl
    by false = refl

-- where nothing but room has changed
pub kept_same : (log : List Entry) (sizes : Sizes) (old new : Kept) → SameBut old new → IsKept log sizes old → IsKept log sizes new
kept_same log sizes old new same kept = record {
  entries = same.entries ∙ kept.entries;
  room = let m = same.room in let r = kept.room in omega arith;
  begun = same.begun ∙ kept.begun;
  lanes = ap (λ (x : LanesSays). x.lanes) same.free ∙ kept.lanes;
  falls = subst (λ (x : LanesSays). Falls x.free) (sym same.free) kept.falls;
  free = subst (λ (x : LanesSays). AreFree x.free log sizes.lanes) (sym same.free) kept.free;
  each_lane = subst (λ (x : LanesSays). length x.free + length (open_begins log) ≡ sizes.lanes) (sym same.free) kept.each_lane;
  holds = subst (λ (h : HistoryLatches). HoldsLog h log sizes) (sym same.held) kept.holds;
  fit = kept.fit;
  few = kept.few;
}
