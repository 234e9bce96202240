-- What a begin finds and leaves, where what is held is what the history says.
use Rattle.std.proofs.Common.{◌≡◌, ℕ, suc, ◌+◌, ◌-◌, ◌*◌, ◌<◌, ◌≤◌, ◌==◌, true, false, cond, List, [], ◌∷◌, ◌++◌, length, refl, sym}
use Rattle.std.proofs.Common.{◌∙◌, ap, subst, inl, true≢false, arith}
use Rattle.std.proofs.Math.Seq.{take-append_seam}
use Rattle.std.proofs.lemmas.Bool.{eq-eqb}
use Rattle.std.proofs.lemmas.List.{length-append}
use Rattle.std.proofs.lemmas.Option.{slice_get_within}
use Rattle.span_key.specs.declared.scopes.Scope.{Scope}
use Rattle.span_key.specs.declared.scopes.Scope.TheVariants.{Global, Local}
use Rattle.latch_model.specs.Deciding.{has_lane}
use Rattle.latch_model.specs.Histories.{Begin, HeldLatch, begins, captures, entry_of, free_lane, has_ended, holds_latches, in_front}
use Rattle.latch_model.specs.Histories.{latches_held, latches_of, open_begins, shot, snapshot_of}
use Rattle.latch_model.specs.Legal.{IsLegal}
use Rattle.latch_model.specs.Metrics.{writes_in}
use Rattle.latch_model.specs.Next.{CanBegin}
use Rattle.latch_model.specs.declared.history.Entry.{Entry}
use Rattle.latch_model.specs.declared.history.Sizes.{Sizes}
use Rattle.latch_model.specs.declared.latch.Access.TheVariants.{Read}
use Rattle.latch_model.specs.declared.latch.Latch.{Latch}
use Rattle.latch_model.specs.declared.latch.Mode.{Mode}
use Rattle.latch_model.specs.declared.latch.TheConstants.Latches.{LIMIT}
use Rattle.latch_model.proofs.Appending.{IsLegal-below, can_begin_of, last_at, legal_prefix_of, no_end_of_next}
use Rattle.latch_model.proofs.Counting.{open_begins-begun}
use Rattle.latch_model.proofs.Growing.{begins-append}
use Rattle.latch_model.proofs.Lanes.{free_lane-free}
use Rattle.latch_model.proofs.Lists.{Contains-from_In, In, In-append_left, In-append_right, list_any-In}
use Rattle.latch_model.proofs.Sentences.{front_is, latches_are}
use Rattle.held_latches.specs.Holding.{Beside, EachHeld, HasSpare, Holds, MayInsert, free_of, size_of, slots_of, writer_of}
use Rattle.held_latches.specs.Lists.{capture, inserted, own_from}
use Rattle.held_latches.specs.declared.held.HeldLatches.{HeldLatches}
use Rattle.history_latches.specs.Logs.{HoldsLog, IsBeginOf, MayBegin, to_hold}
use Rattle.history_latches.specs.declared.latches.HistoryLatches.{HistoryLatches}
use Rattle.history_latches.proofs.Adding.{lists_begun}
use Rattle.history_latches.proofs.Listing.{each_held, lists_in, total_is}
use Rattle.history_latches.proofs.Own.{at_begin, hold_upto, length_hold}
use Rattle.history_latches.proofs.Requests.{number_begun, of_request, open_begun, open_few}
use Rattle.history_latches.proofs.Spare.{needed_spare}
use Rattle.history_latches.proofs.Writers.{writer_begun, writer_upto}

-- the writers of the scopes where the request captured
abbrev pub Captured : HeldLatches → HeldLatches → ℕ → List Latch → Type 0
Captured old new id ls = (scope : Scope) → writer_of new scope ≡ cond (captures ls scope Read) id (writer_of old scope)

module _ (h : HistoryLatches) (log : List Entry) (sizes : Sizes) (b : Begin) (may : MayBegin h log sizes b) where
  before : IsLegal log sizes
  before = legal_prefix_of log (entry_of b ∷ []) sizes may.legal

  can : CanBegin log sizes b
  can = can_begin_of log sizes b may.legal

  new : has_ended log b.id ≡ false
  new = no_end_of_next log sizes b.id before (let n = can.number in omega arith)

  -- the number is above those of the held latches
  above : (x : HeldLatch) → In x (latches_held log) → x.by < b.id
  above x there =
      let o = of_request log x there in
      let n = number_begun log sizes before o.begin (open_begun log sizes before o.begin o.opened) in
      let is = o.by_is in
      let m = can.number in
      omega arith

  -- no open request has the lane
  lane_new : (x : Begin) → In x (open_begins log) → x.lane ≡ b.lane → ⊥
  lane_new x there e =
      let taken : has_lane log (free_lane log) ≡ true =
      list_any-In (λ (y : Begin). y.lane == free_lane log) (open_begins log) x there (eq-eqb x.lane (free_lane log) (e ∙ can.lane_free)) in
      true≢false (sym taken ∙ free_lane-free log)

  few_begun : (x : Begin) → In x (begins log) → length x.request.latches ≤ LIMIT
  few_begun x there = may.few x (Contains-from_In (begins (log ++ entry_of b ∷ [])) x (subst (In x) (sym (begins-append log (entry_of b ∷ [])))
      (In-append_left (begins log) (b ∷ []) x there)))

  few_own : length b.request.latches ≤ LIMIT
  few_own = may.few b (Contains-from_In (begins (log ++ entry_of b ∷ [])) b (subst (In b) (sym (begins-append log (entry_of b ∷ [])))
      (In-append_right (begins log) (b ∷ []) b (inl refl))))

  pub few_seats : length (open_begins log) < 65536
  few_seats = let n = open_few log sizes before in let l = may.bounds.lanes in omega arith

  pub each_above : (id : ℕ) → b.id ≡ id → EachHeld (λ (x : HeldLatch). x.by < id) (lists_in log)
  each_above id is = each_held (λ (x : HeldLatch). x.by < id) (latches_held log) (λ x there. let a = above x there in omega arith)

  -- no held latch is in the way of the request's own
  all_beside : (j : ℕ) → EachHeld (Beside b.id b.lane j) (lists_in log)
  all_beside j = each_held (Beside b.id b.lane j) (latches_held log) (λ x there.
      let o = of_request log x there in
      let a = above x there in
      record {
        other_request = λ e. omega arith;
        other_lane = λ e. absurd (lane_new o.begin o.opened (sym o.lane_is ∙ e));
        low =
            let within = slice_get_within o.begin.request.latches x.place x.latch o.latch_is in
            let few = few_begun o.begin (open_begun log sizes before o.begin o.opened) in
            omega arith;
      })

  -- ---- its latches can come, where there are rows for them
  own_insert : (more : ℕ) → HasSpare h.held (lists_in log) (length (open_begins log)) (13 * length (to_hold b.mode b.request.latches) + more) →
      MayInsert h.held (lists_in log) (length (open_begins log)) more b.id b.lane (length (to_hold b.mode b.request.latches))
  own_insert more spare = record {
    has = spare;
    fits =
        let all = total_is (latches_held log) in
        let fit = can.latches_fit in
        let own = length_hold (holds_latches b.mode) b.request.latches in
        let bound = may.bounds.latches in
        omega arith;
    low = let own = hold_upto (holds_latches b.mode) b.request.latches in let few = few_own in omega arith;
    within = let low = can.lane_there in let is = may.keeps.slots in omega arith;
    writers = (low Global, low Local);
    apart = all_beside (length (to_hold b.mode b.request.latches));
  }
    where
      low : (scope : Scope) → writer_of h.held scope ≤ b.id
      low scope =
          let last = writer_upto scope (begins log) (length (begins log)) (number_begun log sizes before) in
          let is = may.keeps.writers scope in
          let number = can.number in
          omega arith

  -- so many rows are left as aren't needed
  pub can_insert : (id lane : ℕ) (ls : List Latch) (mode : Mode) → IsBeginOf b id lane ls mode → (own : List Latch) → own ≡ to_hold mode ls →
      13 * length (to_hold mode ls) ≤ free_of h.held →
      MayInsert h.held (lists_in log) (length (open_begins log)) (free_of h.held - 13 * length (to_hold mode ls)) id lane (length own)
  can_insert id lane ls mode is own same enough =
      subst (λ (xs : List Latch). MayInsert h.held (lists_in log) (length (open_begins log)) (free_of h.held - 13 * length (to_hold mode ls)) id lane
      (length xs)) (sym same)
      (at_begin (λ i l xs m. (more : ℕ) → HasSpare h.held (lists_in log) (length (open_begins log)) (13 * length (to_hold m xs) + more) →
      MayInsert h.held (lists_in log) (length (open_begins log)) more i l (length (to_hold m xs))) b id lane ls mode is
      own_insert (free_of h.held - 13 * length (to_hold mode ls))
      (needed_spare h.held (lists_in log) (length (open_begins log)) (13 * length (to_hold mode ls)) may.keeps.holds enough))

  -- ---- what is held then is what the history says with the begin
  own_keeps : (k : HistoryLatches) →
      Holds k.held (inserted (own_from b.id b.lane 0 (to_hold b.mode b.request.latches)) (lists_in log)) (suc (length (open_begins log))) →
      (size_of k.held ≡ size_of h.held) × (slots_of k.held ≡ slots_of h.held) → Captured h.held k.held b.id b.request.latches →
      HoldsLog k (log ++ entry_of b ∷ []) sizes
  own_keeps k holds same writers = record {
    holds = subst (λ n. Holds k.held (lists_in (log ++ entry_of b ∷ [])) n) opened
        (subst (λ s. Holds k.held s (suc (length (open_begins log))))
        (sym (lists_begun log b new (λ x there e. let a = above x there in omega arith))) holds);
    writers = λ scope. writers scope ∙ (ap (λ n. cond (writes_in scope b) b.id n) (may.keeps.writers scope) ∙ sym (writer_begun scope log b));
    rows = same.0 ∙ may.keeps.rows;
    slots = same.1 ∙ may.keeps.slots;
  }
    where
      opened : suc (length (open_begins log)) ≡ length (open_begins (log ++ entry_of b ∷ []))
      opened =
          let e = ap length (open_begins-begun log b new) in
          let more = length-append (open_begins log) (b ∷ []) in
          omega arith

  pub keeps_begun : (id lane : ℕ) (ls : List Latch) (mode : Mode) → IsBeginOf b id lane ls mode → (k : HistoryLatches) (own : List Latch) →
      own ≡ to_hold mode ls → Holds k.held (inserted (own_from id lane 0 own) (lists_in log)) (suc (length (open_begins log))) →
      (size_of k.held ≡ size_of h.held) × (slots_of k.held ≡ slots_of h.held) → Captured h.held k.held id ls → HoldsLog k (log ++ entry_of b ∷ []) sizes
  keeps_begun id lane ls mode is k own same holds sized writers =
      at_begin (λ i l xs m. Holds k.held (inserted (own_from i l 0 (to_hold m xs)) (lists_in log)) (suc (length (open_begins log))) →
      Captured h.held k.held i xs → HoldsLog k (log ++ entry_of b ∷ []) sizes) b id lane ls mode is
      (λ then from. own_keeps k then sized from)
      (subst (λ (xs : List Latch). Holds k.held (inserted (own_from id lane 0 xs) (lists_in log)) (suc (length (open_begins log)))) same holds) writers

  -- The model's snapshot is what the request captures of the lists.
  pub shot_is : (ls : List Latch) → b.request.latches ≡ ls → shot (log ++ entry_of b ∷ []) b.id ≡ capture ls (lists_in log)
  shot_is ls is =
      ap (λ (xs : List Latch). snapshot_of xs (latches_held (in_front (log ++ entry_of b ∷ []) b.id))) own
      ∙ ap (λ (earlier : List Entry). snapshot_of ls (latches_held earlier)) front
    where
      all : List Entry
      all = log ++ entry_of b ∷ []

      inside : length log < length (log ++ entry_of b ∷ [])
      inside = slice_get_within (log ++ entry_of b ∷ []) (length log) (entry_of b) (last_at log (entry_of b))

      own : latches_of (log ++ entry_of b ∷ []) b.id ≡ ls
      own = latches_are all sizes (length all) (IsLegal-below all sizes (length all) may.legal) (length log) b.id b.request.latches inside
          (b, last_at log (entry_of b), refl, refl) ∙ is

      front : in_front (log ++ entry_of b ∷ []) b.id ≡ log
      front = front_is all sizes (length all) (IsLegal-below all sizes (length all) may.legal) (length log) b.id b.request.latches inside
          (b, last_at log (entry_of b), refl, refl) ∙ take-append_seam log (entry_of b ∷ [])
