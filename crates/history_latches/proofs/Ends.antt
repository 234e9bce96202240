-- What an end finds and leaves, where what is held is what the history says.
use Rattle.std.proofs.Common.{IsTrue, ◌≡◌, ℕ, suc, ◌+◌, ◌≤◌, true, false, not, List, [], ◌∷◌, ◌++◌, length, slice_get, Some, sym}
use Rattle.std.proofs.Common.{◌∙◌, ap, subst, arith}
use Rattle.std.proofs.Math.Seq.{take-length}
use Rattle.std.proofs.lemmas.Bool.{and_parts, eqb-true, not-true}
use Rattle.std.proofs.lemmas.List.{length-append}
use Rattle.span_key.specs.Scopes.{scope_of}
use Rattle.span_key.specs.declared.scopes.Scope.{Scope}
use Rattle.latch_model.specs.Histories.{Begin, HeldLatch, begins, has_begun, has_ended, holds_latches, is_end, latches_held}
use Rattle.latch_model.specs.Histories.{open_begins}
use Rattle.latch_model.specs.Legal.{IsLegal}
use Rattle.latch_model.specs.declared.history.Cause.{Cause}
use Rattle.latch_model.specs.declared.history.Entry.{Entry}
use Rattle.latch_model.specs.declared.history.Entry.TheVariants.{Begun, Ended}
use Rattle.latch_model.specs.declared.history.Fault.{Fault}
use Rattle.latch_model.specs.declared.history.Grant.{Grant}
use Rattle.latch_model.specs.declared.history.Sizes.{Sizes}
use Rattle.latch_model.specs.declared.latch.Latch.{Latch}
use Rattle.latch_model.specs.declared.latch.Mode.{Mode}
use Rattle.latch_model.specs.declared.latch.TheConstants.Latches.{LIMIT}
use Rattle.latch_model.proofs.Appending.{IsLegal-below, can_end_of, legal_prefix_of}
use Rattle.latch_model.proofs.Counting.{open_count}
use Rattle.latch_model.proofs.Growing.{begins-end}
use Rattle.latch_model.proofs.Lists.{In}
use Rattle.held_latches.specs.Content.{EachOf, IsIn}
use Rattle.held_latches.specs.Holding.{Holds, HoldsOwn, own_latch, size_of, slots_of, writer_of}
use Rattle.held_latches.specs.Lists.{without_by}
use Rattle.held_latches.specs.Taking.{IsOwn, OnlyOwn}
use Rattle.history_latches.specs.Logs.{HoldsLog, IsBeginOf, MayEnd, to_hold}
use Rattle.history_latches.specs.Writers.{last_writer}
use Rattle.history_latches.specs.declared.latches.HistoryLatches.{HistoryLatches}
use Rattle.history_latches.proofs.Ending.{lists_ended}
use Rattle.history_latches.proofs.Listing.{access_is, access_own, each_listed, is_listed, list_is, lists_in, scope_is, scope_of_own}
use Rattle.history_latches.proofs.Own.{at_begin, hold_all, hold_at, hold_upto}
use Rattle.history_latches.proofs.Requests.{is_held, is_opened, of_request, one_begin, open_begun}

-- each begin opens a request and each end closes one
opened_count : (h : List Entry) (sizes : Sizes) → IsLegal h sizes → length (open_begins h) + length h ≡ length (begins h) + length (begins h)
opened_count h sizes legal =
    subst (λ (t : List Entry). length (open_begins t) + length h ≡ length (begins t) + length (begins t)) (take-length h)
    (open_count h sizes (length h) (IsLegal-below h sizes (length h) legal) (length h) (omega arith) (omega arith))

-- an end of this number
ended_as : (k : ℕ) (e : Entry) → IsTrue (is_end k e) →
    (who : ℕ) × (grant : Grant) × (cause : Cause) × (fault : Fault) × (e ≡ Ended k who grant cause fault)
ended_as k (Begun id lane who mode request) t = cc
ended_as k (Ended id who grant cause fault) t = (who, grant, cause, fault, ap (λ n. Ended n who grant cause fault) (eqb-true id k t))

module _ (h : HistoryLatches) (log : List Entry) (sizes : Sizes) (e : Entry) (b : Begin) (may : MayEnd h log sizes e b) where
  before : IsLegal log sizes
  before = legal_prefix_of log (e ∷ []) sizes may.legal

  end : (who : ℕ) × (grant : Grant) × (cause : Cause) × (fault : Fault) × (e ≡ Ended b.id who grant cause fault)
  end = ended_as b.id e may.ends

  legal_end : IsLegal (log ++ Ended b.id end.0 end.1 end.2 end.3 ∷ []) sizes
  legal_end = subst (λ (x : Entry). IsLegal (log ++ x ∷ []) sizes) end.4 may.legal

  still : has_ended log b.id ≡ false
  still = not-true (has_ended log b.id) (and_parts (has_begun log b.id) (not (has_ended log b.id))
      (can_end_of log sizes b.id end.0 end.1 end.2 end.3 legal_end).open_now).1

  opened : In b (open_begins log)
  opened = is_opened log sizes before b.id b may.begun still

  same_begins : begins (log ++ e ∷ []) ≡ begins log
  same_begins = ap (λ (x : Entry). begins (log ++ x ∷ [])) end.4 ∙ begins-end log b.id end.0 end.1 end.2 end.3

  -- one less is open
  closed : length (open_begins log) ≡ suc (length (open_begins (log ++ e ∷ [])))
  closed =
      let then = opened_count log sizes before in
      let now = opened_count (log ++ e ∷ []) sizes may.legal in
      let same = ap length same_begins in
      let long = length-append log (e ∷ []) in
      omega arith

  -- ---- its latches are held, each in its list, and no others are by it
  own_there : HoldsOwn (lists_in log) b.id b.lane (to_hold b.mode b.request.latches) 0
  own_there k l low at =
      let w = hold_at (holds_latches b.mode) b.request.latches k l at in
      subst (IsIn (own_latch b.id b.lane k l)) (sym (list_is (latches_held log) (scope_of l.span) l.access))
      (is_listed (latches_held log) (scope_of l.span) l.access (record { by = b.id; lane = b.lane; place = k; latch = l })
      (is_held log b k l opened w.0 w.1) (scope_of_own l) (access_own l))

  own_only : OnlyOwn (lists_in log) b.id (to_hold b.mode b.request.latches)
  own_only scope access =
      subst (EachOf (λ (y : HeldLatch). y.by ≡ b.id → IsOwn (to_hold b.mode b.request.latches) scope access y)) (sym (list_is (latches_held log) scope access))
      (each_listed (λ (y : HeldLatch). y.by ≡ b.id → IsOwn (to_hold b.mode b.request.latches) scope access y) (latches_held log) scope access
      (λ x there scoped accessed by_it.
      let o = of_request log x there in
      let same = one_begin log sizes before o.begin b (open_begun log sizes before o.begin o.opened) (open_begun log sizes before b opened)
      (sym o.by_is ∙ by_it) in
      let holding : holds_latches b.mode ≡ true = subst (λ (y : Begin). holds_latches y.mode ≡ true) same o.holding in
      record {
        latch = x.latch;
        here =
            ap (λ (ls : List Latch). slice_get ls x.place) (hold_all (holds_latches b.mode) b.request.latches holding)
            ∙ subst (λ (y : Begin). slice_get y.request.latches x.place ≡ Some x.latch) same o.latch_is;
        scope_is = scope_is scope x.latch scoped;
        access_is = access_is access x.latch accessed;
      }))

  pub can_remove : (id lane : ℕ) (ls : List Latch) (mode : Mode) → IsBeginOf b id lane ls mode → (own : List Latch) → own ≡ to_hold mode ls →
      HoldsOwn (lists_in log) id lane own 0 × OnlyOwn (lists_in log) id own
  can_remove id lane ls mode is own same =
      subst (λ (xs : List Latch). HoldsOwn (lists_in log) id lane xs 0 × OnlyOwn (lists_in log) id xs) (sym same)
      (at_begin (λ i l xs m. HoldsOwn (lists_in log) i l (to_hold m xs) 0 × OnlyOwn (lists_in log) i (to_hold m xs)) b id lane ls mode is (own_there, own_only))

  pub few_held : (id lane : ℕ) (ls : List Latch) (mode : Mode) → IsBeginOf b id lane ls mode → (own : List Latch) → own ≡ to_hold mode ls → length own ≤ LIMIT
  few_held id lane ls mode is own same =
      let all = hold_upto (holds_latches mode) ls in
      let few = may.few in
      let long : length own ≡ length (to_hold mode ls) = ap length same in
      let declared : length b.request.latches ≡ length ls = ap length is.latches_are in
      omega arith

  -- ---- what is held then is what the history says with the end
  pub keeps_ended : (id : ℕ) → b.id ≡ id → (k : HistoryLatches) (n : ℕ) → length (open_begins log) ≡ suc n → Holds k.held (without_by id (lists_in log)) n →
      (size_of k.held ≡ size_of h.held) × (slots_of k.held ≡ slots_of h.held) → ((scope : Scope) → writer_of k.held scope ≡ writer_of h.held scope) →
      HoldsLog k (log ++ e ∷ []) sizes
  keeps_ended id is k n less holds same writers = record {
    holds = subst (λ m. Holds k.held (lists_in (log ++ e ∷ [])) m) count
        (subst (λ s. Holds k.held s n) (ap (λ i. without_by i (lists_in log)) (sym is) ∙ sym lists) holds);
    writers = λ scope. writers scope ∙ (may.keeps.writers scope ∙ ap (last_writer scope) (sym same_begins));
    rows = same.0 ∙ may.keeps.rows;
    slots = same.1 ∙ may.keeps.slots;
  }
    where
      count : n ≡ length (open_begins (log ++ e ∷ []))
      count = let c = closed in omega arith

      lists : lists_in (log ++ e ∷ []) ≡ without_by b.id (lists_in log)
      lists = ap (λ (x : Entry). lists_in (log ++ x ∷ [])) end.4 ∙ lists_ended log b.id end.0 end.1 end.2 end.3
