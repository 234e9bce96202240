-- The history of three requests: each of its entries may come next.
use Rattle.std.proofs.Common.{◌≡◌, ℕ, ◌+◌, ◌≤◌, List, [], ◌∷◌, ◌++◌, length, refl, arith}
use Rattle.latch_model.specs.Histories.{Begin, begins, entry_of, latches_held, open_begins}
use Rattle.latch_model.specs.Legal.{IsLegal}
use Rattle.latch_model.specs.declared.history.Cause.TheVariants.{None as no_cause}
use Rattle.latch_model.specs.declared.history.Entry.{Entry}
use Rattle.latch_model.specs.declared.history.Fault.TheVariants.{None as no_fault}
use Rattle.latch_model.specs.declared.history.Grant.TheVariants.{Never}
use Rattle.latch_model.specs.declared.latch.Latch.{Latch}
use Rattle.latch_model.specs.declared.latch.Mode.{Mode}
use Rattle.latch_model.specs.declared.latch.Mode.TheVariants.{Acquire, Optimistic, Look}
use Rattle.latch_model.specs.declared.latch.TheConstants.Latches.{LIMIT}
use Rattle.latch_model.proofs.Appending.{legal_begin, legal_end}
use Rattle.latch_model.proofs.Lists.{In-from_Contains}
use Rattle.latch_model.proofs.Weights.{weight-is}
use Rattle.held_latches.specs.Content.{EachOf}
use Rattle.history_latches.specs.Example.{asked, ended, one_begun, one_ended, three_begun, three_sizes, two_begun, two_ended}
use Rattle.history_latches.specs.Logs.{HoldsLog, IsBeginOf, MayBegin, MayEnd}
use Rattle.history_latches.specs.declared.latches.HistoryLatches.{HistoryLatches}
use Rattle.history_latches.proofs.Listing.{each_at}

pub is_asked : (id lane : ℕ) (mode : Mode) (ls : List Latch) → IsBeginOf (asked id lane mode ls) id lane ls mode
is_asked id lane mode ls = record { id_is = refl; lane_is = refl; latches_are = refl; mode_is = refl }

module _ (first second look : List Latch) (one : (length first ≡ 1) × (length second ≡ 1) × (length look ≡ 1)) where
  few_first : length first ≤ LIMIT
  few_first = let (f, l, m) = one in omega arith

  few_second : length second ≤ LIMIT
  few_second = let (f, l, m) = one in omega arith

  few_look : length look ≤ LIMIT
  few_look = let (f, l, m) = one in omega arith

  -- ---- the begins
  legal_none : IsLegal [] three_sizes
  legal_none n e at = cc

  legal_first : IsLegal (one_begun first) three_sizes
  legal_first = legal_begin [] three_sizes (asked 1 0 Acquire first) legal_none
      (record { number = refl; lane_free = refl; lane_there = omega arith; latches_fit = (let (f, l, m) = one in omega arith) })

  legal_second : IsLegal (two_begun first second) three_sizes
  legal_second = legal_begin (one_begun first) three_sizes (asked 2 1 Optimistic second) legal_first (record {
    number = refl;
    lane_free = refl;
    lane_there = omega arith;
    latches_fit =
        let held : length (latches_held (one_begun first)) ≡ length first + 0 = weight-is (open_begins (one_begun first)) in
        let (f, l, m) = one in
        omega arith;
  })

  legal_look : IsLegal (three_begun first second look) three_sizes
  legal_look = legal_begin (two_begun first second) three_sizes (asked 3 2 Look look) legal_second (record {
    number = refl;
    lane_free = refl;
    lane_there = omega arith;
    latches_fit =
        let held : length (latches_held (two_begun first second)) ≡ length first + (length second + 0) = weight-is (open_begins (two_begun first second)) in
        let (f, l, m) = one in
        omega arith;
  })

  begins_next : (h : HistoryLatches) (log : List Entry) (b : Begin) → HoldsLog h log three_sizes → IsLegal (log ++ entry_of b ∷ []) three_sizes →
      EachOf (λ (x : Begin). length x.request.latches ≤ LIMIT) (begins (log ++ entry_of b ∷ [])) → MayBegin h log three_sizes b
  begins_next h log b keeps legal few = record {
    keeps = keeps;
    bounds = record { latches = omega arith; lanes = omega arith; rows = (omega arith, omega arith) };
    legal = legal;
    few = λ x there. each_at (λ (y : Begin). length y.request.latches ≤ LIMIT) (begins (log ++ entry_of b ∷ [])) x few
        (In-from_Contains (begins (log ++ entry_of b ∷ [])) x there);
  }

  pub may_begin_first : (h : HistoryLatches) → HoldsLog h [] three_sizes → MayBegin h [] three_sizes (asked 1 0 Acquire first)
  may_begin_first h keeps = begins_next h [] (asked 1 0 Acquire first) keeps legal_first (few_first, tt)

  pub may_begin_second : (h : HistoryLatches) → HoldsLog h (one_begun first) three_sizes →
      MayBegin h (one_begun first) three_sizes (asked 2 1 Optimistic second)
  may_begin_second h keeps = begins_next h (one_begun first) (asked 2 1 Optimistic second) keeps legal_second (few_first, (few_second, tt))

  pub may_look : (h : HistoryLatches) → HoldsLog h (two_begun first second) three_sizes → MayBegin h (two_begun first second) three_sizes (asked 3 2 Look look)
  may_look h keeps = begins_next h (two_begun first second) (asked 3 2 Look look) keeps legal_look (few_first, (few_second, (few_look, tt)))

  -- ---- the ends
  legal_first_end : IsLegal (one_ended first second look) three_sizes
  legal_first_end = legal_end (three_begun first second look) three_sizes 1 1 Never no_cause no_fault legal_look (record {
    open_now = refl;
    same_session = (asked 1 0 Acquire first, refl, refl);
    legal_grant = tt;
    legal_cause = tt;
    legal_fault = tt;
    spares_named = λ named. cc;
  })

  legal_look_end : IsLegal (two_ended first second look) three_sizes
  legal_look_end = legal_end (one_ended first second look) three_sizes 3 1 Never no_cause no_fault legal_first_end (record {
    open_now = refl;
    same_session = (asked 3 2 Look look, refl, refl);
    legal_grant = tt;
    legal_cause = tt;
    legal_fault = tt;
    spares_named = λ named. cc;
  })

  legal_second_end : IsLegal (two_ended first second look ++ ended 2 ∷ []) three_sizes
  legal_second_end = legal_end (two_ended first second look) three_sizes 2 1 Never no_cause no_fault legal_look_end (record {
    open_now = refl;
    same_session = (asked 2 1 Optimistic second, refl, refl);
    legal_grant = tt;
    legal_cause = tt;
    legal_fault = tt;
    spares_named = λ named. cc;
  })

  pub may_end_first : (h : HistoryLatches) → HoldsLog h (three_begun first second look) three_sizes →
      MayEnd h (three_begun first second look) three_sizes (ended 1) (asked 1 0 Acquire first)
  may_end_first h keeps = record { keeps = keeps; legal = legal_first_end; begun = refl; ends = refl; few = few_first }

  pub may_end_look : (h : HistoryLatches) → HoldsLog h (one_ended first second look) three_sizes →
      MayEnd h (one_ended first second look) three_sizes (ended 3) (asked 3 2 Look look)
  may_end_look h keeps = record { keeps = keeps; legal = legal_look_end; begun = refl; ends = refl; few = few_look }

  pub may_end_second : (h : HistoryLatches) → HoldsLog h (two_ended first second look) three_sizes →
      MayEnd h (two_ended first second look) three_sizes (ended 2) (asked 2 1 Optimistic second)
  may_end_second h keeps = record { keeps = keeps; legal = legal_second_end; begun = refl; ends = refl; few = few_second }
