-- The free lanes behind one more entry.
use Rattle.std.proofs.Common.{◌≡◌, ℕ, ◌==◌, ◌<◌, Bool, true, false, not, ◌&&◌, ◌||◌, nat_lt, List, [], ◌∷◌, ◌++◌, length, Some}
use Rattle.std.proofs.Common.{refl, sym, ◌∙◌, ap, subst, arith}
use Rattle.std.proofs.Math.Bool.{or-false}
use Rattle.std.proofs.Math.Seq.{take-length}
use Rattle.std.proofs.lemmas.Bool.{and_parts, eq-eqb, eqb-true, false_from_ne_true, lt-ltb, ltb-true, ne_eqb, not-true, not_from_false, true_from_ne_false}
use Rattle.std.proofs.lemmas.List.Folds.{list_any-append}
use Rattle.std.proofs.lemmas.Option.{same_Some}
use Rattle.std.specs.List.{filter, list_any}
use Rattle.latch_model.specs.Deciding.{has_lane}
use Rattle.latch_model.specs.Histories.{Begin, begin_with, begins, entry_of, free_lane, has_ended, open_begins}
use Rattle.latch_model.specs.Legal.{IsLegal}
use Rattle.latch_model.specs.declared.history.Cause.{Cause}
use Rattle.latch_model.specs.declared.history.Entry.{Entry}
use Rattle.latch_model.specs.declared.history.Entry.TheVariants.{Ended}
use Rattle.latch_model.specs.declared.history.Fault.{Fault}
use Rattle.latch_model.specs.declared.history.Grant.{Grant}
use Rattle.latch_model.specs.declared.history.Sizes.{Sizes}
use Rattle.latch_model.proofs.Appending.{IsLegal-below, lanes_differ}
use Rattle.latch_model.proofs.Begins.{begun_among, begun_id, place_within}
use Rattle.latch_model.proofs.Counting.{begin_is, open_begins-begun, open_begins-ended}
use Rattle.latch_model.proofs.Lanes.{free_lane_is}
use Rattle.latch_model.proofs.Lists.{In, In-filter, list_any-In}
use Rattle.latch_model.proofs.Members.{filter_of-In, list_any_of}
use Rattle.latch_model.proofs.Ordered.{stands_at}
use Rattle.sequence_core.specs.Lanes.{Falls, is_among, with_lane}
use Rattle.sequence_core.proofs.LaneLists.{above_last, among_last, among_with}

-- A list has the lanes that no open request has.
abbrev pub AreFree : List ℕ → List Entry → ℕ → Type 0
AreFree free log lanes = (lane : ℕ) → is_among free lane ≡ (nat_lt lane lanes && not (has_lane log lane))

module _ (log : List Entry) (lanes : ℕ) (front : List ℕ) (lane : ℕ) (falls : Falls (front ++ lane ∷ [])) (free : AreFree (front ++ lane ∷ []) log lanes) where
  last_among : is_among (front ++ lane ∷ []) lane ≡ true
  last_among = among_last front lane lane ∙ (ap (λ b. is_among front lane || b) (eq-eqb lane lane refl) ∙ by (is_among front lane))
    where
      by : (b : Bool) → (b || true) ≡ true
      by true = refl
      by false = refl

  last_parts : (nat_lt lane lanes ≡ true) × (not (has_lane log lane) ≡ true)
  last_parts = and_parts (nat_lt lane lanes) (not (has_lane log lane)) (sym (free lane) ∙ last_among)

  -- the last of the free lanes is there
  pub last_there : lane < lanes
  last_there = ltb-true lane lanes last_parts.0

  not_in_front : is_among front lane ≡ false
  not_in_front = false_from_ne_true (is_among front lane) (λ t. let more = above_last front lane lane falls t in absurd (omega arith))

  below_taken : (i : ℕ) → i < lane → has_lane log i ≡ true
  below_taken i lt = true_from_ne_false (has_lane log i) (λ none.
      let there : is_among (front ++ lane ∷ []) i ≡ true =
      free i ∙ (ap (λ b. b && not (has_lane log i)) (lt-ltb i lanes (let l = last_there in omega arith)) ∙ ap not none) in
      let differ : (lane == i) ≡ false = ne_eqb lane i (λ e. omega arith) in
      let early : is_among front i ≡ true =
      sym (or-false (is_among front i)) ∙ (ap (λ b. is_among front i || b) (sym differ) ∙ (sym (among_last front lane i) ∙ there)) in
      let more = above_last front lane i falls early in
      absurd (omega arith))

  -- and is the least that no open request has
  pub last_is_least : free_lane log ≡ lane
  last_is_least = free_lane_is log lane below_taken (not-true (has_lane log lane) last_parts.1)

  -- without it the others are free behind a begin in it
  pub free_begun : (b : Begin) → b.lane ≡ lane → has_ended log b.id ≡ false → AreFree front (log ++ entry_of b ∷ []) lanes
  free_begun b is new i = by (lane == i) refl
    where
      more : has_lane (log ++ entry_of b ∷ []) i ≡ (has_lane log i || (lane == i))
      more =
          ap (list_any (λ (x : Begin). x.lane == i)) (open_begins-begun log b new)
          ∙ (list_any-append (λ (x : Begin). x.lane == i) (open_begins log) (b ∷ [])
          ∙ ap (λ t. has_lane log i || t) (or-false (b.lane == i) ∙ ap (λ k. k == i) is))

      off : (s t : Bool) → (s && not (t || true)) ≡ false
      off true true = refl
      off true false = refl
      off false t = refl

      same : (t : Bool) → (t || false) ≡ t
      same t = or-false t

      by : (e : Bool) → (lane == i) ≡ e → is_among front i ≡ (nat_lt i lanes && not (has_lane (log ++ entry_of b ∷ []) i))
      by true e =
          ap (is_among front) (sym (eqb-true lane i e))
          ∙ (not_in_front ∙ sym (ap (λ t. nat_lt i lanes && not t) (more ∙ ap (λ t. has_lane log i || t) e) ∙ off (nat_lt i lanes) (has_lane log i)))
      by false e =
          sym (same (is_among front i))
          ∙ (ap (λ t. is_among front i || t) (sym e) ∙ (sym (among_last front lane i) ∙ (free i
          ∙ sym (ap (λ t. nat_lt i lanes && not t) (more ∙ (ap (λ t. has_lane log i || t) e ∙ same (has_lane log i)))))))

-- An open request of a legal history.
module _ (log : List Entry) (sizes : Sizes) (legal : IsLegal log sizes) (id : ℕ) (b : Begin) (begun : begin_with log id ≡ Some b)
    (still : has_ended log id ≡ false) where
  is_id : b.id ≡ id
  is_id = begun_id log id b begun

  -- its begin is among the open ones
  pub open_in : In b (open_begins log)
  open_in =
      In-filter (λ (x : Begin). not (has_ended log x.id)) (begins log) b
      (subst (λ (t : List Entry). In b (begins t)) (take-length log) (begun_among log id (length log) b begun (place_within log id b begun)))
      (not_from_false (has_ended log b.id) (ap (has_ended log) is_id ∙ still))

  -- and no other of them has its number or its lane
  same_number : (a : Begin) → In a (open_begins log) → (a.id == id) ≡ true → a ≡ b
  same_number a there e =
      let a_in = filter_of-In (λ (x : Begin). not (has_ended log x.id)) (begins log) a there in
      let p = stands_at log sizes (length log) (IsLegal-below log sizes (length log) legal) (length log) a
      (subst (λ (t : List Entry). In a (begins t)) (sym (take-length log)) a_in.0) in
      let found = (begin_is log sizes (length log) (IsLegal-below log sizes (length log) legal) p.0 a p.1 p.2).1 in
      same_Some a b (sym found ∙ (ap (begin_with log) (eqb-true a.id id e) ∙ begun))

  module _ (who : ℕ) (grant : Grant) (cause : Cause) (fault : Fault) where
    after : List Entry
    after = log ++ Ended id who grant cause fault ∷ []

    lane_after : (i : ℕ) → has_lane (log ++ Ended id who grant cause fault ∷ []) i
        ≡ list_any (λ (x : Begin). x.lane == i) (filter (λ (x : Begin). not (x.id == id)) (open_begins log))
    lane_after i = ap (list_any (λ (x : Begin). x.lane == i)) (open_begins-ended log id who grant cause fault)

    -- behind its end its lane is free
    lane_freed : (i : ℕ) → (b.lane == i) ≡ true → has_lane (log ++ Ended id who grant cause fault ∷ []) i ≡ false
    lane_freed i e = lane_after i ∙ false_from_ne_true _ (λ t.
        let w = list_any_of (λ (x : Begin). x.lane == i) (filter (λ (x : Begin). not (x.id == id)) (open_begins log)) t in
        let other = filter_of-In (λ (x : Begin). not (x.id == id)) (open_begins log) w.0 w.1 in
        let same : w.0 ≡ b = lanes_differ log sizes legal w.0 b other.0 open_in (eqb-true w.0.lane i w.2 ∙ sym (eqb-true b.lane i e)) in
        let its : (w.0.id == id) ≡ true = eq-eqb w.0.id id (ap (λ (x : Begin). x.id) same ∙ is_id) in
        let no : (w.0.id == id) ≡ false = not-true (w.0.id == id) other.1 in
        absurd (cc))

    -- and each other lane as before
    lane_kept : (i : ℕ) → (b.lane == i) ≡ false → has_lane (log ++ Ended id who grant cause fault ∷ []) i ≡ has_lane log i
    lane_kept i e = lane_after i ∙ by (has_lane log i) refl
      where
        by : (t : Bool) → has_lane log i ≡ t → list_any (λ (x : Begin). x.lane == i) (filter (λ (x : Begin). not (x.id == id)) (open_begins log)) ≡ t
        by true t =
            let w = list_any_of (λ (x : Begin). x.lane == i) (open_begins log) t in
            let other : (w.0.id == id) ≡ false = false_from_ne_true (w.0.id == id) (λ u.
            let same : (b.lane == i) ≡ true = ap (λ (x : Begin). x.lane == i) (sym (same_number w.0 w.1 u)) ∙ w.2 in
            cc) in
            list_any-In (λ (x : Begin). x.lane == i) (filter (λ (x : Begin). not (x.id == id)) (open_begins log)) w.0
            (In-filter (λ (x : Begin). not (x.id == id)) (open_begins log) w.0 w.1 (not_from_false (w.0.id == id) other)) w.2
        by false t = false_from_ne_true _ (λ u.
            let w = list_any_of (λ (x : Begin). x.lane == i) (filter (λ (x : Begin). not (x.id == id)) (open_begins log)) u in
            let there = (filter_of-In (λ (x : Begin). not (x.id == id)) (open_begins log) w.0 w.1).0 in
            let yes : has_lane log i ≡ true = list_any-In (λ (x : Begin). x.lane == i) (open_begins log) w.0 there w.2 in
            absurd (cc))

    pub free_ended : (free : List ℕ) (lanes : ℕ) → b.lane < lanes → AreFree free log lanes →
        AreFree (with_lane b.lane free) (log ++ Ended id who grant cause fault ∷ []) lanes
    free_ended free lanes there is i = among_with b.lane free i ∙ by (b.lane == i) refl
      where
        by : (e : Bool) → (b.lane == i) ≡ e → (e || is_among free i) ≡ (nat_lt i lanes && not (has_lane (log ++ Ended id who grant cause fault ∷ []) i))
        by true e =
            let within : nat_lt i lanes ≡ true = lt-ltb i lanes (subst (λ k. k < lanes) (eqb-true b.lane i e) there) in
            sym (ap (λ t. nat_lt i lanes && not t) (lane_freed i e) ∙ ap (λ t. t && true) within)
        by false e = is i ∙ sym (ap (λ t. nat_lt i lanes && not t) (lane_kept i e))

  -- its lane isn't among the free ones
  pub its_lane_taken : (free : List ℕ) (lanes : ℕ) → AreFree free log lanes → is_among free b.lane ≡ false
  its_lane_taken free lanes is =
      let taken : has_lane log b.lane ≡ true = list_any-In (λ (x : Begin). x.lane == b.lane) (open_begins log) b open_in (eq-eqb b.lane b.lane refl) in
      is b.lane ∙ (ap (λ t. nat_lt b.lane lanes && not t) taken ∙ off (nat_lt b.lane lanes))
    where
      off : (t : Bool) → (t && false) ≡ false
      off true = refl
      off false = refl
