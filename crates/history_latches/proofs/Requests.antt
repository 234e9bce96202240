-- The open requests of a legal history, and which of them a held latch is of.
use Rattle.std.proofs.Common.{◌≡◌, ℕ, zero, suc, ◌+◌, ◌<◌, ◌≤◌, eqb, true, false, not, List, [], ◌∷◌, length, map, take, Some, refl, sym, ◌∙◌}
use Rattle.std.proofs.Common.{ap, subst, inl, inr, arith}
use Rattle.std.proofs.Math.Seq.{take-length}
use Rattle.std.proofs.lemmas.Bool.{eqb-true, ne_eqb, not_from_false}
use Rattle.std.proofs.lemmas.List.{length-map}
use Rattle.std.proofs.lemmas.Map.Steps.{length-le_from_distinct_below}
use Rattle.std.proofs.lemmas.Option.{same_Some}
use Rattle.std.specs.List.{AllByRecursion, IsDistinct, enumerate_from, slice_get}
use Rattle.latch_model.specs.Histories.{Begin, HeldLatch, begin_of, begin_with, begins, entry_of, has_ended, held, holds_latches, latches_held}
use Rattle.latch_model.specs.Histories.{latches_held_by, open_begins}
use Rattle.latch_model.specs.Legal.{IsLegal, IsLegalBegin, IsLegalBelow}
use Rattle.latch_model.specs.declared.history.Entry.{Entry}
use Rattle.latch_model.specs.declared.history.Sizes.{Sizes}
use Rattle.latch_model.specs.declared.latch.Latch.{Latch}
use Rattle.latch_model.proofs.Appending.{IsLegal-below, lanes_differ}
use Rattle.latch_model.proofs.Begins.{begun_among, place_within}
use Rattle.latch_model.proofs.Counting.{Rises, Rises-begins, Rises-filter}
use Rattle.latch_model.proofs.Elements.{Each, Each-at_map, Each-from_In}
use Rattle.latch_model.proofs.Lists.{In, In-filter, In-flat_map, In-map}
use Rattle.latch_model.proofs.Members.{filter_of-In, flat_map_of-In, list_any_of, map_of-In}
use Rattle.latch_model.proofs.Ordered.{number_upto, same_number, stands_at}

-- ---- the latches that a request holds, with their places
enumerated : (n : ℕ) (ls : List Latch) (k : ℕ) (l : Latch) → In (k, l) (enumerate_from n ls) → (j : ℕ) × (k ≡ n + j) × (slice_get ls j ≡ Some l)
enumerated n [] k l there = absurd there
enumerated n (y ∷ ys) k l (inl e) =
    let same : n ≡ k = ap (λ (p : ℕ × Latch). p.0) e in
    (0, omega arith, ap Some (ap (λ (p : ℕ × Latch). p.1) e))
enumerated n (y ∷ ys) k l (inr there) =
    let w = enumerated (n + 1) ys k l there in
    let is = w.1 in
    (suc w.0, omega arith, w.2)

In-enumerated : (n k : ℕ) (ls : List Latch) (l : Latch) → slice_get ls k ≡ Some l → In (n + k, l) (enumerate_from n ls)
In-enumerated n k [] l at = cc
In-enumerated n zero (y ∷ ys) l at =
    let same : n ≡ n + 0 = omega arith in
    inl (λ i. (same i, same_Some y l at i))
In-enumerated n (suc k) (y ∷ ys) l at =
    let same : n + 1 + k ≡ n + suc k = omega arith in
    inr (subst (λ m. In (m, l) (enumerate_from (n + 1) ys)) same (In-enumerated (n + 1) k ys l at))

-- A held latch is that of an open request that holds its latches: it has the request's number and lane, and stands at its place there.
pub record OfRequest (h : List Entry) (x : HeldLatch) : Type 0 where
  pub begin : Begin
  pub opened : In begin (open_begins h)
  pub holding : holds_latches begin.mode ≡ true
  pub by_is : x.by ≡ begin.id
  pub lane_is : x.lane ≡ begin.lane
  pub latch_is : slice_get begin.request.latches x.place ≡ Some x.latch

pub of_request : (h : List Entry) (x : HeldLatch) → In x (latches_held h) → OfRequest h x
of_request h x there =
    let w = flat_map_of-In latches_held_by (held h) x there in
    let p = filter_of-In (λ (b : Begin). holds_latches b.mode) (open_begins h) w.0 w.1 in
    let q = map_of-In (λ (p : ℕ × Latch). record { by = w.0.id; lane = w.0.lane; place = p.0; latch = p.1 }) (enumerate_from 0 w.0.request.latches) x w.2 in
    let at = enumerated 0 w.0.request.latches q.0.0 q.0.1 (part q.0 (enumerate_from 0 w.0.request.latches) q.1) in
    let place : q.0.0 ≡ at.0 = (let e = at.1 in omega arith) in
    record {
      begin = w.0;
      opened = p.0;
      holding = p.1;
      by_is = sym (ap (λ (y : HeldLatch). y.by) q.2);
      lane_is = sym (ap (λ (y : HeldLatch). y.lane) q.2);
      latch_is = ap (slice_get w.0.request.latches) (sym (ap (λ (y : HeldLatch). y.place) q.2) ∙ place)
          ∙ (at.2 ∙ ap (λ (y : HeldLatch). Some y.latch) q.2);
    }
  where
    part : (p : ℕ × Latch) (ps : List (ℕ × Latch)) → In p ps → In (p.0, p.1) ps
    part (k, l) ps here = here

-- and each latch of such a request is held
pub is_held : (h : List Entry) (b : Begin) (k : ℕ) (l : Latch) → In b (open_begins h) → holds_latches b.mode ≡ true → slice_get b.request.latches k ≡ Some l →
    In (record { by = b.id; lane = b.lane; place = k; latch = l }) (latches_held h)
is_held h b k l opened holding at =
    In-flat_map latches_held_by (held h) b (record { by = b.id; lane = b.lane; place = k; latch = l })
    (In-filter (λ (x : Begin). holds_latches x.mode) (open_begins h) b opened holding)
    (In-map (λ (p : ℕ × Latch). record { by = b.id; lane = b.lane; place = p.0; latch = p.1 }) (enumerate_from 0 b.request.latches) (k, l)
    (subst (λ m. In (m, l) (enumerate_from 0 b.request.latches)) none (In-enumerated 0 k b.request.latches l at)))
  where
    none : 0 + k ≡ k
    none = omega arith

-- they all are by that request
pub by_all : (b : Begin) → Each (λ (x : HeldLatch). x.by ≡ b.id) (latches_held_by b)
by_all b =
    Each-at_map (λ (x : HeldLatch). x.by ≡ b.id) (λ (p : ℕ × Latch). record { by = b.id; lane = b.lane; place = p.0; latch = p.1 })
    (enumerate_from 0 b.request.latches) (Each-from_In (λ (p : ℕ × Latch). b.id ≡ b.id) (enumerate_from 0 b.request.latches) (λ p there. refl))

-- numbers that are in no list but at its front differ
each_other : (n : ℕ) (ks : List ℕ) → (In n ks → ⊥) → AllByRecursion (λ k. eqb n k ≡ false) ks
each_other n [] other = tt
each_other n (k ∷ ks) other = (ne_eqb n k (λ e. other (inl (sym e))), each_other n ks (λ there. other (inr there)))

-- begins in the order of their numbers, with lanes of their own
lanes_apart : (bs : List Begin) → Rises bs → ((a b : Begin) → In a bs → In b bs → a.lane ≡ b.lane → a ≡ b) → IsDistinct eqb (map (λ (b : Begin). b.lane) bs)
unfolding IsDistinct
lanes_apart [] rises own = tt
lanes_apart (x ∷ xs) rises own = (
  each_other x.lane (map (λ (b : Begin). b.lane) xs) (λ there.
      let w = map_of-In (λ (b : Begin). b.lane) xs x.lane there in
      let same : w.0.id ≡ x.id = ap (λ (b : Begin). b.id) (own w.0 x (inr w.1) (inl refl) w.2) in
      let above = rises.0 w.0 w.1 in
      omega arith),
  lanes_apart xs rises.1 (λ a b a_in b_in e. own a b (inr a_in) (inr b_in) e),
)

-- ---- the open requests of a legal history
module _ (h : List Entry) (sizes : Sizes) (legal : IsLegal h sizes) where
  below : IsLegalBelow h sizes (length h)
  below = IsLegal-below h sizes (length h) legal

  in_all : (b : Begin) → In b (begins h) → In b (begins (take (length h) h))
  in_all b there = subst (λ (t : List Entry). In b (begins t)) (sym (take-length h)) there

  pub open_begun : (b : Begin) → In b (open_begins h) → In b (begins h)
  open_begun b there = (filter_of-In (λ (x : Begin). not (has_ended h x.id)) (begins h) b there).0

  -- their numbers are those of begins
  pub number_begun : (b : Begin) → In b (begins h) → b.id ≤ length (begins h)
  number_begun b there =
      let n = (number_upto h sizes (length h) below (length h) b (omega arith) (in_all b there)).1 in
      let all : length (begins (take (length h) h)) ≡ length (begins h) = ap (λ (t : List Entry). length (begins t)) (take-length h) in
      omega arith

  -- a number is that of one begin
  pub one_begin : (a b : Begin) → In a (begins h) → In b (begins h) → a.id ≡ b.id → a ≡ b
  one_begin a b a_in b_in same =
      let p = stands_at h sizes (length h) below (length h) a (in_all a a_in) in
      let q = stands_at h sizes (length h) below (length h) b (in_all b b_in) in
      let place = same_number h sizes (length h) below p.0 q.0 a b p.1 q.1 p.2 q.2 same in
      same_Some a b (ap begin_of (same_Some (entry_of a) (entry_of b) (sym p.2 ∙ (ap (slice_get h) place ∙ q.2))))

  -- each has a lane that there is
  pub lane_there : (b : Begin) → In b (begins h) → b.lane < sizes.lanes
  lane_there b there =
      let p = stands_at h sizes (length h) below (length h) b (in_all b there) in
      let here : IsLegalBegin h sizes p.0 b.id b.lane = legal p.0 (entry_of b) p.2 in
      here.lane_there

  -- there are no more of them than lanes
  pub open_few : length (open_begins h) ≤ sizes.lanes
  open_few =
      let rises : Rises (begins h) = subst (λ (t : List Entry). Rises (begins t)) (take-length h)
      (Rises-begins h sizes (length h) below (length h) (omega arith) (omega arith)) in
      let differ : IsDistinct eqb (map (λ (b : Begin). b.lane) (open_begins h)) =
      lanes_apart (open_begins h) (Rises-filter (λ (x : Begin). not (has_ended h x.id)) (begins h) rises) (lanes_differ h sizes legal) in
      let few = length-le_from_distinct_below (map (λ (b : Begin). b.lane) (open_begins h)) sizes.lanes differ (λ q any.
      let w = list_any_of (eqb q) (map (λ (b : Begin). b.lane) (open_begins h)) any in
      let v = map_of-In (λ (b : Begin). b.lane) (open_begins h) w.0 w.1 in
      let is : q ≡ v.0.lane = eqb-true q w.0 w.2 ∙ sym v.2 in
      let low = lane_there v.0 (open_begun v.0 v.1) in
      omega arith) in
      let same = length-map (open_begins h) (λ (b : Begin). b.lane) in
      omega arith

  -- the request with an open number
  pub is_opened : (id : ℕ) (b : Begin) → begin_with h id ≡ Some b → has_ended h b.id ≡ false → In b (open_begins h)
  is_opened id b begun still =
      In-filter (λ (x : Begin). not (has_ended h x.id)) (begins h) b
      (subst (λ (t : List Entry). In b (begins t)) (take-length h) (begun_among h id (length h) b begun (place_within h id b begun)))
      (not_from_false (has_ended h b.id) still)
