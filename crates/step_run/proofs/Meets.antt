-- The held latches that a request meets: their requests have begun, are others, and show their normal stamps.
use Rattle.std.proofs.Common.{◌≡◌, ◌≢◌, ℕ, Bool, true, false, not, cond, ◌||◌, ◌==◌, List, [], ◌∷◌, ◌++◌, refl, sym, ap, ◌∙◌, subst, inl, inr}
use Rattle.std.specs.List.{enumerate_from, filter}
use Rattle.std.proofs.lemmas.Bool.{eq-eqb}
use Rattle.std.proofs.lemmas.List.Elements.{filter-append}
use Rattle.std.proofs.lemmas.List.Sums.{take_while-cons}
use Rattle.latch_model.specs.Histories.{Begin, HeldLatch, begins, has_begun, held, holds_latches, in_front, is_begin, latches_held, latches_held_by, latches_of}
use Rattle.latch_model.specs.Histories.{has_ended, met, open_begins}
use Rattle.latch_model.specs.Latches.{normal}
use Rattle.latch_model.specs.declared.history.Entry.{Entry}
use Rattle.latch_model.specs.declared.latch.Latch.{Latch}
use Rattle.latch_model.proofs.Elements.{Each, filter_no, filter_yes}
use Rattle.latch_model.proofs.LatchLaws.{normal-at_normal}
use Rattle.latch_model.proofs.Lists.{In, list_any-In}
use Rattle.latch_model.proofs.Meeting.{met_in_of-In}
use Rattle.latch_model.proofs.Members.{filter_of-In, flat_map_of-In, map_of-In}
use Rattle.step_run.proofs.Growing.{begun_in_front, begun_is}

pub Each-In : {X : Type 0} (P : X → Type 0) (xs : List X) (x : X) → Each P xs → In x xs → P x
Each-In P [] x h k = absurd k
Each-In P (y ∷ ys) x h (inl e) = subst P e h.0
Each-In P (y ∷ ys) x h (inr k) = Each-In P ys x h.1 k

-- a latch that is held is of a request that has begun
held_begun : (h : List Entry) (x : HeldLatch) → In x (latches_held h) → (b : Begin) × In b (begins h) × (x.by ≡ b.id)
held_begun h x there =
    let w = flat_map_of-In latches_held_by (held h) x there in
    let v = map_of-In (λ (p : ℕ × Latch). let y : HeldLatch = record { by = w.0.id; lane = w.0.lane; place = p.0; latch = p.1 } in y)
    (enumerate_from 0 w.0.request.latches) x w.2 in
    let a = filter_of-In (λ (b : Begin). holds_latches b.mode) (open_begins h) w.0 w.1 in
    let b = filter_of-In (λ (b : Begin). not (has_ended h b.id)) (begins h) w.0 a.0 in
    (w.0, b.0, sym (ap (λ (y : HeldLatch). y.by) v.2))

-- in front of a begin that begin doesn't stand
not_in_front : (h : List Entry) (k : ℕ) → has_begun (in_front h k) k ≡ false
not_in_front [] k = refl
not_in_front (e ∷ h) k = by (is_begin k e) refl (not_in_front h k)
  where
    by : (b : Bool) → is_begin k e ≡ b → has_begun (in_front h k) k ≡ false → has_begun (in_front (e ∷ h) k) k ≡ false
    by true g rest = ap (λ (xs : List Entry). has_begun xs k) (take_while-cons (λ e. not (is_begin k e)) e h
        ∙ ap (λ b. cond (not b) (e ∷ in_front h k) []) g)
    by false g rest = ap (λ (xs : List Entry). has_begun xs k) (take_while-cons (λ e. not (is_begin k e)) e h
        ∙ ap (λ b. cond (not b) (e ∷ in_front h k) []) g) ∙ ap (λ b. b || has_begun (in_front h k) k) g ∙ rest

pub record MetIs (h : List Entry) (k : ℕ) (y : HeldLatch) : Type 0 where
  pub begun : has_begun h y.by ≡ true
  pub other : y.by ≢ k
  pub shown_normal : normal y.latch ≡ y.latch.stamp

pub met_is : (h : List Entry) (k : ℕ) (asks : List Latch) (y : HeldLatch) → In y (met h k asks) → MetIs h k y
met_is h k asks y there =
    let w = met_in_of-In (latches_of h k) (latches_held (in_front h k)) asks y there in
    let v = held_begun (in_front h k) w.0 w.1 in
    let same : y.by ≡ v.0.id = ap (λ (x : HeldLatch). x.by) (sym w.2) ∙ v.2 in
    record {
      begun = ap (λ j. has_begun h j) same ∙ Each-In (λ (b : Begin). has_begun h b.id ≡ true) (begins (in_front h k)) v.0 (begun_in_front h k) v.1;
      other = λ e. clash (begun_is (in_front h k) v.0.id ∙ list_any-In (λ (b : Begin). b.id == v.0.id) (begins (in_front h k)) v.0 v.1
          (eq-eqb v.0.id v.0.id refl)) (ap (λ j. has_begun (in_front h k) j) (sym same ∙ e) ∙ not_in_front h k);
      shown_normal = ap (λ (x : HeldLatch). normal x.latch) (sym w.2) ∙ normal-at_normal w.0.latch ∙ ap (λ (x : HeldLatch). x.latch.stamp) w.2;
    }
  where
    clash : {a : Bool} → a ≡ true → a ≡ false → ⊥
    clash e f = cc

-- the first that passes, where those in front of it do not
none_pass : {X : Type 0} (p : X → Bool) (xs : List X) → ((x : X) → In x xs → p x ≡ false) → filter p xs ≡ []
none_pass p [] f = refl
none_pass p (x ∷ xs) f = filter_no p x xs (f x (inl refl)) ∙ none_pass p xs (λ y k. f y (inr k))

pub none_left : {X : Type 0} (p : X → Bool) (xs : List X) → ((x : X) → In x xs → p x ≡ false) → filter p xs ≡ []
none_left p xs f = none_pass p xs f

pub first_left : {X : Type 0} (p : X → Bool) (front : List X) (x : X) (rest : List X) → ((y : X) → In y front → p y ≡ false) → p x ≡ true →
    filter p (front ++ x ∷ rest) ≡ x ∷ filter p rest
first_left p front x rest f e =
    filter-append p front (x ∷ rest) ∙ ap (λ zs. zs ++ filter p (x ∷ rest)) (none_pass p front f) ∙ filter_yes p x rest e
