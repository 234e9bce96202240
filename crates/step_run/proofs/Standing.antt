-- States stay valid by each change that a run makes.
use Rattle.std.proofs.Common.{◌≡◌, ℕ, ◌+◌, ◌<◌, ◌≤◌, Bool, true, false, not, ◌||◌, ◌==◌, List, [], ◌∷◌, ◌++◌, map, length, Some, refl, sym, ap}
use Rattle.std.proofs.Common.{◌∙◌, subst, inl, inr, arith}
use Rattle.std.specs.Prelude.{slice_get, slice_set}
use Rattle.std.specs.List.{filter, remove}
use Rattle.std.proofs.lemmas.List.{length-append, map-append}
use Rattle.std.proofs.lemmas.List.Elements.{filter-append}
use Rattle.std.proofs.lemmas.Bool.{cases_lt, eq-eqb, ne_eqb, or_left, or_right}
use Rattle.latch_model.specs.Declaration.{Declaration}
use Rattle.latch_model.specs.Histories.{Begin, begins, has_begun, has_ended, latches_of, open_begins}
use Rattle.latch_model.specs.declared.latch.Mode.{Mode}
use Rattle.latch_model.specs.declared.history.Cause.{Cause}
use Rattle.latch_model.specs.declared.history.Entry.{Entry}
use Rattle.latch_model.specs.declared.history.Entry.TheVariants.{Begun, Ended}
use Rattle.latch_model.specs.declared.history.Fault.{Fault}
use Rattle.latch_model.specs.declared.history.Grant.{Grant}
use Rattle.step_run.specs.State.{Named, Over}
use Rattle.step_run.specs.Steps.{is_over}
use Rattle.step_run.specs.Valid.{Brief, Valid, brief, brief_of, is_going}
use Rattle.latch_model.proofs.Ascending.{Rising}
use Rattle.latch_model.proofs.Elements.{Each, Each-at_map, Each-filter, Each-map, filter-map, filter_yes, map_agree}
use Rattle.latch_model.proofs.Growing.{begins-append, begins-end}
use Rattle.step_run.proofs.Growing.{has_begun-append, has_ended-append, latches_of-append, open_begins_begun, open_begins_ended, begins_self}
use Rattle.step_run.proofs.Places.{Each-at, Each-remove, Each-set, Rising-push, Rising-remove, filter-remove, filter_over, map-filter-set}
use Rattle.step_run.proofs.Places.{map-set_same}

-- A name may be changed in what no begin says.
pub record IsAlike (n m : Named) : Type 0 where
  pub id : m.id ≡ n.id
  pub mode : m.mode ≡ n.mode

brief_alike : (h : List Entry) (n m : Named) → IsAlike n m → brief_of h m ≡ brief_of h n
brief_alike h n m a = let e : m.id ≡ n.id = a.id in let f : m.mode ≡ n.mode = a.mode in cc

pub valid_set : (h : List Entry) (ns : List Named) (i : ℕ) (n m : Named) → slice_get ns i ≡ Some n → IsAlike n m → is_over m.phase ≡ is_over n.phase →
    Valid h ns → Valid h (slice_set ns i m)
valid_set h ns i n m at a o v = record {
  fresh = v.fresh;
  unended = v.unended;
  begun = Each-set (λ (n : Named). has_begun h n.id ≡ true) ns i m (ap (λ j. has_begun h j) a.id
      ∙ Each-at (λ (n : Named). has_begun h n.id ≡ true) ns i n at v.begun) v.begun;
  rising = subst Rising (sym (map-set_same (λ (n : Named). n.id) ns i n m at a.id)) v.rising;
  rising_begins = v.rising_begins;
  going = v.going ∙ sym (map-filter-set (brief_of h) is_going ns i n m at (brief_alike h n m a) (ap not o));
}

-- numbers that have begun
pub begun_low : (h : List Entry) (ns : List Named) (j : ℕ) → Valid h ns → has_begun h j ≡ true → j ≤ length (begins h)
begun_low h ns j v t = elim (cases_lt (length (begins h)) j) [ inl l ↦ absurd (both_ways (v.fresh j l) t) | inr l ↦ l ]
  where
    both_ways : {x : Bool} → x ≡ false → x ≡ true → ⊥
    both_ways f t = cc

brief_stays : (h t : List Entry) (ns : List Named) → Each (λ (n : Named). has_begun h n.id ≡ true) ns →
    Each (λ (n : Named). brief_of (h ++ t) n ≡ brief_of h n) ns
brief_stays h t [] e = tt
brief_stays h t (n ∷ ns) e =
    (let p : latches_of (h ++ t) n.id ≡ latches_of h n.id = latches_of-append h t n.id e.0 in cc, brief_stays h t ns e.1)

begun_stays : (h t : List Entry) (ns : List Named) → Each (λ (n : Named). has_begun h n.id ≡ true) ns → Each (λ (n : Named). has_begun (h ++ t) n.id ≡ true) ns
begun_stays h t ns e =
    Each-map (λ (n : Named). has_begun h n.id ≡ true) (λ (n : Named). has_begun (h ++ t) n.id ≡ true)
    (λ n k. has_begun-append h t n.id ∙ ap (λ b. b || has_begun t n.id) k) ns e

-- an end
or_no : (a b : Bool) → a ≡ false → b ≡ false → (a || (b || false)) ≡ false
or_no a b e f = ap (λ c. c || (b || false)) e ∙ ap (λ c. c || false) f

pub valid_end : (h : List Entry) (ns : List Named) (i : ℕ) (n m : Named) (who : ℕ) (grant : Grant) (poison : Cause) (fault : Fault) →
    slice_get ns i ≡ Some n → m.id ≡ n.id → m.phase ≡ Over → Valid h ns → Valid (h ++ Ended n.id who grant poison fault ∷ []) (slice_set ns i m)
valid_end h ns i n m who grant poison fault at a o v =
    let x : Entry = Ended n.id who grant poison fault in
    let same : begins (h ++ x ∷ []) ≡ begins h = begins-end h n.id who grant poison fault in
    let here : has_begun h n.id ≡ true = Each-at (λ (n : Named). has_begun h n.id ≡ true) ns i n at v.begun in
    let low : n.id ≤ length (begins h) = begun_low h ns n.id v here in
    record {
      fresh = λ j l. has_begun-append h (x ∷ []) j ∙ ap (λ b. b || false) (v.fresh j (subst (λ xs. length xs < j) same l));
      unended = λ j l. let l2 : length (begins h) < j = subst (λ xs. length xs < j) same l in has_ended-append h (x ∷ []) j
          ∙ or_no (has_ended h j) (n.id == j) (v.unended j l2) (ne_eqb n.id j (λ g. absurd (omega arith)));
      begun = Each-set (λ (n : Named). has_begun (h ++ x ∷ []) n.id ≡ true) ns i m
          (ap (λ j. has_begun (h ++ x ∷ []) j) a ∙ has_begun-append h (x ∷ []) n.id ∙ ap (λ b. b || false) here) (begun_stays h (x ∷ []) ns v.begun);
      rising = subst Rising (sym (map-set_same (λ (n : Named). n.id) ns i n m at a)) v.rising;
      rising_begins = subst (λ xs. Rising (map (λ (x : Begin). x.id) xs)) (sym same) v.rising_begins;
      going =
          ap (λ xs. map brief xs) (open_begins_ended h n.id who grant poison fault)
          ∙ sym (filter-map brief (λ (r : Brief). not (n.id == r.id)) (open_begins h))
          ∙ ap (λ rs. filter (λ (r : Brief). not (n.id == r.id)) rs) v.going
          ∙ filter-map (brief_of h) (λ (r : Brief). not (n.id == r.id)) (filter is_going ns)
          ∙ ap (λ ms. map (brief_of h) ms) (sym (filter_over (λ (n : Named). n.id) is_going ns i n m at v.rising (ap (λ p. not (is_over p)) o)))
          ∙ sym (map_agree (brief_of (h ++ x ∷ [])) (brief_of h) (filter is_going (slice_set ns i m))
          (Each-filter (λ (n : Named). brief_of (h ++ x ∷ []) n ≡ brief_of h n) is_going (slice_set ns i m)
          (brief_stays h (x ∷ []) (slice_set ns i m)
          (Each-set (λ (n : Named). has_begun h n.id ≡ true) ns i m (ap (λ j. has_begun h j) a ∙ here) v.begun))));
    }

-- a release of a name whose request is over
pub valid_remove : (h : List Entry) (ns : List Named) (i : ℕ) (n : Named) → slice_get ns i ≡ Some n → is_over n.phase ≡ true → Valid h ns →
    Valid h (remove ns i)
valid_remove h ns i n at o v = record {
  fresh = v.fresh;
  unended = v.unended;
  begun = Each-remove (λ (n : Named). has_begun h n.id ≡ true) ns i v.begun;
  rising = Rising-remove (λ (n : Named). n.id) ns i v.rising;
  rising_begins = v.rising_begins;
  going = v.going ∙ ap (λ ms. map (brief_of h) ms) (sym (filter-remove is_going ns i n at (ap not o)));
}

-- a begin
filter_end : {X : Type 0} (p : X → Bool) (xs : List X) (x : X) → p x ≡ true → filter p (xs ++ x ∷ []) ≡ filter p xs ++ x ∷ []
filter_end p xs x e = filter-append p xs (x ∷ []) ∙ ap (λ ys. filter p xs ++ ys) (filter_yes p x [] e)

Each-push : {X : Type 0} (P : X → Type 0) (xs : List X) (y : X) → Each P xs → P y → Each P (xs ++ y ∷ [])
Each-push P [] y e p = (p, tt)
Each-push P (x ∷ xs) y e p = (e.0, Each-push P xs y e.1 p)

pub valid_begin : (h : List Entry) (ns : List Named) (lane who : ℕ) (mode : Mode) (request : Declaration) (m : Named) → m.id ≡ length (begins h) + 1 →
    m.mode ≡ mode → is_over m.phase ≡ false → latches_of (h ++ Begun (length (begins h) + 1) lane who mode request ∷ []) m.id ≡ request.latches →
    Valid h ns → Valid (h ++ Begun (length (begins h) + 1) lane who mode request ∷ []) (ns ++ m ∷ [])
valid_begin h ns lane who mode request m a d o l v =
    let id : ℕ = length (begins h) + 1 in
    let x : Entry = Begun id lane who mode request in
    let y : Begin = record { id = id; lane = lane; who = who; mode = mode; request = request } in
    let grown : begins (h ++ x ∷ []) ≡ begins h ++ y ∷ [] = begins-append h (x ∷ []) in
    let longer : length (begins (h ++ x ∷ [])) ≡ length (begins h) + 1 = ap length grown ∙ length-append (begins h) (y ∷ []) in
    record {
      fresh = λ j l. has_begun-append h (x ∷ []) j ∙ or_no (has_begun h j) (id == j) (v.fresh j (omega (arith, longer)))
          (ne_eqb id j (λ g. absurd (omega (arith, longer))));
      unended = λ j l. has_ended-append h (x ∷ []) j ∙ ap (λ b. b || false) (v.unended j (omega (arith, longer)));
      begun = Each-push (λ (n : Named). has_begun (h ++ x ∷ []) n.id ≡ true) ns m (begun_stays h (x ∷ []) ns v.begun)
          (ap (λ j. has_begun (h ++ x ∷ []) j) a ∙ has_begun-append h (x ∷ []) id
          ∙ or_right (has_begun h id) (has_begun (x ∷ []) id) (or_left (id == id) false (eq-eqb id id refl)));
      rising = subst Rising (sym (map-append (λ (n : Named). n.id) ns (m ∷ [])))
          (Rising-push (map (λ (n : Named). n.id) ns) m.id v.rising
          (Each-at_map (λ j. j < m.id) (λ (n : Named). n.id) ns
          (Each-map (λ (n : Named). has_begun h n.id ≡ true) (λ (n : Named). n.id < m.id)
          (λ n t. let q : n.id ≤ length (begins h) = begun_low h ns n.id v t in omega arith) ns v.begun)));
      rising_begins = subst (λ xs. Rising (map (λ (x : Begin). x.id) xs)) (sym grown)
          (subst Rising (sym (map-append (λ (x : Begin). x.id) (begins h) (y ∷ [])))
          (Rising-push (map (λ (x : Begin). x.id) (begins h)) id v.rising_begins
          (Each-at_map (λ j. j < id) (λ (x : Begin). x.id) (begins h)
          (Each-map (λ (x : Begin). has_begun h x.id ≡ true) (λ (x : Begin). x.id < id)
          (λ x t. let q : x.id ≤ length (begins h) = begun_low h ns x.id v t in omega arith) (begins h) (begins_self h)))));
      going =
          ap (λ xs. map brief xs) (open_begins_begun h id lane who mode request (v.unended id (omega arith)))
          ∙ map-append brief (open_begins h) (y ∷ [])
          ∙ ap (λ rs. rs ++ brief y ∷ []) v.going
          ∙ ap (λ rs. rs ++ brief y ∷ []) (sym (map_agree (brief_of (h ++ x ∷ [])) (brief_of h) (filter is_going ns)
          (Each-filter (λ (n : Named). brief_of (h ++ x ∷ []) n ≡ brief_of h n) is_going ns (brief_stays h (x ∷ []) ns v.begun))))
          ∙ ap (λ r. map (brief_of (h ++ x ∷ [])) (filter is_going ns) ++ r ∷ []) (new_brief (h ++ x ∷ []) y m (sym a) (sym d) (sym l))
          ∙ sym (map-append (brief_of (h ++ x ∷ [])) (filter is_going ns) (m ∷ []))
          ∙ ap (λ ms. map (brief_of (h ++ x ∷ [])) ms) (sym (filter_end is_going ns m (ap not o)));
    }
  where
    new_brief : (g : List Entry) (y : Begin) (m : Named) → y.id ≡ m.id → y.mode ≡ m.mode → y.request.latches ≡ latches_of g m.id → brief y ≡ brief_of g m
    new_brief g y m p q r = cc
