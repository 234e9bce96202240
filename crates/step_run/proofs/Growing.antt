-- Histories that grow by an entry: what stays and what is added.
use Rattle.std.proofs.Common.{◌≡◌, ℕ, Bool, true, false, not, cond, ◌&&◌, ◌||◌, ◌==◌, List, [], ◌∷◌, ◌++◌, drop, Some, None, refl, sym, ap, ◌∙◌}
use Rattle.std.specs.List.{filter, find, list_any, prefix_len, take_while}
use Rattle.std.specs.Option.{option_map_or}
use Rattle.std.proofs.lemmas.List.{append-nil, take-append-drop}
use Rattle.std.proofs.lemmas.List.Elements.{filter-append, filter_agree}
use Rattle.std.proofs.lemmas.List.Folds.{list_any-append}
use Rattle.std.proofs.lemmas.List.Sums.{take_while-cons}
use Rattle.std.proofs.lemmas.Bool.{eqb-true, eq-eqb, or_right, or_left}
use Rattle.latch_model.specs.Declaration.{Declaration}
use Rattle.latch_model.specs.Histories.{Begin, begins, has_begun, has_ended, in_front, is_begin, is_end, latches_of, open_begins}
use Rattle.latch_model.specs.declared.latch.Mode.{Mode}
use Rattle.latch_model.specs.declared.history.Cause.{Cause}
use Rattle.latch_model.specs.declared.history.Entry.{Entry}
use Rattle.latch_model.specs.declared.history.Entry.TheVariants.{Begun, Ended}
use Rattle.latch_model.specs.declared.history.Fault.{Fault}
use Rattle.latch_model.specs.declared.history.Grant.{Grant}
use Rattle.latch_model.proofs.Growing.{begins-append, begun_of, in_front-append as in_front_of_begun, latches_of-append as latches_of_begun}
use Rattle.latch_model.proofs.Elements.{Each, Each-map, filter-filter, filter_yes, list_any-filter, list_any_agree}

-- tests
or_false : (a : Bool) → (a || false) ≡ a
or_false true = refl
or_false false = refl

not_or : (a b : Bool) → not (a || b) ≡ (not a && not b)
not_or true b = refl
not_or false b = refl

and_any : {X : Type 0} (p : X → Bool) (c : Bool) (xs : List X) → list_any (λ x. p x && c) xs ≡ (list_any p xs && c)
and_any p c [] = refl
and_any p c (x ∷ xs) = ap (λ b. (p x && c) || b) (and_any p c xs) ∙ and_any_step (p x) (list_any p xs) c
  where
    and_any_step : (a b c : Bool) → ((a && c) || (b && c)) ≡ ((a || b) && c)
    and_any_step true b true = refl
    and_any_step true true false = refl
    and_any_step true false false = refl
    and_any_step false b c = refl

eq_and : (a b : ℕ) (f : ℕ → Bool) (t : Bool) → (a == b) ≡ t → (t && f a) ≡ (t && f b)
eq_and a b f true e = ap f (eqb-true a b e)
eq_and a b f false e = refl

-- begins and ends
pub has_ended-append : (h t : List Entry) (k : ℕ) → has_ended (h ++ t) k ≡ (has_ended h k || has_ended t k)
has_ended-append h t k = list_any-append (is_end k) h t

pub has_begun-append : (h t : List Entry) (k : ℕ) → has_begun (h ++ t) k ≡ (has_begun h k || has_begun t k)
has_begun-append h t k = list_any-append (is_begin k) h t

pub begun_is : (h : List Entry) (k : ℕ) → has_begun h k ≡ list_any (λ b. b.id == k) (begins h)
begun_is [] k = refl
begun_is (Begun id lane who mode request ∷ h) k = ap (λ b. (id == k) || b) (begun_is h k)
begun_is (Ended id who grant poison fault ∷ h) k = begun_is h k

-- what has just begun is found
find-append_none_step : {X : Type 0} (p : X → Bool) (x : X) (xs ys : List X) (b : Bool) → (b || list_any p xs) ≡ false →
    (list_any p xs ≡ false → find p (xs ++ ys) ≡ find p ys) → cond b (Some x) (find p (xs ++ ys)) ≡ find p ys
find-append_none_step p x xs ys true e f = absurd (cc)
find-append_none_step p x xs ys false e f = f e

find-append_none : {X : Type 0} (p : X → Bool) (xs ys : List X) → list_any p xs ≡ false → find p (xs ++ ys) ≡ find p ys
find-append_none p [] ys e = refl
find-append_none p (x ∷ xs) ys e = find-append_none_step p x xs ys (p x) e (find-append_none p xs ys)

pub latches_of-append : (h t : List Entry) (k : ℕ) → has_begun h k ≡ true → latches_of (h ++ t) k ≡ latches_of h k
latches_of-append h t k e = let b = begun_of h k e in latches_of_begun h t k b.0 b.1

pub in_front-append : (h t : List Entry) (k : ℕ) → has_begun h k ≡ true → in_front (h ++ t) k ≡ in_front h k
in_front-append h t k e = let b = begun_of h k e in in_front_of_begun h t k b.0 b.1

pub latches_of_new : (h : List Entry) (id lane who : ℕ) (mode : Mode) (request : Declaration) → has_begun h id ≡ false →
    latches_of (h ++ Begun id lane who mode request ∷ []) id ≡ request.latches
latches_of_new h id lane who mode request e =
    ap (λ bs. option_map_or (λ (b : Begin). b.request.latches) (find (λ (b : Begin). b.id == id) bs) [])
    (begins-append h (Begun id lane who mode request ∷ []))
    ∙ ap (λ o. option_map_or (λ (b : Begin). b.request.latches) o []) (find-append_none (λ (b : Begin). b.id == id) (begins h) _ (sym (begun_is h id) ∙ e))
    ∙ ap (λ b. option_map_or (λ (b : Begin). b.request.latches) (cond b
    (Some (record { id = id; lane = lane; who = who; mode = mode; request = request })) None) []) (eq-eqb id id refl)

-- the entries in front of the first that passes
abbrev before_first : {X : Type 0} → (X → Bool) → List X → List X
before_first q xs = take_while (λ x. not (q x)) xs

all_before_step : {X : Type 0} (q : X → Bool) (x : X) (xs zs : List X) (b : Bool) → (b || list_any q xs) ≡ false →
    (list_any q xs ≡ false → before_first q zs ≡ xs) → cond (not b) (x ∷ before_first q zs) [] ≡ x ∷ xs
all_before_step q x xs zs true e f = absurd (cc)
all_before_step q x xs zs false e f = ap (λ us. x ∷ us) (f e)

all_before : {X : Type 0} (q : X → Bool) (xs : List X) (y : X) (ys : List X) → list_any q xs ≡ false → q y ≡ true → before_first q (xs ++ y ∷ ys) ≡ xs
all_before q [] y ys e f = take_while-cons (λ x. not (q x)) y ys ∙ ap (λ b. cond (not b) (y ∷ before_first q ys) []) f
all_before q (x ∷ xs) y ys e f =
    take_while-cons (λ x. not (q x)) x (xs ++ y ∷ ys)
    ∙ all_before_step q x xs (xs ++ y ∷ ys) (q x) e (λ k. all_before q xs y ys k f)

-- what has begun in front has begun
each_self : (bs : List Begin) → Each (λ b. list_any (λ c. c.id == b.id) bs ≡ true) bs
each_self [] = tt
each_self (b ∷ bs) = (
  or_left (b.id == b.id) (list_any (λ c. c.id == b.id) bs) (eq-eqb b.id b.id refl),
  Each-map (λ a. list_any (λ c. c.id == a.id) bs ≡ true) (λ a. list_any (λ c. c.id == a.id) (b ∷ bs) ≡ true)
      (λ a e. or_right (b.id == a.id) (list_any (λ c. c.id == a.id) bs) e) bs (each_self bs),
)

pub begun_in_front : (h : List Entry) (k : ℕ) → Each (λ b. has_begun h b.id ≡ true) (begins (in_front h k))
begun_in_front h k =
    let n = prefix_len (λ e. not (is_begin k e)) h in
    let whole : in_front h k ++ drop n h ≡ h = take-append-drop n h in
    let same : begins (in_front h k) ++ begins (drop n h) ≡ begins h = sym (begins-append (in_front h k) (drop n h)) ∙ ap begins whole in
    Each-map (λ b. list_any (λ c. c.id == b.id) (begins (in_front h k)) ≡ true) (λ b. has_begun h b.id ≡ true)
    (λ b e. begun_is h b.id ∙ ap (λ bs. list_any (λ (c : Begin). c.id == b.id) bs) (sym same)
    ∙ list_any-append (λ (c : Begin). c.id == b.id) (begins (in_front h k)) (begins (drop n h)) ∙ or_left _ _ e)
    (begins (in_front h k)) (each_self (begins (in_front h k)))

pub begins_self : (h : List Entry) → Each (λ b. has_begun h b.id ≡ true) (begins h)
begins_self h = Each-map (λ b. list_any (λ c. c.id == b.id) (begins h) ≡ true) (λ b. has_begun h b.id ≡ true) (λ b e. begun_is h b.id ∙ e) (begins h)
    (each_self (begins h))

-- the open begins
pub open_is : (h : List Entry) (k : ℕ) → list_any (λ b. b.id == k) (open_begins h) ≡ (has_begun h k && not (has_ended h k))
open_is h k =
    list_any-filter (λ (b : Begin). b.id == k) (λ (b : Begin). not (has_ended h b.id)) (begins h)
    ∙ list_any_agree (λ (b : Begin). (b.id == k) && not (has_ended h b.id)) (λ (b : Begin). (b.id == k) && not (has_ended h k)) (begins h) (agree (begins h))
    ∙ and_any (λ (b : Begin). b.id == k) (not (has_ended h k)) (begins h)
    ∙ ap (λ b. b && not (has_ended h k)) (sym (begun_is h k))
  where
    agree : (bs : List Begin) → Each (λ (b : Begin). ((b.id == k) && not (has_ended h b.id)) ≡ ((b.id == k) && not (has_ended h k))) bs
    agree [] = tt
    agree (b ∷ bs) = (eq_and b.id k (λ j. not (has_ended h j)) (b.id == k) refl, agree bs)

open_same : (h : List Entry) (e : Entry) → ((k : ℕ) → is_end k e ≡ false) → (bs : List Begin) →
    filter (λ (b : Begin). not (has_ended (h ++ e ∷ []) b.id)) bs ≡ filter (λ (b : Begin). not (has_ended h b.id)) bs
open_same h e f bs =
    filter_agree (λ (b : Begin). not (has_ended (h ++ e ∷ []) b.id)) (λ (b : Begin). not (has_ended h b.id))
    (λ b. ap not (has_ended-append h (e ∷ []) b.id ∙ ap (λ c. has_ended h b.id || (c || false)) (f b.id) ∙ or_false (has_ended h b.id))) bs

pub open_begins_begun : (h : List Entry) (id lane who : ℕ) (mode : Mode) (request : Declaration) → has_ended h id ≡ false →
    open_begins (h ++ Begun id lane who mode request ∷ []) ≡ open_begins h ++
    (record { id = id; lane = lane; who = who; mode = mode; request = request }) ∷ []
open_begins_begun h id lane who mode request e =
    let b : Begin = record { id = id; lane = lane; who = who; mode = mode; request = request } in
    open_same h (Begun id lane who mode request) (λ k. refl) (begins (h ++ Begun id lane who mode request ∷ []))
    ∙ ap (λ bs. filter (λ (b : Begin). not (has_ended h b.id)) bs) (begins-append h (Begun id lane who mode request ∷ []))
    ∙ filter-append (λ (b : Begin). not (has_ended h b.id)) (begins h) (b ∷ [])
    ∙ ap (λ bs. open_begins h ++ bs) (filter_yes (λ (b : Begin). not (has_ended h b.id)) b [] (ap not e))

pub open_begins_ended : (h : List Entry) (id who : ℕ) (grant : Grant) (poison : Cause) (fault : Fault) →
    open_begins (h ++ Ended id who grant poison fault ∷ []) ≡ filter (λ b. not (id == b.id)) (open_begins h)
open_begins_ended h id who grant poison fault =
    ap (λ bs. filter (λ (b : Begin). not (has_ended (h ++ Ended id who grant poison fault ∷ []) b.id)) bs)
    (begins-append h (Ended id who grant poison fault ∷ []) ∙ append-nil (begins h))
    ∙ filter_agree (λ (b : Begin). not (has_ended (h ++ Ended id who grant poison fault ∷ []) b.id))
    (λ (b : Begin). not (has_ended h b.id) && not (id == b.id))
    (λ b. ap not (has_ended-append h (Ended id who grant poison fault ∷ []) b.id ∙ ap (λ c. has_ended h b.id || c) (or_false (id == b.id)))
    ∙ not_or (has_ended h b.id) (id == b.id)) (begins h)
    ∙ sym (filter-filter (λ (b : Begin). not (id == b.id)) (λ (b : Begin). not (has_ended h b.id)) (begins h))
