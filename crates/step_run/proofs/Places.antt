-- Lists with one element in a new form, or without it.
use Rattle.std.proofs.Common.{◌≡◌, ℕ, zero, suc, ◌+◌, ◌<◌, ◌≤◌, Bool, true, false, not, cond, ◌==◌, List, [], ◌∷◌, ◌++◌, map, length, Option}
use Rattle.std.proofs.Common.{Some, None, refl, sym, ap, ◌∙◌, subst, inl, inr, arith}
use Rattle.std.specs.Prelude.{nat_lt, slice_get, slice_set}
use Rattle.std.specs.Option.{option_and_then}
use Rattle.std.specs.List.{filter, find, position, position_or_len, remove}
use Rattle.std.proofs.lemmas.Bool.{eq-eqb, ltb-false, ne_eqb}
use Rattle.std.proofs.lemmas.List.{length-map}
use Rattle.latch_model.proofs.Ascending.{Rising}
use Rattle.latch_model.proofs.Elements.{Each, Each-filter, Each-from_In, Each-map, filter_no, filter_yes}
use Rattle.latch_model.proofs.Lists.{In, In-map}

pub Rising-push : (xs : List ℕ) (y : ℕ) → Rising xs → Each (λ x. x < y) xs → Rising (xs ++ y ∷ [])
Rising-push [] y r e = (λ m none. absurd none, tt)
Rising-push (x ∷ xs) y r e = (λ m there. above x xs y m r.0 e.0 there, Rising-push xs y r.1 e.1)
  where
    above : (x : ℕ) (xs : List ℕ) (y m : ℕ) → ((k : ℕ) → In k xs → x < k) → x < y → In m (xs ++ y ∷ []) → x < m
    above x [] y m f l (inl e) = subst (λ k. x < k) e l
    above x [] y m f l (inr none) = absurd none
    above x (z ∷ zs) y m f l (inl e) = f m (inl e)
    above x (z ∷ zs) y m f l (inr there) = above x zs y m (λ k h. f k (inr h)) l there

-- a place
pub Each-at : {X : Type 0} (P : X → Type 0) (xs : List X) (i : ℕ) (x : X) → slice_get xs i ≡ Some x → Each P xs → P x
Each-at P [] i x e h = absurd (cc)
Each-at P (y ∷ ys) zero x e h = same P y x (cc) h.0
  where
    same : {X : Type 0} (P : X → Type 0) (y x : X) → y ≡ x → P y → P x
    same P y x e h = rw (← e) h
Each-at P (y ∷ ys) (suc i) x e h = Each-at P ys i x e h.1

pub Each-set : {X : Type 0} (P : X → Type 0) (xs : List X) (i : ℕ) (y : X) → P y → Each P xs → Each P (slice_set xs i y)
Each-set P [] i y p h = tt
Each-set P (x ∷ xs) zero y p h = (p, h.1)
Each-set P (x ∷ xs) (suc i) y p h = (h.0, Each-set P xs i y p h.1)

pub Each-remove : {X : Type 0} (P : X → Type 0) (xs : List X) (i : ℕ) → Each P xs → Each P (remove xs i)
Each-remove P [] zero h = tt
Each-remove P [] (suc i) h = tt
Each-remove P (x ∷ xs) zero h = h.1
Each-remove P (x ∷ xs) (suc i) h = (h.0, Each-remove P xs i h.1)

pub map-set : {X Y : Type 0} (f : X → Y) (xs : List X) (i : ℕ) (y : X) → map f (slice_set xs i y) ≡ slice_set (map f xs) i (f y)
map-set f [] i y = refl
map-set f (x ∷ xs) zero y = refl
map-set f (x ∷ xs) (suc i) y = ap (λ ys. f x ∷ ys) (map-set f xs i y)

pub map-remove : {X Y : Type 0} (f : X → Y) (xs : List X) (i : ℕ) → map f (remove xs i) ≡ remove (map f xs) i
map-remove f [] zero = refl
map-remove f [] (suc i) = refl
map-remove f (x ∷ xs) zero = refl
map-remove f (x ∷ xs) (suc i) = ap (λ ys. f x ∷ ys) (map-remove f xs i)

pub get-map : {X Y : Type 0} (f : X → Y) (xs : List X) (i : ℕ) (x : X) → slice_get xs i ≡ Some x → slice_get (map f xs) i ≡ Some (f x)
get-map f [] i x e = absurd (cc)
get-map f (y ∷ ys) zero x e = ap Some (ap f (cc))
get-map f (y ∷ ys) (suc i) x e = get-map f ys i x e

pub get-set : {X : Type 0} (xs : List X) (i : ℕ) (x y : X) → slice_get xs i ≡ Some x → slice_get (slice_set xs i y) i ≡ Some y
get-set [] i x y e = absurd (cc)
get-set (z ∷ zs) zero x y e = refl
get-set (z ∷ zs) (suc i) x y e = get-set zs i x y e

pub get_push : {X : Type 0} (xs : List X) (y : X) → slice_get (xs ++ y ∷ []) (length xs) ≡ Some y
get_push [] y = refl
get_push (x ∷ xs) y = get_push xs y

pub set-set_here : {X : Type 0} (xs : List X) (i : ℕ) (x y : X) → slice_set (slice_set xs i x) i y ≡ slice_set xs i y
set-set_here [] i x y = refl
set-set_here (z ∷ zs) zero x y = refl
set-set_here (z ∷ zs) (suc i) x y = ap (λ ys. z ∷ ys) (set-set_here zs i x y)

pub set_same : {X : Type 0} (xs : List X) (i : ℕ) (x : X) → slice_get xs i ≡ Some x → slice_set xs i x ≡ xs
set_same [] i x e = refl
set_same (z ∷ zs) zero x e = ap (λ y. y ∷ zs) (cc)
set_same (z ∷ zs) (suc i) x e = ap (λ ys. z ∷ ys) (set_same zs i x e)

pub remove-set : {X : Type 0} (xs : List X) (i : ℕ) (y : X) → remove (slice_set xs i y) i ≡ remove xs i
remove-set [] i y = refl
remove-set (x ∷ xs) zero y = refl
remove-set (x ∷ xs) (suc i) y = ap (λ ys. x ∷ ys) (remove-set xs i y)

-- what a map says is the same where it says the same of the new form
pub map-set_same : {X Y : Type 0} (f : X → Y) (xs : List X) (i : ℕ) (x y : X) → slice_get xs i ≡ Some x → f y ≡ f x → map f (slice_set xs i y) ≡ map f xs
map-set_same f [] i x y e g = refl
map-set_same f (z ∷ zs) zero x y e g = ap (λ u. u ∷ map f zs) (g ∙ ap f (cc))
map-set_same f (z ∷ zs) (suc i) x y e g = ap (λ us. f z ∷ us) (map-set_same f zs i x y e g)

kept_step : {X Y : Type 0} (f : X → Y) (x y : X) (xs : List X) (a b : Bool) → f y ≡ f x → a ≡ b → map f (cond a (y ∷ xs) xs) ≡ map f (cond b (x ∷ xs) xs)
kept_step f x y xs true true g e = ap (λ u. u ∷ map f xs) g
kept_step f x y xs true false g e = absurd (cc)
kept_step f x y xs false true g e = absurd (cc)
kept_step f x y xs false false g e = refl

more_step : {X Y : Type 0} (f : X → Y) (z : X) (xs ys : List X) (a : Bool) → map f xs ≡ map f ys → map f (cond a (z ∷ xs) xs) ≡ map f (cond a (z ∷ ys) ys)
more_step f z xs ys true e = ap (λ us. f z ∷ us) e
more_step f z xs ys false e = e

pub map-filter-set : {X Y : Type 0} (f : X → Y) (p : X → Bool) (xs : List X) (i : ℕ) (x y : X) → slice_get xs i ≡ Some x → f y ≡ f x → p y ≡ p x →
    map f (filter p (slice_set xs i y)) ≡ map f (filter p xs)
map-filter-set f p [] i x y e g q = refl
map-filter-set f p (z ∷ zs) zero x y e g q = kept_step f z y (filter p zs) (p y) (p z) (g ∙ ap f (cc)) (q ∙ ap p (cc))
map-filter-set f p (z ∷ zs) (suc i) x y e g q = more_step f z (filter p (slice_set zs i y)) (filter p zs) (p z) (map-filter-set f p zs i x y e g q)

pub filter-remove : {X : Type 0} (p : X → Bool) (xs : List X) (i : ℕ) (x : X) → slice_get xs i ≡ Some x → p x ≡ false → filter p (remove xs i) ≡ filter p xs
filter-remove p [] i x e q = absurd (cc)
filter-remove p (z ∷ zs) zero x e q = sym (filter_no p z zs (ap p (cc) ∙ q))
filter-remove p (z ∷ zs) (suc i) x e q = ap (λ us. cond (p z) (z ∷ us) us) (filter-remove p zs i x e q)

-- numbers that rise
pub Rising-remove : {X : Type 0} (f : X → ℕ) (xs : List X) (i : ℕ) → Rising (map f xs) → Rising (map f (remove xs i))
Rising-remove f [] zero r = tt
Rising-remove f [] (suc i) r = tt
Rising-remove f (x ∷ xs) zero r = r.1
Rising-remove f (x ∷ xs) (suc i) r = (λ m there. r.0 m (still f xs i m there), Rising-remove f xs i r.1)
  where
    still : {X : Type 0} (f : X → ℕ) (xs : List X) (i m : ℕ) → In m (map f (remove xs i)) → In m (map f xs)
    still f [] zero m h = h
    still f [] (suc i) m h = h
    still f (x ∷ xs) zero m h = inr h
    still f (x ∷ xs) (suc i) m (inl e) = inl e
    still f (x ∷ xs) (suc i) m (inr there) = inr (still f xs i m there)

others : {X : Type 0} (f : X → ℕ) (n : ℕ) (xs : List X) → ((m : ℕ) → In m (map f xs) → n < m) → Each (λ x. (n == f x) ≡ false) xs
others f n xs h =
    Each-from_In (λ x. (n == f x) ≡ false) xs (λ x there. ne_eqb n (f x) (λ e. let l : n < f x = h (f x) (In-map f xs x there) in absurd (omega arith)))

pub below_at : {X : Type 0} (f : X → ℕ) (n : ℕ) (xs : List X) (i : ℕ) (x : X) → slice_get xs i ≡ Some x → ((m : ℕ) → In m (map f xs) → n < m) →
    n < f x
below_at f n [] i x e h = absurd (cc)
below_at f n (z ∷ zs) zero x e h = let g : f z ≡ f x = ap f (cc) in h (f x) (inl g)
below_at f n (z ∷ zs) (suc i) x e h = below_at f n zs i x e (λ m there. h m (inr there))

filter_all : {X : Type 0} (p : X → Bool) (xs : List X) → Each (λ x. p x ≡ true) xs → filter p xs ≡ xs
filter_all p [] h = refl
filter_all p (x ∷ xs) h = filter_yes p x xs h.0 ∙ ap (λ us. x ∷ us) (filter_all p xs h.1)

pub drop_self : {X : Type 0} (f : X → ℕ) (n : ℕ) (x : X) (xs : List X) (a : Bool) → f x ≡ n → Each (λ y. (n == f y) ≡ false) xs →
    filter (λ y. not (n == f y)) (cond a (x ∷ xs) xs) ≡ xs
drop_self f n x xs true e h =
    filter_no (λ y. not (n == f y)) x xs (ap not (eq-eqb n (f x) (sym e)))
    ∙ filter_all (λ y. not (n == f y)) xs (Each-map (λ y. (n == f y) ≡ false) (λ y. not (n == f y) ≡ true) (λ y g. ap not g) xs h)
drop_self f n x xs false e h = filter_all (λ y. not (n == f y)) xs (Each-map (λ y. (n == f y) ≡ false) (λ y. not (n == f y) ≡ true) (λ y g. ap not g) xs h)

keep_step : {X : Type 0} (q : X → Bool) (z : X) (xs ys : List X) (a : Bool) → q z ≡ true → xs ≡ filter q ys →
    cond a (z ∷ xs) xs ≡ filter q (cond a (z ∷ ys) ys)
keep_step q z xs ys true g e = ap (λ us. z ∷ us) e ∙ sym (filter_yes q z ys g)
keep_step q z xs ys false g e = e

-- where the element of a number no longer passes, the filter keeps the others
pub filter_over : {X : Type 0} (f : X → ℕ) (p : X → Bool) (xs : List X) (i : ℕ) (x y : X) → slice_get xs i ≡ Some x → Rising (map f xs) →
    p y ≡ false → filter p (slice_set xs i y) ≡ filter (λ z. not (f x == f z)) (filter p xs)
filter_over f p [] i x y e r q = absurd (cc)
filter_over {X} f p (z ∷ zs) zero x y e r q =
    let g : z ≡ x = cc in
    let low : (m : ℕ) → In m (map f zs) → f x < m = subst (λ (u : X). (m : ℕ) → In m (map f zs) → f u < m) g r.0 in
    filter_no p y zs q
    ∙ sym (drop_self f (f x) z (filter p zs) (p z) (ap f g) (Each-filter (λ u. (f x == f u) ≡ false) p zs (others f (f x) zs low)))
filter_over f p (z ∷ zs) (suc i) x y e r q =
    let below : f z < f x = below_at f (f z) zs i x e r.0 in
    keep_step (λ u. not (f x == f u)) z (filter p (slice_set zs i y)) (filter p zs) (p z)
    (ap not (ne_eqb (f x) (f z) (λ g. absurd (omega arith)))) (filter_over f p zs i x y e r.1 q)

-- the first that passes, by its place
find_step : {X : Type 0} (p : X → Bool) (x : X) (xs : List X) (n : ℕ) (b : Bool) → find p xs ≡ slice_get xs n →
    cond b (Some x) (find p xs) ≡ slice_get (x ∷ xs) (cond (not b) (1 + n) 0)
find_step p x xs n true e = refl
find_step p x xs n false e = e ∙ sym (ap (λ m. slice_get (x ∷ xs) m) (one_more n))
  where
    one_more : (n : ℕ) → 1 + n ≡ suc n
    one_more n = omega arith

find_is : {X : Type 0} (p : X → Bool) (xs : List X) → find p xs ≡ slice_get xs (position_or_len p xs)
find_is p [] = refl
find_is p (x ∷ xs) = find_step p x xs (position_or_len p xs) (p x) (find_is p xs)

get_past : {X : Type 0} (xs : List X) (i : ℕ) → length xs ≤ i → slice_get xs i ≡ None
get_past [] i h = refl
get_past (x ∷ xs) zero h = absurd (omega arith)
get_past (x ∷ xs) (suc i) h = get_past xs i (omega arith)

by_place_step : {X : Type 0} (o : Option X) (xs : List X) (i : ℕ) (b : Bool) → nat_lt i (length xs) ≡ b → o ≡ slice_get xs i →
    o ≡ option_and_then (λ j. slice_get xs j) (cond b (Some i) None)
by_place_step o xs i true e f = f
by_place_step o xs i false e f = f ∙ get_past xs i (ltb-false i (length xs) e)

-- the first that passes is what stands at its place
pub find_by_place : {X : Type 0} (p : X → Bool) (xs : List X) → find p xs ≡ option_and_then (λ i. slice_get xs i) (position p xs)
find_by_place p xs = by_place_step (find p xs) xs (position_or_len p xs) (nat_lt (position_or_len p xs) (length xs)) refl (find_is p xs)

prefix_map : {X Y : Type 0} (f : X → Y) (p : Y → Bool) (xs : List X) → position_or_len p (map f xs) ≡ position_or_len (λ x. p (f x)) xs
prefix_map f p [] = refl
prefix_map f p (x ∷ xs) = ap (λ n. cond (not (p (f x))) (1 + n) 0) (prefix_map f p xs)

pub position_map : {X Y : Type 0} (f : X → Y) (p : Y → Bool) (xs : List X) → position p (map f xs) ≡ position (λ x. p (f x)) xs
position_map f p xs =
    let a : position_or_len p (map f xs) ≡ position_or_len (λ x. p (f x)) xs = prefix_map f p xs in
    let l : length (map f xs) ≡ length xs = length-map xs f in
    cc
