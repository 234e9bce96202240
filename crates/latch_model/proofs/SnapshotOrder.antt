-- The order within a snapshot: it is total, a list that is put in order is in order, and what is filtered afterwards can be filtered before.
use Rattle.std.proofs.Common.{◌≡◌, Bool, true, false, cond, List, [], ◌∷◌, refl, sym, ap, ◌∙◌}
use Rattle.std.specs.List.{filter}
use Rattle.std.specs.Cmp.{IsTotalOrder}
use Rattle.std.specs.Cmp.Lexicographic.{slice_cmp}
use Rattle.std.specs.Ordering.{nat_cmp, on, then_cmp, ordering_then, is_lt, is_gt, ordering_reverse}
use Rattle.std.specs.declared.cmp.Ordering.{Ordering}
use Rattle.std.specs.declared.cmp.Ordering.TheVariants.{Less, Equal, Greater}
use Rattle.std.proofs.lemmas.Cmp.{nat_cmp_total, nat_list_cmp_total, on_total, then_total, upto}
use Rattle.latch_model.specs.Histories.{HeldLatch, comes_first, decided, in_order, with_latch}
use Rattle.latch_model.proofs.Elements.{Each, Each-filter, Each-map}

-- the order as one comparison
abbrev held_cmp : HeldLatch → HeldLatch → Ordering
held_cmp =
    then_cmp (on (λ (x : HeldLatch). x.latch.span.0) (slice_cmp nat_cmp))
    (then_cmp (on (λ (x : HeldLatch). x.latch.span.1) (slice_cmp nat_cmp))
    (then_cmp (on (λ (x : HeldLatch). x.by) nat_cmp) (on (λ (x : HeldLatch). x.place) nat_cmp)))

held_total : IsTotalOrder held_cmp
held_total =
    then_total (on_total (λ (x : HeldLatch). x.latch.span.0) nat_list_cmp_total)
    (then_total (on_total (λ (x : HeldLatch). x.latch.span.1) nat_list_cmp_total)
    (then_total (on_total (λ (x : HeldLatch). x.by) nat_cmp_total) (on_total (λ (x : HeldLatch). x.place) nat_cmp_total)))

lt_is : (b c : Bool) → b ≡ is_lt (cond b Less (cond c Equal Greater))
lt_is true c = refl
lt_is false true = refl
lt_is false false = refl

decided_is : (o p : Ordering) (b : Bool) → b ≡ is_lt p → decided o b ≡ is_lt (ordering_then o p)
decided_is Less p b e = refl
decided_is Equal p b e = e
decided_is Greater p b e = refl

first_is : (a b : HeldLatch) → comes_first a b ≡ is_lt (held_cmp a b)
first_is a b =
    decided_is (slice_cmp nat_cmp a.latch.span.0 b.latch.span.0) _ _
    (decided_is (slice_cmp nat_cmp a.latch.span.1 b.latch.span.1) _ _
    (decided_is (nat_cmp a.by b.by) _ _ (lt_is _ _)))

lt_back : (o p : Ordering) → o ≡ ordering_reverse p → is_lt o ≡ is_gt p
lt_back o Less e = ap is_lt e
lt_back o Equal e = ap is_lt e
lt_back o Greater e = ap is_lt e

first_back : (a b : HeldLatch) → comes_first a b ≡ is_gt (held_cmp b a)
first_back a b = first_is a b ∙ lt_back (held_cmp a b) (held_cmp b a) (held_total.antisymm a b)

lt_not_gt : (o : Ordering) → is_lt o ≡ true → is_gt o ≡ false
lt_not_gt Less e = refl
lt_not_gt Equal e = refl
lt_not_gt Greater e = cc

-- one that comes first does not come after, and what does not come before what does not come before a third does not come before that
pub first_once : (a b : HeldLatch) → comes_first a b ≡ true → comes_first b a ≡ false
first_once a b e = first_back b a ∙ lt_not_gt (held_cmp a b) (sym (first_is a b) ∙ e)

pub not_first_again : (a b c : HeldLatch) → comes_first a b ≡ false → comes_first b c ≡ false → comes_first a c ≡ false
not_first_again a b c e f = first_back a c ∙ upto held_total c b a (sym (first_back b c) ∙ f) (sym (first_back a b) ∙ e)

abbrev NoneBefore : HeldLatch → List HeldLatch → Type 0
NoneBefore x ys = Each (λ z. comes_first z x ≡ false) ys

abbrev InOrder : List HeldLatch → Type 0
InOrder [] = Unit {0}
InOrder (y ∷ ys) = NoneBefore y ys × InOrder ys

none_before_with_step : (x y z : HeldLatch) (ys ws : List HeldLatch) (b : Bool) → comes_first x z ≡ false → comes_first y z ≡ false →
    NoneBefore z ys → NoneBefore z ws → NoneBefore z (cond b (y ∷ ws) (x ∷ y ∷ ys))
none_before_with_step x y z ys ws true e f h k = (f, k)
none_before_with_step x y z ys ws false e f h k = (e, (f, h))

none_before_with : (x z : HeldLatch) (ys : List HeldLatch) → comes_first x z ≡ false → NoneBefore z ys → NoneBefore z (with_latch x ys)
none_before_with x z [] e h = (e, tt)
none_before_with x z (y ∷ ys) e h =
    none_before_with_step x y z ys (with_latch x ys) (comes_first y x) e h.0 h.1 (none_before_with x z ys e h.1)

still_none : (x y : HeldLatch) (ys : List HeldLatch) → comes_first y x ≡ false → NoneBefore y ys → NoneBefore x ys
still_none x y ys e h = Each-map (λ z. comes_first z y ≡ false) (λ z. comes_first z x ≡ false) (λ z k. not_first_again z y x k e) ys h

in_order_with_step : (x y : HeldLatch) (ys ws : List HeldLatch) (b : Bool) → comes_first y x ≡ b → NoneBefore y ys → InOrder ys → InOrder ws →
    (comes_first x y ≡ false → NoneBefore y ws) → InOrder (cond b (y ∷ ws) (x ∷ y ∷ ys))
in_order_with_step x y ys ws true e h o i n = (n (first_once y x e), i)
in_order_with_step x y ys ws false e h o i n = ((e, still_none x y ys e h), (h, o))

in_order_with : (x : HeldLatch) (ys : List HeldLatch) → InOrder ys → InOrder (with_latch x ys)
in_order_with x [] h = (tt, tt)
in_order_with x (y ∷ ys) h =
    in_order_with_step x y ys (with_latch x ys) (comes_first y x) refl h.0 h.1 (in_order_with x ys h.1) (λ e. none_before_with x y ys e h.0)

is_in_order : (xs : List HeldLatch) → InOrder (in_order xs)
is_in_order [] = tt
is_in_order (x ∷ xs) = in_order_with x (in_order xs) (is_in_order xs)

with_first : (x : HeldLatch) (ys : List HeldLatch) → NoneBefore x ys → with_latch x ys ≡ x ∷ ys
with_first x [] h = refl
with_first x (y ∷ ys) h = ap (λ b. cond b (y ∷ with_latch x ys) (x ∷ y ∷ ys)) h.0

filter_with_later : (p : HeldLatch → Bool) (x y : HeldLatch) (ws zs : List HeldLatch) (a q : Bool) → comes_first y x ≡ true →
    filter p ws ≡ cond q (with_latch x zs) zs → cond a (y ∷ filter p ws) (filter p ws) ≡ cond q (with_latch x (cond a (y ∷ zs) zs)) (cond a (y ∷ zs) zs)
filter_with_later p x y ws zs true true e f = ap (λ us. y ∷ us) f ∙ sym (ap (λ b. cond b (y ∷ with_latch x zs) (x ∷ y ∷ zs)) e)
filter_with_later p x y ws zs true false e f = ap (λ us. y ∷ us) f
filter_with_later p x y ws zs false q e f = f

filter_with_first : (x : HeldLatch) (zs : List HeldLatch) (q : Bool) → NoneBefore x zs → cond q (x ∷ zs) zs ≡ cond q (with_latch x zs) zs
filter_with_first x zs true h = sym (with_first x zs h)
filter_with_first x zs false h = refl

filter_with_step : (p : HeldLatch → Bool) (x y : HeldLatch) (ys ws : List HeldLatch) (b : Bool) → comes_first y x ≡ b → NoneBefore y ys →
    filter p ws ≡ cond (p x) (with_latch x (filter p ys)) (filter p ys) →
    filter p (cond b (y ∷ ws) (x ∷ y ∷ ys)) ≡ cond (p x) (with_latch x (filter p (y ∷ ys))) (filter p (y ∷ ys))
filter_with_step p x y ys ws true e h f = filter_with_later p x y ws (filter p ys) (p y) (p x) e f
filter_with_step p x y ys ws false e h f =
    let k : NoneBefore x (y ∷ ys) = (e, still_none x y ys e h) in
    filter_with_first x (filter p (y ∷ ys)) (p x) (Each-filter (λ z. comes_first z x ≡ false) p (y ∷ ys) k)

filter_with : (p : HeldLatch → Bool) (x : HeldLatch) (ys : List HeldLatch) → InOrder ys →
    filter p (with_latch x ys) ≡ cond (p x) (with_latch x (filter p ys)) (filter p ys)
filter_with p x [] h = refl
filter_with p x (y ∷ ys) h = filter_with_step p x y ys (with_latch x ys) (comes_first y x) refl h.0 (filter_with p x ys h.1)

order_cond : (x : HeldLatch) (ys : List HeldLatch) (a : Bool) → cond a (with_latch x (in_order ys)) (in_order ys) ≡ in_order (cond a (x ∷ ys) ys)
order_cond x ys true = refl
order_cond x ys false = refl

-- what is filtered after it is ordered can be filtered before
pub filter-in_order : (p : HeldLatch → Bool) (xs : List HeldLatch) → filter p (in_order xs) ≡ in_order (filter p xs)
filter-in_order p [] = refl
filter-in_order p (x ∷ xs) =
    filter_with p x (in_order xs) (is_in_order xs)
    ∙ ap (λ zs. cond (p x) (with_latch x zs) zs) (filter-in_order p xs)
    ∙ order_cond x (filter p xs) (p x)
