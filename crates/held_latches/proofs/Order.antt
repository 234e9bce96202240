-- The order of snapshots over items: where one comes, goes, or moves from the list to the tree.
use Rattle.std.proofs.Common.{◌≡◌, ℕ, Bool, true, false, not, ◌&&◌, ◌==◌, cond, nat_lt, List, [], ◌∷◌, ◌++◌, refl, sym, ap, ◌∙◌, arith}
use Rattle.std.specs.List.{filter}
use Rattle.std.proofs.lemmas.Bool.Decides.{nat_tests}
use Rattle.std.proofs.lemmas.Cmp.{nat_list_cmp_total}
use Rattle.std.specs.Cmp.Lexicographic.{slice_cmp}
use Rattle.std.specs.Ordering.{nat_cmp, ordering_reverse, ordering_then}
use Rattle.std.specs.declared.cmp.Ordering.{Ordering}
use Rattle.std.specs.declared.cmp.Ordering.TheVariants.{Less, Equal, Greater}
use Rattle.latch_model.specs.Histories.{HeldLatch, comes_first, decided, in_order, with_latch}
use Rattle.latch_model.specs.declared.latch.Access.{Access}
use Rattle.latch_model.proofs.SnapshotOrder.{filter-in_order, first_once, not_first_again}
use Rattle.row_pool.specs.Trees.{Tree as Row}
use Rattle.latch_item.specs.Items.{Before, Item, item_cmp, item_of}
use Rattle.latch_item.specs.Shape.{Each, Sorted}
use Rattle.latch_shots.specs.Held.{held_as, held_in}
use Rattle.held_latches.specs.Content.{Apart, EachOf, held_of, is_other}

level : (o p : Ordering) (b c : Bool) → o ≡ ordering_reverse p → decided o b ≡ false → decided p c ≡ false → (b ≡ false) × (c ≡ false)
level Less p b c e f g = cc
level Equal Less b c e f g = cc
level Equal Equal b c e f g = (f, g)
level Equal Greater b c e f g = cc
level Greater Less b c e f g = cc
level Greater Equal b c e f g = cc
level Greater Greater b c e f g = cc

-- the numbers are equal where neither is decided
nat_level : (m n : ℕ) (b c : Bool) → decided (nat_cmp m n) b ≡ false → decided (nat_cmp n m) c ≡ false → (m ≡ n) × (b ≡ false) × (c ≡ false)
nat_level m n b c f g = by (nat_lt m n) (nat_lt n m) refl refl
  where
    by : (s t : Bool) → nat_lt m n ≡ s → nat_lt n m ≡ t → (m ≡ n) × (b ≡ false) × (c ≡ false)
    by true t p q = cc
    by false true p q = cc
    by false false p q = let z : m ≡ n = grind (arith, nat_tests) in (z, grind (arith, nat_tests), grind (arith, nat_tests))

-- of items that are apart one comes first
never_level : (a : Access) (x y : Item) → Apart x y → comes_first (held_as a x) (held_as a y) ≡ false → comes_first (held_as a y) (held_as a x) ≡ false → ⊥
never_level a x y apart f g =
    let keys = level (slice_cmp nat_cmp x.span.0 y.span.0) (slice_cmp nat_cmp y.span.0 x.span.0) _ _ (nat_list_cmp_total.antisymm x.span.0 y.span.0) f g in
    let ends = level (slice_cmp nat_cmp x.span.1 y.span.1) (slice_cmp nat_cmp y.span.1 x.span.1) _ _ (nat_list_cmp_total.antisymm x.span.1 y.span.1)
    keys.0 keys.1 in
    let ids = nat_level x.id y.id _ _ ends.0 ends.1 in
    apart ids.0 (grind (arith, nat_tests))

swap : (a b : HeldLatch) (l : List HeldLatch) → comes_first a b ≡ true → with_latch a (with_latch b l) ≡ with_latch b (with_latch a l)
swap a b [] e = ap (λ t. cond t (b ∷ a ∷ []) (a ∷ b ∷ [])) (first_once a b e) ∙ sym (ap (λ t. cond t (a ∷ b ∷ []) (b ∷ a ∷ [])) e)
swap a b (y ∷ ys) e = by (comes_first y a) (comes_first y b) refl refl (swap a b ys e)
  where
    by : (p q : Bool) → comes_first y a ≡ p → comes_first y b ≡ q → with_latch a (with_latch b ys) ≡ with_latch b (with_latch a ys)
        → with_latch a (cond q (y ∷ with_latch b ys) (b ∷ y ∷ ys)) ≡ with_latch b (cond p (y ∷ with_latch a ys) (a ∷ y ∷ ys))
    by true true f g rest =
        ap (λ t. cond t (y ∷ with_latch a (with_latch b ys)) (a ∷ y ∷ with_latch b ys)) f
        ∙ (ap (λ zs. y ∷ zs) rest ∙ sym (ap (λ t. cond t (y ∷ with_latch b (with_latch a ys)) (b ∷ y ∷ with_latch a ys)) g))
    by true false f g rest = let n = not_first_again y b a g (first_once a b e) in cc
    by false true f g rest =
        ap (λ t. cond t (y ∷ with_latch a (with_latch b ys)) (a ∷ y ∷ with_latch b ys)) f
        ∙ sym (ap (λ t. cond t (a ∷ with_latch b (y ∷ ys)) (b ∷ a ∷ y ∷ ys)) e ∙ ap (λ t. a ∷ cond t (y ∷ with_latch b ys) (b ∷ y ∷ ys)) g)
    by false false f g rest =
        ap (λ t. cond t (b ∷ with_latch a (y ∷ ys)) (a ∷ b ∷ y ∷ ys)) (first_once a b e)
        ∙ sym (ap (λ t. cond t (a ∷ with_latch b (y ∷ ys)) (b ∷ a ∷ y ∷ ys)) e ∙ ap (λ t. a ∷ cond t (y ∷ with_latch b ys) (b ∷ y ∷ ys)) g)

swap_apart : (a : Access) (x y : Item) (l : List HeldLatch) → Apart x y
    → with_latch (held_as a x) (with_latch (held_as a y) l) ≡ with_latch (held_as a y) (with_latch (held_as a x) l)
swap_apart a x y l apart = by (comes_first (held_as a x) (held_as a y)) (comes_first (held_as a y) (held_as a x)) refl refl
  where
    by : (p q : Bool) → comes_first (held_as a x) (held_as a y) ≡ p → comes_first (held_as a y) (held_as a x) ≡ q
        → with_latch (held_as a x) (with_latch (held_as a y) l) ≡ with_latch (held_as a y) (with_latch (held_as a x) l)
    by true q f g = swap (held_as a x) (held_as a y) l f
    by false true f g = sym (swap (held_as a y) (held_as a x) l g)
    by false false f g = absurd (never_level a x y apart f g)

-- an item can be put in order last, wherever it stands
pub moved : (a : Access) (front : List Item) (x : Item) (back : List Item) → EachOf (λ y. Apart y x) front
    → in_order (held_of a (front ++ x ∷ back)) ≡ with_latch (held_as a x) (in_order (held_of a (front ++ back)))
moved a [] x back h = refl
moved a (y ∷ ys) x back h = ap (with_latch (held_as a y)) (moved a ys x back h.1) ∙ swap_apart a y x (in_order (held_of a (ys ++ back))) h.0

stays : (id place : ℕ) (y : HeldLatch) → (y.by ≡ id → y.place ≡ place → ⊥) → is_other id place y ≡ true
stays id place y apart = by (y.by == id) (y.place == place) refl refl
  where
    by : (s t : Bool) → (y.by == id) ≡ s → (y.place == place) ≡ t → not (s && t) ≡ true
    by true true p q = absurd (apart (grind (arith, nat_tests)) (grind (arith, nat_tests)))
    by true false p q = refl
    by false t p q = refl

all_stay : (a : Access) (id place : ℕ) (ys : List Item) → EachOf (λ y. y.id ≡ id → y.place ≡ place → ⊥) ys
    → filter (is_other id place) (held_of a ys) ≡ held_of a ys
all_stay a id place [] h = refl
all_stay a id place (y ∷ ys) h =
    ap (λ t. cond t (held_as a y ∷ filter (is_other id place) (held_of a ys)) (filter (is_other id place) (held_of a ys)))
    (stays id place (held_as a y) h.0) ∙ ap (λ l. held_as a y ∷ l) (all_stay a id place ys h.1)

leaves : (a : Access) (front : List Item) (x : Item) (back : List Item) → EachOf (λ y. y.id ≡ x.id → y.place ≡ x.place → ⊥) front
    → EachOf (λ y. y.id ≡ x.id → y.place ≡ x.place → ⊥) back
    → filter (is_other x.id x.place) (held_of a (front ++ x ∷ back)) ≡ held_of a (front ++ back)
leaves a [] x back h k =
    ap (λ t. cond t (held_as a x ∷ filter (is_other x.id x.place) (held_of a back)) (filter (is_other x.id x.place) (held_of a back))) self
    ∙ all_stay a x.id x.place back k
  where
    self : is_other x.id x.place (held_as a x) ≡ false
    self = grind (arith, nat_tests)
leaves a (y ∷ ys) x back h k =
    ap (λ t. cond t (held_as a y ∷ filter (is_other x.id x.place) (held_of a (ys ++ x ∷ back))) (filter (is_other x.id x.place) (held_of a (ys ++ x ∷ back))))
    (stays x.id x.place (held_as a y) h.0) ∙ ap (λ l. held_as a y ∷ l) (leaves a ys x back h.1 k)

-- an item that is apart from all others goes out
pub gone : (a : Access) (front : List Item) (x : Item) (back : List Item) → EachOf (λ y. Apart y x) front → EachOf (λ y. Apart y x) back
    → in_order (held_of a (front ++ back)) ≡ filter (is_other x.id x.place) (in_order (held_of a (front ++ x ∷ back)))
gone a front x back h k = sym (filter-in_order (is_other x.id x.place) (held_of a (front ++ x ∷ back)) ∙ ap in_order (leaves a front x back h k))

-- ---- the items of a tree are in order
then_first : (o p : Ordering) (b : Bool) → ordering_then o p ≡ Less → (p ≡ Less → b ≡ true) → decided o b ≡ true
then_first Less p b e f = refl
then_first Equal p b e f = f e
then_first Greater p b e f = cc

less_first : (m n : ℕ) → nat_cmp m n ≡ Less → nat_lt m n ≡ true
less_first m n e = by (nat_lt m n) refl
  where
    by : (t : Bool) → nat_lt m n ≡ t → nat_lt m n ≡ true
    by true p = p
    by false p = grind (arith, nat_tests)

before_first : (a : Access) (x y : Item) → item_cmp x y ≡ Less → comes_first (held_as a x) (held_as a y) ≡ true
before_first a x y e =
    then_first (slice_cmp nat_cmp x.span.0 y.span.0) _ _ e (λ f. then_first (slice_cmp nat_cmp x.span.1 y.span.1) _ _ f
    (λ g. then_first (nat_cmp x.id y.id) _ _ g (λ h. less_first x.place y.place h)))

first_alone : (a : Access) (t : Row) (ts : List Row) → Each (λ u. Before t u) ts
    → with_latch (held_as a (item_of t)) (held_in a ts) ≡ held_as a (item_of t) ∷ held_in a ts
first_alone a t [] h = refl
first_alone a t (u ∷ us) h = ap (λ b. cond b (held_as a (item_of u) ∷ with_latch (held_as a (item_of t)) (held_in a us))
    (held_as a (item_of t) ∷ held_as a (item_of u) ∷ held_in a us))
    (first_once (held_as a (item_of t)) (held_as a (item_of u)) (before_first a (item_of t) (item_of u) h.0))

pub sorted_order : (a : Access) (ts : List Row) → Sorted ts → in_order (held_in a ts) ≡ held_in a ts
sorted_order a [] h = refl
sorted_order a (t ∷ ts) h = ap (with_latch (held_as a (item_of t))) (sorted_order a ts h.1) ∙ first_alone a t ts h.0
