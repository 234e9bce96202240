-- The order of snapshots: further latches, of another request than those that are there, can be put in one by one.
use Rattle.std.proofs.Common.{◌≡◌, List, [], ◌∷◌, ◌++◌, map, refl, sym, ap, ◌∙◌}
use Rattle.std.proofs.lemmas.List.{append-nil, map-append}
use Rattle.latch_model.specs.Histories.{HeldLatch, in_order, with_latch}
use Rattle.latch_model.specs.declared.latch.Access.{Access}
use Rattle.latch_model.proofs.Elements.{Each, Each-append}
use Rattle.latch_item.specs.Items.{Item}
use Rattle.latch_shots.specs.Held.{held_as}
use Rattle.held_latches.specs.Content.{Apart, EachOf, held_of}
use Rattle.held_latches.proofs.Order.{moved}

-- a held latch as an item
abbrev as_item : HeldLatch → Item
as_item x = record { id = x.by; place = x.place; lane = x.lane; span = x.latch.span; stamp = x.latch.stamp }

abbrev Accessed : Access → List HeldLatch → Type 0
Accessed a xs = Each (λ (x : HeldLatch). x.latch.access ≡ a) xs

again : (a : Access) (x : HeldLatch) → x.latch.access ≡ a → held_as a (as_item x) ≡ x
again a x e = λ i. record x { latch = record x.latch { access = sym e i } }

all_again : (a : Access) (xs : List HeldLatch) → Accessed a xs → held_of a (map as_item xs) ≡ xs
all_again a [] h = refl
all_again a (x ∷ xs) h = λ i. again a x h.0 i ∷ all_again a xs h.1 i

all_apart : (x : HeldLatch) (ys : List HeldLatch) → Each (λ (y : HeldLatch). y.by ≡ x.by → ⊥) ys → EachOf (λ y. Apart y (as_item x)) (map as_item ys)
all_apart x [] h = tt
all_apart x (y ∷ ys) h = (λ same place. h.0 same, all_apart x ys h.1)

-- one latch put in where the list is put in order
put_last : (a : Access) (ys : List HeldLatch) (x : HeldLatch) (zs : List HeldLatch) → Accessed a ys → Accessed a (x ∷ zs) →
    Each (λ (y : HeldLatch). y.by ≡ x.by → ⊥) ys → in_order (ys ++ x ∷ zs) ≡ with_latch x (in_order (ys ++ zs))
put_last a ys x zs f g differ =
    sym (ap in_order (all_again a (ys ++ x ∷ zs) (Each-append (λ (y : HeldLatch). y.latch.access ≡ a) ys (x ∷ zs) f g)))
    ∙ (ap (λ l. in_order (held_of a l)) (map-append as_item ys (x ∷ zs))
    ∙ (moved a (map as_item ys) (as_item x) (map as_item zs) (all_apart x ys differ)
    ∙ (ap (λ l. with_latch (held_as a (as_item x)) (in_order (held_of a l))) (sym (map-append as_item ys zs))
    ∙ (λ i. with_latch (again a x g.0 i) (in_order (all_again a (ys ++ zs) (Each-append (λ (y : HeldLatch). y.latch.access ≡ a) ys zs f g.1) i))))))

abbrev pub put_all : List HeldLatch → List HeldLatch → List HeldLatch
put_all [] l = l
put_all (x ∷ xs) l = with_latch x (put_all xs l)

-- further latches of one access
pub in_order-more : (a : Access) (ys xs : List HeldLatch) → Accessed a ys → Accessed a xs →
    Each (λ (x : HeldLatch). Each (λ (y : HeldLatch). y.by ≡ x.by → ⊥) ys) xs → in_order (ys ++ xs) ≡ put_all xs (in_order ys)
in_order-more a ys [] f g differ = ap in_order (append-nil ys)
in_order-more a ys (x ∷ xs) f g differ = put_last a ys x xs f g differ.0 ∙ ap (with_latch x) (in_order-more a ys xs f g.1 differ.1)
