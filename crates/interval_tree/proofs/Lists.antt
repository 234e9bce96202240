-- Sorted lists, and one more item in them.
use Rattle.std.proofs.Common.{◌≡◌, ◌⊎◌, inl, inr, ⊎_elim, List, [], ◌∷◌, ◌++◌, sym, refl, ◌∙◌, subst, append_assoc}
use Rattle.std.specs.declared.cmp.Ordering.{Ordering}
use Rattle.std.specs.declared.cmp.Ordering.TheVariants.{Less, Equal, Greater}
use Rattle.std.proofs.lemmas.Cmp.{nat_list_cmp_total, nat_cmp_total, on_total, then_total}
use Rattle.std.specs.Cmp.{IsTotalOrder}
use Rattle.std.specs.Ordering.{nat_cmp, ordering_then}
use Rattle.span_key.specs.Spans.{bound_cmp}
use Rattle.span_key.proofs.BoundLaws.{bound_cmp_total}
use Rattle.row_pool.specs.Trees.{Tree}
use Rattle.latch_item.specs.Items.{Before, BoundUpTo, Item, item_cmp, item_of}
use Rattle.latch_item.specs.Shape.{Among, Each, IsTop, Sorted}
use Rattle.interval_tree.specs.Nodes.{Inserted}

-- ---- the order
ids_total : IsTotalOrder (λ (x y : Item). ordering_then (nat_cmp x.id y.id) (nat_cmp x.place y.place))
ids_total = then_total (on_total (λ (x : Item). x.id) nat_cmp_total) (on_total (λ (x : Item). x.place) nat_cmp_total)

pub item_cmp_total : IsTotalOrder item_cmp
item_cmp_total = then_total (on_total (λ (x : Item). x.span.0) nat_list_cmp_total) (then_total (on_total (λ (x : Item). x.span.1) nat_list_cmp_total) ids_total)

pub before-trans : (x y z : Tree) → Before x y → Before y z → Before x z
before-trans x y z a b = item_cmp_total.trans (item_of x) (item_of y) (item_of z) a b

pub before-turn : (x y : Tree) → item_cmp (item_of x) (item_of y) ≡ Greater → Before y x
before-turn x y e = item_cmp_total.antisymm (item_of y) (item_of x) ∙ rw e

three : (o : Ordering) → (o ≡ Less) ⊎ ((o ≡ Equal) ⊎ (o ≡ Greater))
three Less = inl refl
three Equal = inr (inl refl)
three Greater = inr (inr refl)

-- where x is not below y and y is not below z, x is not below z
pub bound-trans : (x y z : Tree) → BoundUpTo x y → BoundUpTo y z → BoundUpTo x z
bound-trans x y z a b e =
    let o = bound_cmp_total in let p = (item_of x).span in let q = (item_of y).span in let r = (item_of z).span in
    ⊎_elim (λ h. a h) (λ h. ⊎_elim (λ (g : bound_cmp p q ≡ Equal). b (sym (o.congr p q r g) ∙ e))
    (λ (g : bound_cmp p q ≡ Greater). b (o.trans q p r (o.antisymm q p ∙ rw g) e)) h) (three (bound_cmp p q))

pub bound-less : (x y : Tree) → bound_cmp (item_of x).span (item_of y).span ≡ Less → BoundUpTo y x
bound-less x y e f = let h : bound_cmp (item_of x).span (item_of y).span ≡ Greater = bound_cmp_total.antisymm (item_of x).span (item_of y).span ∙ rw f in
    let g : Less ≡ Greater = sym e ∙ h in cc

pub bound-self : (x : Tree) → BoundUpTo x x
bound-self x e = bound-less x x e e

-- ---- facts of each item
pub each-map : {P Q : Tree → Type 0} (xs : List Tree) → ((x : Tree) → P x → Q x) → Each P xs → Each Q xs
each-map [] f h = tt
each-map (x ∷ xs) f h = (f x h.0, each-map xs f h.1)

module _ (P : Tree → Type 0) where
  pub each-join : (xs ys : List Tree) → Each P xs → Each P ys → Each P (xs ++ ys)
  each-join [] ys a b = b
  each-join (x ∷ xs) ys a b = (a.0, each-join xs ys a.1 b)

  pub each-front : (xs ys : List Tree) → Each P (xs ++ ys) → Each P xs
  each-front [] ys h = tt
  each-front (x ∷ xs) ys h = (h.0, each-front xs ys h.1)

  pub each-back : (xs ys : List Tree) → Each P (xs ++ ys) → Each P ys
  each-back [] ys h = h
  each-back (x ∷ xs) ys h = each-back xs ys h.1

-- ---- sorted lists
pub sorted-front : (xs ys : List Tree) → Sorted (xs ++ ys) → Sorted xs
sorted-front [] ys h = tt
sorted-front (x ∷ xs) ys h = (each-front (Before x) xs ys h.0, sorted-front xs ys h.1)

pub sorted-back : (xs ys : List Tree) → Sorted (xs ++ ys) → Sorted ys
sorted-back [] ys h = h
sorted-back (x ∷ xs) ys h = sorted-back xs ys h.1

-- what stands in front of m is before it
pub sorted-under : (xs : List Tree) (m : Tree) (ys : List Tree) → Sorted (xs ++ m ∷ ys) → Each (λ y. Before y m) xs
sorted-under [] m ys h = tt
sorted-under (x ∷ xs) m ys h = ((each-back (Before x) xs (m ∷ ys) h.0).0, sorted-under xs m ys h.1)

pub sorted-put : (xs : List Tree) (x : Tree) (ys : List Tree) → Sorted (xs ++ ys) → Each (λ y. Before y x) xs → Each (λ y. Before x y) ys
    → Sorted (xs ++ x ∷ ys)
sorted-put [] x ys h a b = (b, h)
sorted-put (z ∷ zs) x ys h a b = (
  each-join (Before z) zs (x ∷ ys) (each-front (Before z) zs ys h.0) (a.0, each-back (Before z) zs ys h.0),
  sorted-put zs x ys
      h.1 a.1 b,
)

pub inserted-sorted : (x : Tree) (xs ys : List Tree) → Inserted x xs ys → Sorted xs → Sorted ys
inserted-sorted x xs ys i h = subst Sorted (sym i.new) (sorted-put i.front x i.back (subst Sorted i.old h) i.low i.high)

-- an insertion into a part of a list
pub inserted-within : (x : Tree) (ps ys zs qs : List Tree) → Each (λ y. Before y x) ps → Each (λ y. Before x y) qs → Inserted x ys zs
    → Inserted x (ps ++ (ys ++ qs)) (ps ++ (zs ++ qs))
inserted-within x ps ys zs qs a b i = record {
  front = ps ++ i.front;
  back = i.back ++ qs;
  old = rw i.old (simp append_assoc);
  new = rw i.new (simp append_assoc);
  low = each-join (λ y. Before y x) ps i.front a i.low;
  high = each-join (Before x) i.back qs i.high b;
}

-- ---- the greatest bound
pub among-put : (t : Tree) (xs : List Tree) (x : Tree) (ys : List Tree) → Among t (xs ++ ys) → Among t (xs ++ x ∷ ys)
among-put t [] x ys h = inr h
among-put t (z ∷ zs) x ys h = ⊎_elim (λ g. inl g) (λ g. inr (among-put t zs x ys g)) h

pub among-here : (t : Tree) (xs ys : List Tree) → Among t (xs ++ t ∷ ys)
among-here t [] ys = inl refl
among-here t (z ∷ zs) ys = inr (among-here t zs ys)

pub among-front : (t : Tree) (xs ys : List Tree) → Among t xs → Among t (xs ++ ys)
among-front t [] ys h = absurd h
among-front t (z ∷ zs) ys h = ⊎_elim (λ g. inl g) (λ g. inr (among-front t zs ys g)) h

pub among-back : (t : Tree) (xs ys : List Tree) → Among t ys → Among t (xs ++ ys)
among-back t [] ys h = h
among-back t (z ∷ zs) ys h = inr (among-back t zs ys h)

each-put : (P : Tree → Type 0) (x : Tree) (xs ys : List Tree) → Inserted x xs ys → P x → Each P xs → Each P ys
each-put P x xs ys i h a =
    let all = subst (Each P) i.old a in
    subst (Each P) (sym i.new) (each-join P i.front (x ∷ i.back) (each-front P i.front i.back all) (h, each-back P i.front i.back all))

pub top-stays : (x t : Tree) (xs ys : List Tree) → Inserted x xs ys → IsTop t xs → BoundUpTo t x → IsTop t ys
top-stays x t xs ys i h b = record {
  among = subst (Among t) (sym i.new) (among-put t i.front x i.back (subst (Among t) i.old h.among));
  most = each-put (BoundUpTo t) x xs ys i b h.most;
}

pub top-rises : (x t : Tree) (xs ys : List Tree) → Inserted x xs ys → IsTop t xs → BoundUpTo x t → IsTop x ys
top-rises x t xs ys i h b = record {
  among = subst (Among x) (sym i.new) (among-here x i.front i.back);
  most = each-put (BoundUpTo x) x xs ys i (bound-self x) (each-map xs (λ y g. bound-trans x t y b g) h.most);
}
