-- Where the item that is to go stands.
use Rattle.std.proofs.Common.{List, [], ap, append-nil, append_assoc, arith, inl, inr, length, length-append, refl, subst, sym, ℕ, ⊎_elim, ◌++◌, ◌∙◌, ◌∷◌}
use Rattle.std.proofs.Common.{◌≡◌, ◌⊎◌}
use Rattle.std.specs.Ordering.{ordering_reverse}
use Rattle.std.specs.Prelude.{None, Option, Some}
use Rattle.std.specs.declared.cmp.Ordering.{Ordering}
use Rattle.std.specs.declared.cmp.Ordering.TheVariants.{Equal, Greater, Less}
use Rattle.row_pool.specs.Trees.{Tree}
use Rattle.latch_item.specs.Items.{Before, BoundUpTo, item_cmp, item_of}
use Rattle.latch_item.specs.Shape.{Among, Each, IsTop, Sorted, weave}
use Rattle.interval_tree.proofs.Depths.{each-among}
use Rattle.interval_tree.proofs.Lists.{among-back, among-front, each-back, each-front, each-join, item_cmp_total, sorted-back}
use Rattle.interval_tree.proofs.Weaves.{ahead-low}
use Rattle.interval_tree.specs.Nodes.{Stops, ahead, behind}
use Rattle.tree_shrink.proofs.Borders.{among-split}
use Rattle.tree_shrink.specs.Stages.{Heads, Last, Removed, Target}

pub order-self : (x : Tree) → item_cmp (item_of x) (item_of x) ≡ Equal
order-self x = go (item_cmp (item_of x) (item_of x)) (item_cmp_total.antisymm (item_of x) (item_of x))
  where
    go : (o : Ordering) → o ≡ ordering_reverse o → o ≡ Equal
    go Less e = cc
    go Equal e = refl
    go Greater e = cc

pub not-before : (x : Tree) → Before x x → ⊥
not-before x b = let e : Less ≡ Equal = sym b ∙ order-self x in cc

-- the item stands first among those that are not before it
pub found-here : (it : Tree) (is js : List Tree) → Sorted (is ++ js) → Among it (is ++ js) → Each (λ y. Before y it) is → Stops it js → Heads it js
found-here it is js h a low stops = ⊎_elim (λ (p : Among it is). absurd (not-before it (each-among (λ y. Before y it) it is p low))) (λ
    (p : Among it js). go js (sorted-back is js h) p stops) (among-split it is js a)
  where
    go : (js : List Tree) → Sorted js → Among it js → Stops it js → Heads it js
    go [] h p s = absurd p
    go (j ∷ js) h p s = ⊎_elim (λ (e : j ≡ it). (js, ap (λ z. z ∷ js) e)) (λ (q : Among it js). absurd (s (each-among (Before j) it js q h.0))) p

-- the item is in the child's list, or it is the item behind the child
pub aims : (it : Tree) (xs ps ys qs is js : List Tree) (yss zss : List (List Tree)) → Sorted xs → Among it xs → xs ≡ ps ++ (ys ++ qs) → ps ≡ ahead is yss
    → qs ≡ behind js zss → Each (λ y. Before y it) is → Stops it js → Among it ys ⊎ Heads it qs
aims it xs ps ys qs is js yss zss sorted among list front back low stops =
    let s : Sorted (ps ++ (ys ++ qs)) = subst Sorted list sorted in
    let a : Among it (ps ++ (ys ++ qs)) = subst (Among it) list among in
    let lows : Each (λ y. Before y it) ps = subst (Each (λ y. Before y it)) (sym front) (ahead-low it is yss (ys ++ qs) low (subst (λ l. Sorted (l ++
    (ys ++ qs))) front s)) in
    let sq : Sorted qs = sorted-back ys qs (sorted-back ps (ys ++ qs) s) in
    ⊎_elim (λ (p : Among it ps). absurd (not-before it (each-among (λ y. Before y it) it ps p lows)))
    (λ (p : Among it (ys ++ qs)). ⊎_elim (λ (q : Among it ys). inl q) (λ (q : Among it qs). inr (back-heads js back q sq stops)) (among-split it ys qs p))
    (among-split it ps (ys ++ qs) a)
  where
    back-heads : (js : List Tree) → qs ≡ behind js zss → Among it qs → Sorted qs → Stops it js → Heads it qs
    back-heads [] e p s stops = absurd (subst (Among it) e p)
    back-heads (j ∷ js) e p s stops =
        let s2 = subst Sorted e s in
        ⊎_elim (λ (k : j ≡ it). (weave js zss, e ∙ ap (λ z. z ∷ weave js zss) k)) (λ (q : Among it (weave js zss)). absurd (stops (each-among (Before j) it
        (weave js zss) q s2.0))) (subst (Among it) e p)

-- ---- the last item of a list
pub snoc-same : (xs ys : List Tree) (a b : Tree) → xs ++ a ∷ [] ≡ ys ++ b ∷ [] → a ≡ b
snoc-same [] [] a b e = cc
snoc-same [] (y ∷ ys) a b e = absurd (let l = ap length e in let k = length-append ys (b ∷ []) in omega arith)
snoc-same (x ∷ xs) [] a b e = absurd (let l = ap length e in let k = length-append xs (a ∷ []) in omega arith)
snoc-same (x ∷ xs) (y ∷ ys) a b e = let t : xs ++ a ∷ [] ≡ ys ++ b ∷ [] = cc in snoc-same xs ys a b t

pub ends-with : (x : Tree) (xs : List Tree) → (z : Tree) × Last z (x ∷ xs)
ends-with x [] = (x, ([], refl))
ends-with x (y ∷ xs) = let o = ends-with y xs in (o.0, (x ∷ o.1.0, ap (λ l. x ∷ l) o.1.1))

pub some-last : (t : Tree) (xs : List Tree) → Among t xs → (z : Tree) × Last z xs
some-last t [] a = absurd a
some-last t (x ∷ xs) a = ends-with x xs

-- the last item of a list is that of a part that isn't empty, if nothing is behind it
pub last-part : (it t : Tree) (xs ps ys qs : List Tree) → Last it xs → xs ≡ ps ++ (ys ++ qs) → qs ≡ [] → Among t ys → Last it ys
last-part it t xs ps ys qs last list ends among =
    let (z, (l, e)) = some-last t ys among in
    let whole : xs ≡ (ps ++ l) ++ z ∷ [] = list ∙ (λ i. ps ++ (ys ++ ends i)) ∙ ap (λ k. ps ++ k) (append-nil ys ∙ e) ∙ sym (append_assoc ps l (z ∷ [])) in
    let same : z ≡ it = snoc-same (ps ++ l) last.0 z it (sym whole ∙ last.1) in
    (l, e ∙ ap (λ k. l ++ k ∷ []) same)

among-last : (x z : Tree) (xs : List Tree) → Last z (x ∷ xs) → Among z (x ∷ xs)
among-last x z xs (l, e) = subst (Among z) (sym e) (among-back z l (z ∷ []) (inl refl))

pub among-end : (z : Tree) (xs : List Tree) → Last z xs → Among z xs
among-end z xs (l, e) = subst (Among z) (sym e) (among-back z l (z ∷ []) (inl refl))

-- the last item went, and it was last
pub last-gone : (m : Tree) (xs ys : List Tree) → Sorted xs → Last m xs → Removed m xs ys → xs ≡ ys ++ m ∷ []
last-gone m xs ys sorted last r = go r.back r.old r.new
  where
    go : (back : List Tree) → xs ≡ r.front ++ m ∷ back → ys ≡ r.front ++ back → xs ≡ ys ++ m ∷ []
    go [] old new = old ∙ ap (λ l. l ++ m ∷ []) (sym (new ∙ append-nil r.front))
    go (b ∷ back) old new =
        let (z, (l, e)) = ends-with b back in
        let whole : xs ≡ (r.front ++ m ∷ l) ++ z ∷ [] = old ∙ ap (λ k. r.front ++ m ∷ k) e ∙ sym (append_assoc r.front (m ∷ l) (z ∷ [])) in
        let same : z ≡ m = snoc-same (r.front ++ m ∷ l) last.0 z m (sym whole ∙ last.1) in
        let later : Each (λ y. Before m y) (b ∷ back) = (sorted-back r.front (m ∷ b ∷ back) (subst Sorted old sorted)).0 in
        absurd (not-before m (subst (λ k. Before m k) same (each-among (Before m) z (b ∷ back) (among-last b z back (l, e)) later)))

-- ---- lists without the item
pub removed-within : (x : Tree) (ps ys zs qs : List Tree) → Removed x ys zs → Removed x (ps ++ (ys ++ qs)) (ps ++ (zs ++ qs))
removed-within x ps ys zs qs r = record {
  front = ps ++ r.front;
  back = r.back ++ qs;
  old = (λ i. ps ++ (r.old i ++ qs)) ∙ around ps r.front (x ∷ r.back) qs;
  new = (λ i. ps ++ (r.new i ++ qs)) ∙ around ps r.front r.back qs;
}
  where
    around : (ps f b qs : List Tree) → ps ++ ((f ++ b) ++ qs) ≡ (ps ++ f) ++ (b ++ qs)
    around ps f b qs = ap (λ l. ps ++ l) (append_assoc f b qs) ∙ sym (append_assoc ps f (b ++ qs))

pub each-less : (P : Tree → Type 0) (x : Tree) (xs ys : List Tree) → Removed x xs ys → Each P xs → Each P ys
each-less P x xs ys r h = let a = subst (Each P) r.old h in subst (Each P) (sym r.new) (each-join P r.front r.back (each-front P r.front (x ∷ r.back) a)
    (each-back P r.front (x ∷ r.back) a).1)

sorted-less : (fs : List Tree) (x : Tree) (bs : List Tree) → Sorted (fs ++ x ∷ bs) → Sorted (fs ++ bs)
sorted-less [] x bs h = h.1
sorted-less (f ∷ fs) x bs h = (
  each-join (Before f) fs bs (each-front (Before f) fs (x ∷ bs) h.0) (each-back (Before f) fs
      (x ∷ bs) h.0).1,
  sorted-less fs x bs h.1,
)

pub removed-sorted : (x : Tree) (xs ys : List Tree) → Removed x xs ys → Sorted xs → Sorted ys
removed-sorted x xs ys r h = subst Sorted (sym r.new) (sorted-less r.front x r.back (subst Sorted r.old h))

among-less : (t x : Tree) (fs bs : List Tree) → Among t (fs ++ x ∷ bs) → (x ≡ t → ⊥) → Among t (fs ++ bs)
among-less t x fs bs a ne = ⊎_elim (λ (p : Among t fs). among-front t fs bs p) (λ (p : Among t (x ∷ bs)). ⊎_elim (λ (e : x ≡ t). absurd (ne e)) (λ
    (q : Among t bs). among-back t fs bs q) p) (among-split t fs (x ∷ bs) a)

pub top-left : (t x : Tree) (xs ys : List Tree) → IsTop t xs → Removed x xs ys → (x ≡ t → ⊥) → IsTop t ys
top-left t x xs ys h r ne = record {
  among = subst (Among t) (sym r.new) (among-less t x r.front r.back (subst
      (Among t) r.old h.among) ne);
  most = each-less (BoundUpTo t) x xs ys r h.most;
}

-- ---- the target after the child's list got wider
pub target-wider : (goal : Option ℕ) (it : Tree) (ys qs ys2 qs2 front back : List Tree) → ys2 ≡ front ++ (ys ++ back) → qs ≡ back ++ qs2
    → Target goal it ys qs → Target goal it ys2 qs2
target-wider None it ys qs ys2 qs2 front back wider behind_is (last, ends) =
    let none = both-empty back qs2 (sym behind_is ∙ ends) in (
      (
        front ++ last.0,
        wider ∙ (λ i. front ++ (ys ++ none.0 i)) ∙ ap (λ l. front ++ l) (append-nil ys ∙ last.1) ∙ sym (append_assoc front last.0 (it ∷ [])),
      ),
      none.1,
    )
  where
    both-empty : (us vs : List Tree) → us ++ vs ≡ [] → (us ≡ []) × (vs ≡ [])
    both-empty [] vs e = (refl, e)
    both-empty (u ∷ us) vs e = absurd (let l = ap length e in omega arith)
target-wider (Some r) it ys qs ys2 qs2 front back wider behind_is (here, t) = (
  here,
  ⊎_elim (λ a. inl (subst (Among it) (sym wider) (among-back it front (ys ++ back) (among-front it ys back a)))) (λ a. heads back behind_is a wider) t,
)
  where
    heads : (b : List Tree) → qs ≡ b ++ qs2 → Heads it qs → ys2 ≡ front ++ (ys ++ b) → Among it ys2 ⊎ Heads it qs2
    heads [] e a w = inr (a.0, sym e ∙ a.1)
    heads (b ∷ bs) e a w =
        let all : b ∷ (bs ++ qs2) ≡ it ∷ a.0 = sym e ∙ a.1 in let same : b ≡ it = cc in
        inl (subst (Among it) (sym w) (among-back it front (ys ++ b ∷ bs) (among-back it ys (b ∷ bs) (inl same))))
