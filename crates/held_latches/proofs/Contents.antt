-- Items that are apart, and what trees and lists have once an item came, went or moved.
use Rattle.std.proofs.Common.{◌≡◌, ◌≢◌, ◌⊎◌, ⊎_elim, inl, inr, ℕ, true, false, true≢false, eqb, List, [], ◌∷◌, ◌++◌, length, ap, sym, refl, ◌∙◌}
use Rattle.std.proofs.Common.{subst, arith}
use Rattle.std.specs.List.{IsDistinct}
use Rattle.std.specs.Ordering.{nat_cmp, ordering_then}
use Rattle.std.specs.declared.cmp.Ordering.{Ordering}
use Rattle.std.specs.declared.cmp.Ordering.TheVariants.{Less, Equal, Greater}
use Rattle.std.proofs.lemmas.Bool.Decides.{nat_tests}
use Rattle.std.proofs.lemmas.List.{map-append}
use Rattle.row_pool.proofs.Chains.{mem-append, mem-head, mem-neither, mem-right}
use Rattle.row_pool.specs.Lists.{mem}
use Rattle.row_pool.specs.Trees.{Tree as Row}
use Rattle.span_key.specs.Spans.{key_cmp}
use Rattle.latch_item.specs.Items.{Item, item_cmp, item_of}
use Rattle.latch_item.specs.Shape.{Among, Each}
use Rattle.interval_tree.specs.Nodes.{Inserted}
use Rattle.read_list.proofs.Rows.{distinct-head, distinct-tail, mem-not}
use Rattle.held_latches.specs.Content.{AllApart, Apart, EachOf, items_in}
use Rattle.held_latches.specs.Stock.{Placed, rows_of}

-- ---- lists
pub each-append : {X : Type 0} (P : X → Type 0) (xs ys : List X) → EachOf P (xs ++ ys) → EachOf P xs × EachOf P ys
each-append P [] ys h = (tt, h)
each-append P (x ∷ xs) ys h = let o = each-append P xs ys h.1 in ((h.0, o.0), o.1)

pub each-join : {X : Type 0} (P : X → Type 0) (xs ys : List X) → EachOf P xs → EachOf P ys → EachOf P (xs ++ ys)
each-join P [] ys h k = k
each-join P (x ∷ xs) ys h k = (h.0, each-join P xs ys h.1 k)

pub each-map : {X : Type 0} (P Q : X → Type 0) → ((x : X) → P x → Q x) → (xs : List X) → EachOf P xs → EachOf Q xs
each-map P Q f [] h = tt
each-map P Q f (x ∷ xs) h = (f x h.0, each-map P Q f xs h.1)

pub distinct-parts : (rs ss : List ℕ) → IsDistinct eqb (rs ++ ss) → (q : ℕ) → mem q rs ≡ true → mem q ss ≡ false
distinct-parts [] ss h q m = absurd (true≢false (sym m))
distinct-parts (r ∷ rs) ss h q m = ⊎_elim
    (λ (z : r ≡ q). mem-not q ss (λ n. true≢false (sym (mem-right r rs ss (subst (λ k. mem k ss ≡ true) (sym z) n)) ∙ distinct-head r (rs ++ ss) h)))
    (λ b. distinct-parts rs ss (distinct-tail r (rs ++ ss) h) q b.1) (mem-head q r rs m)

pub distinct-back-part : (rs ss : List ℕ) → IsDistinct eqb (rs ++ ss) → IsDistinct eqb ss
distinct-back-part [] ss h = h
distinct-back-part (r ∷ rs) ss h = distinct-back-part rs ss (distinct-tail r (rs ++ ss) h)

-- ---- items that are apart
pub apart-swap : (x y : Item) → Apart x y → Apart y x
apart-swap x y h i p = h (sym i) (sym p)

pub apart-first : (xs : List Item) (x : Item) (ys : List Item) → AllApart (xs ++ x ∷ ys) → AllApart (x ∷ (xs ++ ys))
apart-first [] x ys h = h
apart-first (w ∷ xs) x ys h =
    let o = apart-first xs x ys h.1 in let e = each-append (Apart w) xs (x ∷ ys) h.0 in
    ((apart-swap w x e.1.0, o.0), (each-join (Apart w) xs ys e.0 e.1.1, o.1))

pub apart-back : (xs : List Item) (x : Item) (ys : List Item) → AllApart (x ∷ (xs ++ ys)) → AllApart (xs ++ x ∷ ys)
apart-back [] x ys h = h
apart-back (w ∷ xs) x ys h =
    let e = each-append (Apart w) xs ys h.1.0 in
    (each-join (Apart w) xs (x ∷ ys) e.0 (apart-swap x w h.0.0, e.1), apart-back xs x ys (h.0.1, h.1.1))

-- those in front of an item are apart from it
pub apart-front : (xs : List Item) (x : Item) (ys : List Item) → AllApart (xs ++ x ∷ ys) → EachOf (λ y. Apart y x) xs
apart-front [] x ys h = tt
apart-front (w ∷ xs) x ys h = ((each-append (Apart w) xs (x ∷ ys) h.0).1.0, apart-front xs x ys h.1)

-- items that are apart are not at one place of the order
then-equal : (o p : Ordering) → ordering_then o p ≡ Equal → p ≡ Equal
then-equal Less p e = cc
then-equal Equal p e = e
then-equal Greater p e = cc

then-first : (o p : Ordering) → ordering_then o p ≡ Equal → o ≡ Equal
then-first Less p e = e
then-first Equal p e = refl
then-first Greater p e = e

nat-equal : (m n : ℕ) → nat_cmp m n ≡ Equal → m ≡ n
nat-equal m n e = grind (arith, nat_tests)

pub apart-differs : (x y : Item) → Apart x y → item_cmp x y ≢ Equal
apart-differs x y apart e =
    let ids = then-equal (key_cmp x.span.1 y.span.1) (ordering_then (nat_cmp x.id y.id) (nat_cmp x.place y.place))
    (then-equal (key_cmp x.span.0 y.span.0) (ordering_then (key_cmp x.span.1 y.span.1) (ordering_then (nat_cmp x.id y.id) (nat_cmp x.place y.place))) e) in
    apart (nat-equal x.id y.id (then-first (nat_cmp x.id y.id) (nat_cmp x.place y.place) ids))
    (nat-equal x.place y.place (then-equal (nat_cmp x.id y.id) (nat_cmp x.place y.place) ids))

pub all-differ : (x : Item) (ts : List Row) → EachOf (λ y. Apart y x) (items_in ts) → Each (λ y. item_cmp (item_of y) x ≢ Equal) ts
all-differ x [] h = tt
all-differ x (t ∷ ts) h = (apart-differs (item_of t) x h.0, all-differ x ts h.1)

-- ---- trees
pub among-append : (t : Row) (xs ys : List Row) → Among t (xs ++ ys) → Among t xs ⊎ Among t ys
among-append t [] ys h = inr h
among-append t (x ∷ xs) ys h = ⊎_elim (λ z. inl (inl z)) (λ k. ⊎_elim (λ a. inl (inr a)) inr (among-append t xs ys k)) h

pub among-left : (t : Row) (xs ys : List Row) → Among t xs → Among t (xs ++ ys)
among-left t [] ys h = absurd h
among-left t (x ∷ xs) ys h = ⊎_elim inl (λ k. inr (among-left t xs ys k)) h

pub among-right : (t : Row) (xs ys : List Row) → Among t ys → Among t (xs ++ ys)
among-right t [] ys h = h
among-right t (x ∷ xs) ys h = inr (among-right t xs ys h)

-- an item came
pub inserted-among : (it : Row) (xs ys : List Row) → Inserted it xs ys → (t : Row) → Among t ys → Among t xs ⊎ (it ≡ t)
inserted-among it xs ys o t h = ⊎_elim (λ a. inl (subst (Among t) (sym o.old) (among-left t o.front o.back a)))
    (λ k. ⊎_elim inr (λ b. inl (subst (Among t) (sym o.old) (among-right t o.front o.back b))) k)
    (among-append t o.front (it ∷ o.back) (subst (Among t) o.new h))

pub items-append : (xs ys : List Row) → items_in (xs ++ ys) ≡ items_in xs ++ items_in ys
items-append xs ys = map-append item_of xs ys

-- the pending items whose rows are known
pub pending-first : (l : List Placed) (item : ℕ) (qs : List ℕ) → rows_of l ≡ item ∷ qs
    → (p : Placed) × (ps : List Placed) × (l ≡ p ∷ ps) × (p.row ≡ item) × (rows_of ps ≡ qs)
pending-first [] item qs e = absurd (nothing e)
  where
    nothing : [] ≡ item ∷ qs → ⊥
    nothing e = let a = ap length e in omega arith
pending-first (p ∷ ps) item qs e = (p, ps, refl, ap (λ l. head_or l) e, ap tail_of e)
  where
    head_or : List ℕ → ℕ
    head_or [] = 0
    head_or (x ∷ xs) = x

    tail_of : List ℕ → List ℕ
    tail_of [] = []
    tail_of (x ∷ xs) = xs

-- rows around the middle ones are none of them
pub distinct-middle : (rs ss us : List ℕ) → IsDistinct eqb (rs ++ (ss ++ us)) → (q : ℕ) → mem q (rs ++ us) ≡ true → mem q ss ≡ false
distinct-middle rs ss us h q m = ⊎_elim (λ a. (mem-neither q ss us (distinct-parts rs (ss ++ us) h q a)).0)
    (λ b. mem-not q ss (λ n. true≢false (sym b.1 ∙ distinct-parts ss us (distinct-back-part rs (ss ++ us) h) q n))) (mem-append q rs us m)
