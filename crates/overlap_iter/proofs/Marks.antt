-- Where a walk stops in a list.
use Rattle.std.proofs.Common.{◌≡◌, ⊎_elim, ℕ, suc, ◌+◌, ◌≤◌, Bool, true, false, ◌&&◌, cond, List, [], ◌∷◌, ◌++◌, length}
use Rattle.std.proofs.Common.{refl, ap, ◌∙◌, arith}
use Rattle.std.specs.Ordering.{is_le, ordering_then, ordering_reverse, nat_cmp}
use Rattle.std.specs.declared.cmp.Ordering.{Ordering}
use Rattle.std.specs.declared.cmp.Ordering.TheVariants.{Less, Equal, Greater}
use Rattle.row_pool.specs.Trees.{Tree}
use Rattle.span_key.specs.Spans.{Pair, KeyUpTo, key_cmp, past, bound_cmp}
use Rattle.span_key.proofs.KeyOrder.{KeyLess-less_up_to, KeyLess-up_to_less}
use Rattle.span_key.proofs.BoundLaws.{bound_cmp_total, past-up_to}
use Rattle.latch_item.specs.Items.{Item, item_of, Before, BoundUpTo}
use Rattle.latch_item.specs.Shape.{Each, Among, IsTop, Sorted}
use Rattle.overlap_iter.specs.Overlaps.{starts, reaches, found, late, marks, spare, Misses}

-- ---- lists in parts
pub marks-join : (span : Pair) (xs ys : List Tree) → marks span (xs ++ ys) ≡ marks span xs + spare span xs (marks span ys)
marks-join span [] ys = omega arith
marks-join span (x ∷ xs) ys = by (reaches span x) (starts span x) (marks-join span xs ys)
  where
    by : (r b : Bool) → marks span (xs ++ ys) ≡ marks span xs + spare span xs (marks span ys)
        → cond r (cond b (suc (marks span (xs ++ ys))) 1) (marks span (xs ++ ys)) ≡ cond r (cond b (suc (marks span xs)) 1) (marks span xs) + cond
        (cond r (cond b (late span xs) true) (late span xs)) 0 (marks span ys)
    by true true h = omega arith
    by true false h = omega arith
    by false b h = h

late-join : (span : Pair) (xs ys : List Tree) → late span (xs ++ ys) ≡ cond (late span xs) true (late span ys)
late-join span [] ys = refl
late-join span (x ∷ xs) ys = by (reaches span x) (starts span x) (late-join span xs ys)
  where
    by : (r b : Bool) → late span (xs ++ ys) ≡ cond (late span xs) true (late span ys)
        → cond r (cond b (late span (xs ++ ys)) true) (late span (xs ++ ys)) ≡ cond (cond r (cond b (late span xs) true) (late span xs)) true (late span ys)
    by true true h = h
    by true false h = refl
    by false b h = h

pub spare-join : (span : Pair) (xs ys : List Tree) (n : ℕ) → spare span (xs ++ ys) n ≡ spare span xs (spare span ys n)
spare-join span xs ys n = ap (λ b. cond b 0 n) (late-join span xs ys) ∙ by (late span xs)
  where
    by : (b : Bool) → cond (cond b true (late span ys)) 0 n ≡ cond b 0 (cond (late span ys) 0 n)
    by true = refl
    by false = refl

pub spare-most : (span : Pair) (xs : List Tree) (n : ℕ) → spare span xs n ≤ n
spare-most span xs n = by (late span xs)
  where
    by : (b : Bool) → cond b 0 n ≤ n
    by true = omega arith
    by false = omega arith

-- ---- items that end before the span
pub marks-none : (span : Pair) (xs : List Tree) → Each (Misses span) xs → marks span xs ≡ 0
marks-none span [] h = refl
marks-none span (x ∷ xs) h = ap (λ r. cond r (cond (starts span x) (suc (marks span xs)) 1) (marks span xs)) h.0 ∙ marks-none span xs h.1

pub spare-none : (span : Pair) (xs : List Tree) (n : ℕ) → Each (Misses span) xs → spare span xs n ≡ n
spare-none span xs n h = ap (λ b. cond b 0 n) (late-none xs h)
  where
    late-none : (xs : List Tree) → Each (Misses span) xs → late span xs ≡ false
    late-none [] h = refl
    late-none (x ∷ xs) h = ap (λ r. cond r (cond (starts span x) (late span xs) true) (late span xs)) h.0 ∙ late-none xs h.1

found-by : (span : Pair) (x : Tree) (xs : List Tree) (b r : Bool) → starts span x ≡ b → reaches span x ≡ r
    → found span (x ∷ xs) ≡ cond (b && r) (x ∷ found span xs) (found span xs)
found-by span x xs b r p q = (λ i. cond (p i && q i) (x ∷ found span xs) (found span xs))

pub found-first : (span : Pair) (x : Tree) (xs : List Tree) → starts span x ≡ true → reaches span x ≡ true → found span (x ∷ xs) ≡ x ∷ found span xs
found-first span x xs p q = found-by span x xs true true p q

pub found-past : (span : Pair) (x : Tree) (xs : List Tree) → reaches span x ≡ false → found span (x ∷ xs) ≡ found span xs
found-past span x xs q = found-by span x xs (starts span x) false refl q ∙ neither (starts span x)
  where
    neither : (b : Bool) → cond (b && false) (x ∷ found span xs) (found span xs) ≡ found span xs
    neither true = refl
    neither false = refl

pub found-misses : (span : Pair) (front xs : List Tree) → Each (Misses span) front → found span (front ++ xs) ≡ found span xs
found-misses span [] xs h = refl
found-misses span (x ∷ front) xs h = found-past span x (front ++ xs) h.0 ∙ found-misses span front xs h.1

found-none : (span : Pair) (xs : List Tree) → Each (λ y. starts span y ≡ false) xs → found span xs ≡ []
found-none span [] h = refl
found-none span (x ∷ xs) h = found-by span x xs false (reaches span x) h.0 refl ∙ found-none span xs h.1

-- a walk stops at what it answers, and once more at most
pub marks-found : (span : Pair) (xs : List Tree) → marks span xs ≤ suc (length (found span xs))
marks-found span [] = omega arith
marks-found span (x ∷ xs) = by (reaches span x) (starts span x) (marks-found span xs)
  where
    by : (r b : Bool) → marks span xs ≤ suc (length (found span xs))
        → cond r (cond b (suc (marks span xs)) 1) (marks span xs) ≤ suc (length (cond (b && r) (x ∷ found span xs) (found span xs)))
    by true true h = omega arith
    by true false h = omega arith
    by false true h = h
    by false false h = h

-- some item reaches the span
pub marks-some : (span : Pair) (t : Tree) (xs : List Tree) → Among t xs → reaches span t ≡ true → 1 ≤ marks span xs
marks-some span t [] a h = absurd a
marks-some span t (x ∷ xs) a h = ⊎_elim (λ (e : x ≡ t). first (starts span x) (reaches span x) (ap (reaches span) e ∙ h))
    (λ b. later (reaches span x) (starts span x) (marks-some span t xs b h)) a
  where
    first : (b r : Bool) → r ≡ true → 1 ≤ cond r (cond b (suc (marks span xs)) 1) (marks span xs)
    first true true e = omega arith
    first false true e = omega arith
    first b false e = cc

    later : (r b : Bool) → 1 ≤ marks span xs → 1 ≤ cond r (cond b (suc (marks span xs)) 1) (marks span xs)
    later true true m = omega arith
    later true false m = omega arith
    later false b m = m

-- an item behind which the walk goes on: it ends before the span, or begins before the span's end
abbrev pub goes_on : Bool → Bool → Bool
goes_on r b = cond r b true

pub spare-past : (span : Pair) (x : Tree) (xs : List Tree) (n : ℕ) → goes_on (reaches span x) (starts span x) ≡ true → spare span (x ∷ xs) n ≡ spare span xs n
spare-past span x xs n = by (reaches span x) (starts span x)
  where
    by : (r b : Bool) → goes_on r b ≡ true → cond (cond r (cond b (late span xs) true) (late span xs)) 0 n ≡ cond (late span xs) 0 n
    by true true h = refl
    by true false h = cc
    by false b h = refl

pub marks-past : (span : Pair) (x : Tree) (xs : List Tree) → goes_on (reaches span x) (starts span x) ≡ true → marks span xs ≤ marks span (x ∷ xs)
marks-past span x xs = by (reaches span x) (starts span x)
  where
    by : (r b : Bool) → goes_on r b ≡ true → marks span xs ≤ cond r (cond b (suc (marks span xs)) 1) (marks span xs)
    by true true h = omega arith
    by true false h = cc
    by false b h = omega arith

-- ---- what the bounds and the order of items say of the span
never : (r : Bool) → (r ≡ true → ⊥) → r ≡ false
never true f = absurd (f refl)
never false f = refl

-- where the greater bound is before the span, the other is
bound-misses : (span : Pair) (top y : Tree) → BoundUpTo top y → reaches span top ≡ false → reaches span y ≡ false
bound-misses span top y h out =
    let a : Pair = (item_of top).span in let b : Pair = (item_of y).span in
    let le : is_le (bound_cmp b a) ≡ true = ap is_le (bound_cmp_total.antisymm b a) ∙ not-less (bound_cmp a b) h in
    never (reaches span y) (λ r. let z : reaches span top ≡ true = KeyLess-less_up_to span.0 (past b) (past a) r (past-up_to b a le) in
    let n = out in cc)
  where
    not-less : (o : Ordering) → (o ≡ Less → ⊥) → is_le (ordering_reverse o) ≡ true
    not-less Less h = absurd (h refl)
    not-less Equal h = refl
    not-less Greater h = refl

pub none-reach : (span : Pair) (top : Tree) (ys : List Tree) → IsTop top ys → reaches span top ≡ false → Each (Misses span) ys
none-reach span top ys o out = go ys o.most
  where
    go : (zs : List Tree) → Each (λ y. BoundUpTo top y) zs → Each (Misses span) zs
    go [] a = tt
    go (z ∷ zs) a = (bound-misses span top z a.0 out, go zs a.1)

-- an item behind one that begins past the span does so too
begins-later : (span : Pair) (x y : Tree) → Before x y → starts span x ≡ false → starts span y ≡ false
begins-later span x y h out =
    let a : Item = item_of x in let b : Item = item_of y in
    let le : KeyUpTo a.span.0 b.span.0 = first-less (key_cmp a.span.0 b.span.0)
    (ordering_then (key_cmp a.span.1 b.span.1) (ordering_then (nat_cmp a.id b.id) (nat_cmp a.place b.place))) h in
    never (starts span y) (λ r. let z : starts span x ≡ true = KeyLess-up_to_less a.span.0 b.span.0 (past span) le r in let n = out in cc)
  where
    first-less : (o p : Ordering) → ordering_then o p ≡ Less → is_le o ≡ true
    first-less Less p h = refl
    first-less Equal p h = refl
    first-less Greater p h = cc

-- nothing overlaps from an item on that begins past the span
pub found-end : (span : Pair) (x : Tree) (xs : List Tree) → Sorted (x ∷ xs) → starts span x ≡ false → found span (x ∷ xs) ≡ []
found-end span x xs s out = found-none span (x ∷ xs) (out, all-later xs s.0)
  where
    all-later : (ys : List Tree) → Each (λ y. Before x y) ys → Each (λ y. starts span y ≡ false) ys
    all-later [] o = tt
    all-later (y ∷ ys) o = (begins-later span x y o.0 out, all-later ys o.1)
