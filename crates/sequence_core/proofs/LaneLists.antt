-- Falling lists of lanes: all below a number, with one more, and without the last.
use Rattle.std.proofs.Common.{◌≡◌, ℕ, zero, suc, ◌==◌, ◌+◌, ◌-◌, ◌<◌, ◌≤◌, Bool, true, false, cond, ◌||◌, nat_lt, List, [], ◌∷◌, ◌++◌, length, get_or}
use Rattle.std.proofs.Common.{refl, sym, ◌∙◌, ap, append_assoc, subst, arith}
use Rattle.std.proofs.lemmas.Bool.{eqb-true, lt-ltb, ltb-true}
use Rattle.std.proofs.lemmas.Bool.Decides.{nat_tests}
use Rattle.std.specs.List.Sorted.{IsPartitionedBy}
use Rattle.sequence_core.specs.Lanes.{AreBelow, Falls, is_among, lanes_below, with_lane}

below_at : (n : ℕ) (ms : List ℕ) → AreBelow n ms → (j d : ℕ) → j < length ms → get_or ms j d < n
below_at n [] h j d lt = absurd (omega arith)
below_at n (m ∷ ms) h zero d lt = h.0
below_at n (m ∷ ms) h (suc j) d lt = below_at n ms h.1 j d (omega arith)

falls_at : (ms : List ℕ) → Falls ms → (i j d : ℕ) → i ≤ j → j < length ms → get_or ms j d ≤ get_or ms i d
falls_at [] h i j d le lt = absurd (omega arith)
falls_at (m ∷ ms) h zero zero d le lt = omega arith
falls_at (m ∷ ms) h zero (suc j) d le lt = let b = below_at m ms h.0 j d (omega arith) in omega arith
falls_at (m ∷ ms) h (suc i) zero d le lt = absurd (omega arith)
falls_at (m ∷ ms) h (suc i) (suc j) d le lt = falls_at ms h.1 i j d (omega arith) (omega arith)

-- those above a lane stand in front of the others
pub parted : (lane : ℕ) (ms : List ℕ) → Falls ms → IsPartitionedBy (λ m. nat_lt lane m) ms
parted lane ms falls i j d le lt t =
    let above = ltb-true lane (get_or ms j d) t in
    let more = falls_at ms falls i j d le lt in
    lt-ltb lane (get_or ms i d) (omega arith)

below_more : (n m : ℕ) (ms : List ℕ) → n ≤ m → AreBelow n ms → AreBelow m ms
below_more n m [] le h = tt
below_more n m (k ∷ ks) le h = (let b = h.0 in omega arith, below_more n m ks le h.1)

pub below_all : (n : ℕ) → AreBelow n (lanes_below n)
below_all zero = tt
below_all (suc n) = (omega arith, below_more n (suc n) (lanes_below n) (omega arith) (below_all n))

pub falls_all : (n : ℕ) → Falls (lanes_below n)
falls_all zero = tt
falls_all (suc n) = (below_all n, falls_all n)

pub length_all : (n : ℕ) → length (lanes_below n) ≡ n
length_all zero = refl
length_all (suc n) = ap suc (length_all n)

pub among_all : (n i : ℕ) → is_among (lanes_below n) i ≡ nat_lt i n
among_all zero i = grind (arith, nat_tests)
among_all (suc n) i = ap (λ b. (n == i) || b) (among_all n i) ∙ one_more
  where
    one_more : ((n == i) || nat_lt i n) ≡ nat_lt i (suc n)
    one_more = grind (arith, nat_tests)

-- one more is among those that it is put to
pub among_with : (lane : ℕ) (ms : List ℕ) (i : ℕ) → is_among (with_lane lane ms) i ≡ ((lane == i) || is_among ms i)
among_with lane [] i = refl
among_with lane (m ∷ ms) i = by (nat_lt lane m) (among_with lane ms i)
  where
    by : (b : Bool) → is_among (with_lane lane ms) i ≡ ((lane == i) || is_among ms i) →
        is_among (cond b (m ∷ with_lane lane ms) (lane ∷ m ∷ ms)) i ≡ ((lane == i) || ((m == i) || is_among ms i))
    by true rest = ap (λ b. (m == i) || b) rest ∙ swap (m == i) (lane == i) (is_among ms i)
      where
        swap : (a b c : Bool) → (a || (b || c)) ≡ (b || (a || c))
        swap true true c = refl
        swap true false c = refl
        swap false b c = refl
    by false rest = refl

pub length_with : (lane : ℕ) (ms : List ℕ) → length (with_lane lane ms) ≡ length ms + 1
length_with lane [] = refl
length_with lane (m ∷ ms) = by (nat_lt lane m) (length_with lane ms)
  where
    by : (b : Bool) → length (with_lane lane ms) ≡ length ms + 1 →
        length (cond b (m ∷ with_lane lane ms) (lane ∷ m ∷ ms)) ≡ length (m ∷ ms) + 1
    by true rest = omega arith
    by false rest = omega arith

below_with : (n lane : ℕ) (ms : List ℕ) → lane < n → AreBelow n ms → AreBelow n (with_lane lane ms)
below_with n lane [] lt h = (lt, tt)
below_with n lane (m ∷ ms) lt h = by (nat_lt lane m) (below_with n lane ms lt h.1)
  where
    by : (b : Bool) → AreBelow n (with_lane lane ms) → AreBelow n (cond b (m ∷ with_lane lane ms) (lane ∷ m ∷ ms))
    by true rest = (h.0, rest)
    by false rest = (lt, (h.0, h.1))

-- a lane that isn't among them is put where the list goes on falling
pub falls_with : (lane : ℕ) (ms : List ℕ) → Falls ms → is_among ms lane ≡ false → Falls (with_lane lane ms)
falls_with lane [] h none = (tt, tt)
falls_with lane (m ∷ ms) h none = by (m == lane) (nat_lt lane m) refl refl none (λ n. falls_with lane ms h.1 n)
  where
    by : (e b : Bool) → (m == lane) ≡ e → nat_lt lane m ≡ b → (e || is_among ms lane) ≡ false →
        (is_among ms lane ≡ false → Falls (with_lane lane ms)) → Falls (cond b (m ∷ with_lane lane ms) (lane ∷ m ∷ ms))
    by true b e t n rest = cc
    by false true e t n rest = (below_with m lane ms (ltb-true lane m t) h.0, rest n)
    by false false e t n rest =
        let under : m < lane = grind (arith, nat_tests) in
        ((under, below_more m lane ms (omega arith) h.0), h)

-- without the last
pub among_last : (front : List ℕ) (lane i : ℕ) → is_among (front ++ lane ∷ []) i ≡ (is_among front i || (lane == i))
among_last [] lane i = by (lane == i)
  where
    by : (b : Bool) → (b || false) ≡ b
    by true = refl
    by false = refl
among_last (m ∷ ms) lane i = ap (λ b. (m == i) || b) (among_last ms lane i) ∙ assoc (m == i) (is_among ms i) (lane == i)
  where
    assoc : (a b c : Bool) → (a || (b || c)) ≡ ((a || b) || c)
    assoc true b c = refl
    assoc false b c = refl

below_front : (n : ℕ) (front rest : List ℕ) → AreBelow n (front ++ rest) → AreBelow n front
below_front n [] rest h = tt
below_front n (m ∷ ms) rest h = (h.0, below_front n ms rest h.1)

pub falls_front : (front rest : List ℕ) → Falls (front ++ rest) → Falls front
falls_front [] rest h = tt
falls_front (m ∷ ms) rest h = (below_front m ms rest h.0, falls_front ms rest h.1)

last_below : (n : ℕ) (front : List ℕ) (lane : ℕ) → AreBelow n (front ++ lane ∷ []) → lane < n
last_below n [] lane h = h.0
last_below n (m ∷ ms) lane h = last_below n ms lane h.1

-- the last is below each other
pub above_last : (front : List ℕ) (lane i : ℕ) → Falls (front ++ lane ∷ []) → is_among front i ≡ true → lane < i
above_last [] lane i h t = cc
above_last (m ∷ ms) lane i h t = by (m == i) refl t (λ u. above_last ms lane i h.1 u)
  where
    by : (b : Bool) → (m == i) ≡ b → (b || is_among ms i) ≡ true → (is_among ms i ≡ true → lane < i) → lane < i
    by true e u rest = subst (λ k. lane < k) (eqb-true m i e) (last_below m ms lane h.0)
    by false e u rest = rest u

-- the next of all lanes from above
pub all_next : (n k : ℕ) (xs all : List ℕ) → k < n → xs ++ lanes_below (n - k) ≡ all → (xs ++ (n - 1 - k) ∷ []) ++ lanes_below (n - (k + 1)) ≡ all
all_next n k xs all lt e =
    let step : n - k ≡ suc (n - (k + 1)) = omega arith in
    let same : n - 1 - k ≡ n - (k + 1) = omega arith in
    append_assoc xs ((n - 1 - k) ∷ []) (lanes_below (n - (k + 1)))
    ∙ (ap (λ m. xs ++ m ∷ lanes_below (n - (k + 1))) same ∙ (ap (λ m. xs ++ lanes_below m) (sym step) ∙ e))
