-- Keys that are compared by their words and then by their lengths are in the order of their bytes.
use Rattle.std.proofs.Common.{◌≡◌, ◌⊎◌, ⊎_elim, ℕ, zero, suc, ◌+◌, ◌*◌, ◌<◌, ◌≤◌, ◌^◌, List, [], ◌∷◌, ◌++◌, length, sym, refl, ap, ◌∙◌, arith}
use native.Mathlib.Numerals.{unary_clauses}
use Rattle.std.specs.Ordering.{nat_cmp, ordering_then}
use Rattle.std.specs.Cmp.Lexicographic.{slice_cmp}
use Rattle.std.specs.declared.cmp.Ordering.{Ordering}
use Rattle.std.specs.declared.cmp.Ordering.TheVariants.{Less, Equal, Greater}
use Rattle.std.proofs.lemmas.Bool.Decides.{nat_tests}
use Rattle.latch_item.specs.Bytes.{byte, rest, number, skip}

abbrev pub Bytes : List ℕ → Type 0
Bytes [] = Unit {0}
Bytes (b ∷ bs) = (b < 256) × Bytes bs

pub byte-low : (bs : List ℕ) → Bytes bs → byte bs < 256
byte-low [] h = omega arith
byte-low (b ∷ bs) h = h.0

pub rest-bytes : (bs : List ℕ) → Bytes bs → Bytes (rest bs)
rest-bytes [] h = tt
rest-bytes (b ∷ bs) h = h.1

pub mono : (x y p : ℕ) → x < y → x * p + p ≤ y * p
mono x y zero h = omega arith
mono x y (suc p) h = let a = mono x y p h in grind arith

pub number-low : (m : ℕ) (bs : List ℕ) → Bytes bs → number m bs < 256 ^ m
number-low zero bs h = omega arith
number-low (suc m) bs h = let a = mono (byte bs) 256 (256 ^ m) (byte-low bs h) in let b = number-low m (rest bs) (rest-bytes bs h) in
    let e : 256 ^ suc m ≡ 256 ^ m * 256 = simp unary_clauses in omega arith

-- n words of eight bytes
abbrev pub packed : ℕ → List ℕ → List ℕ
packed zero bs = []
packed (suc n) bs = number 8 bs ∷ packed n (skip 8 bs)

pub packed-length : (n : ℕ) (bs : List ℕ) → length (packed n bs) ≡ n
packed-length zero bs = refl
packed-length (suc n) bs = ap suc (packed-length n (skip 8 bs))

-- the first m bytes, with zeros after the end
abbrev pub padded : ℕ → List ℕ → List ℕ
padded zero bs = []
padded (suc m) bs = byte bs ∷ padded m (rest bs)

less-is : (x y : ℕ) → x < y → nat_cmp x y ≡ Less
less-is x y h = grind (arith, nat_tests)

greater-is : (x y : ℕ) → y < x → nat_cmp x y ≡ Greater
greater-is x y h = grind (arith, nat_tests)

same-is : (x y : ℕ) → x ≡ y → nat_cmp x y ≡ Equal
same-is x y h = grind (arith, nat_tests)

three-way : (x y : ℕ) → (x < y) ⊎ ((x ≡ y) ⊎ (y < x))
three-way x y = grind arith

shift : (s x y : ℕ) → nat_cmp (s + x) (s + y) ≡ nat_cmp x y
shift s x y = ⊎_elim (λ a. less-is (s + x) (s + y) (omega arith) ∙ sym (less-is x y a)) (λ b. ⊎_elim (λ e. same-is (s + x) (s + y) (omega arith)
    ∙ sym (same-is x y e)) (λ g. greater-is (s + x) (s + y) (omega arith) ∙ sym (greater-is x y g)) b) (three-way x y)

-- a number of m bytes is in the order of its bytes
pub number-cmp : (m : ℕ) (xs ys : List ℕ) → Bytes xs → Bytes ys → nat_cmp (number m xs) (number m ys) ≡ slice_cmp nat_cmp (padded m xs) (padded m ys)
number-cmp zero xs ys a b = same-is 0 0 refl
number-cmp (suc m) xs ys a b =
    let p : ℕ = 256 ^ m in let u = number m (rest xs) in let v = number m (rest ys) in
    let ul = number-low m (rest xs) (rest-bytes xs a) in let vl = number-low m (rest ys) (rest-bytes ys b) in
    let h = number-cmp m (rest xs) (rest ys) (rest-bytes xs a) (rest-bytes ys b) in
    let tail = slice_cmp nat_cmp (padded m (rest xs)) (padded m (rest ys)) in
    ⊎_elim
    (λ (l : byte xs < byte ys). let k = mono (byte xs) (byte ys) p l in less-is (byte xs * p + u) (byte ys * p + v) (omega arith)
    ∙ ap (λ o. ordering_then o tail) (sym (less-is (byte xs) (byte ys) l)))
    (λ r. ⊎_elim
    (λ (e : byte xs ≡ byte ys). ap (λ z. nat_cmp (byte xs * p + u) (z * p + v)) (sym e) ∙ shift (byte xs * p) u v ∙ h
    ∙ ap (λ o. ordering_then o tail) (sym (same-is (byte xs) (byte ys) e)))
    (λ (g : byte ys < byte xs). let k = mono (byte ys) (byte xs) p g in greater-is (byte xs * p + u) (byte ys * p + v) (omega arith)
    ∙ ap (λ o. ordering_then o tail) (sym (greater-is (byte xs) (byte ys) g))) r)
    (three-way (byte xs) (byte ys))

pub then-assoc : (o p q : Ordering) → ordering_then (ordering_then o p) q ≡ ordering_then o (ordering_then p q)
then-assoc Less p q = refl
then-assoc Equal p q = refl
then-assoc Greater p q = refl

pub then-equal : (o : Ordering) → ordering_then o Equal ≡ o
then-equal Less = refl
then-equal Equal = refl
then-equal Greater = refl

pub cmp-join : (us vs cs ds : List ℕ) → length us ≡ length vs
    → slice_cmp nat_cmp (us ++ cs) (vs ++ ds) ≡ ordering_then (slice_cmp nat_cmp us vs) (slice_cmp nat_cmp cs ds)
cmp-join [] [] cs ds e = refl
cmp-join [] (v ∷ vs) cs ds e = absurd (omega arith)
cmp-join (u ∷ us) [] cs ds e = absurd (omega arith)
cmp-join (u ∷ us) (v ∷ vs) cs ds e = ap (ordering_then (nat_cmp u v)) (cmp-join us vs cs ds (omega arith))
    ∙ sym (then-assoc (nat_cmp u v) (slice_cmp nat_cmp us vs) (slice_cmp nat_cmp cs ds))

pub padded-length : (m : ℕ) (bs : List ℕ) → length (padded m bs) ≡ m
padded-length zero bs = refl
padded-length (suc m) bs = ap suc (padded-length m (rest bs))

pub padded-join : (m k : ℕ) (bs : List ℕ) → padded (m + k) bs ≡ padded m bs ++ padded k (skip m bs)
padded-join zero k bs = ap (λ n. padded n bs) (let e : 0 + k ≡ k = omega arith in e)
padded-join (suc m) k bs = ap (λ n. padded n bs) (let e : suc m + k ≡ suc (m + k) = omega arith in e) ∙ ap (λ l. byte bs ∷ l) (padded-join m k (rest bs))

pub skip-bytes : (m : ℕ) (bs : List ℕ) → Bytes bs → Bytes (skip m bs)
skip-bytes zero bs h = h
skip-bytes (suc m) bs h = skip-bytes m (rest bs) (rest-bytes bs h)

-- n words are in the order of the 8 n bytes
pub packed-cmp : (n : ℕ) (xs ys : List ℕ) → Bytes xs → Bytes ys
    → slice_cmp nat_cmp (packed n xs) (packed n ys) ≡ slice_cmp nat_cmp (padded (n * 8) xs) (padded (n * 8) ys)
packed-cmp zero xs ys a b = refl
packed-cmp (suc n) xs ys a b =
    let e : suc n * 8 ≡ 8 + n * 8 = omega arith in
    (λ i. ordering_then (number-cmp 8 xs ys a b i) (packed-cmp n (skip 8 xs) (skip 8 ys) (skip-bytes 8 xs a) (skip-bytes 8 ys b) i))
    ∙ sym (cmp-join (padded 8 xs) (padded 8 ys) (padded (n * 8) (skip 8 xs)) (padded (n * 8) (skip 8 ys)) (padded-length 8 xs ∙ sym (padded-length 8 ys)))
    ∙ (λ i. slice_cmp nat_cmp (sym (ap (λ k. padded k xs) e ∙ padded-join 8 (n * 8) xs) i) (sym (ap (λ k. padded k ys) e ∙ padded-join 8 (n * 8) ys) i))

-- zeros are no greater than bytes, and a shorter list of them comes first
ends-first : (n : ℕ) (ys : List ℕ) → ordering_then (slice_cmp nat_cmp (padded n []) (padded n ys)) Less ≡ Less
ends-first zero ys = refl
ends-first (suc n) ys = ⊎_elim
    (λ (l : 0 < byte ys). ap (λ o. ordering_then (ordering_then o (slice_cmp nat_cmp (padded n []) (padded n (rest ys)))) Less) (less-is 0 (byte ys) l))
    (λ r. ⊎_elim (λ (e : 0 ≡ byte ys). ap
    (λ o. ordering_then (ordering_then o (slice_cmp nat_cmp (padded n []) (padded n (rest ys)))) Less) (same-is 0 (byte ys) e)
    ∙ ends-first n (rest ys)) (λ (g : byte ys < 0). absurd (omega arith)) r) (three-way 0 (byte ys))

ends-last : (n : ℕ) (xs : List ℕ) → ordering_then (slice_cmp nat_cmp (padded n xs) (padded n [])) Greater ≡ Greater
ends-last zero xs = refl
ends-last (suc n) xs = ⊎_elim
    (λ (l : byte xs < 0). absurd (omega arith))
    (λ r. ⊎_elim (λ (e : byte xs ≡ 0). ap
    (λ o. ordering_then (ordering_then o (slice_cmp nat_cmp (padded n (rest xs)) (padded n []))) Greater) (same-is (byte xs) 0 e) ∙ ends-last n (rest xs))
    (λ (g : 0 < byte xs). ap (λ o. ordering_then (ordering_then o (slice_cmp nat_cmp (padded n (rest xs)) (padded n []))) Greater) (greater-is (byte xs) 0
    g)) r) (three-way (byte xs) 0)

-- padded bytes and then the lengths: the lexicographic order
pub padded-cmp : (n : ℕ) (xs ys : List ℕ) → length xs ≤ n → length ys ≤ n
    → ordering_then (slice_cmp nat_cmp (padded n xs) (padded n ys)) (nat_cmp (length xs) (length ys)) ≡ slice_cmp nat_cmp xs ys
padded-cmp n [] [] a b = ap (ordering_then (slice_cmp nat_cmp (padded n []) (padded n []))) (same-is 0 0 refl) ∙ same n
  where
    same : (n : ℕ) → ordering_then (slice_cmp nat_cmp (padded n []) (padded n [])) Equal ≡ Equal
    same zero = refl
    same (suc n) = ap (λ o. ordering_then (ordering_then o (slice_cmp nat_cmp (padded n []) (padded n []))) Equal) (same-is 0 0 refl) ∙ same n
padded-cmp n [] (y ∷ ys) a b = ap (ordering_then (slice_cmp nat_cmp (padded n []) (padded n (y ∷ ys)))) (less-is 0 (length (y ∷ ys)) (omega arith))
    ∙ ends-first n (y ∷ ys)
padded-cmp n (x ∷ xs) [] a b = ap (ordering_then (slice_cmp nat_cmp (padded n (x ∷ xs)) (padded n []))) (greater-is (length (x ∷ xs)) 0 (omega arith))
    ∙ ends-last n (x ∷ xs)
padded-cmp zero (x ∷ xs) (y ∷ ys) a b = absurd (omega arith)
padded-cmp (suc n) (x ∷ xs) (y ∷ ys) a b =
    then-assoc (nat_cmp x y) (slice_cmp nat_cmp (padded n xs) (padded n ys)) (nat_cmp (length (x ∷ xs)) (length (y ∷ ys)))
    ∙ ap (λ o. ordering_then (nat_cmp x y) (ordering_then (slice_cmp nat_cmp (padded n xs) (padded n ys)) o)) ((λ i. nat_cmp (one (length xs) i) (one
    (length ys) i)) ∙ shift 1 (length xs) (length ys))
    ∙ ap (ordering_then (nat_cmp x y)) (padded-cmp n xs ys (omega arith) (omega arith))
  where
    one : (k : ℕ) → suc k ≡ 1 + k
    one k = omega arith

-- keys of at most 256 bytes, by 32 words and the length
pub key-cmp : (xs ys : List ℕ) → Bytes xs → Bytes ys → length xs ≤ 256 → length ys ≤ 256
    → slice_cmp nat_cmp (packed 32 xs ++ length xs ∷ []) (packed 32 ys ++ length ys ∷ []) ≡ slice_cmp nat_cmp xs ys
key-cmp xs ys a b c d =
    cmp-join (packed 32 xs) (packed 32 ys) (length xs ∷ []) (length ys ∷ []) (packed-length 32 xs ∙ sym (packed-length 32 ys))
    ∙ (λ i. ordering_then (packed-cmp 32 xs ys a b i) (last i))
    ∙ padded-cmp 256 xs ys c d
  where
    last : slice_cmp nat_cmp (length xs ∷ []) (length ys ∷ []) ≡ nat_cmp (length xs) (length ys)
    last = then-equal (nat_cmp (length xs) (length ys))
