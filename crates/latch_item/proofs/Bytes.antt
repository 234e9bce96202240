-- Bytes in words, and back.
use Rattle.std.proofs.Common.{◌≡◌, ℕ, zero, suc, ◌+◌, ◌-◌, ◌*◌, ◌/◌, ◌%◌, ◌^◌, ◌<◌, ◌≤◌, List, [], ◌∷◌, ◌++◌, length, map, take, slice_index, sym, refl, ap}
use Rattle.std.proofs.Common.{◌∙◌, subst, arith}
use native.Mathlib.Numerals.{unary_clauses}
use Rattle.std.proofs.lemmas.List.{take-take}
use Rattle.std.proofs.lemmas.Nat.{div-mul-add, mod-mul-add, shr-shr, pow-add, pow_pos}
use Rattle.std.specs.Int.{w64, from_be_bytes, to_be_bytes}
use Rattle.span_key.specs.Spans.{IsBytes}
use Rattle.latch_item.specs.Bytes.{byte, rest, number, skip, key_word, spelled, bytes_of}
use Rattle.latch_item.specs.Items.{run}
use Rattle.latch_item.proofs.Packing.{Bytes, packed, padded, byte-low, mono, number-low, padded-join, skip-bytes}

no-byte : (k : ℕ) → slice_index [] k ≡ 0
no-byte zero = refl
no-byte (suc k) = refl

pub byte-skip : (k : ℕ) (bs : List ℕ) → byte (skip k bs) ≡ slice_index bs k
byte-skip zero [] = refl
byte-skip zero (b ∷ bs) = refl
byte-skip (suc k) [] = byte-skip k [] ∙ no-byte k
byte-skip (suc k) (b ∷ bs) = byte-skip k bs

pub skip-add : (j k : ℕ) (bs : List ℕ) → skip k (skip j bs) ≡ skip (j + k) bs
skip-add zero k bs = ap (λ n. skip n bs) (let e : k ≡ 0 + k = omega arith in e)
skip-add (suc j) k bs = skip-add j k (rest bs) ∙ ap (λ n. skip n bs) (let e : suc (j + k) ≡ suc j + k = omega arith in e)

-- the first m bytes, and the k behind them
number-join : (m k : ℕ) (bs : List ℕ) → number (m + k) bs ≡ number m bs * 256 ^ k + number k (skip m bs)
number-join zero k bs = ap (λ n. number n bs) (let z : 0 + k ≡ k = omega arith in z) ∙ (let z : number k bs ≡ 0 * 256 ^ k + number k bs = omega arith in z)
number-join (suc m) k bs =
    let h = number-join m k (rest bs) in
    let e : 256 ^ (m + k) ≡ 256 ^ m * 256 ^ k = pow-add 256 m k in
    let a : number (suc (m + k)) bs ≡ byte bs * 256 ^ (m + k) + number (m + k) (rest bs) = refl in
    ap (λ n. number n bs) (let z : suc m + k ≡ suc (m + k) = omega arith in z) ∙ a
    ∙ (λ i. byte bs * e i + h i)
    ∙ join (byte bs) (256 ^ m) (256 ^ k) (number m (rest bs)) (number k (skip m (rest bs)))
  where
    join : (b p q u v : ℕ) → b * (p * q) + (u * q + v) ≡ (b * p + u) * q + v
    join b p q u v = grind arith

-- one more byte
pub number-more : (m : ℕ) (bs : List ℕ) → number (m + 1) bs ≡ number m bs * 256 + byte (skip m bs)
number-more m bs = number-join m 1 bs ∙ omega arith

pub power-low : (k : ℕ) → k < 8 → 256 ^ k ≤ 256 ^ 7
power-low zero h = omega arith
power-low (suc zero) h = omega arith
power-low (suc (suc zero)) h = omega arith
power-low (suc (suc (suc zero))) h = omega arith
power-low (suc (suc (suc (suc zero)))) h = omega arith
power-low (suc (suc (suc (suc (suc zero))))) h = omega arith
power-low (suc (suc (suc (suc (suc (suc zero)))))) h = omega arith
power-low (suc (suc (suc (suc (suc (suc (suc zero))))))) h = omega arith
power-low (suc (suc (suc (suc (suc (suc (suc (suc k)))))))) h = absurd (omega arith)

pub power-more : (k w b : ℕ) → w < 256 ^ k → b < 256 → w * 256 + b < 256 ^ (k + 1)
power-more k w b h l = let e : 256 ^ (k + 1) ≡ 256 ^ k * 256 = ap (λ n. 256 ^ n) (let z : k + 1 ≡ suc k = omega arith in z) ∙ simp unary_clauses in omega arith

-- ---- back
pub bytes-from : (bs : List ℕ) → IsBytes bs → Bytes bs
bytes-from [] h = tt
bytes-from (b ∷ bs) h = (h 0, bytes-from bs (λ i. h (suc i)))

pub spelled-number : (m : ℕ) (bs : List ℕ) → Bytes bs → spelled m (number m bs) ≡ padded m bs
spelled-number zero bs h = refl
spelled-number (suc m) bs h =
    let low = byte-low (skip m bs) (skip-bytes m bs h) in
    let more : number (suc m) bs ≡ number m bs * 256 + byte (skip m bs) = ap (λ n. number n bs) (let z : suc m ≡ m + 1 = omega arith in z)
    ∙ number-more m bs in
    ap (spelled (suc m)) more
    ∙ (λ i. spelled m (div-mul-add (number m bs) 256 (byte (skip m bs)) low i) ++ (mod-mul-add (number m bs) 256 (byte (skip m bs)) low i) ∷ [])
    ∙ ap (λ l. l ++ byte (skip m bs) ∷ []) (spelled-number m bs h)
    ∙ sym (ap (λ n. padded n bs) (let z : suc m ≡ m + 1 = omega arith in z) ∙ padded-join m 1 bs)

bytes-packed : (n : ℕ) (bs : List ℕ) → Bytes bs → bytes_of (packed n bs) ≡ padded (n * 8) bs
bytes-packed zero bs h = refl
bytes-packed (suc n) bs h =
    (λ i. spelled-number 8 bs h i ++ bytes-packed n (skip 8 bs) (skip-bytes 8 bs h) i)
    ∙ sym (ap (λ k. padded k bs) (let e : suc n * 8 ≡ 8 + n * 8 = omega arith in e) ∙ padded-join 8 (n * 8) bs)

pub take-padded : (n : ℕ) (bs : List ℕ) → length bs ≤ n → take (length bs) (padded n bs) ≡ bs
take-padded n [] h = refl
take-padded zero (b ∷ bs) h = absurd (omega arith)
take-padded (suc n) (b ∷ bs) h = ap (λ l. b ∷ l) (take-padded n bs (omega arith))

-- words that hold the bytes of a key spell them
pub spells-key : (bs : List ℕ) → Bytes bs → length bs ≤ 256 → take (length bs) (bytes_of (packed 32 bs)) ≡ bs
spells-key bs h low = ap (take (length bs)) (bytes-packed 32 bs h) ∙ take-padded 256 bs low

pub run-packed : (f : ℕ → ℕ) (bs : List ℕ) (n a j : ℕ) → ((i : ℕ) → i < n → f (a + i) ≡ number 8 (skip ((j + i) * 8) bs))
    → map f (run a n) ≡ packed n (skip (j * 8) bs)
run-packed f bs zero a j h = refl
run-packed f bs (suc n) a j h =
    let first : f a ≡ number 8 (skip (j * 8) bs) = ap f (let z : a ≡ a + 0 = omega arith in z) ∙ h 0 (omega arith)
    ∙ ap (λ k. number 8 (skip (k * 8) bs)) (let z : j + 0 ≡ j = omega arith in z) in
    let later = run-packed f bs n (suc a) (suc j) (λ i low. ap f (let z : suc a + i ≡ a + suc i = omega arith in z) ∙ h (suc i) (omega arith)
    ∙ ap (λ k. number 8 (skip (k * 8) bs)) (let z : j + suc i ≡ suc j + i = omega arith in z)) in
    (λ i. first i ∷ later i) ∙ ap (λ l. number 8 (skip (j * 8) bs) ∷ packed n l) (ap (λ k. skip k bs) (let z : suc j * 8 ≡ j * 8 + 8 = omega arith in z)
    ∙ sym (skip-add (j * 8) 8 bs))

-- ---- one byte of a word
padded-at : (m k : ℕ) (bs : List ℕ) → k < m → slice_index (padded m bs) k ≡ byte (skip k bs)
padded-at zero k bs h = absurd (omega arith)
padded-at (suc m) zero bs h = refl
padded-at (suc m) (suc k) bs h = padded-at m k (rest bs) (omega arith)

-- m bytes less
abbrev shifted : ℕ → ℕ → ℕ
shifted zero w = w
shifted (suc m) w = shifted m (w / 256)

shifted-is : (m w : ℕ) → shifted m w ≡ w / 2 ^ (8 * m)
shifted-is zero w = sym (shr-none w)
  where
    shr-none : (w : ℕ) → w / 2 ^ (8 * 0) ≡ w
    shr-none w = omega arith
shifted-is (suc m) w = shifted-is m (w / 256) ∙ shr-shr w 8 (8 * m) ∙ ap (λ n. w / 2 ^ n) (let e : 8 + 8 * m ≡ 8 * suc m = omega arith in e)

pub byte-shift : (k w : ℕ) → k < 8 → w / 2 ^ (56 - 8 * k) % 256 ≡ slice_index (spelled 8 w) k
byte-shift zero w h = ap (λ x. x % 256) (sym (shifted-is 7 w))
byte-shift (suc zero) w h = ap (λ x. x % 256) (sym (shifted-is 6 w))
byte-shift (suc (suc zero)) w h = ap (λ x. x % 256) (sym (shifted-is 5 w))
byte-shift (suc (suc (suc zero))) w h = ap (λ x. x % 256) (sym (shifted-is 4 w))
byte-shift (suc (suc (suc (suc zero)))) w h = ap (λ x. x % 256) (sym (shifted-is 3 w))
byte-shift (suc (suc (suc (suc (suc zero))))) w h = ap (λ x. x % 256) (sym (shifted-is 2 w))
byte-shift (suc (suc (suc (suc (suc (suc zero)))))) w h = ap (λ x. x % 256) (sym (shifted-is 1 w))
byte-shift (suc (suc (suc (suc (suc (suc (suc zero))))))) w h = ap (λ x. x % 256) (sym (shifted-is 0 w))
byte-shift (suc (suc (suc (suc (suc (suc (suc (suc k)))))))) w h = absurd (omega arith)

-- byte number i of a key, from its words
pub key-byte : (p : List ℕ) (i q r : ℕ) → Bytes p → i ≡ q * 8 + r → r < 8 → slice_index (spelled 8 (number 8 (skip (q * 8) p))) r ≡ slice_index p i
key-byte p i q r h e low =
    ap (λ l. slice_index l r) (spelled-number 8 (skip (q * 8) p) (skip-bytes (q * 8) p h))
    ∙ padded-at 8 r (skip (q * 8) p) low
    ∙ ap byte (skip-add (q * 8) r p)
    ∙ byte-skip (q * 8 + r) p
    ∙ ap (slice_index p) (sym e)

pub word-is : (p : List ℕ) (q : ℕ) → key_word p q ≡ number 8 (skip (q * 8) p)
unfolding key_word
word-is p q = refl

-- eight bytes that are all there
pub whole : (at : ℕ) (bs : List ℕ) → from_be_bytes w64 (slice_index bs at ∷ slice_index bs (at + 1) ∷ slice_index bs (at + 2) ∷ slice_index bs (at + 3)
    ∷ slice_index bs (at + 4) ∷ slice_index bs (at + 5) ∷ slice_index bs (at + 6) ∷ slice_index bs (at + 7) ∷ []) ≡ number 8 (skip at bs)
whole at bs =
    let a : byte (skip at bs) ≡ slice_index bs at = byte-skip at bs in
    let b : byte (rest (skip at bs)) ≡ slice_index bs (at + 1) = here 1 in
    let c : byte (skip 2 (skip at bs)) ≡ slice_index bs (at + 2) = here 2 in
    let d : byte (skip 3 (skip at bs)) ≡ slice_index bs (at + 3) = here 3 in
    let e : byte (skip 4 (skip at bs)) ≡ slice_index bs (at + 4) = here 4 in
    let f : byte (skip 5 (skip at bs)) ≡ slice_index bs (at + 5) = here 5 in
    let g : byte (skip 6 (skip at bs)) ≡ slice_index bs (at + 6) = here 6 in
    let h : byte (skip 7 (skip at bs)) ≡ slice_index bs (at + 7) = here 7 in
    omega arith
  where
    here : (k : ℕ) → byte (skip k (skip at bs)) ≡ slice_index bs (at + k)
    here k = ap byte (skip-add at k bs) ∙ byte-skip (at + k) bs

-- past the end of a key stands 0
number-none : (m : ℕ) → number m [] ≡ 0
number-none zero = refl
number-none (suc m) = let h = number-none m in let z : 0 * 256 ^ m + number m [] ≡ 0 = omega arith in z

skip-none : (at : ℕ) (bs : List ℕ) → length bs ≤ at → skip at bs ≡ []
skip-none zero [] h = refl
skip-none zero (b ∷ bs) h = absurd (omega arith)
skip-none (suc at) [] h = skip-none at [] (omega arith)
skip-none (suc at) (b ∷ bs) h = skip-none at bs (omega arith)

pub past-end : (at : ℕ) (bs : List ℕ) → length bs ≤ at → number 8 (skip at bs) ≡ 0
past-end at bs h = ap (number 8) (skip-none at bs h)

-- ---- the last bytes of a key
bits : (m : ℕ) → 2 ^ (8 * m) ≡ 256 ^ m
bits zero = refl
bits (suc m) = ap (λ n. 2 ^ n) (let z : 8 * suc m ≡ 8 + 8 * m = omega arith in z) ∙ pow-add 2 8 (8 * m)
    ∙ (let h = bits m in let e : 256 ^ suc m ≡ 256 ^ m * 256 = simp unary_clauses in let z : 256 * 2 ^ (8 * m) ≡ 256 ^ suc m = omega arith in z)

-- of eight bytes, behind which there are none, the first m are shifted out
shifted-out : (m k : ℕ) (bs : List ℕ) → m + k ≡ 8 → length bs ≤ 8 → Bytes bs → number 8 bs * 2 ^ (8 * m) % 2 ^ 64 ≡ number 8 (skip m bs)
shifted-out m k bs e short h =
    let p : ℕ = 256 ^ m in let q : ℕ = 256 ^ k in
    let u : ℕ = number m bs in let v : ℕ = number k (skip m bs) in
    let whole : q * p ≡ 2 ^ 64 = sym (pow-add 256 k m) ∙ ap (λ n. 256 ^ n) (let z : k + m ≡ 8 = omega arith in z) in
    let all : number 8 bs ≡ u * q + v = ap (λ n. number n bs) (sym e) ∙ number-join m k bs in
    let none : number m (skip k (skip m bs)) ≡ 0 = ap (number m) (skip-add m k bs ∙ skip-none (m + k) bs (omega arith)) ∙ number-none m in
    let last : number 8 (skip m bs) ≡ v * p = ap (λ n. number n (skip m bs)) (let z : 8 ≡ k + m = omega arith in z) ∙ number-join k m (skip m bs)
    ∙ (let z : v * p + number m (skip k (skip m bs)) ≡ v * p = omega arith in z) in
    let low : v * p < 2 ^ 64 = under v q p whole (number-low k (skip m bs) (skip-bytes m bs h)) (power-above m) in
    (λ i. all i * bits m i % 2 ^ 64) ∙ ap (λ n. n % 2 ^ 64) (spread u q v p ∙ ap (λ n. u * n + v * p) whole) ∙ mod-mul-add u (2 ^ 64) (v * p) low ∙ sym last
  where
    spread : (u q v p : ℕ) → (u * q + v) * p ≡ u * (q * p) + v * p
    spread u q v p = grind arith

    under : (v q p : ℕ) {n : ℕ} → q * p ≡ n → v < q → 0 < p → v * p < n
    under v q p e l low = let a = mono v q p l in omega arith

    power-above : (m : ℕ) → 0 < 256 ^ m
    power-above m = subst (λ n. 0 < n) (bits m) (pow_pos (8 * m))

-- the last eight bytes of a key, and those of them from a place on
pub last-bytes : (at shift : ℕ) (bs : List ℕ) → Bytes bs → 8 ≤ length bs → at < length bs → length bs ≤ at + 8 → shift ≡ 8 * (at + 8 - length bs)
    → number 8 (skip (length bs - 8) bs) * 2 ^ shift % 2 ^ 64 ≡ number 8 (skip at bs)
last-bytes at shift bs h long low near e =
    let n : ℕ = length bs - 8 in let m : ℕ = at + 8 - length bs in
    let z : n + m ≡ at = omega arith in
    ap (λ j. number 8 (skip n bs) * 2 ^ j % 2 ^ 64) e
    ∙ shifted-out m (8 - m) (skip n bs) (omega arith) (let s = skip-length n bs in omega arith) (skip-bytes n bs h)
    ∙ ap (number 8) (skip-add n m bs) ∙ ap (λ j. number 8 (skip j bs)) z
  where
    skip-length : (n : ℕ) (bs : List ℕ) → length (skip n bs) ≡ length bs - n
    skip-length zero bs = omega arith
    skip-length (suc n) [] = skip-length n [] ∙ (let z : 0 - n ≡ 0 - suc n = omega arith in z)
    skip-length (suc n) (b ∷ bs) = skip-length n bs ∙ (let z : length bs - n ≡ suc (length bs) - suc n = omega arith in z)

-- the bytes of a word as std writes them
pub spelled-be : (w : ℕ) → to_be_bytes w64 w ≡ spelled 8 w
spelled-be w = λ i. byte-shift 0 w (omega arith) i ∷ byte-shift 1 w (omega arith) i ∷ byte-shift 2 w (omega arith) i ∷ byte-shift 3 w (omega arith) i
    ∷ byte-shift 4 w (omega arith) i ∷ byte-shift 5 w (omega arith) i ∷ byte-shift 6 w (omega arith) i ∷ w % 256 ∷ []

-- eight more bytes of a key are put behind those that are there
pub put-more : (p old new : List ℕ) (i w : ℕ) → Bytes p → take (i * 8) old ≡ padded (i * 8) p → take (i * 8 + 8) new ≡ take (i * 8) old ++ spelled 8 w
    → w ≡ key_word p i → take ((i + 1) * 8) new ≡ padded ((i + 1) * 8) p
unfolding key_word
put-more p old new i w h done put is =
    ap (λ n. take n new) (more i) ∙ put ∙ (λ j. done j ++ spelled 8 (is j))
    ∙ ap (λ l. padded (i * 8) p ++ l) (spelled-number 8 (skip (i * 8) p) (skip-bytes (i * 8) p h))
    ∙ sym (ap (λ n. padded n p) (more i) ∙ padded-join (i * 8) 8 p)
  where
    more : (i : ℕ) → (i + 1) * 8 ≡ i * 8 + 8
    more i = omega arith

-- of the bytes that were put the first ones are the key
pub all-put : (p bytes : List ℕ) (i n : ℕ) → take (i * 8) bytes ≡ padded (i * 8) p → n ≡ length p → n ≤ i * 8 → take n bytes ≡ p
all-put p bytes i n done is low = sym (take-take n (i * 8) bytes low) ∙ ap (take n) done ∙ ap (λ k. take k (padded (i * 8) p)) is
    ∙ take-padded (i * 8) p (omega arith)
