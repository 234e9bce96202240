-- Names as numbers: no two names have one number, and each number fits 128 bits.
use Rattle.std.proofs.Common.{◌≡◌, ℕ, zero, suc, ◌+◌, ◌-◌, ◌*◌, ◌<◌, ◌≤◌, ◌^◌, ◌&&◌, Bool, true, leb, List, [], ◌∷◌, length, drop}
use Rattle.std.proofs.Common.{get_or, IsTrue, refl, ap, ◌∙◌, arith}
use Rattle.std.proofs.lemmas.Bool.{and_parts, leb-true}
use Rattle.std.proofs.Math.Seq.{drop-cons}
use Rattle.std.proofs.lemmas.List.{length-drop}
use Rattle.script.specs.Names.{packed}
use Rattle.script.specs.Scripts.{is_letter, is_name_byte, is_name}
use Rattle.script.proofs.Laws.Bytes.{Each, Each-parts}
use Rattle.script.proofs.Laws.Printed.{name_each}
use Rattle.script.proofs.Laws.Sizes.{name_size}

-- a byte other than 0
abbrev is_digit : ℕ → Bool
is_digit b = leb 1 b && leb b 255

digit_range : (b : ℕ) → is_digit b ≡ true → (1 ≤ b) × (b ≤ 255)
digit_range b h = let p = and_parts (leb 1 b) (leb b 255) h in (leb-true 1 b p.0, leb-true b 255 p.1)

letter_digit : (c : ℕ) → is_letter c ≡ true → is_digit c ≡ true
letter_digit c h = grind arith

name_digit : (c : ℕ) → is_name_byte c ≡ true → is_digit c ≡ true
name_digit c h = grind arith

name_digits : (n : List ℕ) → IsTrue (is_name n) → Each is_digit n
name_digits n ok = name_each is_digit letter_digit name_digit n ok

-- ---- one number, one name

digits_apart : (a b : List ℕ) → Each is_digit a → Each is_digit b → packed a ≡ packed b → a ≡ b
digits_apart [] [] h g e = refl
digits_apart [] (y ∷ ys) h g e = let r = digit_range y (Each-parts is_digit y ys g).0 in absurd (omega arith)
digits_apart (x ∷ xs) [] h g e = let r = digit_range x (Each-parts is_digit x xs h).0 in absurd (omega arith)
digits_apart (x ∷ xs) (y ∷ ys) h g e =
    let p = Each-parts is_digit x xs h in
    let q = Each-parts is_digit y ys g in
    let r = digit_range x p.0 in
    let s = digit_range y q.0 in
    let first : x ≡ y = omega arith in
    let others : packed xs ≡ packed ys = omega arith in
    ap (λ (z : ℕ). z ∷ xs) first ∙ ap (λ (zs : List ℕ). y ∷ zs) (digits_apart xs ys p.1 q.1 others)

pub names_apart : (a b : List ℕ) → IsTrue (is_name a) → IsTrue (is_name b) → packed a ≡ packed b → a ≡ b
names_apart a b h g e = digits_apart a b (name_digits a h) (name_digits b g) e

-- ---- 128 bits

-- how many numbers so many digits have
abbrev room : ℕ → ℕ
room zero = 1
room (suc n) = 256 * room n

in_room : (bs : List ℕ) → Each is_digit bs → packed bs < room (length bs)
in_room [] h = omega arith
in_room (b ∷ bs) h =
    let p = Each-parts is_digit b bs h in
    let r = digit_range b p.0 in
    let i = in_room bs p.1 in
    omega arith

room_grows : (m n : ℕ) → m ≤ n → room m ≤ room n
room_grows zero zero h = omega arith
room_grows zero (suc n) h = let i = room_grows zero n (omega arith) in omega arith
room_grows (suc m) zero h = absurd (omega arith)
room_grows (suc m) (suc n) h = let i = room_grows m n (omega arith) in omega arith

each_drop : (p : ℕ → Bool) (n : ℕ) (xs : List ℕ) → Each p xs → Each p (drop n xs)
each_drop p zero xs h = h
each_drop p (suc n) [] h = refl
each_drop p (suc n) (x ∷ xs) h = each_drop p n xs (Each-parts p x xs h).1

-- what the bytes behind the first of a name leave room for
pub fits_above : (bs : List ℕ) (n : ℕ) → 0 < n → IsTrue (is_name bs) → packed (drop n bs) < 2 ^ 120
fits_above bs n behind ok =
    let size = (name_size bs ok).1 in
    let short = length-drop n bs in
    let up = room_grows (length (drop n bs)) 15 (omega arith) in
    let i = in_room (drop n bs) (each_drop is_digit n bs (name_digits bs ok)) in
    omega arith

one_more_at : (bs : List ℕ) (n : ℕ) → n < length bs → packed (drop (suc n) bs) * 256 + get_or bs n 0 ≡ packed (drop n bs)
one_more_at bs n lt =
    let e : packed (drop n bs) ≡ get_or bs n 0 + 256 * packed (drop (suc n) bs) = ap packed (drop-cons bs n 0 lt) in
    omega arith

pub one_more : (bs : List ℕ) (n : ℕ) → 0 < n → n ≤ length bs → packed (drop n bs) * 256 + get_or bs (n - 1) 0 ≡ packed (drop (n - 1) bs)
one_more bs zero lt le = absurd (omega arith)
one_more bs (suc n) lt le = let e : suc n - 1 ≡ n = omega arith in rw e (one_more_at bs n (omega arith))

pub none_left : (bs : List ℕ) → packed (drop (length bs) bs) ≡ 0
none_left [] = refl
none_left (b ∷ bs) = none_left bs
