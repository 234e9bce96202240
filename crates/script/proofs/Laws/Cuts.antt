-- A text that is cut at the first place of a byte.
use Rattle.std.proofs.Common.{◌≡◌, ℕ, suc, ◌+◌, ◌<◌, Bool, true, false, cond, not, eqb, List, [], ◌∷◌, ◌++◌, length, get_or, take, drop, refl, sym, ap}
use Rattle.std.proofs.Common.{subst, ◌∙◌, one-add, append_assoc, take_at, drop_at, arith}
use Rattle.std.specs.List.{position_or_len, before_first, after_first}
use Rattle.std.proofs.lemmas.Bool.{or_parts, or_right, eqb-true, eq-eqb}
use Rattle.std.proofs.lemmas.List.{length_push}
use Rattle.std.proofs.lemmas.List.Sums.{split_at_first, passes_at_first}
use Rattle.script.specs.Fields.{is_byte, has_byte}

position_step : (b : Bool) (n l : ℕ) → (b ≡ false → n < l) → cond (not b) (1 + n) 0 < suc l
position_step true n l h = omega arith
position_step false n l h = let g = h refl in omega arith

rest_has : (c b : ℕ) (t : List ℕ) → has_byte c (b ∷ t) ≡ true → eqb b c ≡ false → has_byte c t ≡ true
rest_has c b t h e = rw e at h

place_within : (c : ℕ) (t : List ℕ) → has_byte c t ≡ true → position_or_len (is_byte c) t < length t
place_within c [] h = absurd cc
place_within c (b ∷ t) h = position_step (eqb b c) (position_or_len (is_byte c) t) (length t) (λ e. place_within c t (rest_has c b t h e))

-- a text with the byte is what stands before it, the byte, and what stands after it
pub cut_takes : (c : ℕ) (t : List ℕ) → has_byte c t ≡ true → t ≡ before_first (is_byte c) t ++ (c ∷ after_first (is_byte c) t)
cut_takes c t h =
    let lt = place_within c t h in
    let at : get_or t (position_or_len (is_byte c) t) 0 ≡ c = eqb-true _ c (passes_at_first (is_byte c) t 0 lt) in
    subst (λ (b : ℕ). t ≡ before_first (is_byte c) t ++ (b ∷ after_first (is_byte c) t)) at (split_at_first (is_byte c) t 0 lt)

place_is : (c : ℕ) (s t : List ℕ) → has_byte c s ≡ false → position_or_len (is_byte c) (s ++ c ∷ t) ≡ length s
place_is c [] t h = rw (eq-eqb c c refl) refl
place_is c (b ∷ s) t h =
    let p = or_parts (eqb b c) (has_byte c s) h in
    let other : eqb b c ≡ false = p.0 in
    let ih : position_or_len (is_byte c) (s ++ c ∷ t) ≡ length s = place_is c s t p.1 in
    rw (other, ih, one-add) refl

pub before_again : (c : ℕ) (s t : List ℕ) → has_byte c s ≡ false → before_first (is_byte c) (s ++ c ∷ t) ≡ s
before_again c s t h = ap (λ (n : ℕ). take n (s ++ c ∷ t)) (place_is c s t h) ∙ take_at s (c ∷ t) (length s) refl

pub after_again : (c : ℕ) (s t : List ℕ) → has_byte c s ≡ false → after_first (is_byte c) (s ++ c ∷ t) ≡ t
after_again c s t h =
    let regrouped : s ++ c ∷ t ≡ (s ++ c ∷ []) ++ t = sym (append_assoc s (c ∷ []) t) in
    ap (λ (n : ℕ). drop (n + 1) (s ++ c ∷ t)) (place_is c s t h) ∙ ap (drop (length s + 1)) regrouped
    ∙ drop_at (s ++ c ∷ []) t (length s + 1) (length_push s c)

pub has_again : (c : ℕ) (s t : List ℕ) → has_byte c (s ++ c ∷ t) ≡ true
has_again c [] t = rw (eq-eqb c c refl) refl
has_again c (b ∷ s) t = or_right (eqb b c) (has_byte c (s ++ c ∷ t)) (has_again c s t)

pub parts_same : (c : ℕ) (s t x y : List ℕ) → s ≡ x → t ≡ y → s ++ c ∷ t ≡ x ++ c ∷ y
parts_same c s t x y e g = rw (e, g) refl
