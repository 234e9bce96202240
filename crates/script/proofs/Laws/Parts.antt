-- The parts of a text, cut at each place of a byte.
use Rattle.std.proofs.Common.{◌≡◌, ℕ, false, eqb, List, [], ◌∷◌, ◌++◌, ◌≢◌, refl, sym, ap, ◌∙◌}
use Rattle.std.specs.List.{AllByRecursion, slice_split, onto_first, join_with_byte}
use Rattle.std.proofs.lemmas.Bool.{or_parts, eq-eqb}
use Rattle.std.proofs.lemmas.List.Splits.{slice_split-cons_yes, slice_split-cons_no, join_with_byte-slice_split}
use Rattle.script.specs.Fields.{is_byte, has_byte}

-- a text without the byte is one part
pub one_part : (c : ℕ) (s : List ℕ) → has_byte c s ≡ false → slice_split (is_byte c) s ≡ s ∷ []
one_part c [] h = refl
one_part c (b ∷ s) h =
    let p = or_parts (eqb b c) (has_byte c s) h in
    slice_split-cons_no (is_byte c) b s p.0 ∙ ap (onto_first b) (one_part c s p.1)

-- the first part ends at the first place of the byte
pub first_part : (c : ℕ) (s t : List ℕ) → has_byte c s ≡ false → slice_split (is_byte c) (s ++ c ∷ t) ≡ s ∷ slice_split (is_byte c) t
first_part c [] t h = slice_split-cons_yes (is_byte c) c t (eq-eqb c c refl)
first_part c (b ∷ s) t h =
    let p = or_parts (eqb b c) (has_byte c s) h in
    slice_split-cons_no (is_byte c) b (s ++ c ∷ t) p.0 ∙ ap (onto_first b) (first_part c s t p.1)

-- joined by a byte that they lack, parts are cut again
pub parts_again : (c : ℕ) (fs : List (List ℕ)) → fs ≢ [] → AllByRecursion (λ f. has_byte c f ≡ false) fs → slice_split (is_byte c) (join_with_byte c fs) ≡ fs
parts_again c [] some h = absurd (some refl)
parts_again c (f ∷ []) some h = one_part c f h.0
parts_again c (f ∷ g ∷ fs) some h = first_part c f (join_with_byte c (g ∷ fs)) h.0 ∙ ap (λ (x : List (List ℕ)). f ∷ x) (parts_again c (g ∷ fs) (λ z. cc) h.1)

-- parts are joined again to the text
pub parts_take : (c : ℕ) (t : List ℕ) (fs : List (List ℕ)) → slice_split (is_byte c) t ≡ fs → t ≡ join_with_byte c fs
parts_take c t fs e = sym (join_with_byte-slice_split c t) ∙ ap (join_with_byte c) e

-- two texts with the same parts are one
pub same_parts : (c : ℕ) (s t : List ℕ) → slice_split (is_byte c) s ≡ slice_split (is_byte c) t → s ≡ t
same_parts c s t e = parts_take c s (slice_split (is_byte c) t) e ∙ join_with_byte-slice_split c t
