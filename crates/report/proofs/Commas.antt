-- Texts with commas between them.
use Rattle.std.proofs.Common.{◌≡◌, ℕ, Bool, true, false, List, [], ◌∷◌, ◌++◌, map, decimal, refl, sym, ◌∙◌, ap, append-nil, append_assoc}
use Rattle.std.proofs.lemmas.Grind.{flat_map-append}
use Rattle.std.proofs.lemmas.List.Folds.{flat_map-map}
use Rattle.std.specs.List.{flat_map, join_with_byte}
use Rattle.report.specs.Passing.{comma_unless, is_nil}
use Rattle.report.specs.Words.{numbers_text}

-- with commas between them, that is, with one in front of each but the first
pub join_from_first : (t : List ℕ) (ts : List (List ℕ)) → join_with_byte 44 (t ∷ ts) ≡ t ++ flat_map (λ s. 44 ∷ s) ts
join_from_first t [] = sym (append-nil t)
join_from_first t (s ∷ ss) = ap (λ v. t ++ (44 ∷ v)) (join_from_first s ss)

-- one more text behind them
pub join_last : (ts : List (List ℕ)) (t : List ℕ) (first : Bool) → first ≡ is_nil ts
    → join_with_byte 44 (ts ++ t ∷ []) ≡ join_with_byte 44 ts ++ (comma_unless first ++ t)
join_last [] t true e = refl
join_last [] t false e = absurd cc
join_last (s ∷ ss) t true e = absurd cc
join_last (s ∷ ss) t false e =
    let others : List ℕ = flat_map (λ w. 44 ∷ w) ss in
    join_from_first s (ss ++ t ∷ [])
    ∙ ap (λ v. s ++ v) (flat_map-append (λ w. 44 ∷ w) ss (t ∷ []) ∙ ap (λ v. others ++ v) (append-nil (44 ∷ t)))
    ∙ sym (append_assoc s others (44 ∷ t))
    ∙ ap (λ v. v ++ (44 ∷ t)) (sym (join_from_first s ss))

join_with_byte-decimal : (n : ℕ) (ns : List ℕ) → join_with_byte 44 (map decimal (n ∷ ns)) ≡ decimal n ++ flat_map (λ m. 44 ∷ decimal m) ns
join_with_byte-decimal n ns = join_from_first (decimal n) (map decimal ns) ∙ ap (λ v. decimal n ++ v) (flat_map-map (λ s. 44 ∷ s) decimal ns)

-- a first number and then the others
pub numbers_text-from_first : (ns : List ℕ) (n : ℕ) (rest out a b : List ℕ) → ns ≡ n ∷ rest → a ≡ out ++ decimal n
    → b ≡ a ++ flat_map (λ m. 44 ∷ decimal m) rest → b ≡ out ++ numbers_text ns
numbers_text-from_first ns n rest out a b e first others =
    let others_text : List ℕ = flat_map (λ m. 44 ∷ decimal m) rest in
    others
    ∙ ap (λ v. v ++ others_text) first
    ∙ append_assoc out (decimal n) others_text
    ∙ ap (λ v. out ++ v) (sym (join_with_byte-decimal n rest))
    ∙ ap (λ v. out ++ numbers_text v) (sym e)
