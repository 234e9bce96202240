-- To put an element into a list in front of the first that doesn't pass a test, and the place of that.
use Rattle.std.proofs.Common.{◌≡◌, ℕ, zero, suc, ◌≤◌, Bool, true, false, cond, List, [], ◌∷◌, ◌++◌, length, take, drop, ap, ◌∙◌, arith}
use Rattle.std.specs.List.{AllWithin}

-- what is put in so stands at the place up to which all pass, and from which on none does
module _ {X : Type 0} (passes : X → Bool) (x : X) (put : List X → List X) (none : put [] ≡ x ∷ [])
    (one : (y : X) (ys : List X) → put (y ∷ ys) ≡ cond (passes y) (y ∷ put ys) (x ∷ y ∷ ys)) where
  pub put_at : (xs : List X) (place : ℕ) → place ≤ length xs → AllWithin (λ y. passes y ≡ true) xs 0 place →
      AllWithin (λ y. passes y ≡ false) xs place (length xs) → put xs ≡ take place xs ++ x ∷ drop place xs
  put_at [] zero within before behind = none
  put_at [] (suc place) within before behind = absurd (omega arith)
  put_at (y ∷ ys) zero within before behind =
      one y ys ∙ ap (λ b. cond b (y ∷ put ys) (x ∷ y ∷ ys)) (behind 0 y (omega arith) (omega arith))
  put_at (y ∷ ys) (suc place) within before behind =
      one y ys
      ∙ (ap (λ b. cond b (y ∷ put ys) (x ∷ y ∷ ys)) (before 0 y (omega arith) (omega arith))
      ∙ ap (λ zs. y ∷ zs) (put_at ys place (omega arith) (λ k d low high. before (suc k) d (omega arith) (omega arith))
      (λ k d low high. behind (suc k) d (omega arith) (omega arith))))
