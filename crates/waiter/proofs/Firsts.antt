-- Where the first of a list stands.
use Rattle.std.proofs.Common.{◌≡◌, ◌+◌, ◌<◌, ◌∙◌, ◌⊎◌, ℕ, zero, suc, Bool, true, false, cond, List}
use Rattle.std.proofs.Common.{[], ◌∷◌, length, get_or, Some, None, refl, sym, ap, subst, inl, inr, arith}
use Rattle.std.proofs.lemmas.Bool.{le-ltb, lt-ltb}
use Rattle.std.proofs.lemmas.List.{get_or_default}
use Rattle.std.proofs.lemmas.List.Sums.{position_or_len_is}
use Rattle.std.specs.List.{position, position_or_len}
use Rattle.std.specs.Prelude.{nat_lt}

pub position_found : {X : Type 0} (q : X → Bool) (xs : List X) (i : ℕ) (d : X) → i < length xs → ((k : ℕ) → k < i → q (get_or xs k d) ≡ false) →
    q (get_or xs i d) ≡ true → position q xs ≡ Some i
position_found q xs i d l f t =
    let e : position_or_len q xs ≡ i = position_or_len_is q xs i d (omega arith) f (λ h. t) in
    ap (λ n. cond (nat_lt n (length xs)) (Some n) None) e ∙ ap (λ b. cond b (Some i) None) (lt-ltb i (length xs) l)

pub position_none : {X : Type 0} (q : X → Bool) (xs : List X) → ((k : ℕ) (d : X) → k < length xs → q (get_or xs k d) ≡ false) → position q xs ≡ None
position_none q [] f = refl
position_none q (x ∷ xs) f =
    let e : position_or_len q (x ∷ xs) ≡ length (x ∷ xs) = position_or_len_is q (x ∷ xs) (length (x ∷ xs)) x (omega arith) (λ k l. f k x l)
    (λ h. absurd (omega arith)) in
    ap (λ n. cond (nat_lt n (length (x ∷ xs))) (Some n) None) e ∙ ap (λ b. cond b (Some (length (x ∷ xs))) None)
    (le-ltb (length (x ∷ xs)) (length (x ∷ xs)) (omega arith))

-- one more element has a fact
pub one_more : {X : Type 0} (P : X → Type 0) (xs : List X) (i : ℕ) (x : X) → i < length xs → x ≡ get_or xs i x → P x →
    ((j : ℕ) (d : X) → j < i → P (get_or xs j d)) → (j : ℕ) (d : X) → j < i + 1 → P (get_or xs j d)
one_more {X} P xs i x lt e p all j d less = by (less_or_same j i less)
  where
    less_or_same : (j i : ℕ) → j < i + 1 → (j < i) ⊎ (j ≡ i)
    less_or_same zero zero l = inr refl
    less_or_same zero (suc i) l = inl (omega arith)
    less_or_same (suc j) zero l = absurd (omega arith)
    less_or_same (suc j) (suc i) l = up (less_or_same j i (omega arith))
      where
        up : (j < i) ⊎ (j ≡ i) → (suc j < suc i) ⊎ (suc j ≡ suc i)
        up (inl a) = inl (omega arith)
        up (inr b) = inr (ap suc b)

    by : (j < i) ⊎ (j ≡ i) → P (get_or xs j d)
    by (inl a) = all j d a
    by (inr same) = subst (λ n. P (get_or xs n d)) (sym same) (subst P (e ∙ get_or_default xs i x d lt) p)
