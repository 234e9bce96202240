-- Which bytes stand in a text.
use Rattle.std.proofs.Common.{◌≡◌, ℕ, Bool, true, false, eqb, List, [], ◌∷◌, ◌++◌, refl, subst, ◌∙◌}
use Rattle.std.specs.List.{list_all}
use Rattle.std.proofs.lemmas.Bool.{and_parts, and_from, or_from, false_from_ne_true, eqb-true}
use Rattle.std.proofs.lemmas.List.Folds.{list_all-append}
use Rattle.script.specs.Fields.{has_byte}

-- each byte of a text passes a test
abbrev pub Each : (ℕ → Bool) → List ℕ → Type 0
Each p t = list_all p t ≡ true

pub Each-parts : (p : ℕ → Bool) (c : ℕ) (t : List ℕ) → Each p (c ∷ t) → (p c ≡ true) × Each p t
Each-parts p c t h = and_parts (p c) (list_all p t) h

pub Each-cons : (p : ℕ → Bool) (c : ℕ) (t : List ℕ) → p c ≡ true → Each p t → Each p (c ∷ t)
Each-cons p c t h g = and_from (p c) (list_all p t) h g

pub Each-append : (p : ℕ → Bool) (s t : List ℕ) → Each p s → Each p t → Each p (s ++ t)
Each-append p s t h g = list_all-append p s t ∙ and_from (list_all p s) (list_all p t) h g

pub Each-weaker : (p q : ℕ → Bool) (weaker : (c : ℕ) → p c ≡ true → q c ≡ true) (t : List ℕ) → Each p t → Each q t
Each-weaker p q weaker [] h = refl
Each-weaker p q weaker (c ∷ t) h = let g = Each-parts p c t h in Each-cons q c t (weaker c g.0) (Each-weaker p q weaker t g.1)

-- a byte that fails the test stands nowhere
pub lacks : (p : ℕ → Bool) (b : ℕ) (t : List ℕ) → p b ≡ false → Each p t → has_byte b t ≡ false
lacks p b [] f h = refl
lacks p b (c ∷ t) f h =
    let g = Each-parts p c t h in
    let other : eqb c b ≡ false = false_from_ne_true (eqb c b)
    (λ e. let s : c ≡ b = eqb-true c b e in let x : p b ≡ true = subst (λ (k : ℕ). p k ≡ true) s g.0 in cc) in
    or_from (eqb c b) (has_byte b t) other (lacks p b t f g.1)
