-- Tests joined by `&&` and `||`, and a choice between two values.
use Rattle.std.proofs.Common.{◌≡◌, Bool, true, false, ◌&&◌, ◌||◌, cond, ◌⊎◌, inl, inr, refl}

pub or_no : (b : Bool) → b ≡ (b || false)
or_no true = refl
or_no false = refl

pub or_right : (a b : Bool) → b ≡ true → (a || b) ≡ true
or_right true b e = refl
or_right false b e = e

pub or_left : (a b : Bool) → a ≡ true → (a || b) ≡ true
or_left true b e = refl
or_left false b e = absurd cc

pub or_cases : (a b : Bool) → (a || b) ≡ true → (a ≡ true) ⊎ (b ≡ true)
or_cases true b e = inl refl
or_cases false b e = inr e

pub and_no : (b : Bool) → (b && false) ≡ false
and_no true = refl
and_no false = refl

pub and_true : (b : Bool) → (b && true) ≡ b
and_true true = refl
and_true false = refl

pub and_both : (a b : Bool) → a ≡ true → b ≡ true → (a && b) ≡ true
and_both true b e f = f
and_both false b e f = absurd cc

pub and_parts : (a b : Bool) → (a && b) ≡ true → (a ≡ true) × (b ≡ true)
and_parts true b e = (refl, e)
and_parts false b e = absurd cc

-- which of two values was chosen
pub chosen : {X : Type 0} (b : Bool) (x y r : X) → r ≡ cond b x y → ((b ≡ true) × (r ≡ x)) ⊎ ((b ≡ false) × (r ≡ y))
chosen true x y r e = inl (refl, e)
chosen false x y r e = inr (refl, e)

pub false-true : false ≡ true → ⊥
false-true e = cc
