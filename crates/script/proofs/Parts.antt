-- The place of a byte in a text, and what stands before and behind it.
use Rattle.std.proofs.Common.{◌≡◌, ℕ, suc, ◌+◌, ◌-◌, ◌<◌, Bool, true, false, not, ◌||◌, cond, ltb, List, [], ◌∷◌, length, take, drop, Some, None, refl}
use Rattle.std.proofs.Common.{sym, ap, ◌∙◌, arith}
use Rattle.std.specs.List.{list_any, position, position_or_len, before_first, after_first, slice_split, onto_first}
use Rattle.std.proofs.lemmas.Bool.Decides.{nat_tests}
use Rattle.std.proofs.lemmas.List.{take_rest}
use Rattle.std.proofs.lemmas.List.Splits.{slice_split-cons_no, slice_split_first}
use Rattle.std.proofs.lemmas.Option.{cond_some}

step : (b rest : Bool) (n m : ℕ) → rest ≡ ltb n m → (b || rest) ≡ ltb (cond (not b) (1 + n) 0) (suc m)
step true rest n m e = grind (arith, nat_tests)
step false rest n m e = grind (arith, nat_tests)

-- an element passes just where the first place that passes lies within the list
pub any_by_place : {X : Type 0} (p : X → Bool) (xs : List X) → list_any p xs ≡ ltb (position_or_len p xs) (length xs)
any_by_place p [] = refl
any_by_place p (x ∷ xs) = step (p x) (list_any p xs) (position_or_len p xs) (length xs) (any_by_place p xs)

pub none_from : (b : Bool) (n : ℕ) → cond b (Some n) None ≡ None → b ≡ false
none_from true n e = absurd cc
none_from false n e = refl

-- no place
pub no_place : {X : Type 0} (p : X → Bool) (xs : List X) → position p xs ≡ None → list_any p xs ≡ false
no_place p xs e = any_by_place p xs ∙ none_from (ltb (position_or_len p xs) (length xs)) (position_or_len p xs) e

-- a place, with what stands before and behind it
pub record Found {X : Type 0} (p : X → Bool) (xs : List X) (at : ℕ) : Type 0 where
  pub some : list_any p xs ≡ true
  pub front : take at xs ≡ before_first p xs
  pub back : take (length xs - (at + 1)) (drop (at + 1) xs) ≡ after_first p xs
  pub within : at < length xs

pub found : {X : Type 0} (p : X → Bool) (xs : List X) (at : ℕ) → position p xs ≡ Some at → Found p xs at
found p xs at e =
    let h = cond_some (ltb (position_or_len p xs) (length xs)) (position_or_len p xs) at e in
    let same : at ≡ position_or_len p xs = sym h.1 in
    record {
      some = any_by_place p xs ∙ h.0;
      front = rw same refl;
      back = take_rest xs (at + 1) ∙ rw same refl;
      within = grind (arith, nat_tests);
    }

pub or_false : (a b : Bool) → (a || b) ≡ false → (a ≡ false) × (b ≡ false)
or_false true b e = absurd cc
or_false false b e = (refl, e)

-- A list without the byte at which it is cut is one part. Else its first part is what stands before the first such byte.
pub one_part : {X : Type 0} (p : X → Bool) (xs : List X) → list_any p xs ≡ false → slice_split p xs ≡ xs ∷ []
one_part p [] e = refl
one_part p (x ∷ xs) e =
    let h = or_false (p x) (list_any p xs) e in
    slice_split-cons_no p x xs h.0 ∙ ap (onto_first x) (one_part p xs h.1)

pub first_part : (p : ℕ → Bool) (xs : List ℕ) → list_any p xs ≡ true → slice_split p xs ≡ before_first p xs ∷ slice_split p (after_first p xs)
first_part p xs e =
    let place = any_by_place p xs in
    slice_split_first p xs 0 (grind (arith, nat_tests))
