-- A search for a byte that passes what is in front of the first such byte in large steps.
use Rattle.std.proofs.Common.{◌≡◌, ℕ, zero, suc, ◌+◌, ◌-◌, ◌≤◌, Bool, true, false, not, cond, ltb, List, [], ◌∷◌, length, take, drop, Some, None, refl}
use Rattle.std.proofs.Common.{length-drop, sym, ap, ◌∙◌, arith}
use Rattle.std.specs.List.{list_any, position, position_or_len}
use Rattle.std.proofs.lemmas.Bool.Decides.{nat_tests}
use Rattle.std.proofs.lemmas.List.{take_rest}
use Rattle.std.proofs.lemmas.Option.{cond_some}
use Rattle.script.proofs.Parts.{none_from, or_false}

one_more : (b : Bool) (k n m : ℕ) → b ≡ false → n ≡ k + m → cond (not b) (1 + n) 0 ≡ suc k + m
one_more true k n m f e = absurd cc
one_more false k n m f e = omega (arith, e)

-- no element of the first k passes, so the first place that does lies behind them
pub past : {X : Type 0} (p : X → Bool) (k : ℕ) (xs : List X) → k ≤ length xs → list_any p (take k xs) ≡ false →
    position_or_len p xs ≡ k + position_or_len p (drop k xs)
past p zero xs le e = omega arith
past p (suc k) [] le e = absurd (omega (arith, le))
past p (suc k) (x ∷ xs) le e =
    let h = or_false (p x) (list_any p (take k xs)) e in
    one_more (p x) k (position_or_len p xs) (position_or_len p (drop k xs)) h.0 (past p k xs (omega (arith, le)) h.1)

pub none_past : {X : Type 0} (p : X → Bool) (k : ℕ) (xs : List X) → k ≤ length xs → list_any p (take k xs) ≡ false →
    position p (take (length xs - k) (drop k xs)) ≡ None → None ≡ position p xs
none_past p k xs le e f =
    let at = past p k xs le e in
    let g : position p (drop k xs) ≡ None = ap (position p) (sym (take_rest xs k)) ∙ f in
    let none = none_from (ltb (position_or_len p (drop k xs)) (length (drop k xs))) (position_or_len p (drop k xs)) g in
    let len : length (drop k xs) ≡ length xs - k = length-drop k xs in
    let no : ltb (position_or_len p xs) (length xs) ≡ false = grind (arith, nat_tests) in
    rw no refl

pub some_past : {X : Type 0} (p : X → Bool) (k : ℕ) (xs : List X) (at : ℕ) → k ≤ length xs → list_any p (take k xs) ≡ false →
    position p (take (length xs - k) (drop k xs)) ≡ Some at → Some (k + at) ≡ position p xs
some_past p k xs at le e f =
    let first = past p k xs le e in
    let g : position p (drop k xs) ≡ Some at = ap (position p) (sym (take_rest xs k)) ∙ f in
    let h = cond_some (ltb (position_or_len p (drop k xs)) (length (drop k xs))) (position_or_len p (drop k xs)) at g in
    let place = h.1 in
    let len : length (drop k xs) ≡ length xs - k = length-drop k xs in
    let yes : ltb (position_or_len p xs) (length xs) ≡ true = grind (arith, nat_tests) in
    let same : position_or_len p xs ≡ k + at = omega (arith, first, place) in
    rw (yes, same) refl

-- an element stands neither in the first n nor in the next k
pub none_more : {X : Type 0} (p : X → Bool) (n k : ℕ) (xs : List X) → list_any p (take n xs) ≡ false → list_any p (take k (drop n xs)) ≡ false →
    list_any p (take (n + k) xs) ≡ false
none_more p zero k xs e f = let same : zero + k ≡ k = omega arith in rw same f
none_more p (suc n) k [] e f = let same : suc n + k ≡ suc (n + k) = omega arith in rw same refl
none_more p (suc n) k (x ∷ xs) e f =
    let h = or_false (p x) (list_any p (take n xs)) e in
    let same : suc n + k ≡ suc (n + k) = omega arith in
    rw (same, h.0) (none_more p n k xs h.1 f)
