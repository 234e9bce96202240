-- Texts of decimal digits: that they are numerals, and what they write as far as they are read.
use Rattle.std.proofs.Common.{◌≡◌, ℕ, suc, ◌+◌, ◌*◌, ◌-◌, ◌^◌, ◌<◌, ◌≤◌, true, List, [], ◌∷◌, length, drop, get_or, ap, rules, arith}
use Rattle.std.proofs.Math.Seq.{drop-cons}
use Rattle.std.specs.Char.{is_ascii_digit, digit_value}
use Rattle.std.specs.List.{list_all}
use Rattle.std.specs.Str.Parse.{digits_value, digits_value_after}
use Rattle.std.proofs.lemmas.Bool.Decides.{nat_tests}
use Rattle.std.proofs.lemmas.Str.Parse.{IsNumeralModel, IsDigitsTest, numerals_by_value}

tells : IsDigitsTest (λ ds. list_all is_ascii_digit ds ≡ true)
tells = search rules

pub own : IsNumeralModel (λ ds. list_all is_ascii_digit ds ≡ true) (digits_value 10)
own = numerals_by_value (λ ds. list_all is_ascii_digit ds ≡ true) tells

-- a digit's value
digit_is : (c : ℕ) → is_ascii_digit c ≡ true → digit_value c ≡ c - 48
digit_is c digit = grind (arith, nat_tests)

-- what digits write goes on from the number so far, and so is no less
after-le : (n : ℕ) (ds : List ℕ) → n ≤ digits_value_after 10 n ds
after-le n [] = omega arith
after-le n (c ∷ cs) = omega (arith, after-le (n * 10 + digit_value c) cs)

-- a number that is past 64 bits with the next digit stays so
pub past_end : (text : List ℕ) (i n : ℕ) → i < length text → digits_value 10 text ≡ digits_value_after 10 n (drop i text) →
    is_ascii_digit (get_or text i 0) ≡ true → 2 ^ 64 ≤ n * 10 + (get_or text i 0 - 48) → 2 ^ 64 ≤ digits_value 10 text
past_end text i n inside value digit past =
    let next : digits_value_after 10 n (drop i text) ≡ digits_value_after 10 (n * 10 + digit_value (get_or text i 0)) (drop (suc i) text) =
    ap (digits_value_after 10 n) (drop-cons text i 0 inside) in
    let low = after-le (n * 10 + digit_value (get_or text i 0)) (drop (suc i) text) in
    let is : digit_value (get_or text i 0) ≡ get_or text i 0 - 48 = digit_is (get_or text i 0) digit in
    omega (arith, value, next, low, is)
