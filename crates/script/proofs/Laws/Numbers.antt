-- A number is spelled in one way.
use Rattle.std.proofs.Common.{◌≡◌, ℕ, suc, ◌^◌, ◌<◌, ◌≤◌, Bool, true, not, ◌&&◌, eqb, leb, List, [], ◌∷◌, length, get_or, Some, decimal, refl, sym, ap}
use Rattle.std.proofs.Common.{subst, ◌∙◌, inl, inr, arith}
use Rattle.std.specs.List.{list_all}
use Rattle.std.specs.Char.{is_ascii_digit}
use Rattle.std.specs.Str.Parse.{digits_value}
use Rattle.std.proofs.lemmas.Bool.{and_parts, and_from, leb-true, le-leb, not-true, eqb-false, ne_eqb, cases_eq}
use Rattle.std.proofs.lemmas.Fmt.{decimal-digits_value, digits_decimal, digits_value-decimal, decimal_nonempty, first_decimal, decimal_digit}
use Rattle.script.specs.Fields.{is_decimal, number_at}
use Rattle.script.proofs.Numbers.{own}
use Rattle.script.proofs.Laws.Steps.{some_when}
use Rattle.script.proofs.Laws.Bytes.{Each}

abbrev Digits : List ℕ → Type 0
Digits t = Each is_ascii_digit t

record IsPlain (t : List ℕ) : Type 0 where
  digits : Digits t
  some : 0 < length t
  lead : get_or t 0 0 ≡ 48 → length t ≡ 1

plain_from : (t : List ℕ) → is_decimal t ≡ true → IsPlain t
plain_from [] h = absurd cc
plain_from (c ∷ []) h = record { digits = and_from (is_ascii_digit c) true h refl; some = omega arith; lead = λ e. refl }
plain_from (c ∷ d ∷ ds) h =
    let p = and_parts (not (eqb c 48)) (list_all is_ascii_digit (c ∷ d ∷ ds)) h in
    record { digits = p.1; some = omega arith; lead = λ e. absurd (eqb-false c 48 (not-true _ p.0) e) }

plain_is : (t : List ℕ) → IsPlain t → is_decimal t ≡ true
plain_is [] p = absurd (let h = p.some in omega arith)
plain_is (c ∷ []) p = (and_parts (is_ascii_digit c) true p.digits).0
plain_is (c ∷ d ∷ ds) p =
    and_from (not (eqb c 48)) (list_all is_ascii_digit (c ∷ d ∷ ds)) (ap not (ne_eqb c 48 (λ e. let l : suc (suc (length ds)) ≡ 1 = p.lead e in omega arith)))
    p.digits

decimal_plain : (n : ℕ) → n < 2 ^ 64 → IsPlain (decimal n)
decimal_plain n lt = record { digits = digits_decimal own n lt; some = decimal_nonempty n lt; lead = lead }
  where
    lead : get_or (decimal n) 0 0 ≡ 48 → length (decimal n) ≡ 1
    lead e = elim (cases_eq n 0) [
      | inl z ↦ ap length (ap decimal z ∙ decimal_digit 0 (omega arith))
      | inr pos ↦ absurd (let h = first_decimal n (omega arith) lt in omega arith)
    ]

abbrev pub in_range : ℕ → ℕ → ℕ → Bool
in_range low high n = leb low n && leb n high

in_range_parts : (low high n : ℕ) → in_range low high n ≡ true → (low ≤ n) × (n ≤ high)
in_range_parts low high n h = let p = and_parts (leb low n) (leb n high) h in (leb-true low n p.0, leb-true n high p.1)

in_range_is : (low high n : ℕ) → low ≤ n → n ≤ high → in_range low high n ≡ true
in_range_is low high n l h = and_from (leb low n) (leb n high) (le-leb low n l) (le-leb n high h)

pub number_takes : (low high : ℕ) (t : List ℕ) (n : ℕ) → high < 2 ^ 64 → number_at low high t ≡ Some n → (t ≡ decimal n) × (low ≤ n) × (n ≤ high)
unfolding number_at
number_takes low high t n lt e =
    let s = some_when (is_decimal t && in_range low high (digits_value 10 t)) (digits_value 10 t) n e in
    let p = and_parts (is_decimal t) (in_range low high (digits_value 10 t)) s.0 in
    let plain = plain_from t p.0 in
    let r = in_range_parts low high (digits_value 10 t) p.1 in
    let back = decimal-digits_value own t plain.digits plain.some plain.lead (omega arith) in
    (sym back ∙ ap decimal s.1, subst (λ (k : ℕ). low ≤ k) s.1 r.0, subst (λ (k : ℕ). k ≤ high) s.1 r.1)

pub number_again : (low high n : ℕ) → high < 2 ^ 64 → low ≤ n → n ≤ high → number_at low high (decimal n) ≡ Some n
unfolding number_at
number_again low high n lt l h =
    let small : n < 2 ^ 64 = omega arith in
    let v : digits_value 10 (decimal n) ≡ n = digits_value-decimal own n small in
    rw (plain_is (decimal n) (decimal_plain n small), v, in_range_is low high n l h) refl

pub Each-decimal : (n : ℕ) → n < 2 ^ 64 → Each is_ascii_digit (decimal n)
Each-decimal n lt = digits_decimal own n lt
