-- A stamp is spelled in one way.
use Rattle.std.proofs.Common.{◌≡◌, ℕ, ◌^◌, ◌<◌, Bool, true, false, cond, ◌&&◌, ◌||◌, eqb, List, [], ◌∷◌, ◌++◌, Some, decimal, refl, sym, ap, subst, ◌∙◌}
use Rattle.std.proofs.Common.{inl, inr, arith}
use Rattle.std.specs.Char.{is_ascii_digit}
use Rattle.std.specs.List.{before_first, after_first}
use Rattle.std.proofs.lemmas.Bool.{and_parts, and_left, and_right, or_left, cases_Bool, eqb-true, eqb-false, ne_eqb}
use Rattle.hlc_stamp.specs.Stamps.{is_empty_stamp}
use Rattle.hlc_stamp.specs.declared.Stamp.{Stamp}
use Rattle.script.specs.Fields.{◌>>?◌, is_byte, has_byte, number_at, stamp_at}
use Rattle.script.specs.Texts.{stamp_text}
use Rattle.script.proofs.Laws.Steps.{some_bound, some_is, chosen}
use Rattle.script.proofs.Laws.Bytes.{Each, Each-cons, Each-append, Each-weaker, lacks}
use Rattle.script.proofs.Laws.Numbers.{number_takes, number_again, Each-decimal}
use Rattle.script.proofs.Laws.Cuts.{cut_takes, parts_same, before_again, after_again, has_again}

abbrev pub made : ℕ → ℕ → Stamp
made w l = record { wall = w; logical = l }

-- what stands behind the `@`
abbrev pub stamp_body : Stamp → List ℕ
stamp_body s = cond (eqb s.logical 0) (decimal s.wall) (decimal s.wall ++ (46 ∷ decimal s.logical))

pub record IsInRange (s : Stamp) : Type 0 where
  pub wall : s.wall < 2 ^ 64
  pub logical : s.logical < 2 ^ 32

pub stamp_takes : (t : List ℕ) (s : Stamp) → stamp_at t ≡ Some s → (t ≡ stamp_body s) × (is_empty_stamp s ≡ false) × IsInRange s
unfolding stamp_at
stamp_takes t s e =
    let front = before_first (is_byte 46) t in
    let back = after_first (is_byte 46) t in
    elim (chosen (has_byte 46 t) (number_at 0 18446744073709551615 front >>? λ wall. number_at 1 4294967295 back >>? λ logical. Some (made wall logical))
    (number_at 1 18446744073709551615 t >>? λ wall. Some (made wall 0)) (Some s) e) [
      | inl two ↦
          let a = some_bound (number_at 0 18446744073709551615 front) (λ wall. number_at 1 4294967295 back >>? λ logical. Some (made wall logical)) s two.1 in
          let b = some_bound (number_at 1 4294967295 back) (λ logical. Some (made a.0 logical)) s a.2 in
          let wall = number_takes 0 18446744073709551615 front a.0 (omega arith) a.1 in
          let logical = number_takes 1 4294967295 back b.0 (omega arith) b.1 in
          let some : eqb b.0 0 ≡ false = ne_eqb b.0 0 (λ z. omega arith) in
          let whole : t ≡ decimal a.0 ++ (46 ∷ decimal b.0) = cut_takes 46 t two.0 ∙ parts_same 46 front back (decimal a.0) (decimal b.0) wall.0 logical.0 in
          let body : stamp_body (made a.0 b.0) ≡ decimal a.0 ++ (46 ∷ decimal b.0) = rw some refl in
          subst (λ (p : Stamp). (t ≡ stamp_body p) × (is_empty_stamp p ≡ false) × IsInRange p) (some_is (made a.0 b.0) s b.2) (
            whole
                ∙ sym body,
            and_right (eqb a.0 0) (eqb b.0 0) some,
            record { wall = omega arith; logical = omega arith },
          )
      | inr one ↦
          let a = some_bound (number_at 1 18446744073709551615 t) (λ wall. Some (made wall 0)) s one.1 in
          let wall = number_takes 1 18446744073709551615 t a.0 (omega arith) a.1 in
          let some : eqb a.0 0 ≡ false = ne_eqb a.0 0 (λ z. omega arith) in
          subst (λ (p : Stamp). (t ≡ stamp_body p) × (is_empty_stamp p ≡ false) × IsInRange p) (some_is (made a.0 0) s a.2)
          (wall.0, and_left (eqb a.0 0) true some, record { wall = omega arith; logical = omega arith })
    ]

digits_lack : (n b : ℕ) → n < 2 ^ 64 → is_ascii_digit b ≡ false → has_byte b (decimal n) ≡ false
digits_lack n b lt h = lacks is_ascii_digit b (decimal n) h (Each-decimal n lt)

two_again : (w l : ℕ) → w < 2 ^ 64 → 0 < l → l < 2 ^ 32 → stamp_at (decimal w ++ (46 ∷ decimal l)) ≡ Some (made w l)
unfolding stamp_at
two_again w l hw pos hl =
    let clear = digits_lack w 46 hw refl in
    rw (
      has_again 46 (decimal w) (decimal l),
      before_again 46 (decimal w) (decimal l) clear,
      after_again 46 (decimal w)
          (decimal l) clear,
      number_again 0 18446744073709551615 w (omega arith) (omega arith) (omega arith),
      number_again 1 4294967295 l (omega arith)
          (omega arith) (omega arith),
    ) refl

one_again : (w : ℕ) → w < 2 ^ 64 → 0 < w → stamp_at (decimal w) ≡ Some (made w 0)
unfolding stamp_at
one_again w hw pos =
    let clear = digits_lack w 46 hw refl in
    rw (clear, number_again 1 18446744073709551615 w (omega arith) (omega arith) (omega arith)) refl

by_logical : (w l : ℕ) (b : Bool) → w < 2 ^ 64 → l < 2 ^ 32 → (eqb w 0 && eqb l 0) ≡ false → eqb l 0 ≡ b
    → stamp_at (cond b (decimal w) (decimal w ++ (46 ∷ decimal l))) ≡ Some (made w l)
by_logical w l true hw hl some e =
    let z : l ≡ 0 = eqb-true l 0 e in
    let pos : 0 < w = elim (cases_Bool (eqb w 0)) [
      | inl y ↦ absurd (let both : (eqb w 0 && eqb l 0) ≡ true = rw (y, e) refl in cc)
      | inr n ↦ (let m = eqb-false w 0 n in omega arith)
    ] in
    one_again w hw pos ∙ ap (λ (k : ℕ). Some (made w k)) (sym z)
by_logical w l false hw hl some e = two_again w l hw (let m = eqb-false l 0 e in omega arith) hl

pub stamp_again : (s : Stamp) → is_empty_stamp s ≡ false → IsInRange s → stamp_at (stamp_body s) ≡ Some s
stamp_again s some ok = by_logical s.wall s.logical (eqb s.logical 0) ok.wall ok.logical some refl

-- ---- with the `@`, and none at the empty stamp

behind_at : (b : Bool) (x y : List ℕ) → cond b (64 ∷ x) (64 ∷ y) ≡ 64 ∷ cond b x y
behind_at true x y = refl
behind_at false x y = refl

pub stamp_text_body : (s : Stamp) → is_empty_stamp s ≡ false → stamp_text s ≡ 64 ∷ stamp_body s
stamp_text_body s some = rw some (behind_at (eqb s.logical 0) (decimal s.wall) (decimal s.wall ++ (46 ∷ decimal s.logical)))

pub stamp_text_none : (s : Stamp) → is_empty_stamp s ≡ true → stamp_text s ≡ []
stamp_text_none s none = rw none refl

pub empty_is : (s : Stamp) → is_empty_stamp s ≡ true → made 0 0 ≡ s
empty_is s none =
    let p = and_parts (eqb s.wall 0) (eqb s.logical 0) none in
    let w : s.wall ≡ 0 = eqb-true s.wall 0 p.0 in
    let l : s.logical ≡ 0 = eqb-true s.logical 0 p.1 in
    ap (λ (k : ℕ). made k 0) (sym w) ∙ ap (λ (k : ℕ). made s.wall k) (sym l)

-- ---- the bytes of a stamp

abbrev pub is_stamp_byte : ℕ → Bool
is_stamp_byte c = is_ascii_digit c || (eqb c 46 || eqb c 64)

Each-digits : (n : ℕ) → n < 2 ^ 64 → Each is_stamp_byte (decimal n)
Each-digits n lt = Each-weaker is_ascii_digit is_stamp_byte (λ c g. or_left (is_ascii_digit c) (eqb c 46 || eqb c 64) g) (decimal n) (Each-decimal n lt)

Each-cond : (p : ℕ → Bool) (b : Bool) (s t : List ℕ) → Each p s → Each p t → Each p (cond b s t)
Each-cond p true s t h g = h
Each-cond p false s t h g = g

pub Each-stamp_text : (s : Stamp) → IsInRange s → Each is_stamp_byte (stamp_text s)
Each-stamp_text s ok =
    let w = Each-digits s.wall ok.wall in
    let lt : s.logical < 2 ^ 64 = let h = ok.logical in omega arith in
    let l = Each-digits s.logical lt in
    let two = Each-append is_stamp_byte (decimal s.wall) (46 ∷ decimal s.logical) w (Each-cons is_stamp_byte 46 (decimal s.logical) refl l) in
    Each-cond is_stamp_byte (is_empty_stamp s) [] (cond (eqb s.logical 0) (64 ∷ decimal s.wall) (64 ∷ (decimal s.wall ++ (46 ∷ decimal s.logical)))) refl
    (Each-cond is_stamp_byte (eqb s.logical 0) (64 ∷ decimal s.wall) (64 ∷ (decimal s.wall ++ (46 ∷ decimal s.logical)))
    (Each-cons is_stamp_byte 64 (decimal s.wall) refl w) (Each-cons is_stamp_byte 64 (decimal s.wall ++ (46 ∷ decimal s.logical)) refl two))
