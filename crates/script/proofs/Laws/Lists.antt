-- The latches of a line, with the turns before them, are spelled in one way.
use Rattle.std.proofs.Common.{◌≡◌, ℕ, ◌≤◌, false, cond, ltb, List, [], ◌∷◌, ◌++◌, length, map, Option, Some, None, Ok, Err, decimal, codes, refl, ap}
use Rattle.std.proofs.Common.{subst, ◌∙◌, inl, inr, append_assoc, arith}
use Rattle.std.specs.Prelude.{IfSome}
use Rattle.std.specs.List.{AllByRecursion}
use Rattle.std.proofs.lemmas.Bool.{ltb-false, le-ltb}
use Rattle.std.proofs.lemmas.List.Elements.{All-from_recursion, recursion_from_All}
use Rattle.latch_model.specs.declared.latch.Access.{Access}
use Rattle.latch_model.specs.declared.latch.Access.TheVariants.{Read, Write}
use Rattle.latch_model.specs.declared.latch.Latch.{Latch}
use Rattle.latch_model.specs.declared.latch.TheConstants.Latches.{LIMIT as latch_limit}
use Rattle.script.specs.Fields.{◌>>=◌, or_cause, number_at, begins_with, behind, latch_at}
use Rattle.script.specs.Lines.{latches_at, few_at, rest_at}
use Rattle.script.specs.Commands.{turns_fields}
use Rattle.script.specs.Scripts.{IsScriptLatch, AreScriptLatches}
use Rattle.script.specs.Texts.{access_text, span_text, stamp_text, latch_text}
use Rattle.script.specs.declared.limits.TheConstants.{TURN_LIMIT}
use Rattle.script.proofs.Laws.Steps.{ok_bound, ok_is, cause_ok, chosen, ok_unless_err}
use Rattle.script.proofs.Laws.Numbers.{number_takes, number_again}
use Rattle.script.proofs.Laws.Latches.{latch_takes, latch_again, begins_takes}

-- ---- latches

latches_take : (fs : List (List ℕ)) (ls : List Latch) → latches_at fs ≡ Ok ls → (fs ≡ map latch_text ls) × AllByRecursion IsScriptLatch ls
unfolding latches_at
latches_take [] ls e = subst (λ (x : List Latch). ([] ≡ map latch_text x) × AllByRecursion IsScriptLatch x) (ok_is {C = ℕ} [] ls e) (refl, tt)
latches_take (f ∷ fs) ls e =
    let a = ok_bound (latch_at f) (λ latch. latches_at fs >>= λ latches. Ok (latch ∷ latches)) ls e in
    let b = ok_bound (latches_at fs) (λ latches. Ok (a.0 ∷ latches)) ls a.2 in
    let first = latch_takes f a.0 a.1 in
    let others = latches_take fs b.0 b.1 in
    let both : f ∷ fs ≡ map latch_text (a.0 ∷ b.0) = ap (λ (x : List ℕ). x ∷ fs) first.0 ∙ ap (λ (x : List (List ℕ)). latch_text a.0 ∷ x) others.0 in
    subst (λ (x : List Latch). (f ∷ fs ≡ map latch_text x) × AllByRecursion IsScriptLatch x) (ok_is {C = ℕ} (a.0 ∷ b.0) ls b.2) (both, (first.1, others.1))

latches_again : (ls : List Latch) → AllByRecursion IsScriptLatch ls → latches_at (map latch_text ls) ≡ Ok ls
unfolding latches_at
latches_again [] ok = refl
latches_again (l ∷ ls) ok = rw (latch_again l ok.0, latches_again ls ok.1) refl

-- ---- not too many

pub few_takes : (fs : List (List ℕ)) (ls : List Latch) → few_at fs ≡ Ok ls → (fs ≡ map latch_text ls) × AreScriptLatches ls
unfolding few_at
few_takes fs ls e =
    let a = ok_bound (latches_at fs) (λ latches. cond (ltb latch_limit (length latches)) (Err 11) (Ok latches)) ls e in
    let few = ok_unless_err (ltb latch_limit (length a.0)) 11 (Ok a.0) ls a.2 in
    let all = latches_take fs a.0 a.1 in
    subst (λ (x : List Latch). (fs ≡ map latch_text x) × AreScriptLatches x) (ok_is {C = ℕ} a.0 ls few.1)
    (all.0, record { few = ltb-false latch_limit (length a.0) few.0; each = All-from_recursion IsScriptLatch a.0 all.1 })

pub few_again : (ls : List Latch) → AreScriptLatches ls → few_at (map latch_text ls) ≡ Ok ls
unfolding few_at
few_again ls ok = rw (latches_again ls (recursion_from_All IsScriptLatch ls ok.each), le-ltb latch_limit (length ls) ok.few) refl

-- ---- the turns, which are no latch

abbrev pub Rest : Type 0
Rest = Option ℕ × List Latch

abbrev pub rest_fields : Rest → List (List ℕ)
rest_fields r = turns_fields r.0 ++ map latch_text r.1

abbrev pub IsRest : Rest → Type 0
IsRest r = IfSome r.0 (λ n. (1 ≤ n) × (n ≤ TURN_LIMIT)) × AreScriptLatches r.1

abbrev Reads : List (List ℕ) → Rest → Type 0
Reads fs r = (fs ≡ rest_fields r) × IsRest r

pub rest_takes : (fs : List (List ℕ)) (r : Rest) → rest_at fs ≡ Ok r → Reads fs r
unfolding rest_at
rest_takes [] r e =
    let none : Rest = (None, []) in
    subst (Reads []) (ok_is {C = ℕ} none r e) (refl, (tt, record { few = omega arith; each = All-from_recursion IsScriptLatch [] tt }))
rest_takes (f ∷ fs) r e =
    let number = or_cause 7 (number_at 1 TURN_LIMIT (behind (codes "turns=") f)) in
    elim (chosen (begins_with (codes "turns=") f) (number >>= λ turns. few_at fs >>= λ latches. Ok (Some turns, latches))
    (few_at (f ∷ fs) >>= λ latches. Ok (None, latches)) (Ok r) e) [
      | inl with ↦
          let a = ok_bound number (λ turns. few_at fs >>= λ latches. Ok (Some turns, latches)) r with.1 in
          let b = ok_bound (few_at fs) (λ latches. Ok (Some a.0, latches)) r a.2 in
          let n = number_takes 1 TURN_LIMIT (behind (codes "turns=") f) a.0 (omega arith)
          (cause_ok 7 (number_at 1 TURN_LIMIT (behind (codes "turns=") f)) a.0 a.1) in
          let few = few_takes fs b.0 b.1 in
          let m : Rest = (Some a.0, b.0) in
          let field : f ≡ codes "turns=" ++ decimal a.0 = begins_takes (codes "turns=") f with.0 ∙ ap (λ (x : List ℕ). codes "turns=" ++ x) n.0 in
          let whole : f ∷ fs ≡ rest_fields m = ap (λ (x : List ℕ). x ∷ fs) field ∙ ap (λ (x : List (List ℕ)). (codes "turns=" ++ decimal a.0) ∷ x) few.0 in
          subst (Reads (f ∷ fs)) (ok_is {C = ℕ} m r b.2) (whole, ((n.1, n.2), few.1))
      | inr without ↦
          let b = ok_bound (few_at (f ∷ fs)) (λ latches. Ok (None, latches)) r without.1 in
          let few = few_takes (f ∷ fs) b.0 b.1 in
          let m : Rest = (None, b.0) in
          subst (Reads (f ∷ fs)) (ok_is {C = ℕ} m r b.2) (few.0, (tt, few.1))
    ]

no_turns : (a : Access) (rest : List ℕ) → begins_with (codes "turns=") (access_text a ++ rest) ≡ false
no_turns Read rest = refl
no_turns Write rest = refl

latch_no_turns : (l : Latch) → begins_with (codes "turns=") (latch_text l) ≡ false
latch_no_turns l = ap (begins_with (codes "turns=")) (append_assoc (access_text l.access) (span_text l.span) (stamp_text l.stamp))
    ∙ no_turns l.access (span_text l.span ++ stamp_text l.stamp)

pub rest_again : (turns : Option ℕ) (ls : List Latch) → IsRest (turns, ls) → rest_at (rest_fields (turns, ls)) ≡ Ok (turns, ls)
unfolding rest_at
rest_again None [] ok = refl
rest_again None (l ∷ ls) ok =
    let few : few_at (latch_text l ∷ map latch_text ls) ≡ Ok (l ∷ ls) = few_again (l ∷ ls) ok.1 in
    rw (latch_no_turns l, few) refl
rest_again (Some n) ls ok = rw (number_again 1 TURN_LIMIT n (omega arith) ok.0.0 ok.0.1, few_again ls ok.1) refl
