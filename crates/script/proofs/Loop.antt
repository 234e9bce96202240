-- A loop that reads the latches of a line, one after the other.
use Rattle.std.proofs.Common.{◌≡◌, ℕ, List, [], ◌∷◌, ◌++◌, Result, Ok, Err, refl, sym, ap, ◌∙◌, append_assoc}
use Rattle.std.proofs.lemmas.List.{append-nil}
use Rattle.script.specs.declared.fault.FieldFault.{FieldFault}
use Rattle.script.specs.declared.fault.FieldFault.TheVariants as fields
use Rattle.latch_model.specs.declared.latch.Latch.{Latch}
use Rattle.script.specs.Fields.{◌>>=◌, latch_at}
use Rattle.script.specs.Lines.{latches_at, few_at}
use Rattle.script.specs.Outcomes.{FieldFails}

-- what was read so far, before what is read next
abbrev pub with_front : List Latch → Result (List Latch) ℕ → Result (List Latch) ℕ
with_front front read = read >>= λ latches. Ok (front ++ latches)

regroup : (front : List Latch) (l : Latch) (r : Result (List Latch) ℕ) → with_front front (r >>= λ latches. Ok (l ∷ latches)) ≡ with_front (front ++ l ∷ []) r
regroup front l (Ok ls) = ap (λ (x : List Latch). Ok x) (sym (append_assoc front (l ∷ []) ls))
regroup front l (Err cause) = refl

pub goes_on : (front : List Latch) (f : List ℕ) (rest : List (List ℕ)) (l : Latch) (total : Result (List Latch) ℕ) → latch_at f ≡ Ok l
    → with_front front (latches_at (f ∷ rest)) ≡ total → with_front (front ++ l ∷ []) (latches_at rest) ≡ total
unfolding latches_at
goes_on front f rest l total h so_far = sym (regroup front l (latches_at rest)) ∙ sym (rw h at (sym so_far))

pub ends : (e : FieldFault) (front : List Latch) (f : List ℕ) (rest : List (List ℕ)) (total : Result (List Latch) ℕ) → FieldFails e (latch_at f)
    → with_front front (latches_at (f ∷ rest)) ≡ total → FieldFails e total
unfolding latches_at
ends fields.Memory front f rest total h so_far = tt
ends (fields.Bad cause) front f rest total h so_far = rw h at (sym so_far)

pub is_done : (front : List Latch) (total : Result (List Latch) ℕ) → with_front front (latches_at []) ≡ total → total ≡ Ok front
unfolding latches_at
is_done front total so_far = sym so_far ∙ ap (λ (x : List Latch). Ok x) (append-nil front)

-- no fields have no latches
pub few_none : few_at [] ≡ Ok []
unfolding few_at latches_at
few_none = refl
