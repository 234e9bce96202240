-- Live names by their places, and what a turn does to the name that it is about.
use Rattle.std.proofs.Common.{◌≡◌, ℕ, zero, suc, ◌+◌, ◌<◌, Bool, true, false, not, cond, ◌==◌, List, [], ◌∷◌, map, length, Option, Some, None, refl}
use Rattle.std.proofs.Common.{sym, ap, ◌∙◌, arith}
use Rattle.std.specs.Prelude.{slice_get, slice_set}
use Rattle.std.specs.List.{filter, find, remove}
use Rattle.std.proofs.lemmas.Bool.{eq-eqb, ne_eqb}
use Rattle.latch_model.specs.Checks.{has_cause}
use Rattle.latch_model.specs.Histories.{HeldLatch, has_ended, latches_of, met}
use Rattle.latch_model.specs.declared.history.Cause.TheVariants.{From}
use Rattle.latch_model.specs.declared.latch.Mode.{Mode}
use Rattle.latch_model.specs.declared.latch.Mode.TheVariants.{Acquire, Optimistic as optimistic_mode, Look}
use Rattle.latch_model.specs.declared.latch.Policy.{Policy}
use Rattle.latch_model.specs.declared.latch.Policy.TheVariants.{Wait as policy_wait, Error as policy_error}
use Rattle.step_run.specs.State.{Granted, Named, Over, State, is_poisoned_in, replaced, without}
use Rattle.step_run.specs.Steps.{by_poisoned, decided_by, granted, spent_turn, turn}
use Rattle.latch_model.proofs.Ascending.{Rising}
use Rattle.step_run.proofs.Places.{below_at}

-- a name by its place
pub replaced_at : (ns : List Named) (i : ℕ) (n m : Named) → slice_get ns i ≡ Some n → m.id ≡ n.id → Rising (map (λ (n : Named). n.id) ns) →
    replaced m ns ≡ slice_set ns i m
replaced_at [] i n m at a r = absurd (cc)
replaced_at (x ∷ xs) zero n m at a r =
    let e : x.id ≡ m.id = ap (λ (n : Named). n.id) (first at) ∙ sym a in
    ap (λ b. cond b (m ∷ xs) (x ∷ replaced m xs)) (eq-eqb x.id m.id e)
  where
    first : Some x ≡ Some n → x ≡ n
    first e = cc
replaced_at (x ∷ xs) (suc i) n m at a r =
    let l : x.id < n.id = below_at (λ (n : Named). n.id) x.id xs i n at r.0 in
    ap (λ b. cond b (m ∷ xs) (x ∷ replaced m xs)) (ne_eqb x.id m.id (λ g. absurd (omega arith)))
    ∙ ap (λ ys. x ∷ ys) (replaced_at xs i n m at a r.1)

pub without_at : (ns : List Named) (i : ℕ) (n : Named) → slice_get ns i ≡ Some n → Rising (map (λ (n : Named). n.id) ns) → without n.id ns ≡ remove ns i
without_at [] i n at r = absurd (cc)
without_at (x ∷ xs) zero n at r =
    let e : x.id ≡ n.id = ap (λ (n : Named). n.id) (first at) in
    ap (λ b. cond b xs (x ∷ without n.id xs)) (eq-eqb x.id n.id e)
  where
    first : Some x ≡ Some n → x ≡ n
    first e = cc
without_at (x ∷ xs) (suc i) n at r =
    let l : x.id < n.id = below_at (λ (n : Named). n.id) x.id xs i n at r.0 in
    ap (λ b. cond b xs (x ∷ without n.id xs)) (ne_eqb x.id n.id (λ g. absurd (omega arith)))
    ∙ ap (λ ys. x ∷ ys) (without_at xs i n at r.1)

-- the first that passes stands at a place
pub found_at : {X : Type 0} (p : X → Bool) (xs : List X) (x : X) → find p xs ≡ Some x → (i : ℕ) × (slice_get xs i ≡ Some x) × (p x ≡ true)
found_at p [] x e = absurd (cc)
found_at {X} p (y ∷ ys) x e = by (p y) refl e (λ g. found_at p ys x g)
  where
    by : (b : Bool) → p y ≡ b → cond b (Some y) (find p ys) ≡ Some x → (find p ys ≡ Some x → (i : ℕ) × (slice_get ys i ≡ Some x) × (p x ≡ true)) →
        (i : ℕ) × (slice_get (y ∷ ys) i ≡ Some x) × (p x ≡ true)
    by true f g rest = let same : y ≡ x = cc in (zero, g, ap p (sym same) ∙ f)
    by false f g rest = let w = rest g in (suc w.0, w.1, w.2)

-- These names are the old ones with that at a place in a new form, which has the same name and session.
pub record IsSet (old : List Named) (i : ℕ) (n : Named) (new : List Named) : Type 0 where
  pub form : Named
  pub names : new ≡ slice_set old i form
  pub name : form.name ≡ n.name
  pub session : form.session ≡ n.session

pub record IsKin (n m : Named) : Type 0 where
  pub id : m.id ≡ n.id
  pub name : m.name ≡ n.name
  pub session : m.session ≡ n.session

abbrev pub replaced_set : (ns : List Named) (i : ℕ) (n m : Named) → slice_get ns i ≡ Some n → Rising (map (λ (n : Named). n.id) ns) → IsKin n m →
    IsSet ns i n (replaced m ns)
replaced_set ns i n m at r k = record { form = m; names = replaced_at ns i n m at k.id r; name = k.name; session = k.session }

kin_itself : (n : Named) → IsKin n n
kin_itself n = record { id = refl; name = refl; session = refl }

spent_set : (s : State) (i : ℕ) (n m : Named) (turns : Option ℕ) → slice_get s.names i ≡ Some n → Rising (map (λ (n : Named). n.id) s.names) →
    IsKin n m → IsSet s.names i n (spent_turn m s turns).state.names
spent_set s i n m None at r k = replaced_set s.names i n m at r k
spent_set s i n m (Some turns) at r k = by (m.counted + 1 == turns) refl
  where
    more : Named
    more = record m { counted = m.counted + 1 }

    by : (b : Bool) → (m.counted + 1 == turns) ≡ b → IsSet s.names i n (spent_turn m s (Some turns)).state.names
    by true e = rw e (replaced_set s.names i n (record more { phase = Over }) at r (record { id = k.id; name = k.name; session = k.session }))
    by false e = rw e (replaced_set s.names i n more at r (record { id = k.id; name = k.name; session = k.session }))

by_poisoned_set : (s : State) (i : ℕ) (n : Named) (x : HeldLatch) (policy : Policy) → slice_get s.names i ≡ Some n →
    Rising (map (λ (n : Named). n.id) s.names) → IsSet s.names i n (by_poisoned policy n s x).state.names
by_poisoned_set s i n x policy_wait at r = by (has_cause n.cause) refl
  where
    by : (b : Bool) → has_cause n.cause ≡ b → IsSet s.names i n (by_poisoned policy_wait n s x).state.names
    by true e = rw e (spent_set s i n n n.turns at r (kin_itself n))
    by false e = rw e (spent_set s i n (record n { cause = From x.by }) n.turns at r (record { id = refl; name = refl; session = refl }))
by_poisoned_set s i n x policy_error at r = replaced_set s.names i n (record n { phase = Over }) at r (record { id = refl; name = refl; session = refl })

granted_set : (s : State) (i : ℕ) (n : Named) (mode : Mode) → slice_get s.names i ≡ Some n → Rising (map (λ (n : Named). n.id) s.names) →
    IsSet s.names i n (granted mode n s).names
granted_set s i n Acquire at r =
    replaced_set s.names i n (record n { phase = Granted (length s.history) }) at r (record { id = refl; name = refl; session = refl })
granted_set s i n optimistic_mode at r =
    replaced_set s.names i n (record n { phase = Granted (length s.history) }) at r (record { id = refl; name = refl; session = refl })
granted_set s i n Look at r = replaced_set s.names i n (record n { phase = Over }) at r (record { id = refl; name = refl; session = refl })

decided_set : (s : State) (i : ℕ) (n : Named) (xs : List HeldLatch) → slice_get s.names i ≡ Some n → Rising (map (λ (n : Named). n.id) s.names) →
    IsSet s.names i n (decided_by n s xs).state.names
decided_set s i n [] at r = granted_set s i n n.mode at r
decided_set s i n (x ∷ xs) at r = by (is_poisoned_in s.names x.by) refl
  where
    by : (b : Bool) → is_poisoned_in s.names x.by ≡ b → IsSet s.names i n (decided_by n s (x ∷ xs)).state.names
    by true e = rw e (by_poisoned_set s i n x n.policy at r)
    by false e = rw e (spent_set s i n n n.turns at r (kin_itself n))

-- a turn leaves the name and the session of the name that it is about, and all else of the others
pub turn_set : (s : State) (i : ℕ) (n : Named) → slice_get s.names i ≡ Some n → Rising (map (λ (n : Named). n.id) s.names) →
    IsSet s.names i n (turn n s).state.names
turn_set s i n at r = decided_set s i n (filter (λ (x : HeldLatch). not (has_ended s.history x.by)) (met s.history n.id (latches_of s.history n.id))) at r
