-- What is kept of names, after a change at one of them.
use Rattle.std.proofs.Common.{◌≡◌, ℕ, Bool, true, false, cond, eqb, List, Option, Some, None, IsTrue, refl, sym, ap, subst, ◌∙◌}
use Rattle.std.specs.HashMap.{HashMap, get}
use Rattle.std.specs.Option.{option_map, IfSome}
use Rattle.std.specs.Prelude.{nat_eq}
use Rattle.std.proofs.lemmas.Bool.{eqb-true, eq-eqb, false_from_ne_true}
use Rattle.script.specs.Commands.{same_name}
use Rattle.script.specs.Names.{packed}
use Rattle.script.specs.Scripts.{is_name}
use Rattle.script.specs.declared.draft.Opened.{Opened}
use Rattle.script.proofs.Busy.{same_is, same_self}
use Rattle.script.proofs.Choices.{false-true}
use Rattle.script.proofs.Packed.{names_apart}

-- what is kept of a name, where f has it of the name's number
abbrev pub found : {V : Type 0} → (ℕ → Option V) → List ℕ → Option V
found f q = cond (is_name q) (f (packed q)) None

other_number : (name q : List ℕ) → IsTrue (is_name name) → IsTrue (is_name q) → same_name name q ≡ false → eqb (packed name) (packed q) ≡ false
other_number name q ok is other =
    false_from_ne_true (eqb (packed name) (packed q)) (λ e.
    let same : name ≡ q = names_apart name q ok is (eqb-true (packed name) (packed q) e) in
    false-true (sym other ∙ subst (λ (x : List ℕ). same_name name x ≡ true) same (same_self name)))

changed_at : {V : Type 0} (f g : ℕ → Option V) (name : List ℕ) (w : Option V) (b : Bool) → IsTrue (is_name name)
    → ((k : ℕ) → g k ≡ cond (eqb (packed name) k) w (f k)) → (q : List ℕ) → same_name name q ≡ b → found g q ≡ cond b w (found f q)
changed_at f g name w true ok h q e =
    let same : name ≡ q = same_is name q e in
    let number : eqb (packed name) (packed name) ≡ true = eq-eqb (packed name) (packed name) refl in
    let here : g (packed name) ≡ w = h (packed name) ∙ rw number refl in
    let is : found g name ≡ g (packed name) = rw ok refl in
    ap (found g) (sym same) ∙ is ∙ here
changed_at f g name w false ok h q e = by (is_name q) refl
  where
    by : (b : Bool) → is_name q ≡ b → cond b (g (packed q)) None ≡ cond b (f (packed q)) None
    by true is = h (packed q) ∙ rw (other_number name q ok is e) refl
    by false is = refl

-- each name after a change at the number of one
pub changed : {V S T : Type 0} (m : HashMap ℕ V S) (n : HashMap ℕ V T) (key : ℕ) (name : List ℕ) (w : Option V) → key ≡ packed name
    → IsTrue (is_name name)
    → ((k : ℕ) → get nat_eq n k ≡ cond (eqb key k) w (get nat_eq m k))
    → (q : List ℕ) → found (get nat_eq n) q ≡ cond (same_name name q) w (found (get nat_eq m) q)
changed m n key name w e ok h q =
    let at : (k : ℕ) → get nat_eq n k ≡ cond (eqb (packed name) k) w (get nat_eq m k) =
    λ k. h k ∙ ap (λ (x : ℕ). cond (eqb x k) w (get nat_eq m k)) e in
    changed_at (get nat_eq m) (get nat_eq n) name w (same_name name q) ok at q refl

mapped : (f : ℕ → Option Opened) (name q : List ℕ) (t : Opened → Opened) (b : Bool) → IsTrue (is_name name) → same_name name q ≡ b
    → cond b (option_map t (f (packed name))) (found f q) ≡ cond b (option_map t (found f q)) (found f q)
mapped f name q t true ok e =
    let is : found f name ≡ f (packed name) = rw ok refl in
    ap (option_map t) (sym is ∙ ap (found f) (same_is name q e))
mapped f name q t false ok e = refl

-- what is kept of a name stands at its number
pub found_at : {V S : Type 0} (m : HashMap ℕ V S) (key : ℕ) (name : List ℕ) → key ≡ packed name → IsTrue (is_name name)
    → get nat_eq m key ≡ found (get nat_eq m) name
found_at m key name e ok =
    let is : found (get nat_eq m) name ≡ get nat_eq m (packed name) = rw ok refl in
    ap (get nat_eq m) e ∙ sym is

-- each name after what is kept of one was changed by t
pub changed_by : {S T : Type 0} (m : HashMap ℕ Opened S) (n : HashMap ℕ Opened T) (key : ℕ) (name : List ℕ) (t : Opened → Opened) → key ≡ packed name
    → IsTrue (is_name name)
    → ((k : ℕ) → get nat_eq n k ≡ cond (eqb key k) (option_map t (get nat_eq m key)) (get nat_eq m k))
    → (q : List ℕ) → found (get nat_eq n) q ≡ cond (same_name name q) (option_map t (found (get nat_eq m) q)) (found (get nat_eq m) q)
changed_by m n key name t e ok h q =
    changed m n key name (option_map t (get nat_eq m key)) e ok h q
    ∙ ap (λ (x : ℕ). cond (same_name name q) (option_map t (get nat_eq m x)) (found (get nat_eq m) q)) e
    ∙ mapped (get nat_eq m) name q t (same_name name q) ok refl

-- ---- a map of numbers after one entry was written through what `get_mut` lent, or where there was none to lend

pub marked : {S T : Type 0} (m : HashMap ℕ Opened S) (n : HashMap ℕ Opened T) (key : ℕ) (t : Opened → Opened) (o : Opened) → get nat_eq m key ≡ Some o
    → ((k : ℕ) → get nat_eq n k ≡ cond (eqb key k) (Some (t o)) (get nat_eq m k))
    → (k : ℕ) → get nat_eq n k ≡ cond (eqb key k) (option_map t (get nat_eq m key)) (get nat_eq m k)
marked m n key t o e h k = h k ∙ ap (λ (x : Option Opened). cond (eqb key k) (option_map t x) (get nat_eq m k)) (sym e)

-- ---- the session of a name that is kept

some_session : (x : Option Opened) (w : ℕ) (P : ℕ → Type 0) → Some w ≡ option_map (λ (o : Opened). o.session) x → P w → IfSome x (λ (o : Opened). P o.session)
some_session None w P e p = tt
some_session (Some o) w P e p = let same : w ≡ o.session = cc in subst P same p

session_some : (x : Option Opened) (w : ℕ) (P : ℕ → Type 0) → Some w ≡ option_map (λ (o : Opened). o.session) x → IfSome x (λ (o : Opened). P o.session) → P w
session_some None w P e p = absurd cc
session_some (Some o) w P e p = let same : o.session ≡ w = cc in subst P same p

no_session : (x : Option Opened) (P : Opened → Type 0) → None ≡ option_map (λ (o : Opened). o.session) x → IfSome x P
no_session None P e = tt
no_session (Some o) P e = absurd cc

pub kept_session : {S : Type 0} (m : HashMap ℕ Opened S) (key : ℕ) (name : List ℕ) (w : ℕ) (P : ℕ → Type 0) → key ≡ packed name → IsTrue (is_name name)
    → Some w ≡ option_map (λ (o : Opened). o.session) (get nat_eq m key) → P w → IfSome (found (get nat_eq m) name) (λ (o : Opened). P o.session)
kept_session m key name w P e ok is p =
    subst (λ (x : Option Opened). IfSome x (λ (o : Opened). P o.session)) (found_at m key name e ok) (some_session (get nat_eq m key) w P is p)

pub session_kept : {S : Type 0} (m : HashMap ℕ Opened S) (key : ℕ) (name : List ℕ) (w : ℕ) (P : ℕ → Type 0) → key ≡ packed name → IsTrue (is_name name)
    → Some w ≡ option_map (λ (o : Opened). o.session) (get nat_eq m key) → IfSome (found (get nat_eq m) name) (λ (o : Opened). P o.session) → P w
session_kept m key name w P e ok is p =
    session_some (get nat_eq m key) w P is (subst (λ (x : Option Opened). IfSome x (λ (o : Opened). P o.session)) (sym (found_at m key name e ok)) p)

pub no_kept_session : {S : Type 0} (m : HashMap ℕ Opened S) (key : ℕ) (name : List ℕ) (P : Opened → Type 0) → key ≡ packed name → IsTrue (is_name name)
    → None ≡ option_map (λ (o : Opened). o.session) (get nat_eq m key) → IfSome (found (get nat_eq m) name) P
no_kept_session m key name P e ok is = subst (λ (x : Option Opened). IfSome x P) (found_at m key name e ok) (no_session (get nat_eq m key) P is)
