-- Which sessions have a live name, command by command.
use Rattle.std.proofs.Common.{◌≡◌, ◌≢◌, ℕ, ◌<◌, ◌⊎◌, Bool, true, false, not, cond, eqb, List, length, get_or, set, Option, Some, None, refl, sym, ap}
use Rattle.std.proofs.Common.{subst, ◌∙◌, inl, inr, arith}
use Rattle.std.specs.Option.{option_map}
use Rattle.std.proofs.lemmas.Bool.{eqb-true, eq-eqb, cases_lt}
use Rattle.std.proofs.lemmas.Bool.Decides.{eqb_tells}
use Rattle.std.proofs.lemmas.List.{get_or-set_same, get_or-set_other, length-set, get_or_past}
use Rattle.std.proofs.lemmas.Slice.Eq.{bytes_eq-Decides}
use Rattle.script.specs.Commands.{same_name}
use Rattle.script.specs.Names.{Sessions, open_in, with_wait, with_release}
use Rattle.script.specs.declared.draft.Opened.{Opened}
use Rattle.script.proofs.Choices.{and_both, and_parts, chosen, false-true}

pub same_is : (a b : List ℕ) → same_name a b ≡ true → a ≡ b
same_is a b e = (bytes_eq-Decides a b).0 e

pub same_self : (a : List ℕ) → same_name a a ≡ true
same_self a = (bytes_eq-Decides a a).1 refl

abbrev is_open : ℕ → Option Opened → Type 0
is_open s x = open_in s x ≡ true

-- what a table has at a place that was written, and at each other
at_place : (busy : List Bool) (i s : ℕ) (b : Bool) → i < length busy → s ≡ i → get_or (set busy i b) s false ≡ b
at_place busy i s b lt e = rw e (get_or-set_same busy i b false lt)

places : (s i : ℕ) → (s ≡ i) ⊎ (s ≢ i)
places s i = elim (eqb_tells s i) [ inl h ↦ inl h.1 | inr h ↦ inr h.1 ]

below : (busy : List Bool) (s : ℕ) → get_or busy s false ≡ true → s < length busy
below busy s e =
    elim (cases_lt s (length busy)) [ inl lt ↦ lt | inr le ↦ absurd (false-true (sym (get_or_past busy s false le) ∙ e)) ]

pub keep_sessions : (old new : List ℕ → Option Opened) (busy : List Bool) → ((s : ℕ) (q : List ℕ) → open_in s (new q) ≡ open_in s (old q)) → Sessions old busy
    → Sessions new busy
keep_sessions old new busy same k = record {
  size = k.size;
  some = λ s h. let w = k.some s h in (w.0, same s w.0 ∙ w.1);
  each = λ s q h. k.each s q (sym (same s q) ∙ h);
  one = λ s q r hq hr. k.one s q r (sym (same s q) ∙ hq) (sym (same s r) ∙ hr);
}

-- ---- an opening

-- a name of the new table is the one that was opened, or it is as before
abbrev Either : (List ℕ → Option Opened) → (List ℕ → Option Opened) → List ℕ → Option Opened → List ℕ → Type 0
Either old new name x q = ((q ≡ name) × (new q ≡ x)) ⊎ ((same_name name q ≡ false) × (new q ≡ old q))

either : (old new : List ℕ → Option Opened) (name : List ℕ) (x : Option Opened) (q : List ℕ) → new q ≡ cond (same_name name q) x (old q)
    → Either old new name x q
either old new name x q e =
    elim (chosen (same_name name q) x (old q) (new q) e) [ inl h ↦ inl (sym (same_is name q h.0), h.1) | inr h ↦ inr h ]

open_along : (s : ℕ) (x y : Option Opened) → x ≡ y → is_open s x → is_open s y
open_along s x y e h = ap (open_in s) (sym e) ∙ h

session_is : (s : ℕ) (o : Opened) → is_open s (Some o) → s ≡ o.session
session_is s o h = sym (eqb-true o.session s (and_parts (eqb o.session s) (not o.released) h).0)

opened_so : (o : Opened) → o.released ≡ false → is_open o.session (Some o)
opened_so o e = and_both (eqb o.session o.session) (not o.released) (eq-eqb o.session o.session refl) (ap not e)

-- what opening a name changes
pub record Opens (old new : List ℕ → Option Opened) (busy : List Bool) (name : List ℕ) (o : Opened) : Type 0 where
  pub was : Sessions old busy
  pub is : (q : List ℕ) → new q ≡ cond (same_name name q) (Some o) (old q)
  pub none : old name ≡ None
  pub idle : get_or busy o.session false ≡ false
  pub low : o.session < 65
  pub fresh : o.released ≡ false

some_opened : {old new : List ℕ → Option Opened} {busy : List Bool} {name : List ℕ} {o : Opened} → Opens old new busy name o → (s : ℕ)
    → get_or (set busy o.session true) s false ≡ true
    → (q : List ℕ) × is_open s (new q)
some_opened {old} {new} {busy} {name} {o} k s h =
    elim (places s o.session) [
      | inl e ↦ (
        name,
        ap (open_in s) (k.is name ∙ ap (λ (b : Bool). cond b (Some o) (old name)) (same_self name)) ∙ ap (λ (x : ℕ). open_in x (Some o)) e
            ∙ opened_so o k.fresh,
      )
      | inr ne ↦
          let w = k.was.some s (sym (get_or-set_other busy o.session s true false ne) ∙ h) in
          elim (either old new name (Some o) w.0 (k.is w.0)) [
            | inl p ↦ absurd (false-true (open_along s (old w.0) None (ap old p.0 ∙ k.none) w.1))
            | inr p ↦ (w.0, open_along s (old w.0) (new w.0) (sym p.1) w.1)
          ]
    ]

each_opened : {old new : List ℕ → Option Opened} {busy : List Bool} {name : List ℕ} {o : Opened} → Opens old new busy name o → (s : ℕ) (q : List ℕ)
    → is_open s (new q)
    → get_or (set busy o.session true) s false ≡ true
each_opened {old} {new} {busy} {name} {o} k s q h =
    let lt : o.session < length busy = omega (arith, k.was.size, k.low) in
    elim (places s o.session) [
      | inl e ↦ at_place busy o.session s true lt e
      | inr ne ↦ elim (either old new name (Some o) q (k.is q)) [
        | inl p ↦ absurd (ne (session_is s o (open_along s (new q) (Some o) p.1 h)))
        | inr p ↦ get_or-set_other busy o.session s true false ne ∙ k.was.each s q (open_along s (new q) (old q) p.1 h)
      ]
    ]

-- no name that was there before is open for the session of the new one
taken : {old new : List ℕ → Option Opened} {busy : List Bool} {name : List ℕ} {o : Opened} → Opens old new busy name o → (s : ℕ) (q : List ℕ) → s ≡ o.session
    → is_open s (old q) → ⊥
taken {old} {new} {busy} {name} {o} k s q e h = false-true (sym k.idle ∙ ap (λ (x : ℕ). get_or busy x false) (sym e) ∙ k.was.each s q h)

one_opened : {old new : List ℕ → Option Opened} {busy : List Bool} {name : List ℕ} {o : Opened} → Opens old new busy name o → (s : ℕ) (q r : List ℕ)
    → is_open s (new q) → is_open s (new r) → q ≡ r
one_opened {old} {new} {busy} {name} {o} k s q r hq hr =
    elim (either old new name (Some o) q (k.is q)) [
      | inl p ↦ elim (either old new name (Some o) r (k.is r)) [
        | inl t ↦ p.0 ∙ sym t.0
        | inr t ↦ absurd (taken k s r (session_is s o (open_along s (new q) (Some o) p.1 hq)) (open_along s (new r) (old r) t.1 hr))
      ]
      | inr p ↦ elim (either old new name (Some o) r (k.is r)) [
        | inl t ↦ absurd (taken k s q (session_is s o (open_along s (new r) (Some o) t.1 hr)) (open_along s (new q) (old q) p.1 hq))
        | inr t ↦ k.was.one s q r (open_along s (new q) (old q) p.1 hq) (open_along s (new r) (old r) t.1 hr)
      ]
    ]

pub open_sessions : {old new : List ℕ → Option Opened} {busy : List Bool} {name : List ℕ} {o : Opened} → Opens old new busy name o
    → Sessions new (set busy o.session true)
open_sessions {old} {new} {busy} {name} {o} k = record {
  size = length-set busy o.session true ∙ k.was.size;
  some = λ s h. some_opened k s h;
  each = λ s q h. each_opened k s q h;
  one = λ s q r hq hr. one_opened k s q r hq hr;
}

-- ---- a wait

open_waits : (s : ℕ) (x : Option Opened) → open_in s (option_map with_wait x) ≡ open_in s x
open_waits s None = refl
open_waits s (Some o) = refl

pub wait_sessions : (old new : List ℕ → Option Opened) (busy : List Bool) (name : List ℕ)
    → ((q : List ℕ) → new q ≡ cond (same_name name q) (option_map with_wait (old q)) (old q)) → Sessions old busy → Sessions new busy
wait_sessions old new busy name is k =
    keep_sessions old new busy (λ s q. elim (chosen (same_name name q) (option_map with_wait (old q)) (old q) (new q) (is q)) [
      | inl p ↦ ap (open_in s) p.1 ∙ open_waits s (old q)
      | inr p ↦ ap (open_in s) p.1
    ]) k

-- ---- a release

-- what releasing a live name changes
pub record Ends (old new : List ℕ → Option Opened) (busy : List Bool) (name : List ℕ) (o : Opened) : Type 0 where
  pub was : Sessions old busy
  pub is : (q : List ℕ) → new q ≡ cond (same_name name q) (option_map with_release (old q)) (old q)
  pub some : old name ≡ Some o
  pub live : o.released ≡ false

not_open : (s : ℕ) (x : Option Opened) → is_open s (option_map with_release x) → ⊥
not_open s None h = false-true h
not_open s (Some o) h = false-true (and_parts (eqb o.session s) false h).1

-- a name that is open afterwards is another one, and was open before
other : {old new : List ℕ → Option Opened} {busy : List Bool} {name : List ℕ} {o : Opened} → Ends old new busy name o → (s : ℕ) (q : List ℕ)
    → is_open s (new q) → (same_name name q ≡ false) × is_open s (old q)
other {old} {new} {busy} {name} {o} k s q h =
    elim (chosen (same_name name q) (option_map with_release (old q)) (old q) (new q) (k.is q)) [
      | inl p ↦ absurd (not_open s (old q) (open_along s (new q) (option_map with_release (old q)) p.1 h))
      | inr p ↦ (p.0, open_along s (new q) (old q) p.1 h)
    ]

mine_open : {old new : List ℕ → Option Opened} {busy : List Bool} {name : List ℕ} {o : Opened} → Ends old new busy name o → is_open o.session (old name)
mine_open {old} {new} {busy} {name} {o} k = open_along o.session (Some o) (old name) (sym k.some) (opened_so o k.live)

pub session_low : {old new : List ℕ → Option Opened} {busy : List Bool} {name : List ℕ} {o : Opened} → Ends old new busy name o → o.session < length busy
session_low {old} {new} {busy} {name} {o} k = below busy o.session (k.was.each o.session name (mine_open k))

some_ended : {old new : List ℕ → Option Opened} {busy : List Bool} {name : List ℕ} {o : Opened} → Ends old new busy name o → (s : ℕ)
    → get_or (set busy o.session false) s false ≡ true
    → (q : List ℕ) × is_open s (new q)
some_ended {old} {new} {busy} {name} {o} k s h =
    elim (places s o.session) [
      | inl e ↦ absurd (false-true (sym (at_place busy o.session s false (session_low k) e) ∙ h))
      | inr ne ↦
          let w = k.was.some s (sym (get_or-set_other busy o.session s false false ne) ∙ h) in
          elim (chosen (same_name name w.0) (option_map with_release (old w.0)) (old w.0) (new w.0) (k.is w.0)) [
            | inl p ↦ absurd (ne (session_is s o (open_along s (old w.0) (Some o) (ap old (sym (same_is name w.0 p.0)) ∙ k.some) w.1)))
            | inr p ↦ (w.0, open_along s (old w.0) (new w.0) (sym p.1) w.1)
          ]
    ]

each_ended : {old new : List ℕ → Option Opened} {busy : List Bool} {name : List ℕ} {o : Opened} → Ends old new busy name o → (s : ℕ) (q : List ℕ)
    → is_open s (new q)
    → get_or (set busy o.session false) s false ≡ true
each_ended {old} {new} {busy} {name} {o} k s q h =
    let w = other k s q h in
    elim (places s o.session) [
      | inl e ↦
          let same : name ≡ q = k.was.one o.session name q (mine_open k) (subst (λ (x : ℕ). is_open x (old q)) e w.1) in
          absurd (false-true (sym w.0 ∙ ap (same_name name) (sym same) ∙ same_self name))
      | inr ne ↦ get_or-set_other busy o.session s false false ne ∙ k.was.each s q w.1
    ]

pub end_sessions : {old new : List ℕ → Option Opened} {busy : List Bool} {name : List ℕ} {o : Opened} → Ends old new busy name o
    → Sessions new (set busy o.session false)
end_sessions {old} {new} {busy} {name} {o} k = record {
  size = length-set busy o.session false ∙ k.was.size;
  some = λ s h. some_ended k s h;
  each = λ s q h. each_ended k s q h;
  one = λ s q r hq hr. k.was.one s q r (other k s q hq).1 (other k s r hr).1;
}
