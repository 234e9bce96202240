-- In a script each name is opened once; so a command on a name is one of the session that opened the name in front of it, and of no other.
use Rattle.std.proofs.Common.{◌≡◌, ℕ, suc, ◌<◌, ◌==◌, Bool, true, false, not, cond, List, [], ◌∷◌, take, slice_get, Option, Some, None}
use Rattle.std.proofs.Common.{refl, sym, ◌∙◌, ap, arith, inl, inr}
use Rattle.std.specs.List.{list_any}
use Rattle.std.proofs.lemmas.Bool.{cases_lt, eq-eqb, eqb-true, false_from_ne_true}
use Rattle.latch_model.specs.declared.latch.Latch.{Latch}
use Rattle.latch_model.specs.declared.latch.Mode.{Mode}
use Rattle.latch_model.specs.declared.latch.Policy.{Policy}
use Rattle.latch_model.proofs.Growing.{list_any-prefix}
use Rattle.latch_model.proofs.Lists.{In, In-take, list_any-In}
use Rattle.latch_model.proofs.Members.{list_any_of}
use Rattle.script.specs.Commands.{is_busy, is_checkable, is_live, is_used, live_cause, opens, opens_for, releases, rule_cause, same_name}
use Rattle.script.specs.Follows.{is_of}
use Rattle.script.specs.Scripts.{IsScript}
use Rattle.script.specs.declared.command.Command.{Command}
use Rattle.script.specs.declared.command.Command.TheVariants.{Begin, Wait, Check, Poison, Release, Metrics}
use Rattle.script.proofs.Busy.{same_is}
use Rattle.script.proofs.Choices.{and_parts, false-true}

-- a live name is used
pub live_used : (cs : List Command) (n : List ℕ) → is_live cs n ≡ true → is_used cs n ≡ true
live_used cs n e = (and_parts (is_used cs n) (not (list_any (releases n) cs)) e).0

pub opens_used : (w : ℕ) (n : List ℕ) (c : Command) → opens_for w n c ≡ true → opens n c ≡ true
opens_used w n (Begin session name mode policy turns latches) e = (and_parts (session == w) (same_name name n) e).1
opens_used w n (Wait name) e = cc
opens_used w n (Check name latches) e = cc
opens_used w n (Poison name) e = cc
opens_used w n (Release name) e = cc
opens_used w n Metrics e = cc

-- ---- what the rules say of a command

pub opening_rules : (cs : List Command) (session : ℕ) (name : List ℕ) (mode : Mode) (policy : Policy) (turns : Option ℕ) (latches : List Latch) →
    rule_cause cs (Begin session name mode policy turns latches) ≡ None → (is_busy cs session ≡ false) × (is_used cs name ≡ false)
opening_rules cs session name mode policy turns latches e = by (is_busy cs session) (is_used cs name) e
  where
    by : (x y : Bool) → cond {A = Option ℕ} x (Some 12) (cond {A = Option ℕ} y (Some 13) None) ≡ None → (x ≡ false) × (y ≡ false)
    by true y f = cc
    by false true f = cc
    by false false f = (refl, refl)

live_rule : (cs : List Command) (n : List ℕ) → live_cause cs n ≡ None → is_live cs n ≡ true
live_rule cs n e = by (is_live cs n) e
  where
    by : (x : Bool) → cond {A = Option ℕ} x None (Some 14) ≡ None → x ≡ true
    by true f = refl
    by false f = cc

check_rule : (cs : List Command) (n : List ℕ) (latches : List Latch) → rule_cause cs (Check n latches) ≡ None → is_live cs n ≡ true
check_rule cs n latches e = by (is_live cs n) (is_checkable cs n) e
  where
    by : (x y : Bool) → cond {A = Option ℕ} x (cond {A = Option ℕ} y None (Some 15)) (Some 14) ≡ None → x ≡ true
    by true y f = refl
    by false y f = cc

-- A command on this name: not an opening, and not `metrics`.
abbrev pub IsOn : List ℕ → Command → Type 0
IsOn n (Begin session name mode policy turns latches) = ⊥
IsOn n (Wait name) = name ≡ n
IsOn n (Check name latches) = name ≡ n
IsOn n (Poison name) = name ≡ n
IsOn n (Release name) = name ≡ n
IsOn n Metrics = ⊥

pub on_rule : (cs : List Command) (n : List ℕ) (c : Command) → IsOn n c → rule_cause cs c ≡ None → is_live cs n ≡ true
on_rule cs n (Begin session name mode policy turns latches) on e = absurd on
on_rule cs n (Wait name) on e = ap (is_live cs) (sym on) ∙ live_rule cs name e
on_rule cs n (Check name latches) on e = ap (is_live cs) (sym on) ∙ check_rule cs name latches e
on_rule cs n (Poison name) on e = ap (is_live cs) (sym on) ∙ live_rule cs name e
on_rule cs n (Release name) on e = ap (is_live cs) (sym on) ∙ live_rule cs name e
on_rule cs n Metrics on e = absurd on

pub is_of_on : (cs : List Command) (w : ℕ) (n : List ℕ) (c : Command) → IsOn n c → is_of cs w c ≡ list_any (opens_for w n) cs
is_of_on cs w n (Begin session name mode policy turns latches) on = absurd on
is_of_on cs w n (Wait name) on = ap (λ (m : List ℕ). list_any (opens_for w m) cs) on
is_of_on cs w n (Check name latches) on = ap (λ (m : List ℕ). list_any (opens_for w m) cs) on
is_of_on cs w n (Poison name) on = ap (λ (m : List ℕ). list_any (opens_for w m) cs) on
is_of_on cs w n (Release name) on = ap (λ (m : List ℕ). list_any (opens_for w m) cs) on
is_of_on cs w n Metrics on = absurd on

-- ---- in a script

pub In-place : {X : Type 0} (xs : List X) (x : X) → In x xs → (k : ℕ) × (slice_get xs k ≡ Some x)
In-place [] x h = absurd h
In-place (y ∷ ys) x (inl e) = (0, ap Some e)
In-place (y ∷ ys) x (inr h) = let w = In-place ys x h in (suc w.0, w.1)

-- a name wasn't used in front of its opening
pub unused_at : (cs : List Command) → IsScript cs → (w : ℕ) (n : List ℕ) (c : Command) (k : ℕ) → slice_get cs k ≡ Some c → opens_for w n c ≡ true
    → is_used (take k cs) n ≡ false
unused_at cs s w n (Begin session name mode policy turns latches) k at e =
    let parts = and_parts (session == w) (same_name name n) e in
    ap (is_used (take k cs)) (sym (same_is name n parts.1))
    ∙ (opening_rules (take k cs) session name mode policy turns latches (s.rules k (Begin session name mode policy turns latches) at)).1
unused_at cs s w n (Wait name) k at e = cc
unused_at cs s w n (Check name latches) k at e = cc
unused_at cs s w n (Poison name) k at e = cc
unused_at cs s w n (Release name) k at e = cc
unused_at cs s w n Metrics k at e = cc

-- one command opens a name for one session
opener_is : (v w : ℕ) (n : List ℕ) (c : Command) → opens_for v n c ≡ true → opens_for w n c ≡ true → v ≡ w
opener_is v w n (Begin session name mode policy turns latches) e f =
    sym (eqb-true session v (and_parts (session == v) (same_name name n) e).0) ∙ eqb-true session w (and_parts (session == w) (same_name name n) f).0
opener_is v w n (Wait name) e f = cc
opener_is v w n (Check name latches) e f = cc
opener_is v w n (Poison name) e f = cc
opener_is v w n (Release name) e f = cc
opener_is v w n Metrics e f = cc

module _ (cs : List Command) (s : IsScript cs) (n : List ℕ) where
  -- an opening of the name isn't followed by another
  opened_before : (v w : ℕ) (c d : Command) (j k : ℕ) → slice_get cs j ≡ Some c → slice_get cs k ≡ Some d → opens_for v n c ≡ true → opens_for w n d ≡ true
      → j < k → ⊥
  opened_before v w c d j k at_c at_d e f lt =
      false-true (sym (unused_at cs s w n d k at_d f) ∙ list_any-In (opens n) (take k cs) c (In-take cs j k c at_c lt) (opens_used v n c e))

  same_command : (c d : Command) (j k : ℕ) → slice_get cs j ≡ Some c → slice_get cs k ≡ Some d → j ≡ k → c ≡ d
  same_command c d j k at_c at_d e = by (sym at_c ∙ (ap (slice_get cs) e ∙ at_d))
    where
      by : Some c ≡ Some d → c ≡ d
      by f = cc

  pub opener-one : (v w : ℕ) → list_any (opens_for v n) cs ≡ true → list_any (opens_for w n) cs ≡ true → v ≡ w
  opener-one v w e f =
      let c = list_any_of (opens_for v n) cs e in
      let d = list_any_of (opens_for w n) cs f in
      let j = In-place cs c.0 c.1 in
      let k = In-place cs d.0 d.1 in
      elim (cases_lt j.0 k.0) [
        | inl lt ↦ absurd (opened_before v w c.0 d.0 j.0 k.0 j.1 k.1 c.2 d.2 lt)
        | inr le ↦ elim (cases_lt k.0 j.0) [
          | inl lt ↦ absurd (opened_before w v d.0 c.0 k.0 j.0 k.1 j.1 d.2 c.2 lt)
          | inr ge ↦
              let same : j.0 ≡ k.0 = omega arith in
              opener_is v w n c.0 c.2 (ap (opens_for w n) (same_command c.0 d.0 j.0 k.0 j.1 k.1 same) ∙ d.2)
        ]
      ]

  -- a command on a name that session v opened in front of it
  pub of-opener : (i v : ℕ) (c : Command) → IsOn n c → list_any (opens_for v n) (take i cs) ≡ true → (w : ℕ) → is_of cs w c ≡ (v == w)
  of-opener i v c on opened w = is_of_on cs w n c on ∙ by (v == w) refl
    where
      there : list_any (opens_for v n) cs ≡ true
      there = list_any-prefix (opens_for v n) cs i opened

      by : (b : Bool) → (v == w) ≡ b → list_any (opens_for w n) cs ≡ b
      by true e = ap (λ (x : ℕ). list_any (opens_for x n) cs) (sym (eqb-true v w e)) ∙ there
      by false e = false_from_ne_true (list_any (opens_for w n) cs) (λ f. false-true (sym e ∙ eq-eqb v w (opener-one v w there f)))
