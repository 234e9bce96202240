-- What a draft keeps answers the rules over names and sessions.
use Rattle.std.proofs.Common.{◌≡◌, ℕ, zero, suc, Bool, true, false, not, ◌&&◌, cond, eqb, List, [], ◌∷◌, length, get_or, Option, Some, None, refl, sym}
use Rattle.std.proofs.Common.{ap, subst, ◌∙◌, inl, inr, arith, replicate}
use Rattle.std.specs.List.{list_any}
use Rattle.std.specs.Option.{is_some}
use Rattle.std.proofs.lemmas.Bool.{cases_lt, eq-eqb}
use Rattle.std.proofs.lemmas.Bool.Decides.{same_from_decides}
use Rattle.std.proofs.lemmas.List.{length-replicate, get_or-replicate, get_or_past}
use Rattle.script.specs.Commands.{same_name, opens_live, releases, is_used, is_live, is_busy, leaves_live, some_live}
use Rattle.script.specs.Names.{Keeps, Tracks, find, used_in, owned_by, optimistic_in, waited_in, released_in, open_in, opens_for}
use Rattle.script.specs.Scripts.{is_name}
use Rattle.script.specs.declared.command.Command.{Command}
use Rattle.script.specs.declared.command.Command.TheVariants.{Begin, Wait, Check, Poison, Release, Metrics}
use Rattle.script.specs.declared.draft.Draft.{Draft}
use Rattle.script.specs.declared.draft.Opened.{Opened}
use Rattle.script.proofs.Choices.{or_left, or_right, or_cases, and_both, and_parts, false-true}
use Rattle.script.proofs.Busy.{same_is, same_self}

-- ---- no commands

none_either : (b : Bool) → cond {A = Option Opened} b None None ≡ None
none_either true = refl
none_either false = refl

no_name : (d : Draft) → d.opened.entries ≡ [] → (q : List ℕ) → find d q ≡ None
no_name d e q = rw e (none_either (is_name q))

none_false : (s : ℕ) → get_or (replicate 65 false) s false ≡ true → ⊥
none_false s h =
    elim (cases_lt s 65) [
      | inl lt ↦ false-true (sym (get_or-replicate 65 s false false lt) ∙ h)
      | inr le ↦ false-true (sym (get_or_past (replicate 65 false) s false (omega (arith, length-replicate 65 false))) ∙ h)
    ]

pub empty_keeps : (d : Draft) → d.commands.items ≡ [] → d.opened.entries ≡ [] → d.busy ≡ replicate 65 false → Keeps d
empty_keeps d none empty idle = record {
  tracks = subst (λ (cs : List Command). Tracks (find d) cs) (sym none) (record {
    used = λ q. sym (ap used_in (no_name d empty q));
    owner = λ q s. sym (ap (owned_by s) (no_name d empty q));
    optimistic = λ q. sym (ap optimistic_in (no_name d empty q));
    waited = λ q. sym (ap waited_in (no_name d empty q));
    released = λ q. sym (ap released_in (no_name d empty q));
  });
  sessions = record {
    size = ap length idle ∙ length-replicate 65 false;
    some = λ s h. absurd (none_false s (ap (λ (b : List Bool). get_or b s false) (sym idle) ∙ h));
    each = λ s q h. absurd (false-true (sym (ap (open_in s) (no_name d empty q)) ∙ h));
    one = λ s q r hq hr. absurd (false-true (sym (ap (open_in s) (no_name d empty q)) ∙ hq));
  };
}

-- ---- live names and busy sessions

-- A command of ds opens a live name for a session, just where some name is live and some command of ds opens it for that session.
live_some : (cs ds : List Command) (s : ℕ) → list_any (opens_live cs s) ds ≡ true → (q : List ℕ) × (list_any (opens_for s q) ds ≡ true) × (is_live cs q ≡ true)
live_some cs [] s h = absurd (false-true h)
live_some cs (Begin session name mode policy turns latches ∷ ds) s h =
    elim (or_cases ((eqb session s) && is_live cs name) (list_any (opens_live cs s) ds) h) [
      | inl here ↦
          let w = and_parts (eqb session s) (is_live cs name) here in (
            name,
            or_left ((eqb session s) && same_name name name) (list_any (opens_for s name) ds)
                (and_both (eqb session s) (same_name name name) w.0 (same_self name)),
            w.1,
          )
      | inr later ↦
          let w = live_some cs ds s later in
          (w.0, or_right ((eqb session s) && same_name name w.0) (list_any (opens_for s w.0) ds) w.1, w.2)
    ]
live_some cs (Wait name ∷ ds) s h = live_some cs ds s h
live_some cs (Check name latches ∷ ds) s h = live_some cs ds s h
live_some cs (Poison name ∷ ds) s h = live_some cs ds s h
live_some cs (Release name ∷ ds) s h = live_some cs ds s h
live_some cs (Metrics ∷ ds) s h = live_some cs ds s h

live_from : (cs ds : List Command) (s : ℕ) (q : List ℕ) → list_any (opens_for s q) ds ≡ true → is_live cs q ≡ true → list_any (opens_live cs s) ds ≡ true
live_from cs [] s q h live = h
live_from cs (Begin session name mode policy turns latches ∷ ds) s q h live =
    elim (or_cases ((eqb session s) && same_name name q) (list_any (opens_for s q) ds) h) [
      | inl here ↦
          let w = and_parts (eqb session s) (same_name name q) here in
          or_left ((eqb session s) && is_live cs name) (list_any (opens_live cs s) ds)
          (and_both (eqb session s) (is_live cs name) w.0 (ap (is_live cs) (same_is name q w.1) ∙ live))
      | inr later ↦ or_right ((eqb session s) && is_live cs name) (list_any (opens_live cs s) ds) (live_from cs ds s q later live)
    ]
live_from cs (Wait name ∷ ds) s q h live = live_from cs ds s q h live
live_from cs (Check name latches ∷ ds) s q h live = live_from cs ds s q h live
live_from cs (Poison name ∷ ds) s q h live = live_from cs ds s q h live
live_from cs (Release name ∷ ds) s q h live = live_from cs ds s q h live
live_from cs (Metrics ∷ ds) s q h live = live_from cs ds s q h live

-- the same for whichever session
some_from : (cs ds : List Command) (s : ℕ) → list_any (opens_live cs s) ds ≡ true → list_any (leaves_live cs) ds ≡ true
some_from cs [] s h = h
some_from cs (Begin session name mode policy turns latches ∷ ds) s h =
    elim (or_cases ((eqb session s) && is_live cs name) (list_any (opens_live cs s) ds) h) [
      | inl here ↦ or_left (is_live cs name) (list_any (leaves_live cs) ds) (and_parts (eqb session s) (is_live cs name) here).1
      | inr later ↦ or_right (is_live cs name) (list_any (leaves_live cs) ds) (some_from cs ds s later)
    ]
some_from cs (Wait name ∷ ds) s h = some_from cs ds s h
some_from cs (Check name latches ∷ ds) s h = some_from cs ds s h
some_from cs (Poison name ∷ ds) s h = some_from cs ds s h
some_from cs (Release name ∷ ds) s h = some_from cs ds s h
some_from cs (Metrics ∷ ds) s h = some_from cs ds s h

some_session : (cs ds : List Command) → list_any (leaves_live cs) ds ≡ true → (s : ℕ) × (list_any (opens_live cs s) ds ≡ true)
some_session cs [] h = absurd (false-true h)
some_session cs (Begin session name mode policy turns latches ∷ ds) h =
    elim (or_cases (is_live cs name) (list_any (leaves_live cs) ds) h) [
      | inl here ↦ (
        session,
        or_left ((eqb session session) && is_live cs name) (list_any (opens_live cs session) ds)
            (and_both (eqb session session) (is_live cs name) (eq-eqb session session refl) here),
      )
      | inr later ↦
          let w = some_session cs ds later in
          (w.0, or_right ((eqb session w.0) && is_live cs name) (list_any (opens_live cs w.0) ds) w.1)
    ]
some_session cs (Wait name ∷ ds) h = some_session cs ds h
some_session cs (Check name latches ∷ ds) h = some_session cs ds h
some_session cs (Poison name ∷ ds) h = some_session cs ds h
some_session cs (Release name ∷ ds) h = some_session cs ds h
some_session cs (Metrics ∷ ds) h = some_session cs ds h

-- ---- what a draft answers

pub used_is : (d : Draft) (q : List ℕ) → Keeps d → is_used d.commands.items q ≡ used_in (find d q)
used_is d q k = k.tracks.used q

pub live_is : (d : Draft) (q : List ℕ) → Keeps d → is_live d.commands.items q ≡ (used_in (find d q) && not (released_in (find d q)))
live_is d q k = ap (λ (b : Bool). b && not (list_any (releases q) d.commands.items)) (k.tracks.used q)
    ∙ ap (λ (b : Bool). used_in (find d q) && not b) (k.tracks.released q)

open_parts : (s : ℕ) (x : Option Opened) → open_in s x ≡ true → (owned_by s x ≡ true) × ((used_in x && not (released_in x)) ≡ true)
open_parts s None h = absurd (false-true h)
open_parts s (Some o) h = and_parts (eqb o.session s) (not o.released) h

open_from : (s : ℕ) (x : Option Opened) → owned_by s x ≡ true → (used_in x && not (released_in x)) ≡ true → open_in s x ≡ true
open_from s None h live = h
open_from s (Some o) h live = and_both (eqb o.session s) (not o.released) h live

pub busy_is : (d : Draft) (s : ℕ) → Keeps d → is_busy d.commands.items s ≡ get_or d.busy s false
busy_is d s k =
    let cs = d.commands.items in
    same_from_decides {P = (q : List ℕ) × (open_in s (find d q) ≡ true)} (is_busy cs s) (get_or d.busy s false) (
      λ h. let w = live_some cs cs s h in (w.0, open_from s (find d w.0) (sym (k.tracks.owner w.0 s) ∙ w.1) (sym (live_is d w.0 k) ∙ w.2)),
      λ w. let p = open_parts s (find d w.0) w.1 in live_from cs cs s w.0 (k.tracks.owner w.0 s ∙ p.0) (live_is d w.0 k ∙ p.1),
    )
    (λ h. k.sessions.some s h, λ w. k.sessions.each s w.0 w.1)

any_place : (bs : List Bool) → list_any (λ b. b) bs ≡ true → (s : ℕ) × (get_or bs s false ≡ true)
any_place [] h = absurd (false-true h)
any_place (b ∷ bs) h =
    elim (or_cases b (list_any (λ b. b) bs) h) [
      | inl here ↦ (0, here)
      | inr later ↦ let w = any_place bs later in (suc w.0, w.1)
    ]

any_from : (bs : List Bool) (s : ℕ) → get_or bs s false ≡ true → list_any (λ b. b) bs ≡ true
any_from [] s h = absurd (false-true (sym (get_or_past [] s false (omega arith)) ∙ h))
any_from (b ∷ bs) zero h = or_left b (list_any (λ b. b) bs) h
any_from (b ∷ bs) (suc s) h = or_right b (list_any (λ b. b) bs) (any_from bs s h)

pub some_live_is : (d : Draft) → Keeps d → some_live d.commands.items ≡ list_any (λ b. b) d.busy
some_live_is d k =
    let cs = d.commands.items in
    same_from_decides {P = (s : ℕ) × (get_or d.busy s false ≡ true)} (some_live cs) (list_any (λ b. b) d.busy)
    (λ h. let w = some_session cs cs h in (w.0, sym (busy_is d w.0 k) ∙ w.1), λ w. some_from cs cs w.0 (busy_is d w.0 k ∙ w.1))
    (λ h. any_place d.busy h, λ w. any_from d.busy w.0 w.1)

some_used : (x : Option Opened) → used_in x ≡ is_some x
some_used None = refl
some_used (Some o) = refl

-- where something is known of a name, it is used
pub used_some : (d : Draft) (q : List ℕ) (x : Option Opened) → Keeps d → x ≡ find d q → is_used d.commands.items q ≡ is_some x
used_some d q x k e = used_is d q k ∙ some_used (find d q) ∙ ap is_some (sym e)
