-- In a script a session has at most one live name, and its commands on names are those on its live name.
use Rattle.std.proofs.Common.{◌≡◌, ℕ, ◌+◌, ◌<◌, ◌&&◌, ◌||◌, ◌==◌, Bool, true, false, not, List, [], ◌∷◌, ◌++◌, take, slice_get}
use Rattle.std.proofs.Common.{Option, Some, None, refl, sym, ◌∙◌, ap, subst, arith, inl, inr}
use Rattle.std.specs.List.{list_any}
use Rattle.std.proofs.lemmas.Bool.{cases_lt, eq-eqb, false_from_ne_true}
use Rattle.std.proofs.lemmas.List.Folds.{list_any-append}
use Rattle.latch_model.specs.declared.latch.Latch.{Latch}
use Rattle.latch_model.specs.declared.latch.Mode.{Mode}
use Rattle.latch_model.specs.declared.latch.Policy.{Policy}
use Rattle.latch_model.proofs.Growing.{list_any-prefix}
use Rattle.latch_model.proofs.Lists.{In-take, list_any-In, list_any-take}
use Rattle.latch_model.proofs.Members.{list_any_of, place-In, take_next}
use Rattle.script.specs.Commands.{is_busy, is_live, is_used, leaves_live, opens, opens_for, opens_live, releases}
use Rattle.script.specs.Commands.{same_name}
use Rattle.script.specs.Follows.{is_of}
use Rattle.script.specs.Scripts.{IsScript}
use Rattle.script.specs.declared.command.Command.{Command}
use Rattle.script.specs.declared.command.Command.TheVariants.{Begin, Wait, Check, Poison, Release, Metrics}
use Rattle.script.proofs.Busy.{same_is, same_self}
use Rattle.script.proofs.Choices.{and_both, and_parts, false-true}
use Rattle.script.proofs.Openers.{In-place, IsOn, is_of_on, live_used, on_rule, opening_rules, opens_used, unused_at}
use Rattle.replay.specs.Blocks.{IsLiveOf, LiveName}

-- ---- tests of one command more

some-more : (p : Command → Bool) (cs : List Command) (c : Command) → list_any p (cs ++ c ∷ []) ≡ (list_any p cs || p c)
some-more p cs c = list_any-append p cs (c ∷ []) ∙ ap (λ (x : Bool). list_any p cs || x) (or_false (p c))
  where
    or_false : (x : Bool) → (x || false) ≡ x
    or_false true = refl
    or_false false = refl

-- one that fails the test changes nothing
quiet : (p : Command → Bool) (cs : List Command) (c : Command) → p c ≡ false → list_any p (cs ++ c ∷ []) ≡ list_any p cs
quiet p cs c e = some-more p cs c ∙ by (list_any p cs) (p c) e
  where
    by : (x y : Bool) → y ≡ false → (x || y) ≡ x
    by true y f = refl
    by false y f = f

passes : (p : Command → Bool) (cs : List Command) (c : Command) → p c ≡ true → list_any p (cs ++ c ∷ []) ≡ true
passes p cs c e = some-more p cs c ∙ by (list_any p cs) (p c) e
  where
    by : (x y : Bool) → y ≡ true → (x || y) ≡ true
    by true y f = refl
    by false y f = f

-- of a name that a command neither opens nor releases all stays
module _ (cs : List Command) (w : ℕ) (c : Command) (n : List ℕ) (opened : opens n c ≡ false) (released : releases n c ≡ false) (by_it : opens_for w n c ≡ false)
  where
    live-same : is_live (cs ++ c ∷ []) n ≡ is_live cs n
    live-same =
        ap (λ (x : Bool). x && not (list_any (releases n) (cs ++ c ∷ []))) (quiet (opens n) cs c opened)
        ∙ ap (λ (x : Bool). is_used cs n && not x) (quiet (releases n) cs c released)

    live_of-older : IsLiveOf (cs ++ c ∷ []) w n → IsLiveOf cs w n
    live_of-older l = (sym live-same ∙ l.0, sym (quiet (opens_for w n) cs c by_it) ∙ l.1)

    live_of-newer : IsLiveOf cs w n → IsLiveOf (cs ++ c ∷ []) w n
    live_of-newer l = (live-same ∙ l.0, quiet (opens_for w n) cs c by_it ∙ l.1)

-- ---- a session with a live name is busy

opens_name : (w : ℕ) (n : List ℕ) (cs : List Command) (c : Command) → is_live cs n ≡ true → opens_for w n c ≡ true → opens_live cs w c ≡ true
opens_name w n cs (Begin session name mode policy turns latches) live e =
    let parts = and_parts (session == w) (same_name name n) e in
    and_both (session == w) (is_live cs name) parts.0 (ap (is_live cs) (same_is name n parts.1) ∙ live)
opens_name w n cs (Wait name) live e = cc
opens_name w n cs (Check name latches) live e = cc
opens_name w n cs (Poison name) live e = cc
opens_name w n cs (Release name) live e = cc
opens_name w n cs Metrics live e = cc

live_busy : (cs : List Command) (w : ℕ) (n : List ℕ) → IsLiveOf cs w n → is_busy cs w ≡ true
live_busy cs w n l =
    let c = list_any_of (opens_for w n) cs l.1 in
    list_any-In (opens_live cs w) cs c.0 c.1 (opens_name w n cs c.0 l.0 c.2)

opened_used : (cs : List Command) (w : ℕ) (n : List ℕ) → list_any (opens_for w n) cs ≡ true → is_used cs n ≡ true
opened_used cs w n e =
    let c = list_any_of (opens_for w n) cs e in
    list_any-In (opens n) cs c.0 c.1 (opens_used w n c.0 c.2)

-- a release of a name is a command on it
releases_on : (n : List ℕ) (c : Command) → releases n c ≡ true → IsOn n c
releases_on n (Begin session name mode policy turns latches) e = cc
releases_on n (Wait name) e = cc
releases_on n (Check name latches) e = cc
releases_on n (Poison name) e = cc
releases_on n (Release name) e = same_is name n e
releases_on n Metrics e = cc

-- ---- in a script

module _ (cs : List Command) (s : IsScript cs) where
  -- a name that isn't used was never released
  unused-unreleased : (i : ℕ) (n : List ℕ) → is_used (take i cs) n ≡ false → list_any (releases n) (take i cs) ≡ false
  unused-unreleased i n none =
      false_from_ne_true (list_any (releases n) (take i cs)) (λ e.
      let at = list_any_of (releases n) (take i cs) e in
      let k = place-In cs i at.0 at.1 in
      let lt : k.0 < i = k.1 in
      let live = on_rule (take k.0 cs) n at.0 (releases_on n at.0 at.2) (s.rules k.0 at.0 k.2) in
      false-true (sym none ∙ list_any-take (opens n) cs k.0 i (omega arith) (live_used (take k.0 cs) n live)))

  module _ (i w : ℕ) (c : Command) (at : slice_get cs i ≡ Some c) where
    abbrev front : List Command
    front = take i cs

    -- a command on the live name of a session is one of the session
    pub on_live-is_own : (n : List ℕ) → IsOn n c → IsLiveOf front w n → is_of cs w c ≡ true
    on_live-is_own n on l = is_of_on cs w n c on ∙ list_any-prefix (opens_for w n) cs i l.1

    -- one on another name is of another
    pub on_other-is_not : (n : List ℕ) → IsOn n c → (IsLiveOf front w n → ⊥) → is_of cs w c ≡ false
    on_other-is_not n on other =
        is_of_on cs w n c on
        ∙ false_from_ne_true (list_any (opens_for w n) cs) (λ e.
        let o = list_any_of (opens_for w n) cs e in
        let live = on_rule front n c on (s.rules i c at) in
        let j = In-place cs o.0 o.1 in
        elim (cases_lt j.0 i) [
          | inl lt ↦ other (live, list_any-In (opens_for w n) front o.0 (In-take cs j.0 i o.0 j.1 lt) o.2)
          | inr le ↦ false-true (sym (unused_at cs s w n o.0 j.0 j.1 o.2) ∙ list_any-take (opens n) cs i j.0 le (live_used front n live))
        ])

    -- ---- the live name of a session, one command further

    abbrev next : List Command
    next = take (i + 1) cs

    next_is : next ≡ front ++ c ∷ []
    next_is = take_next cs i c at

    -- what is live of the session then was it before, unless it is opened now
    older : (n : List ℕ) → opens_for w n c ≡ false → IsLiveOf (front ++ c ∷ []) w n → IsLiveOf front w n
    older n by_it l =
        let opened : list_any (opens_for w n) front ≡ true = sym (quiet (opens_for w n) front c by_it) ∙ l.1 in
        let parts = and_parts (is_used (front ++ c ∷ []) n) (not (list_any (releases n) (front ++ c ∷ []))) l.0 in (
          and_both (is_used front n) (not (list_any (releases n) front)) (opened_used front w n opened)
              (unreleased (list_any (releases n) front) (releases n c) (ap not (sym (some-more (releases n) front c)) ∙ parts.1)),
          opened,
        )
      where
        unreleased : (x y : Bool) → not (x || y) ≡ true → not x ≡ true
        unreleased true y e = cc
        unreleased false y e = refl

    newer : (n : List ℕ) → releases n c ≡ false → IsLiveOf front w n → IsLiveOf (front ++ c ∷ []) w n
    newer n kept l =
        let parts = and_parts (is_used front n) (not (list_any (releases n) front)) l.0 in (
          and_both (is_used (front ++ c ∷ []) n) (not (list_any (releases n) (front ++ c ∷ [])))
              (some-more (opens n) front c ∙ ap (λ (x : Bool). x || opens n c) parts.0) (ap not (quiet (releases n) front c kept) ∙ parts.1),
          some-more (opens_for w n) front c ∙ ap (λ (x : Bool). x || opens_for w n c) l.1,
        )

    -- a command that opens nothing for the session, and doesn't release its live name
    abbrev pub Spares : Option (List ℕ) → Type 0
    Spares None = Unit {0}
    Spares (Some n) = releases n c ≡ false

    live-kept : (x : Option (List ℕ)) → ((n : List ℕ) → opens_for w n c ≡ false) → Spares x → LiveName front w x → LiveName (front ++ c ∷ []) w x
    live-kept None opens_none spares l = λ n h. l n (older n (opens_none n) h)
    live-kept (Some n) opens_none spares l = (newer n spares l.0, λ m h. l.1 m (older m (opens_none m) h))

    pub live-stays : (x : Option (List ℕ)) → ((n : List ℕ) → opens_for w n c ≡ false) → Spares x → LiveName front w x → LiveName next w x
    live-stays x opens_none spares l = subst (λ (xs : List Command). LiveName xs w x) (sym next_is) (live-kept x opens_none spares l)

    -- a release of it
    pub live-released : (n : List ℕ) → c ≡ Release n → LiveName front w (Some n) → LiveName next w None
    live-released n is l = subst (λ (xs : List Command). LiveName xs w None) (sym next_is) (λ m h. gone m h (l.1 m (older m (opens_none m) h)))
      where
        opens_none : (m : List ℕ) → opens_for w m c ≡ false
        opens_none m = ap (opens_for w m) is

        gone : (m : List ℕ) → IsLiveOf (front ++ c ∷ []) w m → m ≡ n → ⊥
        gone m h e =
            let parts = and_parts (is_used (front ++ c ∷ []) m) (not (list_any (releases m) (front ++ c ∷ []))) h.0 in
            let released : list_any (releases m) (front ++ c ∷ []) ≡ true =
            passes (releases m) front c (ap (releases m) is ∙ (ap (same_name n) e ∙ same_self n)) in
            false-true (sym (ap not released) ∙ parts.1)

    -- an opening by the session finds no live name of it, and makes one
    module _ (session : ℕ) (name : List ℕ) (mode : Mode) (policy : Policy) (turns : Option ℕ) (latches : List Latch)
        (is : c ≡ Begin session name mode policy turns latches) (own : session ≡ w) where
      rules : (is_busy front session ≡ false) × (is_used front name ≡ false)
      rules =
          opening_rules front session name mode policy turns latches
          (s.rules i (Begin session name mode policy turns latches) (at ∙ ap Some is))

      pub opens-none_live : (n : List ℕ) → IsLiveOf front w n → ⊥
      opens-none_live n l = false-true (sym (ap (is_busy front) (sym own) ∙ rules.0) ∙ live_busy front w n l)

      pub opens-live : LiveName next w (Some name)
      opens-live = subst (λ (xs : List Command). LiveName xs w (Some name)) (sym next_is) (there, one)
        where
          there : IsLiveOf (front ++ c ∷ []) w name
          there = (
            and_both (is_used (front ++ c ∷ []) name) (not (list_any (releases name) (front ++ c ∷ [])))
                (passes (opens name) front c (ap (opens name) is ∙ same_self name))
                (ap not (quiet (releases name) front c (ap (releases name) is) ∙ unused-unreleased i name rules.1)),
            passes (opens_for w name) front c
                (ap (opens_for w name) is ∙ and_both (session == w) (same_name name name) (eq-eqb session w own) (same_self name)),
          )

          one : (m : List ℕ) → IsLiveOf (front ++ c ∷ []) w m → m ≡ name
          one m h = by (same_name name m) refl
            where
              by : (x : Bool) → same_name name m ≡ x → m ≡ name
              by true e = sym (same_is name m e)
              by false e =
                  absurd (opens-none_live m (older m (ap (opens_for w m) is ∙ (ap (λ (x : Bool). (session == w) && x) e ∙ and_false (session == w))) h))
                where
                  and_false : (x : Bool) → (x && false) ≡ false
                  and_false true = refl
                  and_false false = refl

-- at the start no session has a live name, and at the end none has one
pub live-start : (cs : List Command) (w : ℕ) → LiveName (take 0 cs) w None
live-start cs w = λ n h. false-true h.0

leaves_name : (n : List ℕ) (w : ℕ) (cs : List Command) (c : Command) → is_live cs n ≡ true → opens_for w n c ≡ true → leaves_live cs c ≡ true
leaves_name n w cs (Begin session name mode policy turns latches) live e =
    ap (is_live cs) (same_is name n (and_parts (session == w) (same_name name n) e).1) ∙ live
leaves_name n w cs (Wait name) live e = cc
leaves_name n w cs (Check name latches) live e = cc
leaves_name n w cs (Poison name) live e = cc
leaves_name n w cs (Release name) live e = cc
leaves_name n w cs Metrics live e = cc

pub none_live-at_end : (cs : List Command) → IsScript cs → (w : ℕ) (n : List ℕ) → LiveName cs w (Some n) → ⊥
none_live-at_end cs s w n l =
    let c = list_any_of (opens_for w n) cs l.0.1 in
    false-true (sym s.released ∙ list_any-In (leaves_live cs) cs c.0 c.1 (leaves_name n w cs c.0 l.0.0 c.2))
