-- The sessions of the live names, and with them that of each command, from one command of a script to the next.
use Rattle.std.proofs.Common.{◌≡◌, ℕ, ◌≤◌, ◌||◌, ◌==◌, Bool, true, false, not, cond, List, [], ◌∷◌, ◌++◌, length, take, slice_get}
use Rattle.std.proofs.Common.{Option, Some, None, zero, suc, refl, sym, ◌∙◌, ap, subst, arith, ◌⊎◌, inl, inr}
use Rattle.std.specs.List.{list_any}
use Rattle.std.proofs.lemmas.Bool.{eq-eqb, eqb-true, false_from_ne_true}
use Rattle.std.proofs.lemmas.List.Folds.{list_any-append}
use Rattle.latch_model.specs.declared.latch.Latch.{Latch}
use Rattle.latch_model.specs.declared.latch.Mode.{Mode}
use Rattle.latch_model.specs.declared.latch.Policy.{Policy}
use Rattle.script.specs.Commands.{is_live, is_used, opens, opens_for, releases, same_name}
use Rattle.script.specs.Follows.{is_of}
use Rattle.script.specs.Scripts.{IsScript}
use Rattle.script.specs.Sessions.{EachSession, IsSessionOf, KnowsOwners, owner, session_in}
use Rattle.script.specs.declared.command.Command.{Command}
use Rattle.script.specs.declared.command.Command.TheVariants.{Begin, Wait, Check, Poison, Release, Metrics}
use Rattle.script.proofs.Choices.{and_both, and_parts, or_left, or_no, or_right}
use Rattle.script.proofs.Openers.{IsOn, of-opener, on_rule}

-- ---- one command more

some-more : (p : Command → Bool) (cs : List Command) (c : Command) → list_any p (cs ++ c ∷ []) ≡ (list_any p cs || p c)
some-more p cs c = list_any-append p cs (c ∷ []) ∙ ap (λ (x : Bool). list_any p cs || x) (sym (or_no (p c)))

grown : (p : Command → Bool) (cs : List Command) (c : Command) → list_any p cs ≡ true → list_any p (cs ++ c ∷ []) ≡ true
grown p cs c e = some-more p cs c ∙ or_left (list_any p cs) (p c) e

-- a name that is live behind a command that doesn't open it was live in front of it, and isn't released by it
module _ (cs : List Command) (c : Command) (q : List ℕ) (live : is_live (cs ++ c ∷ []) q ≡ true) where
  live_parts : (is_used (cs ++ c ∷ []) q ≡ true) × (not (list_any (releases q) (cs ++ c ∷ [])) ≡ true)
  live_parts = and_parts (is_used (cs ++ c ∷ []) q) (not (list_any (releases q) (cs ++ c ∷ []))) live

  unreleased : (not (list_any (releases q) cs) ≡ true) × (releases q c ≡ false)
  unreleased = by (list_any (releases q) cs) (releases q c) (ap not (sym (some-more (releases q) cs c)) ∙ live_parts.1)
    where
      by : (x y : Bool) → not (x || y) ≡ true → (not x ≡ true) × (y ≡ false)
      by true y e = cc
      by false true e = cc
      by false false e = (refl, refl)

  live_before : opens q c ≡ false → is_live cs q ≡ true
  live_before e =
      and_both (is_used cs q) (not (list_any (releases q) cs)) (by (is_used cs q) (opens q c) e (sym (some-more (opens q) cs c) ∙ live_parts.0)) unreleased.0
    where
      by : (x y : Bool) → y ≡ false → (x || y) ≡ true → x ≡ true
      by true y f g = refl
      by false y f g = cc

-- ---- what is known behind a command

abbrev Known : Type 0
Known = List ℕ → Option ℕ

-- of a name that was live before, and of which the same is kept
older : (old new : Known) (cs : List Command) (c : Command) → KnowsOwners old cs → (q : List ℕ) → new q ≡ old q → is_live cs q ≡ true
    → (s : ℕ) × (new q ≡ Some s) × (list_any (opens_for s q) (cs ++ c ∷ []) ≡ true)
older old new cs c k q same live =
    let w = k q live in (w.0, same ∙ w.1, grown (opens_for w.0 q) cs c w.2)

module _ (old new : Known) (cs : List Command) (session : ℕ) (name : List ℕ) (mode : Mode) (policy : Policy) (turns : Option ℕ) (latches : List Latch)
    (is : (q : List ℕ) → new q ≡ cond (same_name name q) (Some session) (old q)) (k : KnowsOwners old cs) where
  abbrev pub opening : Command
  opening = Begin session name mode policy turns latches

  pub knows-opened : KnowsOwners new (cs ++ opening ∷ [])
  knows-opened q live = by (same_name name q) refl
    where
      by : (b : Bool) → same_name name q ≡ b → (s : ℕ) × (new q ≡ Some s) × (list_any (opens_for s q) (cs ++ opening ∷ []) ≡ true)
      by true e = (
        session,
        is q ∙ ap (λ (b : Bool). cond b (Some session) (old q)) e,
        some-more (opens_for session q) cs opening
            ∙ or_right (list_any (opens_for session q) cs) (opens_for session q opening) (and_both (session == session) (same_name name q) (eq-eqb session session refl) e),
      )
      by false e = older old new cs opening k q (is q ∙ ap (λ (b : Bool). cond b (Some session) (old q)) e) (live_before cs opening q live e)

pub knows-released : (old new : Known) (cs : List Command) (name : List ℕ) → ((q : List ℕ) → new q ≡ cond (same_name name q) None (old q)) →
    KnowsOwners old cs → KnowsOwners new (cs ++ Release name ∷ [])
knows-released old new cs name is k q live =
    older old new cs (Release name) k q (is q ∙ ap (λ (b : Bool). cond b None (old q)) (unreleased cs (Release name) q live).1)
    (live_before cs (Release name) q live refl)

-- a command that opens and releases nothing
pub knows-still : (known : Known) (cs : List Command) (c : Command) → ((q : List ℕ) → opens q c ≡ false) → KnowsOwners known cs →
    KnowsOwners known (cs ++ c ∷ [])
knows-still known cs c none k q live = older known known cs c k q refl (live_before cs c q live (none q))

-- ---- whose a command is

module _ (known : Known) (cs : List Command) (s : IsScript cs) (i : ℕ) (c : Command) (at : slice_get cs i ≡ Some c) (k : KnowsOwners known (take i cs)) where
  named : (name : List ℕ) → IsOn name c → (w : ℕ) → is_of cs w c ≡ (owner (known name) == w)
  named name on w =
      let o = k name (on_rule (take i cs) name c on (s.rules i c at)) in
      of-opener cs s name i o.0 c on o.2 w ∙ ap (λ (x : Option ℕ). owner x == w) (sym o.1)

no_session : (w : ℕ) → 1 ≤ w → false ≡ (0 == w)
no_session w le = sym (false_from_ne_true (0 == w) (λ e. let zero_is : 0 ≡ w = eqb-true 0 w e in absurd (omega arith)))

pub session-is : (known : Known) (cs : List Command) → IsScript cs → (i : ℕ) (c : Command) → slice_get cs i ≡ Some c → KnowsOwners known (take i cs) →
    IsSessionOf cs c (session_in known c)
session-is known cs s i (Begin session name mode policy turns latches) at k w le = refl
session-is known cs s i (Wait name) at k w le = named known cs s i (Wait name) at k name refl w
session-is known cs s i (Check name latches) at k w le = named known cs s i (Check name latches) at k name refl w
session-is known cs s i (Poison name) at k w le = named known cs s i (Poison name) at k name refl w
session-is known cs s i (Release name) at k w le = named known cs s i (Release name) at k name refl w
session-is known cs s i Metrics at k w le = no_session w le

-- ---- the list of sessions, one longer

-- what stands in a list that one more was put behind
longer : (ss : List ℕ) (s t j : ℕ) → slice_get (ss ++ s ∷ []) j ≡ Some t → (slice_get ss j ≡ Some t) ⊎ ((j ≡ length ss) × (t ≡ s))
longer [] s t zero e = inr (refl, cc)
longer [] s t (suc j) e = cc
longer (x ∷ ss) s t zero e = inl e
longer (x ∷ ss) s t (suc j) e = elim (longer ss s t j e) [ inl f ↦ inl f | inr f ↦ inr (ap suc f.0, f.1) ]

pub session-more : (cs : List Command) (ss : List ℕ) (c : Command) (s : ℕ) → slice_get cs (length ss) ≡ Some c → IsSessionOf cs c s → EachSession cs ss
    → EachSession cs (ss ++ s ∷ [])
session-more cs ss c s at is k i t d at_d at_t =
    elim (longer ss s t i at_t) [
      | inl f ↦ k i t d at_d f
      | inr f ↦ same (ap (slice_get cs) (sym f.0) ∙ at_d) f.1
    ]
  where
    same : slice_get cs (length ss) ≡ Some d → t ≡ s → IsSessionOf cs d t
    same e f = subst (λ (x : Command). IsSessionOf cs x t) (one (sym at ∙ e)) (subst (IsSessionOf cs c) (sym f) is)
      where
        one : Some c ≡ Some d → c ≡ d
        one g = cc
