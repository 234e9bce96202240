-- The list of sessions tells which commands are a session's own; and what a script says of each.
use Rattle.std.proofs.Common.{◌≡◌, ◌≢◌, ℕ, zero, suc, ◌+◌, ◌-◌, ◌==◌, ◌<◌, ◌≤◌, true, false, List, [], ◌∷◌, length, slice_get, Option, Some, None, IfSome}
use Rattle.std.proofs.Common.{refl, sym, ◌∙◌, ap, subst, arith, inl, inr}
use Rattle.std.proofs.lemmas.Bool.{eq-eqb, eqb-true, false_from_ne_true}
use Rattle.std.proofs.lemmas.List.Elements.{All-contains}
use Rattle.std.proofs.Math.Seq.{take-length}
use Rattle.latch_model.proofs.Lists.{Contains-from_In, In}
use Rattle.latch_model.proofs.Members.{get_below}
use Rattle.script.specs.Follows.{blocks_of, is_of}
use Rattle.script.specs.Scripts.{IsCommand, IsScript}
use Rattle.script.specs.Sessions.{AreSessions}
use Rattle.script.specs.declared.limits.TheConstants.{TURN_LIMIT}
use Rattle.script.specs.declared.command.Command.{Command}
use Rattle.script.specs.declared.command.Command.TheVariants.{Begin, Wait, Check, Poison, Release, Metrics}
use Rattle.signal_board.specs.Says.{PassSays}
use Rattle.waiter.specs.Says.{CoreId}
use Rattle.replay.specs.Blocks.{LiveName}
use Rattle.replay.specs.Running.{Fresh, IsAt, IsFit, NoneBetween, SomeTurns, turns_at, turns_of}
use Rattle.replay.specs.Sessions.{Hand, Idle, Standing}
use Rattle.replay.proofs.Blocks.{until_all}
use Rattle.replay.proofs.Commands.{at-other}
use Rattle.replay.proofs.LiveNames.{live-start, none_live-at_end}

-- ---- by the list of sessions

-- the command at a place with the session's number is one of it
pub own-at : (cs : List Command) (ss : List ℕ) (w k : ℕ) → AreSessions cs ss → 1 ≤ w → slice_get ss k ≡ Some w → (c : Command) → slice_get cs k ≡ Some c
    → is_of cs w c ≡ true
own-at cs ss w k are low at c at_c = are.each k w c at_c at w low ∙ eq-eqb w w refl

-- and one at a place with another number is not
other-at : (cs : List Command) (ss : List ℕ) (w k s : ℕ) (c : Command) → AreSessions cs ss → 1 ≤ w → slice_get cs k ≡ Some c → slice_get ss k ≡ Some s
    → slice_get ss k ≢ Some w → is_of cs w c ≡ false
other-at cs ss w k s c are low at_c at_s differs =
    are.each k s c at_c at_s w low ∙ false_from_ne_true (s == w) (λ e. differs (at_s ∙ ap Some (eqb-true s w e)))

-- So a session stands behind the commands of others as it stood in front of them.
module _ (cs : List Command) (s : IsScript cs) (ss : List ℕ) (are : AreSessions cs ss) (core : CoreId) (w : ℕ) (low : 1 ≤ w) (pass : PassSays)
    (live : Option ℕ) (hand : Hand) (i : ℕ) (at : IsAt cs core w i pass live hand) where
  at-behind : (d : ℕ) → i + d ≤ length cs → NoneBetween ss w i (i + d) → IsAt cs core w (i + d) pass live hand
  at-behind zero le others = let e : i ≡ i + 0 = omega arith in subst (λ (n : ℕ). IsAt cs core w n pass live hand) e at
  at-behind (suc d) le others =
      let here = at-behind d (omega arith) (λ j from below. others j from (omega arith)) in
      let inside : i + d < length cs = omega arith in
      let size = are.size in
      let inside_too : i + d < length ss = omega arith in
      let c = get_below cs (i + d) inside in
      let n = get_below ss (i + d) inside_too in
      let other = other-at cs ss w (i + d) n.0 c.0 are low c.1 n.1 (others (i + d) (omega arith) (omega arith)) in
      let e : i + d + 1 ≡ i + suc d = omega arith in
      subst (λ (n : ℕ). IsAt cs core w n pass live hand) e (at-other cs s core w (i + d) pass live hand c.0 c.1 other here)

  pub at-next : (k : ℕ) → i ≤ k → k ≤ length cs → NoneBetween ss w i k → IsAt cs core w k pass live hand
  at-next k from le others =
      let e : i + (k - i) ≡ k = omega arith in
      subst (λ (n : ℕ). IsAt cs core w n pass live hand) e (at-behind (k - i) (omega arith) (λ j up below. others j up (omega arith)))

-- ---- what a script says of its commands

get-In : {X : Type 0} (xs : List X) (i : ℕ) (x : X) → slice_get xs i ≡ Some x → In x xs
get-In [] i x e = cc
get-In (y ∷ ys) zero x e = inl cc
get-In (y ∷ ys) (suc i) x e = inr (get-In ys i x e)

command-at : (cs : List Command) → IsScript cs → (i : ℕ) (c : Command) → slice_get cs i ≡ Some c → IsCommand c
command-at cs s i c at = All-contains IsCommand cs c s.commands (Contains-from_In cs c (get-In cs i c at))

fits : (c : Command) → IsCommand c → IsFit c
fits (Begin session name mode policy turns latches) k = (some turns k.turns_range, k.latches_fit.few)
  where
    some : (t : Option ℕ) → IfSome t (λ n. (1 ≤ n) × (n ≤ TURN_LIMIT)) → SomeTurns t
    some None h = h
    some (Some n) h = h.0
fits (Wait name) k = tt
fits (Check name latches) k = tt
fits (Poison name) k = tt
fits (Release name) k = tt
fits Metrics k = tt

pub fit-at : (cs : List Command) → IsScript cs → (i : ℕ) (c : Command) → slice_get cs i ≡ Some c → IsFit c
fit-at cs s i c at = fits c (command-at cs s i c at)

turns_fit : (cs : List Command) → IsScript cs → (k : ℕ) (o : Option Command) → slice_get cs k ≡ o → SomeTurns (turns_of o)
turns_fit cs s k None e = tt
turns_fit cs s k (Some (Begin session name mode policy turns latches)) e = (fit-at cs s k (Begin session name mode policy turns latches) e).0
turns_fit cs s k (Some (Wait name)) e = tt
turns_fit cs s k (Some (Check name latches)) e = tt
turns_fit cs s k (Some (Poison name)) e = tt
turns_fit cs s k (Some (Release name)) e = tt
turns_fit cs s k (Some Metrics) e = tt

pub some-turns : (cs : List Command) → IsScript cs → (live : Option ℕ) → SomeTurns (turns_at cs live)
some-turns cs s None = tt
some-turns cs s (Some k) = turns_fit cs s k (slice_get cs k) refl

-- ---- the first command and the end

pub at-start : (cs : List Command) (core : CoreId) (pass : PassSays) → Fresh core.signals pass → IsAt cs core pass.p.who 0 pass None Idle
at-start cs core pass f = record {
  board = f.0;
  session = refl;
  standing = start pass.p.shown pass.p.mine f.1 f.2;
  named = (live-start cs pass.p.who, refl);
}
  where
    start : (shown mine : _) → shown ≡ [] → mine ≡ [] → Standing core (record pass.p { shown = shown; mine = mine }) [] Idle
    start shown mine a b = subst (λ x. Standing core (record pass.p { shown = shown; mine = x }) [] Idle) (sym b)
        record { each = tt; stands = tt; given = refl }

pub idle-at_end : (cs : List Command) → IsScript cs → (core : CoreId) (w : ℕ) (pass : PassSays) (live : Option ℕ) (hand : Hand) →
    IsAt cs core w (length cs) pass live hand → hand ≡ Idle
idle-at_end cs s core w pass None hand a = a.named.1
idle-at_end cs s core w pass (Some k) hand a =
    absurd (none_live-at_end cs s w a.named.0 (subst (λ (xs : List Command). LiveName xs w (Some a.named.0)) (take-length cs) a.named.6))

pub stands-at_end : (cs : List Command) → IsScript cs → (core : CoreId) (w : ℕ) (pass : PassSays) (live : Option ℕ) (hand : Hand) →
    IsAt cs core w (length cs) pass live hand → Standing core pass.p (blocks_of cs w) Idle
stands-at_end cs s core w pass live hand a =
    subst (λ (h : Hand). Standing core pass.p (blocks_of cs w) h) (idle-at_end cs s core w pass live hand a)
    (subst (λ bs. Standing core pass.p bs hand) (until_all cs w) a.standing)
