-- From one command of a script to the next: a command of another session leaves a session where it is, and its own take it on.
use Rattle.std.proofs.Common.{◌≡◌, ◌≢◌, ℕ, ◌+◌, ◌&&◌, Bool, true, false, List, [], ◌∷◌, ◌++◌, take, slice_get, Option, Some, None}
use Rattle.std.proofs.Common.{refl, sym, ◌∙◌, ap, subst, ◌⊎◌, inl, inr}
use Rattle.std.proofs.lemmas.Bool.{eqb-true, false_from_ne_true}
use Rattle.latch_model.specs.declared.latch.Latch.{Latch}
use Rattle.latch_model.specs.declared.latch.Mode.{Mode}
use Rattle.latch_model.specs.declared.latch.Policy.{Policy}
use Rattle.script.specs.Commands.{opens_for, releases, same_name}
use Rattle.script.specs.Follows.{Block, is_of}
use Rattle.script.specs.Scripts.{IsScript}
use Rattle.script.specs.declared.command.Command.{Command}
use Rattle.script.specs.declared.command.Command.TheVariants.{Begin, Wait, Check, Poison, Release, Metrics}
use Rattle.script.proofs.Busy.{same_is, same_self}
use Rattle.script.proofs.Openers.{IsOn}
use Rattle.signal_board.specs.Says.{PassSays}
use Rattle.waiter.specs.Says.{CoreId}
use Rattle.replay.specs.Blocks.{GrowsBy, IsLiveOf, LiveName, blocks_until, commands_until, new_block, with_more}
use Rattle.replay.specs.Running.{IsAt, IsLiveAt, Keeps, NextHand, Ran, RunsTo, live_behind, turns_at, turns_of}
use Rattle.replay.specs.Sessions.{Checking, Hand, Holding, Idle, Over, Standing, TurnsOf}
use Rattle.replay.proofs.Blocks.{IsOnName, grows_block, opens_block, until_other, until_own}
use Rattle.replay.proofs.LiveNames.{live-released, live-stays, on_live-is_own, on_other-is_not, opens-live, opens-none_live}

false-true : false ≡ true → ⊥
false-true e = cc

-- ---- a command of another session

-- it opens nothing for this one
opens_none : (cs : List Command) (w : ℕ) (c : Command) → is_of cs w c ≡ false → (n : List ℕ) → opens_for w n c ≡ false
opens_none cs w (Begin session name mode policy turns latches) other n = ap (λ (x : Bool). x && same_name name n) other
opens_none cs w (Wait name) other n = refl
opens_none cs w (Check name latches) other n = refl
opens_none cs w (Poison name) other n = refl
opens_none cs w (Release name) other n = refl
opens_none cs w Metrics other n = refl

-- and doesn't release its live name
spares_none : (cs : List Command) (s : IsScript cs) (i w : ℕ) (c : Command) (at : slice_get cs i ≡ Some c) → is_of cs w c ≡ false → (n : List ℕ) →
    IsLiveOf (take i cs) w n → releases n c ≡ false
spares_none cs s i w (Begin session name mode policy turns latches) at other n l = refl
spares_none cs s i w (Wait name) at other n l = refl
spares_none cs s i w (Check name latches) at other n l = refl
spares_none cs s i w (Poison name) at other n l = refl
spares_none cs s i w (Release name) at other n l =
    false_from_ne_true (same_name name n) (λ e. false-true (sym other ∙ on_live-is_own cs s i w (Release name) at n (same_is name n e) l))
spares_none cs s i w Metrics at other n l = refl

other-live : (cs : List Command) (s : IsScript cs) (i w : ℕ) (c : Command) (at : slice_get cs i ≡ Some c) → is_of cs w c ≡ false → (live : Option ℕ)
    (bs : List Block) (hand : Hand) → IsLiveAt cs w i live bs hand → IsLiveAt cs w (i + 1) live bs hand
other-live cs s i w c at other None bs hand l = (live-stays cs s i w c at None (opens_none cs w c other) tt l.0, l.1)
other-live cs s i w c at other (Some k) bs hand l = (
  l.0,
  l.1,
  l.2,
  l.3,
  l.4,
  l.5,
  live-stays cs s i w c at (Some l.0) (opens_none cs w c other) (spares_none cs s i w c at other l.0 l.6.0) l.6,
  l.7,
  l.8,
)

pub at-other : (cs : List Command) (s : IsScript cs) (core : CoreId) (w i : ℕ) (pass : PassSays) (live : Option ℕ) (hand : Hand) (c : Command) →
    slice_get cs i ≡ Some c → is_of cs w c ≡ false → IsAt cs core w i pass live hand → IsAt cs core w (i + 1) pass live hand
at-other cs s core w i pass live hand c at other a =
    let same : blocks_until cs w i ≡ blocks_until cs w (i + 1) = sym (until_other cs w i c at other) in
    record {
      board = a.board;
      session = a.session;
      standing = subst (λ (bs : List Block). Standing core pass.p bs hand) same a.standing;
      named = subst (λ (bs : List Block). IsLiveAt cs w (i + 1) live bs hand) same (other-live cs s i w c at other live (blocks_until cs w i) hand a.named);
    }

-- ---- the blocks of a session behind a command of its own

tail_is : {X : Type 0} (a b : X) (us vs : List X) → a ∷ us ≡ b ∷ vs → us ≡ vs
tail_is a b us vs f = cc

-- the last of a list is one
last_is : {X : Type 0} (xs ys : List X) (x y : X) → xs ++ x ∷ [] ≡ ys ++ y ∷ [] → x ≡ y
last_is [] [] x y e = cc
last_is [] (z ∷ []) x y e = cc
last_is [] (z ∷ v ∷ ys) x y e = cc
last_is (z ∷ []) [] x y e = cc
last_is (z ∷ v ∷ xs) [] x y e = cc
last_is (z ∷ xs) (v ∷ ys) x y e = last_is xs ys x y (tail_is z v (xs ++ x ∷ []) (ys ++ y ∷ []) e)

module _ (cs : List Command) (w i : ℕ) (c : Command) (at : slice_get cs i ≡ Some c) (own : is_of cs w c ≡ true) where
  pub grows-by : IsOnName c → GrowsBy c (blocks_until cs w i) (blocks_until cs w (i + 1))
  grows-by on = λ done last is. until_own cs w i c at own ∙ grows_block (commands_until cs w i) (i + 2) c done last on is

  pub turns-by : (turns : Option ℕ) → IsOnName c → ((done : List Block) × (last : Block) × (blocks_until cs w i ≡ done ++ last ∷ []))
      → TurnsOf (blocks_until cs w i) turns → TurnsOf (blocks_until cs w (i + 1)) turns
  turns-by turns on some of = λ done last is.
      let grown = grows-by on some.0 some.1 some.2 in
      let same : last ≡ with_more some.1 c = last_is done some.0 last (with_more some.1 c) (sym is ∙ grown) in
      ap (λ (b : Block). b.turns) same ∙ of some.0 some.1 some.2

pub opens-by : (cs : List Command) (w i session : ℕ) (name : List ℕ) (mode : Mode) (policy : Policy) (turns : Option ℕ) (latches : List Latch) →
    slice_get cs i ≡ Some (Begin session name mode policy turns latches) → is_of cs w (Begin session name mode policy turns latches) ≡ true →
    blocks_until cs w (i + 1) ≡ blocks_until cs w i ++ new_block (i + 2) mode policy turns latches ∷ []
opens-by cs w i session name mode policy turns latches at own =
    until_own cs w i (Begin session name mode policy turns latches) at own
    ∙ opens_block (commands_until cs w i) (i + 2) session name mode policy turns latches

-- ---- a command of its own

-- a session with something in hand has a block that isn't released
some_block : (core : CoreId) (pass : PassSays) (bs : List Block) (hand : Hand) → Standing core pass.p bs hand → hand ≢ Idle →
    (done : List Block) × (last : Block) × (bs ≡ done ++ last ∷ [])
some_block core pass bs Idle s busy = absurd (busy refl)
some_block core pass bs (Checking o) s busy = (s.stands.done, s.stands.last, s.stands.blocks)
some_block core pass bs (Holding g) s busy = (s.stands.done, s.stands.last, s.stands.blocks)
some_block core pass bs Over s busy = (s.stands.done, s.stands.last, s.stands.blocks)

module _ (cs : List Command) (s : IsScript cs) (core : CoreId) (w i : ℕ) (old new : PassSays) (hand next : Hand) (keeps : Keeps old new) where
  abbrev before : List Block
  before = blocks_until cs w i

  abbrev behind : List Block
  behind = blocks_until cs w (i + 1)

  -- an opening
  opened : (session : ℕ) (name : List ℕ) (mode : Mode) (policy : Policy) (turns : Option ℕ) (latches : List Latch) (live : Option ℕ) (given : Option ℕ) →
      slice_get cs i ≡ Some (Begin session name mode policy turns latches) → is_of cs w (Begin session name mode policy turns latches) ≡ true →
      Ran core (i + 2) given (Begin session name mode policy turns latches) old hand new next → next ≢ Idle → IsAt cs core w i old live hand →
      IsAt cs core w (i + 1) new (Some i) next
  opened session name mode policy turns latches None given at own run busy a =
      let is : session ≡ w = eqb-true session w own in
      let grown = opens-by cs w i session name mode policy turns latches at own in
      record {
        board = keeps.0 ∙ a.board;
        session = keeps.1 ∙ a.session;
        standing = run before behind (a.named.1, grown) a.standing;
        named = (
          name,
          mode,
          policy,
          turns,
          latches,
          at ∙ ap (λ (x : ℕ). Some (Begin x name mode policy turns latches)) is,
          opens-live cs s i w (Begin session name mode policy turns latches) at session name mode policy turns latches refl is,
          (λ done last e. ap (λ (b : Block). b.turns)
              (last_is done before last (new_block (i + 2) mode policy turns latches) (sym e ∙ grown))),
          busy,
        );
      }
  opened session name mode policy turns latches (Some k) given at own run busy a =
      absurd (opens-none_live cs s i w (Begin session name mode policy turns latches) at session name mode policy turns latches refl (eqb-true session w own)
      a.named.0 a.named.6.0)

  -- a command on the live name
  module _ (c : Command) (at : slice_get cs i ≡ Some c) (own : is_of cs w c ≡ true) (on : IsOnName c) (name : List ℕ) (is_on : IsOn name c) where
    -- there is one
    none_absurd : (live : Option ℕ) → live ≡ None → IsLiveAt cs w i live before hand → ⊥
    none_absurd None e l = false-true (sym (on_other-is_not cs s i w c at name is_on (l.0 name)) ∙ own)
    none_absurd (Some k) e l = cc

    -- and it is that of the command
    same_live : (n : List ℕ) → LiveName (take i cs) w (Some n) → name ≡ n
    same_live n l = by (same_name name n) refl
      where
        by : (x : Bool) → same_name name n ≡ x → name ≡ n
        by true e = same_is name n e
        by false e =
            absurd (false-true (sym (on_other-is_not cs s i w c at name is_on
            (λ h. false-true (sym e ∙ (ap (λ (m : List ℕ). same_name m n) (l.1 name h) ∙ same_self n))))
            ∙ own))

    -- one that leaves it live
    kept : (live : Option ℕ) (given : Option ℕ) → ((n : List ℕ) → opens_for w n c ≡ false) → ((n : List ℕ) → releases n c ≡ false) →
        (hand ≢ Idle → RunsTo (i + 2) (turns_at cs live) c hand before behind) → Ran core (i + 2) (turns_at cs live) c old hand new next →
        (hand ≢ Idle → next ≢ Idle) →
        IsAt cs core w i old live hand → IsAt cs core w (i + 1) new live next
    kept None given opens_no releases_no runs run tied a = absurd (none_absurd None refl a.named)
    kept (Some k) given opens_no releases_no runs run tied a =
        let l = a.named in
        record {
          board = keeps.0 ∙ a.board;
          session = keeps.1 ∙ a.session;
          standing = run before behind (runs l.8) a.standing;
          named = (
            l.0,
            l.1,
            l.2,
            l.3,
            l.4,
            l.5,
            live-stays cs s i w c at (Some l.0) opens_no (releases_no l.0) l.6,
            turns-by cs w i c at own l.3 on (some_block core old before hand a.standing l.8) l.7,
            tied l.8,
          );
        }

    released : (live : Option ℕ) → c ≡ Release name → (hand ≢ Idle → RunsTo (i + 2) (turns_at cs live) c hand before behind) →
        Ran core (i + 2) (turns_at cs live) c old hand new next → next ≡ Idle → IsAt cs core w i old live hand → IsAt cs core w (i + 1) new None next
    released None is runs run idle a = absurd (none_absurd None refl a.named)
    released (Some k) is runs run idle a =
        let l = a.named in
        record {
          board = keeps.0 ∙ a.board;
          session = keeps.1 ∙ a.session;
          standing = run before behind (runs l.8) a.standing;
          named = (live-released cs s i w c at l.0 (is ∙ ap Release (same_live l.0 l.6)) l.6, idle);
        }

  -- the turns of the live name's block are those that its opening says
  turns_there : (live : Option ℕ) → hand ≢ Idle → IsLiveAt cs w i live before hand → TurnsOf before (turns_at cs live)
  turns_there None busy l = absurd (busy l.1)
  turns_there (Some k) busy l = λ done last e. l.7 done last e ∙ ap turns_of (sym l.5)

  idle_none : (live : Option ℕ) → IsAt cs core w i old live hand → (hand ≡ Idle) ⊎ (hand ≢ Idle)
  idle_none None a = inl a.named.1
  idle_none (Some k) a = inr a.named.8

  pub at-own : (c : Command) (live : Option ℕ) → slice_get cs i ≡ Some c → is_of cs w c ≡ true → Ran core (i + 2) (turns_at cs live) c old hand new next →
      NextHand c hand next → IsAt cs core w i old live hand → IsAt cs core w (i + 1) new (live_behind live i c) next
  at-own (Begin session name mode policy turns latches) live at own run tied a =
      opened session name mode policy turns latches live (turns_at cs live) at own run tied a
  at-own (Wait name) None at own run tied a = absurd (none_absurd (Wait name) at own tt name refl None refl a.named)
  at-own (Wait name) (Some k) at own run tied a =
      kept (Wait name) at own tt name refl (Some k) None (λ n. refl) (λ n. refl)
      (λ busy. (busy, grows-by cs w i (Wait name) at own tt, turns_there (Some k) busy a.named)) run tied a
  at-own (Check name latches) live at own run tied a =
      kept (Check name latches) at own tt name refl live None (λ n. refl) (λ n. refl)
      (λ busy. (busy, grows-by cs w i (Check name latches) at own tt)) run tied a
  at-own (Poison name) live at own run tied a =
      kept (Poison name) at own tt name refl live None (λ n. refl) (λ n. refl) (λ busy. (busy, grows-by cs w i (Poison name) at own tt)) run tied a
  at-own (Release name) live at own run tied a =
      released (Release name) at own tt name refl live refl (λ busy. (busy, grows-by cs w i (Release name) at own tt)) run tied a
  at-own Metrics live at own run tied a = absurd (false-true own)
