-- What a turn of a waiting request answers is what the definition's turn meets.
use Rattle.std.proofs.Common.{◌≡◌, ◌≢◌, ℕ, Bool, true, false, not, cond, List, ◌∷◌, ◌++◌, Some, refl, sym, ap, ◌∙◌, subst, inl, ⊎_elim, ◌+◌, ◌-◌, ◌^◌}
use Rattle.std.specs.Prelude.{min, slice_get}
use Rattle.std.specs.List.{Contains, filter}
use Rattle.latch_model.specs.Checks.{has_cause}
use Rattle.latch_model.specs.Histories.{HeldLatch, has_ended, latches_of, met, shot}
use Rattle.latch_model.specs.declared.history.Cause.{Cause}
use Rattle.latch_model.specs.declared.history.Cause.TheVariants.{None as no_cause, Called, From}
use Rattle.latch_model.specs.declared.history.Entry.{Entry}
use Rattle.latch_model.specs.declared.latch.Policy.{Policy}
use Rattle.latch_model.specs.declared.latch.Policy.TheVariants.{Wait, Error}
use Rattle.latch_model.proofs.Lists.{Contains-from_In, In, In-append_right}
use Rattle.signal_board.specs.Says.{first_cause, shown_to}
use Rattle.signal_board.specs.Steps.{IsReady, warned}
use Rattle.signal_board.specs.Views.{RequestView}
use Rattle.shot_walks.specs.Waits.{FirstOpen, waits_for}
use Rattle.waiter.specs.Polls.{BlockedUnder, FoundPoisoned, FoundSound, IsBlockedPoll, IsPoisonedPoll, IsReadyPoll, Polls, SameBut}
use Rattle.waiter.specs.declared.waiting.Polled.{Polled}
use Rattle.waiter.specs.declared.waiting.Polled.TheVariants as polled
use Rattle.waiter.specs.Says.{WaitingSays}
use Rattle.step_run.specs.State.{Named, State, is_poisoned_in}
use Rattle.step_run.specs.Steps.{is_over, spread_to}
use Rattle.step_run.specs.Valid.{Valid}
use Rattle.step_run.specs.Asked.{Asked, LastIs, blocker, may_be_poisoned}
use Rattle.step_run.specs.Lives.{AreHeard, AreWarned, EachRequest, HeardOf, KnowsOf, LiveSays, is_none}
use Rattle.step_run.specs.Runs.{AskedBlocked, AskedPoisoned, AskedReady, FitsRequest, RunSays, StandsBut, met_open, spread_if}
use Rattle.step_run.proofs.Keeping.{but_warned}
use Rattle.step_run.proofs.Hearing.{caused, has_one, known_name, one_name, open_name, poisoned_from, poisoned_name, request_of, right_name}
use Rattle.step_run.proofs.Meets.{MetIs, first_left, met_is, none_left}

-- what a request waits for is what the history says it meets
waits_are : (h : List Entry) (n : Named) (r : RequestView) → FitsRequest h n r → waits_for r ≡ met h n.id (latches_of h n.id)
waits_are h n r f = let a : r.shot ≡ shot h n.id = f.shot in let b : r.request.latches ≡ latches_of h n.id = f.latches in cc

-- What is known when a turn is over. `old` is the request before its poll, `new` after it; that one in the way has a cause may have been found.
pub record IsAsked (s : State) (n : Named) (old new : RequestView) (by : ℕ) (found : Bool) : Type 0 where
  pub valid : Valid s.history s.names
  pub fits : FitsRequest s.history n old
  pub shown : old.shown ≡ s.history
  pub heard : (m : Named) → In m s.names → m.id ≢ n.id → is_over m.phase ≡ false → m.cause ≢ no_cause → Contains old.poisoned m.id
  pub right : found ≡ true → (m : Named) → In m s.names → m.id ≢ n.id → is_over m.phase ≡ false → m.id ≡ by → Contains new.poisoned by → m.cause ≢ no_cause
  pub ended : (p : ℕ) → Contains new.ended p → has_ended s.history p ≡ true

clash : {a : Bool} → a ≡ true → a ≡ false → ⊥
clash e f = cc

not_true : (a : Bool) → (a ≡ true → ⊥) → a ≡ false
not_true true f = absurd (f refl)
not_true false f = refl

-- Its first open latch.
pub record IsBlocker (s : State) (n : Named) (x : HeldLatch) : Type 0 where
  pub rest : List HeldLatch
  pub first : met_open s n ≡ x ∷ rest
  pub met : MetIs s.history n.id x
  pub open_still : has_ended s.history x.by ≡ false

blocker_is : (s : State) (n : Named) (old new : RequestView) (x : HeldLatch) → FitsRequest s.history n old → old.shown ≡ s.history →
    ((p : ℕ) → Contains new.ended p → has_ended s.history p ≡ true) → FirstOpen old new x → IsBlocker s n x
blocker_is s n old new x f shown ended w =
    let p : HeldLatch → Bool = λ y. not (has_ended s.history y.by) in
    let is : met s.history n.id (latches_of s.history n.id) ≡ w.passed.front ++ x ∷ w.rest = sym (waits_are s.history n old f) ∙ w.passed.parted in
    let still : has_ended s.history x.by ≡ false = ap (λ h. has_ended h x.by) (sym shown) ∙ w.not_shown in
    record {
      rest = filter p w.rest;
      first = ap (λ ys. filter p ys) is
          ∙ first_left p w.passed.front x w.rest (λ y k. ap not (ended y.by (w.passed.over y (Contains-from_In w.passed.front y k)))) (ap not still);
      met = met_is s.history n.id (latches_of s.history n.id) x
          (subst (λ ys. In x ys) (sym is) (In-append_right w.passed.front (x ∷ w.rest) x (inl refl)));
      open_still = still;
    }

-- A cause that the blocker has.
blocker_caused : (s : State) (n : Named) (old new : RequestView) (x : HeldLatch) (found : Bool) → IsAsked s n old new x.by found → IsBlocker s n x →
    found ≡ true → Contains new.poisoned x.by → is_poisoned_in s.names x.by ≡ true
blocker_caused s n old new x found k b t c =
    let w = open_name s.history s.names x.by k.valid b.met.begun b.open_still in
    let other : w.0.id ≢ n.id = λ e. b.met.other (sym w.2 ∙ e) in
    poisoned_from s.names w.0 x.by w.1 w.2 (has_one w.0.cause (k.right t w.0 w.1 other w.3 w.2 c))

blocker_sound : (s : State) (n : Named) (old new : RequestView) (x : HeldLatch) (found : Bool) → IsAsked s n old new x.by found → IsBlocker s n x →
    (Contains old.poisoned x.by → Contains new.ended x.by) → is_poisoned_in s.names x.by ≡ false
blocker_sound s n old new x found k b f = not_true (is_poisoned_in s.names x.by) (λ e.
    let w = open_name s.history s.names x.by k.valid b.met.begun b.open_still in
    let v = poisoned_name s.names x.by e in
    let same : v.0 ≡ w.0 = one_name s.names v.0 w.0 k.valid.rising v.1 w.1 (v.2 ∙ sym w.2) in
    let other : w.0.id ≢ n.id = λ g. b.met.other (sym w.2 ∙ g) in
    let c : w.0.cause ≢ no_cause = caused w.0.cause (ap (λ (m : Named). has_cause m.cause) (sym same) ∙ v.3) in
    let known : Contains old.poisoned x.by = subst (λ p. Contains old.poisoned p) w.2 (k.heard w.0 w.1 other w.3 c) in
    clash (k.ended x.by (f known)) b.open_still)

-- A request's begin is not changed by a poll, and its cause is this.
fits_again : (s : State) (n m : Named) (old r : RequestView) (c : Cause) → FitsRequest s.history n old →
    r.id ≡ old.id → r.request.policy ≡ old.request.policy → r.request.latches ≡ old.request.latches → r.shot ≡ old.shot → r.cause ≡ c →
    m.id ≡ n.id → m.policy ≡ n.policy → m.cause ≡ c → FitsRequest s.history m r
fits_again s n m old r c f a b d e g i p q = record {
  id = a ∙ f.id ∙ sym i;
  policy = b ∙ f.policy ∙ sym p;
  latches = d ∙ f.latches ∙ ap (λ j. latches_of s.history j) (sym i);
  shot = e ∙ f.shot ∙ ap (λ j. shot s.history j) (sym i);
  cause = g ∙ sym q;
}

-- What a poll leaves of the request, and what it is when the turn is over.
pub record IsLeft (old new r : RequestView) : Type 0 where
  pub id : r.id ≡ old.id
  pub request : r.request ≡ old.request
  pub shot : r.shot ≡ old.shot
  pub cause : r.cause ≡ new.cause

fits_left : (s : State) (n : Named) (old new r : RequestView) → FitsRequest s.history n old → IsLeft old new r → new.cause ≡ old.cause →
    FitsRequest s.history n r
fits_left s n old new r f l e =
    fits_again s n n old r n.cause f l.id (ap (λ q. q.policy) l.request) (ap (λ q. q.latches) l.request) l.shot (l.cause ∙ e ∙ f.cause) refl refl refl

pub asked_ready : (s : State) (n : Named) (old new : WaitingSays) (end : WaitingSays) (first : WaitingSays) → IsAsked s n old.r new.r 0 false →
    IsReadyPoll old new → IsLeft old.r new.r end.r → IsReady new.r → waits_for new.r ≡ waits_for old.r → end.last ≡ new.last →
    end.r.shown ≡ s.history → AskedReady s n first end
asked_ready s n old new end first k p l ready same last shown = record {
  last = last ∙ p.last;
  nothing = ap (λ ys. filter (λ (y : HeldLatch). not (has_ended s.history y.by)) ys) (sym (waits_are s.history n old.r k.fits) ∙ sym same)
      ∙ none_left (λ (y : HeldLatch). not (has_ended s.history y.by)) (waits_for new.r)
      (λ y m. ap not (k.ended y.by (ready y.by y.lane (y, Contains-from_In (waits_for new.r) y m, refl, refl))));
  fits = fits_left s n old.r new.r end.r k.fits l p.same_cause;
  shown = shown;
}

-- Blocked: by one without a cause, or by one with a cause under the policy to wait.
spread_fits : (s : State) (n : Named) (old new r : RequestView) (p : ℕ) → FitsRequest s.history n old → IsLeft old new r →
    new.cause ≡ first_cause old.cause (From p) → FitsRequest s.history (spread_to n p) r
spread_fits s n old new r p f l e = by n.cause refl
  where
    cause_is : r.cause ≡ first_cause n.cause (From p)
    cause_is = l.cause ∙ e ∙ ap (λ c. first_cause c (From p)) f.cause

    by : (c : Cause) → n.cause ≡ c → FitsRequest s.history (spread_to n p) r
    by no_cause g =
        subst (λ (m : Named). FitsRequest s.history m r) (sym (ap (λ c. cond (has_cause c) n (record n { cause = From p })) g))
        (fits_again s n (record n { cause = From p }) old r (From p) f l.id (ap (λ q. q.policy) l.request) (ap (λ q. q.latches) l.request) l.shot
        (cause_is ∙ ap (λ c. first_cause c (From p)) g) refl refl refl)
    by Called g =
        subst (λ (m : Named). FitsRequest s.history m r) (sym (ap (λ c. cond (has_cause c) n (record n { cause = From p })) g))
        (fits_again s n n old r n.cause f l.id (ap (λ q. q.policy) l.request) (ap (λ q. q.latches) l.request) l.shot
        (cause_is ∙ ap (λ c. first_cause c (From p)) g ∙ sym g) refl refl refl)
    by (From q) g =
        subst (λ (m : Named). FitsRequest s.history m r) (sym (ap (λ c. cond (has_cause c) n (record n { cause = From p })) g))
        (fits_again s n n old r n.cause f l.id (ap (λ q. q.policy) l.request) (ap (λ q. q.latches) l.request) l.shot
        (cause_is ∙ ap (λ c. first_cause c (From p)) g ∙ sym g) refl refl refl)

pub record FoundAs (s : State) (n : Named) (x : HeldLatch) (r : RequestView) : Type 0 where
  pub policy : is_poisoned_in s.names x.by ≡ true → n.policy ≡ Wait
  pub fits : FitsRequest s.history (spread_if (is_poisoned_in s.names x.by) n x.by) r

found_sound : (s : State) (n : Named) (old new r : RequestView) (x : HeldLatch) (found : Bool) → IsAsked s n old new x.by found → IsBlocker s n x →
    IsLeft old new r → FoundSound old new x.by → FoundAs s n x r
found_sound s n old new r x found k b l f =
    let no_poison : is_poisoned_in s.names x.by ≡ false = blocker_sound s n old new x found k b f.2 in
    record {
      policy = λ e. absurd (clash e no_poison);
      fits = subst (λ t. FitsRequest s.history (spread_if t n x.by) r) (sym no_poison) (fits_left s n old new r k.fits l f.0);
    }

caused_first : (c : Cause) (p : ℕ) → not (is_none (first_cause c (From p))) ≡ true
caused_first no_cause p = refl
caused_first Called p = refl
caused_first (From q) p = refl

found_poisoned : (s : State) (n : Named) (old new r : RequestView) (x : HeldLatch) → IsAsked s n old new x.by (not (is_none new.cause)) → IsBlocker s n x →
    IsLeft old new r → n.policy ≡ Wait → FoundPoisoned old new x.by → FoundAs s n x r
found_poisoned s n old new r x k b l p f =
    let found : not (is_none new.cause) ≡ true = ap (λ c. not (is_none c)) f.1 ∙ caused_first old.cause x.by in
    record {
      policy = λ e. p;
      fits = subst (λ t. FitsRequest s.history (spread_if t n x.by) r) (sym (blocker_caused s n old new x (not (is_none new.cause)) k b found f.0))
          (spread_fits s n old new r x.by k.fits l f.1);
    }

found_as : (s : State) (n : Named) (old new r : RequestView) (x : HeldLatch) (policy : Policy) → IsAsked s n old new x.by (not (is_none new.cause)) →
    IsBlocker s n x → IsLeft old new r → n.policy ≡ policy → BlockedUnder policy old new x.by → FoundAs s n x r
found_as s n old new r x Wait k b l p f =
    ⊎_elim (λ g. found_poisoned s n old new r x k b l p g) (λ g. found_sound s n old new r x (not (is_none new.cause)) k b l g) f
found_as s n old new r x Error k b l p f = found_sound s n old new r x (not (is_none new.cause)) k b l f

pub asked_blocked : (s : State) (n : Named) (by place : ℕ) (first old new end : WaitingSays) → (p : IsBlockedPoll old new by place) →
    IsAsked s n old.r new.r by (not (is_none new.r.cause)) → IsLeft old.r new.r end.r → end.last ≡ new.last → end.turns ≡ new.turns → old.turns ≡ first.turns →
    AskedBlocked s n by first end
asked_blocked s n by place first old new end p k l last turns same =
    let x : HeldLatch = p.latch in
    let b = blocker_is s n old.r new.r x k.fits k.shown k.ended p.first in
    let here : IsAsked s n old.r new.r x.by (not (is_none new.r.cause)) = subst (λ q. IsAsked s n old.r new.r q (not (is_none new.r.cause))) p.whose k in
    let found = found_as s n old.r new.r end.r x n.policy here b l refl
    (subst (λ q. BlockedUnder q old.r new.r x.by) k.fits.policy (subst (λ q. BlockedUnder old.r.request.policy old.r new.r q) p.whose p.found)) in
    record {
      latch = x;
      rest = b.rest;
      whose = p.whose;
      last = last ∙ p.last;
      first = b.first;
      shown_normal = b.met.shown_normal;
      turns = turns ∙ p.turns ∙ ap (λ t. min (t + 1) (2 ^ 64 - 1)) same;
      policy = found.policy;
      fits = found.fits;
    }

pub asked_poisoned : (s : State) (n : Named) (by place : ℕ) (first old new end : WaitingSays) → (p : IsPoisonedPoll old new by place) →
    IsAsked s n old.r new.r by true → IsLeft old.r new.r end.r → end.last ≡ new.last → AskedPoisoned s n by first end
asked_poisoned s n by place first old new end p k l last =
    let x : HeldLatch = p.latch in
    let b = blocker_is s n old.r new.r x k.fits k.shown k.ended p.first in
    let here : IsAsked s n old.r new.r x.by true = subst (λ q. IsAsked s n old.r new.r q true) p.whose k in
    record {
      latch = x;
      rest = b.rest;
      whose = p.whose;
      last = last ∙ p.last;
      first = b.first;
      shown_normal = b.met.shown_normal;
      poisoned = blocker_caused s n old.r new.r x true here b refl (subst (λ q. Contains new.r.poisoned q) p.whose p.found);
      policy = sym k.fits.policy ∙ p.policy;
      fits = fits_left s n old.r new.r end.r k.fits l p.same_cause;
    }

waits_same : (old new : RequestView) (ended poisoned : List ℕ) (cause : Cause) → new ≡ record old { ended = ended; poisoned = poisoned; cause = cause } →
    waits_for new ≡ waits_for old
waits_same old new ended poisoned cause e = ap (λ (r : RequestView). waits_for r) e

asked_as : (s : State) (n : Named) (first old new end : WaitingSays) (p : Polled) → SameBut old new → Polls old new p →
    IsAsked s n old.r new.r (blocker p) (may_be_poisoned p new.r.cause) → IsLeft old.r new.r end.r → end.last ≡ new.last → end.turns ≡ new.turns →
    old.turns ≡ first.turns → end.r.shown ≡ s.history → Asked s n first end p
asked_as s n first old new end polled.Ready b p k l last turns same shown =
    asked_ready s n old new end first k p l p.ready (waits_same old.r new.r _ _ _ b.request) last shown
asked_as s n first old new end (polled.Blocked by place) b p k l last turns same shown = asked_blocked s n by place first old new end p k l last turns same
asked_as s n first old new end (polled.Poisoned by place) b p k l last turns same shown = asked_poisoned s n by place first old new end p k l last

-- The whole of an asking: told, heard, polled, heard again and told again.
pub asked_whole : (s : State) (i : ℕ) (n : Named) (r : RunSays) (ls : List LiveSays) (w0 w1 w2 w3 w4 w5 : WaitingSays) (p : Polled)
    (first_log last_log : List Entry) (ps qs : List ℕ) → StandsBut i s r → slice_get s.names i ≡ Some n → FitsRequest s.history n w0.r →
    first_log ≡ r.log → w1 ≡ record w0 { r = shown_to first_log w0.r } → w2 ≡ record w1 { r = warned ps w1.r } →
    EachRequest (KnowsOf w2.r) r.lives → AreWarned r.lives ls → SameBut w2 w3 → Polls w2 w3 p → w4 ≡ record w3 { r = warned qs w3.r } →
    (may_be_poisoned p w3.r.cause ≡ true → AreHeard (blocker p) w3.r w4.r ls) →
    last_log ≡ r.log → w5 ≡ record w4 { r = shown_to last_log w4.r } → ((q : ℕ) → Contains w4.r.ended q → has_ended last_log q ≡ true) → Asked s n w0 w5 p
asked_whole s i n r ls w0 w1 w2 w3 w4 w5 p first_log last_log ps qs h at f a e1 e2 knows warned_lives b polls e4 again z e5 ended =
    asked_as s n w0 w2 w3 w5 p b polls (record {
      valid = h.valid;
      fits = record {
        id = ap (λ (w : WaitingSays). w.r.id) e2 ∙ ap (λ (w : WaitingSays). w.r.id) e1 ∙ f.id;
        policy = ap (λ (w : WaitingSays). w.r.request.policy) e2 ∙ ap (λ (w : WaitingSays). w.r.request.policy) e1 ∙ f.policy;
        latches = ap (λ (w : WaitingSays). w.r.request.latches) e2 ∙ ap (λ (w : WaitingSays). w.r.request.latches) e1 ∙ f.latches;
        shot = ap (λ (w : WaitingSays). w.r.shot) e2 ∙ ap (λ (w : WaitingSays). w.r.shot) e1 ∙ f.shot;
        cause = ap (λ (w : WaitingSays). w.r.cause) e2 ∙ ap (λ (w : WaitingSays). w.r.cause) e1 ∙ f.cause;
      };
      shown = ap (λ (w : WaitingSays). w.r.shown) e2 ∙ ap (λ (w : WaitingSays). w.r.shown) e1 ∙ a ∙ h.history;
      heard = λ m k d o c. known_name s.history w2.r m (request_of (KnowsOf w2.r) s.history i s.names r.lives n m h.names at knows k d o) c;
      right = λ t m k d o e c. right_name s.history (blocker p) w3.r w4.r m
          (request_of (HeardOf (blocker p) w3.r w4.r) s.history i s.names ls n m (but_warned s.history i s.names r.lives ls warned_lives h.names)
          at (again t) k d o) e c;
      ended = λ q c. ap (λ (g : List Entry). has_ended g q) (sym (z ∙ h.history))
          ∙ ended q (subst (λ xs. Contains xs q) (sym (ap (λ (w : WaitingSays). w.r.ended) e4)) c);
    }) (record {
      id = ap (λ (w : WaitingSays). w.r.id) e5 ∙ ap (λ (w : WaitingSays). w.r.id) e4 ∙ ap (λ (q : RequestView). q.id) b.request;
      request = ap (λ (w : WaitingSays). w.r.request) e5 ∙ ap (λ (w : WaitingSays). w.r.request) e4 ∙ ap (λ (q : RequestView). q.request) b.request;
      shot = ap (λ (w : WaitingSays). w.r.shot) e5 ∙ ap (λ (w : WaitingSays). w.r.shot) e4 ∙ ap (λ (q : RequestView). q.shot) b.request;
      cause = ap (λ (w : WaitingSays). w.r.cause) e5 ∙ ap (λ (w : WaitingSays). w.r.cause) e4;
    })
    (ap (λ (w : WaitingSays). w.last) e5 ∙ ap (λ (w : WaitingSays). w.last) e4)
    (ap (λ (w : WaitingSays). w.turns) e5 ∙ ap (λ (w : WaitingSays). w.turns) e4)
    (ap (λ (w : WaitingSays). w.turns) e2 ∙ ap (λ (w : WaitingSays). w.turns) e1)
    (ap (λ (w : WaitingSays). w.r.shown) e5 ∙ z ∙ h.history)

pub last_is : (old new end : WaitingSays) (p : Polled) → Polls old new p → end.last ≡ new.last → LastIs end p
last_is old new end polled.Ready k e = e ∙ k.last
last_is old new end (polled.Blocked by place) k e = (k.latch, e ∙ k.last)
last_is old new end (polled.Poisoned by place) k e = (k.latch, e ∙ k.last, sym k.whose)
