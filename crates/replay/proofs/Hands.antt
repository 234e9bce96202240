-- What a session has in hand, as its block gets one more command: which commands leave it as it is, and what a poisoning, a check, a wait and
-- a release make of it.
use Rattle.std.proofs.Common.{◌≡◌, ℕ, ◌||◌, Bool, true, false, List, ◌++◌, Option, refl, sym, ◌∙◌, ap, subst}
use Rattle.std.specs.Bool.{MatchBool}
use Rattle.latch_model.specs.Histories.{Begin, HeldLatch, in_front, latches_held}
use Rattle.latch_model.specs.declared.history.Cause.{Cause}
use Rattle.latch_model.specs.declared.history.Cause.TheVariants.{None as no_cause, Called, From}
use Rattle.latch_model.specs.declared.history.Entry.{Entry}
use Rattle.latch_model.specs.declared.history.Fault.{Fault}
use Rattle.latch_model.specs.declared.history.Fault.TheVariants.{None as no_fault, Poisoned, Cancelled}
use Rattle.latch_model.specs.declared.history.Grant.{Grant}
use Rattle.latch_model.specs.declared.history.Grant.TheVariants.{Never, Waited, Checked}
use Rattle.latch_model.specs.declared.latch.Latch.{Latch}
use Rattle.latch_model.specs.declared.latch.Mode.{Mode}
use Rattle.latch_model.specs.declared.latch.Mode.TheVariants.{Acquire, Optimistic, Look}
use Rattle.latch_model.proofs.Growing.{begin_with-append, shot-append}
use Rattle.script.specs.Follows.{AnyCause, Block, CauseOfAnother, EndEntry, EndsAs, MadeBy, NoCause, OwnCause, WaitEnds, called_cause}
use Rattle.script.specs.Follows.{has_wait, is_called, is_early, is_poison, is_wait, passed_behind, passed_grant, passed_in}
use Rattle.script.specs.declared.command.Command.{Command}
use Rattle.signal_board.specs.Rule.{begun_as}
use Rattle.signal_board.specs.Says.{first_cause}
use Rattle.waiter.specs.Says.{GrantedSays, OptimistSays}
use Rattle.replay.specs.Blocks.{with_more}
use Rattle.replay.specs.Sessions.{FailedWait, HeldCause, IsChecking, IsHolding, IsOver, OverBy}
use Rattle.replay.proofs.Made.{called-more, early-kept, passed-grown, passed-more, waits-more}

or_false : (x y : Bool) → y ≡ false → (x || y) ≡ x
or_false true y e = refl
or_false false y e = e

or_true : (x y : Bool) → y ≡ true → (x || y) ≡ true
or_true true y e = refl
or_true false y e = e

-- ---- what stays

called-quiet : (b : Block) (c : Command) → is_poison c ≡ false → is_called (with_more b c) ≡ is_called b
called-quiet b c quiet = called-more b c ∙ or_false (is_called b) (is_poison c) quiet

still_waits : (b : Block) (c : Command) → has_wait b ≡ true → has_wait (with_more b c) ≡ true
still_waits b c w = waits-more b c ∙ ap (λ (x : Bool). x || is_wait c) w

pub checking-quiet : (h : List Entry) (b : Block) (c : Command) (o : OptimistSays) → is_poison c ≡ false → is_wait c ≡ false →
    ((declared : List Latch) (held : List HeldLatch) (before : Option (List Latch)) → passed_behind declared held c before ≡ before) →
    IsChecking h b o → IsChecking h (with_more b c) o
checking-quiet h b c o quiet waits passes k = record {
  begun = k.begun;
  mode = k.mode;
  is_optimistic = k.is_optimistic;
  declared = k.declared;
  waits = waits-more b c ∙ (or_false (has_wait b) (is_wait c) waits ∙ k.waits);
  cause = k.cause ∙ ap called_cause (sym (called-quiet b c quiet));
  shot_is = k.shot_is;
  passed = k.passed ∙ sym (passed-more h o.r.id b c ∙ passes b.latches (latches_held (in_front h o.r.id)) (passed_in h o.r.id b));
}

held_quiet : (mode : Mode) (b : Block) (c : Command) (cause : Cause) → is_poison c ≡ false → HeldCause mode b cause → HeldCause mode (with_more b c) cause
held_quiet Acquire b c cause quiet k = subst (λ (x : Bool). AnyCause x cause) (sym (called-quiet b c quiet)) k
held_quiet Optimistic b c cause quiet k = (
  still_waits b c k.0,
  subst (λ (x : Bool). MatchBool x (OwnCause cause) (AnyCause (is_called (with_more b c)) cause)) (sym (early-kept b c k.0))
      (subst (λ (x : Bool). MatchBool (is_early b) (OwnCause cause) (AnyCause x cause)) (sym (called-quiet b c quiet)) k.1),
)
held_quiet Look b c cause quiet k = absurd k

pub holding-quiet : (h : List Entry) (b : Block) (c : Command) (g : GrantedSays) → is_poison c ≡ false → IsHolding h b g → IsHolding h (with_more b c) g
holding-quiet h b c g quiet k = record {
  begun = k.begun;
  mode = k.mode;
  declared = k.declared;
  granted = k.granted;
  cause = held_quiet b.mode b c g.r.cause quiet k.cause;
}

over_more : (mode : Mode) (b : Block) (c : Command) (grant : Grant) (fault : Fault) (cause : Cause) → OverBy mode b grant fault cause
    → OverBy mode (with_more b c) grant fault cause
over_more Acquire b c grant fault cause k = k
over_more Optimistic b c grant fault cause k = (
  still_waits b c k.0,
  subst (λ (x : Bool). MatchBool x (FailedWait b.turns OwnCause OwnCause grant fault cause) (FailedWait b.turns NoCause CauseOfAnother grant fault cause))
      (sym (early-kept b c k.0)) k.1,
)
over_more Look b c grant fault cause k = k

pub over-more : (h : List Entry) (b : Block) (c : Command) (begun : Begin) (e : EndEntry) → IsOver h b begun e → IsOver h (with_more b c) begun e
over-more h b c begun e k = record {
  begun_so = k.begun_so;
  mode = k.mode;
  declared = k.declared;
  same_request = k.same_request;
  ended = over_more b.mode b c e.grant e.fault e.cause k.ended;
}

-- ---- a longer history

pub checking-grown : (h more : List Entry) (b : Block) (o : OptimistSays) → IsChecking h b o → IsChecking (h ++ more) b o
checking-grown h more b o k = record {
  begun = begin_with-append h more o.r.id (begun_as o.r) k.begun;
  mode = k.mode;
  is_optimistic = k.is_optimistic;
  declared = k.declared;
  waits = k.waits;
  cause = k.cause;
  shot_is = k.shot_is ∙ sym (shot-append h more o.r.id (begun_as o.r) k.begun);
  passed = k.passed ∙ sym (passed-grown h more o.r.id (begun_as o.r) k.begun b);
}

pub holding-grown : (h more : List Entry) (b : Block) (g : GrantedSays) → IsHolding h b g → IsHolding (h ++ more) b g
holding-grown h more b g k = record {
  begun = begin_with-append h more g.r.id (begun_as g.r) k.begun;
  mode = k.mode;
  declared = k.declared;
  granted = k.granted;
  cause = k.cause;
}

pub over-grown : (h more : List Entry) (b : Block) (begun : Begin) (e : EndEntry) → IsOver h b begun e → IsOver (h ++ more) b begun e
over-grown h more b begun e k = record {
  begun_so = begin_with-append h more begun.id begun k.begun_so;
  mode = k.mode;
  declared = k.declared;
  same_request = k.same_request;
  ended = k.ended;
}

-- ---- a poisoning

first_called : (x : Bool) → first_cause (called_cause x) Called ≡ Called
first_called true = refl
first_called false = refl

pub checking-poisoned : (h : List Entry) (b : Block) (c : Command) (o : OptimistSays) → is_poison c ≡ true → is_wait c ≡ false →
    ((declared : List Latch) (held : List HeldLatch) (before : Option (List Latch)) → passed_behind declared held c before ≡ before) →
    IsChecking h b o → IsChecking h (with_more b c) (record o { r = record o.r { cause = first_cause o.r.cause Called } })
checking-poisoned h b c o poisons waits passes k = record {
  begun = k.begun;
  mode = k.mode;
  is_optimistic = k.is_optimistic;
  declared = k.declared;
  waits = waits-more b c ∙ (or_false (has_wait b) (is_wait c) waits ∙ k.waits);
  cause =
      ap (λ (x : Cause). first_cause x Called) k.cause
      ∙ (first_called (is_called b) ∙ sym (ap called_cause (called-more b c ∙ or_true (is_called b) (is_poison c) poisons)));
  shot_is = k.shot_is;
  passed = k.passed ∙ sym (passed-more h o.r.id b c ∙ passes b.latches (latches_held (in_front h o.r.id)) (passed_in h o.r.id b));
}

any_called : (called : Bool) (cause : Cause) → AnyCause called cause → AnyCause true (first_cause cause Called)
any_called called no_cause k = refl
any_called called Called k = refl
any_called called (From p) k = tt

own_called : (cause : Cause) → OwnCause cause → OwnCause (first_cause cause Called)
own_called cause k = ap (λ (x : Cause). first_cause x Called) k

either_called : (early called : Bool) (cause : Cause) → MatchBool early (OwnCause cause) (AnyCause called cause) →
    MatchBool early (OwnCause (first_cause cause Called)) (AnyCause true (first_cause cause Called))
either_called true called cause k = own_called cause k
either_called false called cause k = any_called called cause k

held_poisoned : (mode : Mode) (b : Block) (c : Command) (cause : Cause) → is_poison c ≡ true → HeldCause mode b cause
    → HeldCause mode (with_more b c) (first_cause cause Called)
held_poisoned Acquire b c cause poisons k =
    subst (λ (x : Bool). AnyCause x (first_cause cause Called)) (sym (called-more b c ∙ or_true (is_called b) (is_poison c) poisons))
    (any_called (is_called b) cause k)
held_poisoned Optimistic b c cause poisons k = (
  still_waits b c k.0,
  subst (λ (x : Bool). MatchBool x (OwnCause (first_cause cause Called)) (AnyCause (is_called (with_more b c)) (first_cause cause Called)))
      (sym (early-kept b c k.0))
      (subst (λ (x : Bool). MatchBool (is_early b) (OwnCause (first_cause cause Called)) (AnyCause x (first_cause cause Called)))
      (sym (called-more b c ∙ or_true (is_called b) (is_poison c) poisons)) (either_called (is_early b) (is_called b) cause k.1)),
)
held_poisoned Look b c cause poisons k = absurd k

pub holding-poisoned : (h : List Entry) (b : Block) (c : Command) (g : GrantedSays) → is_poison c ≡ true → IsHolding h b g
    → IsHolding h (with_more b c) (record g { r = record g.r { cause = first_cause g.r.cause Called } })
holding-poisoned h b c g poisons k = record {
  begun = k.begun;
  mode = k.mode;
  declared = k.declared;
  granted = k.granted;
  cause = held_poisoned b.mode b c g.r.cause poisons k.cause;
}

-- ---- the end of a block

holding_ends : (mode : Mode) (b : Block) (passed : Option (List Latch)) (front : ℕ) (cause : Cause) → HeldCause mode b cause
    → EndsAs mode b passed (Waited front) no_fault cause
holding_ends Acquire b passed front cause k = k
holding_ends Optimistic b passed front cause k =
    subst
    (λ (x : Bool). MatchBool x (MatchBool (is_early b) (WaitEnds b.turns OwnCause OwnCause OwnCause (Waited front) no_fault cause)
    (WaitEnds b.turns (AnyCause (is_called b)) NoCause CauseOfAnother (Waited front) no_fault cause))
    ((Waited front ≡ passed_grant passed) × (no_fault ≡ no_fault) × (cause ≡ called_cause (is_called b))))
    (sym k.0) k.1
holding_ends Look b passed front cause k = absurd k

pub holding-ends : (h : List Entry) (b : Block) (g : GrantedSays) (passed : Option (List Latch)) → IsHolding h b g →
    MadeBy b passed (begun_as g.r) (record { id = g.r.id; grant = g.grant; cause = g.r.cause; fault = no_fault })
holding-ends h b g passed k = record {
  mode = k.mode;
  declared = k.declared;
  same_request = refl;
  ends = subst (λ (x : Grant). EndsAs b.mode b passed x no_fault g.r.cause) (sym k.granted.1) (holding_ends b.mode b passed k.granted.0 g.r.cause k.cause);
}

checking_ends : (mode : Mode) (b : Block) (passed : Option (List Latch)) (cause : Cause) → mode ≡ Optimistic → has_wait b ≡ false
    → cause ≡ called_cause (is_called b) → EndsAs mode b passed (passed_grant passed) no_fault cause
checking_ends Optimistic b passed cause e waits caused =
    subst
    (λ (x : Bool). MatchBool x (MatchBool (is_early b) (WaitEnds b.turns OwnCause OwnCause OwnCause (passed_grant passed) no_fault cause)
    (WaitEnds b.turns (AnyCause (is_called b)) NoCause CauseOfAnother (passed_grant passed) no_fault cause))
    ((passed_grant passed ≡ passed_grant passed) × (no_fault ≡ no_fault) × (cause ≡ called_cause (is_called b))))
    (sym waits) (refl, refl, caused)
checking_ends Acquire b passed cause e waits caused = cc
checking_ends Look b passed cause e waits caused = cc

pub checking-ends : (h : List Entry) (b : Block) (o : OptimistSays) → IsChecking h b o →
    MadeBy b (passed_in h o.r.id b) (begun_as o.r) (record { id = o.r.id; grant = passed_grant o.passed; cause = o.r.cause; fault = no_fault })
checking-ends h b o k = record {
  mode = k.is_optimistic ∙ sym k.mode;
  declared = k.declared;
  same_request = refl;
  ends =
      subst (λ (x : Option (List Latch)). EndsAs b.mode b (passed_in h o.r.id b) (passed_grant x) no_fault o.r.cause) (sym k.passed)
      (checking_ends b.mode b (passed_in h o.r.id b) o.r.cause k.mode k.waits k.cause);
}

failed_ends : (turns : Option ℕ) (granted failed cancelled : Cause → Type 0) (grant : Grant) (fault : Fault) (cause : Cause) →
    FailedWait turns failed cancelled grant fault cause → WaitEnds turns granted failed cancelled grant fault cause
failed_ends turns granted failed cancelled Never no_fault cause k = absurd k
failed_ends turns granted failed cancelled Never (Poisoned p) cause k = k
failed_ends turns granted failed cancelled Never (Cancelled n) cause k = k
failed_ends turns granted failed cancelled (Waited f) no_fault cause k = absurd k
failed_ends turns granted failed cancelled (Waited f) (Poisoned p) cause k = absurd k
failed_ends turns granted failed cancelled (Waited f) (Cancelled n) cause k = absurd k
failed_ends turns granted failed cancelled (Checked asked) fault cause k = absurd k

over_ends : (mode : Mode) (b : Block) (passed : Option (List Latch)) (grant : Grant) (fault : Fault) (cause : Cause) → OverBy mode b grant fault cause
    → EndsAs mode b passed grant fault cause
over_ends Acquire b passed grant fault cause k = failed_ends b.turns (AnyCause (is_called b)) NoCause CauseOfAnother grant fault cause k
over_ends Optimistic b passed grant fault cause k =
    subst
    (λ (x : Bool). MatchBool x (MatchBool (is_early b) (WaitEnds b.turns OwnCause OwnCause OwnCause grant fault cause)
    (WaitEnds b.turns (AnyCause (is_called b)) NoCause CauseOfAnother grant fault cause))
    ((grant ≡ passed_grant passed) × (fault ≡ no_fault) × (cause ≡ called_cause (is_called b))))
    (sym k.0) (by (is_early b) k.1)
  where
    by : (early : Bool) → MatchBool early (FailedWait b.turns OwnCause OwnCause grant fault cause) (FailedWait b.turns NoCause CauseOfAnother grant fault cause)
        → MatchBool early (WaitEnds b.turns OwnCause OwnCause OwnCause grant fault cause)
        (WaitEnds b.turns (AnyCause (is_called b)) NoCause CauseOfAnother grant fault cause)
    by true m = failed_ends b.turns OwnCause OwnCause OwnCause grant fault cause m
    by false m = failed_ends b.turns (AnyCause (is_called b)) NoCause CauseOfAnother grant fault cause m
over_ends Look b passed grant fault cause k = k

pub over-ends : (h : List Entry) (b : Block) (begun : Begin) (e : EndEntry) (passed : Option (List Latch)) → IsOver h b begun e → MadeBy b passed begun e
over-ends h b begun e passed k = record {
  mode = k.mode;
  declared = k.declared;
  same_request = k.same_request;
  ends = over_ends b.mode b passed e.grant e.fault e.cause k.ended;
}
