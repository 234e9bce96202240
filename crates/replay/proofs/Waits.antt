-- An optimistic request turns to waiting.
use Rattle.std.proofs.Common.{◌≡◌, ℕ, ◌||◌, Bool, true, false, List, [], ◌∷◌, Some, refl, sym, ◌∙◌, ap, subst}
use Rattle.std.specs.Bool.{MatchBool}
use Rattle.latch_model.specs.Histories.{Begin, begin_with, entry_of}
use Rattle.latch_model.specs.declared.history.Cause.{Cause}
use Rattle.latch_model.specs.declared.history.Fault.{Fault}
use Rattle.latch_model.specs.declared.history.Fault.TheVariants.{Poisoned, Cancelled}
use Rattle.latch_model.specs.declared.history.Grant.TheVariants.{Never}
use Rattle.latch_model.specs.declared.latch.Mode.{Mode}
use Rattle.latch_model.specs.declared.latch.Mode.TheVariants.{Optimistic}
use Rattle.latch_model.specs.declared.latch.Policy.{Policy}
use Rattle.latch_model.specs.declared.latch.Policy.TheVariants.{Error}
use Rattle.script.specs.Follows.{AnyCause, Block, CauseOfAnother, NoCause, OwnCause, called_cause, has_wait, is_called, is_early, is_poison, is_wait}
use Rattle.script.specs.declared.command.Command.{Command}
use Rattle.signal_board.specs.Rule.{begun_as}
use Rattle.signal_board.specs.Says.{PassSays}
use Rattle.signal_board.specs.Views.{PassView, RequestView}
use Rattle.waiter.specs.Says.{CoreId, EndingSays, GrantedSays, OptimistSays, Unpolled}
use Rattle.latch_manager.specs.Making.{Finished, Made}
use Rattle.latch_manager.specs.Waiting.{CauseAfter, CauseFound, StillWaits, WaitGrants}
use Rattle.replay.specs.Blocks.{GrowsBy, with_more}
use Rattle.replay.specs.Sessions.{Checking, FailedWait, HeldCause, Holding, Over, OverBy, Standing}
use Rattle.replay.proofs.Endings.{ends-over}
use Rattle.replay.proofs.Made.{called-more, early-first, waits-more}
use Rattle.replay.proofs.Turns.{busy-more, checking-is_open, found_any, found_none, found_other, open-more, still-begun}

-- ---- a block whose first `wait` this is

or_end : (x y : Bool) → y ≡ true → (x || y) ≡ true
or_end true y e = refl
or_end false y e = e

or_none : (x y : Bool) → y ≡ false → (x || y) ≡ x
or_none true y e = refl
or_none false y e = e

now_waits : (b : Block) (c : Command) → is_wait c ≡ true → has_wait (with_more b c) ≡ true
now_waits b c w = waits-more b c ∙ or_end (has_wait b) (is_wait c) w

same_called : (b : Block) (c : Command) → is_poison c ≡ false → is_called (with_more b c) ≡ is_called b
same_called b c quiet = called-more b c ∙ or_none (is_called b) (is_poison c) quiet

-- Where it was called before, the cause that came stays; else one may be found.
held_turned : (r : RequestView) (policy : Policy) (cause : Cause) (x : Bool) → CauseFound r (called_cause x) policy cause
    → MatchBool x (OwnCause cause) (AnyCause x cause)
held_turned r policy cause true k = k
held_turned r policy cause false k = found_any r policy cause k

failed_turned : (r : RequestView) (policy : Policy) (cause : Cause) (x : Bool) → policy ≡ Error → CauseFound r (called_cause x) policy cause
    → MatchBool x (OwnCause cause) (NoCause cause)
failed_turned r policy cause true e k = k
failed_turned r policy cause false e k = found_none r policy cause e k

stopped_turned : (r : RequestView) (policy : Policy) (cause : Cause) (x : Bool) → CauseFound r (called_cause x) policy cause
    → MatchBool x (OwnCause cause) (CauseOfAnother cause)
stopped_turned r policy cause true k = k
stopped_turned r policy cause false k = found_other r policy cause k

came_with : (b : Block) (r : RequestView) (cause : Cause) → r.cause ≡ called_cause (is_called b) → CauseAfter r cause
    → CauseFound r (called_cause (is_called b)) r.request.policy cause
came_with b r cause e k = subst (λ (c : Cause). CauseFound r c r.request.policy cause) e k

by_mode : (mode : Mode) (b : Block) (cause : Cause) → mode ≡ Optimistic → HeldCause Optimistic b cause → HeldCause mode b cause
by_mode mode b cause e k = subst (λ (m : Mode). HeldCause m b cause) (sym e) k

-- ---- the wait

-- A wait of the optimistic request in hand that grants.
pub turned-holds : (core : CoreId) (p : PassView) (bs ds : List Block) (c : Command) → GrowsBy c bs ds → is_wait c ≡ true → is_poison c ≡ false →
    (o : OptimistSays) → Standing core p bs (Checking o) → (g : GrantedSays) →
    WaitGrants (record { core = o.core; r = o.r; turns = 0; last = Unpolled }) g → Standing core p ds (Holding g)
turned-holds core p bs ds c grows waits quiet o s g w =
    let same : begun_as g.r ≡ begun_as o.r = ap (λ (x : GrantedSays). begun_as x.r) w.granted_is ∙ still-begun o.r w.r w.still in
    record {
      each = s.each;
      stands = busy-more core p bs ds c grows (Checking o) (Holding g) s.stands (λ last own u. (
        record {
          begun = subst (λ (x : Begin). begin_with p.shown x.id ≡ Some x) (sym same) u.0.begun;
          mode = ap (λ (x : Begin). x.mode) same ∙ (u.0.is_optimistic ∙ sym u.0.mode);
          declared = ap (λ (x : Begin). x.request) same ∙ u.0.declared;
          granted = (w.front, ap (λ (x : GrantedSays). x.grant) w.granted_is);
          cause = by_mode last.mode (with_more last c) g.r.cause u.0.mode (holds_so last g.r.cause u.0.waits
              (subst (λ (x : GrantedSays). CauseFound o.r (called_cause (is_called last)) o.r.request.policy x.r.cause) (sym w.granted_is)
              (came_with last o.r w.r.cause u.0.cause w.still.cause)));
        },
        u.1 ∙ ap (λ (x : Begin). entry_of x ∷ []) (sym same),
      ));
      given = (ap (λ (x : GrantedSays). x.core) w.granted_is ∙ s.given.0, ap (λ (x : Begin). x.who) same ∙ s.given.1);
    }
  where
    holds_so : (last : Block) (cause : Cause) → has_wait last ≡ false → CauseFound o.r (called_cause (is_called last)) o.r.request.policy cause
        → HeldCause Optimistic (with_more last c) cause
    holds_so last cause none k = (
      now_waits last c waits,
      subst (λ (x : Bool). MatchBool x (OwnCause cause) (AnyCause (is_called (with_more last c)) cause)) (sym (early-first last c none waits))
          (subst (λ (x : Bool). MatchBool (is_called last) (OwnCause cause) (AnyCause x cause)) (sym (same_called last c quiet))
          (held_turned o.r o.r.request.policy cause (is_called last) k)),
    )

-- One that fails, after which the request was ended.
module _ (made : Made) (old new : PassSays) (bs ds : List Block) (c : Command) (grows : GrowsBy c bs ds) (waits : is_wait c ≡ true)
    (quiet : is_poison c ≡ false) (o : OptimistSays) (s : Standing made.core old.p bs (Checking o)) (ending : EndingSays) (r : RequestView)
    (still : StillWaits o.r r) (same : begun_as ending.r ≡ begun_as r) (cause : ending.r.cause ≡ r.cause) (f : Finished made old ending new) where
  abbrev last : Block
  last = s.stands.last

  came : CauseFound o.r (called_cause (is_called last)) o.r.request.policy ending.r.cause
  came =
      subst (CauseFound o.r (called_cause (is_called last)) o.r.request.policy) (sym cause)
      (came_with last o.r r.cause s.stands.unreleased.0.cause still.cause)

  early : is_early (with_more last c) ≡ is_called last
  early = early-first last c s.stands.unreleased.0.waits waits

  over : OverBy Optimistic (with_more last c) ending.grant ending.fault ending.r.cause → Standing made.core new.p ds Over
  over ends =
      ends-over made old new ds (begun_as o.r) (open-more old.p bs ds c (begun_as o.r) grows (checking-is_open made.core old.p bs o s)) ending f
      (same ∙ still-begun o.r r still)
      (subst (λ (m : Mode). OverBy m (with_more last c) ending.grant ending.fault ending.r.cause) (sym s.stands.unreleased.0.mode) ends)

  over_by : MatchBool (is_called last) (FailedWait last.turns OwnCause OwnCause ending.grant ending.fault ending.r.cause)
      (FailedWait last.turns NoCause CauseOfAnother ending.grant ending.fault ending.r.cause) →
      OverBy Optimistic (with_more last c) ending.grant ending.fault ending.r.cause
  over_by m = (
    now_waits last c waits,
    subst
        (λ (x : Bool). MatchBool x (FailedWait last.turns OwnCause OwnCause ending.grant ending.fault ending.r.cause)
        (FailedWait last.turns NoCause CauseOfAnother ending.grant ending.fault ending.r.cause))
        (sym early) m,
  )

  pub turned-failed : (p : ℕ) → ending.grant ≡ Never → ending.fault ≡ Poisoned p → o.r.request.policy ≡ Error → Standing made.core new.p ds Over
  turned-failed p never fault policy =
      over
      (over_by
      (by (is_called last) (failed_turned o.r o.r.request.policy ending.r.cause (is_called last) policy came) ending.grant ending.fault never fault))
    where
      by : (x : Bool) → MatchBool x (OwnCause ending.r.cause) (NoCause ending.r.cause) → (grant : _) (f : Fault) → grant ≡ Never → f ≡ Poisoned p →
          MatchBool x (FailedWait last.turns OwnCause OwnCause grant f ending.r.cause) (FailedWait last.turns NoCause CauseOfAnother grant f ending.r.cause)
      by true m grant f e g = subst (λ a. FailedWait last.turns OwnCause OwnCause a f ending.r.cause) (sym e)
          (subst (λ (a : Fault). FailedWait last.turns OwnCause OwnCause Never a ending.r.cause) (sym g) m)
      by false m grant f e g = subst (λ a. FailedWait last.turns NoCause CauseOfAnother a f ending.r.cause) (sym e)
          (subst (λ (a : Fault). FailedWait last.turns NoCause CauseOfAnother Never a ending.r.cause) (sym g) m)

  pub turned-stopped : (n : ℕ) → ending.grant ≡ Never → ending.fault ≡ Cancelled n → last.turns ≡ Some n → Standing made.core new.p ds Over
  turned-stopped n never fault turns =
      over (over_by (by (is_called last) (stopped_turned o.r o.r.request.policy ending.r.cause (is_called last) came) ending.grant ending.fault never fault))
    where
      by : (x : Bool) → MatchBool x (OwnCause ending.r.cause) (CauseOfAnother ending.r.cause) → (grant : _) (f : Fault) → grant ≡ Never → f ≡ Cancelled n →
          MatchBool x (FailedWait last.turns OwnCause OwnCause grant f ending.r.cause) (FailedWait last.turns NoCause CauseOfAnother grant f ending.r.cause)
      by true m grant f e g = subst (λ a. FailedWait last.turns OwnCause OwnCause a f ending.r.cause) (sym e)
          (subst (λ (a : Fault). FailedWait last.turns OwnCause OwnCause Never a ending.r.cause) (sym g) (turns, m))
      by false m grant f e g = subst (λ a. FailedWait last.turns NoCause CauseOfAnother a f ending.r.cause) (sym e)
          (subst (λ (a : Fault). FailedWait last.turns NoCause CauseOfAnother Never a ending.r.cause) (sym g) (turns, m))
