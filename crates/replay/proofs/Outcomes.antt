-- What waits that failed leave of a session, by their faults.
use Rattle.std.proofs.Common.{◌≡◌, ℕ, true, false, List, [], ◌∷◌, ◌++◌, Option, Some, None, sym, ◌∙◌}
use Rattle.std.proofs.Common.{ap, subst, arith}
use Rattle.latch_model.specs.declared.history.Fault.{Fault}
use Rattle.latch_model.specs.declared.history.Fault.TheVariants.{None as no_fault, Poisoned, Cancelled}
use Rattle.latch_model.specs.declared.history.Grant.{Grant}
use Rattle.latch_model.specs.declared.history.Grant.TheVariants.{Never, Waited}
use Rattle.latch_model.specs.declared.latch.Latch.{Latch}
use Rattle.latch_model.specs.declared.latch.Mode.TheVariants.{Acquire, Look}
use Rattle.latch_model.specs.declared.latch.Policy.{Policy}
use Rattle.script.specs.Follows.{Block, CauseOfAnother, NoCause, declaration_of, is_poison, is_wait}
use Rattle.script.specs.declared.command.Command.{Command}
use Rattle.signal_board.specs.Rule.{begun_as}
use Rattle.signal_board.specs.Says.{PassSays}
use Rattle.waiter.specs.Says.{EndingSays, GrantedSays, OpenedSays, OptimistSays, Unpolled, WaitingSays}
use Rattle.waiter.specs.declared.mark.Mark.{Mark}
use Rattle.latch_manager.specs.Making.{Began, Finished, Made, done_with, unpolled}
use Rattle.latch_manager.specs.Patience.{Refused}
use Rattle.latch_manager.specs.Waiting.{AtLimit, WaitGrants, WaitMeets, WaitStops}
use Rattle.replay.specs.Blocks.{GrowsBy, new_block}
use Rattle.replay.specs.Sessions.{Checking, Idle, Over, OverBy, PatienceOf, Standing}
use Rattle.replay.proofs.Turns.{opened-failed, opened-found, opened-over}
use Rattle.replay.proofs.Waits.{turned-failed, turned-stopped}

-- ---- the turns after which a wait was cancelled

-- a wait without an end is never cancelled; one with so many turns after exactly these
pub cancelled_after : (turns : Option ℕ) (before now : ℕ) (limit : Option ℕ) (n : ℕ) → PatienceOf turns before now limit → Refused before now
    → AtLimit limit 0 n → turns ≡ Some n
cancelled_after None before now limit n of refused at = absurd (let a : before ≡ 0 = of.0 in let b : now ≡ 0 = of.1 in omega (arith, refused))
cancelled_after (Some m) before now limit n of refused at = ap Some (sym (at m of.0 of.1))

-- ---- an opening whose wait failed

module _ (made : Made) (old mid new : PassSays) (line : ℕ) (policy : Policy) (turns : Option ℕ) (latches : List Latch) (bs : List Block)
    (s : Standing made.core old.p bs Idle) (opened : OpenedSays) (ending : EndingSays) (f : Finished made mid ending new) where
  module _ (k : Began made old Acquire (declaration_of (new_block line Acquire policy turns latches)) opened mid) where
    abbrev block : Block
    block = new_block line Acquire policy turns latches

    pub acquired-failed : (mark : Mark) → WaitMeets (unpolled opened) mark ending →
        Standing made.core new.p (bs ++ new_block line Acquire policy turns latches ∷ []) Over
    acquired-failed mark w =
        opened-over made old mid new block opened k bs s ending w.r w.still (ap (λ (x : EndingSays). begun_as x.r) w.ending_is)
        (ap (λ (x : EndingSays). x.r.cause) w.ending_is) f
        (by ending.grant ending.fault (ap (λ (x : EndingSays). x.grant) w.ending_is) (ap (λ (x : EndingSays). x.fault) w.ending_is))
      where
        none : NoCause ending.r.cause
        none =
            opened-failed made old mid new block opened k bs s ending w.r w.still (ap (λ (x : EndingSays). begun_as x.r) w.ending_is)
            (ap (λ (x : EndingSays). x.r.cause) w.ending_is) f w.policy

        by : (grant : Grant) (fault : Fault) → grant ≡ Never → fault ≡ Poisoned mark.by → OverBy Acquire block grant fault ending.r.cause
        by grant fault e g = subst (λ (x : Grant). OverBy Acquire block x fault ending.r.cause) (sym e)
            (subst (λ (x : Fault). OverBy Acquire block Never x ending.r.cause) (sym g) none)

    pub acquired-stopped : (n : ℕ) (limit : Option ℕ) → WaitStops (unpolled opened) n limit ending → turns ≡ Some n →
        Standing made.core new.p (bs ++ new_block line Acquire policy turns latches ∷ []) Over
    acquired-stopped n limit w is =
        opened-over made old mid new block opened k bs s ending w.r w.still (ap (λ (x : EndingSays). begun_as x.r) w.ending_is)
        (ap (λ (x : EndingSays). x.r.cause) w.ending_is) f
        (by ending.grant ending.fault (ap (λ (x : EndingSays). x.grant) w.ending_is) (ap (λ (x : EndingSays). x.fault) w.ending_is))
      where
        found : CauseOfAnother ending.r.cause
        found =
            opened-found made old mid new block opened k bs s ending w.r w.still (ap (λ (x : EndingSays). begun_as x.r) w.ending_is)
            (ap (λ (x : EndingSays). x.r.cause) w.ending_is) f

        by : (grant : Grant) (fault : Fault) → grant ≡ Never → fault ≡ Cancelled n → OverBy Acquire block grant fault ending.r.cause
        by grant fault e g = subst (λ (x : Grant). OverBy Acquire block x fault ending.r.cause) (sym e)
            (subst (λ (x : Fault). OverBy Acquire block Never x ending.r.cause) (sym g) (is, found))

  module _ (k : Began made old Look (declaration_of (new_block line Look policy turns latches)) opened mid) where
    abbrev look : Block
    look = new_block line Look policy turns latches

    pub looked-failed : (mark : Mark) → WaitMeets (unpolled opened) mark ending →
        Standing made.core new.p (bs ++ new_block line Look policy turns latches ∷ []) Over
    looked-failed mark w =
        opened-over made old mid new look opened k bs s ending w.r w.still (ap (λ (x : EndingSays). begun_as x.r) w.ending_is)
        (ap (λ (x : EndingSays). x.r.cause) w.ending_is) f
        (by ending.grant ending.fault (ap (λ (x : EndingSays). x.grant) w.ending_is) (ap (λ (x : EndingSays). x.fault) w.ending_is))
      where
        none : NoCause ending.r.cause
        none =
            opened-failed made old mid new look opened k bs s ending w.r w.still (ap (λ (x : EndingSays). begun_as x.r) w.ending_is)
            (ap (λ (x : EndingSays). x.r.cause) w.ending_is) f w.policy

        by : (grant : Grant) (fault : Fault) → grant ≡ Never → fault ≡ Poisoned mark.by → OverBy Look look grant fault ending.r.cause
        by grant fault e g = subst (λ (x : Grant). OverBy Look look x fault ending.r.cause) (sym e)
            (subst (λ (x : Fault). OverBy Look look Never x ending.r.cause) (sym g) none)

    pub looked-stopped : (n : ℕ) (limit : Option ℕ) → WaitStops (unpolled opened) n limit ending → turns ≡ Some n →
        Standing made.core new.p (bs ++ new_block line Look policy turns latches ∷ []) Over
    looked-stopped n limit w is =
        opened-over made old mid new look opened k bs s ending w.r w.still (ap (λ (x : EndingSays). begun_as x.r) w.ending_is)
        (ap (λ (x : EndingSays). x.r.cause) w.ending_is) f
        (by ending.grant ending.fault (ap (λ (x : EndingSays). x.grant) w.ending_is) (ap (λ (x : EndingSays). x.fault) w.ending_is))
      where
        found : CauseOfAnother ending.r.cause
        found =
            opened-found made old mid new look opened k bs s ending w.r w.still (ap (λ (x : EndingSays). begun_as x.r) w.ending_is)
            (ap (λ (x : EndingSays). x.r.cause) w.ending_is) f

        by : (grant : Grant) (fault : Fault) → grant ≡ Never → fault ≡ Cancelled n → OverBy Look look grant fault ending.r.cause
        by grant fault e g = subst (λ (x : Grant). OverBy Look look x fault ending.r.cause) (sym e)
            (subst (λ (x : Fault). OverBy Look look Never x ending.r.cause) (sym g) (is, found))

    -- a look that was granted is ended at once
    pub looked-over : (g : GrantedSays) → WaitGrants (unpolled opened) g → ending ≡ done_with g →
        Standing made.core new.p (bs ++ new_block line Look policy turns latches ∷ []) Over
    looked-over g w is =
        opened-over made old mid new look opened k bs s ending w.r w.still begun cause f
        (by ending.grant ending.fault (ap (λ (x : EndingSays). x.grant) is ∙ ap (λ (x : GrantedSays). x.grant) w.granted_is)
        (ap (λ (x : EndingSays). x.fault) is))
      where
        begun : begun_as ending.r ≡ begun_as w.r
        begun = ap (λ (x : EndingSays). begun_as x.r) is ∙ ap (λ (x : GrantedSays). begun_as x.r) w.granted_is

        cause : ending.r.cause ≡ w.r.cause
        cause = ap (λ (x : EndingSays). x.r.cause) is ∙ ap (λ (x : GrantedSays). x.r.cause) w.granted_is

        by : (grant : Grant) (fault : Fault) → grant ≡ Waited w.front → fault ≡ no_fault → OverBy Look look grant fault ending.r.cause
        by grant fault e h = subst (λ (x : Grant). OverBy Look look x fault ending.r.cause) (sym e)
            (subst (λ (x : Fault). OverBy Look look (Waited w.front) x ending.r.cause) (sym h)
            (opened-found made old mid new look opened k bs s ending w.r w.still begun cause f))

-- ---- an optimistic request that turned to waiting, whose wait failed

module _ (made : Made) (old new : PassSays) (bs ds : List Block) (c : Command) (grows : GrowsBy c bs ds) (waits : is_wait c ≡ true)
    (quiet : is_poison c ≡ false) (o : OptimistSays) (s : Standing made.core old.p bs (Checking o)) (ending : EndingSays)
    (f : Finished made old ending new) where
  abbrev came : WaitingSays
  came = record { core = o.core; r = o.r; turns = 0; last = Unpolled }

  pub turned-over_failed : (mark : Mark) → WaitMeets (record { core = o.core; r = o.r; turns = 0; last = Unpolled }) mark ending
      → Standing made.core new.p ds Over
  turned-over_failed mark w =
      turned-failed made old new bs ds c grows waits quiet o s ending w.r w.still (ap (λ (x : EndingSays). begun_as x.r) w.ending_is)
      (ap (λ (x : EndingSays). x.r.cause) w.ending_is) f mark.by (ap (λ (x : EndingSays). x.grant) w.ending_is)
      (ap (λ (x : EndingSays). x.fault) w.ending_is) w.policy

  pub turned-over_stopped : (n : ℕ) (limit : Option ℕ) → WaitStops (record { core = o.core; r = o.r; turns = 0; last = Unpolled }) n limit ending
      → s.stands.last.turns ≡ Some n → Standing made.core new.p ds Over
  turned-over_stopped n limit w is =
      turned-stopped made old new bs ds c grows waits quiet o s ending w.r w.still (ap (λ (x : EndingSays). begun_as x.r) w.ending_is)
      (ap (λ (x : EndingSays). x.r.cause) w.ending_is) f n (ap (λ (x : EndingSays). x.grant) w.ending_is)
      (ap (λ (x : EndingSays). x.fault) w.ending_is) is
