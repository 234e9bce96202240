-- What the manager's calls on an opening leave of a session.
use Rattle.std.proofs.Common.{◌≡◌, ℕ, true, false, List, [], ◌∷◌, ◌++◌, Option, None, refl, sym, ◌∙◌, subst}
use Rattle.latch_model.specs.Declaration.{Declaration}
use Rattle.latch_model.specs.declared.latch.Latch.{Latch}
use Rattle.latch_model.specs.declared.latch.Mode.TheVariants.{Acquire, Look, Optimistic}
use Rattle.latch_model.specs.declared.latch.Policy.{Policy}
use Rattle.script.specs.Follows.{Block, declaration_of, is_poison, is_wait}
use Rattle.script.specs.declared.command.Command.{Command}
use Rattle.signal_board.specs.Says.{PassSays}
use Rattle.waiter.specs.Says.{GrantedSays, OptimistSays, Unpolled}
use Rattle.waiter.specs.declared.mark.Mark.{Mark}
use Rattle.latch_manager.specs.Acquiring.{AcquireFails, Acquires, Looks, WaitEnds}
use Rattle.latch_manager.specs.Making.{Began, Made}
use Rattle.latch_manager.specs.declared.manager.AcquireFault.TheVariants as acquire_fault
use Rattle.latch_manager.specs.declared.wait.WaitFault.{WaitFault}
use Rattle.latch_manager.specs.declared.wait.WaitFault.TheVariants as wait_fault
use Rattle.replay.specs.Blocks.{GrowsBy, new_block}
use Rattle.replay.specs.Sessions.{Checking, Holding, Idle, Over, PatienceOf, Standing, TurnsOf}
use Rattle.replay.proofs.Openings.{opens_checking}
use Rattle.replay.proofs.Outcomes.{acquired-failed, acquired-stopped, cancelled_after, looked-failed, looked-over, looked-stopped, turned-over_failed}
use Rattle.replay.proofs.Outcomes.{turned-over_stopped}
use Rattle.replay.proofs.Turns.{acquired-holds}

module _ (made : Made) (old new : PassSays) (bs : List Block) (line : ℕ) (policy : Policy) (turns : Option ℕ) (latches : List Latch) (request : Declaration)
    (s : Standing made.core old.p bs Idle) where
  module _ (is : request ≡ declaration_of (new_block line Acquire policy turns latches)) where
    pub acquires-stands : (g : GrantedSays) → Acquires made old request Acquire g new →
        Standing made.core new.p (bs ++ new_block line Acquire policy turns latches ∷ []) (Holding g)
    acquires-stands g a =
        acquired-holds made old new line policy turns latches a.opened
        (subst (λ (d : Declaration). Began made old Acquire d a.opened new) is a.began) bs s g a.grants

    pub acquire-poisoned : (before now : ℕ) (limit : Option ℕ) (mark : Mark) →
        AcquireFails made old request Acquire before now limit (acquire_fault.Poisoned mark) new →
        Standing made.core new.p (bs ++ new_block line Acquire policy turns latches ∷ []) Over
    acquire-poisoned before now limit mark a =
        acquired-failed made old a.mid new line policy turns latches bs s a.opened a.ends.ending a.ends.finished
        (subst (λ (d : Declaration). Began made old Acquire d a.opened a.mid) is a.began) mark a.ends.fails

    pub acquire-cancelled : (before now : ℕ) (limit : Option ℕ) (n : ℕ) → PatienceOf turns before now limit →
        AcquireFails made old request Acquire before now limit (acquire_fault.Cancelled n) new →
        Standing made.core new.p (bs ++ new_block line Acquire policy turns latches ∷ []) Over
    acquire-cancelled before now limit n of a =
        acquired-stopped made old a.mid new line policy turns latches bs s a.opened a.ends.ending a.ends.finished
        (subst (λ (d : Declaration). Began made old Acquire d a.opened a.mid) is a.began) n limit a.ends.fails.0
        (cancelled_after turns before now limit n of a.ends.fails.1 a.ends.fails.0.at_limit)

  module _ (is : request ≡ declaration_of (new_block line Look policy turns latches)) where
    pub look-stands : (id : ℕ) → Looks made old request Look id new → Standing made.core new.p (bs ++ new_block line Look policy turns latches ∷ []) Over
    look-stands id a =
        looked-over made old a.mid new line policy turns latches bs s a.acquires.opened _ a.finished
        (subst (λ (d : Declaration). Began made old Look d a.acquires.opened a.mid) is a.acquires.began) a.granted a.acquires.grants refl

    pub look-poisoned : (before now : ℕ) (limit : Option ℕ) (mark : Mark) →
        AcquireFails made old request Look before now limit (acquire_fault.Poisoned mark) new →
        Standing made.core new.p (bs ++ new_block line Look policy turns latches ∷ []) Over
    look-poisoned before now limit mark a =
        looked-failed made old a.mid new line policy turns latches bs s a.opened a.ends.ending a.ends.finished
        (subst (λ (d : Declaration). Began made old Look d a.opened a.mid) is a.began) mark a.ends.fails

    pub look-cancelled : (before now : ℕ) (limit : Option ℕ) (n : ℕ) → PatienceOf turns before now limit →
        AcquireFails made old request Look before now limit (acquire_fault.Cancelled n) new →
        Standing made.core new.p (bs ++ new_block line Look policy turns latches ∷ []) Over
    look-cancelled before now limit n of a =
        looked-stopped made old a.mid new line policy turns latches bs s a.opened a.ends.ending a.ends.finished
        (subst (λ (d : Declaration). Began made old Look d a.opened a.mid) is a.began) n limit a.ends.fails.0
        (cancelled_after turns before now limit n of a.ends.fails.1 a.ends.fails.0.at_limit)

  pub optimistic-stands : request ≡ declaration_of (new_block line Optimistic policy turns latches) → (o : OptimistSays) →
      Began made old Optimistic request (record { core = o.core; r = o.r }) new → (o.met ≡ None) × (o.passed ≡ None) →
      Standing made.core new.p (bs ++ new_block line Optimistic policy turns latches ∷ []) (Checking o)
  optimistic-stands is o k none =
      subst
      (λ (x : OptimistSays). Standing made.core new.p (bs ++ new_block line Optimistic policy turns latches ∷ []) (Checking x))
      (λ i. record { core = o.core; r = o.r; met = sym none.0 i; passed = sym none.1 i })
      (opens_checking made old new line policy turns latches (record { core = o.core; r = o.r })
      (subst (λ (d : Declaration). Began made old Optimistic d (record { core = o.core; r = o.r }) new) is k) bs s)

-- a wait of the optimistic request in hand that failed
pub wait-ends : (made : Made) (old new : PassSays) (bs ds : List Block) (c : Command) → GrowsBy c bs ds → is_wait c ≡ true → is_poison c ≡ false →
    (o : OptimistSays) → Standing made.core old.p bs (Checking o) → (before now : ℕ) (limit turns : Option ℕ) → PatienceOf turns before now limit →
    TurnsOf bs turns → (fault : WaitFault) →
    WaitEnds made old (record { core = o.core; r = o.r; turns = 0; last = Unpolled }) before now limit fault new → Standing made.core new.p ds Over
wait-ends made old new bs ds c grows waits quiet o s before now limit turns of has (wait_fault.Poisoned mark) w =
    turned-over_failed made old new bs ds c grows waits quiet o s w.ending w.finished mark w.fails
wait-ends made old new bs ds c grows waits quiet o s before now limit turns of has (wait_fault.Cancelled n) w =
    turned-over_stopped made old new bs ds c grows waits quiet o s w.ending w.finished n limit w.fails.0
    (has s.stands.done s.stands.last s.stands.blocks ∙ cancelled_after turns before now limit n of w.fails.1 w.fails.0.at_limit)
