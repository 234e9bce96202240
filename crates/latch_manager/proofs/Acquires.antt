-- A request that was begun and then waited, as one call tells it.
use Rattle.std.proofs.Common.{◌≡◌, ℕ, Option, sym, ◌∙◌, ap, subst}
use Rattle.latch_model.specs.Declaration.{Declaration}
use Rattle.latch_model.specs.declared.latch.Mode.{Mode}
use Rattle.signal_board.specs.Says.{PassSays}
use Rattle.signal_board.specs.Views.{RequestView}
use Rattle.waiter.specs.Says.{GrantedSays, OpenedSays, WaitingSays}
use Rattle.latch_manager.specs.Acquiring.{AcquireFails, Looks, WaitEnds, as_acquire_fault}
use Rattle.latch_manager.specs.Making.{Began, Finished, Made, done_with, unpolled}
use Rattle.latch_manager.specs.Waiting.{WaitGrants}
use Rattle.latch_manager.specs.declared.manager.AcquireFault.{AcquireFault}
use Rattle.latch_manager.specs.declared.wait.WaitFault.{WaitFault}
use Rattle.latch_manager.specs.declared.wait.WaitFault.TheVariants as wait_fault

module _ (made : Made) (old mid new : PassSays) (request : Declaration) (mode : Mode) (opened : OpenedSays) (began : Began made old mode request opened mid)
    (waiting : WaitingSays) (unpolled_is : waiting ≡ unpolled opened) where
  module _ (before now : ℕ) (limit : Option ℕ) where
    ends_so : (fault : WaitFault) → WaitEnds made mid (unpolled opened) before now limit fault new →
        AcquireFails made old request mode before now limit (as_acquire_fault fault) new
    ends_so (wait_fault.Poisoned mark) w = record { opened = opened; mid = mid; began = began; ends = w }
    ends_so (wait_fault.Cancelled turns) w = record { opened = opened; mid = mid; began = began; ends = w }

    -- its wait failed
    pub acquire-fails : (fault : WaitFault) (answer : AcquireFault) → answer ≡ as_acquire_fault fault → WaitEnds made mid waiting before now limit fault new →
        AcquireFails made old request mode before now limit answer new
    acquire-fails fault answer is w =
        subst (λ (a : AcquireFault). AcquireFails made old request mode before now limit a new) (sym is)
        (ends_so fault (subst (λ (x : WaitingSays). WaitEnds made mid x before now limit fault new) unpolled_is w))

  -- it was granted, and ended at once
  pub looks-so : (g : GrantedSays) (then_ : PassSays) (id : ℕ) → WaitGrants waiting g → then_ ≡ mid → id ≡ g.r.id → Finished made then_ (done_with g) new →
      Looks made old request mode id new
  looks-so g then_ id grants same is f =
      let w = subst (λ (x : WaitingSays). WaitGrants x g) unpolled_is grants in
      record {
        granted = g;
        mid = mid;
        acquires = record { opened = opened; began = began; grants = w };
        finished = subst (λ (p : PassSays). Finished made p (done_with g) new) same f;
        number = is ∙ (ap (λ (x : GrantedSays). x.r.id) w.granted_is ∙ ap (λ (x : RequestView). x.id) w.still.same);
      }
