-- What stands for a request that has begun.
use Rattle.std.proofs.Common.{◌≡◌, ◌⊎◌, inl, inr, ap, sym, ◌∙◌, None}
use Rattle.latch_model.specs.declared.latch.Mode.{Mode}
use Rattle.latch_model.specs.declared.latch.Mode.TheVariants.{Acquire, Optimistic as optimistic_mode, Look}
use Rattle.signal_board.specs.Views.{RequestView}
use Rattle.waiter.specs.Says.{CoreId, OpenedSays, OptimistSays, Unpolled, WaitingSays}
use Rattle.step_run.specs.Openings.{begun_value, new_optimist, new_waiting}
use Rattle.step_run.specs.declared.live.Value.TheVariants.{Optimist, Waiting}

pub value_optimistic : (core : CoreId) {d : CoreId} (mode : Mode) (q : RequestView) (o : OptimistSays) (l : OpenedSays) → mode ≡ optimistic_mode →
    o ≡ record { core = l.core; r = l.r; met = None; passed = None } → d ≡ core → l ≡ record { core = d; r = q } → Optimist o ≡ begun_value core mode q
value_optimistic core mode q o l e f g h =
    ap (λ (x : OptimistSays). Optimist x) (f ∙ ap (λ (x : OpenedSays). new_optimist x.core x.r) h ∙ ap (λ x. new_optimist x q) g)
    ∙ sym (ap (λ (m : Mode). begun_value core m q) e)

pub value_waiting : (core : CoreId) {d : CoreId} (mode : Mode) (q : RequestView) (o : WaitingSays) (l : OpenedSays) → (mode ≡ Acquire) ⊎ (mode ≡ Look) →
    o ≡ record { core = l.core; r = l.r; turns = 0; last = Unpolled } → d ≡ core → l ≡ record { core = d; r = q } → Waiting o ≡ begun_value core mode q
value_waiting core mode q o l (inl e) f g h =
    ap (λ (x : WaitingSays). Waiting x) (f ∙ ap (λ (x : OpenedSays). new_waiting x.core x.r) h ∙ ap (λ x. new_waiting x q) g)
    ∙ sym (ap (λ (m : Mode). begun_value core m q) e)
value_waiting core mode q o l (inr e) f g h =
    ap (λ (x : WaitingSays). Waiting x) (f ∙ ap (λ (x : OpenedSays). new_waiting x.core x.r) h ∙ ap (λ x. new_waiting x q) g)
    ∙ sym (ap (λ (m : Mode). begun_value core m q) e)
