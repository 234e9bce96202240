-- A run whose live names were warned is as it was, but for what they know.
use Rattle.std.proofs.Common.{◌≡◌, ℕ, Bool, List, sym, ap, subst}
use Rattle.latch_model.specs.declared.history.Entry.{Entry}
use Rattle.latch_model.specs.declared.history.Sizes.{Sizes}
use Rattle.sequence_core.specs.Says.{DeskState}
use Rattle.signal_board.specs.Says.{PassSays}
use Rattle.waiter.specs.Says.{CoreId, id_of}
use Rattle.waiter.specs.declared.shared.Core.{Core}
use Rattle.step_run.specs.Lives.{AreWarned}
use Rattle.step_run.specs.Runs.{IsLent, RunSays, Sound, StandsBut}
use Rattle.step_run.specs.Seen.{seen_run}
use Rattle.step_run.specs.State.{State}
use Rattle.step_run.specs.declared.run.StepRun.{StepRun}
use Rattle.step_run.proofs.Keeping.{but_warned}
use Rattle.step_run.proofs.Sounding.{lent_warned, sound_warned}

pub seen_moved : (old new : StepRun) → new.core ≡ old.core → new.desk ≡ old.desk → new.passes.items ≡ old.passes.items →
    new.some_cause ≡ old.some_cause → seen_run new ≡ record (seen_run old) { lives = (seen_run new).lives }
seen_moved old new a b c d =
    made (ap (λ (x : Core). id_of x) a) (ap (λ (d : DeskState). d.core) b) (ap (λ (d : DeskState). d.sizes) b) (ap (λ (d : DeskState). d.given) b)
    (ap (λ (d : DeskState). d.log) b) c d
  where
    made : {k k' d d' : CoreId} {z z' : Sizes} {g g' : ℕ} {h h' : List Entry} {p p' : List PassSays} {x x' : Bool} → k ≡ k' → d ≡ d' →
        z ≡ z' → g ≡ g' → h ≡ h' → p ≡ p' → x ≡ x' →
        (let r : RunSays = record { core = k; desk = d; sizes = z; given = g; log = h; passes = p; lives = (seen_run new).lives; some_cause = x } in r)
        ≡ record { core = k'; desk = d'; sizes = z'; given = g'; log = h'; passes = p'; lives = (seen_run new).lives; some_cause = x' }
    made e0 e1 e2 e3 e4 e5 e6 = cc

pub sound_moved : (w : ℕ) (old new : StepRun) → new.core ≡ old.core → new.desk ≡ old.desk → new.passes.items ≡ old.passes.items →
    new.some_cause ≡ old.some_cause → AreWarned (seen_run old).lives (seen_run new).lives → Sound w (seen_run old) → Sound w (seen_run new)
sound_moved w old new a b c d e h =
    subst (λ (r : RunSays). Sound w r) (sym (seen_moved old new a b c d)) (sound_warned (seen_run old) w (seen_run new).lives e h)

pub lent_moved : (i w : ℕ) (old new : StepRun) → new.core ≡ old.core → new.desk ≡ old.desk → new.passes.items ≡ old.passes.items →
    new.some_cause ≡ old.some_cause → AreWarned (seen_run old).lives (seen_run new).lives → IsLent i w (seen_run old) → IsLent i w (seen_run new)
lent_moved i w old new a b c d e h =
    subst (λ (r : RunSays). IsLent i w r) (sym (seen_moved old new a b c d)) (lent_warned (seen_run old) i w (seen_run new).lives e h)

pub but_moved : (i : ℕ) (s : State) (old new : StepRun) → new.core ≡ old.core → new.desk ≡ old.desk → new.passes.items ≡ old.passes.items →
    new.some_cause ≡ old.some_cause → AreWarned (seen_run old).lives (seen_run new).lives → StandsBut i s (seen_run old) → StandsBut i s (seen_run new)
but_moved i s old new a b c d e h =
    subst (λ (r : RunSays). StandsBut i s r) (sym (seen_moved old new a b c d)) (record {
      history = h.history;
      valid = h.valid;
      names = but_warned s.history i s.names (seen_run old).lives (seen_run new).lives e h.names;
    })
