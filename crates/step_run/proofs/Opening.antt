-- The first turn of a request.
use Rattle.std.proofs.Common.{◌≡◌, ℕ, List, [], ◌∷◌, ◌++◌, length, true, ◌≤◌, Option, None, Some, codes, ◌⊎◌, inl, inr, refl, sym, ap, ◌∙◌, subst}
use Rattle.std.specs.Prelude.{IfSome, slice_get}
use Rattle.script.specs.declared.limits.TheConstants.{TURN_LIMIT}
use Rattle.sequence_core.specs.Counted.{metrics_of}
use Rattle.sequence_core.specs.declared.metrics.Metrics.{Metrics}
use Rattle.latch_model.specs.Declaration.{Declaration}
use Rattle.latch_model.specs.declared.latch.Mode.{Mode}
use Rattle.latch_model.specs.declared.latch.Mode.TheVariants.{Acquire, Optimistic as optimistic_mode, Look}
use Rattle.sequence_core.specs.Says.{next_entry}
use Rattle.step_run.specs.State.{Named, State}
use Rattle.step_run.specs.Steps.{Step, first_phase, first_turn, metrics_line, new_begin, new_name, opening, waited, with_new}
use Rattle.latch_model.specs.declared.history.Cause.TheVariants.{None as no_cause}
use Rattle.latch_model.specs.declared.history.Entry.{Entry}
use Rattle.signal_board.specs.Views.{RequestView}
use Rattle.waiter.specs.Says.{CoreId, id_of}
use Rattle.step_run.specs.Lives.{HasNoCause, IsLive, IsOf, LiveSays, cause_of, is_held}
use Rattle.step_run.specs.Seen.{seen_run}
use Rattle.step_run.specs.declared.live.Value.{Value}
use Rattle.step_run.specs.declared.run.StepRun.{StepRun}
use Rattle.step_run.proofs.Moving.{seen_moved}
use Rattle.step_run.proofs.Places.{get_push}
use Rattle.step_run.proofs.Sounding.{sound_push}
use Rattle.step_run.specs.Openings.{IsBegun, TurnsRange, begun_request, begun_value, opening_text}
use Rattle.step_run.specs.Runs.{Makes, RunSays, Sound, Stands}
use Rattle.step_run.specs.Texts.{counts_line, named_line}
use Rattle.step_run.proofs.Commanding.{begun_text, makes_opened, makes_silent, new_at, stands_begun, text_of}

pub first_waits : (s : State) (n : Named) (mode : Mode) → (mode ≡ Acquire) ⊎ (mode ≡ Look) → n.phase ≡ first_phase mode →
    waited n.phase n s ≡ first_turn mode n s
first_waits s n mode (inl e) f =
    ap (λ p. waited p n s) (f ∙ ap first_phase e) ∙ sym (ap (λ (m : Mode). first_turn m n s) e)
first_waits s n mode (inr e) f =
    ap (λ p. waited p n s) (f ∙ ap first_phase e) ∙ sym (ap (λ (m : Mode). first_turn m n s) e)

pub first_silent : (s : State) (n : Named) (mode : Mode) (r : RunSays) (out : List ℕ) → mode ≡ optimistic_mode → Stands s r →
    Makes (first_turn mode n s) r out out
first_silent s n mode r out e h = subst (λ (t : Step). Makes t r out out) (sym (ap (λ (m : Mode). first_turn m n s) e)) (makes_silent s r out h)

-- An opening, from the begin of its request on.
pub record Opens (s : State) (r mid : RunSays) (l : LiveSays) (request : Declaration) : Type 0 where
  pub state : State
  pub name : Named
  pub stands : Stands state mid
  pub at : slice_get state.names (length r.lives) ≡ Some name
  pub phase : name.phase ≡ first_phase l.mode
  pub makes : (t : RunSays) (out line_out new : List ℕ) → line_out ≡ out ++ named_line l.name (opening_text l.value) →
      Makes (first_turn l.mode name state) t line_out new → Makes (opening s l.session l.name l.mode request.policy l.turns request.latches) t out new

pub opens_as : (s : State) (r mid : RunSays) (l : LiveSays) (core : CoreId) (request : Declaration) → Stands s r → s.line ≡ request.tag → TurnsRange l.turns →
    mid.log ≡ r.log ++ next_entry r.log l.session l.mode request ∷ [] → l.value ≡ begun_value core l.mode (begun_request r.log l.session l.mode request) →
    mid.lives ≡ r.lives ++ l ∷ [] → Opens s r mid l request
opens_as s r mid l core request h line range log value lives =
    let tagged : Declaration = record { tag = s.line; policy = request.policy; latches = request.latches } in
    let same : request ≡ tagged = ap (λ k. let d : Declaration = record { tag = k; policy = request.policy; latches = request.latches } in d) (sym line) in
    let named : Named = new_name s l.session l.name l.mode request.policy l.turns in
    let next : State = with_new (new_begin s l.session l.mode request.policy request.latches) named s in
    let value_is : l.value ≡ begun_value core l.mode (begun_request r.log l.session l.mode tagged) =
    value ∙ ap (λ (d : Declaration). begun_value core l.mode (begun_request r.log l.session l.mode d)) same in
    let made = stands_begun s r mid l core request.policy request.latches h range
    (log ∙ ap (λ (d : Declaration). r.log ++ next_entry r.log l.session l.mode d ∷ []) same, value_is) lives in
    record {
      state = next;
      name = named;
      stands = made.0;
      at = new_at s r named (new_begin s l.session l.mode request.policy request.latches) h;
      phase = refl;
      makes = λ t out line_out new e m. makes_opened next named t l.name out line_out new (opening_text l.value) refl
          (ap opening_text value_is ∙ begun_text core l.mode (begun_request r.log l.session l.mode tagged)
          ∙ text_of next.history named (begun_request r.log l.session l.mode tagged) made.1) e m;
    }

-- What stands for a request that has begun is of its core and session.
pub begun_of : (core : CoreId) (log : List Entry) (session : ℕ) (mode : Mode) (request : Declaration) → (v : Value) →
    v ≡ begun_value core mode (begun_request log session mode request) → IsOf core session v
begun_of core log session mode request v e = subst (λ (x : Value). IsOf core session x) (sym e) (by mode)
  where
    by : (m : Mode) → IsOf core session (begun_value core m (begun_request log session mode request))
    by Acquire = (refl, refl)
    by optimistic_mode = (refl, refl)
    by Look = (refl, refl)

pub begun_none : (core : CoreId) (log : List Entry) (session : ℕ) (mode : Mode) (request : Declaration) → (v : Value) →
    v ≡ begun_value core mode (begun_request log session mode request) → cause_of v ≡ no_cause
begun_none core log session mode request v e = ap cause_of e ∙ by mode
  where
    by : (m : Mode) → cause_of (begun_value core m (begun_request log session mode request)) ≡ no_cause
    by Acquire = refl
    by optimistic_mode = refl
    by Look = refl

pub begun_held : (core : CoreId) (mode : Mode) (q : RequestView) (v : Value) → v ≡ begun_value core mode q → (is_held v ≡ true) × IsBegun v
begun_held core mode q v e = subst (λ (x : Value). (is_held x ≡ true) × IsBegun x) (sym e) (by mode)
  where
    by : (m : Mode) → (is_held (begun_value core m q) ≡ true) × IsBegun (begun_value core m q)
    by Acquire = (refl, tt)
    by optimistic_mode = (refl, tt)
    by Look = (refl, tt)

pub pushed_sound : (old new : StepRun) (l : LiveSays) → new.core ≡ old.core → new.desk ≡ old.desk → new.passes.items ≡ old.passes.items →
    new.some_cause ≡ old.some_cause → (seen_run new).lives ≡ (seen_run old).lives ++ l ∷ [] → IsLive (id_of old.core) l → HasNoCause l →
    is_held l.value ≡ true → Sound l.session (seen_run old) → Sound 0 (seen_run new)
pushed_sound old new l a b c d e live none held h =
    subst (λ (r : RunSays). Sound 0 r) (sym (seen_moved old new a b c d)) (sound_push (seen_run old) l (seen_run new).lives live none held e h)

pub pushed_at : (ls new : List LiveSays) (l : LiveSays) → new ≡ ls ++ l ∷ [] → slice_get new (length ls) ≡ Some l
pushed_at ls new l e = ap (λ (xs : List LiveSays). slice_get xs (length ls)) e ∙ get_push ls l

-- The turns of an opening command.
pub turns_of : (o : Option ℕ) → IfSome o (λ n. (1 ≤ n) × (n ≤ TURN_LIMIT)) → TurnsRange o
turns_of None h = tt
turns_of (Some n) h = h

-- The counts of metrics, which are of the history whatever is free.
pub metrics_makes : (s : State) (r : RunSays) (m : Metrics) (free : ℕ) (out new : List ℕ) → m ≡ metrics_of r.log free → Stands s r →
    new ≡ out ++ (codes "metrics global" ++ counts_line m.global ++ codes " local" ++ counts_line m.local ++ codes "\n") →
    Makes (record { written = metrics_line s.history; state = s }) r out new
metrics_makes s r m free out new e h g = record {
  written = g ∙ ap (λ (x : Metrics). out ++ (codes "metrics global" ++ counts_line x.global ++ codes " local" ++ counts_line x.local ++ codes "\n"))
      (e ∙ ap (λ k. metrics_of k free) h.history);
  stands = h;
}
