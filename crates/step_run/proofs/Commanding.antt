-- What the functions of the other commands do to a run is what the definition does to a state.
use Rattle.std.proofs.Common.{◌≡◌, ℕ, zero, suc, ◌+◌, ◌<◌, ◌≤◌, Bool, true, false, not, cond, ◌||◌, List, [], ◌∷◌, ◌++◌, map, length, Option, Some}
use Rattle.std.proofs.Common.{None, codes, decimal, refl, sym, ap, ◌∙◌, subst, inl, arith}
use Rattle.std.specs.Prelude.{slice_get}
use Rattle.std.specs.List.{position, remove}
use Rattle.std.specs.Option.{option_and_then}
use Rattle.std.proofs.lemmas.List.{append-nil, append_assoc, length-map}
use Rattle.latch_model.specs.Checks.{has_cause, is_declared}
use Rattle.latch_model.specs.Declaration.{Declaration}
use Rattle.latch_model.specs.Histories.{HeldLatch, ascending, before, begins, free_lane, latches_of, met, met_in, shot}
use Rattle.latch_model.specs.declared.history.Cause.{Cause}
use Rattle.latch_model.specs.declared.history.Cause.TheVariants.{None as no_cause, Called, From}
use Rattle.latch_model.specs.declared.history.Entry.{Entry}
use Rattle.latch_model.specs.declared.history.Entry.TheVariants.{Ended}
use Rattle.latch_model.specs.declared.history.Fault.TheVariants.{None as no_fault}
use Rattle.latch_model.specs.declared.history.Grant.{Grant}
use Rattle.latch_model.specs.declared.history.Grant.TheVariants.{Never, Waited}
use Rattle.latch_model.specs.declared.latch.Latch.{Latch}
use Rattle.latch_model.specs.declared.latch.Mode.{Mode}
use Rattle.latch_model.specs.declared.latch.Mode.TheVariants.{Acquire, Optimistic as optimistic_mode, Look}
use Rattle.latch_model.specs.declared.latch.Policy.{Policy}
use Rattle.latch_model.proofs.Lists.{In}
use Rattle.latch_model.proofs.Meeting.{before_is_met}
use Rattle.latch_model.proofs.Members.{get_below}
use Rattle.report.specs.Words.{numbers_text}
use Rattle.script.specs.Commands.{same_name}
use Rattle.script.specs.Follows.{passed_grant}
use Rattle.sequence_core.specs.Says.{next_entry}
use Rattle.signal_board.specs.Says.{first_cause}
use Rattle.signal_board.specs.Views.{RequestView}
use Rattle.shot_walks.specs.Waits.{waits_for}
use Rattle.waiter.specs.Says.{CoreId, OptimistSays, WaitingSays}
use Rattle.step_run.specs.State.{Granted, Named, Optimistic, Over, Pending, Phase, State, ended, with_name, without}
use Rattle.step_run.specs.Steps.{Step, checked, checked_unless, first_phase, first_turn, is_over, line, met_first, new_begin, new_name, on_found, on_name}
use Rattle.step_run.specs.Steps.{opened, poisoned, released, released_state, silent, turn, waited, with_new}
use Rattle.step_run.specs.Valid.{Valid}
use Rattle.step_run.specs.Checking.{ChecksAs, checked_met, checked_text, passed_met, passed_then, undeclared}
use Rattle.step_run.specs.Lives.{IsOf, LiveSays, called_request, called_value, cause_of, ended_with, is_held, is_none, may_poison, seen_live}
use Rattle.step_run.specs.Lives.{with_value}
use Rattle.step_run.specs.declared.live.Live.{Live}
use Rattle.step_run.specs.Openings.{TurnsRange, begun_request, begun_value, opening_text, request_text}
use Rattle.step_run.specs.Runs.{Fits, FitsName, FitsRequest, FitsTurns, FitsValue, IsSame, Makes, Pairs, RunSays, Stands, StandsBut}
use Rattle.step_run.specs.Texts.{named_line}
use Rattle.step_run.specs.declared.live.Value.{Value}
use Rattle.step_run.specs.declared.live.Value.TheVariants.{Optimist, Waiting, Granted as GrantedValue, Over as OverValue}
use Rattle.step_run.proofs.Growing.{latches_of_new}
use Rattle.step_run.proofs.Keeping.{formed_at, pair_here, pairs_grown, pairs_pushed, stands_formed, stands_put, stands_released, stands_remove, stands_take}
use Rattle.step_run.proofs.Meets.{MetIs, met_is}
use Rattle.step_run.proofs.Names.{replaced_at}
use Rattle.step_run.proofs.Places.{find_by_place, get_push, position_map, set_same}
use Rattle.step_run.proofs.Standing.{valid_begin}
use Rattle.step_run.proofs.Turning.{but_as, stands_as, text_is}

-- A name by its place.
names_same : (h : List Entry) (ns : List Named) (ls : List LiveSays) → Pairs (Fits h) ns ls → map (λ (n : Named). n.name) ns ≡ map (λ (l : LiveSays). l.name) ls
names_same h [] [] p = refl
names_same h [] (l ∷ ls) p = absurd p
names_same h (n ∷ ns) [] p = absurd p
names_same h (n ∷ ns) (l ∷ ls) p = both (sym p.0.0.name) (names_same h ns ls p.1)
  where
    both : {a b : List ℕ} {x y : List (List ℕ)} → a ≡ b → x ≡ y → a ∷ x ≡ b ∷ y
    both e f = cc

pub pairs_length : (h : List Entry) (ns : List Named) (ls : List LiveSays) → Pairs (Fits h) ns ls → length ns ≡ length ls
pairs_length h [] [] p = refl
pairs_length h [] (l ∷ ls) p = absurd p
pairs_length h (n ∷ ns) [] p = absurd p
pairs_length h (n ∷ ns) (l ∷ ls) p = ap suc (pairs_length h ns ls p.1)

place_same : (s : State) (r : RunSays) (name : List ℕ) → Stands s r →
    position (λ (n : Named). same_name n.name name) s.names ≡ position (λ (l : LiveSays). same_name l.name name) r.lives
place_same s r name h =
    sym (position_map (λ (n : Named). n.name) (λ q. same_name q name) s.names)
    ∙ ap (λ xs. position (λ q. same_name q name) xs) (names_same s.history s.names r.lives h.names)
    ∙ position_map (λ (l : LiveSays). l.name) (λ q. same_name q name) r.lives

pub makes_silent : (s : State) (r : RunSays) (out : List ℕ) → Stands s r → Makes (silent s) r out out
makes_silent s r out h = record { written = sym (append-nil out); stands = h }

pub on_none : (s : State) (r : RunSays) (name out : List ℕ) (f : Named → Step) → Stands s r →
    position (λ (l : LiveSays). same_name l.name name) r.lives ≡ None → Makes (on_name s name f) r out out
on_none s r name out f h e =
    subst (λ (t : Step). Makes t r out out)
    (sym (ap (λ o. on_found s o f) (find_by_place (λ (n : Named). same_name n.name name) s.names
    ∙ ap (λ o. option_and_then (λ i. slice_get s.names i) o) (place_same s r name h ∙ e))))
    (makes_silent s r out h)

pub on_here : (s : State) (r : RunSays) (name : List ℕ) (i : ℕ) (f : Named → Step) → Stands s r → i < length r.lives →
    position (λ (l : LiveSays). same_name l.name name) r.lives ≡ Some i → (n : Named) × (slice_get s.names i ≡ Some n) × (on_name s name f ≡ f n)
on_here s r name i f h l e =
    let same : length s.names ≡ length r.lives = pairs_length s.history s.names r.lives h.names in
    let w = get_below s.names i (omega arith) in (
      w.0,
      w.1,
      ap (λ o. on_found s o f) (find_by_place (λ (n : Named). same_name n.name name) s.names
          ∙ ap (λ o. option_and_then (λ j. slice_get s.names j) o) (place_same s r name h ∙ e) ∙ w.1),
    )

-- A value in a new form, at its place.
value_twice : (i : ℕ) (v w : Value) (ls : List LiveSays) → with_value i v (with_value i w ls) ≡ with_value i v ls
value_twice zero v w [] = refl
value_twice (suc i) v w [] = refl
value_twice zero v w (l ∷ ls) = refl
value_twice (suc i) v w (l ∷ ls) = ap (λ xs. l ∷ xs) (value_twice i v w ls)

pub stands_value : (s : State) (r t : RunSays) (i : ℕ) (n m : Named) (v : Value) → Stands s r → slice_get s.names i ≡ Some n → IsSame n m →
    is_over m.phase ≡ is_over n.phase → FitsValue s.history m m.phase v → t.log ≡ r.log → t.lives ≡ with_value i v r.lives → Stands (with_name m s) t
stands_value s r t i n m v h at same o f a b =
    let out : RunSays = record r { lives = with_value i OverValue r.lives } in
    stands_as (with_name m s) (record out { lives = t.lives }) t a refl
    (stands_put s out i n m v t.lives (stands_take s r i (with_value i OverValue r.lives) refl h) at same o f (b ∙ sym (value_twice i v OverValue r.lives)))

-- a name in the same form is the same
pub name_kept : (s : State) (i : ℕ) (n : Named) → slice_get s.names i ≡ Some n → Valid s.history s.names → with_name n s ≡ s
name_kept s i n at v = ap (λ ns. let t : State = record { history = s.history; names = ns; line = s.line } in t)
    (replaced_at s.names i n n at refl v.rising ∙ set_same s.names i n at)

-- A release.
ended_as : {a b c d : ℕ} {x y : Cause} {g k : Grant} → a ≡ b → c ≡ d → x ≡ y → g ≡ k → Ended a c g x no_fault ≡ Ended b d k y no_fault
ended_as p q z w = cc

pub stands_gone : (s : State) (r t : RunSays) (i : ℕ) (n : Named) (l : LiveSays) (phase : Phase) (v : Value) → n.phase ≡ phase → l.value ≡ v → Stands s r →
    slice_get s.names i ≡ Some n → FitsName n l → FitsValue s.history n phase v → IsOf r.core l.session v →
    t.log ≡ ended_with v r.log → t.lives ≡ remove r.lives i → Stands (released n s).state t
stands_gone s r t i n l phase v e f h at k g o a b =
    subst Claim (sym e) (by phase v e g o a)
  where
    gone : (q : RequestView) (grant given : Grant) → q.id ≡ n.id → q.who ≡ l.session → q.cause ≡ n.cause → given ≡ grant →
        t.log ≡ r.log ++ Ended q.id q.who given q.cause no_fault ∷ [] →
        Stands (record { history = (ended grant no_fault n s).history; names = without n.id (ended grant no_fault n s).names; line = s.line }) t
    gone q grant given x y z w u =
        stands_as _ (record r { log = t.log; lives = t.lives }) t refl refl
        (stands_released s r i n grant no_fault t.log r.passes t.lives h at b
        (u ∙ ap (λ (y : Entry). r.log ++ y ∷ []) (ended_as x (y ∙ k.session) z w)))

    Claim : Phase → Type 0
    Claim p =
        let u = released_state p n s in Stands (record { history = u.history; names = without n.id u.names; line = u.line }) t

    by : (p : Phase) (v : Value) → n.phase ≡ p → FitsValue s.history n p v → IsOf r.core l.session v → t.log ≡ ended_with v r.log → Claim p
    by Optimistic (Optimist w) e f o a = gone w.r (passed_grant n.passed) (passed_grant w.passed) f.0.id o.1 f.0.cause (ap passed_grant f.1) a
    by Optimistic (Waiting w) e f o a = absurd f
    by Optimistic (GrantedValue w) e f o a = absurd f
    by Optimistic OverValue e f o a = absurd f
    by Pending (Optimist w) e f o a = absurd f
    by Pending (Waiting w) e f o a = gone w.r Never Never f.0.id o.1 f.0.cause refl a
    by Pending (GrantedValue w) e f o a = absurd f
    by Pending OverValue e f o a = absurd f
    by (Granted front) (Optimist w) e f o a = absurd f
    by (Granted front) (Waiting w) e f o a = absurd f
    by (Granted front) (GrantedValue w) e f o a = gone w.r (Waited front) w.grant f.0.id o.1 f.0.cause f.1 a
    by (Granted front) OverValue e f o a = absurd f
    by Over (Optimist w) e f o a = absurd f
    by Over (Waiting w) e f o a = absurd f
    by Over (GrantedValue w) e f o a = absurd f
    by Over OverValue e f o a =
        stands_as _ (record r { lives = t.lives }) t a refl (stands_remove s r i n t.lives h at (ap is_over e) b)

pub makes_released : (s : State) (r t : RunSays) (i : ℕ) (n : Named) (l : LiveSays) (name out new : List ℕ) → Stands s r → slice_get s.names i ≡ Some n →
    slice_get r.lives i ≡ Some l → IsOf r.core l.session l.value → t.log ≡ ended_with l.value r.log → t.lives ≡ remove r.lives i → name ≡ l.name →
    new ≡ out ++ named_line name (codes "ended") → Makes (released n s) t out new
makes_released s r t i n l name out new h at there o a b e g =
    let k = pair_here (Fits s.history) s.names r.lives i n l h.names at there in
    record {
      written = g ∙ ap (λ (x : List ℕ). out ++ named_line x (codes "ended")) (e ∙ k.0.name);
      stands = stands_gone s r t i n l n.phase l.value refl refl h at k.0 k.1 o a b;
    }

-- A call for a cause.
no_change : (c : Cause) → is_none c ≡ false → first_cause c Called ≡ c
no_change no_cause e = absurd (cc)
no_change Called e = refl
no_change (From p) e = refl

none_or : (c : Cause) → is_none c ≡ not (has_cause c)
none_or no_cause = refl
none_or Called = refl
none_or (From p) = refl

called_fits : (h : List Entry) (n : Named) (r : RequestView) → FitsRequest h n r →
    FitsRequest h (record n { cause = first_cause n.cause Called }) (called_request r)
called_fits h n r f = record { id = f.id; policy = f.policy; latches = f.latches; shot = f.shot; cause = ap (λ c. first_cause c Called) f.cause }

called_as : (h : List Entry) (n : Named) (phase : Phase) (v : Value) → FitsValue h n phase v →
    FitsValue h (record n { cause = first_cause n.cause Called }) phase (called_value v)
called_as h n Optimistic (Optimist o) f = (called_fits h n o.r f.0, f.1, f.2)
called_as h n Optimistic (Waiting w) f = absurd f
called_as h n Optimistic (GrantedValue g) f = absurd f
called_as h n Optimistic OverValue f = absurd f
called_as h n Pending (Optimist o) f = absurd f
called_as h n Pending (Waiting w) f = (called_fits h n w.r f.0, f.1)
called_as h n Pending (GrantedValue g) f = absurd f
called_as h n Pending OverValue f = absurd f
called_as h n (Granted front) (Optimist o) f = absurd f
called_as h n (Granted front) (Waiting w) f = absurd f
called_as h n (Granted front) (GrantedValue g) f = (called_fits h n g.r f.0, f.1)
called_as h n (Granted front) OverValue f = absurd f
called_as h n Over (Optimist o) f = absurd f
called_as h n Over (Waiting w) f = absurd f
called_as h n Over (GrantedValue g) f = absurd f
called_as h n Over OverValue f = tt

may_as : (h : List Entry) (n : Named) (phase : Phase) (v : Value) → FitsValue h n phase v → may_poison v ≡ not (is_over phase || has_cause n.cause)
may_as h n Optimistic (Optimist o) f = ap is_none f.0.cause ∙ none_or n.cause
may_as h n Optimistic (Waiting w) f = absurd f
may_as h n Optimistic (GrantedValue g) f = absurd f
may_as h n Optimistic OverValue f = absurd f
may_as h n Pending (Optimist o) f = absurd f
may_as h n Pending (Waiting w) f = ap is_none f.0.cause ∙ none_or n.cause
may_as h n Pending (GrantedValue g) f = absurd f
may_as h n Pending OverValue f = absurd f
may_as h n (Granted front) (Optimist o) f = absurd f
may_as h n (Granted front) (Waiting w) f = absurd f
may_as h n (Granted front) (GrantedValue g) f = ap is_none f.0.cause ∙ none_or n.cause
may_as h n (Granted front) OverValue f = absurd f
may_as h n Over (Optimist o) f = absurd f
may_as h n Over (Waiting w) f = absurd f
may_as h n Over (GrantedValue g) f = absurd f
may_as h n Over OverValue f = refl

over_called : (v : Value) → may_poison v ≡ false → called_value v ≡ v
over_called (Optimist o) e = ap (λ c. Optimist (record o { r = record o.r { cause = c } })) (no_change o.r.cause e)
over_called (Waiting w) e = ap (λ c. Waiting (record w { r = record w.r { cause = c } })) (no_change w.r.cause e)
over_called (GrantedValue g) e = ap (λ c. GrantedValue (record g { r = record g.r { cause = c } })) (no_change g.r.cause e)
over_called OverValue e = refl

pub value_kept : (ls : List LiveSays) (i : ℕ) (l : LiveSays) → slice_get ls i ≡ Some l → with_value i l.value ls ≡ ls
value_kept [] zero l e = refl
value_kept [] (suc i) l e = refl
value_kept (x ∷ xs) zero l e = let same : l ≡ x = cc in ap (λ (y : LiveSays). let z : LiveSays = record x { value = y.value } in z ∷ xs) same
value_kept (x ∷ xs) (suc i) l e = ap (λ ys. x ∷ ys) (value_kept xs i l e)

pub makes_called : (s : State) (r t : RunSays) (i : ℕ) (n : Named) (l : LiveSays) (name out new : List ℕ) → Stands s r → slice_get s.names i ≡ Some n →
    slice_get r.lives i ≡ Some l → may_poison l.value ≡ true → t.log ≡ r.log → t.lives ≡ with_value i (called_value l.value) r.lives → name ≡ l.name →
    new ≡ out ++ named_line name (codes "poisons") → Makes (poisoned n s) t out new
makes_called s r t i n l name out new h at there p a b e g =
    let k = pair_here (Fits s.history) s.names r.lives i n l h.names at there in
    let free : (is_over n.phase || has_cause n.cause) ≡ false =
    not_true_of (is_over n.phase || has_cause n.cause) (sym (may_as s.history n n.phase l.value k.1) ∙ p) in
    let m : Named = record n { cause = first_cause n.cause Called } in
    let got : first_cause n.cause Called ≡ Called = called_is n.cause (second (is_over n.phase) (has_cause n.cause) free) in
    subst (λ (x : Step). Makes x t out new)
    (sym (ap (λ y. cond y (silent s) (record { written = line n (codes "poisons"); state = with_name (record n { cause = Called }) s })) free))
    (record {
      written = g ∙ ap (λ (x : List ℕ). out ++ named_line x (codes "poisons")) (e ∙ k.0.name);
      stands = subst (λ c. Stands (with_name (record n { cause = c }) s) t) got
          (stands_value s r t i n m (called_value l.value) h at (record { id = refl; name = refl; session = refl; mode = refl; turns = refl }) refl
          (called_as s.history n n.phase l.value k.1) a b);
    })
  where
    not_true_of : (a : Bool) → not a ≡ true → a ≡ false
    not_true_of true e = absurd (cc)
    not_true_of false e = refl

    second : (a b : Bool) → (a || b) ≡ false → b ≡ false
    second true b e = absurd (cc)
    second false b e = e

    called_is : (c : Cause) → has_cause c ≡ false → first_cause c Called ≡ Called
    called_is no_cause e = refl
    called_is Called e = refl
    called_is (From p) e = absurd (cc)

pub makes_uncalled : (s : State) (r t : RunSays) (i : ℕ) (n : Named) (l : LiveSays) (out : List ℕ) → Stands s r → slice_get s.names i ≡ Some n →
    slice_get r.lives i ≡ Some l → may_poison l.value ≡ false → t.log ≡ r.log → t.lives ≡ with_value i (called_value l.value) r.lives →
    Makes (poisoned n s) t out out
makes_uncalled s r t i n l out h at there p a b =
    let k = pair_here (Fits s.history) s.names r.lives i n l h.names at there in
    let busy : (is_over n.phase || has_cause n.cause) ≡ true =
    true_of (is_over n.phase || has_cause n.cause) (sym (may_as s.history n n.phase l.value k.1) ∙ p) in
    subst (λ (x : Step). Makes x t out out)
    (sym (ap (λ y. cond y (silent s) (record { written = line n (codes "poisons"); state = with_name (record n { cause = Called }) s })) busy))
    (makes_silent s t out (stands_as s r t a (b ∙ ap (λ v. with_value i v r.lives) (over_called l.value p) ∙ value_kept r.lives i l there) h))
  where
    true_of : (a : Bool) → not a ≡ false → a ≡ true
    true_of true e = refl
    true_of false e = absurd (cc)

-- A check.
met_line : (s : State) (n : Named) (asked : List Latch) (xs : List HeldLatch) → ((x : HeldLatch) → In x xs → MetIs s.history n.id x) →
    (met_first n s asked xs).written ≡ checked_met n.name asked xs
met_line s n asked [] f = refl
met_line s n asked (x ∷ xs) f = ap (λ (y : List ℕ). named_line n.name y) (sym (text_is (codes "met ") x (f x (inl refl)).shown_normal))

met_state : (s : State) (n : Named) (asked : List Latch) (xs : List HeldLatch) →
    (met_first n s asked xs).state ≡ with_name (record n { passed = passed_met asked xs }) s
met_state s n asked [] = refl
met_state s n asked (x ∷ xs) = refl

check_passed : (s : State) (r t : RunSays) (i : ℕ) (n : Named) (l : LiveSays) (o p : OptimistSays) (c : Option (List Latch)) → Stands s r →
    slice_get s.names i ≡ Some n → n.phase ≡ Optimistic → FitsValue s.history n Optimistic (Optimist o) → p.r ≡ o.r → p.passed ≡ c → t.log ≡ r.log →
    t.lives ≡ with_value i (Optimist p) r.lives → Stands (with_name (record n { passed = c }) s) t
check_passed s r t i n l o p c h at e f g k a b =
    let m : Named = record n { passed = c } in
    stands_value s r t i n m (Optimist p) h at (record { id = refl; name = refl; session = refl; mode = refl; turns = refl }) refl
    (subst (λ q. FitsValue s.history m q (Optimist p)) (sym e) (
      subst (λ (q : RequestView). FitsRequest s.history m q) (sym g)
          (record { id = f.0.id; policy = f.0.policy; latches = f.0.latches; shot = f.0.shot; cause = f.0.cause }),
      k,
      f.2,
    )) a b

pub makes_checked : (s : State) (r t : RunSays) (i : ℕ) (n : Named) (l : LiveSays) (o p : OptimistSays) (asked : List Latch) (name out new : List ℕ) →
    Stands s r → slice_get s.names i ≡ Some n → slice_get r.lives i ≡ Some l → l.value ≡ Optimist o → name ≡ l.name → ChecksAs o p name asked out new →
    t.log ≡ r.log → t.lives ≡ with_value i (Optimist p) r.lives → Makes (checked n s asked) t out new
makes_checked s r t i n l o p asked name out new h at there is e c a b =
    let k = pair_here (Fits s.history) s.names r.lives i n l h.names at there in
    let value : FitsValue s.history n n.phase (Optimist o) = subst (λ v. FitsValue s.history n n.phase v) is k.1 in
    let phase : n.phase ≡ Optimistic = optimistic n.phase value in
    let f : FitsValue s.history n Optimistic (Optimist o) = subst (λ q. FitsValue s.history n q (Optimist o)) phase value in
    let called : name ≡ n.name = e ∙ k.0.name in
    let place : undeclared o asked ≡ position (λ l. not (is_declared (latches_of s.history n.id) l)) asked =
    ap (λ ls. position (λ l. not (is_declared ls l)) asked) f.0.latches in
    let meets : met_in o.r.shot asked ≡ met s.history n.id asked = ap (λ q. met_in q asked) f.0.shot in
    by phase f called (undeclared o asked) (met s.history n.id asked) refl refl place meets
  where
    optimistic : (q : Phase) → FitsValue s.history n q (Optimist o) → q ≡ Optimistic
    optimistic Optimistic g = refl
    optimistic Pending g = absurd g
    optimistic (Granted front) g = absurd g
    optimistic Over g = absurd g

    by : n.phase ≡ Optimistic → FitsValue s.history n Optimistic (Optimist o) → name ≡ n.name → (q : Option ℕ) (xs : List HeldLatch) → undeclared o asked ≡ q →
        met s.history n.id asked ≡ xs → undeclared o asked ≡ position (λ l. not (is_declared (latches_of s.history n.id) l)) asked →
        met_in o.r.shot asked ≡ met s.history n.id asked → Makes (checked n s asked) t out new
    by phase f called (Some index) xs d m place meets =
        subst (λ (x : Step). Makes x t out new) (sym (ap (λ q. checked_unless q n s asked) (sym place ∙ d)))
        (record {
          written = c.written ∙ ap (λ q. out ++ checked_text o name asked q) d
              ∙ ap (λ (y : List ℕ). out ++ named_line y (codes "undeclared " ++ decimal index)) called;
          stands = subst (λ (u : State). Stands u t) (name_kept s i n at h.valid)
              (check_passed s r t i n l o p n.passed h at phase f c.request (c.passed ∙ ap (passed_then o asked) d ∙ f.1) a b);
        })
    by phase f called None xs d m place meets =
        let now : met_in o.r.shot asked ≡ xs = meets ∙ m in
        subst (λ (x : Step). Makes x t out new) (sym (ap (λ q. checked_unless q n s asked) (sym place ∙ d) ∙ ap (met_first n s asked) m))
        (record {
          written = c.written ∙ ap (λ q. out ++ checked_text o name asked q) d ∙ ap (λ ys. out ++ checked_met name asked ys) now
              ∙ ap (λ (y : List ℕ). out ++ checked_met y asked xs) called
              ∙ ap (λ (y : List ℕ). out ++ y) (sym (met_line s n asked xs (λ x k. met_is s.history n.id asked x (subst (λ ys. In x ys) (sym m) k))));
          stands = subst (λ (u : State). Stands u t) (sym (met_state s n asked xs))
              (check_passed s r t i n l o p (passed_met asked xs) h at phase f c.request
              (c.passed ∙ ap (passed_then o asked) d ∙ ap (passed_met asked) now) a b);
        })

-- A wait.
pub record WaitsAs (i : ℕ) (s : State) (n : Named) (w : WaitingSays) (r : RunSays) : Type 0 where
  pub state : State
  pub name : Named
  pub same : waited n.phase n s ≡ turn name state
  pub stands : StandsBut i state r
  pub at : slice_get state.names i ≡ Some name
  pub going : name.phase ≡ Pending
  pub fits : FitsRequest state.history name w.r
  pub turns : FitsTurns name.turns name.counted w.turns

pub waits_optimistic : (i : ℕ) (s : State) (r t : RunSays) (n : Named) (l : LiveSays) (o : OptimistSays) (w : WaitingSays) → Stands s r →
    slice_get s.names i ≡ Some n → slice_get r.lives i ≡ Some l → l.value ≡ Optimist o → w.r ≡ o.r → w.turns ≡ 0 → t.log ≡ r.log →
    t.lives ≡ with_value i OverValue r.lives → WaitsAs i s n w t
waits_optimistic i s r t n l o w h at there is f z a b =
    let k = pair_here (Fits s.history) s.names r.lives i n l h.names at there in
    by n.phase refl (subst (λ v. FitsValue s.history n n.phase v) is k.1)
  where
    m : Named
    m = record n { phase = Pending; passed = None }

    same : IsSame n m
    same = record { id = refl; name = refl; session = refl; mode = refl; turns = refl }

    out : StandsBut i s t
    out = but_as i s (record r { lives = t.lives }) t a refl (stands_take s r i t.lives b h)

    by : (p : Phase) → n.phase ≡ p → FitsValue s.history n n.phase (Optimist o) → WaitsAs i s n w t
    by Optimistic e g =
        let q : FitsValue s.history n Optimistic (Optimist o) = subst (λ x. FitsValue s.history n x (Optimist o)) e g in
        record {
          state = with_name m s;
          name = m;
          same = ap (λ x. waited x n s) e;
          stands = stands_formed s t i n m out at same (sym (ap is_over e));
          at = formed_at s i n m at same h.valid;
          going = refl;
          fits = subst (λ (x : RequestView). FitsRequest s.history m x) (sym f)
              (record { id = q.0.id; policy = q.0.policy; latches = q.0.latches; shot = q.0.shot; cause = q.0.cause });
          turns = subst (λ x. FitsTurns n.turns n.counted x) (sym z) q.2;
        }
    by Pending e g = absurd (subst (λ x. FitsValue s.history n x (Optimist o)) e g)
    by (Granted front) e g = absurd (subst (λ x. FitsValue s.history n x (Optimist o)) e g)
    by Over e g = absurd (subst (λ x. FitsValue s.history n x (Optimist o)) e g)

pub waits_pending : (i : ℕ) (s : State) (r t : RunSays) (n : Named) (l : LiveSays) (w : WaitingSays) → Stands s r →
    slice_get s.names i ≡ Some n → slice_get r.lives i ≡ Some l → l.value ≡ Waiting w → t.log ≡ r.log → t.lives ≡ with_value i OverValue r.lives →
    WaitsAs i s n w t
waits_pending i s r t n l w h at there is a b =
    let k = pair_here (Fits s.history) s.names r.lives i n l h.names at there in
    by n.phase refl (subst (λ v. FitsValue s.history n n.phase v) is k.1)
  where
    by : (p : Phase) → n.phase ≡ p → FitsValue s.history n n.phase (Waiting w) → WaitsAs i s n w t
    by Optimistic e g = absurd (subst (λ x. FitsValue s.history n x (Waiting w)) e g)
    by Pending e g =
        let q : FitsValue s.history n Pending (Waiting w) = subst (λ x. FitsValue s.history n x (Waiting w)) e g in
        record {
          state = s;
          name = n;
          same = ap (λ x. waited x n s) e;
          stands = but_as i s (record r { lives = t.lives }) t a refl (stands_take s r i t.lives b h);
          at = at;
          going = e;
          fits = q.0;
          turns = q.1;
        }
    by (Granted front) e g = absurd (subst (λ x. FitsValue s.history n x (Waiting w)) e g)
    by Over e g = absurd (subst (λ x. FitsValue s.history n x (Waiting w)) e g)

-- nothing to wait for
abbrev pub is_settled : Value → Bool
is_settled (Optimist o) = false
is_settled (Waiting w) = false
is_settled (GrantedValue g) = true
is_settled OverValue = true

pub waits_none : (i : ℕ) (s : State) (r t : RunSays) (n : Named) (l : LiveSays) (v : Value) (out : List ℕ) → Stands s r → slice_get s.names i ≡ Some n →
    slice_get r.lives i ≡ Some l → l.value ≡ v → is_settled v ≡ true → t.log ≡ r.log → t.lives ≡ r.lives → Makes (waited n.phase n s) t out out
waits_none i s r t n l v out h at there is g a b =
    let k = pair_here (Fits s.history) s.names r.lives i n l h.names at there in
    subst (λ (x : Step). Makes x t out out) (sym (by n.phase v (subst (λ x. FitsValue s.history n n.phase x) is k.1) g))
    (makes_silent s t out (stands_as s r t a b h))
  where
    by : (p : Phase) (v : Value) → FitsValue s.history n p v → is_settled v ≡ true → waited p n s ≡ silent s
    by Optimistic (Optimist o) f g = absurd (cc)
    by Optimistic (Waiting w) f g = absurd f
    by Optimistic (GrantedValue q) f g = absurd f
    by Optimistic OverValue f g = absurd f
    by Pending (Optimist o) f g = absurd f
    by Pending (Waiting w) f g = absurd (cc)
    by Pending (GrantedValue q) f g = absurd f
    by Pending OverValue f g = absurd f
    by (Granted front) v f g = refl
    by Over v f g = refl

-- An opening.
turns_free : (o : Option ℕ) → TurnsRange o → FitsTurns o 0 0
turns_free None h = tt
turns_free (Some n) h = record { same = refl; left = h.0; few = let l : n ≤ 1000000 = h.1 in omega arith }

begun_fits : (h : List Entry) (n : Named) (core : CoreId) (mode : Mode) (q : RequestView) → n.mode ≡ mode → n.phase ≡ first_phase mode → n.passed ≡ None →
    n.counted ≡ 0 → TurnsRange n.turns → FitsRequest h n q → FitsValue h n (first_phase mode) (begun_value core mode q)
begun_fits h n core Acquire q a b c d e f = (f, subst (λ k. FitsTurns n.turns k 0) (sym d) (turns_free n.turns e))
begun_fits h n core optimistic_mode q a b c d e f = (f, sym c, subst (λ k. FitsTurns n.turns k 0) (sym d) (turns_free n.turns e))
begun_fits h n core Look q a b c d e f = (f, subst (λ k. FitsTurns n.turns k 0) (sym d) (turns_free n.turns e))

going_first : (mode : Mode) → is_over (first_phase mode) ≡ false
going_first Acquire = refl
going_first optimistic_mode = refl
going_first Look = refl

pub stands_begun : (s : State) (r t : RunSays) (l : LiveSays) (core : CoreId) (policy : Policy) (latches : List Latch) → Stands s r → TurnsRange l.turns →
    (let request : Declaration = record { tag = s.line; policy = policy; latches = latches } in
    (t.log ≡ r.log ++ next_entry r.log l.session l.mode request ∷ []) × (l.value ≡ begun_value core l.mode (begun_request r.log l.session l.mode request))) →
    t.lives ≡ r.lives ++ l ∷ [] →
    (let named : Named = new_name s l.session l.name l.mode policy l.turns in Stands (with_new (new_begin s l.session l.mode policy latches) named s) t
    × FitsRequest (with_new (new_begin s l.session l.mode policy latches) named s).history named (begun_request r.log l.session l.mode
    (record { tag = s.line; policy = policy; latches = latches })))
stands_begun s r t l core policy latches h range made e =
    let request : Declaration = record { tag = s.line; policy = policy; latches = latches } in
    let named : Named = new_name s l.session l.name l.mode policy l.turns in
    let id : ℕ = length (begins s.history) + 1 in
    let x : Entry = new_begin s l.session l.mode policy latches in
    let new : latches_of (s.history ++ x ∷ []) id ≡ latches =
    latches_of_new s.history id (free_lane s.history) l.session l.mode request (h.valid.fresh id (omega arith)) in
    let fits : FitsRequest (s.history ++ x ∷ []) named (begun_request s.history l.session l.mode request) =
    record { id = refl; policy = refl; latches = sym new; shot = refl; cause = refl } in
    let value : FitsValue (s.history ++ x ∷ []) named (first_phase l.mode) (begun_value core l.mode (begun_request s.history l.session l.mode request)) =
    begun_fits (s.history ++ x ∷ []) named core l.mode _ refl refl refl refl range fits in (
      record {
        history = made.0 ∙ ap (λ g. g ++ next_entry g l.session l.mode request ∷ []) h.history;
        valid = valid_begin s.history s.names (free_lane s.history) l.session l.mode request named refl refl (going_first l.mode) new h.valid;
        names = subst (λ (xs : List LiveSays). Pairs (Fits (s.history ++ x ∷ [])) (s.names ++ named ∷ []) xs) (sym e)
            (pairs_pushed (Fits (s.history ++ x ∷ [])) s.names r.lives named l (pairs_grown s.history (x ∷ []) s.names r.lives h.valid.begun h.names) (
              record { name = refl; session = refl; mode = refl; turns = refl },
              subst (λ v. FitsValue (s.history ++ x ∷ []) named (first_phase l.mode) v)
                  (sym (made.1 ∙ ap (λ g. begun_value core l.mode (begun_request g l.session l.mode request)) h.history)) value,
            ));
      },
      subst (λ g. FitsRequest (s.history ++ x ∷ []) named (begun_request g l.session l.mode request)) (sym h.history) fits,
    )

-- the text of a request that has begun
pub text_of : (h : List Entry) (n : Named) (q : RequestView) → FitsRequest h n q →
    request_text q ≡ decimal n.id ++ codes " before " ++ numbers_text (before h n.id)
text_of h n q f =
    let waits : waits_for q ≡ met h n.id (latches_of h n.id) = both f.shot f.latches in
    ap (λ k. decimal k ++ codes " before " ++ numbers_text (ascending (map (λ (x : HeldLatch). x.by) (waits_for q)))) f.id
    ∙ ap (λ xs. decimal n.id ++ codes " before " ++ numbers_text (ascending (map (λ (x : HeldLatch). x.by) xs))) waits
    ∙ ap (λ ns. decimal n.id ++ codes " before " ++ numbers_text ns) (sym (before_is_met h n.id))
  where
    both : q.shot ≡ shot h n.id → q.request.latches ≡ latches_of h n.id → met_in q.shot q.request.latches ≡ met_in (shot h n.id) (latches_of h n.id)
    both e g = cc

pub begun_text : (core : CoreId) (mode : Mode) (q : RequestView) → opening_text (begun_value core mode q) ≡ request_text q
begun_text core Acquire q = refl
begun_text core optimistic_mode q = refl
begun_text core Look q = refl

pub makes_opened : (s : State) (n : Named) (t : RunSays) (name out mid new text : List ℕ) → name ≡ n.name →
    text ≡ decimal n.id ++ codes " before " ++ numbers_text (before s.history n.id) → mid ≡ out ++ named_line name text →
    Makes (first_turn n.mode n s) t mid new → Makes (opened n s) t out new
makes_opened s n t name out mid new text e f g h = record {
  written = h.written ∙ ap (λ (x : List ℕ). x ++ (first_turn n.mode n s).written) (g ∙ ap (λ (x : List ℕ). out ++ named_line x text) e
      ∙ ap (λ (x : List ℕ). out ++ named_line n.name x) f) ∙ append_assoc out _ (first_turn n.mode n s).written;
  stands = h.stands;
}

-- the last of the names
pub new_at : (s : State) (r : RunSays) (n : Named) (e : Entry) → Stands s r → slice_get (with_new e n s).names (length r.lives) ≡ Some n
new_at s r n e h = ap (λ k. slice_get (s.names ++ n ∷ []) k) (sym (pairs_length s.history s.names r.lives h.names)) ∙ get_push s.names n

pub held_called : (v : Value) → is_held (called_value v) ≡ is_held v
held_called (Optimist o) = refl
held_called (Waiting w) = refl
held_called (GrantedValue g) = refl
held_called OverValue = refl

pub of_called : (core : CoreId) (who : ℕ) (v : Value) → IsOf core who v → IsOf core who (called_value v)
of_called core who (Optimist o) f = f
of_called core who (Waiting w) f = f
of_called core who (GrantedValue g) f = f
of_called core who OverValue f = tt

none_is : (c : Cause) → is_none c ≡ false → c ≡ no_cause → ⊥
none_is c e f = let g : is_none c ≡ true = ap is_none f in cc

-- one that is not called has no cause where it had none
pub none_called : (v : Value) → may_poison v ≡ false → cause_of v ≡ no_cause → cause_of (called_value v) ≡ no_cause
none_called (Optimist o) e f = absurd (none_is o.r.cause e f)
none_called (Waiting w) e f = absurd (none_is w.r.cause e f)
none_called (GrantedValue g) e f = absurd (none_is g.r.cause e f)
none_called OverValue e f = refl

pub kept_value : (i : ℕ) (v : Value) (l : LiveSays) (ls ms new : List LiveSays) → slice_get ls i ≡ Some l → v ≡ l.value → ms ≡ with_value i OverValue ls →
    new ≡ with_value i v ms → new ≡ ls
kept_value i v l ls ms new at e f g =
    g ∙ ap (λ (xs : List LiveSays). with_value i v xs) f ∙ value_twice i v OverValue ls ∙ ap (λ x. with_value i x ls) e ∙ value_kept ls i l at

pub kept_over : (i : ℕ) (l : LiveSays) (ls new : List LiveSays) → slice_get ls i ≡ Some l → OverValue ≡ l.value → new ≡ with_value i OverValue ls → new ≡ ls
kept_over i l ls new at e f = f ∙ ap (λ x. with_value i x ls) e ∙ value_kept ls i l at

pub inside_of : (i : ℕ) (ls : List Live) → i < length ls → i < length (map seen_live ls)
inside_of i ls l = let a : length (map seen_live ls) ≡ length ls = length-map ls seen_live in omega arith
