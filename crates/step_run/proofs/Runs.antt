-- The commands of a script one after another, and what its rules say of the states that they reach.
use Rattle.std.proofs.Common.{◌≡◌, ◌≢◌, ℕ, zero, suc, ◌+◌, ◌<◌, Bool, true, false, not, cond, ◌||◌, ◌==◌, List, [], ◌∷◌, ◌++◌, length, map, take}
use Rattle.std.proofs.Common.{get_or, Option, Some, None, codes, refl, sym, ap, ◌∙◌, subst, arith}
use Rattle.std.specs.Prelude.{slice_get, slice_set}
use Rattle.std.specs.List.{filter, find, position, remove}
use Rattle.std.proofs.lemmas.List.{append-nil, append_assoc, length-append, take_more}
use Rattle.latch_model.specs.Checks.{has_cause, is_declared}
use Rattle.latch_model.specs.Histories.{HeldLatch, begins, free_lane, has_ended, latches_of, met}
use Rattle.latch_model.specs.declared.history.Cause.TheVariants.{Called}
use Rattle.latch_model.specs.declared.history.Entry.{Entry}
use Rattle.latch_model.specs.declared.history.Fault.TheVariants.{None as no_fault}
use Rattle.latch_model.specs.declared.history.Grant.{Grant}
use Rattle.latch_model.specs.declared.history.Grant.TheVariants.{Never, Waited}
use Rattle.latch_model.specs.declared.latch.Latch.{Latch}
use Rattle.latch_model.specs.declared.latch.Mode.{Mode}
use Rattle.latch_model.specs.declared.latch.Mode.TheVariants.{Acquire, Optimistic as optimistic_mode, Look}
use Rattle.latch_model.specs.declared.latch.Policy.{Policy}
use Rattle.latch_model.specs.declared.latch.Policy.TheVariants.{Wait as policy_wait, Error as policy_error}
use Rattle.script.specs.Commands.{is_checkable, rule_cause, same_name}
use Rattle.script.specs.Follows.{passed_grant}
use Rattle.script.specs.declared.command.Command.{Command}
use Rattle.script.specs.declared.command.Command.TheVariants.{Begin as Open, Wait, Check, Poison, Release, Metrics}
use Rattle.script.proofs.Busy.{same_is}
use Rattle.step_run.specs.State.{Granted, Named, Optimistic, Over, Pending, Phase, State, ended, is_poisoned_in, replaced, start, with_name, without}
use Rattle.step_run.specs.Steps.{Step, after, checked, checked_unless, first_phase, first_turn, is_over, line, met_first, new_begin, new_name}
use Rattle.step_run.specs.Steps.{next_line, on_found, by_poisoned, decided_by, granted, spent_turn, spread_to}
use Rattle.step_run.specs.Steps.{on_name, one, opening, poisoned, released, released_state, run, silent, turn, waited, with_new}
use Rattle.step_run.specs.Valid.{Valid}
use Rattle.std.specs.Option.{option_and_then}
use Rattle.std.proofs.lemmas.Bool.{ne_eqb}
use Rattle.latch_model.proofs.Ascending.{Rising}
use Rattle.latch_model.proofs.Elements.{Each}
use Rattle.latch_model.proofs.Members.{get_below}
use Rattle.script.specs.Commands.{some_live}
use Rattle.script.specs.Scripts.{IsCommand}
use Rattle.waiter.specs.Says.{OptimistSays}
use Rattle.step_run.specs.Allowing.{Allowed, AllowedCheck}
use Rattle.step_run.specs.Lives.{LiveSays, has_name}
use Rattle.step_run.specs.Runs.{Fits, FitsValue, Makes, Pairs, RunSays, Stands}
use Rattle.step_run.specs.declared.live.Value.{Value}
use Rattle.step_run.specs.declared.live.Value.TheVariants.{Optimist, Waiting, Granted as GrantedValue, Over as OverValue}
use Rattle.step_run.proofs.Commanding.{pairs_length}
use Rattle.step_run.proofs.Keeping.{pair_here}
use Rattle.step_run.proofs.Growing.{latches_of_new}
use Rattle.step_run.proofs.Names.{found_at, replaced_at, replaced_set, turn_set, without_at}
use Rattle.step_run.proofs.Places.{Each-at, find_by_place, get-set, get_push, map-set_same, remove-set}
use Rattle.step_run.proofs.Standing.{valid_begin}
use Rattle.step_run.proofs.Tracking.{Tracked, Tracks, checkable_name, free_name, live_name, no_check_left, no_name_left, no_name_of, start_tracks}
use Rattle.step_run.proofs.Tracking.{tracks_formed, tracks_missed, tracks_open, tracks_release, tracks_still, used_name}

-- the state to which commands come, and what they have written
abbrev pub reached : List Command → State
reached cs = (run start cs).state

abbrev pub written_by : List Command → List ℕ
written_by cs = (run start cs).written

run_push : (s : State) (cs : List Command) (c : Command) → run s (cs ++ c ∷ []) ≡ after (run s cs).written
    (after (one (run s cs).state c).written (silent (next_line (one (run s cs).state c).state)))
run_push s [] c = refl
run_push s (x ∷ xs) c =
    ap (λ t. after (one s x).written t) (run_push (next_line (one s x).state) xs c)
    ∙ joined (one s x).written (run (next_line (one s x).state) xs).written _
  where
    joined : (a b : List ℕ) (t : Step) → after a (after b t) ≡ after (a ++ b) t
    joined a b t = ap (λ w. let r : Step = record { written = w; state = t.state } in r) (sym (append_assoc a b t.written))

-- Where a run stands after some commands.
pub record StandsAfter (cs : List Command) (r : RunSays) (out : List ℕ) : Type 0 where
  pub stands : Stands (reached cs) r
  pub written : out ≡ written_by cs
  pub tracks : Tracks cs (reached cs).names
  pub line : (reached cs).line ≡ length cs + 2

-- The names after a command, where the rules have no cause against it.
formed : (cs : List Command) (ns : List Named) (i : ℕ) (n m : Named) → slice_get ns i ≡ Some n → Rising (map (λ (n : Named). n.id) ns) → m.id ≡ n.id →
    m.name ≡ n.name → m.session ≡ n.session → (is_checkable cs n.name ≡ true → m.phase ≡ Optimistic) → Tracks cs ns → Tracks cs (replaced m ns)
formed cs ns i n m at r a b c p t =
    tracks_formed cs ns (replaced m ns) i n at (replaced_set ns i n m at r (record { id = a; name = b; session = c })) p t

turned : (cs : List Command) (s : State) (i : ℕ) (n : Named) → slice_get s.names i ≡ Some n → Rising (map (λ (n : Named). n.id) s.names) →
    (is_checkable cs n.name ≡ true → ⊥) → Tracks cs s.names → Tracks cs (turn n s).state.names
turned cs s i n at r f t = tracks_formed cs s.names (turn n s).state.names i n at (turn_set s i n at r) (λ e. absurd (f e)) t

-- wait
waited_tracks : (cs : List Command) (s : State) (i : ℕ) (n : Named) (phase : Phase) → slice_get s.names i ≡ Some n → Valid s.history s.names →
    (is_checkable cs n.name ≡ true → ⊥) → Tracks cs s.names → Tracks cs (waited phase n s).state.names
waited_tracks cs s i n Optimistic at v f t =
    let m : Named = record n { phase = Pending; passed = None } in
    let is : replaced m s.names ≡ slice_set s.names i m = replaced_at s.names i n m at refl v.rising in
    let here : slice_get (replaced m s.names) i ≡ Some m = ap (λ ns. slice_get ns i) is ∙ get-set s.names i n m at in
    let rising : Rising (map (λ (n : Named). n.id) (replaced m s.names)) =
    subst (λ ns. Rising (map (λ (n : Named). n.id) ns)) (sym is)
    (subst Rising (sym (map-set_same (λ (n : Named). n.id) s.names i n m at refl)) v.rising) in
    turned cs (with_name m s) i m here rising f (formed cs s.names i n m at v.rising refl refl refl (λ e. absurd (f e)) t)
waited_tracks cs s i n Pending at v f t = turned cs s i n at v.rising f t
waited_tracks cs s i n (Granted front) at v f t = t
waited_tracks cs s i n Over at v f t = t

-- check
met_first_tracks : (cs : List Command) (s : State) (i : ℕ) (n : Named) (asked : List Latch) (xs : List HeldLatch) → slice_get s.names i ≡ Some n →
    Valid s.history s.names → Tracks cs s.names → Tracks cs (met_first n s asked xs).state.names
met_first_tracks cs s i n asked [] at v t =
    formed cs s.names i n (record n { passed = Some asked }) at v.rising refl refl refl (λ e. (Each-at (Tracked cs) s.names i n at t.each).checkable e) t
met_first_tracks cs s i n asked (x ∷ xs) at v t =
    formed cs s.names i n (record n { passed = None }) at v.rising refl refl refl (λ e. (Each-at (Tracked cs) s.names i n at t.each).checkable e) t

checked_tracks : (cs : List Command) (s : State) (i : ℕ) (n : Named) (asked : List Latch) (o : Option ℕ) → slice_get s.names i ≡ Some n →
    Valid s.history s.names → Tracks cs s.names → Tracks cs (checked_unless o n s asked).state.names
checked_tracks cs s i n asked (Some index) at v t = t
checked_tracks cs s i n asked None at v t = met_first_tracks cs s i n asked (met s.history n.id asked) at v t

-- poison
poisoned_tracks : (cs : List Command) (s : State) (i : ℕ) (n : Named) → slice_get s.names i ≡ Some n → Valid s.history s.names → Tracks cs s.names →
    Tracks cs (poisoned n s).state.names
poisoned_tracks cs s i n at v t = by (is_over n.phase || has_cause n.cause) refl
  where
    whole : Bool → Step
    whole b = cond b (silent s) (record { written = line n (codes "poisons"); state = with_name (record n { cause = Called }) s })

    by : (b : Bool) → (is_over n.phase || has_cause n.cause) ≡ b → Tracks cs (poisoned n s).state.names
    by true e = subst (λ (x : Step). Tracks cs x.state.names) (sym (ap whole e)) t
    by false e = subst (λ (x : Step). Tracks cs x.state.names) (sym (ap whole e))
        (formed cs s.names i n (record n { cause = Called }) at v.rising refl refl refl (λ g. (Each-at (Tracked cs) s.names i n at t.each).checkable g) t)

-- release
gone_tracks : (cs : List Command) (s : State) (i : ℕ) (n : Named) (name : List ℕ) (grant : Grant) → slice_get s.names i ≡ Some n → Valid s.history s.names →
    Tracks cs (remove s.names i) → Tracks cs (without n.id (ended grant no_fault n s).names)
gone_tracks cs s i n name grant at v t =
    let over : Named = record n { phase = Over } in
    let is : replaced over s.names ≡ slice_set s.names i over = replaced_at s.names i n over at refl v.rising in
    let rising : Rising (map (λ (n : Named). n.id) (slice_set s.names i over)) =
    subst Rising (sym (map-set_same (λ (n : Named). n.id) s.names i n over at refl)) v.rising in
    let same : without n.id (replaced over s.names) ≡ remove s.names i =
    ap (λ (xs : List Named). without n.id xs) is ∙ without_at (slice_set s.names i over) i over (get-set s.names i n over at) rising
    ∙ remove-set s.names i over in
    subst (λ ns. Tracks cs ns) (sym same) t

released_tracks : (cs : List Command) (s : State) (i : ℕ) (n : Named) (name : List ℕ) (phase : Phase) → slice_get s.names i ≡ Some n → Valid s.history s.names →
    Tracks cs (remove s.names i) → Tracks cs (without n.id (released_state phase n s).names)
released_tracks cs s i n name Optimistic at v t = gone_tracks cs s i n name (passed_grant n.passed) at v t
released_tracks cs s i n name Pending at v t = gone_tracks cs s i n name Never at v t
released_tracks cs s i n name (Granted front) at v t = gone_tracks cs s i n name (Waited front) at v t
released_tracks cs s i n name Over at v t = subst (λ ns. Tracks cs ns) (sym (without_at s.names i n at v.rising)) t

-- opening
opened_tracks : (cs : List Command) (s : State) (session : ℕ) (name : List ℕ) (mode : Mode) (policy : Policy) (turns : Option ℕ) (latches : List Latch) →
    Valid s.history s.names → rule_cause cs (Open session name mode policy turns latches) ≡ None → Tracks cs s.names →
    Tracks (cs ++ Open session name mode policy turns latches ∷ []) (opening s session name mode policy turns latches).state.names
opened_tracks cs s session name mode policy turns latches v e t = by mode refl
  where
    n : Named
    n = new_name s session name mode policy turns

    c : Command
    c = Open session name mode policy turns latches

    next : State
    next = with_new (new_begin s session mode policy latches) n s

    fresh : latches_of (s.history ++ new_begin s session mode policy latches ∷ []) n.id ≡ latches
    fresh = latches_of_new s.history (length (begins s.history) + 1) (free_lane s.history) session mode
        (record { tag = s.line; policy = policy; latches = latches }) (v.fresh (length (begins s.history) + 1) (omega arith))

    going : (m : Mode) → is_over (first_phase m) ≡ false
    going Acquire = refl
    going optimistic_mode = refl
    going Look = refl

    valid : Valid next.history next.names
    valid = valid_begin s.history s.names (free_lane s.history) session mode (record { tag = s.line; policy = policy; latches = latches }) n refl refl
        (going mode) fresh v

    first : (m : Mode) → m ≡ optimistic_mode → first_phase m ≡ Optimistic
    first m g = ap first_phase g

    all : Tracks (cs ++ c ∷ []) next.names
    all = tracks_open cs s.names n mode policy turns latches (free_name cs session name mode policy turns latches e).1 (first mode) t

    at : slice_get next.names (length s.names) ≡ Some n
    at = get_push s.names n

    not_first : (m : Mode) → mode ≡ m → first_phase m ≡ Pending → is_checkable (cs ++ c ∷ []) n.name ≡ true → ⊥
    not_first m g p k =
        let x : first_phase mode ≡ Optimistic = (Each-at (Tracked (cs ++ c ∷ [])) next.names (length s.names) n at all.each).checkable k in
        apart (sym (ap first_phase g ∙ p) ∙ x)
      where
        apart : Pending ≡ Optimistic → ⊥
        apart q = cc

    by : (m : Mode) → mode ≡ m → Tracks (cs ++ c ∷ []) (first_turn mode n next).state.names
    by Acquire g = subst (λ (m : Mode). Tracks (cs ++ c ∷ []) (first_turn m n next).state.names) (sym g)
        (turned (cs ++ c ∷ []) next (length s.names) n at valid.rising (not_first Acquire g refl) all)
    by optimistic_mode g = subst (λ (m : Mode). Tracks (cs ++ c ∷ []) (first_turn m n next).state.names) (sym g) all
    by Look g = subst (λ (m : Mode). Tracks (cs ++ c ∷ []) (first_turn m n next).state.names) (sym g)
        (turned (cs ++ c ∷ []) next (length s.names) n at valid.rising (not_first Look g refl) all)

-- a command on a name
named_tracks : (cs : List Command) (c : Command) (s : State) (name : List ℕ) (f : Named → Step) → Tracks (cs ++ c ∷ []) s.names →
    ((i : ℕ) (n : Named) → slice_get s.names i ≡ Some n → n.name ≡ name → Tracks (cs ++ c ∷ []) (f n).state.names) →
    Tracks (cs ++ c ∷ []) (on_name s name f).state.names
named_tracks cs c s name f t g = by (find (λ (n : Named). same_name n.name name) s.names) refl
  where
    by : (o : Option Named) → find (λ (n : Named). same_name n.name name) s.names ≡ o → Tracks (cs ++ c ∷ []) (on_name s name f).state.names
    by None e = subst (λ (o : Option Named). Tracks (cs ++ c ∷ []) (on_found s o f).state.names) (sym e) t
    by (Some n) e =
        let w = found_at (λ (n : Named). same_name n.name name) s.names n e in
        subst (λ (o : Option Named). Tracks (cs ++ c ∷ []) (on_found s o f).state.names) (sym e) (g w.0 n w.1 (same_is n.name name w.2))

one_tracks : (s : State) (cs : List Command) (c : Command) → Valid s.history s.names → rule_cause cs c ≡ None → Tracks cs s.names →
    Tracks (cs ++ c ∷ []) (one s c).state.names
one_tracks s cs (Open session name mode policy turns latches) v e t = opened_tracks cs s session name mode policy turns latches v e t
one_tracks s cs (Wait name) v e t =
    let all : Tracks (cs ++ Wait name ∷ []) s.names = tracks_still cs (Wait name) s.names (λ q. refl) (λ q. refl) t in
    named_tracks cs (Wait name) s name (λ n. waited n.phase n s) all
    (λ i n at same. waited_tracks (cs ++ Wait name ∷ []) s i n n.phase at v (no_check_left cs name n.name same) all)
one_tracks s cs (Check name latches) v e t =
    let all : Tracks (cs ++ Check name latches ∷ []) s.names = tracks_still cs (Check name latches) s.names (λ q. refl) (λ q. refl) t in
    named_tracks cs (Check name latches) s name (λ n. checked n s latches) all
    (λ i n at same.
    checked_tracks (cs ++ Check name latches ∷ []) s i n latches (position (λ l. not (is_declared (latches_of s.history n.id) l)) latches) at v all)
one_tracks s cs (Poison name) v e t =
    let all : Tracks (cs ++ Poison name ∷ []) s.names = tracks_still cs (Poison name) s.names (λ q. refl) (λ q. refl) t in
    named_tracks cs (Poison name) s name (λ n. poisoned n s) all
    (λ i n at same. poisoned_tracks (cs ++ Poison name ∷ []) s i n at v all)
one_tracks s cs (Release name) v e t = by (find (λ (n : Named). same_name n.name name) s.names) refl
  where
    by : (o : Option Named) → find (λ (n : Named). same_name n.name name) s.names ≡ o → Tracks (cs ++ Release name ∷ []) (one s (Release name)).state.names
    by None f =
        subst (λ (o : Option Named). Tracks (cs ++ Release name ∷ []) (on_found s o (λ n. released n s)).state.names) (sym f)
        (tracks_missed cs s.names name (used_name cs name (live_name cs name e)) f t)
    by (Some n) f =
        let w = found_at (λ (n : Named). same_name n.name name) s.names n f in
        subst (λ (o : Option Named). Tracks (cs ++ Release name ∷ []) (on_found s o (λ n. released n s)).state.names) (sym f)
        (released_tracks (cs ++ Release name ∷ []) s w.0 n name n.phase w.1 v
        (tracks_release cs s.names w.0 n name w.1 (same_is n.name name w.2) (used_name cs name (live_name cs name e)) t))
one_tracks s cs Metrics v e t = tracks_still cs Metrics s.names (λ q. refl) (λ q. refl) t

-- a command leaves the line
spent_line : (s : State) (m : Named) (o : Option ℕ) → (spent_turn m s o).state.line ≡ s.line
spent_line s m None = refl
spent_line s m (Some turns) = by (m.counted + 1 == turns) refl
  where
    by : (b : Bool) → (m.counted + 1 == turns) ≡ b → (spent_turn m s (Some turns)).state.line ≡ s.line
    by true e = rw e refl
    by false e = rw e refl

by_poisoned_line : (s : State) (n : Named) (x : HeldLatch) (policy : Policy) → (by_poisoned policy n s x).state.line ≡ s.line
by_poisoned_line s n x policy_wait = spent_line s (spread_to n x.by) (spread_to n x.by).turns
by_poisoned_line s n x policy_error = refl

granted_line : (s : State) (n : Named) (mode : Mode) → (granted mode n s).line ≡ s.line
granted_line s n Acquire = refl
granted_line s n optimistic_mode = refl
granted_line s n Look = refl

decided_line : (s : State) (n : Named) (xs : List HeldLatch) → (decided_by n s xs).state.line ≡ s.line
decided_line s n [] = granted_line s n n.mode
decided_line s n (x ∷ xs) = by (is_poisoned_in s.names x.by) refl
  where
    by : (b : Bool) → is_poisoned_in s.names x.by ≡ b → (decided_by n s (x ∷ xs)).state.line ≡ s.line
    by true e = rw e (by_poisoned_line s n x n.policy)
    by false e = rw e (spent_line s n n.turns)

turn_line : (s : State) (n : Named) → (turn n s).state.line ≡ s.line
turn_line s n = decided_line s n (filter (λ (x : HeldLatch). not (has_ended s.history x.by)) (met s.history n.id (latches_of s.history n.id)))

first_line : (s : State) (n : Named) (mode : Mode) → (first_turn mode n s).state.line ≡ s.line
first_line s n Acquire = turn_line s n
first_line s n optimistic_mode = refl
first_line s n Look = turn_line s n

waited_line : (s : State) (n : Named) (phase : Phase) → (waited phase n s).state.line ≡ s.line
waited_line s n Optimistic = turn_line (with_name (record n { phase = Pending; passed = None }) s) (record n { phase = Pending; passed = None })
waited_line s n Pending = turn_line s n
waited_line s n (Granted front) = refl
waited_line s n Over = refl

met_first_line : (s : State) (n : Named) (asked : List Latch) (xs : List HeldLatch) → (met_first n s asked xs).state.line ≡ s.line
met_first_line s n asked [] = refl
met_first_line s n asked (x ∷ xs) = refl

checked_line : (s : State) (n : Named) (asked : List Latch) (o : Option ℕ) → (checked_unless o n s asked).state.line ≡ s.line
checked_line s n asked (Some index) = refl
checked_line s n asked None = met_first_line s n asked (met s.history n.id asked)

poisoned_line : (s : State) (n : Named) → (poisoned n s).state.line ≡ s.line
poisoned_line s n = by (is_over n.phase || has_cause n.cause) refl
  where
    by : (b : Bool) → (is_over n.phase || has_cause n.cause) ≡ b → (poisoned n s).state.line ≡ s.line
    by true e = rw e refl
    by false e = rw e refl

released_line : (s : State) (n : Named) (phase : Phase) → (released_state phase n s).line ≡ s.line
released_line s n Optimistic = refl
released_line s n Pending = refl
released_line s n (Granted front) = refl
released_line s n Over = refl

named_line_kept : (s : State) (name : List ℕ) (f : Named → Step) → ((n : Named) → (f n).state.line ≡ s.line) → (on_name s name f).state.line ≡ s.line
named_line_kept s name f g = by (find (λ (n : Named). same_name n.name name) s.names)
  where
    by : (o : Option Named) → (on_found s o f).state.line ≡ s.line
    by None = refl
    by (Some n) = g n

one_line : (s : State) (c : Command) → (one s c).state.line ≡ s.line
one_line s (Open session name mode policy turns latches) =
    first_line (with_new (new_begin s session mode policy latches) (new_name s session name mode policy turns) s)
    (new_name s session name mode policy turns) mode
one_line s (Wait name) = named_line_kept s name (λ n. waited n.phase n s) (λ n. waited_line s n n.phase)
one_line s (Check name latches) = named_line_kept s name (λ n. checked n s latches)
    (λ n. checked_line s n latches (position (λ l. not (is_declared (latches_of s.history n.id) l)) latches))
one_line s (Poison name) = named_line_kept s name (λ n. poisoned n s) (λ n. poisoned_line s n)
one_line s (Release name) = named_line_kept s name (λ n. released n s) (λ n. released_line s n n.phase)
one_line s Metrics = refl

line_next : (d : List Command) (c : Command) {a b n : ℕ} → a ≡ b → b ≡ length d + 2 → n ≡ length (d ++ c ∷ []) → a + 1 ≡ n + 2
line_next d c e f g = let k : length (d ++ c ∷ []) ≡ length d + length (c ∷ []) = length-append d (c ∷ []) in omega (arith, k)

-- A run stands after one more command.
pub stands_next : (cs : List Command) (i : ℕ) (c : Command) (r t : RunSays) (out new : List ℕ) → i < length cs → c ≡ get_or cs i c →
    rule_cause (take i cs) c ≡ None → StandsAfter (take i cs) r out → Makes (one (reached (take i cs)) c) t out new → StandsAfter (take (i + 1) cs) t new
stands_next cs i c r t out new l e rule s h =
    let d : List Command = take i cs in
    let longer : take (i + 1) cs ≡ d ++ c ∷ [] = take_more cs i c l ∙ ap (λ x. d ++ x ∷ []) (sym e) in
    let pushed : run start (take (i + 1) cs) ≡ after (written_by d) (after (one (reached d) c).written (silent (next_line (one (reached d) c).state))) =
    ap (λ ds. run start ds) longer ∙ run_push start d c in
    let state : reached (take (i + 1) cs) ≡ next_line (one (reached d) c).state = ap (λ (x : Step). x.state) pushed in
    record {
      stands = subst (λ (x : State). Stands x t) (sym state) (record { history = h.stands.history; valid = h.stands.valid; names = h.stands.names });
      written = h.written ∙ ap (λ (w : List ℕ). w ++ (one (reached d) c).written) s.written
          ∙ ap (λ (w : List ℕ). written_by d ++ w) (sym (append-nil (one (reached d) c).written)) ∙ sym (ap (λ (x : Step). x.written) pushed);
      tracks = subst (λ (x : List Command). Tracks x (reached (take (i + 1) cs)).names) (sym longer)
          (subst (λ (x : State). Tracks (d ++ c ∷ []) x.names) (sym state) (one_tracks (reached d) d c s.stands.valid rule s.tracks));
      line = ap (λ (x : State). x.line) state ∙ line_next d c (one_line (reached d) c) s.line (ap length longer);
    }

-- What a rule allows of a command.
has_none : (h : List Entry) (ns : List Named) (ls : List LiveSays) (session : ℕ) → Pairs (Fits h) ns ls → Each (λ (n : Named). n.session ≢ session) ns →
    has_name session ls ≡ false
has_none h [] [] session p e = refl
has_none h [] (l ∷ ls) session p e = absurd p
has_none h (n ∷ ns) [] session p e = absurd p
has_none h (n ∷ ns) (l ∷ ls) session p e =
    both (l.session == session) (has_name session ls) (ne_eqb l.session session (λ g. e.0 (sym p.0.0.session ∙ g))) (has_none h ns ls session p.1 e.1)
  where
    both : (a b : Bool) → a ≡ false → b ≡ false → (a || b) ≡ false
    both true b f g = f
    both false b f g = g

optimist_of : (h : List Entry) (n : Named) (v : Value) → FitsValue h n Optimistic v → (o : OptimistSays) × (v ≡ Optimist o)
optimist_of h n (Optimist o) f = (o, refl)
optimist_of h n (Waiting w) f = absurd f
optimist_of h n (GrantedValue g) f = absurd f
optimist_of h n OverValue f = absurd f

checks_optimist : (cs : List Command) (name : List ℕ) (latches : List Latch) (r : RunSays) → rule_cause cs (Check name latches) ≡ None →
    (s : State) → Stands s r → Tracks cs s.names → AllowedCheck name r.lives
checks_optimist cs name latches r e s h t i l place at =
    let same : find (λ (l : LiveSays). same_name l.name name) r.lives ≡ Some l =
    find_by_place (λ (l : LiveSays). same_name l.name name) r.lives ∙ ap (λ o. option_and_then (λ j. slice_get r.lives j) o) place ∙ at in
    let found = found_at (λ (l : LiveSays). same_name l.name name) r.lives l same in
    let count : length s.names ≡ length r.lives = pairs_length s.history s.names r.lives h.names in
    let inside : i < length r.lives = within r.lives i at in
    let n = get_below s.names i (omega arith) in
    let k = pair_here (Fits s.history) s.names r.lives i n.0 l h.names n.1 at in
    let called : n.0.name ≡ name = sym k.0.name ∙ same_is l.name name found.2 in
    let checkable : is_checkable cs n.0.name ≡ true = ap (λ q. is_checkable cs q) called ∙ (checkable_name cs name latches e).1 in
    let phase : n.0.phase ≡ Optimistic = (Each-at (Tracked cs) s.names i n.0 n.1 t.each).checkable checkable in
    optimist_of s.history n.0 l.value (subst (λ p. FitsValue s.history n.0 p l.value) phase k.1)
  where
    within : (xs : List LiveSays) (j : ℕ) → slice_get xs j ≡ Some l → j < length xs
    within [] j e = absurd (cc)
    within (x ∷ xs) zero e = omega arith
    within (x ∷ xs) (suc j) e = let k : j < length xs = within xs j e in omega arith

pub allowed_at : (cs : List Command) (c : Command) (r : RunSays) (out : List ℕ) → IsCommand c → rule_cause cs c ≡ None → StandsAfter cs r out →
    Allowed c r.lives
allowed_at cs (Open session name mode policy turns latches) r out k e s = (
  has_none (reached cs).history (reached cs).names r.lives session s.stands.names
      (no_name_of cs (reached cs).names session (free_name cs session name mode policy turns latches e).0 s.tracks),
  k,
)
allowed_at cs (Wait name) r out k e s = tt
allowed_at cs (Check name latches) r out k e s = checks_optimist cs name latches r e (reached cs) s.stands s.tracks
allowed_at cs (Poison name) r out k e s = tt
allowed_at cs (Release name) r out k e s = tt
allowed_at cs Metrics r out k e s = tt

pub stands_first : (r : RunSays) (out : List ℕ) → Stands start r → out ≡ [] → StandsAfter [] r out
stands_first r out h e = record { stands = h; written = e; tracks = start_tracks; line = refl }

-- No live name is left at the end.
pub none_left : (cs : List Command) (r : RunSays) (out : List ℕ) → some_live cs ≡ false → StandsAfter cs r out → r.lives ≡ []
none_left cs r out e s = empty (reached cs).history (reached cs).names r.lives s.stands.names (no_name_left cs (reached cs).names e s.tracks)
  where
    empty : (h : List Entry) (ns : List Named) (ls : List LiveSays) → Pairs (Fits h) ns ls → ns ≡ [] → ls ≡ []
    empty h [] [] p f = refl
    empty h [] (l ∷ ls) p f = absurd p
    empty h (n ∷ ns) ls p f = absurd (cc)
