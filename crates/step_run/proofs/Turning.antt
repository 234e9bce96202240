-- What the functions of a turn do to a run is what the definition's turn does to a state.
use Rattle.std.proofs.Common.{◌≡◌, ℕ, ◌+◌, ◌-◌, ◌^◌, ◌<◌, Bool, true, false, not, cond, ◌&&◌, List, [], ◌∷◌, ◌++◌, length, Option, Some, None, codes}
use Rattle.std.proofs.Common.{decimal, ◌⊎◌, inl, inr, refl, sym, ap, ◌∙◌, subst, arith}
use Rattle.std.specs.Prelude.{min, slice_get}
use Rattle.std.proofs.lemmas.Bool.{eq-eqb, ne_eqb}
use Rattle.std.proofs.lemmas.List.{append-nil, append_assoc}
use Rattle.latch_model.specs.Latches.{normal}
use Rattle.latch_model.specs.Checks.{has_cause}
use Rattle.latch_model.specs.Histories.{HeldLatch}
use Rattle.latch_model.specs.declared.history.Cause.{Cause}
use Rattle.latch_model.specs.declared.history.Cause.TheVariants.{None as no_cause, Called, From}
use Rattle.latch_model.specs.declared.history.Entry.{Entry}
use Rattle.latch_model.specs.declared.history.Entry.TheVariants.{Ended}
use Rattle.latch_model.specs.declared.history.Fault.{Fault}
use Rattle.latch_model.specs.declared.history.Fault.TheVariants.{None as no_fault, Poisoned as by_poison, Cancelled}
use Rattle.latch_model.specs.declared.history.Grant.{Grant}
use Rattle.latch_model.specs.declared.history.Grant.TheVariants.{Never, Waited}
use Rattle.latch_model.specs.declared.latch.Mode.{Mode}
use Rattle.latch_model.specs.declared.latch.Mode.TheVariants.{Acquire, Optimistic as optimistic_mode, Look}
use Rattle.latch_model.specs.declared.latch.Policy.{Policy}
use Rattle.latch_model.specs.declared.latch.Policy.TheVariants.{Error}
use Rattle.report.specs.Words.{mark_text, marked}
use Rattle.signal_board.specs.Views.{RequestView}
use Rattle.waiter.specs.Says.{GrantedSays, WaitingSays}
use Rattle.step_run.specs.State.{Granted, Named, Pending, State, ended, is_poisoned_in, with_name}
use Rattle.step_run.specs.Steps.{Step, after, blocked, by_poisoned, counted_turn, decided_by, granted, is_over, line, spent_turn, spread_to, turn}
use Rattle.step_run.specs.Texts.{met_text, named_line, spread_text}
use Rattle.sequence_core.specs.Says.{DeskState}
use Rattle.step_run.specs.Lives.{LiveSays, is_none, with_value}
use Rattle.step_run.specs.Seen.{seen_run}
use Rattle.step_run.specs.declared.run.StepRun.{StepRun}
use Rattle.step_run.specs.Runs.{AskedBlocked, AskedPoisoned, AskedReady, Fits, FitsName, FitsRequest, FitsTurns, HasCounted, HasTurns, IsLent, IsSame, Makes}
use Rattle.step_run.specs.Runs.{FitsValue, Pairs, PairsBut, RunSays, Stands, StandsBut, spread_if}
use Rattle.step_run.specs.declared.live.Value.TheVariants.{Waiting, Granted as GrantedValue}
use Rattle.step_run.proofs.Keeping.{but_here, stands_end, stands_put}

-- only the history and the live names of a run tell at which state it stands
pub stands_as : (s : State) (r t : RunSays) → t.log ≡ r.log → t.lives ≡ r.lives → Stands s r → Stands s t
stands_as s r t e f h = record {
  history = e ∙ h.history;
  valid = h.valid;
  names = subst (λ (ls : List LiveSays). Pairs (Fits s.history) s.names ls) (sym f) h.names;
}

pub but_as : (i : ℕ) (s : State) (r t : RunSays) → t.log ≡ r.log → t.lives ≡ r.lives → StandsBut i s r → StandsBut i s t
but_as i s r t e f h = record {
  history = e ∙ h.history;
  valid = h.valid;
  names = subst (λ (ls : List LiveSays). PairsBut i (Fits s.history) FitsName s.names ls) (sym f) h.names;
}

pub itself : (n : Named) → IsSame n n
itself n = record { id = refl; name = refl; session = refl; mode = refl; turns = refl }

-- what is kept of the name whose value is out
pub lent_name : (i who : ℕ) (s : State) (r : RunSays) (n : Named) → StandsBut i s r → slice_get s.names i ≡ Some n → (k : IsLent i who r) → FitsName n k.live
lent_name i who s r n h at k = but_here (Fits s.history) FitsName s.names r.lives i n k.live h.names at k.at

-- A request that was lent ends.
pub stands_ended : (i : ℕ) (s : State) (r t : RunSays) (n m : Named) (q : RequestView) (grant : Grant) (fault : Fault) → StandsBut i s r →
    slice_get s.names i ≡ Some n → IsLent i q.who r → IsSame n m → FitsRequest s.history m q →
    t.log ≡ r.log ++ Ended q.id q.who grant q.cause fault ∷ [] → t.lives ≡ r.lives → Stands (ended grant fault m s) t
stands_ended i s r t n m q grant fault h at k same f e g =
    let who : q.who ≡ m.session = sym k.session ∙ (lent_name i q.who s r n h at k).session ∙ sym same.session in
    let here : Ended q.id q.who grant q.cause fault ≡ Ended m.id m.session grant m.cause fault = as_entry f.id who f.cause in
    stands_as (ended grant fault m s) (record r { log = t.log }) t refl g
    (stands_end s r i n m k.live grant fault t.log r.passes h at k.at k.over same (e ∙ ap (λ (x : Entry). r.log ++ x ∷ []) here))
  where
    as_entry : {a b c d : ℕ} {x y : Cause} → a ≡ b → c ≡ d → x ≡ y → Ended a c grant x fault ≡ Ended b d grant y fault
    as_entry p q z = cc

-- A granted request is put back, or ends where it is a look.
pub stands_granted : (i who : ℕ) (s : State) (r t : RunSays) (n : Named) (g : GrantedSays) → StandsBut i s r → slice_get s.names i ≡ Some n →
    is_over n.phase ≡ false → FitsRequest s.history n g.r → g.grant ≡ Waited (length s.history) → t.log ≡ r.log →
    t.lives ≡ with_value i (GrantedValue g) r.lives → Stands (with_name (record n { phase = Granted (length s.history) }) s) t
stands_granted i who s r t n g h at o f e a b =
    let m : Named = record n { phase = Granted (length s.history) } in
    stands_as (with_name m s) (record r { lives = t.lives }) t a refl
    (stands_put s r i n m (GrantedValue g) t.lives h at (record { id = refl; name = refl; session = refl; mode = refl; turns = refl }) (sym o)
    (record { id = f.id; policy = f.policy; latches = f.latches; shot = f.shot; cause = f.cause }, e) b)

pub granted_look : (s : State) (n : Named) (t : RunSays) (mode : Mode) → mode ≡ Look → Stands (ended (Waited (length s.history)) no_fault n s) t →
    Stands (granted mode n s) t
granted_look s n t mode e h = subst (λ (x : Mode). Stands (granted x n s) t) (sym e) h

pub granted_other : (s : State) (n : Named) (t : RunSays) (mode : Mode) → (mode ≡ Look → ⊥) →
    Stands (with_name (record n { phase = Granted (length s.history) }) s) t → Stands (granted mode n s) t
granted_other s n t Acquire e h = h
granted_other s n t optimistic_mode e h = h
granted_other s n t Look e h = absurd (e refl)

pub makes_granted : (s : State) (n : Named) (old w : WaitingSays) (t : RunSays) (name out new : List ℕ) (front : ℕ) → AskedReady s n old w → name ≡ n.name →
    front ≡ length s.history → Stands (granted n.mode n s) t → new ≡ out ++ named_line name (codes "granted " ++ decimal front) → Makes (turn n s) t out new
makes_granted s n old w t name out new front a e f h g =
    subst (λ (x : Step). Makes x t out new) (sym (ap (decided_by n s) a.nothing)) (record {
      written = g ∙ ap (λ (x : List ℕ). out ++ named_line x (codes "granted " ++ decimal front)) e
          ∙ ap (λ (k : ℕ). out ++ named_line n.name (codes "granted " ++ decimal k)) f;
      stands = h;
    })

-- The text of a held latch as snapshots list it.
pub text_is : (words : List ℕ) (x : HeldLatch) → normal x.latch ≡ x.latch.stamp → words ++ decimal x.by ++ 32 ∷ marked x.latch.span x.latch.stamp
    ≡ words ++ decimal x.by ++ 32 ∷ mark_text x.latch
text_is words x e = ap (λ stamp. words ++ decimal x.by ++ 32 ∷ marked x.latch.span stamp) (sym e)

-- A request fails.
pub makes_poisoned : (s : State) (n : Named) (by : ℕ) (old w : WaitingSays) (t : RunSays) (name out new : List ℕ) → (a : AskedPoisoned s n by old w) →
    name ≡ n.name → Stands (ended Never (by_poison by) n s) t → new ≡ out ++ named_line name (met_text (codes "poisoned ") a.latch) → Makes (turn n s) t out new
makes_poisoned s n by old w t name out new a e h g =
    subst (λ (x : Step). Makes x t out new) (sym whole) (record {
      written = g ∙ ap (λ (x : List ℕ). out ++ named_line x (met_text (codes "poisoned ") a.latch)) e
          ∙ ap (λ (x : List ℕ). out ++ named_line n.name x) (text_is (codes "poisoned ") a.latch a.shown_normal);
      stands = subst (λ p. Stands (ended Never (by_poison p) n s) t) a.whose h;
    })
  where
    whole : turn n s ≡ by_poisoned Error n s a.latch
    whole = ap (decided_by n s) a.first
        ∙ ap (λ b. cond b (by_poisoned n.policy n s a.latch) (blocked n s a.latch)) a.poisoned
        ∙ ap (λ (p : Policy). by_poisoned p n s a.latch) a.policy

-- A request stays blocked.
after_is : (words : List ℕ) (u : Step) (t : RunSays) (out mid new : List ℕ) → mid ≡ out ++ words → Makes u t mid new → Makes (after words u) t out new
after_is words u t out mid new e h = record {
  written = h.written ∙ ap (λ (x : List ℕ). x ++ u.written) e ∙ append_assoc out words u.written;
  stands = h.stands;
}

makes_lines : (s : State) (m : Named) (x : HeldLatch) (t : RunSays) (out mid new spread : List ℕ) → normal x.latch ≡ x.latch.stamp →
    mid ≡ out ++ (spread ++ named_line m.name (met_text (codes "blocked ") x)) → Makes (spent_turn m s m.turns) t mid new →
    Makes (after spread (blocked m s x)) t out new
makes_lines s m x t out mid new spread e f h =
    after_is spread (blocked m s x) t out (out ++ spread) new refl
    (after_is (line m (codes "blocked " ++ decimal x.by ++ 32 ∷ mark_text x.latch)) (spent_turn m s m.turns) t (out ++ spread) mid new
    (f ∙ sym (append_assoc out spread (named_line m.name (met_text (codes "blocked ") x)))
    ∙ ap (λ (y : List ℕ). (out ++ spread) ++ named_line m.name y) (text_is (codes "blocked ") x e)) h)

spread_name : (n : Named) (b : Bool) (p : ℕ) → (spread_if b n p).name ≡ n.name
spread_name n false p = refl
spread_name n true p = by (has_cause n.cause) refl
  where
    by : (c : Bool) → has_cause n.cause ≡ c → (spread_to n p).name ≡ n.name
    by true e = ap (λ d. (cond d n (record n { cause = From p })).name) e
    by false e = ap (λ d. (cond d n (record n { cause = From p })).name) e

pub spread_same : (n : Named) (b : Bool) (p : ℕ) → IsSame n (spread_if b n p)
spread_same n false p = itself n
spread_same n true p = by (has_cause n.cause) refl
  where
    by : (c : Bool) → has_cause n.cause ≡ c → IsSame n (spread_to n p)
    by true e = subst (λ (m : Named). IsSame n m) (sym (ap (λ d. cond d n (record n { cause = From p })) e)) (itself n)
    by false e = subst (λ (m : Named). IsSame n m) (sym (ap (λ d. cond d n (record n { cause = From p })) e))
        (record { id = refl; name = refl; session = refl; mode = refl; turns = refl })

pub spread_counted : (n : Named) (b : Bool) (p : ℕ) →
    ((spread_if b n p).counted ≡ n.counted) × ((spread_if b n p).phase ≡ n.phase) × ((spread_if b n p).turns ≡ n.turns)
spread_counted n false p = (refl, refl, refl)
spread_counted n true p = by (has_cause n.cause) refl
  where
    Claim : Named → Type 0
    Claim m = (m.counted ≡ n.counted) × (m.phase ≡ n.phase) × (m.turns ≡ n.turns)

    by : (c : Bool) → has_cause n.cause ≡ c → Claim (spread_to n p)
    by true e = subst Claim (sym (ap (λ d. cond d n (record n { cause = From p })) e)) (refl, refl, refl)
    by false e = subst Claim (sym (ap (λ d. cond d n (record n { cause = From p })) e)) (refl, refl, refl)

-- whether the cause is new
pub spreads_now : (n : Named) (b : Bool) (p : ℕ) (q : RequestView) (h : List Entry) → FitsRequest h (spread_if b n p) q →
    (not (has_cause n.cause) && not (is_none q.cause)) ≡ (b && not (has_cause n.cause))
spreads_now n false p q h f = by n.cause q.cause f.cause
  where
    by : (c d : Cause) → d ≡ c → (not (has_cause c) && not (is_none d)) ≡ false
    by no_cause d e = ap (λ x. not (is_none x)) e
    by Called d e = refl
    by (From r) d e = refl
spreads_now n true p q h f = by n.cause refl
  where
    cause_of : (b : Bool) → has_cause n.cause ≡ b → (spread_to n p).cause ≡ cond b n.cause (From p)
    cause_of true e = ap (λ d. (cond d n (record n { cause = From p })).cause) e
    cause_of false e = ap (λ d. (cond d n (record n { cause = From p })).cause) e

    by : (c : Cause) → n.cause ≡ c → (not (has_cause n.cause) && not (is_none q.cause)) ≡ not (has_cause n.cause)
    by no_cause e =
        let is : has_cause n.cause ≡ false = ap has_cause e in
        let got : q.cause ≡ From p = f.cause ∙ cause_of false is in
        ap (λ x. not x && not (is_none q.cause)) is ∙ ap (λ x. not (is_none x)) got ∙ sym (ap not is)
    by Called e = let is : has_cause n.cause ≡ true = ap has_cause e in ap (λ x. not x && not (is_none q.cause)) is ∙ sym (ap not is)
    by (From r) e = let is : has_cause n.cause ≡ true = ap has_cause e in ap (λ x. not x && not (is_none q.cause)) is ∙ sym (ap not is)

-- The whole of a blocked turn.
pub makes_blocked : (s : State) (n : Named) (by : ℕ) (old w : WaitingSays) (t : RunSays) (name out mid new : List ℕ) (spreads : Bool) →
    (a : AskedBlocked s n by old w) → name ≡ n.name → spreads ≡ (is_poisoned_in s.names a.latch.by && not (has_cause n.cause)) →
    mid ≡ out ++ (spread_text spreads name by ++ named_line name (met_text (codes "blocked ") a.latch)) →
    (let m : Named = spread_if (is_poisoned_in s.names a.latch.by) n a.latch.by in Makes (spent_turn m s m.turns) t mid new) →
    Makes (turn n s) t out new
makes_blocked s n by old w t name out mid new spreads a e f g h =
    subst (λ (x : Step). Makes x t out new) (sym (ap (decided_by n s) a.first)) (cases (is_poisoned_in s.names a.latch.by) refl)
  where
    m : Bool → Named
    m b = spread_if b n a.latch.by

    text : (b : Bool) → is_poisoned_in s.names a.latch.by ≡ b →
        mid ≡ out ++ (spread_text (b && not (has_cause n.cause)) n.name a.latch.by ++ named_line n.name (met_text (codes "blocked ") a.latch))
    text b p = g ∙ ap (λ (x : List ℕ). out ++ (spread_text spreads x by ++ named_line x (met_text (codes "blocked ") a.latch))) e
        ∙ ap (λ y. out ++ (spread_text y n.name by ++ named_line n.name (met_text (codes "blocked ") a.latch))) (f ∙ ap (λ y. y && not (has_cause n.cause)) p)
        ∙ ap (λ y. out ++ (spread_text (b && not (has_cause n.cause)) n.name y ++ named_line n.name (met_text (codes "blocked ") a.latch))) a.whose

    rest : (b : Bool) → is_poisoned_in s.names a.latch.by ≡ b → Makes (spent_turn (m b) s (m b).turns) t mid new
    rest b p = subst (λ y. Makes (spent_turn (m y) s (m y).turns) t mid new) p h

    spread : (c : Bool) → has_cause n.cause ≡ c → spread_text (not (has_cause n.cause)) n.name a.latch.by
        ≡ cond (has_cause n.cause) [] (line n (codes "spreads " ++ decimal a.latch.by))
    spread true p = ap (λ y. spread_text (not y) n.name a.latch.by) p ∙ sym (ap (λ y. cond y [] (line n (codes "spreads " ++ decimal a.latch.by))) p)
    spread false p = ap (λ y. spread_text (not y) n.name a.latch.by) p ∙ sym (ap (λ y. cond y [] (line n (codes "spreads " ++ decimal a.latch.by))) p)

    cases : (b : Bool) → is_poisoned_in s.names a.latch.by ≡ b →
        Makes (cond (is_poisoned_in s.names a.latch.by) (by_poisoned n.policy n s a.latch) (blocked n s a.latch)) t out new
    cases true p =
        subst (λ (x : Step). Makes x t out new)
        (sym (ap (λ b. cond b (by_poisoned n.policy n s a.latch) (blocked n s a.latch)) p ∙ ap (λ (q : Policy). by_poisoned q n s a.latch) (a.policy p)))
        (makes_lines s (spread_to n a.latch.by) a.latch t out mid new _ a.shown_normal
        (text true p ∙ ap (λ (y : List ℕ). out ++ (y ++ named_line n.name (met_text (codes "blocked ") a.latch))) (spread (has_cause n.cause) refl)
        ∙ ap (λ (y : List ℕ). out ++ (cond (has_cause n.cause) [] (line n (codes "spreads " ++ decimal a.latch.by))
        ++ named_line y (met_text (codes "blocked ") a.latch))) (sym (spread_name n true a.latch.by)))
        (rest true p))
    cases false p =
        subst (λ (x : Step). Makes x t out new) (sym (ap (λ b. cond b (by_poisoned n.policy n s a.latch) (blocked n s a.latch)) p))
        (let h0 : Makes (after [] (blocked n s a.latch)) t out new = makes_lines s n a.latch t out mid new [] a.shown_normal (text false p) (rest false p) in
        record { written = h0.written; stands = h0.stands })

-- Turns are counted.
pub counted_poll : (m : Named) (o : Option ℕ) (old new : ℕ) → FitsTurns o m.counted old → new ≡ min (old + 1) (2 ^ 64 - 1) → HasCounted o m.counted new
counted_poll m None old new f e = tt
counted_poll m (Some turns) old new f e = (omega (arith, e, f.same, f.left, f.few), f.left, f.few)

pub makes_uncounted : (i : ℕ) (s : State) (r t : RunSays) (n m : Named) (w : WaitingSays) (out : List ℕ) → StandsBut i s r → slice_get s.names i ≡ Some n →
    is_over n.phase ≡ false → IsSame n m → m.phase ≡ Pending → FitsRequest s.history m w.r → m.turns ≡ None → t.log ≡ r.log →
    t.lives ≡ with_value i (Waiting w) r.lives → Makes (spent_turn m s m.turns) t out out
makes_uncounted i s r t n m w out h at o same p f e a b =
    subst (λ k. Makes (spent_turn m s k) t out out) (sym e) (record {
      written = sym (append-nil out);
      stands = stands_as (with_name m s) (record r { lives = t.lives }) t a refl
          (stands_put s r i n m (Waiting w) t.lives h at same (ap is_over p ∙ sym o)
          (subst (λ k. FitsValue s.history m k (Waiting w)) (sym p) (f, subst (λ k. FitsTurns k m.counted w.turns) (sym e) tt)) b);
    })

pub makes_counted : (i : ℕ) (s : State) (r t : RunSays) (n m : Named) (w : WaitingSays) (turns : ℕ) (out : List ℕ) → StandsBut i s r →
    slice_get s.names i ≡ Some n → is_over n.phase ≡ false → IsSame n m → m.phase ≡ Pending → FitsRequest s.history m w.r →
    m.turns ≡ Some turns → HasCounted m.turns m.counted w.turns →
    (w.turns ≡ turns → ⊥) → t.log ≡ r.log → t.lives ≡ with_value i (Waiting w) r.lives → Makes (counted_turn m s turns) t out out
makes_counted i s r t n m w turns out h at o same p f e k d a b =
    let c : (w.turns ≡ m.counted + 1) × (m.counted < turns) × (turns < 2 ^ 32) = subst (λ q. HasCounted q m.counted w.turns) e k in
    let x : Named = record m { counted = m.counted + 1 } in
    let alike : IsSame n x = record { id = same.id; name = same.name; session = same.session; mode = same.mode; turns = same.turns } in
    let left : HasTurns turns x.counted w.turns = record {
      same = c.0;
      left = let g : (m.counted + 1 ≡ turns) → ⊥ = λ q. d (c.0 ∙ q) in let l : m.counted < turns = c.1 in below m.counted turns l g;
      few = c.2;
    } in
    subst (λ q. Makes q t out out) (sym (ap (λ q. cond q (record { written = line m (codes "cancelled"); state = ended Never (Cancelled turns) x s })
    (record { written = []; state = with_name x s })) (ne_eqb (m.counted + 1) turns (λ q. d (c.0 ∙ q)))))
    (record {
      written = sym (append-nil out);
      stands = stands_as (with_name x s) (record r { lives = t.lives }) t a refl
          (stands_put s r i n x (Waiting w) t.lives h at alike (ap is_over p ∙ sym o)
          (subst (λ q. FitsValue s.history x q (Waiting w)) (sym p) (
            record { id = f.id; policy = f.policy; latches = f.latches; shot = f.shot; cause = f.cause },
            subst (λ q. FitsTurns q x.counted w.turns) (sym e) left,
          )) b);
    })
  where
    below : (a b : ℕ) → a < b → (a + 1 ≡ b → ⊥) → a + 1 < b
    below a b l g = omega (arith, g)

pub makes_cancelled : (i : ℕ) (s : State) (r t : RunSays) (n m : Named) (w : WaitingSays) (turns : ℕ) (name out new : List ℕ) → StandsBut i s r →
    slice_get s.names i ≡ Some n → IsLent i w.r.who r → IsSame n m → FitsRequest s.history m w.r → m.turns ≡ Some turns → HasCounted m.turns m.counted w.turns →
    w.turns ≡ turns → name ≡ n.name → t.log ≡ r.log ++ Ended w.r.id w.r.who Never w.r.cause (Cancelled w.turns) ∷ [] → t.lives ≡ r.lives →
    new ≡ out ++ named_line name (codes "cancelled") → Makes (counted_turn m s turns) t out new
makes_cancelled i s r t n m w turns name out new h at lent same f e k d g a b z =
    let c : (w.turns ≡ m.counted + 1) × (m.counted < turns) × (turns < 2 ^ 32) = subst (λ q. HasCounted q m.counted w.turns) e k in
    let x : Named = record m { counted = m.counted + 1 } in
    let alike : IsSame n x = record { id = same.id; name = same.name; session = same.session; mode = same.mode; turns = same.turns } in
    subst (λ q. Makes q t out new) (sym (ap (λ q. cond q (record { written = line m (codes "cancelled"); state = ended Never (Cancelled turns) x s })
    (record { written = []; state = with_name x s })) (eq-eqb (m.counted + 1) turns (sym c.0 ∙ d))))
    (record {
      written = z ∙ ap (λ (y : List ℕ). out ++ named_line y (codes "cancelled")) (g ∙ sym same.name);
      stands = stands_ended i s r t n x w.r Never (Cancelled turns) h at lent alike
          (record { id = f.id; policy = f.policy; latches = f.latches; shot = f.shot; cause = f.cause })
          (a ∙ ap (λ q. r.log ++ Ended w.r.id w.r.who Never w.r.cause (Cancelled q) ∷ []) d) b;
    })

pub not_none : (c : Cause) → not (is_none c) ≡ has_cause c
not_none no_cause = refl
not_none Called = refl
not_none (From p) = refl

pub seen_desk : (run : StepRun) (desk : DeskState) → desk ≡ run.desk → seen_run (record run { desk = desk }) ≡ seen_run run
seen_desk run desk e = ap (λ (d : DeskState). seen_run (record run { desk = d })) e

pub granted_fits : (h : List Entry) (n : Named) (r : RequestView) (shown : List Entry) (front : Option ℕ) → FitsRequest h n r →
    FitsRequest h n (record r { shown = shown; front = front })
granted_fits h n r shown front f = record { id = f.id; policy = f.policy; latches = f.latches; shot = f.shot; cause = f.cause }

pub not_look : (mode : Mode) → (mode ≡ Acquire) ⊎ (mode ≡ optimistic_mode) → mode ≡ Look → ⊥
not_look mode (inl e) f = let x : Acquire ≡ Look = sym e ∙ f in cc
not_look mode (inr e) f = let x : optimistic_mode ≡ Look = sym e ∙ f in cc

pub blocked_counted : (n m : Named) (old w : WaitingSays) → m.turns ≡ n.turns → m.counted ≡ n.counted → FitsTurns n.turns n.counted old.turns →
    w.turns ≡ min (old.turns + 1) (2 ^ 64 - 1) → HasCounted m.turns m.counted w.turns
blocked_counted n m old w a b f e =
    counted_poll m m.turns old.turns w.turns (subst (λ o. FitsTurns o m.counted old.turns) (sym a) (subst (λ k. FitsTurns n.turns k old.turns) (sym b) f)) e

pub pending_of : (n : Named) → n.phase ≡ Pending → is_over n.phase ≡ false
pending_of n e = ap is_over e
