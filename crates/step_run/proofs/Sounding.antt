-- A run stays sound by each change of its passes and of its live names.
use Rattle.std.proofs.Common.{◌≡◌, ◌≢◌, ℕ, zero, suc, ◌+◌, ◌-◌, ◌<◌, ◌≤◌, Bool, true, false, not, ◌&&◌, ◌||◌, ◌==◌, List, [], ◌∷◌, ◌++◌, length, map, get_or, Some, refl, sym}
use Rattle.std.proofs.Common.{ap, ◌∙◌, subst, arith}
use Rattle.std.specs.Prelude.{slice_get, slice_set}
use Rattle.std.specs.List.{remove}
use Rattle.std.proofs.lemmas.Bool.{eq-eqb, eqb-true, ne_eqb, or_left, or_right}
use Rattle.std.proofs.lemmas.List.Folds.{list_any-append}
use Rattle.latch_model.specs.declared.history.Cause.{Cause}
use Rattle.latch_model.specs.declared.history.Cause.TheVariants.{None as no_cause, Called, From}
use Rattle.latch_model.specs.declared.history.Entry.{Entry}
use Rattle.latch_model.proofs.Elements.{Each, Each-append}
use Rattle.signal_board.specs.Rule.{open_count}
use Rattle.signal_board.specs.Says.{PassSays}
use Rattle.waiter.specs.Says.{CoreId, OptimistSays, WaitingSays}
use Rattle.step_run.specs.Lives.{AreWarned, HasNoCause, IsLive, IsOf, LiveSays, cause_of, has_name, has_open, is_held, is_none, lent_by, seen_live, warned_live}
use Rattle.step_run.specs.Lives.{warned_value, with_value}
use Rattle.step_run.specs.Runs.{IsLent, IsPass, RunSays, Sound, given_back}
use Rattle.step_run.specs.declared.live.Live.{Live}
use Rattle.step_run.specs.declared.live.Value.{Value}
use Rattle.step_run.specs.declared.live.Value.TheVariants.{Optimist, Waiting, Granted, Over}
use Rattle.step_run.proofs.Places.{Each-at, Each-remove}

-- whether a session has an open request, after a change
or_same : (a b c : Bool) → a ≡ b → (a || c) ≡ (b || c)
or_same a b c e = ap (λ x. x || c) e

both_false : (a b : Bool) → a ≡ false → (a && b) ≡ false
both_false true b e = absurd (cc)
both_false false b e = refl

pub open_other : (j i : ℕ) (v : Value) (ls : List LiveSays) (l : LiveSays) → slice_get ls i ≡ Some l → l.session ≢ j →
    has_open j (with_value i v ls) ≡ has_open j ls
open_other j i v [] l e f = absurd (cc)
open_other j zero v (x ∷ xs) l e f =
    let same : x ≡ l = cc in
    let other : (x.session == j) ≡ false = ne_eqb x.session j (λ g. f (ap (λ (y : LiveSays). y.session) (sym same) ∙ g)) in
    or_same _ _ (has_open j xs) (both_false (x.session == j) (is_held v) other ∙ sym (both_false (x.session == j) (is_held x.value) other))
open_other j (suc i) v (x ∷ xs) l e f = ap (λ b. ((x.session == j) && is_held x.value) || b) (open_other j i v xs l e f)

open_held : (j i : ℕ) (v : Value) (ls : List LiveSays) (l : LiveSays) → slice_get ls i ≡ Some l → l.session ≡ j → is_held v ≡ true →
    has_open j (with_value i v ls) ≡ true
open_held j i v [] l e f g = absurd (cc)
open_held j zero v (x ∷ xs) l e f g =
    let same : x ≡ l = cc in
    or_left _ (has_open j xs) (both_true (x.session == j) (is_held v) (eq-eqb x.session j (ap (λ (y : LiveSays). y.session) same ∙ f)) g)
  where
    both_true : (a b : Bool) → a ≡ true → b ≡ true → (a && b) ≡ true
    both_true true b e f = f
    both_true false b e f = absurd (cc)
open_held j (suc i) v (x ∷ xs) l e f g = or_right _ (has_open j (with_value i v xs)) (open_held j i v xs l e f g)

open_removed : (j i : ℕ) (ls : List LiveSays) (l : LiveSays) → slice_get ls i ≡ Some l → ((l.session == j) && is_held l.value) ≡ false →
    has_open j (remove ls i) ≡ has_open j ls
open_removed j i [] l e f = absurd (cc)
open_removed j zero (x ∷ xs) l e f =
    let same : x ≡ l = cc in
    sym (ap (λ b. b || has_open j xs) (ap (λ (y : LiveSays). (y.session == j) && is_held y.value) same ∙ f))
open_removed j (suc i) (x ∷ xs) l e f = ap (λ b. ((x.session == j) && is_held x.value) || b) (open_removed j i xs l e f)

open_pushed : (j : ℕ) (ls : List LiveSays) (l : LiveSays) → has_open j (ls ++ l ∷ []) ≡ (has_open j ls || (((l.session == j) && is_held l.value) || false))
open_pushed j ls l = list_any-append (λ (x : LiveSays). (x.session == j) && is_held x.value) ls (l ∷ [])

held_warned : (ps : List ℕ) (v : Value) → is_held (warned_value ps v) ≡ is_held v
held_warned ps (Optimist o) = refl
held_warned ps (Waiting w) = refl
held_warned ps (Granted g) = refl
held_warned ps Over = refl

open_warned : (j : ℕ) (ls ms : List LiveSays) → AreWarned ls ms → has_open j ms ≡ has_open j ls
open_warned j [] [] h = refl
open_warned j [] (m ∷ ms) h = absurd h
open_warned j (l ∷ ls) [] h = absurd h
open_warned j (l ∷ ls) (m ∷ ms) h = both_or (one h.0.0 h.0.1) (open_warned j ls ms h.1)
  where
    one : (ps : List ℕ) → m ≡ warned_live ps l → ((m.session == j) && is_held m.value) ≡ ((l.session == j) && is_held l.value)
    one ps e = ap (λ (x : LiveSays). (x.session == j) && is_held x.value) e ∙ ap (λ b. (l.session == j) && b) (held_warned ps l.value)

    both_or : {a b x y : Bool} → a ≡ b → x ≡ y → (a || x) ≡ (b || y)
    both_or e f = cc

-- each live name after a change
of_warned : (core : CoreId) (who : ℕ) (ps : List ℕ) (v : Value) → IsOf core who v → IsOf core who (warned_value ps v)
of_warned core who ps (Optimist o) h = h
of_warned core who ps (Waiting w) h = h
of_warned core who ps (Granted g) h = h
of_warned core who ps Over h = tt

live_warned : (core : CoreId) (ps : List ℕ) (l m : LiveSays) → m ≡ warned_live ps l → IsLive core l → IsLive core m
live_warned core ps l m e h =
    subst (λ (x : LiveSays). IsLive core x) (sym e) (record { low = h.low; high = h.high; of = of_warned core l.session ps l.value h.of })

pub lives_warned : (core : CoreId) (ls ms : List LiveSays) → AreWarned ls ms → Each (IsLive core) ls → Each (IsLive core) ms
lives_warned core [] [] h k = tt
lives_warned core [] (m ∷ ms) h k = absurd h
lives_warned core (l ∷ ls) [] h k = absurd h
lives_warned core (l ∷ ls) (m ∷ ms) h k = (live_warned core h.0.0 l m h.0.1 k.0, lives_warned core ls ms h.1 k.1)

lives_valued : (core : CoreId) (i : ℕ) (v : Value) (ls : List LiveSays) → ((l : LiveSays) → slice_get ls i ≡ Some l → IsOf core l.session v) →
    Each (IsLive core) ls → Each (IsLive core) (with_value i v ls)
lives_valued core zero v [] f h = tt
lives_valued core (suc i) v [] f h = tt
lives_valued core zero v (l ∷ ls) f h = (record { low = h.0.low; high = h.0.high; of = f l refl }, h.1)
lives_valued core (suc i) v (l ∷ ls) f h = (h.0, lives_valued core i v ls f h.1)

-- live names of which none has a cause, after a change
none_warned : (ls ms : List LiveSays) → AreWarned ls ms → Each HasNoCause ls → Each HasNoCause ms
none_warned [] [] h k = tt
none_warned [] (m ∷ ms) h k = absurd h
none_warned (l ∷ ls) [] h k = absurd h
none_warned (l ∷ ls) (m ∷ ms) h k = (ap cause_of (ap (λ (x : LiveSays). x.value) h.0.1) ∙ same h.0.0 l.value ∙ k.0, none_warned ls ms h.1 k.1)
  where
    same : (ps : List ℕ) (v : Value) → cause_of (warned_value ps v) ≡ cause_of v
    same ps (Optimist o) = refl
    same ps (Waiting w) = refl
    same ps (Granted g) = refl
    same ps Over = refl

none_valued : (i : ℕ) (v : Value) (ls : List LiveSays) → cause_of v ≡ no_cause → Each HasNoCause ls → Each HasNoCause (with_value i v ls)
none_valued zero v [] e h = tt
none_valued (suc i) v [] e h = tt
none_valued zero v (l ∷ ls) e h = (e, h.1)
none_valued (suc i) v (l ∷ ls) e h = (h.0, none_valued i v ls e h.1)

none_noted : (a : Bool) (c : Cause) → (a || not (is_none c)) ≡ false → (a ≡ false) × (c ≡ no_cause)
none_noted true c e = absurd (cc)
none_noted false no_cause e = (refl, refl)
none_noted false Called e = absurd (cc)
none_noted false (From p) e = absurd (cc)

-- Other live names, of which each session without an open request had none before.
with_lives : (r : RunSays) (old new : ℕ) (ls : List LiveSays) (some : Bool) →
    ((j : ℕ) → j ≢ 0 → j ≢ new → has_open j ls ≡ false → (j ≢ old) × (has_open j r.lives ≡ false)) → Each (IsLive r.core) ls →
    (some ≡ false → Each HasNoCause ls) → Sound old r → Sound new (record r { lives = ls; some_cause = some })
with_lives r old new ls some f g causes h = record {
  core = h.core;
  sizes = h.sizes;
  given = h.given;
  count = h.count;
  passes = λ i p e. let k = h.passes i p e in record {
    table = k.table;
    who = k.who;
    idle = λ d o. let w = f (i + 1) (λ z. absurd (omega arith)) d o in k.idle w.0 w.1;
  };
  lives = g;
  causes = causes;
}

-- Whether some live name has a cause is looked for anew.
pub none_found : (ls : List Live) → ((k : ℕ) (d : Live) → k < length ls → is_none (cause_of (seen_live (get_or ls k d)).value) ≡ true) →
    Each HasNoCause (map seen_live ls)
none_found [] h = tt
none_found (l ∷ ls) h = (none (cause_of (seen_live l).value) (h 0 l (omega arith)), none_found ls (λ k d i. h (suc k) d (omega arith)))
  where
    none : (c : Cause) → is_none c ≡ true → c ≡ no_cause
    none no_cause e = refl
    none Called e = absurd (cc)
    none (From p) e = absurd (cc)

pub sound_looked : (r : RunSays) (some : Bool) → (some ≡ false → Each HasNoCause r.lives) → Sound 0 r → Sound 0 (record r { some_cause = some })
sound_looked r some causes h = with_lives r 0 0 r.lives some (λ j z d o. (z, o)) h.lives causes h

-- A value is lent.
pub sound_take : (r : RunSays) (i : ℕ) (l : LiveSays) (ls : List LiveSays) → slice_get r.lives i ≡ Some l → ls ≡ with_value i Over r.lives → Sound 0 r →
    Sound l.session (record r { lives = ls })
sound_take r i l ls at e h =
    with_lives r 0 l.session ls r.some_cause
    (λ j z d o. (z, sym (open_other j i Over r.lives l at (λ g. d (sym g))) ∙ ap (λ (xs : List LiveSays). has_open j xs) (sym e) ∙ o))
    (subst (λ (xs : List LiveSays). Each (IsLive r.core) xs) (sym e) (lives_valued r.core i Over r.lives (λ l e. tt) h.lives))
    (λ g. subst (λ (xs : List LiveSays). Each HasNoCause xs) (sym e) (none_valued i Over r.lives refl (h.causes g))) h

pub lent_take : (r : RunSays) (i : ℕ) (l : LiveSays) (ls : List LiveSays) → slice_get r.lives i ≡ Some l → ls ≡ with_value i Over r.lives →
    IsLent i l.session (record r { lives = ls })
lent_take r i l ls at e = record {
  live = record l { value = Over };
  at = ap (λ (xs : List LiveSays). slice_get xs i) e ∙ valued r.lives i at;
  over = refl;
  session = refl;
}
  where
    valued : (xs : List LiveSays) (i : ℕ) → slice_get xs i ≡ Some l → slice_get (with_value i Over xs) i ≡ Some (record l { value = Over })
    valued [] i e = absurd (cc)
    valued (x ∷ xs) zero e = let same : x ≡ l = cc in ap (λ (y : LiveSays). let z : LiveSays = record y { value = Over } in Some z) same
    valued (x ∷ xs) (suc i) e = valued xs i e

-- It is given back.
clash : {a : Bool} → a ≡ true → a ≡ false → ⊥
clash e f = cc

pub sound_put : (r t : RunSays) (i who : ℕ) (v : Value) → IsLent i who r → is_held v ≡ true → IsOf r.core who v → t ≡ given_back i v r → Sound who r →
    Sound 0 t
sound_put r t i who v k held of e h =
    subst (λ (q : RunSays). Sound 0 q) (sym e)
    (with_lives r who 0 (with_value i v r.lives) (given_back i v r).some_cause
    (λ j z d free. let other : j ≢ who = λ g. clash (open_held j i v r.lives k.live k.at (k.session ∙ sym g) held) free in
    (other, sym (open_other j i v r.lives k.live k.at (λ g. other (sym g ∙ k.session))) ∙ free))
    (lives_valued r.core i v r.lives
    (λ l g. subst (λ w. IsOf r.core w v) (sym k.session ∙ ap (λ (y : LiveSays). y.session) (one_only k.at g)) of) h.lives)
    (λ g. let w = none_noted r.some_cause (cause_of v) g in none_valued i v r.lives w.1 (h.causes w.0)) h)
  where
    one_only : {a b : LiveSays} → slice_get r.lives i ≡ Some a → slice_get r.lives i ≡ Some b → a ≡ b
    one_only f g = cc

-- The session of a name that is lent.
pub lent_session : (r : RunSays) (i who : ℕ) (lent : ℕ) → IsLent i who r → Sound lent r → (1 ≤ who) × (who ≤ 64)
lent_session r i who lent k h =
    let l : IsLive r.core k.live = Each-at (IsLive r.core) r.lives i k.live k.at h.lives in
    (subst (λ w. 1 ≤ w) k.session l.low, subst (λ w. w ≤ 64) k.session l.high)

-- Live names are warned.
pub sound_warned : (r : RunSays) (lent : ℕ) (ls : List LiveSays) → AreWarned r.lives ls → Sound lent r → Sound lent (record r { lives = ls })
sound_warned r lent ls a h =
    with_lives r lent lent ls r.some_cause (λ j z d o. (d, sym (open_warned j r.lives ls a) ∙ o)) (lives_warned r.core r.lives ls a h.lives)
    (λ g. none_warned r.lives ls a (h.causes g)) h

warned_there : (xs ys : List LiveSays) (i : ℕ) (l : LiveSays) → AreWarned xs ys → slice_get xs i ≡ Some l →
    (m : LiveSays) × (slice_get ys i ≡ Some m) × ((ps : List ℕ) × (m ≡ warned_live ps l))
warned_there [] [] i l a e = absurd (cc)
warned_there [] (y ∷ ys) i l a e = absurd a
warned_there (x ∷ xs) [] i l a e = absurd a
warned_there (x ∷ xs) (y ∷ ys) zero l a e = let same : x ≡ l = cc in (y, refl, (a.0.0, a.0.1 ∙ ap (warned_live a.0.0) same))
warned_there (x ∷ xs) (y ∷ ys) (suc i) l a e = warned_there xs ys i l a.1 e

pub lent_warned : (r : RunSays) (i who : ℕ) (ls : List LiveSays) → AreWarned r.lives ls → IsLent i who r → IsLent i who (record r { lives = ls })
lent_warned r i who ls a k =
    let w = warned_there r.lives ls i k.live a k.at in
    record {
      live = w.0;
      at = w.1;
      over = ap (λ (x : LiveSays). x.value) w.2.1 ∙ ap (warned_value w.2.0) k.over;
      session = ap (λ (x : LiveSays). x.session) w.2.1 ∙ k.session;
    }

-- A name is released, and its value lent.
pub sound_remove : (r : RunSays) (i : ℕ) (l : LiveSays) (ls : List LiveSays) → slice_get r.lives i ≡ Some l → ls ≡ remove r.lives i → Sound 0 r →
    Sound (lent_by l.value) (record r { lives = ls })
sound_remove r i l ls at e h =
    with_lives r 0 (lent_by l.value) ls r.some_cause
    (λ j z d o. (
      z,
      sym (open_removed j i r.lives l at (gone l.value j z d (Each-at (IsLive r.core) r.lives i l at h.lives).of))
          ∙ ap (λ (xs : List LiveSays). has_open j xs) (sym e) ∙ o,
    ))
    (subst (λ (xs : List LiveSays). Each (IsLive r.core) xs) (sym e) (Each-remove (IsLive r.core) r.lives i h.lives))
    (λ g. subst (λ (xs : List LiveSays). Each HasNoCause xs) (sym e) (Each-remove HasNoCause r.lives i (h.causes g))) h
  where
    other_session : (j w : ℕ) → j ≢ w → w ≡ l.session → (v : Value) → ((l.session == j) && is_held v) ≡ false
    other_session j w d e v = both_false (l.session == j) (is_held v) (ne_eqb l.session j (λ g. d (sym g ∙ sym e)))

    no_value : (b : Bool) → (b && false) ≡ false
    no_value true = refl
    no_value false = refl

    gone : (v : Value) (j : ℕ) → j ≢ 0 → j ≢ lent_by v → IsOf r.core l.session v → ((l.session == j) && is_held v) ≡ false
    gone (Optimist o) j z d f = other_session j o.r.who d f.1 (Optimist o)
    gone (Waiting w) j z d f = other_session j w.r.who d f.1 (Waiting w)
    gone (Granted g) j z d f = other_session j g.r.who d f.1 (Granted g)
    gone Over j z d f = no_value (l.session == j)

-- The last name is let go.
pub sound_pop : (r : RunSays) (l : LiveSays) (ls : List LiveSays) → r.lives ≡ ls ++ l ∷ [] → Sound 0 r → Sound (lent_by l.value) (record r { lives = ls })
sound_pop r l ls e h =
    sound_remove r (length ls) l ls (ap (λ (xs : List LiveSays). slice_get xs (length ls)) e ∙ last ls)
    (sym (ap (λ (xs : List LiveSays). remove xs (length ls)) e ∙ removed ls)) h
  where
    last : (xs : List LiveSays) → slice_get (xs ++ l ∷ []) (length xs) ≡ Some l
    last [] = refl
    last (x ∷ xs) = last xs

    removed : (xs : List LiveSays) → remove (xs ++ l ∷ []) (length xs) ≡ xs
    removed [] = refl
    removed (x ∷ xs) = ap (λ ys. x ∷ ys) (removed xs)

pub live_last : (core : CoreId) (l : LiveSays) (ls : List LiveSays) → Each (IsLive core) (ls ++ l ∷ []) → IsLive core l
live_last core l [] h = h.0
live_last core l (x ∷ xs) h = live_last core l xs h.1

-- A name is opened.
pub sound_push : (r : RunSays) (l : LiveSays) (ls : List LiveSays) → IsLive r.core l → HasNoCause l → is_held l.value ≡ true → ls ≡ r.lives ++ l ∷ [] →
    Sound l.session r → Sound 0 (record r { lives = ls })
sound_push r l ls k none held e h =
    with_lives r l.session 0 ls r.some_cause
    (λ j z d o. by j (has_open j r.lives) (l.session == j) refl refl (sym (open_pushed j r.lives l) ∙ ap (λ (xs : List LiveSays). has_open j xs) (sym e) ∙ o))
    (subst (λ (xs : List LiveSays). Each (IsLive r.core) xs) (sym e) (Each-append (IsLive r.core) r.lives (l ∷ []) h.lives (k, tt)))
    (λ g. subst (λ (xs : List LiveSays). Each HasNoCause xs) (sym e) (Each-append HasNoCause r.lives (l ∷ []) (h.causes g) (none, tt))) h
  where
    by : (j : ℕ) (a b : Bool) → has_open j r.lives ≡ a → (l.session == j) ≡ b →
        (has_open j r.lives || (((l.session == j) && is_held l.value) || false)) ≡ false →
        (j ≢ l.session) × (has_open j r.lives ≡ false)
    by j true b f g o = absurd (cc)
    by j false true f g o = absurd (shows (has_open j r.lives) (l.session == j) (is_held l.value) g held o)
      where
        shows : (a b c : Bool) → b ≡ true → c ≡ true → (a || ((b && c) || false)) ≡ false → ⊥
        shows true b c f g o = cc
        shows false true true f g o = cc
        shows false true false f g o = cc
        shows false false c f g o = cc
    by j false false f g o = (λ same. clash (eq-eqb l.session j (sym same)) g, f)

-- A pass in a new form: of the session that is lent, or of one whose request is lent from then on.
pass_at : (ps : List PassSays) (k i : ℕ) (p q : PassSays) → slice_get (slice_set ps k q) i ≡ Some p → (i ≢ k → slice_get ps i ≡ Some p) × (i ≡ k → p ≡ q)
pass_at [] k i p q e = absurd (cc)
pass_at (x ∷ xs) zero zero p q e = (λ d. absurd (d refl), λ s. cc)
pass_at (x ∷ xs) zero (suc i) p q e = (λ d. e, λ s. absurd (omega arith))
pass_at (x ∷ xs) (suc k) zero p q e = (λ d. e, λ s. absurd (omega arith))
pass_at (x ∷ xs) (suc k) (suc i) p q e =
    let w = pass_at xs k i p q e in (λ d. w.0 (λ s. d (ap suc s)), λ s. w.1 (omega arith))

set_length : {X : Type 0} (xs : List X) (i : ℕ) (x : X) → length (slice_set xs i x) ≡ length xs
set_length [] zero x = refl
set_length [] (suc i) x = refl
set_length (y ∷ ys) zero x = refl
set_length (y ∷ ys) (suc i) x = ap suc (set_length ys i x)

pub sound_passed : (r : RunSays) (old new who : ℕ) (p q : PassSays) (h : List Entry) → 1 ≤ who → slice_get r.passes (who - 1) ≡ Some p → q.table ≡ p.table →
    q.p.who ≡ p.p.who → (who ≢ new → open_count q.p.mine ≡ 0) → ((j : ℕ) → j ≢ 0 → j ≢ new → j ≢ who → j ≢ old) → Sound old r →
    Sound new (record r { log = h; passes = slice_set r.passes (who - 1) q })
sound_passed r old new who p q h low at t w idle other s = record {
  core = s.core;
  sizes = s.sizes;
  given = s.given;
  count = set_length r.passes (who - 1) q ∙ s.count;
  passes = λ i x e. by i x e (i == (who - 1)) refl;
  lives = s.lives;
  causes = s.causes;
}
  where
    here : IsPass r.core old r.lives (who - 1) p
    here = s.passes (who - 1) p at

    by : (i : ℕ) (x : PassSays) → slice_get (slice_set r.passes (who - 1) q) i ≡ Some x → (b : Bool) → (i == (who - 1)) ≡ b → IsPass r.core new r.lives i x
    by i x e true f =
        let same : i ≡ who - 1 = eqb-true i (who - 1) f in
        let is : x ≡ q = (pass_at r.passes (who - 1) i x q e).1 same in
        record {
          table = ap (λ (y : PassSays). y.table) is ∙ t ∙ here.table;
          who = ap (λ (y : PassSays). y.p.who) is ∙ w ∙ here.who ∙ ap (λ n. n + 1) (sym same);
          idle = λ d o. ap (λ (y : PassSays). open_count y.p.mine) is ∙ idle (λ g. d (let z : i + 1 ≡ new = omega arith in z));
        }
    by i x e false f =
        let d : i ≢ who - 1 = λ same. clash (eq-eqb i (who - 1) same) f in
        let k = s.passes i x ((pass_at r.passes (who - 1) i x q e).0 d) in
        record {
          table = k.table;
          who = k.who;
          idle = λ n o. k.idle (other (i + 1) (λ z. absurd (omega arith)) n (λ g. d (omega arith))) o;
        }

-- A value changes in its place.
pub sound_value : (r : RunSays) (i : ℕ) (l : LiveSays) (v : Value) (ls : List LiveSays) (some : Bool) → slice_get r.lives i ≡ Some l →
    is_held v ≡ is_held l.value → IsOf r.core l.session v → ls ≡ with_value i v r.lives →
    (some ≡ false → (r.some_cause ≡ false) × (cause_of l.value ≡ no_cause → cause_of v ≡ no_cause)) → Sound 0 r →
    Sound 0 (record r { lives = ls; some_cause = some })
sound_value r i l v ls some at held of e none h =
    with_lives r 0 0 ls some (λ j z d o. (z, sym (same j r.lives i at) ∙ ap (λ (xs : List LiveSays). has_open j xs) (sym e) ∙ o))
    (subst (λ (xs : List LiveSays). Each (IsLive r.core) xs) (sym e) (lives_valued r.core i v r.lives
    (λ k g. subst (λ w. IsOf r.core w v) (ap (λ (y : LiveSays). y.session) (one_only at g)) of) h.lives))
    (λ g. let w = none g in let before = h.causes w.0 in
    subst (λ (xs : List LiveSays). Each HasNoCause xs) (sym e) (none_valued i v r.lives (w.1 (Each-at HasNoCause r.lives i l at before)) before)) h
  where
    one_only : {a b : LiveSays} → slice_get r.lives i ≡ Some a → slice_get r.lives i ≡ Some b → a ≡ b
    one_only f g = cc

    same : (j : ℕ) (xs : List LiveSays) (k : ℕ) → slice_get xs k ≡ Some l → has_open j (with_value k v xs) ≡ has_open j xs
    same j [] k e = absurd (cc)
    same j (x ∷ xs) zero e =
        let is : x ≡ l = cc in
        ap (λ b. ((x.session == j) && b) || has_open j xs) (held ∙ ap (λ (y : LiveSays). is_held y.value) (sym is))
    same j (x ∷ xs) (suc k) e = ap (λ b. ((x.session == j) && is_held x.value) || b) (same j xs k e)

-- a session without a live name has no open request
pub no_open : (w : ℕ) (ls : List LiveSays) → has_name w ls ≡ false → has_open w ls ≡ false
no_open w [] e = refl
no_open w (l ∷ ls) e = by (l.session == w) (has_name w ls) (is_held l.value) refl refl e (λ g. no_open w ls g)
  where
    by : (a b c : Bool) → (l.session == w) ≡ a → has_name w ls ≡ b → (a || b) ≡ false → (has_name w ls ≡ false → has_open w ls ≡ false) →
        (((l.session == w) && is_held l.value) || has_open w ls) ≡ false
    by true b c f g e rest = absurd (cc)
    by false true c f g e rest = absurd (cc)
    by false false c f g e rest = or_same _ _ (has_open w ls) (both_false (l.session == w) (is_held l.value) f) ∙ rest g

-- the value of a live name, where it is known
pub of_optimist : (core : CoreId) (who : ℕ) (v : Value) (o : OptimistSays) → Optimist o ≡ v → IsOf core who v → (o.core ≡ core) × (o.r.who ≡ who)
of_optimist core who v o e f = subst (λ (x : Value). IsOf core who x) (sym e) f

pub of_waiting : (core : CoreId) (who : ℕ) (v : Value) (w : WaitingSays) → Waiting w ≡ v → IsOf core who v → (w.core ≡ core) × (w.r.who ≡ who)
of_waiting core who v w e f = subst (λ (x : Value). IsOf core who x) (sym e) f
