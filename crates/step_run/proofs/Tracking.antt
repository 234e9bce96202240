-- What the rules of scripts say of the live names of a run: each was opened by its session and not released since, no two are called the
-- same, and one that can be checked is optimistic.
use Rattle.std.proofs.Common.{◌≡◌, ◌≢◌, ℕ, zero, suc, Bool, true, false, not, cond, ◌&&◌, ◌||◌, ◌==◌, List, [], ◌∷◌, ◌++◌, map, Option, Some, None}
use Rattle.std.proofs.Common.{refl, sym, ap, ◌∙◌, subst}
use Rattle.std.specs.Prelude.{slice_get, slice_set}
use Rattle.std.specs.List.{find, list_any, remove}
use Rattle.std.proofs.lemmas.Bool.{eq-eqb, or_left, or_right}
use Rattle.std.proofs.lemmas.List.{map-append}
use Rattle.std.proofs.lemmas.List.Folds.{list_any-append}
use Rattle.latch_model.specs.declared.latch.Latch.{Latch}
use Rattle.latch_model.specs.declared.latch.Mode.{Mode}
use Rattle.latch_model.specs.declared.latch.Mode.TheVariants.{Acquire, Optimistic as optimistic_mode, Look}
use Rattle.latch_model.specs.declared.latch.Policy.{Policy}
use Rattle.latch_model.proofs.Elements.{Each, Each-append, Each-map}
use Rattle.script.specs.Commands.{is_busy, is_checkable, is_live, is_used, leaves_live, live_cause, opens, opens_for, opens_live, opens_optimistic, releases}
use Rattle.script.specs.Commands.{rule_cause, same_name, some_live, waits_for}
use Rattle.script.specs.declared.command.Command.{Command}
use Rattle.script.specs.declared.command.Command.TheVariants.{Begin as Open, Wait, Check, Poison, Release, Metrics}
use Rattle.script.proofs.Busy.{same_is, same_self}
use Rattle.step_run.specs.State.{Named, Optimistic}
use Rattle.step_run.proofs.Names.{IsSet}
use Rattle.step_run.proofs.Places.{Each-at, Each-remove, Each-set, map-set_same}

pub record Tracked (cs : List Command) (n : Named) : Type 0 where
  pub opened : list_any (opens_for n.session n.name) cs ≡ true
  pub unreleased : list_any (releases n.name) cs ≡ false
  pub checkable : is_checkable cs n.name ≡ true → n.phase ≡ Optimistic

abbrev pub Apart : List (List ℕ) → Type 0
Apart [] = Unit {0}
Apart (a ∷ xs) = Each (λ b. a ≢ b) xs × Apart xs

abbrev pub called : List Named → List (List ℕ)
called ns = map (λ (n : Named). n.name) ns

pub record Tracks (cs : List Command) (ns : List Named) : Type 0 where
  pub each : Each (Tracked cs) ns
  pub apart : Apart (called ns)
  pub released : (q : List ℕ) → list_any (releases q) cs ≡ true → list_any (opens q) cs ≡ true

pub start_tracks : Tracks [] []
start_tracks = record { each = tt; apart = tt; released = λ q e. absurd (cc) }

-- tests
or_none : (a b : Bool) → a ≡ false → b ≡ false → (a || (b || false)) ≡ false
or_none true b e f = e
or_none false true e f = f
or_none false false e f = refl

or_first : (a b : Bool) → a ≡ true → (a || b) ≡ true
or_first true b e = refl
or_first false b e = absurd (cc)

check_back : (a o b w : Bool) → o ≡ false → ((a || (o || false)) && not (b || (w || false))) ≡ true → (a && not b) ≡ true
check_back true o true w e f = f
check_back true o false w e f = refl
check_back false true b w e f = absurd (cc)
check_back false false b w e f = absurd (cc)

check_ended : (a b w : Bool) → w ≡ true → (a && not (b || (w || false))) ≡ true → ⊥
check_ended true true w e f = cc
check_ended true false true e f = cc
check_ended true false false e f = cc
check_ended false b w e f = cc

both_true : (a b : Bool) → (a && b) ≡ true → (a ≡ true) × (b ≡ true)
both_true true true e = (refl, refl)
both_true true false e = absurd (cc)
both_true false b e = absurd (cc)

both_are : (a b : Bool) → a ≡ true → b ≡ true → (a && b) ≡ true
both_are true true e f = refl
both_are true false e f = f
both_are false b e f = e

unreleased_of : (a b : Bool) → (a && not b) ≡ true → (a ≡ true) × (b ≡ false)
unreleased_of true true e = absurd (cc)
unreleased_of true false e = (refl, refl)
unreleased_of false b e = absurd (cc)

pub not_same : (a b : List ℕ) → (a ≡ b → ⊥) → same_name a b ≡ false
not_same a b f = by (same_name a b) refl
  where
    by : (t : Bool) → same_name a b ≡ t → t ≡ false
    by true e = absurd (f (same_is a b e))
    by false e = refl

any_push : {X : Type 0} (p : X → Bool) (xs : List X) (x : X) → list_any p (xs ++ x ∷ []) ≡ (list_any p xs || (p x || false))
any_push p xs x = list_any-append p xs (x ∷ [])

-- one more command that neither releases a name nor opens it
carry : (cs : List Command) (c : Command) (n : Named) → releases n.name c ≡ false → opens_optimistic n.name c ≡ false → Tracked cs n → Tracked (cs ++ c ∷ []) n
carry cs c n r o t = record {
  opened = any_push (opens_for n.session n.name) cs c ∙ or_first _ _ t.opened;
  unreleased = any_push (releases n.name) cs c ∙ or_none _ _ t.unreleased r;
  checkable = λ e. t.checkable (check_back (list_any (opens_optimistic n.name) cs) (opens_optimistic n.name c) (list_any (waits_for n.name) cs)
      (waits_for n.name c) o (sym (still (any_push (opens_optimistic n.name) cs c) (any_push (waits_for n.name) cs c)) ∙ e));
}
  where
    still : {a b x y : Bool} → a ≡ b → x ≡ y → (a && not x) ≡ (b && not y)
    still e f = cc

released_push : (cs : List Command) (c : Command) → ((q : List ℕ) → releases q c ≡ true → list_any (opens q) cs ≡ true) →
    ((q : List ℕ) → list_any (releases q) cs ≡ true → list_any (opens q) cs ≡ true) → (q : List ℕ) → list_any (releases q) (cs ++ c ∷ []) ≡ true →
    list_any (opens q) (cs ++ c ∷ []) ≡ true
released_push cs c f g q e =
    any_push (opens q) cs c
    ∙ or_first _ _ (by (list_any (releases q) cs) (releases q c) refl refl (sym (any_push (releases q) cs c) ∙ e))
  where
    by : (a b : Bool) → list_any (releases q) cs ≡ a → releases q c ≡ b → (a || (b || false)) ≡ true → list_any (opens q) cs ≡ true
    by true b h k l = g q h
    by false true h k l = f q k
    by false false h k l = absurd (cc)

-- The names stay where a command does nothing to them.
pub tracks_still : (cs : List Command) (c : Command) (ns : List Named) → ((q : List ℕ) → releases q c ≡ false) → ((q : List ℕ) → opens_optimistic q c ≡ false) →
    Tracks cs ns → Tracks (cs ++ c ∷ []) ns
tracks_still cs c ns r o t = record {
  each = Each-map (Tracked cs) (Tracked (cs ++ c ∷ [])) (λ n k. carry cs c n (r n.name) (o n.name) k) ns t.each;
  apart = t.apart;
  released = released_push cs c (λ q e. absurd (clash (r q) e)) t.released;
}
  where
    clash : {a : Bool} → a ≡ false → a ≡ true → ⊥
    clash e f = cc

-- A name gets a new form.
tracks_set : (cs : List Command) (ns : List Named) (i : ℕ) (n m : Named) → slice_get ns i ≡ Some n → m.name ≡ n.name → m.session ≡ n.session →
    (is_checkable cs n.name ≡ true → m.phase ≡ Optimistic) → Tracks cs ns → Tracks cs (slice_set ns i m)
tracks_set cs ns i n m at name session phase t =
    let k : Tracked cs n = Each-at (Tracked cs) ns i n at t.each in
    record {
      each = Each-set (Tracked cs) ns i m (record {
        opened = opened_as n.session m.session n.name m.name name session k.opened;
        unreleased = ap (λ q. list_any (releases q) cs) name ∙ k.unreleased;
        checkable = λ e. phase (ap (λ q. is_checkable cs q) (sym name) ∙ e);
      }) t.each;
      apart = subst Apart (sym (map-set_same (λ (n : Named). n.name) ns i n m at name)) t.apart;
      released = t.released;
    }
  where
    opened_as : (s z : ℕ) (p q : List ℕ) → q ≡ p → z ≡ s → list_any (opens_for s p) cs ≡ true → list_any (opens_for z q) cs ≡ true
    opened_as s z p q e f g = ap (λ a. list_any (opens_for z a) cs) e ∙ ap (λ a. list_any (opens_for a p) cs) f ∙ g

pub tracks_formed : (cs : List Command) (old new : List Named) (i : ℕ) (n : Named) → slice_get old i ≡ Some n → (k : IsSet old i n new) →
    (is_checkable cs n.name ≡ true → k.form.phase ≡ Optimistic) → Tracks cs old → Tracks cs new
tracks_formed cs old new i n at k phase t = subst (λ ns. Tracks cs ns) (sym k.names) (tracks_set cs old i n k.form at k.name k.session phase t)

-- A name is released.
apart_remove : (xs : List (List ℕ)) (i : ℕ) (a : List ℕ) → slice_get xs i ≡ Some a → Apart xs → Apart (remove xs i) × Each (λ b. a ≢ b) (remove xs i)
apart_remove [] i a e h = absurd (cc)
apart_remove (b ∷ bs) zero a e h = (h.1, let same : b ≡ a = cc in subst (λ (x : List ℕ). Each (λ b. x ≢ b) bs) same h.0)
apart_remove (b ∷ bs) (suc i) a e h =
    let w = apart_remove bs i a e h.1 in
    ((Each-remove (λ c. b ≢ c) bs i h.0, w.0), (λ f. Each-at (λ c. b ≢ c) bs i a e h.0 (sym f), w.1))

each_called : (P : List ℕ → Type 0) (ns : List Named) → Each P (called ns) → Each (λ (n : Named). P n.name) ns
each_called P [] h = tt
each_called P (n ∷ ns) h = (h.0, each_called P ns h.1)

called_remove : (ns : List Named) (i : ℕ) → called (remove ns i) ≡ remove (called ns) i
called_remove [] zero = refl
called_remove [] (suc i) = refl
called_remove (n ∷ ns) zero = refl
called_remove (n ∷ ns) (suc i) = ap (λ xs. n.name ∷ xs) (called_remove ns i)

called_at : (ns : List Named) (i : ℕ) (n : Named) → slice_get ns i ≡ Some n → slice_get (called ns) i ≡ Some n.name
called_at [] i n e = absurd (cc)
called_at (m ∷ ns) zero n e = let same : m ≡ n = cc in ap (λ (x : Named). Some x.name) same
called_at (m ∷ ns) (suc i) n e = called_at ns i n e

each_pair : {X : Type 0} (P Q R : X → Type 0) → ((x : X) → P x → Q x → R x) → (xs : List X) → Each P xs → Each Q xs → Each R xs
each_pair P Q R f [] h k = tt
each_pair P Q R f (x ∷ xs) h k = (f x h.0 k.0, each_pair P Q R f xs h.1 k.1)

pub tracks_release : (cs : List Command) (ns : List Named) (i : ℕ) (n : Named) (name : List ℕ) → slice_get ns i ≡ Some n → n.name ≡ name →
    list_any (opens name) cs ≡ true → Tracks cs ns → Tracks (cs ++ Release name ∷ []) (remove ns i)
tracks_release cs ns i n name at e used t =
    let w = apart_remove (called ns) i n.name (called_at ns i n at) t.apart in
    let others : Each (λ (m : Named). n.name ≢ m.name) (remove ns i) =
    each_called (λ b. n.name ≢ b) (remove ns i) (subst (λ xs. Each (λ b. n.name ≢ b) xs) (sym (called_remove ns i)) w.1) in
    record {
      each = each_pair (λ (m : Named). n.name ≢ m.name) (Tracked cs) (Tracked (cs ++ Release name ∷ []))
          (λ m f k. carry cs (Release name) m (not_same name m.name (λ g. f (e ∙ g))) refl k) (remove ns i) others (Each-remove (Tracked cs) ns i t.each);
      apart = subst Apart (sym (called_remove ns i)) w.0;
      released = released_push cs (Release name) (λ q g. ap (λ a. list_any (opens a) cs) (sym (same_is name q g)) ∙ used) t.released;
    }

-- A name is opened.
for_opens : (s : ℕ) (q : List ℕ) (c : Command) → opens_for s q c ≡ true → opens q c ≡ true
for_opens s q (Open session name mode policy turns latches) e = (both_true (session == s) (same_name name q) e).1
for_opens s q (Wait name) e = absurd (cc)
for_opens s q (Check name latches) e = absurd (cc)
for_opens s q (Poison name) e = absurd (cc)
for_opens s q (Release name) e = absurd (cc)
for_opens s q Metrics e = absurd (cc)

optimistic_opens : (q : List ℕ) (c : Command) → opens_optimistic q c ≡ true → opens q c ≡ true
optimistic_opens q (Open session name Acquire policy turns latches) e = absurd (cc)
optimistic_opens q (Open session name optimistic_mode policy turns latches) e = e
optimistic_opens q (Open session name Look policy turns latches) e = absurd (cc)
optimistic_opens q (Wait name) e = absurd (cc)
optimistic_opens q (Check name latches) e = absurd (cc)
optimistic_opens q (Poison name) e = absurd (cc)
optimistic_opens q (Release name) e = absurd (cc)
optimistic_opens q Metrics e = absurd (cc)

any_more : {X : Type 0} (p q : X → Bool) (xs : List X) → ((x : X) → p x ≡ true → q x ≡ true) → list_any p xs ≡ true → list_any q xs ≡ true
any_more p q [] f e = absurd (cc)
any_more p q (x ∷ xs) f e = by (p x) refl e (λ h. any_more p q xs f h)
  where
    by : (b : Bool) → p x ≡ b → (b || list_any p xs) ≡ true → (list_any p xs ≡ true → list_any q xs ≡ true) → (q x || list_any q xs) ≡ true
    by true g h rest = or_first (q x) (list_any q xs) (f x g)
    by false g h rest = or_right (q x) (list_any q xs) (rest h)

used_by : (cs : List Command) (n : Named) → Tracked cs n → list_any (opens n.name) cs ≡ true
used_by cs n t = any_more (opens_for n.session n.name) (opens n.name) cs (for_opens n.session n.name) t.opened

-- the mode opens an optimistic request or not
optimistic_as : (session : ℕ) (name q : List ℕ) (mode : Mode) (policy : Policy) (turns : Option ℕ) (latches : List Latch) → same_name name q ≡ false →
    opens_optimistic q (Open session name mode policy turns latches) ≡ false
optimistic_as session name q Acquire policy turns latches e = refl
optimistic_as session name q optimistic_mode policy turns latches e = e
optimistic_as session name q Look policy turns latches e = refl

apart_push : (xs : List (List ℕ)) (a : List ℕ) → Apart xs → Each (λ b. b ≢ a) xs → Apart (xs ++ a ∷ [])
apart_push [] a h k = (tt, tt)
apart_push (b ∷ bs) a h k = (Each-append (λ c. b ≢ c) bs (a ∷ []) h.0 (k.0, tt), apart_push bs a h.1 k.1)

called_each : (P : List ℕ → Type 0) (ns : List Named) → Each (λ (n : Named). P n.name) ns → Each P (called ns)
called_each P [] h = tt
called_each P (n ∷ ns) h = (h.0, called_each P ns h.1)

clash : {a : Bool} → a ≡ true → a ≡ false → ⊥
clash e f = cc

pub tracks_open : (cs : List Command) (ns : List Named) (n : Named) (mode : Mode) (policy : Policy) (turns : Option ℕ) (latches : List Latch) →
    is_used cs n.name ≡ false → (mode ≡ optimistic_mode → n.phase ≡ Optimistic) → Tracks cs ns →
    Tracks (cs ++ Open n.session n.name mode policy turns latches ∷ []) (ns ++ n ∷ [])
tracks_open cs ns n mode policy turns latches fresh phase t =
    let c : Command = Open n.session n.name mode policy turns latches in
    let others : Each (λ (m : Named). m.name ≢ n.name) ns =
    Each-map (Tracked cs) (λ (m : Named). m.name ≢ n.name) (λ m k e. clash (used_by cs m k) (ap (λ q. list_any (opens q) cs) e ∙ fresh)) ns t.each in
    record {
      each = Each-append (Tracked (cs ++ c ∷ [])) ns (n ∷ [])
          (each_pair (λ (m : Named). m.name ≢ n.name) (Tracked cs) (Tracked (cs ++ c ∷ []))
          (λ m f k. carry cs c m refl (optimistic_as n.session n.name m.name mode policy turns latches (not_same n.name m.name (λ e. f (sym e)))) k)
          ns others t.each) (
            record {
              opened = any_push (opens_for n.session n.name) cs c ∙ or_right (list_any (opens_for n.session n.name) cs) _
                  (or_left _ false (both_are _ _ (eq-eqb n.session n.session refl) (same_self n.name)));
              unreleased = any_push (releases n.name) cs c ∙ or_none _ _ (no_release (list_any (releases n.name) cs) refl) refl;
              checkable = λ e. phase (by mode (or_back_to (opens_optimistic n.name c) (list_any (opens_optimistic n.name) cs) no_optimistic
                  (sym (any_push (opens_optimistic n.name) cs c) ∙ (both_true _ _ e).0)));
            },
            tt,
          );
      apart = subst Apart (sym (map-append (λ (n : Named). n.name) ns (n ∷ [])))
          (apart_push (called ns) n.name t.apart (called_each (λ b. b ≢ n.name) ns others));
      released = released_push cs c (λ q e. absurd (cc)) t.released;
    }
  where
    no_release : (b : Bool) → list_any (releases n.name) cs ≡ b → b ≡ false
    no_release true e = absurd (clash (t.released n.name e) fresh)
    no_release false e = refl

    no_optimistic : list_any (opens_optimistic n.name) cs ≡ false
    no_optimistic = of (list_any (opens_optimistic n.name) cs) refl
      where
        of : (b : Bool) → list_any (opens_optimistic n.name) cs ≡ b → b ≡ false
        of true e = absurd (clash (any_more (opens_optimistic n.name) (opens n.name) cs (optimistic_opens n.name) e) fresh)
        of false e = refl

    or_back_to : (o a : Bool) → a ≡ false → (a || (o || false)) ≡ true → o ≡ true
    or_back_to true a e f = refl
    or_back_to false true e f = absurd (cc)
    or_back_to false false e f = f

    by : (m : Mode) → opens_optimistic n.name (Open n.session n.name m policy turns latches) ≡ true → m ≡ optimistic_mode
    by Acquire e = absurd (cc)
    by optimistic_mode e = refl
    by Look e = absurd (cc)

-- what a rule says where it has no cause against a command
pub free_name : (cs : List Command) (session : ℕ) (name : List ℕ) (mode : Mode) (policy : Policy) (turns : Option ℕ) (latches : List Latch) →
    rule_cause cs (Open session name mode policy turns latches) ≡ None → (is_busy cs session ≡ false) × (is_used cs name ≡ false)
free_name cs session name mode policy turns latches e = by (is_busy cs session) (is_used cs name) refl refl e
  where
    by : (a b : Bool) → is_busy cs session ≡ a → is_used cs name ≡ b → cond {A = Option ℕ} a (Some 12) (cond {A = Option ℕ} b (Some 13) None) ≡ None →
        (is_busy cs session ≡ false) × (is_used cs name ≡ false)
    by true b f g h = absurd (cc)
    by false true f g h = absurd (cc)
    by false false f g h = (f, g)

pub live_name : (cs : List Command) (name : List ℕ) → live_cause cs name ≡ None → is_live cs name ≡ true
live_name cs name e = by (is_live cs name) refl e
  where
    by : (a : Bool) → is_live cs name ≡ a → cond {A = Option ℕ} a None (Some 14) ≡ None → is_live cs name ≡ true
    by true f h = f
    by false f h = absurd (cc)

pub checkable_name : (cs : List Command) (name : List ℕ) (latches : List Latch) → rule_cause cs (Check name latches) ≡ None →
    (is_live cs name ≡ true) × (is_checkable cs name ≡ true)
checkable_name cs name latches e = by (is_live cs name) (is_checkable cs name) refl refl e
  where
    by : (a b : Bool) → is_live cs name ≡ a → is_checkable cs name ≡ b → cond {A = Option ℕ} a (cond {A = Option ℕ} b None (Some 15)) (Some 14) ≡ None →
        (is_live cs name ≡ true) × (is_checkable cs name ≡ true)
    by true true f g h = (f, g)
    by true false f g h = absurd (cc)
    by false b f g h = absurd (cc)

pub used_name : (cs : List Command) (name : List ℕ) → is_live cs name ≡ true → is_used cs name ≡ true
used_name cs name e = (unreleased_of (is_used cs name) (list_any (releases name) cs) e).0

live_of : (cs : List Command) (n : Named) → Tracked cs n → is_live cs n.name ≡ true
live_of cs n t = live_as (is_used cs n.name) (list_any (releases n.name) cs) (used_by cs n t) t.unreleased
  where
    live_as : (a b : Bool) → a ≡ true → b ≡ false → (a && not b) ≡ true
    live_as true true e f = absurd (cc)
    live_as true false e f = refl
    live_as false b e f = e

-- the opening of a live name by its session
opens_it : (cs : List Command) (n : Named) (c : Command) → is_live cs n.name ≡ true → opens_for n.session n.name c ≡ true → opens_live cs n.session c ≡ true
opens_it cs n (Open session name mode policy turns latches) l e =
    let w = both_true (session == n.session) (same_name name n.name) e in
    both_are _ _ w.0 (ap (λ q. is_live cs q) (same_is name n.name w.1) ∙ l)
opens_it cs n (Wait name) l e = absurd (cc)
opens_it cs n (Check name latches) l e = absurd (cc)
opens_it cs n (Poison name) l e = absurd (cc)
opens_it cs n (Release name) l e = absurd (cc)
opens_it cs n Metrics l e = absurd (cc)

leaves_it : (cs : List Command) (n : Named) (c : Command) → is_live cs n.name ≡ true → opens_for n.session n.name c ≡ true → leaves_live cs c ≡ true
leaves_it cs n (Open session name mode policy turns latches) l e =
    let w = both_true (session == n.session) (same_name name n.name) e in
    ap (λ q. is_live cs q) (same_is name n.name w.1) ∙ l
leaves_it cs n (Wait name) l e = absurd (cc)
leaves_it cs n (Check name latches) l e = absurd (cc)
leaves_it cs n (Poison name) l e = absurd (cc)
leaves_it cs n (Release name) l e = absurd (cc)
leaves_it cs n Metrics l e = absurd (cc)

-- A session without a live name has none among these.
pub no_name_of : (cs : List Command) (ns : List Named) (session : ℕ) → is_busy cs session ≡ false → Tracks cs ns → Each (λ (n : Named). n.session ≢ session) ns
no_name_of cs ns session e t =
    Each-map (Tracked cs) (λ (n : Named). n.session ≢ session)
    (λ n k same. clash (any_more (opens_for n.session n.name) (opens_live cs n.session) cs (λ c f. opens_it cs n c (live_of cs n k) f) k.opened)
    (ap (λ s. is_busy cs s) same ∙ e)) ns t.each

-- Where every name is released there is none.
pub no_name_left : (cs : List Command) (ns : List Named) → some_live cs ≡ false → Tracks cs ns → ns ≡ []
no_name_left cs [] e t = refl
no_name_left cs (n ∷ ns) e t =
    absurd (clash (any_more (opens_for n.session n.name) (leaves_live cs) cs (λ c f. leaves_it cs n c (live_of cs n t.each.0) f) t.each.0.opened) e)

pub no_check_left : (cs : List Command) (name q : List ℕ) → q ≡ name → is_checkable (cs ++ Wait name ∷ []) q ≡ true → ⊥
no_check_left cs name q same e =
    check_ended (list_any (opens_optimistic q) (cs ++ Wait name ∷ [])) (list_any (waits_for q) cs) (same_name name q)
    (ap (λ a. same_name name a) same ∙ same_self name)
    (ap (λ a. list_any (opens_optimistic q) (cs ++ Wait name ∷ []) && not a) (sym (any_push (waits_for q) cs (Wait name))) ∙ e)

-- A release of a name that isn't there.
missed : (ns : List Named) (name : List ℕ) → find (λ (n : Named). same_name n.name name) ns ≡ None → Each (λ (n : Named). same_name name n.name ≡ false) ns
missed [] name e = tt
missed (n ∷ ns) name e = by (same_name n.name name) refl e (λ g. missed ns name g)
  where
    by : (b : Bool) → same_name n.name name ≡ b → cond b (Some n) (find (λ (n : Named). same_name n.name name) ns) ≡ None →
        (find (λ (n : Named). same_name n.name name) ns ≡ None → Each (λ (n : Named). same_name name n.name ≡ false) ns) →
        (same_name name n.name ≡ false) × Each (λ (n : Named). same_name name n.name ≡ false) ns
    by true f g rest = absurd (cc)
    by false f g rest = (not_same name n.name (λ h. clash (ap (λ q. same_name q name) (sym h) ∙ same_self name) f), rest g)

pub tracks_missed : (cs : List Command) (ns : List Named) (name : List ℕ) → list_any (opens name) cs ≡ true →
    find (λ (n : Named). same_name n.name name) ns ≡ None → Tracks cs ns → Tracks (cs ++ Release name ∷ []) ns
tracks_missed cs ns name used e t = record {
  each = each_pair (λ (n : Named). same_name name n.name ≡ false) (Tracked cs) (Tracked (cs ++ Release name ∷ []))
      (λ n f k. carry cs (Release name) n f refl k) ns (missed ns name e) t.each;
  apart = t.apart;
  released = released_push cs (Release name) (λ q g. ap (λ a. list_any (opens a) cs) (sym (same_is name q g)) ∙ used) t.released;
}
