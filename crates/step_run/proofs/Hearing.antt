-- What a waiting request that has heard the live names knows of the names of a state.
use Rattle.std.proofs.Common.{◌≡◌, ◌≢◌, ℕ, zero, suc, ◌<◌, Bool, true, false, not, cond, ◌&&◌, ◌==◌, List, [], ◌∷◌, map, Some, refl, sym, ap, ◌∙◌}
use Rattle.std.proofs.Common.{subst, inl, inr, arith}
use Rattle.std.specs.Prelude.{slice_get}
use Rattle.std.specs.List.{Contains, filter, list_any}
use Rattle.std.proofs.lemmas.Bool.{eq-eqb, eqb-true}
use Rattle.latch_model.specs.Checks.{has_cause}
use Rattle.latch_model.specs.Histories.{has_begun, has_ended, open_begins}
use Rattle.latch_model.specs.declared.history.Cause.{Cause}
use Rattle.latch_model.specs.declared.history.Cause.TheVariants.{None as no_cause, Called, From}
use Rattle.latch_model.specs.declared.history.Entry.{Entry}
use Rattle.latch_model.proofs.Ascending.{Rising}
use Rattle.latch_model.proofs.Elements.{Each, Each-map, list_any-map}
use Rattle.latch_model.proofs.Lists.{In, In-map, list_any-In}
use Rattle.latch_model.proofs.Members.{filter_of-In, list_any_of}
use Rattle.signal_board.specs.Views.{RequestView}
use Rattle.step_run.specs.State.{Granted, Named, Optimistic, Over, Pending, Phase, is_poisoned_in}
use Rattle.step_run.specs.Steps.{is_over}
use Rattle.step_run.specs.Valid.{Brief, Valid, brief, brief_of, is_going}
use Rattle.step_run.specs.Lives.{AreHeard, EachRequest, HasNoCause, HeardOf, KnowsOf, LiveSays, OfRequest, cause_of}
use Rattle.step_run.specs.Runs.{Fits, FitsName, FitsRequest, FitsValue, Pairs, PairsBut}
use Rattle.step_run.specs.declared.live.Value.{Value}
use Rattle.step_run.specs.declared.live.Value.TheVariants.{Optimist, Waiting, Granted as GrantedValue, Over as OverValue}
use Rattle.step_run.proofs.Growing.{open_is}

-- a request that is open has a live name that isn't over
pub open_name : (h : List Entry) (ns : List Named) (id : ℕ) → Valid h ns → has_begun h id ≡ true → has_ended h id ≡ false →
    (n : Named) × In n ns × (n.id ≡ id) × (is_over n.phase ≡ false)
open_name h ns id v b e =
    let some : list_any (λ (n : Named). n.id == id) (filter is_going ns) ≡ true =
    sym (list_any-map (brief_of h) (λ (r : Brief). r.id == id) (filter is_going ns))
    ∙ ap (λ (rs : List Brief). list_any (λ (r : Brief). r.id == id) rs) (sym v.going)
    ∙ list_any-map brief (λ (r : Brief). r.id == id) (open_begins h)
    ∙ open_is h id ∙ both (has_begun h id) (has_ended h id) b e in
    let w = list_any_of (λ (n : Named). n.id == id) (filter is_going ns) some in
    let a = filter_of-In is_going ns w.0 w.1 in
    (w.0, a.0, eqb-true w.0.id id w.2, not_not (is_over w.0.phase) a.1)
  where
    both : (x y : Bool) → x ≡ true → y ≡ false → (x && not y) ≡ true
    both true true e f = absurd (cc)
    both true false e f = refl
    both false y e f = e

    not_not : (x : Bool) → not x ≡ true → x ≡ false
    not_not true e = absurd (cc)
    not_not false e = refl

-- names with one number are one
pub one_name : (ns : List Named) (a b : Named) → Rising (map (λ (n : Named). n.id) ns) → In a ns → In b ns → a.id ≡ b.id → a ≡ b
one_name [] a b r h k e = absurd h
one_name (n ∷ ns) a b r (inl x) (inl y) e = sym x ∙ y
one_name (n ∷ ns) a b r (inl x) (inr y) e =
    let l : n.id < b.id = r.0 b.id (In-map (λ (n : Named). n.id) ns b y) in let same : n.id ≡ a.id = ap (λ (n : Named). n.id) x in absurd (omega arith)
one_name (n ∷ ns) a b r (inr x) (inl y) e =
    let l : n.id < a.id = r.0 a.id (In-map (λ (n : Named). n.id) ns a x) in let same : n.id ≡ b.id = ap (λ (n : Named). n.id) y in absurd (omega arith)
one_name (n ∷ ns) a b r (inr x) (inr y) e = one_name ns a b r.1 x y e

-- causes
pub caused : (c : Cause) → has_cause c ≡ true → c ≢ no_cause
caused no_cause e f = absurd (cc)
caused Called e f = cc
caused (From p) e f = cc

pub has_one : (c : Cause) → c ≢ no_cause → has_cause c ≡ true
has_one no_cause f = absurd (f refl)
has_one Called f = refl
has_one (From p) f = refl

pub poisoned_name : (ns : List Named) (id : ℕ) → is_poisoned_in ns id ≡ true → (n : Named) × In n ns × (n.id ≡ id) × (has_cause n.cause ≡ true)
poisoned_name ns id e =
    let w = list_any_of (λ (n : Named). cond (n.id == id) (has_cause n.cause) false) ns e in
    let a = by (w.0.id == id) (has_cause w.0.cause) w.2 in
    (w.0, w.1, eqb-true w.0.id id a.0, a.1)
  where
    by : (x y : Bool) → cond x y false ≡ true → (x ≡ true) × (y ≡ true)
    by true y e = (refl, e)
    by false y e = absurd (cc)

pub poisoned_from : (ns : List Named) (n : Named) (id : ℕ) → In n ns → n.id ≡ id → has_cause n.cause ≡ true → is_poisoned_in ns id ≡ true
poisoned_from ns n id k e f =
    list_any-In (λ (n : Named). cond (n.id == id) (has_cause n.cause) false) ns n k (ap (λ b. cond b (has_cause n.cause) false) (eq-eqb n.id id e) ∙ f)

-- The request of a name, of which something holds. A name that isn't over has the one of its live name, unless that is lent.
abbrev pub RequestWith : (RequestView → Type 0) → List Entry → Named → Type 0
RequestWith P h n = (r : RequestView) × FitsRequest h n r × P r

of_value : (P : RequestView → Type 0) (h : List Entry) (n : Named) (phase : Phase) (v : Value) → FitsValue h n phase v → is_over phase ≡ false →
    OfRequest P v → RequestWith P h n
of_value P h n Optimistic (Optimist o) f e k = (o.r, f.0, k)
of_value P h n Optimistic (Waiting w) f e k = absurd f
of_value P h n Optimistic (GrantedValue g) f e k = absurd f
of_value P h n Optimistic OverValue f e k = absurd f
of_value P h n Pending (Optimist o) f e k = absurd f
of_value P h n Pending (Waiting w) f e k = (w.r, f.0, k)
of_value P h n Pending (GrantedValue g) f e k = absurd f
of_value P h n Pending OverValue f e k = absurd f
of_value P h n (Granted front) (Optimist o) f e k = absurd f
of_value P h n (Granted front) (Waiting w) f e k = absurd f
of_value P h n (Granted front) (GrantedValue g) f e k = (g.r, f.0, k)
of_value P h n (Granted front) OverValue f e k = absurd f
of_value P h n Over v f e k = absurd (cc)

request_in : (P : RequestView → Type 0) (h : List Entry) (ns : List Named) (ls : List LiveSays) (n : Named) → Pairs (Fits h) ns ls →
    EachRequest P ls → In n ns → is_over n.phase ≡ false → RequestWith P h n
request_in P h [] ls n p a k e = absurd k
request_in P h (m ∷ ns) [] n p a k e = absurd p
request_in P h (m ∷ ns) (l ∷ ls) n p a (inl same) e =
    let f : FitsValue h n n.phase l.value = subst (λ (x : Named). FitsValue h x x.phase l.value) same p.0.1 in of_value P h n n.phase l.value f e a.0
request_in P h (m ∷ ns) (l ∷ ls) n p a (inr k) e = request_in P h ns ls n p.1 a.1 k e

pub request_of : (P : RequestView → Type 0) (h : List Entry) (i : ℕ) (ns : List Named) (ls : List LiveSays) (own n : Named) →
    PairsBut i (Fits h) FitsName ns ls → slice_get ns i ≡ Some own → EachRequest P ls → In n ns → n.id ≢ own.id → is_over n.phase ≡ false → RequestWith P h n
request_of P h i [] ls own n p at a k d e = absurd k
request_of P h i (m ∷ ns) [] own n p at a k d e = absurd (no_pair i p)
  where
    no_pair : (i : ℕ) → PairsBut i (Fits h) FitsName (m ∷ ns) [] → ⊥
    no_pair zero p = p
    no_pair (suc i) p = p
request_of P h zero (m ∷ ns) (l ∷ ls) own n p at a (inl same) d e =
    let x : m ≡ own = cc in absurd (d (ap (λ (n : Named). n.id) (sym same ∙ x)))
request_of P h zero (m ∷ ns) (l ∷ ls) own n p at a (inr k) d e = request_in P h ns ls n p.1 a.1 k e
request_of P h (suc i) (m ∷ ns) (l ∷ ls) own n p at a (inl same) d e =
    let f : FitsValue h n n.phase l.value = subst (λ (x : Named). FitsValue h x x.phase l.value) same p.0.1 in of_value P h n n.phase l.value f e a.0
request_of P h (suc i) (m ∷ ns) (l ∷ ls) own n p at a (inr k) d e = request_of P h i ns ls own n p.1 at a.1 k d e

-- A name with a cause is known to have one, where its request is.
pub known_name : (h : List Entry) (new : RequestView) (n : Named) → RequestWith (KnowsOf new) h n → n.cause ≢ no_cause → Contains new.poisoned n.id
known_name h new n q c =
    let f = q.1 in subst (λ (p : ℕ). Contains new.poisoned p) f.id (q.2 (λ e. c (sym f.cause ∙ e)))

-- And one that was known to have a cause has one, where its request was heard by its number.
pub right_name : (h : List Entry) (by : ℕ) (old new : RequestView) (n : Named) → RequestWith (HeardOf by old new) h n → n.id ≡ by →
    Contains old.poisoned by → n.cause ≢ no_cause
right_name h by old new n q e p c = let f = q.1 in q.2.1 (f.id ∙ e) p (f.cause ∙ c)

-- Of requests that have been heard each cause is known, and of those without a cause there is none to know.
pub knows_heard : (by : ℕ) (old new : RequestView) (ls : List LiveSays) → AreHeard by old new ls → EachRequest (KnowsOf new) ls
knows_heard by old new ls h =
    Each-map (λ (l : LiveSays). OfRequest (HeardOf by old new) l.value) (λ (l : LiveSays). OfRequest (KnowsOf new) l.value) (λ l k. one l.value k) ls h
  where
    one : (v : Value) → OfRequest (HeardOf by old new) v → OfRequest (KnowsOf new) v
    one (Optimist o) k = k.0
    one (Waiting w) k = k.0
    one (GrantedValue g) k = k.0
    one OverValue k = tt

pub knows_none : (new : RequestView) (ls : List LiveSays) → Each HasNoCause ls → EachRequest (KnowsOf new) ls
knows_none new ls h = Each-map HasNoCause (λ (l : LiveSays). OfRequest (KnowsOf new) l.value) (λ l k. one l.value k) ls h
  where
    one : (v : Value) → cause_of v ≡ no_cause → OfRequest (KnowsOf new) v
    one (Optimist o) e = λ c. absurd (c e)
    one (Waiting w) e = λ c. absurd (c e)
    one (GrantedValue g) e = λ c. absurd (c e)
    one OverValue e = tt
