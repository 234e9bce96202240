-- A run stands at a state, and at the one after it by each change of both.
use Rattle.std.proofs.Common.{◌≡◌, ℕ, zero, suc, true, List, [], ◌∷◌, ◌++◌, Some, refl, sym, ap, ◌∙◌, subst}
use Rattle.std.specs.Prelude.{slice_get, slice_set}
use Rattle.std.specs.List.{remove}
use Rattle.latch_model.specs.Histories.{has_begun}
use Rattle.latch_model.specs.declared.history.Entry.{Entry}
use Rattle.latch_model.specs.declared.history.Entry.TheVariants.{Ended}
use Rattle.latch_model.specs.declared.history.Fault.{Fault}
use Rattle.latch_model.specs.declared.history.Grant.{Grant}
use Rattle.latch_model.proofs.Elements.{Each}
use Rattle.latch_model.proofs.Growing.{begun_of, shot-append}
use Rattle.signal_board.specs.Says.{PassSays}
use Rattle.signal_board.specs.Views.{RequestView}
use Rattle.step_run.specs.State.{Granted, Named, Optimistic, Over, Pending, Phase, State, ended, replaced, with_name, without}
use Rattle.step_run.specs.Steps.{is_over}
use Rattle.step_run.specs.Valid.{Valid}
use Rattle.step_run.specs.Lives.{AreWarned, LiveSays, warned_live, warned_value, with_value}
use Rattle.step_run.specs.Runs.{Fits, FitsName, FitsRequest, FitsValue, IsSame, Pairs, PairsBut, RunSays, Stands, StandsBut}
use Rattle.step_run.specs.declared.live.Value.{Value}
use Rattle.step_run.specs.declared.live.Value.TheVariants.{Optimist, Waiting, Granted as GrantedValue, Over as OverValue}
use Rattle.step_run.proofs.Growing.{latches_of-append}
use Rattle.step_run.proofs.Names.{replaced_at, without_at}
use Rattle.step_run.proofs.Places.{get-set, remove-set}
use Rattle.step_run.proofs.Standing.{valid_end, valid_remove, valid_set}

-- pairs, by their places
pub pair_at : {X Y : Type 0} (P : X → Y → Type 0) (xs : List X) (ys : List Y) (i : ℕ) (x : X) → Pairs P xs ys → slice_get xs i ≡ Some x →
    (y : Y) × (slice_get ys i ≡ Some y) × P x y
pair_at P [] ys i x h e = absurd (cc)
pair_at P (z ∷ zs) [] i x h e = absurd h
pair_at P (z ∷ zs) (y ∷ ys) zero x h e = let same : z ≡ x = cc in (y, refl, subst (λ a. P a y) same h.0)
pair_at P (z ∷ zs) (y ∷ ys) (suc i) x h e = pair_at P zs ys i x h.1 e

pub pair_here : {X Y : Type 0} (P : X → Y → Type 0) (xs : List X) (ys : List Y) (i : ℕ) (x : X) (y : Y) → Pairs P xs ys → slice_get xs i ≡ Some x →
    slice_get ys i ≡ Some y → P x y
pair_here {X} {Y} P xs ys i x y h e f = let w = pair_at P xs ys i x h e in let same : w.0 ≡ y = one w.1 f in subst (λ b. P x b) same w.2
  where
    one : {a b : Y} → slice_get ys i ≡ Some a → slice_get ys i ≡ Some b → a ≡ b
    one e f = cc

pub but_here : {X Y : Type 0} (P Q : X → Y → Type 0) (xs : List X) (ys : List Y) (i : ℕ) (x : X) (y : Y) → PairsBut i P Q xs ys → slice_get xs i ≡ Some x →
    slice_get ys i ≡ Some y → Q x y
but_here P Q [] ys i x y h e f = absurd (cc)
but_here P Q (a ∷ xs) [] i x y h e f = absurd (cc)
but_here P Q (a ∷ xs) (b ∷ ys) zero x y h e f =
    let s : a ≡ x = cc in let t : b ≡ y = cc in subst (λ v. Q x v) t (subst (λ u. Q u b) s h.0)
but_here P Q (a ∷ xs) (b ∷ ys) (suc i) x y h e f = but_here P Q xs ys i x y h.1 e f

named_valued : (n : Named) (l : LiveSays) (v : Value) → FitsName n l → FitsName n (record l { value = v })
named_valued n l v f = record { name = f.name; session = f.session; mode = f.mode; turns = f.turns }

named_same : (n m : Named) (l : LiveSays) → IsSame n m → FitsName n l → FitsName m l
named_same n m l s f = record {
  name = f.name ∙ sym s.name;
  session = f.session ∙ sym s.session;
  mode = f.mode ∙ sym s.mode;
  turns = f.turns ∙ sym s.turns;
}

-- a value is taken out at a place
pub pairs_out : (h : List Entry) (i : ℕ) (ns : List Named) (ls : List LiveSays) → Pairs (Fits h) ns ls →
    PairsBut i (Fits h) FitsName ns (with_value i OverValue ls)
pairs_out h zero [] [] p = tt
pairs_out h (suc i) [] [] p = tt
pairs_out h i [] (l ∷ ls) p = absurd p
pairs_out h i (n ∷ ns) [] p = absurd p
pairs_out h zero (n ∷ ns) (l ∷ ls) p = (named_valued n l OverValue p.0.0, p.1)
pairs_out h (suc i) (n ∷ ns) (l ∷ ls) p = (p.0, pairs_out h i ns ls p.1)

-- another is put in
pub pairs_in : (h : List Entry) (i : ℕ) (ns : List Named) (ls : List LiveSays) (n m : Named) (v : Value) → PairsBut i (Fits h) FitsName ns ls →
    slice_get ns i ≡ Some n → IsSame n m → FitsValue h m m.phase v → Pairs (Fits h) (slice_set ns i m) (with_value i v ls)
pairs_in h i [] ls n m v p e s f = absurd (cc)
pairs_in h zero (x ∷ ns) [] n m v p e s f = absurd p
pairs_in h (suc i) (x ∷ ns) [] n m v p e s f = absurd p
pairs_in h zero (x ∷ ns) (l ∷ ls) n m v p e s f =
    let same : x ≡ n = cc in
    ((named_valued m l v (named_same n m l s (subst (λ a. FitsName a l) same p.0)), f), p.1)
pairs_in h (suc i) (x ∷ ns) (l ∷ ls) n m v p e s f = (p.0, pairs_in h i ns ls n m v p.1 e s f)

-- the name gets another form, while its value is out
pub pairs_formed : (h : List Entry) (i : ℕ) (ns : List Named) (ls : List LiveSays) (n m : Named) → PairsBut i (Fits h) FitsName ns ls →
    slice_get ns i ≡ Some n → IsSame n m → PairsBut i (Fits h) FitsName (slice_set ns i m) ls
pairs_formed h i [] ls n m p e s = absurd (cc)
pairs_formed h zero (x ∷ ns) [] n m p e s = absurd p
pairs_formed h (suc i) (x ∷ ns) [] n m p e s = absurd p
pairs_formed h zero (x ∷ ns) (l ∷ ls) n m p e s = let same : x ≡ n = cc in (named_same n m l s (subst (λ a. FitsName a l) same p.0), p.1)
pairs_formed h (suc i) (x ∷ ns) (l ∷ ls) n m p e s = (p.0, pairs_formed h i ns ls n m p.1 e s)

-- a longer history
request_grown : (h t : List Entry) (n : Named) (r : RequestView) → has_begun h n.id ≡ true → FitsRequest h n r → FitsRequest (h ++ t) n r
request_grown h t n r b f =
    let w = begun_of h n.id b in
    record {
      id = f.id;
      policy = f.policy;
      latches = f.latches ∙ sym (latches_of-append h t n.id b);
      shot = f.shot ∙ sym (shot-append h t n.id w.0 w.1);
      cause = f.cause;
    }

value_grown : (h t : List Entry) (n : Named) (phase : Phase) (v : Value) → has_begun h n.id ≡ true → FitsValue h n phase v → FitsValue (h ++ t) n phase v
value_grown h t n Optimistic (Optimist o) b f = (request_grown h t n o.r b f.0, f.1, f.2)
value_grown h t n Optimistic (Waiting w) b f = absurd f
value_grown h t n Optimistic (GrantedValue g) b f = absurd f
value_grown h t n Optimistic OverValue b f = absurd f
value_grown h t n Pending (Optimist o) b f = absurd f
value_grown h t n Pending (Waiting w) b f = (request_grown h t n w.r b f.0, f.1)
value_grown h t n Pending (GrantedValue g) b f = absurd f
value_grown h t n Pending OverValue b f = absurd f
value_grown h t n (Granted front) (Optimist o) b f = absurd f
value_grown h t n (Granted front) (Waiting w) b f = absurd f
value_grown h t n (Granted front) (GrantedValue g) b f = (request_grown h t n g.r b f.0, f.1)
value_grown h t n (Granted front) OverValue b f = absurd f
value_grown h t n Over (Optimist o) b f = absurd f
value_grown h t n Over (Waiting w) b f = absurd f
value_grown h t n Over (GrantedValue g) b f = absurd f
value_grown h t n Over OverValue b f = tt

pub pairs_grown : (h t : List Entry) (ns : List Named) (ls : List LiveSays) → Each (λ (n : Named). has_begun h n.id ≡ true) ns → Pairs (Fits h) ns ls →
    Pairs (Fits (h ++ t)) ns ls
pairs_grown h t [] [] b p = tt
pairs_grown h t [] (l ∷ ls) b p = absurd p
pairs_grown h t (n ∷ ns) [] b p = absurd p
pairs_grown h t (n ∷ ns) (l ∷ ls) b p = ((p.0.0, value_grown h t n n.phase l.value b.0 p.0.1), pairs_grown h t ns ls b.1 p.1)

-- the request at a place whose value is out has ended
over_value : (h : List Entry) (m : Named) (phase : Phase) (v : Value) → phase ≡ Over → v ≡ OverValue → FitsValue h m phase v
over_value h m phase v e f = subst (λ a. FitsValue h m a v) (sym e) (subst (λ b. FitsValue h m Over b) (sym f) tt)

pairs_ended : (h t : List Entry) (i : ℕ) (ns : List Named) (ls : List LiveSays) (n m : Named) (l : LiveSays) → PairsBut i (Fits h) FitsName ns ls →
    slice_get ns i ≡ Some n → slice_get ls i ≡ Some l → l.value ≡ OverValue → IsSame n m → m.phase ≡ Over →
    Each (λ (n : Named). has_begun h n.id ≡ true) ns → Pairs (Fits (h ++ t)) (slice_set ns i m) ls
pairs_ended h t i [] ls n m l p e f o s q b = absurd (cc)
pairs_ended h t zero (x ∷ ns) [] n m l p e f o s q b = absurd p
pairs_ended h t (suc i) (x ∷ ns) [] n m l p e f o s q b = absurd p
pairs_ended h t zero (x ∷ ns) (y ∷ ls) n m l p e f o s q b =
    let same : x ≡ n = cc in
    let there : y ≡ l = cc in (
      (named_same n m y s (subst (λ a. FitsName a y) same p.0), over_value (h ++ t) m m.phase y.value q (ap (λ (z : LiveSays). z.value) there ∙ o)),
      pairs_grown h t ns ls b.1 p.1,
    )
pairs_ended h t (suc i) (x ∷ ns) (y ∷ ls) n m l p e f o s q b =
    ((p.0.0, value_grown h t x x.phase y.value b.0 p.0.1), pairs_ended h t i ns ls n m l p.1 e f o s q b.1)

-- a place is let go
pub pairs_removed : {X Y : Type 0} (P : X → Y → Type 0) (i : ℕ) (xs : List X) (ys : List Y) → Pairs P xs ys → Pairs P (remove xs i) (remove ys i)
pairs_removed P zero [] [] p = tt
pairs_removed P (suc i) [] [] p = tt
pairs_removed P i [] (y ∷ ys) p = absurd p
pairs_removed P i (x ∷ xs) [] p = absurd p
pairs_removed P zero (x ∷ xs) (y ∷ ys) p = p.1
pairs_removed P (suc i) (x ∷ xs) (y ∷ ys) p = (p.0, pairs_removed P i xs ys p.1)

-- a pair is added
pub pairs_pushed : {X Y : Type 0} (P : X → Y → Type 0) (xs : List X) (ys : List Y) (x : X) (y : Y) → Pairs P xs ys → P x y →
    Pairs P (xs ++ x ∷ []) (ys ++ y ∷ [])
pairs_pushed P [] [] x y p q = (q, tt)
pairs_pushed P [] (z ∷ ys) x y p q = absurd p
pairs_pushed P (z ∷ xs) [] x y p q = absurd p
pairs_pushed P (z ∷ xs) (w ∷ ys) x y p q = (p.0, pairs_pushed P xs ys x y p.1 q)

-- values are warned
request_warned : (h : List Entry) (n : Named) (r : RequestView) (ps : List ℕ) → FitsRequest h n r → FitsRequest h n (record r { poisoned = ps })
request_warned h n r ps f = record { id = f.id; policy = f.policy; latches = f.latches; shot = f.shot; cause = f.cause }

value_warned : (h : List Entry) (n : Named) (ps : List ℕ) (phase : Phase) (v : Value) → FitsValue h n phase v → FitsValue h n phase (warned_value ps v)
value_warned h n ps Optimistic (Optimist o) f = (request_warned h n o.r _ f.0, f.1, f.2)
value_warned h n ps Optimistic (Waiting w) f = absurd f
value_warned h n ps Optimistic (GrantedValue g) f = absurd f
value_warned h n ps Optimistic OverValue f = absurd f
value_warned h n ps Pending (Optimist o) f = absurd f
value_warned h n ps Pending (Waiting w) f = (request_warned h n w.r _ f.0, f.1)
value_warned h n ps Pending (GrantedValue g) f = absurd f
value_warned h n ps Pending OverValue f = absurd f
value_warned h n ps (Granted front) (Optimist o) f = absurd f
value_warned h n ps (Granted front) (Waiting w) f = absurd f
value_warned h n ps (Granted front) (GrantedValue g) f = (request_warned h n g.r _ f.0, f.1)
value_warned h n ps (Granted front) OverValue f = absurd f
value_warned h n ps Over (Optimist o) f = absurd f
value_warned h n ps Over (Waiting w) f = absurd f
value_warned h n ps Over (GrantedValue g) f = absurd f
value_warned h n ps Over OverValue f = tt

name_warned : (n : Named) (ps : List ℕ) (l m : LiveSays) → m ≡ warned_live ps l → FitsName n l → FitsName n m
name_warned n ps l m e f = subst (λ (x : LiveSays). FitsName n x) (sym e) (named_valued n l (warned_value ps l.value) f)

fits_warned : (h : List Entry) (n : Named) (ps : List ℕ) (l m : LiveSays) → m ≡ warned_live ps l → Fits h n l → Fits h n m
fits_warned h n ps l m e f =
    subst (λ (x : LiveSays). Fits h n x) (sym e) (named_valued n l (warned_value ps l.value) f.0, value_warned h n ps n.phase l.value f.1)

pairs_warned : (h : List Entry) (ns : List Named) (ls ms : List LiveSays) → AreWarned ls ms → Pairs (Fits h) ns ls → Pairs (Fits h) ns ms
pairs_warned h [] [] [] a p = tt
pairs_warned h [] [] (m ∷ ms) a p = absurd a
pairs_warned h [] (l ∷ ls) ms a p = absurd p
pairs_warned h (n ∷ ns) [] ms a p = absurd p
pairs_warned h (n ∷ ns) (l ∷ ls) [] a p = absurd a
pairs_warned h (n ∷ ns) (l ∷ ls) (m ∷ ms) a p = (fits_warned h n a.0.0 l m a.0.1 p.0, pairs_warned h ns ls ms a.1 p.1)

pub but_warned : (h : List Entry) (i : ℕ) (ns : List Named) (ls ms : List LiveSays) → AreWarned ls ms → PairsBut i (Fits h) FitsName ns ls →
    PairsBut i (Fits h) FitsName ns ms
but_warned h zero [] [] [] a p = tt
but_warned h (suc i) [] [] [] a p = tt
but_warned h i [] [] (m ∷ ms) a p = absurd a
but_warned h zero [] (l ∷ ls) ms a p = absurd p
but_warned h (suc i) [] (l ∷ ls) ms a p = absurd p
but_warned h zero (n ∷ ns) [] ms a p = absurd p
but_warned h (suc i) (n ∷ ns) [] ms a p = absurd p
but_warned h i (n ∷ ns) (l ∷ ls) [] a p = absurd a
but_warned h zero (n ∷ ns) (l ∷ ls) (m ∷ ms) a p = (name_warned n a.0.0 l m a.0.1 p.0, pairs_warned h ns ls ms a.1 p.1)
but_warned h (suc i) (n ∷ ns) (l ∷ ls) (m ∷ ms) a p = (fits_warned h n a.0.0 l m a.0.1 p.0, but_warned h i ns ls ms a.1 p.1)

-- Runs and states.
pub stands_take : (s : State) (r : RunSays) (i : ℕ) (ls : List LiveSays) → ls ≡ with_value i OverValue r.lives → Stands s r →
    StandsBut i s (record r { lives = ls })
stands_take s r i ls e h = record {
  history = h.history;
  valid = h.valid;
  names = subst (λ (xs : List LiveSays). PairsBut i (Fits s.history) FitsName s.names xs) (sym e) (pairs_out s.history i s.names r.lives h.names);
}

named_valid : (h : List Entry) (ns : List Named) (i : ℕ) (n m : Named) → slice_get ns i ≡ Some n → IsSame n m → is_over m.phase ≡ is_over n.phase →
    Valid h ns → Valid h (replaced m ns)
named_valid h ns i n m at s o v =
    subst (λ xs. Valid h xs) (sym (replaced_at ns i n m at s.id v.rising)) (valid_set h ns i n m at (record { id = s.id; mode = s.mode }) o v)

pub stands_put : (s : State) (r : RunSays) (i : ℕ) (n m : Named) (v : Value) (ls : List LiveSays) → StandsBut i s r → slice_get s.names i ≡ Some n →
    IsSame n m → is_over m.phase ≡ is_over n.phase → FitsValue s.history m m.phase v → ls ≡ with_value i v r.lives →
    Stands (with_name m s) (record r { lives = ls })
stands_put s r i n m v ls h at same o f e = record {
  history = h.history;
  valid = named_valid s.history s.names i n m at same o h.valid;
  names = subst (λ (xs : List LiveSays). Pairs (Fits s.history) (replaced m s.names) xs) (sym e)
      (subst (λ (xs : List Named). Pairs (Fits s.history) xs (with_value i v r.lives)) (sym (replaced_at s.names i n m at same.id h.valid.rising))
      (pairs_in s.history i s.names r.lives n m v h.names at same f));
}

pub stands_formed : (s : State) (r : RunSays) (i : ℕ) (n m : Named) → StandsBut i s r → slice_get s.names i ≡ Some n → IsSame n m →
    is_over m.phase ≡ is_over n.phase → StandsBut i (with_name m s) r
stands_formed s r i n m h at same o = record {
  history = h.history;
  valid = named_valid s.history s.names i n m at same o h.valid;
  names = subst (λ (xs : List Named). PairsBut i (Fits s.history) FitsName xs r.lives) (sym (replaced_at s.names i n m at same.id h.valid.rising))
      (pairs_formed s.history i s.names r.lives n m h.names at same);
}

pub formed_at : (s : State) (i : ℕ) (n m : Named) → slice_get s.names i ≡ Some n → IsSame n m → Valid s.history s.names →
    slice_get (with_name m s).names i ≡ Some m
formed_at s i n m at same v =
    ap (λ (xs : List Named). slice_get xs i) (replaced_at s.names i n m at same.id v.rising) ∙ get-set s.names i n m at

pub stands_end : (s : State) (r : RunSays) (i : ℕ) (n m : Named) (l : LiveSays) (grant : Grant) (fault : Fault) (h : List Entry) (ps : List PassSays) →
    StandsBut i s r → slice_get s.names i ≡ Some n → slice_get r.lives i ≡ Some l → l.value ≡ OverValue → IsSame n m →
    h ≡ r.log ++ Ended m.id m.session grant m.cause fault ∷ [] → Stands (ended grant fault m s) (record r { log = h; passes = ps })
stands_end s r i n m l grant fault h ps k at there o same e =
    let over : Named = record m { phase = Over } in
    let x : Entry = Ended m.id m.session grant m.cause fault in
    let is : replaced over s.names ≡ slice_set s.names i over = replaced_at s.names i n over at same.id k.valid.rising in
    let alike : IsSame n over = record { id = same.id; name = same.name; session = same.session; mode = same.mode; turns = same.turns } in
    record {
      history = e ∙ ap (λ (g : List Entry). g ++ x ∷ []) k.history;
      valid = subst (λ xs. Valid (s.history ++ x ∷ []) xs) (sym is)
          (subst (λ j. Valid (s.history ++ Ended j m.session grant m.cause fault ∷ []) (slice_set s.names i over)) (sym same.id)
          (valid_end s.history s.names i n over m.session grant m.cause fault at same.id refl k.valid));
      names = subst (λ (xs : List Named). Pairs (Fits (s.history ++ x ∷ [])) xs r.lives) (sym is)
          (pairs_ended s.history (x ∷ []) i s.names r.lives n over l k.names at there o alike refl k.valid.begun);
    }

-- A name is let go that is over.
pub stands_remove : (s : State) (r : RunSays) (i : ℕ) (n : Named) (ls : List LiveSays) → Stands s r → slice_get s.names i ≡ Some n → is_over n.phase ≡ true →
    ls ≡ remove r.lives i → Stands (record { history = s.history; names = without n.id s.names; line = s.line }) (record r { lives = ls })
stands_remove s r i n ls h at o e =
    let is : without n.id s.names ≡ remove s.names i = without_at s.names i n at h.valid.rising in
    record {
      history = h.history;
      valid = subst (λ xs. Valid s.history xs) (sym is) (valid_remove s.history s.names i n at o h.valid);
      names = subst (λ (xs : List LiveSays). Pairs (Fits s.history) (without n.id s.names) xs) (sym e)
          (subst (λ (xs : List Named). Pairs (Fits s.history) xs (remove r.lives i)) (sym is) (pairs_removed (Fits s.history) i s.names r.lives h.names));
    }

-- A name is let go, and its request ends.
each_begun : (h t : List Entry) (i : ℕ) (ns : List Named) (ls : List LiveSays) → Each (λ (n : Named). has_begun h n.id ≡ true) ns → Pairs (Fits h) ns ls →
    Pairs (Fits (h ++ t)) (remove ns i) (remove ls i)
each_begun h t i ns ls b p = pairs_removed (Fits (h ++ t)) i ns ls (pairs_grown h t ns ls b p)

pub stands_released : (s : State) (r : RunSays) (i : ℕ) (n : Named) (grant : Grant) (fault : Fault) (h : List Entry) (ps : List PassSays) (ls : List LiveSays) →
    Stands s r → slice_get s.names i ≡ Some n → ls ≡ remove r.lives i → h ≡ r.log ++ Ended n.id n.session grant n.cause fault ∷ [] →
    Stands (record { history = (ended grant fault n s).history; names = without n.id (ended grant fault n s).names; line = s.line })
    (record r { log = h; passes = ps; lives = ls })
stands_released s r i n grant fault h ps ls k at e f =
    let over : Named = record n { phase = Over } in
    let x : Entry = Ended n.id n.session grant n.cause fault in
    let is : replaced over s.names ≡ slice_set s.names i over = replaced_at s.names i n over at refl k.valid.rising in
    let v : Valid (s.history ++ x ∷ []) (slice_set s.names i over) = valid_end s.history s.names i n over n.session grant n.cause fault at refl refl k.valid in
    let there : slice_get (slice_set s.names i over) i ≡ Some over = get-set s.names i n over at in
    let gone : without n.id (replaced over s.names) ≡ remove s.names i =
    ap (λ (xs : List Named). without n.id xs) is ∙ without_at (slice_set s.names i over) i over there v.rising ∙ remove-set s.names i over in
    record {
      history = f ∙ ap (λ (g : List Entry). g ++ x ∷ []) k.history;
      valid = subst (λ xs. Valid (s.history ++ x ∷ []) xs) (sym gone) (subst (λ xs. Valid (s.history ++ x ∷ []) xs) (remove-set s.names i over)
          (valid_remove (s.history ++ x ∷ []) (slice_set s.names i over) i over there refl v));
      names = subst (λ (xs : List LiveSays). Pairs (Fits (s.history ++ x ∷ [])) (without n.id (replaced over s.names)) xs) (sym e)
          (subst (λ (xs : List Named). Pairs (Fits (s.history ++ x ∷ [])) xs (remove r.lives i)) (sym gone)
          (each_begun s.history (x ∷ []) i s.names r.lives k.valid.begun k.names));
    }
