-- Live names at a place, with another value there, and after some have been heard.
use Rattle.std.proofs.Common.{◌≡◌, ℕ, zero, suc, ◌<◌, List, [], ◌∷◌, ◌++◌, map, length, get_or, Some, refl, sym, ap, ◌∙◌, subst, arith}
use Rattle.std.specs.Prelude.{slice_get, slice_set}
use Rattle.std.specs.Box.{with_value as boxed}
use Rattle.std.specs.List.{Contains}
use Rattle.signal_board.specs.Steps.{warned}
use Rattle.signal_board.specs.Views.{RequestView}
use Rattle.std.proofs.lemmas.List.{append_assoc}
use Rattle.waiter.specs.Says.{WaitingSays}
use Rattle.step_run.specs.declared.live.Live.{Live}
use Rattle.step_run.specs.declared.live.Value.{Value}
use Rattle.step_run.specs.declared.live.Value.TheVariants.{Optimist, Waiting, Granted, Over}
use Rattle.step_run.specs.Lives.{AreHeard, AreWarned, Heard, HeardOf, LiveSays, seen_live, warned_live, warned_value, with_value}
use Rattle.std.proofs.lemmas.List.Elements.{Contains-append_right}

pub set_value : (xs : List Live) (i : ℕ) (y : Live) (v : Value) → y ≡ get_or xs i y →
    map seen_live (slice_set xs i (record y { value = boxed y.value v })) ≡ with_value i v (map seen_live xs)
set_value [] zero y v e = refl
set_value [] (suc i) y v e = refl
set_value (x ∷ xs) zero y v e =
    ap (λ (z : Live). let l : LiveSays = record { name = z.name.now; session = z.session; mode = z.mode; turns = z.turns; value = v } in l ∷ map seen_live xs) e
set_value (x ∷ xs) (suc i) y v e = ap (λ ls. seen_live x ∷ ls) (set_value xs i y v e)

-- the live name at a place
pub seen_get : (xs : List Live) (i : ℕ) (x : Live) → x ≡ get_or xs i x → i < length xs → slice_get (map seen_live xs) i ≡ Some (seen_live x)
seen_get [] i x e l = absurd (omega arith)
seen_get (y ∷ ys) zero x e l = ap (λ z. Some (seen_live z)) (sym e)
seen_get (y ∷ ys) (suc i) x e l = seen_get ys i x e (omega arith)

pub inside_seen : (xs : List Live) (i : ℕ) (l : LiveSays) → slice_get (map seen_live xs) i ≡ Some l → i < length xs
inside_seen [] i l e = absurd (cc)
inside_seen (x ∷ xs) zero l e = omega arith
inside_seen (x ∷ xs) (suc i) l e = let k : i < length xs = inside_seen xs i l e in omega arith

pub seen_at : (xs : List Live) (i : ℕ) (x : Live) (l : LiveSays) → slice_get (map seen_live xs) i ≡ Some l → x ≡ get_or xs i x → seen_live x ≡ l
seen_at xs i x l a e = same (sym (seen_get xs i x e (inside_seen xs i l a)) ∙ a)
  where
    same : Some (seen_live x) ≡ Some l → seen_live x ≡ l
    same e = cc

pub seen_there : (xs : List Live) (i : ℕ) → i < length xs → (l : LiveSays) × (slice_get (map seen_live xs) i ≡ Some l)
seen_there [] i lt = absurd (omega arith)
seen_there (x ∷ xs) zero lt = (seen_live x, refl)
seen_there (x ∷ xs) (suc i) lt = seen_there xs i (omega arith)

-- The first so many have been warned, and the others are as they were.
abbrev pub WarnedTo : ℕ → List LiveSays → List LiveSays → Type 0
WarnedTo zero ls ms = ms ≡ ls
WarnedTo (suc i) [] ms = ms ≡ []
WarnedTo (suc i) (l ∷ ls) [] = ⊥
WarnedTo (suc i) (l ∷ ls) (m ∷ ms) = ((ps : List ℕ) × (m ≡ warned_live ps l)) × WarnedTo i ls ms

pub warned_len : (i : ℕ) (ls ms : List LiveSays) → WarnedTo i ls ms → length ms ≡ length ls
warned_len zero ls ms h = ap length h
warned_len (suc i) [] ms h = ap length h
warned_len (suc i) (l ∷ ls) [] h = absurd h
warned_len (suc i) (l ∷ ls) (m ∷ ms) h = ap suc (warned_len i ls ms h.1)

pub warned_old : (i : ℕ) (ls ms : List LiveSays) (m : LiveSays) → WarnedTo i ls ms → slice_get ms i ≡ Some m → slice_get ls i ≡ Some m
warned_old zero ls ms m h e = ap (λ (xs : List LiveSays). slice_get xs 0) (sym h) ∙ e
warned_old (suc i) [] ms m h e = absurd (none ms h e)
  where
    none : (ms : List LiveSays) → ms ≡ [] → slice_get ms (suc i) ≡ Some m → ⊥
    none [] h e = cc
    none (x ∷ xs) h e = cc
warned_old (suc i) (l ∷ ls) [] m h e = absurd h
warned_old (suc i) (l ∷ ls) (x ∷ ms) m h e = warned_old i ls ms m h.1 e

warned_first : (ls ms new : List LiveSays) (m : LiveSays) (ps : List ℕ) → ms ≡ ls → slice_get ms 0 ≡ Some m → new ≡ with_value 0 (warned_value ps m.value) ms →
    WarnedTo 1 ls new
warned_first [] [] new m ps h e f = absurd (cc)
warned_first [] (x ∷ xs) new m ps h e f = absurd (cc)
warned_first (l ∷ ls) [] new m ps h e f = absurd (cc)
warned_first (l ∷ ls) (x ∷ xs) [] m ps h e f = absurd (cc)
warned_first (l ∷ ls) (x ∷ xs) (y ∷ ys) m ps h e f =
    let a : x ≡ l = cc in
    let b : x ≡ m = cc in
    let g : y ≡ (let z : LiveSays = record x { value = warned_value ps m.value } in z) = cc in
    let t : ys ≡ ls = cc in
    ((ps, g ∙ ap (λ (z : LiveSays). let r : LiveSays = record x { value = warned_value ps z.value } in r) (sym b) ∙ ap (warned_live ps) a), t)

pub warned_step : (i : ℕ) (ls ms new : List LiveSays) (m : LiveSays) (ps : List ℕ) → WarnedTo i ls ms → slice_get ms i ≡ Some m →
    new ≡ with_value i (warned_value ps m.value) ms → WarnedTo (suc i) ls new
warned_step zero ls ms new m ps h e f = warned_first ls ms new m ps h e f
warned_step (suc i) [] ms new m ps h e f = absurd (none ms h e)
  where
    none : (ms : List LiveSays) → ms ≡ [] → slice_get ms (suc i) ≡ Some m → ⊥
    none [] h e = cc
    none (x ∷ xs) h e = cc
warned_step (suc i) (l ∷ ls) [] new m ps h e f = absurd h
warned_step (suc i) (l ∷ ls) (x ∷ ms) [] m ps h e f = absurd (cc)
warned_step (suc i) (l ∷ ls) (x ∷ ms) (y ∷ ys) m ps h e f =
    let a : y ≡ x = cc in
    let t : ys ≡ with_value i (warned_value ps m.value) ms = cc in
    ((h.0.0, a ∙ h.0.1), warned_step i ls ms ys m ps h.1 e t)

itself : (l : LiveSays) → l ≡ warned_live [] l
itself l = ap (λ (v : Value). let r : LiveSays = record l { value = v } in r) (same l.value)
  where
    same : (v : Value) → v ≡ warned_value [] v
    same (Optimist o) = refl
    same (Waiting w) = refl
    same (Granted g) = refl
    same Over = refl

pub all_themselves : (ls ms : List LiveSays) → ms ≡ ls → AreWarned ls ms
all_themselves [] [] e = tt
all_themselves [] (m ∷ ms) e = absurd (cc)
all_themselves (l ∷ ls) [] e = absurd (cc)
all_themselves (l ∷ ls) (m ∷ ms) e = let a : m ≡ l = cc in let t : ms ≡ ls = cc in (([], a ∙ itself l), all_themselves ls ms t)

pub warned_all : (i : ℕ) (ls ms : List LiveSays) → WarnedTo i ls ms → AreWarned ls ms
warned_all zero ls ms h = all_themselves ls ms h
warned_all (suc i) [] ms h = all_themselves [] ms h
warned_all (suc i) (l ∷ ls) [] h = absurd h
warned_all (suc i) (l ∷ ls) (m ∷ ms) h = (h.0, warned_all i ls ms h.1)

-- The first so many have been heard.
abbrev pub HeardTo : ℕ → ℕ → RequestView → RequestView → List LiveSays → Type 0
HeardTo zero by old new ls = Unit {0}
HeardTo (suc i) by old new [] = Unit {0}
HeardTo (suc i) by old new (l ∷ ls) = Heard by old new l.value × HeardTo i by old new ls

more_of : (by : ℕ) (old mid new r : RequestView) (ps : List ℕ) → new ≡ warned ps mid → HeardOf by old mid r → HeardOf by old new r
more_of by old mid new r ps e h =
    ((λ c. subst (λ (x : RequestView). Contains x.poisoned r.id) (sym e) (Contains-append_right ps mid.poisoned r.id (h.0 c))), h.1)

pub heard_more : (by : ℕ) (old mid new : RequestView) (ps : List ℕ) (v : Value) → new ≡ warned ps mid → Heard by old mid v → Heard by old new v
heard_more by old mid new ps (Optimist o) e h = more_of by old mid new o.r ps e h
heard_more by old mid new ps (Waiting w) e h = more_of by old mid new w.r ps e h
heard_more by old mid new ps (Granted g) e h = more_of by old mid new g.r ps e h
heard_more by old mid new ps Over e h = tt

from_of : (by : ℕ) (old mid new r : RequestView) (ps : List ℕ) → mid ≡ warned ps old → HeardOf by mid new r → HeardOf by old new r
from_of by old mid new r ps e h =
    (h.0, (λ same c. h.1 same (subst (λ (x : RequestView). Contains x.poisoned by) (sym e) (Contains-append_right ps old.poisoned by c))))

pub heard_from : (by : ℕ) (old mid new : RequestView) (ps : List ℕ) (v : Value) → mid ≡ warned ps old → Heard by mid new v → Heard by old new v
heard_from by old mid new ps (Optimist o) e h = from_of by old mid new o.r ps e h
heard_from by old mid new ps (Waiting w) e h = from_of by old mid new w.r ps e h
heard_from by old mid new ps (Granted g) e h = from_of by old mid new g.r ps e h
heard_from by old mid new ps Over e h = tt

pub heard_step : (i by : ℕ) (old mid new : RequestView) (ps qs : List ℕ) (ls : List LiveSays) (l : LiveSays) → HeardTo i by old mid ls →
    mid ≡ warned qs old → new ≡ warned ps mid → slice_get ls i ≡ Some l → Heard by mid new l.value → HeardTo (suc i) by old new ls
heard_step zero by old mid new ps qs [] l h f g e k = tt
heard_step zero by old mid new ps qs (x ∷ ls) l h f g e k =
    let same : l ≡ x = cc in (heard_from by old mid new qs x.value f (subst (λ (y : LiveSays). Heard by mid new y.value) same k), tt)
heard_step (suc i) by old mid new ps qs [] l h f g e k = tt
heard_step (suc i) by old mid new ps qs (x ∷ ls) l h f g e k =
    (heard_more by old mid new ps x.value g h.0, heard_step i by old mid new ps qs ls l h.1 f g e k)

pub heard_all : (i by : ℕ) (old new : RequestView) (ls : List LiveSays) → length ls ≡ i → HeardTo i by old new ls → AreHeard by old new ls
heard_all zero by old new [] e h = tt
heard_all zero by old new (l ∷ ls) e h = absurd (omega arith)
heard_all (suc i) by old new [] e h = tt
heard_all (suc i) by old new (l ∷ ls) e h = (h.0, heard_all i by old new ls (omega arith) h.1)

-- A request that was warned twice was warned once of all.
pub warned_twice : (a b c : WaitingSays) (ps qs : List ℕ) → b ≡ record a { r = warned ps a.r } → c ≡ record b { r = warned qs b.r } →
    (rs : List ℕ) × (c ≡ record a { r = warned rs a.r })
warned_twice a b c ps qs e f = (
  qs ++ ps,
  f ∙ ap (λ (x : WaitingSays). let y : WaitingSays = record x { r = warned qs x.r } in y) e
      ∙ ap (λ (ns : List ℕ). let y : WaitingSays = record a { r = record a.r { poisoned = ns } } in y) (sym (append_assoc qs ps a.r.poisoned)),
)

-- an element at a place
pub get_there : {X : Type 0} (xs : List X) (i : ℕ) (x : X) → x ≡ get_or xs i x → i < length xs → slice_get xs i ≡ Some x
get_there [] i x e l = absurd (omega arith)
get_there (y ∷ ys) zero x e l = ap Some (sym e)
get_there (y ∷ ys) (suc i) x e l = get_there ys i x e (omega arith)

value_twice : (ps qs : List ℕ) (v : Value) → warned_value qs (warned_value ps v) ≡ warned_value (qs ++ ps) v
value_twice ps qs (Optimist o) = ap (λ ns. Optimist (record o { r = record o.r { poisoned = ns } })) (sym (append_assoc qs ps o.r.poisoned))
value_twice ps qs (Waiting w) = ap (λ ns. Waiting (record w { r = record w.r { poisoned = ns } })) (sym (append_assoc qs ps w.r.poisoned))
value_twice ps qs (Granted g) = ap (λ ns. Granted (record g { r = record g.r { poisoned = ns } })) (sym (append_assoc qs ps g.r.poisoned))
value_twice ps qs Over = refl

pub warned_trans : (ls ms ns : List LiveSays) → AreWarned ls ms → AreWarned ms ns → AreWarned ls ns
warned_trans [] [] [] a b = tt
warned_trans [] [] (n ∷ ns) a b = absurd b
warned_trans [] (m ∷ ms) ns a b = absurd a
warned_trans (l ∷ ls) [] ns a b = absurd a
warned_trans (l ∷ ls) (m ∷ ms) [] a b = absurd b
warned_trans (l ∷ ls) (m ∷ ms) (n ∷ ns) a b = (
  (
    b.0.0 ++ a.0.0,
    b.0.1 ∙ ap (warned_live b.0.0) a.0.1
        ∙ ap (λ (v : Value). let x : LiveSays = record l { value = v } in x) (value_twice a.0.0 b.0.0 l.value),
  ),
  warned_trans ls ms ns a.1 b.1,
)

pub no_items : (xs : List Live) → map seen_live xs ≡ [] → xs ≡ []
no_items [] e = refl
no_items (x ∷ xs) e = absurd (cc)

pub none_of_length : (xs : List Live) → length xs ≡ 0 → map seen_live xs ≡ []
none_of_length [] e = refl
none_of_length (x ∷ xs) e = absurd (omega arith)
