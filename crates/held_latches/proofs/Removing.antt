-- The latches of a request that ends go out of the lists, one place after the other.
use Rattle.std.proofs.Common.{◌≡◌, ⊎_elim, inl, inr, ℕ, suc, ◌+◌, ◌<◌, ◌≤◌, true, false, true≢false, not, ◌&&◌, ◌==◌, nat_lt, Bool, cond, List, [], ◌∷◌}
use Rattle.std.proofs.Common.{◌*◌, length, slice_get, slice_index, Some, ap, sym, refl, ◌∙◌, subst, arith}
use Rattle.std.specs.List.{filter}
use Rattle.std.proofs.lemmas.Bool.Decides.{nat_tests}
use Rattle.std.proofs.lemmas.Option.{slice_get_within}
use Rattle.span_key.specs.Scopes.{scope_of}
use Rattle.span_key.specs.declared.scopes.Scope.{Scope}
use Rattle.span_key.specs.declared.scopes.Scope.TheVariants.{Global, Local}
use Rattle.latch_model.specs.Histories.{HeldLatch, Snapshot, in_order, list_of}
use Rattle.latch_model.specs.Latches.{reads, writes}
use Rattle.latch_model.specs.declared.latch.Access.{Access}
use Rattle.latch_model.specs.declared.latch.Access.TheVariants.{Read, Write}
use Rattle.latch_model.specs.declared.latch.Latch.{Latch}
use Rattle.latch_item.specs.Items.{Item}
use Rattle.held_latches.specs.Content.{AllApart, Content, EachOf, IsIn, held_of, is_other, items_in, read_items}
use Rattle.held_latches.specs.Holding.{HasSpare, Holds, HoldsOwn, later_or_other, own_latch, without_below}
use Rattle.latch_shots.specs.Held.{others}
use Rattle.held_latches.specs.Lists.{without_by}
use Rattle.held_latches.specs.Scopes.{Around, ScopeHas, aside_of, many_of}
use Rattle.held_latches.specs.Steps.{SamePool, free_rows}
use Rattle.held_latches.specs.Taking.{IsOwn, OnlyOwn, StandsIn, Taken, without_if, without_place}
use Rattle.held_latches.specs.declared.held.HeldLatches.{HeldLatches}
use Rattle.held_latches.specs.declared.pool.Pool.{Pool}
use Rattle.held_latches.specs.declared.scopes.ScopeTrees.{ScopeTrees}
use Rattle.held_latches.proofs.Contents.{each-map}
use Rattle.held_latches.proofs.Taken.{Found, found-read, found-write, sound-taken}
use Rattle.held_latches.proofs.Scoped.{ListsAre, around, changed, content_of, lists-are, other, scope-has, scope-sound, sum-both, trees_of, with_scope}

-- ---- where the latch of one place stands
pub found : (scope : Scope) (access : Access) (h : HeldLatches) (s : Snapshot) (n : ℕ) (o : Holds h s n) (y : HeldLatch) → IsIn y (list_of s scope access)
    → Found (trees_of scope h) h.rows.items (content_of scope o) access y
found scope Read h s n o y m =
    found-read (trees_of scope h) h.rows.items (content_of scope o) y (scope-has scope h o.global o.local o.kept).fits_reads
    (scope-sound scope h o.global o.local o.kept) (subst (IsIn y) (lists-are scope h s n o).reads m)
found scope Write h s n o y m =
    found-write (trees_of scope h) h.rows.items (content_of scope o) y (scope-has scope h o.global o.local o.kept).fits_writes
    (scope-sound scope h o.global o.local o.kept) (subst (IsIn y) (lists-are scope h s n o).writes m)

-- its rows can be taken out
pub may-take : (scope : Scope) (access : Access) (h : HeldLatches) (s : Snapshot) (n row : ℕ) (o : Holds h s n) (y : HeldLatch)
    → IsIn y (list_of s scope access) → row ≡ slice_index h.rows.items (y.lane * 16 + y.place)
    → (c : Content) × (a : Around) × (x : Item) × ScopeHas h.pool (trees_of scope h) c a × StandsIn (trees_of scope h) c access row x × (x.id ≡ y.by)
may-take scope access h s n row o y m there = let f = found scope access h s n o y m in (
  content_of scope o,
  around scope (trees_of (other scope) h) (content_of (other scope) o),
  f.item,
  scope-has scope h o.global o.local o.kept,
  subst (λ r. StandsIn (trees_of scope h) (content_of scope o) access r f.item) (sym there) f.stands,
  f.request,
)

pub some-aside : (scope : Scope) (access : Access) (h : HeldLatches) (s : Snapshot) (n : ℕ) (o : Holds h s n) (y : HeldLatch)
    → IsIn y (list_of s scope access) → 5 ≤ free_rows h.pool
some-aside scope access h s n o y m =
    let a = (found scope access h s n o y m).some_aside in let b = o.kept.set_aside in let c = sum-both aside_of scope o.global o.local in omega arith

-- ---- it went
lists-without : (scope : Scope) (access : Access) (id place : ℕ) (s : Snapshot) (c d : Content) → ListsAre s scope c
    → in_order (held_of Read (read_items d)) ≡ without_if (reads access) id place (in_order (held_of Read (read_items c)))
    → in_order (held_of Write (items_in d.writes)) ≡ without_if (writes access) id place (in_order (held_of Write (items_in c.writes)))
    → ListsAre (without_place id place scope access s) scope d
lists-without Global Read id place s c d o r w = record { reads = ap (filter (is_other id place)) o.reads ∙ sym r; writes = o.writes ∙ sym w }
lists-without Global Write id place s c d o r w = record { reads = o.reads ∙ sym r; writes = ap (filter (is_other id place)) o.writes ∙ sym w }
lists-without Local Read id place s c d o r w = record { reads = ap (filter (is_other id place)) o.reads ∙ sym r; writes = o.writes ∙ sym w }
lists-without Local Write id place s c d o r w = record { reads = o.reads ∙ sym r; writes = ap (filter (is_other id place)) o.writes ∙ sym w }

lists-else : (scope : Scope) (access : Access) (id place : ℕ) (s : Snapshot) (c : Content) → ListsAre s (other scope) c
    → ListsAre (without_place id place scope access s) (other scope) c
lists-else Global Read id place s c o = record { reads = o.reads; writes = o.writes }
lists-else Global Write id place s c o = record { reads = o.reads; writes = o.writes }
lists-else Local Read id place s c o = record { reads = o.reads; writes = o.writes }
lists-else Local Write id place s c o = record { reads = o.reads; writes = o.writes }

-- what the trees' own step says of every content and item
abbrev TakesOut : Pool → Pool → ScopeTrees → ScopeTrees → ℕ → ℕ → Access → Type 0
TakesOut old new s t row id access = (c : Content) (a : Around) (x : Item) → ScopeHas old s c a → StandsIn s c access row x → x.id ≡ id
    → AllApart (items_in c.writes) → AllApart (read_items c) → (d : Content) × Taken old new s t c d a x access

pub removed : (scope : Scope) (access : Access) (h : HeldLatches) (p : Pool) (t : ScopeTrees) (s : Snapshot) (n m row : ℕ) (o : Holds h s n) (y : HeldLatch)
    → IsIn y (list_of s scope access) → row ≡ slice_index h.rows.items (y.lane * 16 + y.place) → TakesOut h.pool p (trees_of scope h) t row y.by access
    → t.writer ≡ (trees_of scope h).writer → SamePool h.pool p → aside_of o.global + aside_of o.local + m ≤ free_rows h.pool
    → HasSpare (with_scope scope h h p t) (without_place y.by y.place scope access s) n m
unfolding may-take
removed scope access h p t s n m row o y there at step writer same spare =
    let f = found scope access h s n o y there in let c = content_of scope o in let e = content_of (other scope) o in
    let x = f.item in let sound = scope-sound scope h o.global o.local o.kept in
    let (_, a, _, has, stands, request) = may-take scope access h s n row o y there at in
    let (d, k) = step c a x has stands request sound.writes_apart sound.reads_apart in
    let gone = (changed scope h h p t s (without_place x.id x.place scope access s) n m o d (record {
      has = k.has;
      stay = k.stay;
      same = same;
      sound = sound-taken h.pool p (trees_of scope h) t h.rows.items c d a x access sound k writer;
      sound_other = scope-sound (other scope) h o.global o.local o.kept;
      spare = (let b = sum-both aside_of scope o.global o.local in let z = k.spent in omega arith);
      few = (let b = sum-both many_of scope o.global o.local in let q = o.kept.few in let z = k.many in omega arith);
      lists = lists-without scope access x.id x.place s c d (lists-are scope h s n o) k.order_reads k.order_writes;
      lists_other = lists-else scope access x.id x.place s e (lists-are (other scope) h s n o);
    })).0 in
    subst (λ i. HasSpare (with_scope scope h h p t) (without_place i y.place scope access s) n m) f.request
    (subst (λ j. HasSpare (with_scope scope h h p t) (without_place x.id j scope access s) n m) f.at gone)

-- ---- lists
same-filter : (p q : HeldLatch → Bool) (xs : List HeldLatch) → EachOf (λ y. p y ≡ q y) xs → filter p xs ≡ filter q xs
same-filter p q [] h = refl
same-filter p q (y ∷ ys) h = ap (λ b. cond b (y ∷ filter p ys) (filter p ys)) h.0 ∙ ap (λ l. cond (q y) (y ∷ l) l) (same-filter p q ys h.1)

twice-filter : (p q r : HeldLatch → Bool) (xs : List HeldLatch) → EachOf (λ y. (q y && p y) ≡ r y) xs → filter p (filter q xs) ≡ filter r xs
twice-filter p q r [] h = refl
twice-filter p q r (y ∷ ys) h = by (q y) (p y) (r y) refl h.0 (twice-filter p q r ys h.1)
  where
    by : (a b e : Bool) → p y ≡ b → (a && b) ≡ e → filter p (filter q ys) ≡ filter r ys
        → filter p (cond a (y ∷ filter q ys) (filter q ys)) ≡ cond e (y ∷ filter r ys) (filter r ys)
    by true true true f g rest = ap (λ t. cond t (y ∷ filter p (filter q ys)) (filter p (filter q ys))) f ∙ ap (λ l. y ∷ l) rest
    by true true false f g rest = cc
    by true false true f g rest = cc
    by true false false f g rest = ap (λ t. cond t (y ∷ filter p (filter q ys)) (filter p (filter q ys))) f ∙ rest
    by false b true f g rest = cc
    by false b false f g rest = rest

all-filter : (p : HeldLatch → Bool) (xs : List HeldLatch) → EachOf (λ y. p y ≡ true) xs → filter p xs ≡ xs
all-filter p [] h = refl
all-filter p (y ∷ ys) h = ap (λ b. cond b (y ∷ filter p ys) (filter p ys)) h.0 ∙ ap (λ l. y ∷ l) (all-filter p ys h.1)

each-all : (P : HeldLatch → Type 0) → ((y : HeldLatch) → P y) → (xs : List HeldLatch) → EachOf P xs
each-all P f [] = tt
each-all P f (x ∷ xs) = (f x, each-all P f xs)

in-filter : (p : HeldLatch → Bool) (x : HeldLatch) (xs : List HeldLatch) → p x ≡ true → IsIn x xs → IsIn x (filter p xs)
in-filter p x [] e m = absurd m
in-filter p x (y ∷ ys) e m = by (p y) refl (λ k. in-filter p x ys e k)
  where
    by : (b : Bool) → p y ≡ b → (IsIn x ys → IsIn x (filter p ys)) → IsIn x (cond b (y ∷ filter p ys) (filter p ys))
    by true f later = ⊎_elim inl (λ k. inr (later k)) m
    by false f later = ⊎_elim (λ (z : y ≡ x). absurd (true≢false (sym e ∙ (ap p (sym z) ∙ f)))) later m

-- ---- the tests of a place
not-below : (id : ℕ) (y : HeldLatch) → later_or_other id 0 y ≡ true
not-below id y = by (y.by == id) (nat_lt y.place 0) refl
  where
    by : (a b : Bool) → nat_lt y.place 0 ≡ b → not (a && b) ≡ true
    by true true e = absurd (grind (arith, nat_tests))
    by true false e = refl
    by false b e = refl

one-below : (id j : ℕ) (y : HeldLatch) → (later_or_other id j y && is_other id j y) ≡ later_or_other id (suc j) y
one-below id j y = by (y.by == id) (nat_lt y.place j) (y.place == j) (nat_lt y.place (suc j)) refl refl refl
  where
    by : (a b e f : Bool) → nat_lt y.place j ≡ b → (y.place == j) ≡ e → nat_lt y.place (suc j) ≡ f → (not (a && b) && not (a && e)) ≡ not (a && f)
    by false b e f p q r = refl
    by true true e true p q r = refl
    by true true e false p q r = absurd (grind (arith, nat_tests))
    by true false true true p q r = refl
    by true false true false p q r = absurd (grind (arith, nat_tests))
    by true false false true p q r = absurd (grind (arith, nat_tests))
    by true false false false p q r = refl

none-below : (id j : ℕ) (y : HeldLatch) → (y.by ≡ id → y.place ≡ j → ⊥) → later_or_other id j y ≡ later_or_other id (suc j) y
none-below id j y apart = by (y.by == id) (nat_lt y.place j) (nat_lt y.place (suc j)) refl refl refl
  where
    by : (a b e : Bool) → (y.by == id) ≡ a → nat_lt y.place j ≡ b → nat_lt y.place (suc j) ≡ e → not (a && b) ≡ not (a && e)
    by false b e p q r = refl
    by true true true p q r = refl
    by true true false p q r = absurd (grind (arith, nat_tests))
    by true false true p q r = absurd (apart (grind (arith, nat_tests)) (grind (arith, nat_tests)))
    by true false false p q r = refl

all-below : (id n : ℕ) (y : HeldLatch) → (y.by ≡ id → y.place < n) → later_or_other id n y ≡ not (y.by == id)
all-below id n y low = by (y.by == id) (nat_lt y.place n) refl refl
  where
    by : (a b : Bool) → (y.by == id) ≡ a → nat_lt y.place n ≡ b → not (a && b) ≡ not a
    by false b p q = refl
    by true true p q = refl
    by true false p q = let k = low (grind (arith, nat_tests)) in absurd (grind (arith, nat_tests))

self-later : (id j : ℕ) (y : HeldLatch) → y.place ≡ j → later_or_other id j y ≡ true
self-later id j y e = by (y.by == id) (nat_lt y.place j) refl
  where
    by : (a b : Bool) → nat_lt y.place j ≡ b → not (a && b) ≡ true
    by true true p = absurd (grind (arith, nat_tests))
    by true false p = refl
    by false b p = refl

-- ---- the lists of all
abbrev lists_with : (global_reads global_writes local_reads local_writes : List HeldLatch) → Snapshot
lists_with a b c d = record { global_reads = a; global_writes = b; local_reads = c; local_writes = d }

same-lists : (a b c d e f g h : List HeldLatch) → a ≡ e → b ≡ f → c ≡ g → d ≡ h → lists_with a b c d ≡ lists_with e f g h
same-lists a b c d e f g h p q r s =
    ap (λ x. lists_with x b c d) p ∙ (ap (λ x. lists_with e x c d) q ∙ (ap (λ x. lists_with e f x d) r ∙ ap (λ x. lists_with e f g x) s))

-- before the first place
without-first : (id : ℕ) (s : Snapshot) → s ≡ without_below id 0 s
without-first id s = sym (same-lists _ _ _ _ s.global_reads s.global_writes s.local_reads s.local_writes (one s.global_reads) (one s.global_writes)
    (one s.local_reads) (one s.local_writes))
  where
    one : (xs : List HeldLatch) → filter (later_or_other id 0) xs ≡ xs
    one xs = all-filter (later_or_other id 0) xs (each-all (λ y. later_or_other id 0 y ≡ true) (not-below id) xs)

-- a list where the place is
place-here : (id j : ℕ) (xs : List HeldLatch) → filter (is_other id j) (filter (later_or_other id j) xs) ≡ filter (later_or_other id (suc j)) xs
place-here id j xs = twice-filter (is_other id j) (later_or_other id j) (later_or_other id (suc j)) xs
    (each-all (λ y. (later_or_other id j y && is_other id j y) ≡ later_or_other id (suc j) y) (one-below id j) xs)

-- a list where it is not
place-away : (ls : List Latch) (l : Latch) (scope : Scope) (access : Access) (id j : ℕ) (xs : List HeldLatch) → slice_get ls j ≡ Some l
    → (scope_of l.span ≡ scope → l.access ≡ access → ⊥) → EachOf (λ y. y.by ≡ id → IsOwn ls scope access y) xs
    → filter (later_or_other id j) xs ≡ filter (later_or_other id (suc j)) xs
place-away ls l scope access id j xs here apart own = same-filter (later_or_other id j) (later_or_other id (suc j)) xs
    (each-map (λ y. y.by ≡ id → IsOwn ls scope access y) (λ y. later_or_other id j y ≡ later_or_other id (suc j) y)
    (λ y f. none-below id j y (none y f)) xs own)
  where
    none : (y : HeldLatch) → (y.by ≡ id → IsOwn ls scope access y) → y.by ≡ id → y.place ≡ j → ⊥
    none y f e p =
        let o = f e in let same : o.latch ≡ l = (let a = sym o.here ∙ (ap (slice_get ls) p ∙ here) in cc) in
        apart (ap (λ (k : Latch). scope_of k.span) (sym same) ∙ o.scope_is) (ap (λ (k : Latch). k.access) (sym same) ∙ o.access_is)

without-at : (ls : List Latch) (l : Latch) (id j : ℕ) (s : Snapshot) → slice_get ls j ≡ Some l → OnlyOwn s id ls → (scope : Scope) (access : Access)
    → scope_of l.span ≡ scope → l.access ≡ access → without_place id j scope access (without_below id j s) ≡ without_below id (suc j) s
without-at ls l id j s here own Global Read e f =
    same-lists _ _ _ _ _ _ _ _ (place-here id j s.global_reads) (place-away ls l Global Write id j s.global_writes here (λ a b. cc) (own Global Write))
    (place-away ls l Local Read id j s.local_reads here (λ a b. cc) (own Local Read))
    (place-away ls l Local Write id j s.local_writes here (λ a b. cc) (own Local Write))
without-at ls l id j s here own Global Write e f =
    same-lists _ _ _ _ _ _ _ _ (place-away ls l Global Read id j s.global_reads here (λ a b. cc) (own Global Read)) (place-here id j s.global_writes)
    (place-away ls l Local Read id j s.local_reads here (λ a b. cc) (own Local Read))
    (place-away ls l Local Write id j s.local_writes here (λ a b. cc) (own Local Write))
without-at ls l id j s here own Local Read e f =
    same-lists _ _ _ _ _ _ _ _ (place-away ls l Global Read id j s.global_reads here (λ a b. cc) (own Global Read))
    (place-away ls l Global Write id j s.global_writes here (λ a b. cc) (own Global Write)) (place-here id j s.local_reads)
    (place-away ls l Local Write id j s.local_writes here (λ a b. cc) (own Local Write))
without-at ls l id j s here own Local Write e f =
    same-lists _ _ _ _ _ _ _ _ (place-away ls l Global Read id j s.global_reads here (λ a b. cc) (own Global Read))
    (place-away ls l Global Write id j s.global_writes here (λ a b. cc) (own Global Write))
    (place-away ls l Local Read id j s.local_reads here (λ a b. cc) (own Local Read)) (place-here id j s.local_writes)

-- after the last
without-last : (ls : List Latch) (id : ℕ) (s : Snapshot) → OnlyOwn s id ls → without_below id (length ls) s ≡ without_by id s
without-last ls id s own =
    same-lists _ _ _ _ _ _ _ _ (one Global Read s.global_reads (own Global Read)) (one Global Write s.global_writes (own Global Write))
    (one Local Read s.local_reads (own Local Read)) (one Local Write s.local_writes (own Local Write))
  where
    one : (scope : Scope) (access : Access) (xs : List HeldLatch) → EachOf (λ y. y.by ≡ id → IsOwn ls scope access y) xs
        → filter (later_or_other id (length ls)) xs ≡ others id xs
    one scope access xs h = same-filter (later_or_other id (length ls)) (λ y. not (y.by == id)) xs
        (each-map (λ y. y.by ≡ id → IsOwn ls scope access y) (λ y. later_or_other id (length ls) y ≡ not (y.by == id))
        (λ y f. all-below id (length ls) y (λ e. slice_get_within ls y.place (f e).latch (f e).here)) xs h)

-- ---- the loop over the places
still-there : (id j : ℕ) (y : HeldLatch) (s : Snapshot) (scope : Scope) (access : Access) → y.place ≡ j → IsIn y (list_of s scope access)
    → IsIn y (list_of (without_below id j s) scope access)
still-there id j y s Global Read e m = in-filter (later_or_other id j) y s.global_reads (self-later id j y e) m
still-there id j y s Global Write e m = in-filter (later_or_other id j) y s.global_writes (self-later id j y e) m
still-there id j y s Local Read e m = in-filter (later_or_other id j) y s.local_reads (self-later id j y e) m
still-there id j y s Local Write e m = in-filter (later_or_other id j) y s.local_writes (self-later id j y e) m

pub is-there : (ls : List Latch) (l : Latch) (id lane j : ℕ) (s : Snapshot) → slice_get ls j ≡ Some l → HoldsOwn s id lane ls 0
    → IsIn (own_latch id lane j l) (list_of (without_below id j s) (scope_of l.span) l.access)
is-there ls l id lane j s here own = still-there id j (own_latch id lane j l) s (scope_of l.span) l.access refl (own j l (omega arith) here)

pub begins : (h : HeldLatches) (id : ℕ) (s : Snapshot) (n m : ℕ) → HasSpare h s n m → HasSpare h (without_below id 0 s) n m
begins h id s n m o = subst (λ t. HasSpare h t n m) (without-first id s) o

pub goes-on : (h : HeldLatches) (ls : List Latch) (l : Latch) (id j : ℕ) (s : Snapshot) (n m : ℕ) → slice_get ls j ≡ Some l → OnlyOwn s id ls
    → HasSpare h (without_place id j (scope_of l.span) l.access (without_below id j s)) n m → HasSpare h (without_below id (j + 1) s) n m
goes-on h ls l id j s n m here own o = subst (λ i. HasSpare h (without_below id i s) n m) next
    (subst (λ t. HasSpare h t n m) (without-at ls l id j s here own (scope_of l.span) l.access refl refl) o)
  where
    next : suc j ≡ j + 1
    next = omega arith

pub ends : (h : HeldLatches) (ls : List Latch) (id j : ℕ) (s : Snapshot) (n m : ℕ) → j ≡ length ls → OnlyOwn s id ls
    → HasSpare h (without_below id j s) n m → HasSpare h (without_by id s) n m
ends h ls id j s n m all own o = subst (λ t. HasSpare h t n m) (ap (λ i. without_below id i s) all ∙ without-last ls id s own) o
