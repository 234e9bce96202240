-- Two reads never conflict: so a request that only reads has its prerequisites among those that declare a write.
use Rattle.std.proofs.Common.{◌≡◌, ◌==◌, Bool, true, false, cond, not, ◌&&◌, List, [], ◌∷◌, ◌++◌, map, refl, sym, ◌∙◌, ap}
use Rattle.std.proofs.lemmas.Bool.{or_from, or_parts}
use Rattle.std.specs.List.{filter, list_any}
use Rattle.hlc_stamp.specs.declared.Stamp.{Stamp}
use Rattle.span_key.specs.Spans.{overlap}
use Rattle.latch_model.specs.Carrying.{begins_reader, carried, declares_write, numbers_against, some_write}
use Rattle.latch_model.specs.Histories.{Begin, holds_latches}
use Rattle.latch_model.specs.Latches.{conflict, interfere, local, normal, same, some_conflict, writes}
use Rattle.latch_model.specs.declared.history.Entry.{Entry}
use Rattle.latch_model.specs.declared.history.Entry.TheVariants.{Begun, Ended}
use Rattle.latch_model.specs.declared.latch.Access.{Access}
use Rattle.latch_model.specs.declared.latch.Access.TheVariants.{Read, Write}
use Rattle.latch_model.specs.declared.latch.Latch.{Latch}
use Rattle.latch_model.proofs.Elements.{filter-filter}

and_none : (t : Bool) → (t && false) ≡ false
and_none true = refl
and_none false = refl

some_from : (t : Bool) → not t ≡ false → t ≡ true
some_from true h = refl
some_from false h = cc

none_from : (t : Bool) → not t ≡ true → t ≡ false
none_from true h = cc
none_from false h = refl

-- two reads
reads_apart : (t : Bool) (x : Access) (s : Stamp) (y : Access) (u : Stamp) (o : Bool) → writes x ≡ false → writes y ≡ false →
    (t && (interfere x s y u && o)) ≡ false
reads_apart t Read s Read u o f g = and_none t
reads_apart t Read s Write u o f g = cc
reads_apart t Write s y u o f g = cc

read_apart : (l : Latch) (ms : List Latch) → writes l.access ≡ false → some_write ms ≡ false → list_any (conflict l) ms ≡ false
read_apart l [] f g = refl
read_apart l (m ∷ ms) f g =
    let w = or_parts (writes m.access) (some_write ms) g in
    or_from (conflict l m) (list_any (conflict l) ms)
    (reads_apart (same (local l) (local m)) l.access (normal l) m.access (normal m) (overlap l.span m.span) f w.0)
    (read_apart l ms f w.1)

readers_apart : (ls ms : List Latch) → some_write ls ≡ false → some_write ms ≡ false → some_conflict ls ms ≡ false
readers_apart [] ms f g = refl
readers_apart (l ∷ ls) ms f g =
    let w = or_parts (writes l.access) (some_write ls) f in
    or_from (list_any (conflict l) ms) (some_conflict ls ms) (read_apart l ms w.0 g) (readers_apart ls ms w.1 g)

-- a filter of what another one left, which left out nothing that counts
filter_left : {X : Type 0} (p q : X → Bool) → ((x : X) → q x ≡ false → p x ≡ false) → (xs : List X) → filter p (filter q xs) ≡ filter p xs
filter_left p q h [] = refl
filter_left {X} p q h (x ∷ xs) = by (q x) refl (filter_left p q h xs)
  where
    by : (t : Bool) → q x ≡ t → filter p (filter q xs) ≡ filter p xs →
        filter p (cond t (x ∷ filter q xs) (filter q xs)) ≡ cond (p x) (x ∷ filter p xs) (filter p xs)
    by true e rest = ap (λ ys. cond (p x) (x ∷ ys) ys) rest
    by false e rest = rest ∙ ap (λ t. cond t (x ∷ filter p xs) (filter p xs)) (sym (h x e))

filter_both : {X : Type 0} (p q : X → Bool) (xs : List X) → filter (λ x. q x && p x) xs ≡ filter (λ x. p x && q x) xs
filter_both p q [] = refl
filter_both p q (x ∷ xs) =
    ap (λ t. cond t (x ∷ filter (λ y. q y && p y) xs) (filter (λ y. q y && p y) xs)) (turned (q x) (p x))
    ∙ ap (λ ys. cond (p x && q x) (x ∷ ys) ys) (filter_both p q xs)
  where
    turned : (s t : Bool) → (s && t) ≡ (t && s)
    turned true true = refl
    turned true false = refl
    turned false true = refl
    turned false false = refl

filters_turned : {X : Type 0} (p q : X → Bool) (xs : List X) → filter p (filter q xs) ≡ filter q (filter p xs)
filters_turned p q xs = filter-filter p q xs ∙ (filter_both p q xs ∙ sym (filter-filter q p xs))

filter-append : {X : Type 0} (p : X → Bool) (xs ys : List X) → filter p (xs ++ ys) ≡ filter p xs ++ filter p ys
filter-append p [] ys = refl
filter-append {X} p (x ∷ xs) ys = by (p x) (filter-append p xs ys)
  where
    by : (t : Bool) → filter p (xs ++ ys) ≡ filter p xs ++ filter p ys →
        cond t (x ∷ filter p (xs ++ ys)) (filter p (xs ++ ys)) ≡ cond t (x ∷ filter p xs) (filter p xs) ++ filter p ys
    by true e = ap (λ zs. x ∷ zs) e
    by false e = e

append_none : {X : Type 0} (xs : List X) → xs ++ [] ≡ xs
append_none [] = refl
append_none (x ∷ xs) = ap (λ ys. x ∷ ys) (append_none xs)

-- Of latches that only read, the numbers against them are among those of the writers.
pub among_writers : (ls : List Latch) → some_write ls ≡ false → (bs : List Begin) → numbers_against ls (filter declares_write bs) ≡ numbers_against ls bs
among_writers ls none bs =
    ap (map (λ (b : Begin). b.id))
    (filter-filter against holding (filter declares_write bs)
    ∙ (filter_left (λ b. holding b && against b) declares_write reader bs ∙ sym (filter-filter against holding bs)))
  where
    against : Begin → Bool
    against b = some_conflict ls b.request.latches

    holding : Begin → Bool
    holding b = holds_latches b.mode

    reader : (b : Begin) → declares_write b ≡ false → (holding b && against b) ≡ false
    reader b f = ap (λ t. holding b && t) (readers_apart ls b.request.latches none f) ∙ and_none (holding b)

-- The writers among what is carried go on as all do, and stay as they are where a reader begins.
pub writers_carried : (bs : List Begin) (e : Entry) → begins_reader e ≡ false → carried (filter declares_write bs) e ≡ filter declares_write (carried bs e)
writers_carried bs (Begun id lane who mode request) h =
    let b : Begin = record { id = id; lane = lane; who = who; mode = mode; request = request } in
    ap (λ t. filter declares_write bs ++ cond t (b ∷ []) []) (sym (some_from (some_write request.latches) h))
    ∙ sym (filter-append declares_write bs (b ∷ []))
writers_carried bs (Ended id who grant poison fault) h = filters_turned (λ (b : Begin). not (b.id == id)) declares_write bs

pub writers_stay : (bs : List Begin) (e : Entry) → begins_reader e ≡ true → filter declares_write bs ≡ filter declares_write (carried bs e)
writers_stay bs (Begun id lane who mode request) h =
    let b : Begin = record { id = id; lane = lane; who = who; mode = mode; request = request } in
    sym (filter-append declares_write bs (b ∷ []) ∙ (ap (λ t. filter declares_write bs ++ cond t (b ∷ []) []) (none_from (some_write request.latches) h)
    ∙ append_none (filter declares_write bs)))
writers_stay bs (Ended id who grant poison fault) h = cc
