-- What the four lists of some held latches have.
use Rattle.std.proofs.Common.{◌≡◌, ◌+◌, Bool, true, false, cond, not, ◌&&◌, List, [], ◌∷◌, length, map, refl, ◌∙◌, ap, subst, inl, inr, arith}
use Rattle.std.proofs.lemmas.Bool.{and_from, and_parts, not-true}
use Rattle.std.proofs.lemmas.List.{length-map}
use Rattle.std.specs.List.{All, filter}
use Rattle.span_key.specs.Scopes.{scope_if, scope_of}
use Rattle.span_key.specs.Spans.{is_local}
use Rattle.span_key.specs.declared.scopes.Scope.{Scope}
use Rattle.span_key.specs.declared.scopes.Scope.TheVariants.{Global, Local}
use Rattle.latch_model.specs.Histories.{HeldLatch, Snapshot, comes_first, in_order, latches_held, list_of, listed, with_latch}
use Rattle.latch_model.specs.Latches.{has_access, in_scope, local, reads, writes}
use Rattle.latch_model.specs.declared.history.Entry.{Entry}
use Rattle.latch_model.specs.declared.latch.Access.{Access}
use Rattle.latch_model.specs.declared.latch.Access.TheVariants.{Read, Write}
use Rattle.latch_model.specs.declared.latch.Latch.{Latch}
use Rattle.latch_model.proofs.Lists.{In, In-filter, In-map}
use Rattle.latch_model.proofs.Members.{filter_of-In, map_of-In}
use Rattle.latch_model.proofs.Waiting.{All-from_In}
use Rattle.held_latches.specs.Content.{EachOf, IsIn}
use Rattle.held_latches.specs.Holding.{EachHeld, InScopes}
use Rattle.held_latches.specs.Lists.{total}
use Rattle.held_latches.proofs.Counting.{length-order}
use Rattle.held_latches.proofs.Keeping.{each-ordered}
use Rattle.history_latches.specs.Lists.{listed_in, lists_of}

-- ---- the same by both words for lists
pub each_of : {X : Type 0} (P : X → Type 0) (xs : List X) → ((x : X) → In x xs → P x) → EachOf P xs
each_of P [] f = tt
each_of P (x ∷ xs) f = (f x (inl refl), each_of P xs (λ y there. f y (inr there)))

pub each_at : {X : Type 0} (P : X → Type 0) (xs : List X) (x : X) → EachOf P xs → In x xs → P x
each_at P [] x h there = absurd there
each_at P (y ∷ ys) x h (inl e) = subst P e h.0
each_at P (y ∷ ys) x h (inr there) = each_at P ys x h.1 there

pub is_in : {X : Type 0} (xs : List X) (x : X) → In x xs → IsIn x xs
is_in [] x there = absurd there
is_in (y ∷ ys) x (inl e) = inl e
is_in (y ∷ ys) x (inr there) = inr (is_in ys x there)

-- ---- the order keeps what a list has
each_with : (P : HeldLatch → Type 0) (x : HeldLatch) (ys : List HeldLatch) → P x → EachOf P ys → EachOf P (with_latch x ys)
each_with P x [] p h = (p, tt)
each_with P x (y ∷ ys) p h = by (comes_first y x) (each_with P x ys p h.1)
  where
    by : (t : Bool) → EachOf P (with_latch x ys) → EachOf P (cond t (y ∷ with_latch x ys) (x ∷ y ∷ ys))
    by true rest = (h.0, rest)
    by false rest = (p, h)

each_order : (P : HeldLatch → Type 0) (xs : List HeldLatch) → EachOf P xs → EachOf P (in_order xs)
each_order P [] h = tt
each_order P (x ∷ xs) h = each_with P x (in_order xs) h.0 (each_order P xs h.1)

In-order : (x : HeldLatch) (xs : List HeldLatch) → In x xs → IsIn x (in_order xs)
In-order x xs there =
    let all = each_of (λ y. IsIn y (in_order xs)) (in_order xs) (λ y here. is_in (in_order xs) y here) in
    each_at (λ y. IsIn y (in_order xs)) xs x (each-ordered (λ y. IsIn y (in_order xs)) xs all) there

-- ---- the lists
-- what is held in a history, as snapshots list it
abbrev pub lists_in : List Entry → Snapshot
lists_in log = lists_of (latches_held log)

abbrev pub is_of : Scope → Access → HeldLatch → Bool
is_of scope access x = in_scope scope x.latch && has_access access x.latch

pub each_listed : (P : HeldLatch → Type 0) (xs : List HeldLatch) (scope : Scope) (access : Access) →
    ((x : HeldLatch) → In x xs → in_scope scope x.latch ≡ true → has_access access x.latch ≡ true → P (listed x)) → EachOf P (listed_in xs scope access)
each_listed P xs scope access f =
    each_order P (map listed (filter (is_of scope access) xs)) (each_of P (map listed (filter (is_of scope access) xs)) (λ y there.
    let w = map_of-In listed (filter (is_of scope access) xs) y there in
    let p = filter_of-In (is_of scope access) xs w.0 w.1 in
    let q = and_parts (in_scope scope w.0.latch) (has_access access w.0.latch) p.1 in
    subst P w.2 (f w.0 p.0 q.0 q.1)))

pub is_listed : (xs : List HeldLatch) (scope : Scope) (access : Access) (x : HeldLatch) → In x xs → in_scope scope x.latch ≡ true →
    has_access access x.latch ≡ true → IsIn (listed x) (listed_in xs scope access)
is_listed xs scope access x there scoped accessed =
    In-order (listed x) (map listed (filter (is_of scope access) xs)) (In-map listed (filter (is_of scope access) xs) x
    (In-filter (is_of scope access) xs x there (and_from (in_scope scope x.latch) (has_access access x.latch) scoped accessed)))

-- a latch is in the scope of its span
pub scope_of_own : (l : Latch) → in_scope (scope_of l.span) l ≡ true
scope_of_own l = by (is_local l.span) refl
  where
    by : (t : Bool) → is_local l.span ≡ t → in_scope (scope_if t) l ≡ true
    by true e = e
    by false e = ap not e

pub scope_is : (scope : Scope) (l : Latch) → in_scope scope l ≡ true → scope_of l.span ≡ scope
scope_is Global l e = ap scope_if (not-true (is_local l.span) e)
scope_is Local l e = ap scope_if e

pub access_own : (l : Latch) → has_access l.access l ≡ true
access_own l = by l.access refl
  where
    by : (a : Access) → l.access ≡ a → has_access a l ≡ true
    by Read e = ap reads e
    by Write e = ap writes e

pub access_is : (access : Access) (l : Latch) → has_access access l ≡ true → l.access ≡ access
access_is Read l e = by l.access e
  where
    by : (a : Access) → reads a ≡ true → a ≡ Read
    by Read f = refl
    by Write f = cc
access_is Write l e = by l.access e
  where
    by : (a : Access) → writes a ≡ true → a ≡ Write
    by Read f = cc
    by Write f = refl

-- of each scope and access its list
pub list_is : (xs : List HeldLatch) (scope : Scope) (access : Access) → list_of (lists_of xs) scope access ≡ listed_in xs scope access
list_is xs Global Read = refl
list_is xs Global Write = refl
list_is xs Local Read = refl
list_is xs Local Write = refl

-- what holds of each held latch as it is listed
pub each_held : (P : HeldLatch → Type 0) (xs : List HeldLatch) → ((x : HeldLatch) → In x xs → P (listed x)) → EachHeld P (lists_of xs)
each_held P xs f = (one Global Read, one Global Write, one Local Read, one Local Write)
  where
    one : (scope : Scope) (access : Access) → EachOf P (listed_in xs scope access)
    one scope access = each_listed P xs scope access (λ x there scoped accessed. f x there)

pub in_scopes : (xs : List HeldLatch) → InScopes (lists_of xs)
in_scopes xs = record { global = (one Global Read, one Global Write); local = (one Local Read, one Local Write) }
  where
    one : (scope : Scope) (access : Access) → All (λ (x : HeldLatch). in_scope scope x.latch ≡ true) (listed_in xs scope access)
    one scope access = All-from_In (λ (x : HeldLatch). in_scope scope x.latch ≡ true) (listed_in xs scope access) (λ x there.
        each_at (λ (y : HeldLatch). in_scope scope y.latch ≡ true) (listed_in xs scope access) x
        (each_listed (λ (y : HeldLatch). in_scope scope y.latch ≡ true) xs scope access (λ y here scoped accessed. stays scope y scoped)) there)
      where
        stays : (s : Scope) (y : HeldLatch) → in_scope s y.latch ≡ true → in_scope s (listed y).latch ≡ true
        stays Global y e = e
        stays Local y e = e

-- ---- each held latch is in one of the lists
pub length_listed : (xs : List HeldLatch) (scope : Scope) (access : Access) → length (listed_in xs scope access) ≡ length (filter (is_of scope access) xs)
length_listed xs scope access = length-order (map listed (filter (is_of scope access) xs)) ∙ length-map (filter (is_of scope access) xs) listed

parts : (xs : List HeldLatch) →
    length (filter (is_of Global Read) xs) + length (filter (is_of Global Write) xs) + length (filter (is_of Local Read) xs)
    + length (filter (is_of Local Write) xs) ≡ length xs
parts [] = refl
parts (x ∷ xs) =
    by (local x.latch) x.latch.access (filter (is_of Global Read) xs) (filter (is_of Global Write) xs) (filter (is_of Local Read) xs)
    (filter (is_of Local Write) xs) (parts xs)
  where
    by : (l : Bool) (a : Access) (gr gw lr lw : List HeldLatch) → length gr + length gw + length lr + length lw ≡ length xs →
        length (cond (not l && reads a) (x ∷ gr) gr) + length (cond (not l && writes a) (x ∷ gw) gw)
        + length (cond (l && reads a) (x ∷ lr) lr) + length (cond (l && writes a) (x ∷ lw) lw) ≡ length (x ∷ xs)
    by true Read gr gw lr lw e = omega arith
    by true Write gr gw lr lw e = omega arith
    by false Read gr gw lr lw e = omega arith
    by false Write gr gw lr lw e = omega arith

pub total_is : (xs : List HeldLatch) → total (lists_of xs) ≡ length xs
total_is xs =
    let gr = length_listed xs Global Read in
    let gw = length_listed xs Global Write in
    let lr = length_listed xs Local Read in
    let lw = length_listed xs Local Write in
    let all = parts xs in
    omega arith
