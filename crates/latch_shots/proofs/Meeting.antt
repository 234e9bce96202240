-- What a latch meets of the items of a list.
use Rattle.std.proofs.Common.{◌≡◌, ℕ, ◌==◌, Bool, true, false, not, cond, ◌&&◌, ◌||◌, if◌then◌else◌, List, [], ◌∷◌, ◌++◌, refl, sym, ap, ◌∙◌, subst}
use Rattle.std.specs.List.{All, filter}
use Rattle.std.proofs.lemmas.List.Elements.{All-head, All-tail, All-weaker}
use Rattle.hlc_stamp.specs.Stamps.{empty_stamp, is_empty_stamp}
use Rattle.hlc_stamp.specs.declared.Stamp.{Stamp}
use Rattle.span_key.specs.Scopes.{scope_if, scope_of}
use Rattle.span_key.specs.Spans.{key_lt, overlap, past}
use Rattle.span_key.specs.declared.scopes.Scope.TheVariants.{Global}
use Rattle.latch_model.specs.Histories.{HeldLatch, Snapshot, list_of, met_by}
use Rattle.latch_model.specs.Latches.{conflict, in_scope, interfere, local, normal, same, writes}
use Rattle.latch_model.specs.declared.latch.Access.{Access}
use Rattle.latch_model.specs.declared.latch.Access.TheVariants.{Read, Write}
use Rattle.latch_model.specs.declared.latch.Latch.{Latch}
use Rattle.row_pool.specs.Trees.{Tree}
use Rattle.row_pool.specs.Views.{ViewInvariant}
use Rattle.latch_item.specs.Items.{item_of}
use Rattle.latch_item.specs.Shape.{Refers}
use Rattle.overlap_iter.specs.Overlaps.{found}
use Rattle.latch_shots.specs.Held.{held_as, held_in, others}
use Rattle.latch_shots.specs.Met.{counts, stamps_meet}
use Rattle.latch_shots.specs.Roots.{AreRoots, Root}
use Rattle.latch_shots.specs.Shots.{Content, ShowsSnapshot, shot_of}
use Rattle.latch_shots.specs.Shown.{root_of}
use Rattle.latch_shots.specs.Walks.{MeetsBehind, meeting}
use Rattle.latch_shots.proofs.Roots.{first-root}

-- ---- one held latch
or_true : (b : Bool) → b || true ≡ true
or_true true = refl
or_true false = refl

-- a latch with the empty stamp gets in the way of every stamp, or of none
empty-any : (a b : Access) (t : Stamp) → interfere a empty_stamp b t ≡ interfere a empty_stamp b empty_stamp
empty-any Write Write t = refl
empty-any Read Read t = refl
empty-any Read Write t = refl
empty-any Write Read t = or_true (is_empty_stamp t)

swapped : (o p q : Bool) → q && (o && p) ≡ (p && o) && q
swapped true true true = refl
swapped true true false = refl
swapped true false true = refl
swapped true false false = refl
swapped false true true = refl
swapped false true false = refl
swapped false false true = refl
swapped false false false = refl

in_one : (b : Bool) (a c : Access) (s t : Stamp) (o p : Bool)
    → same b b && (interfere a (if b then empty_stamp else s) c (if b then empty_stamp else t) && (o && p))
    ≡ (p && o) && interfere a (if b then empty_stamp else s) c t
in_one true a c s t o p = swapped o p (interfere a empty_stamp c empty_stamp) ∙ ap (λ q. (p && o) && q) (sym (empty-any a c t))
in_one false a c s t o p = swapped o p (interfere a s c t)

-- in one scope a latch and a held one conflict where their spans overlap and the stamps meet
conflict-is : (l : Latch) (x : HeldLatch) → local x.latch ≡ local l → conflict l x.latch ≡ overlap x.latch.span l.span && stamps_meet l x
conflict-is l x e = subst
    (λ z. same (local l) z && (interfere l.access (normal l) x.latch.access (if z then empty_stamp else x.latch.stamp)
    && (key_lt l.span.0 (past x.latch.span) && key_lt x.latch.span.0 (past l.span)))
    ≡ (key_lt x.latch.span.0 (past l.span) && key_lt l.span.0 (past x.latch.span)) && stamps_meet l x)
    (sym e)
    (in_one (local l) l.access x.latch.access l.stamp x.latch.stamp (key_lt l.span.0 (past x.latch.span)) (key_lt x.latch.span.0 (past l.span)))

-- ---- a list
-- what a test keeps of a list that begins with an item or doesn't
kept-if : (p : HeldLatch → Bool) (a : Access) (x : Tree) (xs : List Tree) (o : Bool)
    → filter p (held_in a (cond o (x ∷ xs) xs)) ≡ cond o (filter p (held_in a (x ∷ xs))) (filter p (held_in a xs))
kept-if p a x xs true = refl
kept-if p a x xs false = refl

-- one held latch in front of those that were looked at, where it is the request's own and where it isn't
conflicting-step : (l : Latch) (y : HeldLatch) (rest more : List HeldLatch) (is_own : Bool)
    → All (λ (x : HeldLatch). local x.latch ≡ local l) (cond (not is_own) (y ∷ rest) rest)
    → (All (λ (x : HeldLatch). local x.latch ≡ local l) rest → filter (λ x. conflict l x.latch) rest ≡ more)
    → filter (λ x. conflict l x.latch) (cond (not is_own) (y ∷ rest) rest)
    ≡ cond (overlap y.latch.span l.span) (cond (not is_own && stamps_meet l y) (y ∷ more) more) more
conflicting-step l y rest more true each behind = behind each ∙ same (overlap y.latch.span l.span)
  where
    same : (o : Bool) → more ≡ cond o more more
    same true = refl
    same false = refl
conflicting-step l y rest more false each behind =
    let P = λ (x : HeldLatch). local x.latch ≡ local l in let later = filter (λ x. conflict l x.latch) rest in
    ap (λ b. cond b (y ∷ later) later) (conflict-is l y (All-head P y rest each))
    ∙ (ap (λ zs. cond (overlap y.latch.span l.span && stamps_meet l y) (y ∷ zs) zs) (behind (All-tail P y rest each))
    ∙ both (overlap y.latch.span l.span) (stamps_meet l y))
  where
    both : (o m : Bool) → cond (o && m) (y ∷ more) more ≡ cond o (cond m (y ∷ more) more) more
    both true m = refl
    both false m = refl

-- those of others in a list that conflict with a latch of their scope are those whose spans overlap and whose stamps meet
pub conflicting-is : (own : ℕ) (l : Latch) (a : Access) (xs : List Tree) → All (λ (x : HeldLatch). local x.latch ≡ local l) (others own (held_in a xs))
    → filter (λ x. conflict l x.latch) (others own (held_in a xs)) ≡ meeting own l a (found l.span xs)
conflicting-is own l a [] each = refl
conflicting-is own l a (x ∷ xs) each =
    let y : HeldLatch = held_as a (item_of x) in
    conflicting-step l y (others own (held_in a xs)) (meeting own l a (found l.span xs)) (y.by == own) each (conflicting-is own l a xs)
    ∙ sym (kept-if (counts own l) a x (found l.span xs) (overlap y.latch.span l.span))

-- ---- the lists of a snapshot
-- the items of the list of this access in the scope of a latch
pub record Listed (c : Content) (s : Snapshot) (l : Latch) (a : Access) : Type 0 where
  pub items : List Tree
  pub refers : Refers c.view (shot_of c (scope_of l.span) a) items
  pub is : list_of s (scope_of l.span) a ≡ others c.own (held_in a items)
  pub one_scope : All (λ (x : HeldLatch). local x.latch ≡ local l) (list_of s (scope_of l.span) a)

-- the same of a scope
record ListedIn (c : Content) (s : Snapshot) (b : Bool) (a : Access) : Type 0 where
  items : List Tree
  refers : Refers c.view (shot_of c (scope_if b) a) items
  is : list_of s (scope_if b) a ≡ others c.own (held_in a items)
  one_scope : All (λ (x : HeldLatch). local x.latch ≡ b) (list_of s (scope_if b) a)

not_true : (b : Bool) → not b ≡ true → b ≡ false
not_true true h = cc
not_true false h = refl

all_global : (xs : List HeldLatch) → All (λ (x : HeldLatch). in_scope Global x.latch ≡ true) xs → All (λ (x : HeldLatch). local x.latch ≡ false) xs
all_global xs all = All-weaker (λ (x : HeldLatch). in_scope Global x.latch ≡ true) (λ (x : HeldLatch). local x.latch ≡ false)
    (λ x h. not_true (local x.latch) h) xs all

-- what the seat refers to
record RefersToEach (c : Content) (gr gw lr lw : List Tree) : Type 0 where
  global_reads : Refers c.view c.global_reads gr
  global_writes : Refers c.view c.global_writes gw
  local_reads : Refers c.view c.local_reads lr
  local_writes : Refers c.view c.local_writes lw

refers-each : (c : Content) (gr gw lr lw : List Tree) → ViewInvariant c.view
    → AreRoots (root_of c.global_reads gr ∷ root_of c.global_writes gw ∷ root_of c.local_reads lr ∷ root_of c.local_writes lw ∷ []) c.view.refs
    → RefersToEach c gr gw lr lw
refers-each c gr gw lr lw sound h =
    let lws : List Root = root_of c.local_writes lw ∷ [] in
    let lrs : List Root = root_of c.local_reads lr ∷ lws in
    let gws : List Root = root_of c.global_writes gw ∷ lrs in
    let one = first-root c.view c.global_reads.root c.global_reads.height gr (AreRoots gws) c.view.refs sound (record { each = λ k t e. (k, e) }) h in
    let two = first-root c.view c.global_writes.root c.global_writes.height gw (AreRoots lrs) one.left sound one.inside one.rest in
    let three = first-root c.view c.local_reads.root c.local_reads.height lr (AreRoots lws) two.left sound two.inside two.rest in
    let four = first-root c.view c.local_writes.root c.local_writes.height lw (AreRoots []) three.left sound three.inside three.rest in
    record { global_reads = one.refers; global_writes = two.refers; local_reads = three.refers; local_writes = four.refers }

listed_in : (c : Content) (s : Snapshot) (b : Bool) (a : Access) → ViewInvariant c.view → ShowsSnapshot c s → ListedIn c s b a
listed_in c s b a sound h = go b a
  where
    o : RefersToEach c h.items_global_reads h.items_global_writes h.items_local_reads h.items_local_writes
    o = refers-each c h.items_global_reads h.items_global_writes h.items_local_reads h.items_local_writes sound h.roots

    go : (b : Bool) (a : Access) → ListedIn c s b a
    go false Read = record {
      items = h.items_global_reads;
      refers = o.global_reads;
      is = h.are_global_reads;
      one_scope = all_global s.global_reads h.global_scope.0;
    }
    go false Write = record {
      items = h.items_global_writes;
      refers = o.global_writes;
      is = h.are_global_writes;
      one_scope = all_global s.global_writes h.global_scope.1;
    }
    go true Read = record { items = h.items_local_reads; refers = o.local_reads; is = h.are_local_reads; one_scope = h.local_scope.0 }
    go true Write = record { items = h.items_local_writes; refers = o.local_writes; is = h.are_local_writes; one_scope = h.local_scope.1 }

pub listed : (c : Content) (s : Snapshot) (l : Latch) (a : Access) → ViewInvariant c.view → ShowsSnapshot c s → Listed c s l a
listed c s l a sound h = let o = listed_in c s (local l) a sound h in record { items = o.items; refers = o.refers; is = o.is; one_scope = o.one_scope }

-- what a latch meets of such a list
pub met-listed : (c : Content) (s : Snapshot) (l : Latch) (a : Access) → (o : Listed c s l a)
    → filter (λ x. conflict l x.latch) (list_of s (scope_of l.span) a) ≡ meeting c.own l a (found l.span o.items)
met-listed c s l a o =
    ap (filter (λ x. conflict l x.latch)) o.is
    ∙ conflicting-is c.own l a o.items (subst (λ xs. All (λ (x : HeldLatch). local x.latch ≡ local l) xs) o.is o.one_scope)

-- what it meets at all: of the writes first, and then, where it writes, of the reads
pub record MetParts (c : Content) (s : Snapshot) (l : Latch) (xs : List Tree) : Type 0 where
  pub later : List HeldLatch
  pub behind : MeetsBehind Write l.access c l later
  pub all : met_by s l ≡ meeting c.own l Write (found l.span xs) ++ later

pub met-parts : (c : Content) (s : Snapshot) (l : Latch) → ViewInvariant c.view → ShowsSnapshot c s → (o : Listed c s l Write) → MetParts c s l o.items
met-parts c s l sound h o = record {
  later = if writes l.access then rs else [];
  behind = go l.access;
  all = ap (λ xs. xs ++ (if writes l.access then rs else [])) (met-listed c s l Write o);
}
  where
    rs : List HeldLatch
    rs = filter (λ x. conflict l x.latch) (list_of s (scope_of l.span) Read)

    go : (a : Access) → MeetsBehind Write a c l (if writes a then rs else [])
    go Read = refl
    go Write = let r = listed c s l Read sound h in (r.items, r.refers, met-listed c s l Read r)
