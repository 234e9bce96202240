-- The latch of one place comes to all.
use Rattle.std.proofs.Common.{◌≡◌, ◌≢◌, ⊎_elim, ℕ, suc, ◌+◌, ◌*◌, ◌<◌, ◌≤◌, ◌&&◌, true, false, Bool, cond}
use Rattle.std.proofs.Common.{List, [], ◌∷◌, length, slice_index, slice_index_or, set, drop}
use Rattle.std.proofs.Common.{ap, sym, refl, ◌∙◌, subst, arith}
use Rattle.std.proofs.Math.Seq.{drop-cons}
use Rattle.std.proofs.lemmas.List.{drop_all, get_or-set_other, get_or-set_same, length-set}
use Rattle.latch_model.specs.Histories.{HeldLatch, Snapshot, comes_first, in_order, list_of, with_latch}
use Rattle.latch_model.specs.Latches.{at_normal, has_access, in_scope, normal, reads, writes}
use Rattle.span_key.specs.Scopes.{scope_if, scope_of}
use Rattle.span_key.specs.Spans.{is_local}
use Rattle.span_key.specs.declared.scopes.Scope.{Scope}
use Rattle.span_key.specs.declared.scopes.Scope.TheVariants.{Global, Local}
use Rattle.latch_model.specs.declared.latch.Access.{Access}
use Rattle.latch_model.specs.declared.latch.Access.TheVariants.{Read, Write}
use Rattle.latch_model.specs.declared.latch.Latch.{Latch}
use Rattle.latch_item.specs.Items.{Item, item_of}
use Rattle.latch_shots.specs.Held.{held_as}
use Rattle.held_latches.specs.Content.{AllApart, Apart, Content, EachOf, held_of, items_in, placed_items, read_items}
use Rattle.held_latches.specs.Holding.{Beside, Filed, HasSpare, Holds, IsSound, MayInsert, own_latch, slot_of, writer_of}
use Rattle.held_latches.specs.Lists.{inserted, own_from, total, with_held, with_if}
use Rattle.held_latches.specs.Scopes.{Added, Around, ScopeHas, aside_of, many_of}
use Rattle.held_latches.specs.Steps.{SamePool}
use Rattle.held_latches.specs.Stock.{Placed}
use Rattle.held_latches.specs.declared.held.HeldLatches.{HeldLatches}
use Rattle.held_latches.specs.declared.pool.Pool.{Pool}
use Rattle.held_latches.specs.declared.scopes.ScopeTrees.{ScopeTrees}
use Rattle.held_latches.proofs.Counting.{total-of}
use Rattle.held_latches.proofs.Contents.{each-append, each-map}
use Rattle.held_latches.proofs.Keeping.{each-among, each-item, each-placed}
use Rattle.held_latches.proofs.Scoped.{ListsAre, around, changed, content_of, each-in, lists-are, other, scope-has, scope-sound, sum-both, trees_of, with_scope}

-- ---- where an item may stand in the table
-- an item's place is another than a slot
abbrev Elsewhere : ℕ → Item → Type 0
Elsewhere k x = slot_of x ≢ k

filed-else : (table : List ℕ) (k row : ℕ) (r : ℕ) (x : Item) → Elsewhere k x → k < length table → Filed table r x → Filed (set table k row) r x
filed-else table k row r x ne low o = record {
  there = o.there ∙ sym (get_or-set_other table k (slot_of x) row 0 ne);
  low = o.low;
  within = subst (λ n. slot_of x < n) (sym (length-set table k row)) o.within;
}

filed-here : (table : List ℕ) (k row : ℕ) (x : Item) → slot_of x ≡ k → k < length table → x.place < 16 → Filed (set table k row) row x
filed-here table k row x is low place = record {
  there = sym (ap (slice_index (set table k row)) is ∙ get_or-set_same table k row 0 low);
  low = place;
  within = subst (λ n. slot_of x < n) (sym (length-set table k row)) (subst (λ n. n < length table) (sym is) low);
}

-- what is known of each item of a content
pub record EachItem (P : Item → Type 0) (c : Content) : Type 0 where
  pub of_writes : EachOf P (items_in c.writes)
  pub of_reads : EachOf P (read_items c)

-- the content stays filed while a slot of none of its items is set
pub sound-else : (s : ScopeTrees) (table : List ℕ) (k row : ℕ) (c : Content) → IsSound s table c → EachItem (Elsewhere k) c → k < length table
    → IsSound s (set table k row) c
sound-else s table k row c o each low =
    let parts = each-append (Elsewhere k) (items_in c.reads) (placed_items c.pending) each.of_reads in record {
      writes_apart = o.writes_apart;
      reads_apart = o.reads_apart;
      filed_writes = λ t m r e. filed-else table k row r (item_of t) (each-among (Elsewhere k) c.writes each.of_writes t m) low (o.filed_writes t m r e);
      filed_reads = λ t m r e. filed-else table k row r (item_of t) (each-among (Elsewhere k) c.reads parts.0 t m) low (o.filed_reads t m r e);
      filed_pending = λ p m. filed-else table k row p.row p.item (each-placed (Elsewhere k) c.pending parts.1 p m) low (o.filed_pending p m);
      early = o.early;
      late = o.late;
    }

-- a latch came, and its row is in the table
pub sound-added : (p q : Pool) (s t : ScopeTrees) (table : List ℕ) (k row : ℕ) (x : Item) (access : Access) (c d : Content) (a : Around) → IsSound s table c
    → EachItem (Elsewhere k) c → k < length table → slot_of x ≡ k → x.place < 16 → s.writer ≤ x.id → t.writer ≡ s.writer → Added p q s t c d a row x access
    → IsSound t (set table k row) d
sound-added p q s t table k row x access c d a o each low slot place writer same g =
    let old = sound-else s table k row c o each low in
    let here = filed-here table k row x slot low place in record {
      writes_apart = g.apart.0;
      reads_apart = g.apart.1;
      filed_writes = λ u m r e. ⊎_elim (λ n. old.filed_writes u n r e)
          (λ n. let z : row ≡ r = (let b = n.0 in omega arith) in
          subst (λ y. Filed (set table k row) r y) (sym n.1) (subst (λ w. Filed (set table k row) w x) z here)) (g.came_writes u m);
      filed_reads = λ u m r e. old.filed_reads u (g.came_reads u m) r e;
      filed_pending = λ u m. ⊎_elim (λ n. old.filed_pending u n)
          (λ n. subst (λ (y : Placed). Filed (set table k row) y.row y.item) (sym n) here) (g.came_pending u m);
      early = λ u m. subst (λ w. (item_of u).id < w) (sym same) (o.early u (g.came_reads u m));
      late = λ u m. subst (λ w. w ≤ u.item.id) (sym same) (⊎_elim (λ n. o.late u n)
          (λ n. subst (λ (y : Placed). s.writer ≤ y.item.id) (sym n) writer) (g.came_pending u m));
    }

-- ---- lists with one more
each-with : (P : HeldLatch → Type 0) (x : HeldLatch) (ys : List HeldLatch) → P x → EachOf P ys → EachOf P (with_latch x ys)
each-with P x [] p h = (p, tt)
each-with P x (y ∷ ys) p h = by (comes_first y x) (each-with P x ys p h.1)
  where
    by : (t : Bool) → EachOf P (with_latch x ys) → EachOf P (cond t (y ∷ with_latch x ys) (x ∷ y ∷ ys))
    by true k = (h.0, k)
    by false k = (p, h)

each-with-if : (P : HeldLatch → Type 0) (b : Bool) (x : HeldLatch) (ys : List HeldLatch) → P x → EachOf P ys → EachOf P (with_if b x ys)
each-with-if P true x ys p h = each-with P x ys p h
each-with-if P false x ys p h = h

with-writes : (access : Access) (x : Item) (ys : List HeldLatch) → with_if (writes access) (held_as access x) ys ≡ with_if (writes access) (held_as Write x) ys
with-writes Read x ys = refl
with-writes Write x ys = refl

with-reads : (access : Access) (x : Item) (ys : List HeldLatch) → with_if (reads access) (held_as access x) ys ≡ with_if (reads access) (held_as Read x) ys
with-reads Read x ys = refl
with-reads Write x ys = refl

with-true : (b c : Bool) (x : HeldLatch) (ys : List HeldLatch) → b ≡ true → with_if (b && c) x ys ≡ with_if c x ys
with-true true c x ys e = refl
with-true false c x ys e = cc

with-false : (b c : Bool) (x : HeldLatch) (ys : List HeldLatch) → b ≡ false → with_if (b && c) x ys ≡ ys
with-false true c x ys e = cc
with-false false c x ys e = refl

-- ---- the item of the latch number j is beside all that are held
abbrev pub item-with : ℕ → ℕ → ℕ → Latch → Item
item-with id lane j l = record { id = id; place = j; lane = lane; span = l.span; stamp = normal l }

beside-apart : (id lane j : ℕ) (l : Latch) (a : Access) (y : Item) → Beside id lane (suc j) (held_as a y) → Apart y (item-with id lane j l)
beside-apart id lane j l a y b i p = let c = b.other_request i in omega arith

beside-elsewhere : (id lane j : ℕ) (a : Access) (y : Item) → j < 16 → Beside id lane (suc j) (held_as a y) → Elsewhere (lane * 16 + j) y
beside-elsewhere id lane j a y low b e =
    let c = b.low in let same : y.lane ≡ lane = (let d = e in omega arith) in let f = b.other_lane same in omega arith

-- ---- what is known before
pub record Ready (c : Content) (id lane j : ℕ) (l : Latch) : Type 0 where
  pub apart_writes : EachOf (λ y. Apart y (item-with id lane j l)) (items_in c.writes)
  pub apart_reads : EachOf (λ y. Apart y (item-with id lane j l)) (read_items c)
  pub elsewhere : EachItem (Elsewhere (lane * 16 + j)) c

ready : (scope : Scope) (h : HeldLatches) (s : Snapshot) (n more id lane j : ℕ) (l : Latch) (m : MayInsert h s n more id lane (suc j))
    → Ready (content_of scope m.has.holds) id lane j l
ready scope h s n more id lane j l m =
    let c = content_of scope m.has.holds in let lists = lists-are scope h s n m.has.holds in
    let ws = list_of s scope Write in let bw = each-in (Beside id lane (suc j)) s scope Write m.apart in
    let rs = list_of s scope Read in let br = each-in (Beside id lane (suc j)) s scope Read m.apart in
    let low : j < 16 = (let b = m.low in omega arith) in record {
      apart_writes = each-item (Beside id lane (suc j)) (λ y. Apart y (item-with id lane j l)) Write ws (items_in c.writes)
          (λ y b. beside-apart id lane j l Write y b) lists.writes bw;
      apart_reads = each-item (Beside id lane (suc j)) (λ y. Apart y (item-with id lane j l)) Read rs (read_items c)
          (λ y b. beside-apart id lane j l Read y b) lists.reads br;
      elsewhere = record {
        of_writes = each-item (Beside id lane (suc j)) (Elsewhere (lane * 16 + j)) Write ws (items_in c.writes)
            (λ y b. beside-elsewhere id lane j Write y low b) lists.writes bw;
        of_reads = each-item (Beside id lane (suc j)) (Elsewhere (lane * 16 + j)) Read rs (read_items c)
            (λ y b. beside-elsewhere id lane j Read y low b) lists.reads br;
      };
    }

-- the latch can come to its scope's trees
pub may-add : (scope : Scope) (h : HeldLatches) (s : Snapshot) (n more id lane j : ℕ) (l : Latch) → MayInsert h s n more id lane (suc j)
    → (c : Content) × (a : Around) × ScopeHas h.pool (trees_of scope h) c a × EachOf (λ y. Apart y (item-with id lane j l)) (items_in c.writes)
    × EachOf (λ y. Apart y (item-with id lane j l)) (read_items c) × AllApart (items_in c.writes) × AllApart (read_items c) × (length c.writes < 8190)
may-add scope h s n more id lane j l m =
    let o = m.has.holds in let r = ready scope h s n more id lane j l m in let sound = scope-sound scope h o.global o.local o.kept in (
      content_of scope o,
      around scope (trees_of (other scope) h) (content_of (other scope) o),
      scope-has scope h o.global o.local o.kept,
      r.apart_writes,
      r.apart_reads,
      sound.writes_apart,
      sound.reads_apart,
      (let a = m.fits in let b = total-of h s n o in let c = sum-both many_of scope o.global o.local in omega arith),
    )

-- ---- what is known afterwards
beside-less : (id lane j : ℕ) (y : HeldLatch) → Beside id lane (suc j) y → Beside id lane j y
beside-less id lane j y b = record {
  other_request = λ e. (let c = b.other_request e in omega arith);
  other_lane = λ e. (let c = b.other_lane e in omega arith);
  low = b.low;
}

beside-own : (id lane j : ℕ) (l : Latch) → j < 16 → Beside id lane j (own_latch id lane j l)
beside-own id lane j l low = record { other_request = λ e. omega arith; other_lane = λ e. omega arith; low = low }

-- ---- which scope a latch is of
global-if : (b : Bool) → scope_if b ≡ Global → b ≡ false
global-if true e = cc
global-if false e = refl

local-if : (b : Bool) → scope_if b ≡ Local → b ≡ true
local-if true e = refl
local-if false e = cc

pub is-in : (scope : Scope) (l : Latch) → scope_of l.span ≡ scope → (in_scope scope (at_normal l) ≡ true) × (in_scope (other scope) (at_normal l) ≡ false)
is-in Global l e = let b = global-if (is_local l.span) e in (rw b refl, b)
is-in Local l e = let b = local-if (is_local l.span) e in (b, rw b refl)

-- ---- its list has it then, and the others stay
list-with : (scope : Scope) (access : Access) (x : HeldLatch) (s : Snapshot)
    → list_of (with_held x s) scope access ≡ with_if (in_scope scope x.latch && has_access access x.latch) x (list_of s scope access)
list-with Global Read x s = refl
list-with Global Write x s = refl
list-with Local Read x s = refl
list-with Local Write x s = refl

lists-with : (scope : Scope) (id lane j : ℕ) (l : Latch) (s : Snapshot) (c d : Content) → in_scope scope (at_normal l) ≡ true → ListsAre s scope c
    → in_order (held_of Read (read_items d))
    ≡ with_if (reads l.access) (held_as Read (item-with id lane j l)) (in_order (held_of Read (read_items c)))
    → in_order (held_of Write (items_in d.writes))
    ≡ with_if (writes l.access) (held_as Write (item-with id lane j l)) (in_order (held_of Write (items_in c.writes)))
    → ListsAre (with_held (own_latch id lane j l) s) scope d
lists-with scope id lane j l s c d here o r w =
    let y = own_latch id lane j l in let x = item-with id lane j l in record {
      reads = list-with scope Read y s ∙ with-true (in_scope scope (at_normal l)) (reads l.access) y (list_of s scope Read) here
          ∙ ap (with_if (reads l.access) y) o.reads ∙ with-reads l.access x (in_order (held_of Read (read_items c))) ∙ sym r;
      writes = list-with scope Write y s ∙ with-true (in_scope scope (at_normal l)) (writes l.access) y (list_of s scope Write) here
          ∙ ap (with_if (writes l.access) y) o.writes ∙ with-writes l.access x (in_order (held_of Write (items_in c.writes))) ∙ sym w;
    }

lists-still : (scope : Scope) (id lane j : ℕ) (l : Latch) (s : Snapshot) (c : Content) → in_scope scope (at_normal l) ≡ false → ListsAre s scope c
    → ListsAre (with_held (own_latch id lane j l) s) scope c
lists-still scope id lane j l s c away o =
    let y = own_latch id lane j l in record {
      reads = list-with scope Read y s ∙ with-false (in_scope scope (at_normal l)) (reads l.access) y (list_of s scope Read) away ∙ o.reads;
      writes = list-with scope Write y s ∙ with-false (in_scope scope (at_normal l)) (writes l.access) y (list_of s scope Write) away ∙ o.writes;
    }

-- ---- the last writers
abbrev LowWriters : HeldLatches → ℕ → Type 0
LowWriters h id = (writer_of h Global ≤ id) × (writer_of h Local ≤ id)

low-writer : (scope : Scope) (h : HeldLatches) (id : ℕ) → LowWriters h id → (trees_of scope h).writer ≤ id
low-writer Global h id low = low.0
low-writer Local h id low = low.1

low-writers : (scope : Scope) (h w : HeldLatches) (p : Pool) (t : ScopeTrees) (id : ℕ) → t.writer ≡ (trees_of scope h).writer → LowWriters h id
    → LowWriters (with_scope scope h w p t) id
low-writers Global h w p t id same low = (subst (λ k. k ≤ id) (sym same) low.0, low.1)
low-writers Local h w p t id same low = (low.0, subst (λ k. k ≤ id) (sym same) low.1)

-- ---- it came
-- what the trees' own step says of every content
abbrev Adds : Pool → Pool → ScopeTrees → ScopeTrees → ℕ → Item → Access → Type 0
Adds old new s t row x access = (c : Content) (a : Around) → ScopeHas old s c a → EachOf (λ (y : Item). Apart y x) (items_in c.writes)
    → EachOf (λ (y : Item). Apart y x) (read_items c) → AllApart (items_in c.writes) → AllApart (read_items c) → length c.writes < 8190
    → (d : Content) × Added old new s t c d a row x access

total-in : (scope : Scope) (h : HeldLatches) (s : Snapshot) (n : ℕ) (o : Holds h s n) (c e : Content) → content_of scope o ≡ c
    → content_of (other scope) o ≡ e → many_of c + many_of e ≡ total s
total-in scope h s n o c e now beside =
    let a = ap many_of now in let b = ap many_of beside in let d = total-of h s n o in let q = sum-both many_of scope o.global o.local in omega arith

pub came : (scope : Scope) (h w : HeldLatches) (p : Pool) (t : ScopeTrees) (s : Snapshot) (n more id lane j row : ℕ) (l : Latch)
    → MayInsert h s n more id lane (suc j) → scope_of l.span ≡ scope → Adds h.pool p (trees_of scope h) t row (item-with id lane j l) l.access
    → SamePool h.pool p → t.writer ≡ (trees_of scope h).writer → w.rows.items ≡ set h.rows.items (lane * 16 + j) row
    → MayInsert (with_scope scope h w p t) (with_held (own_latch id lane j l) s) n more id lane j
unfolding may-add
came scope h w p t s n more id lane j row l m within step same writer rows =
    let o = m.has.holds in let e = content_of (other scope) o in
    let x = item-with id lane j l in let u = with_held (own_latch id lane j l) s in let in_it = is-in scope l within in
    let slot : lane * 16 + j < length h.rows.items = (let q = m.within in let b = m.low in omega arith) in
    let low : j < 16 = (let b = m.low in omega arith) in
    let (c, a, has, apart_writes, apart_reads, writes_apart, reads_apart, few) = may-add scope h s n more id lane j l m in
    let (d, g) = step c a has apart_writes apart_reads writes_apart reads_apart few in
    let sum = sum-both aside_of scope o.global o.local in let count = sum-both many_of scope o.global o.local in let total = total-of h s n o in
    let (z, now, beside) = changed scope h w p t s u n (13 * j + more) o d (record {
      has = g.has;
      stay = g.stay;
      same = same;
      sound = subst (λ table. IsSound t table d) (sym rows) (sound-added h.pool p (trees_of scope h) t h.rows.items (lane * 16 + j) row x l.access c d a
          (scope-sound scope h o.global o.local o.kept) (ready scope h s n more id lane j l m).elsewhere slot refl low
          (low-writer scope h id m.writers) writer g);
      sound_other = subst (λ table. IsSound (trees_of (other scope) h) table e) (sym rows) (sound-else (trees_of (other scope) h) h.rows.items (lane * 16 + j)
          row e (scope-sound (other scope) h o.global o.local o.kept) (ready (other scope) h s n more id lane j l m).elsewhere slot);
      spare = (let q = m.has.spare in let b = g.spent in omega arith);
      few = (let q = m.fits in let b = g.many in omega arith);
      lists = lists-with scope id lane j l s c d in_it.0 (lists-are scope h s n o) g.order_reads g.order_writes;
      lists_other = lists-still (other scope) id lane j l s e in_it.1 (lists-are (other scope) h s n o);
    }) in
    record {
      has = z;
      fits = (let q = m.fits in let b = g.many in let v = total-in scope (with_scope scope h w p t) u n z.holds d e now beside in omega arith);
      low = (let q = m.low in omega arith);
      within = (let q = m.within in let b = ap (λ (z : List ℕ). length z) rows ∙ length-set h.rows.items (lane * 16 + j) row in omega arith);
      writers = low-writers scope h w p t id writer m.writers;
      apart = (
        each s.global_reads (in_scope Global (at_normal l) && has_access Read (at_normal l)) m.apart.0,
        each s.global_writes (in_scope Global (at_normal l) && has_access Write (at_normal l)) m.apart.1,
        each s.local_reads (in_scope Local (at_normal l) && has_access Read (at_normal l)) m.apart.2,
        each s.local_writes (in_scope Local (at_normal l) && has_access Write (at_normal l)) m.apart.3,
      );
    }
  where
    each : (ys : List HeldLatch) (b : Bool) → EachOf (Beside id lane (suc j)) ys → EachOf (Beside id lane j) (with_if b (own_latch id lane j l) ys)
    each ys b h = each-with-if (Beside id lane j) b (own_latch id lane j l) ys (beside-own id lane j l (let a = m.low in omega arith))
        (each-map (Beside id lane (suc j)) (Beside id lane j) (beside-less id lane j) ys h)

-- ---- one place after another, from the last to the first
pub own-next : (id lane place : ℕ) (ls : List Latch) (l : Latch) → place < length ls → l ≡ slice_index_or ls place l
    → own_from id lane place (drop place ls) ≡ own_latch id lane place l ∷ own_from id lane (suc place) (drop (suc place) ls)
own-next id lane place ls l low is =
    let one : place + 1 ≡ suc place = (omega arith) in
    ap (own_from id lane place) (drop-cons ls place l low)
    ∙ ap (λ x. own_latch id lane place x ∷ own_from id lane (place + 1) (drop (suc place) ls)) (sym is)
    ∙ ap (λ m. own_latch id lane place l ∷ own_from id lane m (drop (suc place) ls)) one

-- the lists once the places from k on came
pub came-from : ℕ → ℕ → ℕ → List Latch → Snapshot → Snapshot
came-from id lane k ls s = inserted (own_from id lane k (drop k ls)) s

pub came-none : (h : HeldLatches) (s : Snapshot) (n more id lane left : ℕ) (ls : List Latch) → length ls ≡ left
    → MayInsert h s n more id lane (length ls) → MayInsert h (came-from id lane left ls s) n more id lane left
unfolding came-from
came-none h s n more id lane left ls is m =
    subst (λ z. MayInsert h (inserted (own_from id lane z (drop z ls)) s) n more id lane z) is
    (subst (λ l. MayInsert h (inserted (own_from id lane (length ls) l) s) n more id lane (length ls)) (sym (drop_all (length ls) ls (omega arith))) m)

pub came-next : (h k : HeldLatches) (s : Snapshot) (n more id lane left place : ℕ) (ls : List Latch) (l : Latch) → left ≡ suc place → place < length ls
    → l ≡ slice_index_or ls place l → MayInsert h (came-from id lane left ls s) n more id lane left
    → ((t : Snapshot) (m : ℕ) → MayInsert h t m more id lane (suc place) → MayInsert k (with_held (own_latch id lane place l) t) m more id lane place)
    → MayInsert k (came-from id lane place ls s) n more id lane place
unfolding came-from
came-next h k s n more id lane left place ls l is low at m step =
    let before = subst (λ z. MayInsert h (inserted (own_from id lane z (drop z ls)) s) n more id lane z) is m in
    subst (λ xs. MayInsert k (inserted xs s) n more id lane place) (sym (own-next id lane place ls l low at))
    (step (inserted (own_from id lane (suc place) (drop (suc place) ls)) s) n before)

pub came-all : (k : HeldLatches) (s : Snapshot) (n more id lane left : ℕ) (ls : List Latch) → left ≡ 0
    → MayInsert k (came-from id lane left ls s) n more id lane left → HasSpare k (inserted (own_from id lane 0 ls) s) n more
unfolding came-from
came-all k s n more id lane left ls is m =
    let o = (subst (λ z. MayInsert k (inserted (own_from id lane z (drop z ls)) s) n more id lane z) is m).has in
    record { holds = o.holds; spare = (let a = o.spare in omega arith) }

pub came-may : (h : HeldLatches) (s : Snapshot) (n more id lane left place : ℕ) (ls : List Latch)
    → left ≡ suc place → MayInsert h (came-from id lane left ls s) n more id lane left
    → (t : Snapshot) × (m rest : ℕ) × MayInsert h t m rest id lane (suc place)
came-may h s n more id lane left place ls is m =
    (came-from id lane left ls s, n, more, subst (λ z. MayInsert h (came-from id lane left ls s) n more id lane z) is m)
