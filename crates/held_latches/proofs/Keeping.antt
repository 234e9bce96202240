-- The held latches while pending reads go into a tree, and while rows come to the pool.
use Rattle.std.proofs.Common.{◌≡◌, ⊎_elim, ℕ, suc, ◌<◌, ◌≤◌, true, false, Bool, cond, List, [], ◌∷◌, ◌++◌, length, ap, sym, ◌∙◌, subst, arith}
use Rattle.span_key.specs.declared.scopes.Scope.{Scope}
use Rattle.latch_model.specs.Histories.{HeldLatch, Snapshot, comes_first, in_order, list_of, with_latch}
use Rattle.latch_model.specs.declared.latch.Access.{Access}
use Rattle.latch_model.specs.declared.latch.Access.TheVariants.{Read, Write}
use Rattle.row_pool.specs.Lists.{mem}
use Rattle.row_pool.specs.Trees.{Tree as Row, tree_word}
use Rattle.latch_item.specs.Items.{Item, item_of}
use Rattle.latch_item.specs.Shape.{Among}
use Rattle.read_list.proofs.Links.{list-stays}
use Rattle.latch_shots.specs.Held.{held_as}
use Rattle.held_latches.specs.Content.{AllApart, Content, EachOf, IsIn, held_of, items_in, placed_items, read_items}
use Rattle.held_latches.specs.Holding.{EachHeld, Filed, HasSpare, Holds, IsSound, Kept}
use Rattle.held_latches.specs.Scopes.{Around, Flushing, aside_of, many_of}
use Rattle.held_latches.specs.Steps.{PoolHas, SamePool, Stay, free_rows}
use Rattle.held_latches.specs.Stock.{Placed, rows_of, tree_root}
use Rattle.held_latches.specs.declared.held.HeldLatches.{HeldLatches}
use Rattle.held_latches.specs.declared.pool.Pool.{Pool}
use Rattle.held_latches.specs.declared.scopes.ScopeTrees.{ScopeTrees}
use Rattle.row_pool.proofs.Chains.{mem-left, mem-right}
use Rattle.held_latches.proofs.Contents.{each-append, each-map}
use Rattle.held_latches.proofs.Stocks.{rows-append}
use Rattle.held_latches.proofs.Scoped.{around, changed, content_of, each-in, lists-are, other, scope-sound, sum-both, trees_of, with_scope}

-- ---- what holds of each held latch holds of each item
each_with : (P : HeldLatch → Type 0) (x : HeldLatch) (ys : List HeldLatch) → EachOf P (with_latch x ys) → P x × EachOf P ys
each_with P x [] h = (h.0, tt)
each_with P x (y ∷ ys) h = by (comes_first y x) h (each_with P x ys)
  where
    by : (t : Bool) → EachOf P (cond t (y ∷ with_latch x ys) (x ∷ y ∷ ys)) → (EachOf P (with_latch x ys) → P x × EachOf P ys) → P x × EachOf P (y ∷ ys)
    by true h later = let o = later h.1 in (o.0, (h.0, o.1))
    by false h later = h

pub each-ordered : (P : HeldLatch → Type 0) (xs : List HeldLatch) → EachOf P (in_order xs) → EachOf P xs
each-ordered P [] h = tt
each-ordered P (x ∷ xs) h = let o = each_with P x (in_order xs) h in (o.0, each-ordered P xs o.1)

pub each-held : (P : HeldLatch → Type 0) (a : Access) (xs : List Item) → EachOf P (held_of a xs) → EachOf (λ x. P (held_as a x)) xs
each-held P a [] h = tt
each-held P a (x ∷ xs) h = (h.0, each-held P a xs h.1)

pub each-among : (P : Item → Type 0) (ts : List Row) → EachOf P (items_in ts) → (t : Row) → Among t ts → P (item_of t)
each-among P [] h t m = absurd m
each-among P (u ∷ us) h t m = ⊎_elim (λ z. subst (λ (k : Row). P (item_of k)) z h.0) (λ n. each-among P us h.1 t n) m

pub each-placed : (P : Item → Type 0) (ps : List Placed) → EachOf P (placed_items ps) → (p : Placed) → IsIn p ps → P p.item
each-placed P [] h p m = absurd m
each-placed P (q ∷ qs) h p m = ⊎_elim (λ z. subst (λ (k : Placed). P k.item) z h.0) (λ n. each-placed P qs h.1 p n) m

pub each-item : (P : HeldLatch → Type 0) (Q : Item → Type 0) (a : Access) (xs : List HeldLatch) (items : List Item) → ((y : Item) → P (held_as a y) → Q y)
    → xs ≡ in_order (held_of a items) → EachOf P xs → EachOf Q items
each-item P Q a xs items f is h =
    each-map (λ y. P (held_as a y)) Q f items (each-held P a items (each-ordered P (held_of a items) (subst (EachOf P) is h)))

-- ---- the pending reads are in the tree
pub sound-flushed : (p q : Pool) (s t : ScopeTrees) (table : List ℕ) (c d : Content) (a : Around) (id : ℕ) → IsSound s table c → Flushing p q s t c d a
    → d.pending ≡ [] → t.writer ≡ id → EachOf (λ x. x.id < id) (read_items c) → IsSound t table d
sound-flushed p q s t table c d a id o f none writer low = record {
  writes_apart = subst (λ ts. AllApart (items_in ts)) (sym f.writes.1) o.writes_apart;
  reads_apart = f.apart;
  filed_writes = λ u m. o.filed_writes u (subst (Among u) f.writes.1 m);
  filed_reads = λ u m row here. ⊎_elim (λ n. o.filed_reads u n row here)
      (λ (n : (x : Placed) × IsIn x c.pending × (tree_word u ≡ suc x.row) × (item_of u ≡ x.item)).
      let same : n.0.row ≡ row = (let b = n.2 in let e = here in omega arith) in
      subst (λ y. Filed table row y) (sym n.3) (subst (λ r. Filed table r n.0.item) same (o.filed_pending n.0 n.1))) (f.came u m);
  filed_pending = λ x m. absurd (nothing x m);
  early = λ u m. subst (λ k. (item_of u).id < k) (sym writer) (⊎_elim (λ n. each-among (λ x. x.id < id) c.reads parts.0 u n)
      (λ (n : (x : Placed) × IsIn x c.pending × (tree_word u ≡ suc x.row) × (item_of u ≡ x.item)).
      subst (λ (y : Item). y.id < id) (sym n.3) (each-placed (λ x. x.id < id) c.pending parts.1 n.0 n.1)) (f.came u m));
  late = λ x m. absurd (nothing x m);
}
  where
    parts : EachOf (λ x. x.id < id) (items_in c.reads) × EachOf (λ x. x.id < id) (placed_items c.pending)
    parts = each-append (λ x. x.id < id) (items_in c.reads) (placed_items c.pending) low

    nothing : (x : Placed) → IsIn x d.pending → ⊥
    nothing x m = subst (IsIn x) none m

-- the held latches are the same while pending reads go into the tree
pub flushed : (scope : Scope) (h : HeldLatches) (p : Pool) (t : ScopeTrees) (s : Snapshot) (n m id : ℕ) (o : HasSpare h s n m)
    → EachHeld (λ x. x.by < id) s
    → (d : Content) × Flushing h.pool p (trees_of scope h) t (content_of scope o.holds) d (around scope (trees_of (other scope) h)
    (content_of (other scope) o.holds)) × (d.pending ≡ []) → t.writer ≡ id → SamePool h.pool p
    → HasSpare (with_scope scope h h p t) s n m
flushed scope h p t s n m id o low (d, f, none) writer same =
    let k = o.holds.kept in let g = o.holds.global in let l = o.holds.local in let c = content_of scope o.holds in
    let lists = lists-are scope h s n o.holds in
    let lows = each-item (λ x. x.by < id) (λ x. x.id < id) Read (list_of s scope Read) (read_items c) (λ y e. e) lists.reads
    (each-in (λ x. x.by < id) s scope Read low) in
    let long = ap (λ (ps : List Placed). length ps) none in let written = ap (λ (ts : List Row). length ts) f.writes.1 in
    (changed scope h h p t s s n m o.holds d (record {
      has = f.has;
      stay = f.stay;
      same = same;
      sound = sound-flushed h.pool p (trees_of scope h) t h.rows.items c d (around scope (trees_of (other scope) h) (content_of (other scope) o.holds)) id
          (scope-sound scope h g l k) f none writer lows;
      sound_other = scope-sound (other scope) h g l k;
      spare = (let x = o.spare in let y = f.spent in let w = f.many in let q = sum-both aside_of scope g l in omega arith);
      few = (let x = k.few in let w = f.many in let q = sum-both many_of scope g l in omega arith);
      lists = record {
        reads = lists.reads ∙ sym f.order;
        writes = lists.writes ∙ ap (λ ts. in_order (held_of Write (items_in ts))) (sym f.writes.1);
      };
      lists_other = lists-are (other scope) h s n o.holds;
    })).0

-- ---- rows come to the pool
pub kept-more : (h : HeldLatches) (p : Pool) (g l : Content) → Kept h g l → PoolHas p (tree_root h.global.writes g.writes ∷ tree_root h.global.reads g.reads
    ∷ tree_root h.local.writes l.writes ∷ tree_root h.local.reads l.reads ∷ []) (g.pending ++ l.pending) → Stay (g.pending ++ l.pending) h.pool p
    → free_rows h.pool ≤ free_rows p → Kept (record h { pool = p }) g l
kept-more h p g l k stock stay more = record {
  stock = stock;
  fits_global = k.fits_global;
  fits_local = k.fits_local;
  listed_global = list-stays h.pool.seat.view p.seat.view h.global.pending (rows_of g.pending)
      (λ q m. stay q (subst (λ l. mem q l ≡ true) (sym (rows-append g.pending l.pending))
      (mem-left q (rows_of g.pending) (rows_of l.pending) m))) k.listed_global;
  listed_local = list-stays h.pool.seat.view p.seat.view h.local.pending (rows_of l.pending)
      (λ q m. stay q (subst (λ l. mem q l ≡ true) (sym (rows-append g.pending l.pending))
      (mem-right q (rows_of g.pending) (rows_of l.pending) m))) k.listed_local;
  sound_global = k.sound_global;
  sound_local = k.sound_local;
  set_aside = (let a = k.set_aside in omega arith);
  few = k.few;
}

pub none-spare : (h : HeldLatches) (s : Snapshot) (n : ℕ) → Holds h s n → HasSpare h s n 0
none-spare h s n o = record { holds = o; spare = (let a = o.kept.set_aside in omega arith) }
