-- A held latch stands in a scope's trees or its list, and goes out of them.
use Rattle.std.proofs.Common.{◌≡◌, ◌⊎◌, ⊎_elim, inl, inr, ℕ, suc, ◌+◌, ◌*◌, ◌<◌, ◌≤◌, true, false, Bool, cond, List, [], ◌∷◌, ◌++◌, length}
use Rattle.std.proofs.Common.{slice_index, get_or, Option, None, Some, ap, sym, refl, ◌∙◌, subst, arith}
use Rattle.std.specs.List.{filter}
use Rattle.std.proofs.lemmas.List.{get_or_default}
use Rattle.latch_model.specs.Histories.{HeldLatch, comes_first, in_order, with_latch}
use Rattle.latch_model.specs.declared.latch.Access.{Access}
use Rattle.latch_model.specs.declared.latch.Access.TheVariants.{Read, Write}
use Rattle.row_pool.specs.SeatView.{SeatView}
use Rattle.row_pool.specs.Trees.{Tree as Row, tree_word}
use Rattle.latch_item.specs.Items.{Item, IsLatch, item_of}
use Rattle.latch_item.specs.Shape.{Among, Each, RefersTo}
use Rattle.interval_tree.proofs.Depths.{node-items}
use Rattle.interval_tree.specs.declared.tree.Tree.{Tree}
use Rattle.latch_shots.specs.Held.{held_as}
use Rattle.held_latches.specs.Content.{AllApart, Content, IsIn, held_of, is_other, items_in, placed_items, read_items}
use Rattle.held_latches.specs.Holding.{Filed, IsSound}
use Rattle.held_latches.specs.Scopes.{Around, TookPending, TookRead, TookWrite, aside_of}
use Rattle.held_latches.specs.Stock.{Fits, Placed}
use Rattle.held_latches.specs.Taking.{StandsIn, Taken}
use Rattle.held_latches.specs.declared.pool.Pool.{Pool}
use Rattle.held_latches.specs.declared.scopes.ScopeTrees.{ScopeTrees}
use Rattle.held_latches.proofs.Adding.{reads-same}

-- ---- a read that goes is in the tree where its request is one before the last writer, else in the list
pub in-tree : (s : ScopeTrees) (c : Content) (row id : ℕ) (x : Item) → StandsIn s c Read row x → x.id ≡ id → id < s.writer
    → (t : Row) × Among t c.reads × (tree_word t ≡ suc row) × (item_of t ≡ x)
in-tree s c row id x (inl k) e low = (k.0, k.1, k.2, k.3)
in-tree s c row id x (inr k) e low = absurd (let a = k.4 in omega arith)

pub in-list : (s : ScopeTrees) (c : Content) (row id : ℕ) (x : Item) → StandsIn s c Read row x → x.id ≡ id → s.writer ≤ id
    → (p : Placed) × IsIn p c.pending × (p.row ≡ row) × (p.item ≡ x)
in-list s c row id x (inl k) e late = absurd (let a = k.4 in omega arith)
in-list s c row id x (inr k) e late = (k.0, k.1, k.2, k.3)

-- the later list is the earlier one without an item's latch
abbrev Without : List HeldLatch → List HeldLatch → Item → Type 0
Without earlier later y = in_order later ≡ filter (is_other y.id y.place) (in_order earlier)

pub taken-write : (old new : Pool) (s t : ScopeTrees) (c d : Content) (a : Around) (it : Row) (x : Item) → item_of it ≡ x → AllApart (read_items c)
    → TookWrite old new s t c d a it → Taken old new s t c d a x Write
taken-write old new s t c d a it x e apart o =
    let same = reads-same c d o.reads.0 o.reads.1 in
    let r = ap (λ (ts : List Row). length ts) o.reads.0 in let p = ap (λ (ps : List Placed). length ps) o.reads.1 in record {
      has = o.has;
      apart = (o.apart, subst AllApart (sym same) apart);
      order_writes = subst (Without (held_of Write (items_in c.writes)) (held_of Write (items_in d.writes))) e o.order;
      order_reads = ap (λ l. in_order (held_of Read l)) same;
      left_writes = o.left;
      left_reads = λ u m. subst (Among u) o.reads.0 m;
      left_pending = λ u m. subst (IsIn u) o.reads.1 m;
      many = (let w = o.many in omega arith);
      spent = (let w = o.many in let z = o.spent in omega arith);
      stay = o.stay;
    }

pub taken-read : (old new : Pool) (s t : ScopeTrees) (c d : Content) (a : Around) (it : Row) (x : Item) → item_of it ≡ x → AllApart (items_in c.writes)
    → TookRead old new s t c d a it → Taken old new s t c d a x Read
taken-read old new s t c d a it x e apart o =
    let w = ap (λ (ts : List Row). length ts) o.others.0 in let p = ap (λ (ps : List Placed). length ps) o.others.1 in record {
      has = o.has;
      apart = (subst (λ ts. AllApart (items_in ts)) (sym o.others.0) apart, o.apart);
      order_writes = ap (λ ts. in_order (held_of Write (items_in ts))) o.others.0;
      order_reads = subst (Without (held_of Read (read_items c)) (held_of Read (read_items d))) e o.order;
      left_writes = λ u m. subst (Among u) o.others.0 m;
      left_reads = o.left;
      left_pending = λ u m. subst (IsIn u) o.others.1 m;
      many = (let r = o.many in omega arith);
      spent = (let r = o.many in let z = o.spent in omega arith);
      stay = o.stay;
    }

pub taken-pending : (old new : Pool) (s t : ScopeTrees) (c d : Content) (a : Around) (p : Placed) (x : Item) → p.item ≡ x → AllApart (items_in c.writes)
    → TookPending old new s t c d a p → Taken old new s t c d a x Read
taken-pending old new s t c d a p x e apart o =
    let w = ap (λ (ts : List Row). length ts) o.trees.0 in let r = ap (λ (ts : List Row). length ts) o.trees.1 in record {
      has = o.has;
      apart = (subst (λ ts. AllApart (items_in ts)) (sym o.trees.0) apart, o.apart);
      order_writes = ap (λ ts. in_order (held_of Write (items_in ts))) o.trees.0;
      order_reads = subst (Without (held_of Read (read_items c)) (held_of Read (read_items d))) e o.order;
      left_writes = λ u m. subst (Among u) o.trees.0 m;
      left_reads = λ u m. subst (Among u) o.trees.1 m;
      left_pending = o.left;
      many = (let q = o.many in omega arith);
      spent = (let q = o.many in let z = o.spent in omega arith);
      stay = o.stay;
    }

-- what is left is as before
pub sound-taken : (old new : Pool) (s t : ScopeTrees) (table : List ℕ) (c d : Content) (a : Around) (x : Item) (access : Access) → IsSound s table c
    → Taken old new s t c d a x access → t.writer ≡ s.writer → IsSound t table d
sound-taken old new s t table c d a x access o g writer = record {
  writes_apart = g.apart.0;
  reads_apart = g.apart.1;
  filed_writes = λ u m. o.filed_writes u (g.left_writes u m);
  filed_reads = λ u m. o.filed_reads u (g.left_reads u m);
  filed_pending = λ p m. o.filed_pending p (g.left_pending p m);
  early = λ u m. subst (λ k. (item_of u).id < k) (sym writer) (o.early u (g.left_reads u m));
  late = λ p m. subst (λ k. k ≤ p.item.id) (sym writer) (o.late p (g.left_pending p m));
}

-- ---- a held latch is an item's
in-with : (x z : HeldLatch) (ys : List HeldLatch) → IsIn x (with_latch z ys) → (z ≡ x) ⊎ IsIn x ys
in-with x z [] h = h
in-with x z (y ∷ ys) h = by (comes_first y z) h (in-with x z ys)
  where
    by : (t : Bool) → IsIn x (cond t (y ∷ with_latch z ys) (z ∷ y ∷ ys)) → (IsIn x (with_latch z ys) → (z ≡ x) ⊎ IsIn x ys) → (z ≡ x) ⊎ IsIn x (y ∷ ys)
    by true h later = ⊎_elim (λ e. inr (inl e)) (λ k. ⊎_elim inl (λ m. inr (inr m)) (later k)) h
    by false h later = h

in-ordered : (x : HeldLatch) (ys : List HeldLatch) → IsIn x (in_order ys) → IsIn x ys
in-ordered x [] h = absurd h
in-ordered x (y ∷ ys) h = ⊎_elim inl (λ k. inr (in-ordered x ys k)) (in-with x y (in_order ys) h)

in-held : (a : Access) (x : HeldLatch) (ys : List Item) → IsIn x (held_of a ys) → (y : Item) × IsIn y ys × (held_as a y ≡ x)
in-held a x [] h = absurd h
in-held a x (y ∷ ys) h = ⊎_elim (λ e. (y, inl refl, e)) (λ k. let o = in-held a x ys k in (o.0, inr o.1, o.2)) h

in-items : (y : Item) (ts : List Row) → IsIn y (items_in ts) → (t : Row) × Among t ts × (item_of t ≡ y)
in-items y [] h = absurd h
in-items y (t ∷ ts) h = ⊎_elim (λ e. (t, inl refl, e)) (λ k. let o = in-items y ts k in (o.0, inr o.1, o.2)) h

in-placed : (y : Item) (ps : List Placed) → IsIn y (placed_items ps) → (p : Placed) × IsIn p ps × (p.item ≡ y)
in-placed y [] h = absurd h
in-placed y (p ∷ ps) h = ⊎_elim (λ e. (p, inl refl, e)) (λ k. let o = in-placed y ps k in (o.0, inr o.1, o.2)) h

in-either : (y : Item) (xs ys : List Item) → IsIn y (xs ++ ys) → IsIn y xs ⊎ IsIn y ys
in-either y [] ys h = inr h
in-either y (x ∷ xs) ys h = ⊎_elim (λ e. inl (inl e)) (λ k. ⊎_elim (λ m. inl (inr m)) inr (in-either y xs ys k)) h

-- ---- a tree's items are live rows
latches-of : (v : SeatView) (root : Option ℕ) (height : ℕ) (ts : List Row) → RefersTo v root height ts → Each IsLatch ts
latches-of v None height ts e = subst (Each IsLatch) (sym e) tt
latches-of v (Some root) height ts o = let n = o.1.stands in node-items o.1.level _ _ _ ts n

each-row : (P : Row → Type 0) (ts : List Row) → Each P ts → (t : Row) → Among t ts → P t
each-row P [] h t m = absurd m
each-row P (u ∷ us) h t m = ⊎_elim (λ e. subst P e h.0) (λ k. each-row P us h.1 t k) m

row-of : (tree : Tree) (ts : List Row) → Fits tree ts → (t : Row) → Among t ts → (row : ℕ) × (tree_word t ≡ suc row)
row-of tree ts fits t m = let o = each-row IsLatch ts (latches-of fits.0 tree.root tree.height ts fits.1.refers) t m in (o.row, o.here)

some-row : (t : Row) (ts : List Row) → Among t ts → 1 ≤ length ts
some-row t [] m = absurd m
some-row t (u ∷ us) m = omega arith

some-placed : (p : Placed) (ps : List Placed) → IsIn p ps → 1 ≤ length ps
some-placed p [] m = absurd m
some-placed p (q ∷ qs) m = omega arith

-- ---- where a held latch stands
pub record Found (s : ScopeTrees) (table : List ℕ) (c : Content) (access : Access) (y : HeldLatch) : Type 0 where
  pub item : Item
  pub stands : StandsIn s c access (slice_index table (y.lane * 16 + y.place)) item
  pub request : item.id ≡ y.by
  pub at : item.place ≡ y.place
  pub within : y.lane * 16 + y.place < length table
  pub some_aside : 5 ≤ aside_of c

-- its row is the table's
pub record Listed (table : List ℕ) (row : ℕ) (y : HeldLatch) : Type 0 where
  pub there : row ≡ slice_index table (y.lane * 16 + y.place)
  pub within : y.lane * 16 + y.place < length table

filed-as : (a : Access) (table : List ℕ) (row : ℕ) (x : Item) (y : HeldLatch) → held_as a x ≡ y → Filed table row x → Listed table row y
filed-as a table row x y e f = subst (Listed table row) e (record { there = f.there; within = f.within })

pub found-write : (s : ScopeTrees) (table : List ℕ) (c : Content) (y : HeldLatch) → Fits s.writes c.writes → IsSound s table c
    → IsIn y (in_order (held_of Write (items_in c.writes))) → Found s table c Write y
found-write s table c y fits sound m =
    let o = in-held Write y (items_in c.writes) (in-ordered y (held_of Write (items_in c.writes)) m) in
    let i = in-items o.0 c.writes o.1 in let r = row-of s.writes c.writes fits i.0 i.1 in
    let f = filed-as Write table r.0 o.0 y o.2 (subst (Filed table r.0) i.2 (sound.filed_writes i.0 i.1 r.0 r.1)) in record {
      item = o.0;
      stands = (i.0, i.1, r.1 ∙ ap suc f.there, i.2);
      request = ap (λ (h : HeldLatch). h.by) o.2;
      at = ap (λ (h : HeldLatch). h.place) o.2;
      within = f.within;
      some_aside = (let a = some-row i.0 c.writes i.1 in omega arith);
    }

found-tree : (s : ScopeTrees) (table : List ℕ) (c : Content) (y : HeldLatch) (x : Item) → Fits s.reads c.reads → IsSound s table c → held_as Read x ≡ y
    → IsIn x (items_in c.reads) → Found s table c Read y
found-tree s table c y x fits sound e m =
    let i = in-items x c.reads m in let r = row-of s.reads c.reads fits i.0 i.1 in
    let f = filed-as Read table r.0 x y e (subst (Filed table r.0) i.2 (sound.filed_reads i.0 i.1 r.0 r.1)) in record {
      item = x;
      stands = inl (i.0, i.1, r.1 ∙ ap suc f.there, i.2, subst (λ (z : Item). z.id < s.writer) i.2 (sound.early i.0 i.1));
      request = ap (λ (h : HeldLatch). h.by) e;
      at = ap (λ (h : HeldLatch). h.place) e;
      within = f.within;
      some_aside = (let a = some-row i.0 c.reads i.1 in omega arith);
    }

found-list : (s : ScopeTrees) (table : List ℕ) (c : Content) (y : HeldLatch) (x : Item) → IsSound s table c → held_as Read x ≡ y
    → IsIn x (placed_items c.pending) → Found s table c Read y
found-list s table c y x sound e m =
    let i = in-placed x c.pending m in
    let f = filed-as Read table i.0.row x y e (subst (Filed table i.0.row) i.2 (sound.filed_pending i.0 i.1)) in record {
      item = x;
      stands = inr (i.0, i.1, f.there, i.2, subst (λ (z : Item). s.writer ≤ z.id) i.2 (sound.late i.0 i.1));
      request = ap (λ (h : HeldLatch). h.by) e;
      at = ap (λ (h : HeldLatch). h.place) e;
      within = f.within;
      some_aside = (let a = some-placed i.0 c.pending i.1 in omega arith);
    }

pub found-read : (s : ScopeTrees) (table : List ℕ) (c : Content) (y : HeldLatch) → Fits s.reads c.reads → IsSound s table c
    → IsIn y (in_order (held_of Read (read_items c))) → Found s table c Read y
found-read s table c y fits sound m =
    let o = in-held Read y (read_items c) (in-ordered y (held_of Read (read_items c)) m) in
    ⊎_elim (λ k. found-tree s table c y o.0 fits sound o.2 k) (λ k. found-list s table c y o.0 sound o.2 k)
    (in-either o.0 (items_in c.reads) (placed_items c.pending) o.1)

-- the row that is read in the table
pub row-read : (table : List ℕ) (k i row : ℕ) → k ≡ i → i < length table → row ≡ get_or table k row → row ≡ slice_index table i
row-read table k i row e low is = is ∙ (ap (λ j. get_or table j row) e ∙ get_or_default table i row 0 low)
