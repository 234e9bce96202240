-- One latch comes into a scope's trees or its list, or goes out of them.
use Rattle.std.proofs.Common.{◌≡◌, ◌≢◌, ⊎_elim, inl, inr, ℕ, suc, ◌+◌, ◌<◌, ◌≤◌, true, false, true≢false, eqb, List, [], ◌∷◌, ◌++◌, length, ap, sym, refl}
use Rattle.std.proofs.Common.{◌∙◌, subst, arith}
use Rattle.std.specs.List.{IsDistinct, filter}
use Rattle.std.proofs.lemmas.List.{append-nil, append_assoc, length-append, map-append}
use Rattle.row_pool.proofs.Chains.{mem-append, mem-here, mem-head, mem-left, mem-right, mem-tail}
use Rattle.row_pool.specs.declared.chain.Chain.{Chain}
use Rattle.row_pool.specs.Lists.{find, mem}
use Rattle.row_pool.specs.SeatState.{SameSeat}
use Rattle.row_pool.specs.SeatView.{SeatView}
use Rattle.row_pool.specs.Trees.{Tree as Row, tree_word}
use Rattle.hlc_stamp.specs.declared.Stamp.{Stamp}
use Rattle.span_key.specs.Spans.{Pair}
use Rattle.latch_item.specs.Items.{Item, OwnsItem, item_of}
use Rattle.latch_item.specs.Shape.{Among}
use Rattle.latch_model.specs.Histories.{in_order, with_latch}
use Rattle.latch_model.specs.declared.latch.Access.{Access}
use Rattle.latch_model.specs.declared.latch.Access.TheVariants.{Read, Write}
use Rattle.interval_tree.proofs.Growing.{inserted-long}
use Rattle.interval_tree.specs.declared.tree.Tree.{Tree}
use Rattle.tree_shrink.specs.Stages.{Removed}
use Rattle.read_list.proofs.Links.{list-stays}
use Rattle.read_list.proofs.Rows.{distinct-head, mem-else, mem-not}
use Rattle.read_list.specs.Lists.{IsReadList, OnlyLinksChange}
use Rattle.read_list.specs.declared.list.ReadList.{ReadList}
use Rattle.latch_shots.specs.Held.{held_as}
use Rattle.latch_shots.specs.Roots.{Root}
use Rattle.held_latches.specs.Content.{AllApart, Apart, Content, EachOf, IsIn, held_of, is_other, items_in, placed_items, read_items}
use Rattle.held_latches.specs.Scopes.{AddedRead, AddedWrite, Around, ScopeHas, TookPending, TookRead, TookWrite, loose_with, roots_with}
use Rattle.held_latches.specs.Steps.{CanGrow, CanShrink, Grown, PoolHas, Shrunk, Stay, free_rows}
use Rattle.held_latches.specs.Stock.{Placed, Stock, rows_of, tree_root}
use Rattle.held_latches.specs.declared.pool.Pool.{Pool}
use Rattle.held_latches.specs.declared.scopes.ScopeTrees.{ScopeTrees}
use Rattle.held_latches.proofs.Contents.{all-differ, among-append, among-left, among-right, apart-back, apart-first, apart-front, apart-swap, distinct-middle}
use Rattle.held_latches.proofs.Contents.{each-append, each-map, inserted-among, items-append}
use Rattle.held_latches.proofs.Flushes.{one-more, reads-roots}
use Rattle.held_latches.proofs.Order.{gone, moved}
use Rattle.held_latches.proofs.Stocks.{loose-back, loose-first, rows-append, stock-links}

-- ---- the rows of the loose items
rows-loose : (c : Content) (a : Around) → rows_of (loose_with c a) ≡ rows_of a.before ++ (rows_of c.pending ++ rows_of a.after)
rows-loose c a = rows-append a.before (c.pending ++ a.after) ∙ ap (λ l. rows_of a.before ++ l) (rows-append c.pending a.after)

in-pending : (c : Content) (a : Around) (q : ℕ) → mem q (rows_of c.pending) ≡ true → mem q (rows_of (loose_with c a)) ≡ true
in-pending c a q m = subst (λ l. mem q l ≡ true) (sym (rows-loose c a))
    (mem-right q (rows_of a.before) (rows_of c.pending ++ rows_of a.after) (mem-left q (rows_of c.pending) (rows_of a.after) m))

in-around : (c : Content) (a : Around) (q : ℕ) → mem q (rows_of (a.before ++ a.after)) ≡ true → mem q (rows_of (loose_with c a)) ≡ true
in-around c a q m = subst (λ l. mem q l ≡ true) (sym (rows-loose c a)) (⊎_elim (λ b. mem-left q (rows_of a.before) (rows_of c.pending ++ rows_of a.after) b)
    (λ b. mem-right q (rows_of a.before) (rows_of c.pending ++ rows_of a.after) (mem-right q (rows_of c.pending) (rows_of a.after) b.1))
    (mem-append q (rows_of a.before) (rows_of a.after) (subst (λ l. mem q l ≡ true) (rows-append a.before a.after) m)))

-- a row around is none of the pending reads'
around-apart : (c : Content) (a : Around) (q : ℕ) → IsDistinct eqb (rows_of (loose_with c a)) → mem q (rows_of (a.before ++ a.after)) ≡ true
    → mem q (rows_of c.pending) ≡ false
around-apart c a q apart m = distinct-middle (rows_of a.before) (rows_of c.pending) (rows_of a.after) (subst (IsDistinct eqb) (rows-loose c a) apart) q
    (subst (λ l. mem q l ≡ true) (rows-append a.before a.after) m)

-- ---- the order of the items, and how they are apart
item-came : (access : Access) (f : List Item) (x : Item) (b old new : List Item) → old ≡ f ++ b → new ≡ f ++ x ∷ b → EachOf (λ (y : Item). Apart y x) old
    → AllApart old → (in_order (held_of access new) ≡ with_latch (held_as access x) (in_order (held_of access old))) × AllApart new
item-came access f x b old new before now apart all =
    let others = subst (EachOf (λ (y : Item). Apart y x)) before apart in (
      ap (λ l. in_order (held_of access l)) now ∙ moved access f x b (each-append (λ (y : Item). Apart y x) f b others).0
          ∙ ap (λ l. with_latch (held_as access x) (in_order (held_of access l))) (sym before),
      subst AllApart (sym now) (apart-back f x b
          (each-map (λ (y : Item). Apart y x) (λ (y : Item). Apart x y) (λ y h. apart-swap y x h) (f ++ b) others, subst AllApart before all)),
    )

item-gone : (access : Access) (f : List Item) (x : Item) (b old new : List Item) → old ≡ f ++ x ∷ b → new ≡ f ++ b → AllApart old
    → (in_order (held_of access new) ≡ filter (is_other x.id x.place) (in_order (held_of access old))) × AllApart new
item-gone access f x b old new before now all =
    let those = subst AllApart before all in let first = apart-first f x b those in (
      ap (λ l. in_order (held_of access l)) now
          ∙ gone access f x b (apart-front f x b those)
          (each-map (λ (y : Item). Apart x y) (λ (y : Item). Apart y x) (λ y h. apart-swap x y h) b (each-append (λ (y : Item). Apart x y) f b first.0).1)
          ∙ ap (λ l. filter (is_other x.id x.place) (in_order (held_of access l))) (sym before),
      subst AllApart (sym now) first.1,
    )

pub same-then : (u v w : SeatView) → SameSeat u v → SameSeat v w → SameSeat u w
same-then u v w a b = record { number = b.number ∙ a.number; out = b.out ∙ a.out; size = b.size ∙ a.size }

-- ---- an item comes
abbrev pub item_with : ℕ → ℕ → ℕ → Pair → Stamp → Item
item_with id place lane span stamp = record { id = id; place = place; lane = lane; span = span; stamp = stamp }

abbrev pub placed_at : ℕ → Item → Placed
placed_at row x = record { row = row; item = x }

pub same-item : (p : Pool) (roots : List Root) (row : ℕ) (x y : Item) (loose : List Placed) → x ≡ y → PoolHas p roots (placed_at row x ∷ loose)
    → PoolHas p roots (placed_at row y ∷ loose)
same-item p roots row x y loose e h = subst (λ z. PoolHas p roots (placed_at row z ∷ loose)) e h

-- ---- a write comes
pub can-add-write : (old mid : Pool) (s : ScopeTrees) (c : Content) (a : Around) (row : ℕ) (x : Item) → ScopeHas old s c a
    → EachOf (λ (y : Item). Apart y x) (items_in c.writes) → length c.writes < 8190
    → PoolHas mid (roots_with s c a) (placed_at row x ∷ loose_with c a)
    → CanGrow mid s.writes row a.front (tree_root s.reads c.reads ∷ a.back) c.writes x (loose_with c a)
can-add-write old mid s c a row x h apart many stock = record {
  stock = stock;
  fits = h.fits_writes;
  differs = all-differ x c.writes apart;
  many = many;
  few = (let b = a.few in omega arith);
}

pub added-write : (old mid new : Pool) (s : ScopeTrees) (tree : Tree) (c : Content) (a : Around) (row : ℕ) (x : Item) → (h : ScopeHas old s c a)
    → EachOf (λ (y : Item). Apart y x) (items_in c.writes) → AllApart (items_in c.writes) → Stay (loose_with c a) old mid → free_rows old ≡ free_rows mid + 1
    → Grown mid new tree row a.front (tree_root s.reads c.reads ∷ a.back) c.writes x (loose_with c a)
    → (d : Content) × AddedWrite old new s (record { writes = tree; reads = s.reads; pending = s.pending; writer = s.writer }) c d a row x
added-write old mid new s tree c a row x h apart all first took g =
    let d : Content = record { writes = g.more; reads = c.reads; pending = c.pending } in
    let o = item-came Write (items_in g.inserted.front) x (items_in g.inserted.back) (items_in c.writes) (items_in g.more)
    (ap items_in g.inserted.old ∙ items-append g.inserted.front g.inserted.back)
    (ap items_in g.inserted.new ∙ items-append g.inserted.front (g.it ∷ g.inserted.back)
    ∙ ap (λ y. items_in g.inserted.front ++ y ∷ items_in g.inserted.back) g.is) apart all in (
      d,
      record {
        has = record {
          stock = g.stock;
          fits_writes = g.fits;
          fits_reads = h.fits_reads;
          listed = list-stays old.seat.view new.seat.view s.pending (rows_of c.pending) (λ q m. stay q (in-pending c a q m)) h.listed;
        };
        reads = (refl, refl);
        order = o.0;
        apart = o.1;
        many = (let b = inserted-long g.it c.writes g.more g.inserted in omega arith);
        spent = (let b = g.spent in omega arith);
        stay = λ q m. stay q (in-around c a q m);
        came = λ u m. ⊎_elim inl (λ (z : g.it ≡ u). inr (subst (λ k. tree_word k ≡ suc row) z g.here, subst (λ k. item_of k ≡ x) z g.is))
            (inserted-among g.it c.writes g.more g.inserted u m);
      },
    )
  where
    stay : (q : ℕ) → mem q (rows_of (loose_with c a)) ≡ true → find q new.seat.view.owned ≡ find q old.seat.view.owned
    stay q m = g.stay q m ∙ first q m

-- ---- a read comes
pub still-listed : (old mid : Pool) (s : ScopeTrees) (c : Content) (a : Around) → ScopeHas old s c a → Stay (loose_with c a) old mid
    → IsReadList mid.seat.view s.pending (rows_of c.pending)
still-listed old mid s c a h stay = list-stays old.seat.view mid.seat.view s.pending (rows_of c.pending) (λ q m. stay q (in-pending c a q m)) h.listed

pub not-listed : (p : Pool) (roots : List Root) (c : Content) (a : Around) (row : ℕ) (x : Item) → PoolHas p roots (placed_at row x ∷ loose_with c a)
    → mem row (rows_of c.pending) ≡ false
not-listed p roots c a row x h = mem-not row (rows_of c.pending)
    (λ m. true≢false (sym (in-pending c a row m) ∙ distinct-head row (rows_of (loose_with c a)) h.apart))

pub added-read : (old mid new : Pool) (s : ScopeTrees) (list : ReadList) (c : Content) (a : Around) (row : ℕ) (x : Item) → (h : ScopeHas old s c a)
    → EachOf (λ (y : Item). Apart y x) (read_items c) → AllApart (read_items c) → (made : PoolHas mid (roots_with s c a) (placed_at row x ∷ loose_with c a))
    → Stay (loose_with c a) old mid → free_rows old ≡ free_rows mid + 1 → new.chain ≡ mid.chain
    → IsReadList new.seat.view list (rows_of c.pending ++ row ∷ []) → OnlyLinksChange (row ∷ rows_of c.pending) mid.seat.view new.seat.view
    → ((r : ℕ) (y : Item) → OwnsItem mid.seat.view r y → OwnsItem new.seat.view r y)
    → (d : Content) × AddedRead old new s (record { writes = s.writes; reads = s.reads; pending = list; writer = s.writer }) c d a row x
added-read old mid new s list c a row x h apart all made first took chain listed only stand =
    let d : Content = record { writes = c.writes; reads = c.reads; pending = c.pending ++ placed_at row x ∷ [] } in
    let on = stock-links mid.seat.view new.seat.view mid.chain (roots_with s c a) (placed_at row x ∷ loose_with c a)
    (row ∷ rows_of c.pending) only inside stand made in
    let last = loose-back new.seat.view mid.chain (roots_with s c a) (a.before ++ c.pending) (placed_at row x) a.after
    (subst (λ (l : List Placed). Stock new.seat.view mid.chain (roots_with s c a) (placed_at row x ∷ l)) (sym (append_assoc a.before c.pending a.after)) on) in
    let whole : (a.before ++ c.pending) ++ placed_at row x ∷ a.after ≡ loose_with d a =
    append_assoc a.before c.pending (placed_at row x ∷ a.after) ∙ ap (λ l. a.before ++ l) (sym (append_assoc c.pending (placed_at row x ∷ []) a.after)) in
    let o = item-came Read (read_items c) x [] (read_items c) (read_items d) (sym (append-nil (read_items c)))
    (ap (λ l. items_in c.reads ++ l) (map-append (λ (p : Placed). p.item) c.pending (placed_at row x ∷ []))
    ∙ sym (append_assoc (items_in c.reads) (placed_items c.pending) (x ∷ []))) apart all in (
      d,
      record {
        has = record {
          stock = subst (λ (k : Chain). Stock new.seat.view k (roots_with s c a) (loose_with d a)) (sym chain)
              (subst (λ (l : List Placed). Stock new.seat.view mid.chain (roots_with s c a) l) whole last);
          fits_writes = h.fits_writes;
          fits_reads = h.fits_reads;
          listed = subst (λ l. IsReadList new.seat.view list l) (sym (rows-append c.pending (placed_at row x ∷ []))) listed;
        };
        trees = (refl, refl);
        pending = refl;
        order = o.0;
        apart = o.1;
        spent = (let b = ap (λ (k : Chain). k.len) chain in omega arith);
        stay = λ q m. only.only.others q (mem-else q row (rows_of c.pending) (other q (in-around c a q m)) (around-apart c a q h.stock.apart m))
            ∙ first q (in-around c a q m);
      },
    )
  where
    inside : (q : ℕ) → mem q (row ∷ rows_of c.pending) ≡ true → mem q (rows_of (placed_at row x ∷ loose_with c a)) ≡ true
    inside q m = ⊎_elim (λ (z : row ≡ q). subst (λ k. mem q (k ∷ rows_of (loose_with c a)) ≡ true) (sym z) (mem-here q (rows_of (loose_with c a))))
        (λ b. mem-tail q row (rows_of (loose_with c a)) (in-pending c a q b.1)) (mem-head q row (rows_of c.pending) m)

    other : (q : ℕ) → mem q (rows_of (loose_with c a)) ≡ true → q ≢ row
    other q m z = true≢false (sym (subst (λ k. mem k (rows_of (loose_with c a)) ≡ true) z m) ∙ distinct-head row (rows_of (loose_with c a)) made.apart)

-- ---- an item goes out of a tree
removed-long : (it : Row) (xs ys : List Row) → Removed it xs ys → suc (length ys) ≡ length xs
removed-long it xs ys o = let a = ap length o.old in let b = ap length o.new in let d = length-append o.front o.back in
    let e = length-append o.front (it ∷ o.back) in omega arith

removed-among : (it : Row) (xs ys : List Row) → Removed it xs ys → (t : Row) → Among t ys → Among t xs
removed-among it xs ys o t h = subst (Among t) (sym o.old) (⊎_elim (λ b. among-left t o.front (it ∷ o.back) b)
    (λ b. among-right t o.front (it ∷ o.back) (inr b)) (among-append t o.front o.back (subst (Among t) o.new h)))

-- ---- a write goes
pub can-take-write : (p : Pool) (s : ScopeTrees) (c : Content) (a : Around) (it : Row) (row : ℕ) → ScopeHas p s c a → Among it c.writes
    → tree_word it ≡ suc row → CanShrink p s.writes row a.front (tree_root s.reads c.reads ∷ a.back) c.writes it (loose_with c a)
can-take-write p s c a it row h among here = record {
  stock = h.stock;
  fits = h.fits_writes;
  among = among;
  here = here;
  few = (let b = a.few in omega arith);
}

pub took-write : (old new : Pool) (s : ScopeTrees) (tree : Tree) (c : Content) (a : Around) (it : Row) → (h : ScopeHas old s c a)
    → AllApart (items_in c.writes) → Shrunk old new tree a.front (tree_root s.reads c.reads ∷ a.back) c.writes it (loose_with c a)
    → (d : Content) × TookWrite old new s (record { writes = tree; reads = s.reads; pending = s.pending; writer = s.writer }) c d a it
took-write old new s tree c a it h all g =
    let d : Content = record { writes = g.less; reads = c.reads; pending = c.pending } in
    let o = item-gone Write (items_in g.removed.front) (item_of it) (items_in g.removed.back) (items_in c.writes) (items_in g.less)
    (ap items_in g.removed.old ∙ items-append g.removed.front (it ∷ g.removed.back))
    (ap items_in g.removed.new ∙ items-append g.removed.front g.removed.back) all in (
      d,
      record {
        has = record { stock = g.stock; fits_writes = g.fits; fits_reads = h.fits_reads; listed = still-listed old new s c a h g.stay };
        reads = (refl, refl);
        order = o.0;
        apart = o.1;
        many = removed-long it c.writes g.less g.removed;
        spent = g.spent;
        stay = λ q m. g.stay q (in-around c a q m);
        left = λ t m. removed-among it c.writes g.less g.removed t m;
      },
    )

-- ---- a read goes out of the tree
pub can-take-read : (p : Pool) (s : ScopeTrees) (c : Content) (a : Around) (it : Row) (row : ℕ) → ScopeHas p s c a → Among it c.reads → tree_word it ≡ suc row
    → CanShrink p s.reads row (a.front ++ tree_root s.writes c.writes ∷ []) a.back c.reads it (loose_with c a)
can-take-read p s c a it row h among here = record {
  stock = subst (λ (rs : List Root). Stock p.seat.view p.chain rs (loose_with c a)) (sym (reads-roots s c a)) h.stock;
  fits = h.fits_reads;
  among = among;
  here = here;
  few = one-more a.front (tree_root s.writes c.writes) a.back a.few;
}

pub took-read : (old new : Pool) (s : ScopeTrees) (tree : Tree) (c : Content) (a : Around) (it : Row) → (h : ScopeHas old s c a) → AllApart (read_items c)
    → Shrunk old new tree (a.front ++ tree_root s.writes c.writes ∷ []) a.back c.reads it (loose_with c a)
    → (d : Content) × TookRead old new s (record { writes = s.writes; reads = tree; pending = s.pending; writer = s.writer }) c d a it
took-read old new s tree c a it h all g =
    let d : Content = record { writes = c.writes; reads = g.less; pending = c.pending } in
    let t : ScopeTrees = record { writes = s.writes; reads = tree; pending = s.pending; writer = s.writer } in
    let f = items_in g.removed.front in let b = items_in g.removed.back in let rest = placed_items c.pending in
    let o = item-gone Read f (item_of it) (b ++ rest) (read_items c) (read_items d)
    (ap (λ l. l ++ rest) (ap items_in g.removed.old ∙ items-append g.removed.front (it ∷ g.removed.back)) ∙ append_assoc f (item_of it ∷ b) rest)
    (ap (λ l. l ++ rest) (ap items_in g.removed.new ∙ items-append g.removed.front g.removed.back) ∙ append_assoc f b rest) all in (
      d,
      record {
        has = record {
          stock = subst (λ (rs : List Root). Stock new.seat.view new.chain rs (loose_with c a)) (reads-roots t d a) g.stock;
          fits_writes = h.fits_writes;
          fits_reads = g.fits;
          listed = still-listed old new s c a h g.stay;
        };
        others = (refl, refl);
        order = o.0;
        apart = o.1;
        many = removed-long it c.reads g.less g.removed;
        spent = g.spent;
        stay = λ q m. g.stay q (in-around c a q m);
        left = λ t m. removed-among it c.reads g.less g.removed t m;
      },
    )

-- ---- a read goes out of the list
pub record Parted (p : Placed) (l : List Placed) : Type 0 where
  pub front : List Placed
  pub back : List Placed
  pub whole : l ≡ front ++ p ∷ back

parted-first : (p y : Placed) (ys : List Placed) → y ≡ p → Parted p (y ∷ ys)
parted-first p y ys z = record { front = []; back = ys; whole = ap (λ (k : Placed). k ∷ ys) z }

parted-later : (p y : Placed) (ys : List Placed) → Parted p ys → Parted p (y ∷ ys)
parted-later p y ys o = record { front = y ∷ o.front; back = o.back; whole = ap (λ (l : List Placed). y ∷ l) o.whole }

pub parted-at : (p : Placed) (l : List Placed) → IsIn p l → Parted p l
parted-at p [] h = absurd h
parted-at p (y ∷ ys) h = ⊎_elim (λ z. parted-first p y ys z) (λ b. parted-later p y ys (parted-at p ys b)) h

in-more : (q p : Placed) (xs ys : List Placed) → IsIn q (xs ++ ys) → IsIn q (xs ++ p ∷ ys)
in-more q p [] ys h = inr h
in-more q p (x ∷ xs) ys h = ⊎_elim inl (λ b. inr (in-more q p xs ys b)) h

parted-rows : (p : Placed) (l : List Placed) (row : ℕ) → (o : Parted p l) → p.row ≡ row → rows_of l ≡ rows_of o.front ++ row ∷ rows_of o.back
parted-rows p l row o e = ap rows_of o.whole ∙ rows-append o.front (p ∷ o.back) ∙ ap (λ r. rows_of o.front ++ r ∷ rows_of o.back) e

parted-long : (p : Placed) (l : List Placed) → (o : Parted p l) → suc (length (o.front ++ o.back)) ≡ length l
parted-long p l o = let a = ap (λ (k : List Placed). length k) o.whole in let b = length-append o.front (p ∷ o.back) in
    let d = length-append o.front o.back in omega arith

pub list-parted : (v : SeatView) (list : ReadList) (p : Placed) (l : List Placed) (row : ℕ) → (o : Parted p l) → p.row ≡ row → IsReadList v list (rows_of l)
    → IsReadList v list (rows_of o.front ++ row ∷ rows_of o.back)
list-parted v list p l row o e h = subst (λ rs. IsReadList v list rs) (parted-rows p l row o e) h

abbrev pub without_at : (c : Content) (p : Placed) → Parted p c.pending → Content
without_at c p o = record { writes = c.writes; reads = c.reads; pending = o.front ++ o.back }

pub roots-few : (s : ScopeTrees) (c : Content) (a : Around) → length (roots_with s c a) ≤ 16
roots-few s c a = let b = length-append a.front (tree_root s.writes c.writes ∷ tree_root s.reads c.reads ∷ a.back) in let d = a.few in omega arith

-- it is out of the list, and its row can be given back
pub unlinked : (old mid : Pool) (s : ScopeTrees) (c : Content) (a : Around) (p : Placed) (row : ℕ) → (h : ScopeHas old s c a) → (o : Parted p c.pending)
    → p.row ≡ row → mid.chain ≡ old.chain → OnlyLinksChange (rows_of o.front ++ rows_of o.back) old.seat.view mid.seat.view
    → ((r : ℕ) (y : Item) → OwnsItem old.seat.view r y → OwnsItem mid.seat.view r y)
    → PoolHas mid (roots_with s c a) (placed_at row p.item ∷ loose_with (without_at c p o) a)
unlinked old mid s c a p row h o e chain only stand =
    let rs = roots_with s c a in
    let on = stock-links old.seat.view mid.seat.view old.chain rs (loose_with c a) (rows_of o.front ++ rows_of o.back) only inside stand h.stock in
    let whole : loose_with c a ≡ (a.before ++ o.front) ++ p ∷ (o.back ++ a.after) = ap (λ (l : List Placed). a.before ++ (l ++ a.after)) o.whole
    ∙ ap (λ (l : List Placed). a.before ++ l) (append_assoc o.front (p ∷ o.back) a.after) ∙ sym (append_assoc a.before o.front (p ∷ (o.back ++ a.after))) in
    let rest : (a.before ++ o.front) ++ (o.back ++ a.after) ≡ loose_with (without_at c p o) a =
    append_assoc a.before o.front (o.back ++ a.after) ∙ ap (λ (l : List Placed). a.before ++ l) (sym (append_assoc o.front o.back a.after)) in
    let first = loose-first mid.seat.view old.chain rs (a.before ++ o.front) p (o.back ++ a.after)
    (subst (λ (l : List Placed). Stock mid.seat.view old.chain rs l) whole on) in
    let now = subst (λ (l : List Placed). Stock mid.seat.view old.chain rs (p ∷ l)) rest first in
    subst (λ r. PoolHas mid rs (placed_at r p.item ∷ loose_with (without_at c p o) a)) e
    (subst (λ (k : Chain). Stock mid.seat.view k rs (p ∷ loose_with (without_at c p o) a)) (sym chain) now)
  where
    inside : (q : ℕ) → mem q (rows_of o.front ++ rows_of o.back) ≡ true → mem q (rows_of (loose_with c a)) ≡ true
    inside q m = in-pending c a q (subst (λ l. mem q l ≡ true) (sym (parted-rows p c.pending p.row o refl))
        (⊎_elim (λ b. mem-left q (rows_of o.front) (p.row ∷ rows_of o.back) b)
        (λ b. mem-right q (rows_of o.front) (p.row ∷ rows_of o.back) (mem-tail q p.row (rows_of o.back) b.1))
        (mem-append q (rows_of o.front) (rows_of o.back) m)))

pub took-pending : (old mid new : Pool) (s : ScopeTrees) (list : ReadList) (c : Content) (a : Around) (p : Placed) → (h : ScopeHas old s c a)
    → AllApart (read_items c) → (o : Parted p c.pending) → mid.chain ≡ old.chain
    → OnlyLinksChange (rows_of o.front ++ rows_of o.back) old.seat.view mid.seat.view → IsReadList mid.seat.view list (rows_of o.front ++ rows_of o.back)
    → (after : PoolHas new (roots_with s c a) (loose_with (without_at c p o) a)) → Stay (loose_with (without_at c p o) a) mid new
    → free_rows mid ≤ free_rows new
    → (d : Content) × TookPending old new s (record { writes = s.writes; reads = s.reads; pending = list; writer = s.writer }) c d a p
took-pending old mid new s list c a p h all o chain only listed after stay freed =
    let d : Content = without_at c p o in
    let g = item-gone Read (items_in c.reads ++ placed_items o.front) p.item (placed_items o.back) (read_items c) (read_items d)
    (ap (λ l. items_in c.reads ++ l) (ap placed_items o.whole ∙ map-append (λ (y : Placed). y.item) o.front (p ∷ o.back))
    ∙ sym (append_assoc (items_in c.reads) (placed_items o.front) (p.item ∷ placed_items o.back)))
    (ap (λ l. items_in c.reads ++ l) (map-append (λ (y : Placed). y.item) o.front o.back)
    ∙ sym (append_assoc (items_in c.reads) (placed_items o.front) (placed_items o.back))) all in (
      d,
      record {
        has = record {
          stock = after;
          fits_writes = h.fits_writes;
          fits_reads = h.fits_reads;
          listed = subst (λ l. IsReadList new.seat.view list l) (sym (rows-append o.front o.back))
              (list-stays mid.seat.view new.seat.view list (rows_of o.front ++ rows_of o.back)
              (λ q m. stay q (in-pending d a q (subst (λ l. mem q l ≡ true) (sym (rows-append o.front o.back)) m))) listed);
        };
        trees = (refl, refl);
        order = g.0;
        apart = g.1;
        many = parted-long p c.pending o;
        spent = (let b = ap (λ (k : Chain). k.len) chain in omega arith);
        stay = λ q m. stay q (in-around d a q m)
            ∙ only.only.others q (subst (λ l. mem q l ≡ false) (rows-append o.front o.back) (around-apart d a q after.apart m));
        left = λ q m. subst (IsIn q) (sym o.whole) (in-more q p o.front o.back m);
      },
    )
