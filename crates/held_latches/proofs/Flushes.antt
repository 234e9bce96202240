-- A pending read goes into the tree.
use Rattle.std.proofs.Common.{◌≡◌, ⊎_elim, inl, inr, ℕ, suc, ◌+◌, ◌<◌, ◌≤◌, true, false, eqb, List, [], ◌∷◌, ◌++◌, length, ap, sym, refl, ◌∙◌, subst, arith}
use Rattle.std.specs.List.{IsDistinct}
use Rattle.std.proofs.lemmas.List.{append_assoc, length-append}
use Rattle.row_pool.proofs.Chains.{mem-append, mem-left, mem-right, mem-tail}
use Rattle.row_pool.specs.Lists.{mem}
use Rattle.row_pool.specs.SeatView.{SeatView}
use Rattle.row_pool.specs.Trees.{Tree as Row, tree_word}
use Rattle.latch_item.specs.Items.{Item, OwnsItem, item_of}
use Rattle.latch_model.specs.Histories.{in_order, with_latch}
use Rattle.latch_model.specs.declared.latch.Access.TheVariants.{Read}
use Rattle.interval_tree.proofs.Growing.{inserted-long}
use Rattle.interval_tree.specs.Nodes.{Inserted}
use Rattle.interval_tree.specs.declared.tree.Tree.{Tree}
use Rattle.read_list.proofs.Links.{list-stays}
use Rattle.read_list.specs.Lists.{IsReadList, OnlyLinksChange}
use Rattle.read_list.specs.declared.list.ReadList.{ReadList}
use Rattle.latch_shots.specs.Held.{held_as}
use Rattle.latch_shots.specs.Roots.{Root}
use Rattle.held_latches.specs.Content.{AllApart, Apart, Content, EachOf, IsIn, held_of, items_in, placed_items, read_items}
use Rattle.held_latches.specs.Scopes.{Around, Flushing, ScopeHas, loose_with, roots_with}
use Rattle.held_latches.specs.Steps.{CanGrow, Grown, SamePool}
use Rattle.held_latches.specs.Stock.{Placed, Stock, rows_of, tree_root}
use Rattle.held_latches.specs.declared.pool.Pool.{Pool}
use Rattle.held_latches.specs.declared.scopes.ScopeTrees.{ScopeTrees}
use Rattle.held_latches.proofs.Contents.{all-differ, apart-back, apart-first, apart-front, distinct-middle}
use Rattle.held_latches.proofs.Contents.{each-append, inserted-among, items-append, pending-first}
use Rattle.held_latches.proofs.Order.{moved}
use Rattle.held_latches.proofs.Stocks.{loose-first, rows-append, stock-links}

-- the reads' root among the others
pub reads-roots : (s : ScopeTrees) (c : Content) (a : Around)
    → (a.front ++ tree_root s.writes c.writes ∷ []) ++ tree_root s.reads c.reads ∷ a.back ≡ roots_with s c a
reads-roots s c a = append_assoc a.front (tree_root s.writes c.writes ∷ []) (tree_root s.reads c.reads ∷ a.back)

pub one-more : (front : List Root) (r : Root) (back : List Root) → length front + length back ≤ 8 → length (front ++ r ∷ []) + length back ≤ 16
one-more front r back few = let a = length-append front (r ∷ []) in omega arith

-- the first pending read is out of the list
pub can-flush : (old mid : Pool) (s : ScopeTrees) (writes reads : List Row) (p : Placed) (ps : List Placed) (a : Around)
    → (h : ScopeHas old s (record { writes = writes; reads = reads; pending = p ∷ ps }) a) → AllApart (items_in reads ++ p.item ∷ placed_items ps)
    → length reads < 8190 → mid.chain ≡ old.chain → OnlyLinksChange (rows_of ps) old.seat.view mid.seat.view
    → ((row : ℕ) (x : Item) → OwnsItem old.seat.view row x → OwnsItem mid.seat.view row x)
    → CanGrow mid s.reads p.row (a.front ++ tree_root s.writes writes ∷ []) a.back reads p.item (a.before ++ (ps ++ a.after))
can-flush old mid s writes reads p ps a h apart many chain only stand =
    let c : Content = record { writes = writes; reads = reads; pending = p ∷ ps } in
    let inside : (q : ℕ) → mem q (rows_of ps) ≡ true → mem q (rows_of (loose_with c a)) ≡ true =
    λ q m. subst (λ l. mem q l ≡ true) (sym (rows-append a.before (p ∷ (ps ++ a.after))))
    (mem-right q (rows_of a.before) (rows_of (p ∷ (ps ++ a.after))) (mem-tail q p.row (rows_of (ps ++ a.after))
    (subst (λ l. mem q l ≡ true) (sym (rows-append ps a.after)) (mem-left q (rows_of ps) (rows_of a.after) m)))) in
    let on = stock-links old.seat.view mid.seat.view old.chain (roots_with s c a) (loose_with c a) (rows_of ps) only inside stand h.stock in
    let first = loose-first mid.seat.view old.chain (roots_with s c a) a.before p (ps ++ a.after) on in
    record {
      stock = subst (λ rs. Stock mid.seat.view mid.chain rs (p ∷ (a.before ++ (ps ++ a.after)))) (sym (reads-roots s c a))
          (subst (λ d. Stock mid.seat.view d (roots_with s c a) (p ∷ (a.before ++ (ps ++ a.after)))) (sym chain) first);
      fits = h.fits_reads;
      differs = all-differ p.item reads (apart-front (items_in reads) p.item (placed_items ps) apart);
      many = many;
      few = one-more a.front (tree_root s.writes writes) a.back a.few;
    }

-- the order of the reads and how they are apart, where one moves into the tree
pub read-moved : (it : Row) (reads more : List Row) (x : Item) (P : List Item) → item_of it ≡ x → Inserted it reads more → AllApart (items_in reads ++ x ∷ P)
    → (in_order (held_of Read (items_in more ++ P)) ≡ in_order (held_of Read (items_in reads ++ x ∷ P))) × AllApart (items_in more ++ P)
read-moved it reads more x P is o apart =
    let f = items_in o.front in let b = items_in o.back in
    let old : items_in reads ≡ f ++ b = ap items_in o.old ∙ items-append o.front o.back in
    let new : items_in more ++ P ≡ f ++ x ∷ (b ++ P) =
    ap (λ l. l ++ P) (ap items_in o.new ∙ items-append o.front (it ∷ o.back) ∙ ap (λ y. f ++ y ∷ b) is) ∙ append_assoc f (x ∷ b) P in
    let before : items_in reads ++ P ≡ f ++ (b ++ P) = ap (λ l. l ++ P) old ∙ append_assoc f b P in
    let reads_apart = apart-front (items_in reads) x P apart in
    let f_apart = (each-append (λ y. Apart y x) f b (subst (EachOf (λ y. Apart y x)) old reads_apart)).0 in (
      ap (λ l. in_order (held_of Read l)) new ∙ moved Read f x (b ++ P) f_apart
          ∙ ap (λ l. with_latch (held_as Read x) (in_order (held_of Read l))) (sym before) ∙ sym (moved Read (items_in reads) x P reads_apart),
      subst AllApart (sym new) (apart-back f x (b ++ P) (subst (λ l. AllApart (x ∷ l)) before (apart-first (items_in reads) x P apart))),
    )

pub flushed : (old mid new : Pool) (s : ScopeTrees) (list : ReadList) (tree : Tree) (writes reads : List Row) (p : Placed) (ps : List Placed) (a : Around)
    → (h : ScopeHas old s (record { writes = writes; reads = reads; pending = p ∷ ps }) a) → AllApart (items_in reads ++ p.item ∷ placed_items ps)
    → mid.chain ≡ old.chain → OnlyLinksChange (rows_of ps) old.seat.view mid.seat.view → IsReadList mid.seat.view list (rows_of ps)
    → Grown mid new tree p.row (a.front ++ tree_root s.writes writes ∷ []) a.back reads p.item (a.before ++ (ps ++ a.after))
    → (d : Content) × Flushing old new s (record { writes = s.writes; reads = tree; pending = list; writer = s.writer })
    (record { writes = writes; reads = reads; pending = p ∷ ps }) d a
flushed old mid new s list tree writes reads p ps a h apart chain only listed g =
    let d : Content = record { writes = writes; reads = g.more; pending = ps } in
    let t : ScopeTrees = record { writes = s.writes; reads = tree; pending = list; writer = s.writer } in
    let order = read-moved g.it reads g.more p.item (placed_items ps) g.is g.inserted apart in (
      d,
      record {
        has = record {
          stock = subst (λ rs. Stock new.seat.view new.chain rs (loose_with d a)) (reads-roots t d a) g.stock;
          fits_writes = h.fits_writes;
          fits_reads = g.fits;
          listed = list-stays mid.seat.view new.seat.view list (rows_of ps) (λ q m. g.stay q (in_loose q m)) listed;
        };
        writes = (refl, refl);
        order = order.0;
        apart = order.1;
        many = (let b = inserted-long g.it reads g.more g.inserted in omega arith);
        spent = (let b = g.spent in let e = ap (λ c. c.len) chain in omega arith);
        stay = λ q m. g.stay q (around q m) ∙ only.only.others q (beside q m);
        came = λ u m. ⊎_elim inl (λ (z : g.it ≡ u). inr (p, inl refl, ap tree_word (sym z) ∙ g.here, ap item_of (sym z) ∙ g.is))
            (inserted-among g.it reads g.more g.inserted u m);
        left = λ q m. inr m;
      },
    )
  where
    rows_around : rows_of (a.before ++ (ps ++ a.after)) ≡ rows_of a.before ++ (rows_of ps ++ rows_of a.after)
    rows_around = rows-append a.before (ps ++ a.after) ∙ ap (λ l. rows_of a.before ++ l) (rows-append ps a.after)

    in_loose : (q : ℕ) → mem q (rows_of ps) ≡ true → mem q (rows_of (a.before ++ (ps ++ a.after))) ≡ true
    in_loose q m = subst (λ l. mem q l ≡ true) (sym rows_around)
        (mem-right q (rows_of a.before) (rows_of ps ++ rows_of a.after) (mem-left q (rows_of ps) (rows_of a.after) m))

    around : (q : ℕ) → mem q (rows_of (a.before ++ a.after)) ≡ true → mem q (rows_of (a.before ++ (ps ++ a.after))) ≡ true
    around q m = subst (λ l. mem q l ≡ true) (sym rows_around) (⊎_elim (λ b. mem-left q (rows_of a.before) (rows_of ps ++ rows_of a.after) b)
        (λ b. mem-right q (rows_of a.before) (rows_of ps ++ rows_of a.after) (mem-right q (rows_of ps) (rows_of a.after) b.1))
        (mem-append q (rows_of a.before) (rows_of a.after) (subst (λ l. mem q l ≡ true) (rows-append a.before a.after) m)))

    beside : (q : ℕ) → mem q (rows_of (a.before ++ a.after)) ≡ true → mem q (rows_of ps) ≡ false
    beside q m = distinct-middle (rows_of a.before) (rows_of ps) (rows_of a.after)
        (subst (IsDistinct eqb) rows_around g.stock.apart) q
        (subst (λ l. mem q l ≡ true) (rows-append a.before a.after) m)

-- the same of a content whose first pending item stands in a row
pub record First (c : Content) (row : ℕ) (qs : List ℕ) : Type 0 where
  pub p : Placed
  pub ps : List Placed
  pub is : c.pending ≡ p ∷ ps
  pub at_row : p.row ≡ row
  pub others : rows_of ps ≡ qs

pub can-flush-first : (old mid : Pool) (s : ScopeTrees) (c : Content) (row : ℕ) (qs : List ℕ) (a : Around) (f : First c row qs) → ScopeHas old s c a
    → AllApart (read_items c) → length c.reads + length c.pending ≤ 8190 → mid.chain ≡ old.chain → OnlyLinksChange qs old.seat.view mid.seat.view
    → ((row : ℕ) (x : Item) → OwnsItem old.seat.view row x → OwnsItem mid.seat.view row x)
    → CanGrow mid s.reads row (a.front ++ tree_root s.writes c.writes ∷ []) a.back c.reads f.p.item (a.before ++ (f.ps ++ a.after))
can-flush-first old mid s c row qs a f h apart many chain only stand =
    let long = ap (λ (l : List Placed). length l) f.is in
    subst (λ r. CanGrow mid s.reads r (a.front ++ tree_root s.writes c.writes ∷ []) a.back c.reads f.p.item (a.before ++ (f.ps ++ a.after))) f.at_row
    (can-flush old mid s c.writes c.reads f.p f.ps a
    (subst (λ (l : List Placed). ScopeHas old s (record { writes = c.writes; reads = c.reads; pending = l }) a) f.is h)
    (subst (λ (l : List Placed). AllApart (items_in c.reads ++ placed_items l)) f.is apart) (let b = long in omega arith) chain
    (subst (λ l. OnlyLinksChange l old.seat.view mid.seat.view) (sym f.others) only) stand)

pub flushed-first : (old mid new : Pool) (s : ScopeTrees) (list : ReadList) (tree : Tree) (c : Content) (row : ℕ) (qs : List ℕ) (a : Around)
    → (f : First c row qs) → ScopeHas old s c a → AllApart (read_items c) → mid.chain ≡ old.chain → OnlyLinksChange qs old.seat.view mid.seat.view
    → IsReadList mid.seat.view list qs
    → Grown mid new tree row (a.front ++ tree_root s.writes c.writes ∷ []) a.back c.reads f.p.item (a.before ++ (f.ps ++ a.after))
    → (d : Content) × Flushing old new s (record { writes = s.writes; reads = tree; pending = list; writer = s.writer }) c d a
flushed-first old mid new s list tree c row qs a f h apart chain only listed g =
    let t : ScopeTrees = record { writes = s.writes; reads = tree; pending = list; writer = s.writer } in
    let o = flushed old mid new s list tree c.writes c.reads f.p f.ps a
    (subst (λ (l : List Placed). ScopeHas old s (record { writes = c.writes; reads = c.reads; pending = l }) a) f.is h)
    (subst (λ (l : List Placed). AllApart (items_in c.reads ++ placed_items l)) f.is apart) chain
    (subst (λ l. OnlyLinksChange l old.seat.view mid.seat.view) (sym f.others) only)
    (subst (λ l. IsReadList mid.seat.view list l) (sym f.others) listed)
    (subst (λ r. Grown mid new tree r (a.front ++ tree_root s.writes c.writes ∷ []) a.back c.reads f.p.item (a.before ++ (f.ps ++ a.after)))
    (sym f.at_row) g) in
    (o.0, subst (λ (l : List Placed). Flushing old new s t (record { writes = c.writes; reads = c.reads; pending = l }) o.0 a) (sym f.is) o.1)

pub first-pending : (c : Content) (row : ℕ) (qs : List ℕ) → rows_of c.pending ≡ row ∷ qs → First c row qs
first-pending c row qs e = let (p, ps, is, at_row, others) = pending-first c.pending row qs e in
    record { p = p; ps = ps; is = is; at_row = at_row; others = others }

-- ---- one after another
pub flushing-none : (p : Pool) (s : ScopeTrees) (c : Content) (a : Around) → ScopeHas p s c a → AllApart (read_items c) → Flushing p p s s c c a
flushing-none p s c a h apart = record {
  has = h;
  writes = (refl, refl);
  order = refl;
  apart = apart;
  many = refl;
  spent = omega arith;
  stay = λ q m. refl;
  came = λ t m. inl m;
  left = λ q m. m;
}

pub flushing-then : (p q r : Pool) (s t u : ScopeTrees) (c d e : Content) (a : Around)
    → Flushing p q s t c d a → Flushing q r t u d e a → Flushing p r s u c e a
flushing-then p q r s t u c d e a f g = record {
  has = g.has;
  writes = (g.writes.0 ∙ f.writes.0, g.writes.1 ∙ f.writes.1);
  order = g.order ∙ f.order;
  apart = g.apart;
  many = g.many ∙ f.many;
  spent = (let x = f.spent in let y = g.spent in omega arith);
  stay = λ k m. g.stay k m ∙ f.stay k m;
  came = λ k m. ⊎_elim (λ n. f.came k n) (λ (n : (p : Placed) × IsIn p d.pending × (tree_word k ≡ suc p.row) × (item_of k ≡ p.item)).
      inr (n.0, f.left n.0 n.1, n.2, n.3)) (g.came k m);
  left = λ k m. f.left k (g.left k m);
}

pub same-then : (p q r : Pool) → SamePool p q → SamePool q r → SamePool p r
same-then p q r f g = (g.0 ∙ f.0, record { number = g.1.number ∙ f.1.number; out = g.1.out ∙ f.1.out; size = g.1.size ∙ f.1.size })

pub same-self : (p : Pool) → SamePool p p
same-self p = (refl, record { number = refl; out = refl; size = refl })

-- the list is empty
pub none-pending : (v : SeatView) (list : ReadList) (ps : List Placed) → IsReadList v list (rows_of ps) → list.len ≡ 0 → ps ≡ []
none-pending v list [] h e = refl
none-pending v list (p ∷ ps) h e = let b = h.many in absurd (omega arith)
