-- How many latches there are, and that a pool without latches has all its rows free.
use Rattle.std.proofs.Common.{◌≡◌, ⊎_elim, inl, inr, ℕ, zero, suc, ◌+◌, ◌<◌, ◌≤◌, nat_le, true, false, Bool, cond, List, [], ◌∷◌, ◌++◌, length}
use Rattle.std.proofs.Common.{ap, sym, refl, ◌∙◌, subst, arith}
use Rattle.std.specs.List.{count_by, sum_by}
use Rattle.std.proofs.lemmas.Bool.Decides.{nat_tests}
use Rattle.std.proofs.lemmas.List.Sums.{sum_by-append, sum_by-cons}
use Rattle.std.specs.Prelude.{Option, None, Some}
use Rattle.std.proofs.lemmas.List.{length-append, length-map, map-append}
use mathlib.Core.Option.{some}
use Rattle.latch_model.specs.Histories.{HeldLatch, Snapshot, comes_first, in_order, with_latch}
use Rattle.latch_model.specs.declared.latch.Access.{Access}
use Rattle.latch_model.specs.declared.latch.Access.TheVariants.{Read, Write}
use Rattle.row_pool.proofs.WholeChain.{chain-whole}
use Rattle.row_pool.specs.Chains.{IsChain}
use Rattle.row_pool.specs.Changes.{tree_of}
use Rattle.row_pool.specs.Lists.{find, mem}
use Rattle.row_pool.specs.Trees.{Entry, Tree as Row}
use Rattle.row_pool.specs.Views.{ViewInvariant}
use Rattle.latch_item.specs.Items.{Item, item_of}
use Rattle.latch_item.specs.Shape.{Among, IsTree, Stands}
use Rattle.latch_shots.specs.Held.{held_as}
use Rattle.latch_shots.specs.Roots.{AreRoots, HasRoot, Root}
use Rattle.held_latches.specs.Content.{Content, EachOf, IsIn, held_of, items_in, placed_items, read_items}
use Rattle.held_latches.specs.Holding.{Holds, IsSound, size_of}
use Rattle.held_latches.specs.Lists.{no_lists, total}
use Rattle.held_latches.specs.Scopes.{HasContent, aside_in, aside_of, many_of}
use Rattle.held_latches.specs.Steps.{free_rows}
use Rattle.held_latches.specs.Stock.{Placed, rows_of, tree_root}
use Rattle.held_latches.specs.declared.held.HeldLatches.{HeldLatches}
use Rattle.held_latches.specs.declared.scopes.ScopeTrees.{ScopeTrees}
use Rattle.span_key.specs.declared.scopes.Scope.TheVariants.{Global, Local}
use Rattle.held_latches.proofs.Scoped.{has-content}

-- ---- the order keeps lengths
length-with : (x : HeldLatch) (ys : List HeldLatch) → length (with_latch x ys) ≡ suc (length ys)
length-with x [] = refl
length-with x (y ∷ ys) = by (comes_first y x) (length-with x ys)
  where
    by : (t : Bool) → length (with_latch x ys) ≡ suc (length ys) → length (cond t (y ∷ with_latch x ys) (x ∷ y ∷ ys)) ≡ suc (length (y ∷ ys))
    by true later = omega arith
    by false later = omega arith

pub length-order : (xs : List HeldLatch) → length (in_order xs) ≡ length xs
length-order [] = refl
length-order (x ∷ xs) = let a = length-with x (in_order xs) in let b = length-order xs in omega arith

ordered-many : (a : Access) (xs : List Item) → length (in_order (held_of a xs)) ≡ length xs
ordered-many a xs = length-order (held_of a xs) ∙ length-map xs (held_as a)

pub writes-many : (c : Content) → length (in_order (held_of Write (items_in c.writes))) ≡ length c.writes
writes-many c = ordered-many Write (items_in c.writes) ∙ length-map c.writes item_of

pub reads-many : (c : Content) → length (in_order (held_of Read (read_items c))) ≡ length c.reads + length c.pending
reads-many c =
    let a = ordered-many Read (read_items c) in let b = length-append (items_in c.reads) (placed_items c.pending) in
    let d = length-map c.reads item_of in let e = length-map c.pending (λ (p : Placed). p.item) in omega arith

pub total-of : (h : HeldLatches) (s : Snapshot) (n : ℕ) (o : Holds h s n) → many_of o.global + many_of o.local ≡ total s
total-of h s n o =
    let a = ap (λ (l : List HeldLatch). length l) o.global_reads ∙ reads-many o.global in
    let b = ap (λ (l : List HeldLatch). length l) o.global_writes ∙ writes-many o.global in
    let d = ap (λ (l : List HeldLatch). length l) o.local_reads ∙ reads-many o.local in
    let e = ap (λ (l : List HeldLatch). length l) o.local_writes ∙ writes-many o.local in omega arith

-- ---- what a scope's trees say of a content
pub aside-many : (s : ScopeTrees) (c : Content) → HasContent s c → aside_in s ≡ aside_of c
aside-many s c o = let a = o.fits_writes.1.many in let b = o.fits_reads.1.many in let d = o.listed.1.many in
    let e = length-map c.pending (λ (p : Placed). p.row) in omega arith

-- ---- nothing is held
no-more : {X : Type 0} (xs : List X) → length xs ≡ 0 → xs ≡ []
no-more [] e = refl
no-more (x ∷ xs) e = absurd (omega arith)

no-stand : (level : ℕ) (t : Row) → Stands level t [] → ⊥
no-stand zero t h = h.greatest.among
no-stand (suc level) t h = h.greatest.among

pub no-tree : (t : Row) (height : ℕ) → IsTree t height [] → ⊥
no-tree t height h = no-stand h.level t h.stands

no-roots : (rs : List Root) (refs : List Row) → EachOf (λ (r : Root). r.items ≡ []) rs → AreRoots rs refs → refs ≡ []
no-roots [] refs e h = h
no-roots (r ∷ rs) refs e h = go (λ ts k. no-roots rs ts e.1 k) r.row h
  where
    go : ((ts : List Row) → AreRoots rs ts → ts ≡ []) → (k : Option ℕ) → HasRoot k r.height r.items (AreRoots rs) refs → refs ≡ []
    go later None h = later refs h.1
    go later (Some q) h = absurd (no-tree (tree_of q refs) r.height (subst (IsTree (tree_of q refs) r.height) e.0 h.1))

-- the first seat has only free rows, and the chain has them all
pub record AllFree (h : HeldLatches) : Type 0 where
  pub first : h.pool.seat.view.number ≡ 1
  pub out : h.pool.seat.view.out ≡ []
  pub refs : h.pool.seat.view.refs ≡ []
  pub free : List ℕ
  pub chained : IsChain h.pool.seat.view h.pool.chain free
  pub all : (q : ℕ) (e : Entry) → find q h.pool.seat.view.owned ≡ some e → mem q free ≡ true
  pub aside : (aside_in h.global ≡ 0) × (aside_in h.local ≡ 0)

pub all-free : (h : HeldLatches) → Holds h no_lists 0 → AllFree h
all-free h o =
    let k = o.kept in let g = o.global in let l = o.local in
    let a = ap (λ (l : List HeldLatch). length l) o.global_reads ∙ reads-many g in
    let b = ap (λ (l : List HeldLatch). length l) o.global_writes ∙ writes-many g in
    let d = ap (λ (l : List HeldLatch). length l) o.local_reads ∙ reads-many l in
    let e = ap (λ (l : List HeldLatch). length l) o.local_writes ∙ writes-many l in
    let pending : g.pending ++ l.pending ≡ [] =
    no-more (g.pending ++ l.pending) (let z = length-append g.pending l.pending in omega arith) in record {
      first = k.stock.first;
      out = no-more h.pool.seat.view.out o.out;
      refs = no-roots (tree_root h.global.writes g.writes ∷ tree_root h.global.reads g.reads ∷ tree_root h.local.writes l.writes
          ∷ tree_root h.local.reads l.reads ∷ []) h.pool.seat.view.refs
          (no-more g.writes (sym b), (no-more g.reads (omega arith), (no-more l.writes (sym e), (no-more l.reads (omega arith), tt)))) k.stock.refs;
      free = k.stock.free;
      chained = k.stock.chained;
      all = λ q x has. ⊎_elim (λ m. m) (λ m. absurd (nothing q (subst (λ ps. mem q (rows_of ps) ≡ true) pending m))) (k.stock.all q x has);
      aside = (aside-many h.global g (has-content Global h g l k) ∙ omega arith, aside-many h.local l (has-content Local h g l k) ∙ omega arith);
    }
  where
    nothing : (q : ℕ) → mem q [] ≡ true → ⊥
    nothing q m = cc

pub all-rows : (h : HeldLatches) → ViewInvariant h.pool.seat.view → Holds h no_lists 0
    → (free_rows h.pool ≡ size_of h) × (aside_in h.global ≡ 0) × (aside_in h.local ≡ 0)
all-rows h sound o = let a = all-free h o in
    let b = chain-whole h.pool.seat.view h.pool.chain a.free sound a.first a.out a.refs a.chained a.all in
    (sym a.chained.long ∙ b, a.aside.0, a.aside.1)

-- ---- pending reads
sum-with : (f : HeldLatch → ℕ) (x : HeldLatch) (ys : List HeldLatch) → sum_by f (with_latch x ys) ≡ f x + sum_by f ys
sum-with f x [] = sum_by-cons f x []
sum-with f x (y ∷ ys) = by (comes_first y x) (sum-with f x ys)
  where
    by : (t : Bool) → sum_by f (with_latch x ys) ≡ f x + sum_by f ys → sum_by f (cond t (y ∷ with_latch x ys) (x ∷ y ∷ ys)) ≡ f x + sum_by f (y ∷ ys)
    by true later = let a = sum_by-cons f y (with_latch x ys) in let b = sum_by-cons f y ys in omega arith
    by false later = sum_by-cons f x (y ∷ ys)

pub sum-order : (f : HeldLatch → ℕ) (xs : List HeldLatch) → sum_by f (in_order xs) ≡ sum_by f xs
sum-order f [] = refl
sum-order f (x ∷ xs) = let a = sum-with f x (in_order xs) in let b = sum-order f xs in let d = sum_by-cons f x xs in omega arith

-- whether a request is no earlier than the writer, as a number
abbrev one_from : ℕ → ℕ → ℕ
one_from writer id = cond (nat_le writer id) 1 0

abbrev from : ℕ → HeldLatch → ℕ
from writer x = one_from writer x.by

early-none : (writer : ℕ) (ts : List Row) → ((t : Row) → Among t ts → (item_of t).id < writer) → sum_by (from writer) (held_of Read (items_in ts)) ≡ 0
early-none writer [] low = refl
early-none writer (t ∷ ts) low =
    let a = sum_by-cons (from writer) (held_as Read (item_of t)) (held_of Read (items_in ts)) in
    let b = early-none writer ts (λ u m. low u (inr m)) in let z = below writer (item_of t).id (low t (inl refl)) in omega arith
  where
    below : (m n : ℕ) → n < m → one_from m n ≡ 0
    below m n h = let z : nat_le m n ≡ false = grind (arith, nat_tests) in rw z refl

late-all : (writer : ℕ) (ps : List Placed) → ((p : Placed) → IsIn p ps → writer ≤ p.item.id)
    → sum_by (from writer) (held_of Read (placed_items ps)) ≡ length ps
late-all writer [] high = refl
late-all writer (p ∷ ps) high =
    let a = sum_by-cons (from writer) (held_as Read p.item) (held_of Read (placed_items ps)) in
    let b = late-all writer ps (λ q m. high q (inr m)) in let z = above writer p.item.id (high p (inl refl)) in omega arith
  where
    above : (m n : ℕ) → m ≤ n → one_from m n ≡ 1
    above m n h = let z : nat_le m n ≡ true = grind (arith, nat_tests) in rw z refl

pub pending-many : (s : ScopeTrees) (table : List ℕ) (c : Content) → IsSound s table c
    → length c.pending ≡ count_by (λ (x : HeldLatch). nat_le s.writer x.by) (in_order (held_of Read (read_items c)))
pending-many s table c o =
    let a = sum-order (from s.writer) (held_of Read (read_items c)) in
    let b = ap (sum_by (from s.writer)) (map-append (held_as Read) (items_in c.reads) (placed_items c.pending)) in
    let d = sum_by-append (from s.writer) (held_of Read (items_in c.reads)) (held_of Read (placed_items c.pending)) in
    let e = early-none s.writer c.reads o.early in let f = late-all s.writer c.pending o.late in omega arith
