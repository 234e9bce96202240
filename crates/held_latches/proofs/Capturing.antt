-- Shots of both scopes' trees.
use Rattle.std.proofs.Common.{◌≡◌, ℕ, ◌+◌, ◌*◌, ◌<◌, ◌≤◌, true, false, Bool, if◌then◌else◌, nat_lt, zero, suc, List, [], ◌∷◌, ◌++◌, length, ap, sym, refl, ◌∙◌, subst, arith}
use Rattle.std.specs.Prelude.{Option, None, Some}
use Rattle.std.specs.List.{All}
use Rattle.std.proofs.lemmas.Bool.Decides.{nat_tests}
use Rattle.std.proofs.lemmas.List.{append_assoc, length-append}
use Rattle.std.proofs.lemmas.List.Elements.{All-nil}
use Rattle.latch_model.specs.Histories.{HeldLatch, Snapshot, in_order}
use Rattle.latch_model.specs.declared.latch.Access.{Access}
use Rattle.latch_model.specs.declared.latch.Access.TheVariants.{Read, Write}
use Rattle.row_pool.specs.Lists.{find}
use Rattle.row_pool.specs.SeatView.{SeatView}
use Rattle.row_pool.specs.Trees.{Tree as Row}
use Rattle.row_pool.specs.Views.{ViewInvariant}
use Rattle.latch_item.specs.Items.{item_of}
use Rattle.latch_item.specs.Shape.{RefersTo, Sorted}
use Rattle.interval_tree.specs.Trees.{height_of, root_of}
use Rattle.interval_tree.specs.declared.tree.Tree.{Tree}
use Rattle.read_list.proofs.Links.{list-stays}
use Rattle.latch_shots.specs.Held.{held_as, held_in, others}
use Rattle.latch_item.specs.declared.shot.Shot.{Shot}
use Rattle.span_key.specs.declared.scopes.Scope.TheVariants.{Global, Local}
use Rattle.latch_model.specs.Latches.{in_scope}
use Rattle.latch_shots.specs.Shown.{Show, root_of as shot_root}
use Rattle.latch_shots.specs.Roots.{AreRoots, Root}
use Rattle.held_latches.specs.Content.{Content, EachOf, held_of, items_in}
use Rattle.held_latches.specs.Holding.{EachHeld, HasSpare, InScopes, Kept, MayInsert, WritesIn, slots_of, writer_of}
use Rattle.held_latches.specs.Lists.{shown_if, taken_if, without_by}
use Rattle.held_latches.specs.Steps.{CanShow, PoolHas, SameRows}
use Rattle.held_latches.specs.Stock.{rows_of, tree_root, with_row}
use Rattle.held_latches.specs.declared.held.HeldLatches.{HeldLatches}
use Rattle.held_latches.specs.declared.pool.Pool.{Pool}
use Rattle.held_latches.proofs.Order.{sorted_order}
use Rattle.held_latches.proofs.Own.{reads-of-others}
use Rattle.held_latches.proofs.References.{one-refs, pick, refers-in}

-- the rows of four shots, one after another
pub rows-four : (a b c d : Option ℕ)
    → ((([] ++ with_row a []) ++ with_row b []) ++ with_row c []) ++ with_row d [] ≡ with_row a (with_row b (with_row c (with_row d [])))
rows-four None None None d = refl
rows-four None None (Some z) d = refl
rows-four None (Some y) None d = refl
rows-four None (Some y) (Some z) d = refl
rows-four (Some x) None None d = refl
rows-four (Some x) None (Some z) d = refl
rows-four (Some x) (Some y) None d = refl
rows-four (Some x) (Some y) (Some z) d = refl

-- the items of a tree are in order
refers-sorted : (v : SeatView) (root : Option ℕ) (height : ℕ) (xs : List Row) → RefersTo v root height xs → Sorted xs
refers-sorted v None height xs h = subst Sorted (sym h) tt
refers-sorted v (Some r) height xs h = h.1.sorted

pub tree-sorted : (v : SeatView) (tree : Tree) (items : List Row) (front back : List Root) → ViewInvariant v
    → AreRoots (front ++ tree_root tree items ∷ back) v.refs → Sorted items
tree-sorted v tree items front back sound h =
    refers-sorted v (root_of tree) (height_of tree) items (refers-in v (root_of tree) (height_of tree) items
    (pick front (tree_root tree items) back v.refs (one-refs v sound) h).refers)

held-items : (a : Access) (ts : List Row) → held_of a (items_in ts) ≡ held_in a ts
held-items a [] = refl
held-items a (t ∷ ts) = ap (λ l. held_as a (item_of t) ∷ l) (held-items a ts)

pub list-shown : (a : Access) (ts : List Row) → Sorted ts → in_order (held_of a (items_in ts)) ≡ held_in a ts
list-shown a ts h = ap in_order (held-items a ts) ∙ sorted_order a ts h

-- the latches of a list that are others' than the request's own, where they are wanted
pub shown-if : (own : ℕ) (wanted : Bool) (a : Access) (xs : List HeldLatch) (ts : List Row) → (wanted ≡ true → xs ≡ others own (held_in a ts))
    → taken_if wanted xs ≡ others own (held_in a (if wanted then ts else []))
shown-if own true a xs ts h = h refl
shown-if own false a xs ts h = refl

pub all-if : (wanted : Bool) (P : HeldLatch → Type 0) (xs : List HeldLatch) → All P xs → All P (taken_if wanted xs)
all-if true P xs h = h
all-if false P xs h = All-nil P

-- ---- the pool changes in nothing but references and seats that are split off
pub kept-still : (h : HeldLatches) (p : Pool) (g l : Content) → Kept h g l → SameRows h.pool p
    → PoolHas p (tree_root h.global.writes g.writes ∷ tree_root h.global.reads g.reads ∷ tree_root h.local.writes l.writes
    ∷ tree_root h.local.reads l.reads ∷ []) (g.pending ++ l.pending) → Kept (record h { pool = p }) g l
kept-still h p g l k same stock = record {
  stock = stock;
  fits_global = k.fits_global;
  fits_local = k.fits_local;
  listed_global = list-stays h.pool.seat.view p.seat.view h.global.pending (rows_of g.pending) (λ q m. ap (find q) same.1) k.listed_global;
  listed_local = list-stays h.pool.seat.view p.seat.view h.local.pending (rows_of l.pending) (λ q m. ap (find q) same.1) k.listed_local;
  sound_global = k.sound_global;
  sound_local = k.sound_local;
  set_aside = (let a = k.set_aside in let b = ap (λ c. c.len) same.0 in omega arith);
  few = k.few;
}

pub rows-then : (p q r : Pool) → SameRows p q → SameRows q r → SameRows p r
rows-then p q r f g = (g.0 ∙ f.0, g.1 ∙ f.1)

-- ---- what each shot finds: the roots of both scopes, behind those of the shots before
abbrev pub Shown : HeldLatches → Pool → Content → Content → List Root → Type 0
Shown h p g l shots = PoolHas p (shots ++ (tree_root h.global.writes g.writes ∷ tree_root h.global.reads g.reads ∷ tree_root h.local.writes l.writes
    ∷ tree_root h.local.reads l.reads ∷ [])) (g.pending ++ l.pending)

pub show-global-writes : (h : HeldLatches) (p : Pool) (g l : Content) (shots : List Root) → Kept h g l → length shots ≤ 4 → Shown h p g l shots
    → CanShow p h.global.writes shots (tree_root h.global.reads g.reads ∷ tree_root h.local.writes l.writes ∷ tree_root h.local.reads l.reads ∷ [])
    g.writes (g.pending ++ l.pending)
show-global-writes h p g l shots k few stock = record { stock = stock; fits = k.fits_global.0; few = omega arith }

pub show-global-reads : (h : HeldLatches) (p : Pool) (g l : Content) (shots : List Root) → Kept h g l → length shots ≤ 4 → Shown h p g l shots
    → CanShow p h.global.reads (shots ++ tree_root h.global.writes g.writes ∷ []) (tree_root h.local.writes l.writes ∷ tree_root h.local.reads l.reads ∷ [])
    g.reads (g.pending ++ l.pending)
show-global-reads h p g l shots k few stock = record {
  stock = subst (λ rs. PoolHas p rs (g.pending ++ l.pending)) (sym (append_assoc shots (tree_root h.global.writes g.writes ∷ [])
      (tree_root h.global.reads g.reads ∷ tree_root h.local.writes l.writes ∷ tree_root h.local.reads l.reads ∷ []))) stock;
  fits = k.fits_global.1;
  few = (let a = length-append shots (tree_root h.global.writes g.writes ∷ []) in omega arith);
}

pub show-local-writes : (h : HeldLatches) (p : Pool) (g l : Content) (shots : List Root) → Kept h g l → length shots ≤ 4 → Shown h p g l shots
    → CanShow p h.local.writes (shots ++ tree_root h.global.writes g.writes ∷ tree_root h.global.reads g.reads ∷ []) (tree_root h.local.reads l.reads ∷ [])
    l.writes (g.pending ++ l.pending)
show-local-writes h p g l shots k few stock = record {
  stock = subst (λ rs. PoolHas p rs (g.pending ++ l.pending))
      (sym (append_assoc shots (tree_root h.global.writes g.writes ∷ tree_root h.global.reads g.reads ∷ [])
      (tree_root h.local.writes l.writes ∷ tree_root h.local.reads l.reads ∷ []))) stock;
  fits = k.fits_local.0;
  few = (let a = length-append shots (tree_root h.global.writes g.writes ∷ tree_root h.global.reads g.reads ∷ []) in omega arith);
}

pub show-local-reads : (h : HeldLatches) (p : Pool) (g l : Content) (shots : List Root) → Kept h g l → length shots ≤ 4 → Shown h p g l shots
    → CanShow p h.local.reads (shots ++ tree_root h.global.writes g.writes ∷ tree_root h.global.reads g.reads ∷ tree_root h.local.writes l.writes ∷ []) []
    l.reads (g.pending ++ l.pending)
show-local-reads h p g l shots k few stock = record {
  stock = subst (λ rs. PoolHas p rs (g.pending ++ l.pending)) (sym (append_assoc shots
      (tree_root h.global.writes g.writes ∷ tree_root h.global.reads g.reads ∷ tree_root h.local.writes l.writes ∷ [])
      (tree_root h.local.reads l.reads ∷ []))) stock;
  fits = k.fits_local.1;
  few = (let a = length-append shots (tree_root h.global.writes g.writes ∷ tree_root h.global.reads g.reads ∷ tree_root h.local.writes l.writes ∷ [])
      in omega arith);
}

-- ---- all four shots
-- the roots of the shots that are wanted of both scopes
abbrev pub shots_if : Bool → Bool → Bool → Bool → Content → Content → (global_reads global_writes local_reads local_writes : Shot) → List Root
shots_if global global_write local local_write g l gr gw lr lw =
    shot_root gr (if global_write then g.reads else []) ∷ shot_root gw (if global then g.writes else [])
    ∷ shot_root lr (if local_write then l.reads else []) ∷ shot_root lw (if local then l.writes else []) ∷ []

pub shows-all : (h : HeldLatches) (w : SeatView) (held s : Snapshot) (n k own : ℕ) (global global_write local local_write : Bool) (gr gw lr lw : Shot)
    → (o : HasSpare h held n k) → ViewInvariant h.pool.seat.view
    → AreRoots (shots_if global global_write local local_write o.holds.global o.holds.local gr gw lr lw) w.refs → 2 ≤ w.number → w.owned ≡ []
    → EachHeld (λ x. x.by ≤ own) held → WritesIn h own global_write local_write → without_by own held ≡ s
    → InScopes s → Show w own gr gw lr lw (shown_if global global_write local local_write s)
shows-all h w held s n spare own global global_write local local_write gr gw lr lw o sound roots number owned upto writers rest scopes =
    let g = o.holds.global in let l = o.holds.local in let k = o.holds.kept in let u = h.pool.seat.view in
    let GW = tree_root h.global.writes g.writes in let GR = tree_root h.global.reads g.reads in
    let LW = tree_root h.local.writes l.writes in let LR = tree_root h.local.reads l.reads in
    record {
      split_off = number;
      alone = owned;
      items_global_reads = if global_write then g.reads else [];
      items_global_writes = if global then g.writes else [];
      items_local_reads = if local_write then l.reads else [];
      items_local_writes = if local then l.writes else [];
      roots = roots;
      are_global_reads = shown-if own global_write Read s.global_reads g.reads
          (λ e. ap (λ (t : Snapshot). t.global_reads) (sym rest) ∙ reads-of-others own held.global_reads g o.holds.global_reads upto.0
          (λ p m. let last = writers.0 e in let late = k.sound_global.late p m in omega arith)
          (list-shown Read g.reads (tree-sorted u h.global.reads g.reads (GW ∷ []) (LW ∷ LR ∷ []) sound k.stock.refs)));
      are_global_writes = shown-if own global Write s.global_writes g.writes
          (λ e. ap (λ (t : Snapshot). t.global_writes) (sym rest) ∙ ap (others own) (o.holds.global_writes
          ∙ list-shown Write g.writes (tree-sorted u h.global.writes g.writes [] (GR ∷ LW ∷ LR ∷ []) sound k.stock.refs)));
      are_local_reads = shown-if own local_write Read s.local_reads l.reads
          (λ e. ap (λ (t : Snapshot). t.local_reads) (sym rest) ∙ reads-of-others own held.local_reads l o.holds.local_reads upto.2
          (λ p m. let last = writers.1 e in let late = k.sound_local.late p m in omega arith)
          (list-shown Read l.reads (tree-sorted u h.local.reads l.reads (GW ∷ GR ∷ LW ∷ []) [] sound k.stock.refs)));
      are_local_writes = shown-if own local Write s.local_writes l.writes
          (λ e. ap (λ (t : Snapshot). t.local_writes) (sym rest) ∙ ap (others own) (o.holds.local_writes
          ∙ list-shown Write l.writes (tree-sorted u h.local.writes l.writes (GW ∷ GR ∷ []) (LR ∷ []) sound k.stock.refs)));
      global_scope = (
        all-if global_write (λ (x : HeldLatch). in_scope Global x.latch ≡ true) s.global_reads scopes.global.0,
        all-if global (λ (x : HeldLatch). in_scope Global x.latch ≡ true) s.global_writes scopes.global.1,
      );
      local_scope = (
        all-if local_write (λ (x : HeldLatch). in_scope Local x.latch ≡ true) s.local_reads scopes.local.0,
        all-if local (λ (x : HeldLatch). in_scope Local x.latch ≡ true) s.local_writes scopes.local.1,
      );
    }

-- ---- behind the flush the request's own latches can come, and then it is the last writer where it writes
writer-upto : (wanted : Bool) (v w id : ℕ) → v ≡ (if wanted then id else w) → w ≤ id → v ≤ id
writer-upto true v w id e low = omega arith
writer-upto false v w id e low = omega arith

pub come-flushed : (old new : HeldLatches) (s : Snapshot) (n more id lane j : ℕ) (global local : Bool) → MayInsert old s n more id lane j
    → HasSpare new s n (13 * j + more) → slots_of new ≡ slots_of old
    → writer_of new Global ≡ (if global then id else writer_of old Global) → writer_of new Local ≡ (if local then id else writer_of old Local)
    → MayInsert new s n more id lane j
come-flushed old new s n more id lane j global local may o slots eg el = record {
  has = o;
  fits = may.fits;
  low = may.low;
  within = let w = may.within in omega arith;
  writers = (
    writer-upto global (writer_of new Global) (writer_of old Global) id eg may.writers.0,
    writer-upto local (writer_of new Local) (writer_of old Local) id el may.writers.1,
  );
  apart = may.apart;
}

pub writes-in : (h : HeldLatches) (id v w : ℕ) (global local : Bool) → writer_of h Global ≡ (if global then id else v)
    → writer_of h Local ≡ (if local then id else w) → WritesIn h id global local
writes-in h id v w global local eg el = (λ e. eg ∙ ap (λ b. if b then id else v) e, λ e. el ∙ ap (λ b. if b then id else w) e)

pub each-upto : (id : ℕ) (xs : List HeldLatch) → EachOf (λ x. x.by < id) xs → EachOf (λ x. x.by ≤ id) xs
each-upto id [] h = tt
each-upto id (x ∷ xs) h = (let low = h.0 in omega arith, each-upto id xs h.1)

-- ---- of a tree without items no shot is taken, since nothing is captured of it
pub some-captured : (many : ℕ) (xs : List HeldLatch) → many ≡ length xs → taken_if (nat_lt 0 many) xs ≡ xs
some-captured many [] is = if-nil (nat_lt 0 many)
  where
    if-nil : (some : Bool) → taken_if some [] ≡ []
    if-nil true = refl
    if-nil false = refl
some-captured zero (x ∷ xs) is = absurd (omega arith)
some-captured (suc m) (x ∷ xs) is = let some : nat_lt 0 (suc m) ≡ true = grind (arith, nat_tests) in rw some refl

pub same-captured : (global global_too global_write local local_too local_write : Bool) (s : Snapshot)
    → taken_if global s.global_writes ≡ taken_if global_too s.global_writes → taken_if local s.local_writes ≡ taken_if local_too s.local_writes
    → shown_if global global_write local local_write s ≡ shown_if global_too global_write local_too local_write s
same-captured global global_too global_write local local_too local_write s g l = λ i. record {
  global_reads = taken_if global_write s.global_reads;
  global_writes = g i;
  local_reads = taken_if local_write s.local_reads;
  local_writes = l i;
}
