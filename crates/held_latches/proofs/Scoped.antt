-- One scope and the other: what each has of both, and what a change in one of them leaves.
use Rattle.std.proofs.Common.{◌≡◌, ℕ, ◌+◌, ◌≤◌, true, List, [], ◌∷◌, ◌++◌, length, ap, sym, refl, ◌∙◌, subst, arith}
use Rattle.std.proofs.lemmas.List.{append-nil}
use Rattle.span_key.specs.declared.scopes.Scope.{Scope}
use Rattle.span_key.specs.declared.scopes.Scope.TheVariants.{Global, Local}
use Rattle.latch_model.specs.Histories.{HeldLatch, Snapshot, in_order, list_of}
use Rattle.latch_model.specs.declared.latch.Access.{Access}
use Rattle.latch_model.specs.declared.latch.Access.TheVariants.{Read, Write}
use Rattle.row_pool.specs.Lists.{mem}
use Rattle.read_list.proofs.Links.{list-stays}
use Rattle.latch_shots.specs.Roots.{Root}
use Rattle.held_latches.specs.Content.{Content, EachOf, held_of, items_in, read_items}
use Rattle.held_latches.specs.Holding.{EachHeld, HasSpare, Holds, IsSound, Kept}
use Rattle.held_latches.specs.Scopes.{Around, HasContent, ScopeHas, aside_of, many_of}
use Rattle.held_latches.specs.Steps.{PoolHas, SamePool, Stay, free_rows}
use Rattle.held_latches.specs.Stock.{rows_of, tree_root}
use Rattle.held_latches.specs.declared.held.HeldLatches.{HeldLatches}
use Rattle.held_latches.specs.declared.pool.Pool.{Pool}
use Rattle.held_latches.specs.declared.scopes.ScopeTrees.{ScopeTrees}

abbrev pub other : Scope → Scope
other Global = Local
other Local = Global

-- what a scope has, of what both have
abbrev pub of_scope : {X : Type 0} → Scope → X → X → X
of_scope Global g l = g
of_scope Local g l = l

abbrev pub trees_of : Scope → HeldLatches → ScopeTrees
trees_of scope h = of_scope scope h.global h.local

abbrev pub content_of : {h : HeldLatches} {s : Snapshot} {n : ℕ} → Scope → Holds h s n → Content
content_of scope o = of_scope scope o.global o.local

-- both have together what the one and the other have
pub sum-both : (f : Content → ℕ) (scope : Scope) (g l : Content) → f (of_scope scope g l) + f (of_scope (other scope) g l) ≡ f g + f l
sum-both f Global g l = refl
sum-both f Local g l = omega arith

-- ---- a scope's roots and loose items among all: around them are those of the other
abbrev roots_of : ScopeTrees → Content → List Root
roots_of t c = tree_root t.writes c.writes ∷ tree_root t.reads c.reads ∷ []

unfoldable pub around : Scope → ScopeTrees → Content → Around
around Global t c = record { front = []; back = roots_of t c; before = []; after = c.pending; few = omega arith }
around Local t c = record { front = roots_of t c; back = []; before = c.pending; after = []; few = omega arith }

pub scope-has : (scope : Scope) (h : HeldLatches) (g l : Content) → Kept h g l
    → ScopeHas h.pool (trees_of scope h) (of_scope scope g l) (around scope (trees_of (other scope) h) (of_scope (other scope) g l))
unfolding around
scope-has Global h g l k = record { stock = k.stock; fits_writes = k.fits_global.0; fits_reads = k.fits_global.1; listed = k.listed_global }
scope-has Local h g l k = record {
  stock = subst (λ ps. PoolHas h.pool (roots_of h.global g ++ roots_of h.local l) (g.pending ++ ps)) (sym (append-nil l.pending)) k.stock;
  fits_writes = k.fits_local.0;
  fits_reads = k.fits_local.1;
  listed = k.listed_local;
}

pub scope-sound : (scope : Scope) (h : HeldLatches) (g l : Content) → Kept h g l → IsSound (trees_of scope h) h.rows.items (of_scope scope g l)
scope-sound Global h g l k = k.sound_global
scope-sound Local h g l k = k.sound_local

pub has-content : (scope : Scope) (h : HeldLatches) (g l : Content) → Kept h g l → HasContent (trees_of scope h) (of_scope scope g l)
has-content scope h g l k = let o = scope-has scope h g l k in record {
  fits_writes = o.fits_writes;
  fits_reads = o.fits_reads;
  listed = (h.pool.seat.view, o.listed);
  few = (let a = sum-both many_of scope g l in let b = k.few in omega arith);
}

-- ---- the lists of a scope are those of a content
pub record ListsAre (s : Snapshot) (scope : Scope) (c : Content) : Type 0 where
  pub reads : list_of s scope Read ≡ in_order (held_of Read (read_items c))
  pub writes : list_of s scope Write ≡ in_order (held_of Write (items_in c.writes))

pub lists-are : (scope : Scope) (h : HeldLatches) (s : Snapshot) (n : ℕ) (o : Holds h s n) → ListsAre s scope (content_of scope o)
lists-are Global h s n o = record { reads = o.global_reads; writes = o.global_writes }
lists-are Local h s n o = record { reads = o.local_reads; writes = o.local_writes }

pub each-in : (P : HeldLatch → Type 0) (s : Snapshot) (scope : Scope) (access : Access) → EachHeld P s → EachOf P (list_of s scope access)
each-in P s Global Read h = h.0
each-in P s Global Write h = h.1
each-in P s Local Read h = h.2
each-in P s Local Write h = h.3

-- ---- a change in one scope
-- the pool and the trees of a scope are other ones, and the table is that of w
abbrev pub with_scope : Scope → (h w : HeldLatches) → Pool → ScopeTrees → HeldLatches
with_scope scope h w p t = record { pool = p; global = of_scope scope t h.global; local = of_scope scope h.local t; rows = w.rows }

-- The scope's trees have the content d now, and the other's still e.
pub record Changed (scope : Scope) (h w : HeldLatches) (p : Pool) (t : ScopeTrees) (s : Snapshot) (m : ℕ) (d e : Content) : Type 0 where
  pub has : ScopeHas p t d (around scope (trees_of (other scope) h) e)
  pub stay : Stay ((around scope (trees_of (other scope) h) e).before ++ (around scope (trees_of (other scope) h) e).after) h.pool p
  pub same : SamePool h.pool p
  pub sound : IsSound t w.rows.items d
  pub sound_other : IsSound (trees_of (other scope) h) w.rows.items e
  pub spare : aside_of d + aside_of e + m ≤ free_rows p
  pub few : many_of d + many_of e ≤ 8190
  pub lists : ListsAre s scope d
  pub lists_other : ListsAre s (other scope) e

pub changed : (scope : Scope) (h w : HeldLatches) (p : Pool) (t : ScopeTrees) (s u : Snapshot) (n m : ℕ) (o : Holds h s n) (d : Content)
    → Changed scope h w p t u m d (content_of (other scope) o)
    → (z : HasSpare (with_scope scope h w p t) u n m) × (content_of scope z.holds ≡ d) × (content_of (other scope) z.holds ≡ content_of (other scope) o)
unfolding around
changed Global h w p t s u n m o d k =
    let z : HasSpare (with_scope Global h w p t) u n m = record {
      holds = record {
        global = d;
        local = o.local;
        kept = record {
          stock = k.has.stock;
          fits_global = (k.has.fits_writes, k.has.fits_reads);
          fits_local = o.kept.fits_local;
          listed_global = k.has.listed;
          listed_local = list-stays h.pool.seat.view p.seat.view h.local.pending (rows_of o.local.pending) k.stay o.kept.listed_local;
          sound_global = k.sound;
          sound_local = k.sound_other;
          set_aside = (let a = k.spare in omega arith);
          few = k.few;
        };
        global_reads = k.lists.reads;
        global_writes = k.lists.writes;
        local_reads = k.lists_other.reads;
        local_writes = k.lists_other.writes;
        out = ap (λ (z : List (ℕ × ℕ)). length z) k.same.1.out ∙ o.out;
      };
      spare = k.spare;
    } in
    (z, refl, refl)
changed Local h w p t s u n m o d k =
    let g = o.global in
    let z : HasSpare (with_scope Local h w p t) u n m = record {
      holds = record {
        global = g;
        local = d;
        kept = record {
          stock = subst (λ ps. PoolHas p (roots_of h.global g ++ roots_of t d) (g.pending ++ ps)) (append-nil d.pending) k.has.stock;
          fits_global = o.kept.fits_global;
          fits_local = (k.has.fits_writes, k.has.fits_reads);
          listed_global = list-stays h.pool.seat.view p.seat.view h.global.pending (rows_of g.pending)
              (λ q i. k.stay q (subst (λ ps. mem q (rows_of ps) ≡ true) (sym (append-nil g.pending)) i)) o.kept.listed_global;
          listed_local = k.has.listed;
          sound_global = k.sound_other;
          sound_local = k.sound;
          set_aside = (let a = k.spare in omega arith);
          few = (let a = k.few in omega arith);
        };
        global_reads = k.lists_other.reads;
        global_writes = k.lists_other.writes;
        local_reads = k.lists.reads;
        local_writes = k.lists.writes;
        out = ap (λ (z : List (ℕ × ℕ)). length z) k.same.1.out ∙ o.out;
      };
      spare = (let a = k.spare in omega arith);
    } in
    (z, refl, refl)
