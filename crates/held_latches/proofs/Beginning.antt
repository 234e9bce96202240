-- The held latches of a fresh pool: none.
use Rattle.std.proofs.Common.{◌≡◌, ℕ, ◌<◌, true, List, [], ◌∷◌, length, ap, sym, refl, ◌∙◌, subst, arith, inl}
use Rattle.std.specs.Prelude.{None}
use Rattle.std.specs.List.{IsDistinct}
use Rattle.row_pool.proofs.Chains.{chain-on}
use Rattle.row_pool.proofs.FirstState.{free-at}
use Rattle.row_pool.specs.Chains.{IsChain}
use Rattle.row_pool.specs.Changes.{fresh}
use Rattle.row_pool.specs.Lists.{find, mem}
use Rattle.row_pool.specs.SeatView.{SeatView}
use Rattle.row_pool.specs.Trees.{Tree as Row}
use Rattle.latch_shots.specs.Roots.{AreRoots, HasRoot, Root}
use Rattle.held_latches.specs.Content.{Content, EachOf}
use Rattle.held_latches.specs.Holding.{Holds, IsSound}
use Rattle.held_latches.specs.Lists.{no_lists}
use Rattle.held_latches.specs.Scopes.{IsEmpty}
use Rattle.held_latches.specs.Steps.{PoolHas}
use Rattle.held_latches.specs.Stock.{tree_root}
use Rattle.held_latches.specs.declared.held.HeldLatches.{HeldLatches}
use Rattle.held_latches.specs.declared.pool.Pool.{Pool}
use Rattle.held_latches.specs.declared.scopes.ScopeTrees.{ScopeTrees}

empty-roots : (rs : List Root) (refs : List Row) → EachOf (λ (r : Root). (r.row ≡ None) × (r.items ≡ [])) rs → refs ≡ [] → AreRoots rs refs
empty-roots [] refs e z = z
empty-roots (r ∷ rs) refs e z = subst (λ k. HasRoot k r.height r.items (AreRoots rs) refs) (sym e.0.0) (e.0.1, empty-roots rs refs e.1 z)

abbrev no-content : Content
no-content = record { writes = []; reads = []; pending = [] }

no-sound : (s : ScopeTrees) (table : List ℕ) → IsSound s table no-content
no-sound s table = record {
  writes_apart = tt;
  reads_apart = tt;
  filed_writes = λ t m. absurd m;
  filed_reads = λ t m. absurd m;
  filed_pending = λ p m. absurd m;
  early = λ t m. absurd m;
  late = λ p m. absurd m;
}

fresh-pool : (p : Pool) (n : ℕ) (rs : List ℕ) (g l : ScopeTrees) → p.seat.view ≡ fresh n → IsChain (fresh n) p.chain rs → ((q : ℕ) → q < n → mem q rs ≡ true)
    → IsEmpty g → IsEmpty l → PoolHas p (tree_root g.writes [] ∷ tree_root g.reads [] ∷ tree_root l.writes [] ∷ tree_root l.reads [] ∷ []) []
unfolding IsDistinct
fresh-pool p n rs g l move on all eg el = record {
  first = ap (λ (v : SeatView). v.number) move;
  refs = empty-roots (tree_root g.writes [] ∷ tree_root g.reads [] ∷ tree_root l.writes [] ∷ tree_root l.reads [] ∷ []) p.seat.view.refs
      ((eg.no_writes.0, refl), ((eg.no_reads.0, refl), ((el.no_writes.0, refl), ((el.no_reads.0, refl), tt)))) (ap (λ (v : SeatView). v.refs) move);
  free = rs;
  chained = chain-on (fresh n) p.seat.view p.chain rs (λ q m. ap (λ (v : SeatView). find q v.owned) move) on;
  all = λ q e f. let o = free-at n 0 n q e (sym (ap (λ (v : SeatView). find q v.owned) move) ∙ f) in inl (all q (let a = o.1 in omega arith));
  items = tt;
  apart = tt;
}

pub fresh-holds : (h : HeldLatches) (n : ℕ) (rs : List ℕ) → h.pool.seat.view ≡ fresh n → IsChain (fresh n) h.pool.chain rs
    → ((q : ℕ) → q < n → mem q rs ≡ true) → IsEmpty h.global → IsEmpty h.local → Holds h no_lists 0
fresh-holds h n rs move on all eg el = record {
  global = no-content;
  local = no-content;
  kept = record {
    stock = fresh-pool h.pool n rs h.global h.local move on all eg el;
    fits_global = (eg.no_writes.1, eg.no_reads.1);
    fits_local = (el.no_writes.1, el.no_reads.1);
    listed_global = eg.none_pending h.pool.seat.view;
    listed_local = el.none_pending h.pool.seat.view;
    sound_global = no-sound h.global h.rows.items;
    sound_local = no-sound h.local h.rows.items;
    set_aside = omega arith;
    few = omega arith;
  };
  global_reads = refl;
  global_writes = refl;
  local_reads = refl;
  local_writes = refl;
  out = ap (λ (v : SeatView). length v.out) move;
}
