-- A seat with shots that captured nothing is split off, and comes back.
use Rattle.std.proofs.Common.{◌≡◌, ℕ, true, List, [], ◌∷◌, refl, sym, ap, ◌∙◌, arith}
use Rattle.std.specs.Prelude.{MatchOption, None, Option, Some}
use Rattle.std.proofs.lemmas.List.Elements.{All-nil}
use Rattle.atomic_table.specs.Seated.{TableId}
use Rattle.span_key.specs.declared.scopes.Scope.TheVariants.{Global, Local}
use Rattle.latch_model.specs.Histories.{HeldLatch}
use Rattle.latch_model.specs.Latches.{in_scope}
use Rattle.latch_model.specs.declared.latch.Latch.{Latch}
use Rattle.row_pool.proofs.Chains.{chain-on}
use Rattle.row_pool.specs.Changes.{remaining, split_off}
use Rattle.row_pool.specs.Lists.{find}
use Rattle.row_pool.specs.Numbers.{next_number}
use Rattle.row_pool.specs.SeatState.{SeatState}
use Rattle.row_pool.specs.SeatView.{SeatView}
use Rattle.row_pool.specs.TestSeats.{Holding}
use Rattle.row_pool.specs.Trees.{Tree}
use Rattle.row_pool.specs.declared.chain.Chain.{Chain}
use Rattle.latch_item.specs.declared.shot.Shot.{Shot}
use Rattle.latch_shots.specs.Met.{IsMet}
use Rattle.latch_shots.specs.Shots.{IsReturned, view_of}
use Rattle.latch_shots.specs.Shown.{Show}
use Rattle.latch_shots.specs.TestShots.{nothing}
use Rattle.latch_shots.specs.Walks.{Meets}
use Rattle.latch_shots.specs.declared.met.MetLatch.{MetLatch}
use Rattle.latch_shots.specs.declared.shots.Returned.{Returned}
use Rattle.latch_shots.specs.declared.shots.Shots.{Shots}
use Rattle.latch_shots.specs.declared.walk.Walk.{Walk}

pub stand-split_none : (p : TableId) (s n : SeatState) (c : Chain) (ts : List Tree) (rs : List ℕ) → Holding p s c ts rs → n.table ≡ s.table
    → n.view ≡ remaining [] s.view → Holding p n c ts rs
stand-split_none p s n c ts rs h table move = record {
  table = table ∙ h.table;
  refs = ap (λ (v : SeatView). v.refs) move ∙ h.refs;
  chain = chain-on s.view n.view c rs (λ q _. ap (λ (v : SeatView). find q v.owned) move) h.chain;
  all = λ q e f. h.all q e (sym (ap (λ (v : SeatView). find q v.owned) move) ∙ f);
}

abbrev pub no_root : Shot
no_root = record { root = None; height = 0 }

pub shown-nothing : (v w : SeatView) → w ≡ split_off [] v → v.out ≡ [] → Show w 1 no_root no_root no_root no_root nothing
shown-nothing v w move out = record {
  split_off = (let two : w.number ≡ 2 = ap (λ (u : SeatView). u.number) move ∙ ap next_number out in omega arith);
  alone = ap (λ (u : SeatView). u.owned) move;
  items_global_reads = [];
  items_global_writes = [];
  items_local_reads = [];
  items_local_writes = [];
  roots = (refl, (refl, (refl, (refl, ap (λ (u : SeatView). u.refs) move))));
  are_global_reads = refl;
  are_global_writes = refl;
  are_local_reads = refl;
  are_local_writes = refl;
  global_scope = (All-nil (λ (x : HeldLatch). in_scope Global x.latch ≡ true), All-nil (λ (x : HeldLatch). in_scope Global x.latch ≡ true));
  local_scope = (All-nil (λ (x : HeldLatch). in_scope Local x.latch ≡ true), All-nil (λ (x : HeldLatch). in_scope Local x.latch ≡ true));
}

pub holding-returned : (p : TableId) (n : ℕ) (r : Returned) → (h : IsReturned p n r) → Holding p r.seat r.rows [] h.owns.rows
holding-returned p n r h = record { table = h.same_table; refs = h.no_refs; chain = h.owns.chain; all = h.owns.all }

-- a walk that was asked once may be asked again
pub asked-again : (d : Shots) (u : Walk) (l : Latch) (result : Option MetLatch) (todo : List HeldLatch)
    → MatchOption result ((todo ≡ []) × Meets d u l [])
    (λ m. (x : HeldLatch) × (rest : List HeldLatch) × (todo ≡ x ∷ rest) × IsMet (view_of d) m x × Meets d u l rest)
    → (rest : List HeldLatch) × Meets d u l rest
asked-again d u l None todo (none, meets) = ([], meets)
asked-again d u l (Some m) todo (x, rest, next, met, meets) = (rest, meets)
