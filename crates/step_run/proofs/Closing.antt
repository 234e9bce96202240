-- The passes of a run without live names are all there, and idle.
use Rattle.std.proofs.Common.{◌≡◌, ℕ, ◌-◌, List, [], length, Some, refl, sym, ap, ◌∙◌, subst, arith}
use Rattle.std.specs.Prelude.{slice_get}
use Rattle.std.specs.List.{All}
use Rattle.std.proofs.lemmas.Option.{get_or_from_slice_get, slice_get_within}
use Rattle.latch_model.proofs.Members.{get_below}
use Rattle.sequence_core.specs.Says.{DeskState, HasEachPass}
use Rattle.waiter.specs.Says.{CoreId}
use Rattle.signal_board.specs.Rule.{open_count}
use Rattle.signal_board.specs.Says.{PassSays}
use Rattle.step_run.specs.Lives.{LiveSays}
use Rattle.step_run.specs.Runs.{IsPass, RunSays, Sound}

pub passes_closed : (r : RunSays) (d : DeskState) → Sound 0 r → r.lives ≡ [] → r.desk ≡ d.core → r.given ≡ d.given → HasEachPass d r.passes
passes_closed r d h e core given = record {
  tables = all (λ (p : PassSays). p.table ≡ d.core.signals) (λ i p at. (h.passes i p at).table ∙ ap (λ (k : CoreId). k.signals) (sym h.core ∙ core));
  idle = all (λ (p : PassSays). open_count p.p.mine ≡ 0) (λ i p at. (here i p at).idle (λ z. absurd (omega arith)) refl);
  each = λ who low high.
      let few : d.given ≡ 64 = sym given ∙ h.given in
      let many : length r.passes ≡ 64 = h.count in
      let w = get_below r.passes (who - 1) (omega arith) in
      let number = (h.passes (who - 1) w.0 w.1).who in
      (w.0, (who - 1, slice_get_within r.passes (who - 1) w.0 w.1, get_or_from_slice_get r.passes (who - 1) w.0 w.0 w.1), omega arith);
}
  where
    here : (i : ℕ) (p : PassSays) → slice_get r.passes i ≡ Some p → IsPass r.core 0 [] i p
    here i p at = subst (λ (ls : List LiveSays). IsPass r.core 0 ls i p) e (h.passes i p at)

    all : (P : PassSays → Type 0) → ((i : ℕ) (p : PassSays) → slice_get r.passes i ≡ Some p → P p) → All P r.passes
    all P k x y lt =
        let w = get_below r.passes x lt in
        subst P (sym (get_or_from_slice_get r.passes x w.0 y w.1)) (k x w.0 w.1)
