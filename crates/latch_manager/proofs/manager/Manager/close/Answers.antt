use Rattle.std.proofs.Common.{◌≡◌, ℕ, List, false, sym, ap, ◌∙◌, subst}
use Rattle.latch_model.specs.Histories.{is_open}
use Rattle.latch_model.specs.Legal.{IsLegal}
use Rattle.latch_model.specs.Recorded.{Recorded}
use Rattle.latch_model.specs.declared.history.Entry.{Entry}
use Rattle.latch_model.specs.declared.history.Sizes.{Sizes}
use Rattle.signal_board.specs.Rule.{ByGiven, IsPrefix}
use Rattle.latch_manager.proofs.manager.Manager.close.Goals as goal

pub returns-clause-legal : goal.returns-clause-legal
returns-clause-legal g c = subst (λ (h : Recorded). IsLegal h.entries h.sizes) (sym c.close.ensures.history) c.close.ensures.legal

pub returns-clause-closed : goal.returns-clause-closed
returns-clause-closed g c = subst (λ (h : Recorded). (id : ℕ) → is_open h.entries id ≡ false) (sym c.close.ensures.history) c.close.ensures.closed

pub returns-clause-shown : goal.returns-clause-shown
returns-clause-shown g c p there =
    subst (λ (h : Recorded). IsPrefix p.p.shown h.entries) (sym c.close.ensures.history) (c.close.ensures.shown p there)

pub returns-clause-by_given : goal.returns-clause-by_given
returns-clause-by_given g c =
    along c.close.result _ _ _ c.close.ensures.history (c.known.ensures.given ∙ ap (λ (s : Sizes). s.lanes) c.into_parts-core.ensures.desk.1)
    c.close.ensures.by_given
  where
    along : (h : Recorded) (log : List Entry) (given lanes : ℕ) {sizes : Sizes} → h ≡ record { entries = log; sizes = sizes } → given ≡ lanes →
        ByGiven log given → ByGiven h.entries lanes
    along h log given lanes is same by =
        subst (λ (x : Recorded). ByGiven x.entries lanes) (sym is) (subst (ByGiven log) same by)
