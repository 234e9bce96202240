-- A desk of a making that refuses a request, as its manager tells it.
use Rattle.std.proofs.Common.{◌≡◌, ◌≤◌, length, Result, Ok, Err, IfErr, subst}
use Rattle.latch_model.specs.Declaration.{Declaration}
use Rattle.latch_model.specs.declared.history.Sizes.{Sizes}
use Rattle.latch_model.specs.declared.latch.Mode.{Mode}
use Rattle.sequence_core.specs.Says.{DeskState, Refuses}
use Rattle.sequence_core.specs.declared.desk.SeqRefusal.{SeqRefusal}
use Rattle.signal_board.specs.Rule.{IsPrefix}
use Rattle.signal_board.specs.Says.{PassSays, shown_all}
use Rattle.waiter.specs.Says.{CoreId}
use Rattle.latch_manager.specs.Declining.{Declined}
use Rattle.latch_manager.specs.Making.{Made}

module _ (made : Made) (d after : DeskState) (old new : PassSays) (mode : Mode) (request : Declaration) (core : d.core ≡ made.core) (sizes : d.sizes ≡ made.sizes)
    (later : old.p.seen ≤ length d.log) (goes_on : IsPrefix old.p.shown d.log) where
  pub declines : {T : Type 0} (begun : Result T SeqRefusal) → IfErr begun (λ e. Refuses d mode request.latches e.fault)
      → IfErr begun (λ e. (after ≡ d) × (e.request ≡ request) × (new ≡ record old { p = shown_all d.log old.p }))
      → IfErr begun (λ e. Declined made old mode request e.fault new)
  declines (Ok opened) refuses same = tt
  declines (Err e) refuses same = record {
    log = d.log;
    given = d.given;
    free = d.free;
    later = later;
    goes_on = goes_on;
    refuses =
        subst (λ (x : CoreId × Sizes). Refuses (record { core = x.0; sizes = x.1; log = d.log; given = d.given; free = d.free }) mode request.latches e.fault)
        (λ i. (core i, sizes i)) refuses;
    pass = same.2;
  }
