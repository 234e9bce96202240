-- What is left where a request doesn't begin.
use Rattle.std.specs.Prelude.{◌≡◌, ℕ, ◌≤◌, List, length}
use Rattle.latch_model.specs.Declaration.{Declaration}
use Rattle.latch_model.specs.declared.history.Entry.{Entry}
use Rattle.latch_model.specs.declared.latch.Mode.{Mode}
use Rattle.sequence_core.specs.Says.{Refuses}
use Rattle.sequence_core.specs.declared.fault.SeqFault.{SeqFault}
use Rattle.signal_board.specs.Rule.{IsPrefix}
use Rattle.signal_board.specs.Says.{PassSays, shown_all}
use Rattle.latch_manager.specs.Making.{Made}

-- A request didn't begin: the pass has been shown the history as it stood. The refusal speaks of this history, and of the rows that were free then.
pub record Declined (made : Made) (old : PassSays) (mode : Mode) (request : Declaration) (fault : SeqFault) (new : PassSays) : Type 0 where
  pub log : List Entry
  pub given : ℕ
  pub free : ℕ
  pub later : old.p.seen ≤ length log
  pub goes_on : IsPrefix old.p.shown log
  pub refuses : Refuses (record { core = made.core; sizes = made.sizes; log = log; given = given; free = free }) mode request.latches fault
  pub pass : new ≡ record old { p = shown_all log old.p }
