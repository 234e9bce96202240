-- What the calls of a manager do to a pass. A desk behind a mutex is known by its making alone: each call tells what the history was at its
-- moment, and no call what it is now.
use Rattle.std.specs.Prelude.{◌≡◌, ℕ, ◌≤◌, ◌<◌, List, [], ◌∷◌, ◌++◌, length, Some}
use Rattle.std.specs.List.{All, Contains}
use Rattle.atomic_table.specs.Seated.{TableId}
use Rattle.latch_model.specs.Declaration.{Declaration}
use Rattle.latch_model.specs.Histories.{begin_with, entry_of, open_begins}
use Rattle.latch_model.specs.Legal.{IsLegal}
use Rattle.latch_model.specs.declared.history.Entry.{Entry}
use Rattle.latch_model.specs.declared.history.Fault.TheVariants.{None as no_fault}
use Rattle.latch_model.specs.declared.history.Sizes.{Sizes}
use Rattle.latch_model.specs.declared.latch.Mode.{Mode}
use Rattle.sequence_core.specs.Counted.{metrics_of}
pub use Rattle.sequence_core.specs.Says.{end_entry, next_begin}
use Rattle.sequence_core.specs.declared.metrics.Metrics.{Metrics}
use Rattle.signal_board.specs.Rule.{IsPrefix, begun_as, open_count}
use Rattle.signal_board.specs.Says.{PassSays, shown_all, shown_to}
use Rattle.signal_board.specs.Steps.{new_request, wrote}
use Rattle.waiter.specs.Says.{CoreId, EndingSays, GrantedSays, OpenedSays, WaitingSays, Unpolled}

-- A making: its core, and its sizes.
pub record Made : Type 0 where
  pub core : CoreId
  pub sizes : Sizes

-- a table of no words
abbrev no_table : TableId
no_table = record { words = 0; slots = 0; views_name = 0; atom = 0; block = 0; offset = 0; slot_names = [] }

abbrev pub nothing_made : Made
nothing_made = record { core = record { signals = no_table; rows = no_table }; sizes = record { latches = 0; lanes = 0; rows = 0 } }

-- One entry of the pass was added to the history as it stood, which was no shorter than what the pass had seen and went on from what it had
-- been shown. The pass has then been shown all of it.
pub record Adds (sizes : Sizes) (old : PassSays) (log : List Entry) (e : Entry) (new : PassSays) : Type 0 where
  pub later : old.p.seen ≤ length log
  pub goes_on : IsPrefix old.p.shown log
  pub legal : IsLegal (log ++ e ∷ []) sizes
  pub pass : new ≡ record old { p = shown_all (log ++ e ∷ []) (wrote old.p (length log) e) }

-- A request was begun: it has been shown the history with its begin, and the pass has one open request now.
pub record Began (made : Made) (old : PassSays) (mode : Mode) (request : Declaration) (opened : OpenedSays) (new : PassSays) : Type 0 where
  pub log : List Entry
  pub adds : Adds made.sizes old log (entry_of (next_begin log old.p.who mode request)) new
  pub opened_is : opened ≡ record {
    core = made.core;
    r = shown_to (log ++ entry_of (next_begin log old.p.who mode request) ∷ []) (new_request log (entry_of (next_begin log old.p.who mode request)));
  }
  pub busy : open_count new.p.mine ≡ 1

-- A request was ended: the history has its begin, and the pass has no open request now.
pub record Finished (made : Made) (old : PassSays) (ending : EndingSays) (new : PassSays) : Type 0 where
  pub log : List Entry
  pub adds : Adds made.sizes old log (end_entry ending) new
  pub begun : begin_with log ending.r.id ≡ Some (begun_as ending.r)
  pub idle : open_count new.p.mine ≡ 0

-- a request that begins to wait
abbrev pub unpolled : OpenedSays → WaitingSays
unpolled opened = record { core = opened.core; r = opened.r; turns = 0; last = Unpolled }

-- A granted request that ends as it was granted.
abbrev pub done_with : GrantedSays → EndingSays
done_with granted = record { core = granted.core; r = granted.r; grant = granted.grant; fault = no_fault }

-- These are the counts of some history of the making, which is legal, beside the free rows. Where no request of it is open, these are all rows.
abbrev pub CountsSome : Made → Metrics → Type 0
CountsSome made counts =
    (log : List Entry) × IsLegal log made.sizes × (counts ≡ metrics_of log counts.free) × (open_begins log ≡ [] → counts.free ≡ made.sizes.rows)

-- All passes of a making, each without an open request.
pub record HasAllPasses (made : Made) (passes : List PassSays) : Type 0 where
  pub tables : All (λ p. p.table ≡ made.core.signals) passes
  pub idle : All (λ p. open_count p.p.mine ≡ 0) passes
  pub each : (who : ℕ) → 0 < who → who ≤ made.sizes.lanes → (p : PassSays) × Contains passes p × (p.p.who ≡ who)
