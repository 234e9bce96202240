use Rattle.std.proofs.Common.{◌∙◌, length}
use Rattle.latch_model.specs.Histories.{latches_held, open_begins}
use Rattle.history_latches.proofs.Listing.{lists_in, total_is}
use Rattle.history_latches.proofs.latches.HistoryLatches.total.Goals as goal

pub returns : goal.returns
returns c = λ log sizes keeps. c.total.ensures (lists_in log) (length (open_begins log)) keeps.holds ∙ total_is (latches_held log)
