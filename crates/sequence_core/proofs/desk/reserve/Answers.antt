use Rattle.std.proofs.Common.{◌∙◌, List, length, subst}
use Rattle.latch_model.specs.Histories.{latches_held}
use Rattle.latch_model.specs.declared.latch.Latch.{Latch}
use Rattle.history_latches.specs.Logs.{free_of}
use Rattle.sequence_core.specs.Preparing.{FitsIn, Lacks, RowsFor}
use Rattle.sequence_core.proofs.desk.reserve.Goals as goal

pub returns-in-Err-clause-refused : goal.returns-in-Err-clause-refused
returns-in-Err-clause-refused c log sizes holds =
    subst (λ (ls : List Latch). Lacks c.args.limit c.args.mode (length (latches_held log)) (free_of c.args.kept.now.held) ls c.in-Err.fault)
    (c.list.ensures.list ∙ c.latches.ensures) (c.in-Err.ensures.refused log sizes holds)

pub returns-in-Err-prepare-clause-refused : goal.returns-in-Err-prepare-clause-refused
returns-in-Err-prepare-clause-refused c log sizes holds =
    subst (λ (ls : List Latch). FitsIn c.args.limit c.args.mode (length (latches_held log)) (length ls) × RowsFor c.args.mode (free_of c.args.kept.now.held) ls)
    (c.list.ensures.list ∙ c.latches.ensures) (c.in-Ok.ensures.fits log sizes holds)

pub returns-in-Ok-prepare-clause-fits : goal.returns-in-Ok-prepare-clause-fits
returns-in-Ok-prepare-clause-fits c log sizes holds =
    subst (λ (ls : List Latch). FitsIn c.args.limit c.args.mode (length (latches_held log)) (length ls) × RowsFor c.args.mode (free_of c.args.kept.now.held) ls)
    (c.list.ensures.list ∙ c.latches.ensures) (c.in-Ok.ensures.fits log sizes holds)
