use Rattle.sequence_core.proofs.Keeping.{kept_first}
use Rattle.sequence_core.proofs.desk.Desk.new.Goals as goal

pub furnish-requires-clause-kept : goal.furnish-requires-clause-kept
furnish-requires-clause-kept c =
    let made = c.in-Ok.ensures in
    kept_first c.args.sizes c.in-Ok.made.1 made.book made.begun made.lanes made.held.0
