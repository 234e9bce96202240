use Rattle.std.proofs.Common.{Err, ap}
use Rattle.latch_tool.specs.Outcomes.{reading}
use Rattle.latch_tool.proofs.Endings.{has_read_long}
use Rattle.latch_tool.proofs.run.read_input.Goals as goal

pub returns-in-Err-TooLong-clause-read : goal.returns-in-Err-TooLong-clause-read
returns-in-Err-TooLong-clause-read g c =
    let source = reading g.S.Source.left g.S.Source.faults c.args.source.now c.read_all.new.source in
    let fault = ap Err c.in-Err-TooLong.field-0-is in
    has_read_long source (c.in-Err-TooLong.ensures.taken fault) (c.in-Err-TooLong.ensures.too_long fault)
