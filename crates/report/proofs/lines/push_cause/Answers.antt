use Rattle.report.proofs.Plain.{plain_called}
use Rattle.report.proofs.lines.push_cause.Goals as goal

pub returns-in-From-clause-plain : goal.returns-in-From-clause-plain
returns-in-From-clause-plain c = rw c.in-From.is (plain_called c.in-From.by c.push_count.ensures.fits)
