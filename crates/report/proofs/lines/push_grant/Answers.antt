use Rattle.report.proofs.Plain.{plain_waited}
use Rattle.report.proofs.lines.push_grant.Goals as goal

pub returns-in-Waited-clause-plain : goal.returns-in-Waited-clause-plain
returns-in-Waited-clause-plain c = rw c.in-Waited.is (plain_waited c.in-Waited.front c.push_count.ensures.fits)
