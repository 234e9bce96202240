use Rattle.report.proofs.Plain.{plain_cancelled, plain_poisoned}
use Rattle.report.proofs.lines.push_fault.Goals as goal

pub returns-in-Poisoned-clause-plain : goal.returns-in-Poisoned-clause-plain
returns-in-Poisoned-clause-plain c = rw c.in-Poisoned.is (plain_poisoned c.in-Poisoned.by c.push_count.ensures.fits)

pub returns-in-Cancelled-clause-plain : goal.returns-in-Cancelled-clause-plain
returns-in-Cancelled-clause-plain c = rw c.in-Cancelled.is (plain_cancelled c.in-Cancelled.turns c.push_count-in-Cancelled.ensures.fits)
