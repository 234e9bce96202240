use Rattle.script.proofs.Walked.{cut_lines}
use Rattle.script.proofs.read.next_line.Goals as goal

pub returns-clause-line : goal.returns-clause-line
returns-clause-line c = cut_lines c.args.bytes.now c.cut.result c.cut.ensures
