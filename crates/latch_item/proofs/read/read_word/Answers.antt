use Rattle.latch_item.proofs.Rows.{near-item, read-item}
use Rattle.latch_item.proofs.read.read_word.Goals as goal

pub read-requires-clause-reachable : goal.read-requires-clause-reachable
read-requires-clause-reachable c = near-item c.args.seat.now.view c.args.a c.requires.item.0 c.args.word c.requires.place c.requires.item.1

pub returns-clause-word : goal.returns-clause-word
returns-clause-word c = λ x b. read-item c.args.seat.now.view c.args.a x c.args.word c.read.result c.requires.place c.read.ensures.tree c.read.ensures.known b
