use Rattle.std.proofs.Common.{◌∙◌}
use Rattle.latch_item.proofs.Bytes.{whole}
use Rattle.latch_item.proofs.words.whole_word.Goals as goal

pub returns : goal.returns
returns c = c.from_be_bytes.ensures ∙ whole c.args.at c.args.bytes.now
