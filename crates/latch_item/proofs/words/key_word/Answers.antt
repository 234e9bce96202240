use Rattle.std.proofs.Common.{◌*◌, sym}
use Rattle.latch_item.specs.Bytes.{key_word}
use Rattle.latch_item.proofs.Bytes.{past-end}
use Rattle.latch_item.proofs.words.key_word.Goals as goal

pub returns-then-at-bytes : goal.returns-then-at-bytes
unfolding key_word
returns-then-at-bytes c = c.whole_word.ensures

pub returns-then-at-bytes-2 : goal.returns-then-at-bytes-2
unfolding key_word
returns-then-at-bytes-2 c = c.last_word.ensures

pub returns-else-at-bytes-2 : goal.returns-else-at-bytes-2
unfolding key_word
returns-else-at-bytes-2 c = sym (past-end (c.args.i * 8) c.args.bytes.now c.if-at-bytes-2.false)
