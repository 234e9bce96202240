use Rattle.std.proofs.Common.{◌+◌, ◌-◌, ◌*◌, ◌^◌, ◌%◌, length, refl, ap, ◌∙◌}
use Rattle.std.proofs.Math.Facts.{Fits-lt-pow}
use Rattle.latch_item.proofs.Bytes.{bytes-from, last-bytes}
use Rattle.latch_item.proofs.words.last_word.Goals as goal

pub returns-else-len-lt8 : goal.returns-else-len-lt8
returns-else-len-lt8 c =
    let bs = c.args.bytes.now in let at = c.args.at in
    ap (λ w. w * 2 ^ (8 * (at + 8 - length bs)) % 2 ^ 64) c.whole_word.ensures
    ∙ last-bytes at (8 * (at + 8 - length bs)) bs (bytes-from bs (λ i. Fits-lt-pow (c.type_inv.bytes i))) c.if-len-lt8.false c.requires.0 c.requires.1 refl
