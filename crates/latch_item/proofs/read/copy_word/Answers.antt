use Rattle.std.proofs.Common.{◌+◌, ◌-◌, ◌++◌, length, take, ap, ◌∙◌, arith}
use Rattle.std.proofs.lemmas.Slice.{take-put_mid}
use Rattle.latch_item.proofs.Bytes.{spelled-be}
use Rattle.latch_item.proofs.read.copy_word.Goals as goal

pub returns-clause-put : goal.returns-clause-put
returns-clause-put c =
    let ys = c.copy_from_slice.new.self in
    let at = c.args.at in
    let is = c.copy_from_slice.ensures.after ∙ c.to_be_bytes.ensures ∙ spelled-be c.args.word in
    take-put_mid at (at + 8 - at) c.args.bytes.now ys (at + 8) (let n = ap length is in omega arith) (let r = c.requires in omega arith)
    ∙ ap (λ l. take at c.args.bytes.now ++ l) is
