use Rattle.std.proofs.Common.{◌∙◌, sym, inr}
use Rattle.script.proofs.Numbers.{past_end}
use Rattle.script.proofs.field.digits.Goals as goal

pub returns-in_default : goal.returns-in_default
returns-in_default c =
    inr (past_end c.args.text.now c.loop-byte.byte-index c.loop-byte.n c.loop-byte-test.true c.loop-byte.invariant.1
    (sym c.is_ascii_digit.ensures.value ∙ c.if-not-is_ascii_digit.false) c.in_default.ensures)
