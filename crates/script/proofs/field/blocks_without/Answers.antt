use Rattle.std.proofs.Common.{◌≡◌, ◌+◌, ◌-◌, ℕ, false, take, drop, sym, subst, ◌∙◌, arith}
use Rattle.script.specs.Fields.{is_byte, has_byte}
use Rattle.script.proofs.Passed.{none_more}
use Rattle.script.proofs.field.blocks_without.Goals as goal

pub loop-passed-preserved : goal.loop-passed-preserved
loop-passed-preserved c =
    let passed = c.loop-passed.passed in
    let text = c.args.text.now in
    let block : (passed + 16) - passed ≡ 16 = omega arith in
    let none : has_byte c.args.c (take ((passed + 16) - passed) (drop passed text)) ≡ false = sym c.contains.ensures.value ∙ c.if-not-contains.true in
    let size = c.loop-passed-test.true in
    let inside = c.loop-passed.invariant.0 in (
      omega arith,
      none_more (is_byte c.args.c) passed 16 text c.loop-passed.invariant.1
          (subst (λ (k : ℕ). has_byte c.args.c (take k (drop passed text)) ≡ false) block none),
    )
