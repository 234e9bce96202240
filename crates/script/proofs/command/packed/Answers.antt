use Rattle.std.proofs.Common.{◌≡◌, ◌-◌, sym, arith}
use Rattle.script.proofs.Packed.{fits_above, none_left, one_more}
use Rattle.script.proofs.command.packed.Goals as goal

pub loop-left-init : goal.loop-left-init
loop-left-init c = record { within = omega arith; value = sym (none_left c.args.bytes.now) }

pub overflow_mul-number : goal.overflow_mul-number
overflow_mul-number c =
    let l = c.loop-left in
    let small = rw (sym l.invariant.value) at (fits_above c.args.bytes.now l.left c.loop-left-test.true c.requires) in
    omega arith

pub overflow_add-number : goal.overflow_add-number
overflow_add-number c =
    let l = c.loop-left in
    let small = rw (sym l.invariant.value) at (fits_above c.args.bytes.now l.left c.loop-left-test.true c.requires) in
    let byte = c.type_inv.bytes (l.left - 1) in
    let is = c.from.ensures in
    omega arith

pub loop-left-preserved : goal.loop-left-preserved
loop-left-preserved c =
    let l = c.loop-left in
    let within = l.invariant.within in
    record {
      within = omega arith;
      value = rw (l.invariant.value, c.from.ensures) (one_more c.args.bytes.now l.left c.loop-left-test.true l.invariant.within);
    }

pub returns : goal.returns
returns c =
    let zero : c.loop-left.left ≡ 0 = let no = c.loop-left-test.false in omega arith in
    rw zero at c.loop-left.invariant.value
