use Rattle.std.proofs.lemmas.Result.{err_from_is_err_and}
use Rattle.script.specs.Lines.{latches_at}
use Rattle.script.proofs.Loop.{goes_on, ends, is_done}
use Rattle.script.proofs.line.latches.Goals as goal

pub returns-in_err-latch : goal.returns-in_err-latch
returns-in_err-latch c =
    let so_far = rw (c.in-Some.ensures) at c.loop-field.invariant in
    let p = err_from_is_err_and c.from_residual.result c.from_residual.ensures.1 in
    rw (p.1, p.2) (ends c.in_err-latch.field-0.0 c.loop-field.list.items c.in-Some.field.now c.in-Some.after
    (latches_at c.args.fields) c.in_err-latch.ensures so_far)

pub loop-field-preserved : goal.loop-field-preserved
loop-field-preserved c =
    let so_far = rw (c.in-Some.ensures) at c.loop-field.invariant in
    rw c.in_ok-push.ensures.items
    (goes_on c.loop-field.list.items c.in-Some.field.now c.in-Some.after c.in_ok-latch.field-0 (latches_at c.args.fields) c.in_ok-latch.ensures so_far)

pub returns : goal.returns
returns c =
    rw c.shrink_to_fit.ensures.items
    (is_done c.loop-field.list.items (latches_at c.args.fields) (rw c.in_default.ensures at c.loop-field.invariant))
