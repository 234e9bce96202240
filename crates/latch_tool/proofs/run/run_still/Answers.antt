use Rattle.std.proofs.Common.{ℕ, ◌∙◌, ap, refl, subst, sym}
use Rattle.latch_tool.specs.Outcomes.{WritesAll, WritesMade, WritesPart, reading}
use Rattle.latch_tool.specs.Words.{reads}
use Rattle.latch_tool.proofs.Endings.{Completes, done_is_no_write_fault, help_part, made_done, same_number, script_done, usage_part, writes_steps}
use Rattle.latch_tool.specs.declared.form.Form.{Form}
use Rattle.latch_tool.specs.declared.form.Form.TheVariants as form
use Rattle.latch_tool.specs.declared.status.Status.{Status}
use Rattle.latch_tool.proofs.run.run_still.Goals as goal

pub returns-in-Step-clause-steps : goal.returns-in-Step-clause-steps
returns-in-Step-clause-steps g c = λ _ done.
    let source = reading g.S.Source.left g.S.Source.faults c.args.source.now c.step.new.source in
    let before = g.O.Sink.written c.args.sink.now in
    let now = g.O.Sink.written c.step.new.sink in
    let whole = done_is_no_write_fault c.step.result done in
    writes_steps source before now (subst (λ (s : Status). WritesAll form.Step source s before now) done (c.step.ensures.written whole))

pub returns-in-Step-clause-complete : goal.returns-in-Step-clause-complete
returns-in-Step-clause-complete g c = λ _ has sound kept.
    let source = reading g.S.Source.left g.S.Source.faults c.args.source.now c.step.new.source in
    let before = g.O.Sink.written c.args.sink.now in
    let now = g.O.Sink.written c.step.new.sink in
    let is = ap reads (sym c.in-Step.ensures.form) in
    subst (λ (f : Form). Completes f source c.step.result) c.in-Step.ensures.form
    (script_done form.Step source c.step.result before now refl (has is) sound (c.step.ensures.written (λ e. kept (c.step.ensures.write_fault e))))

pub returns-in-Make-clause-written : goal.returns-in-Make-clause-written
returns-in-Make-clause-written g c = λ kept.
    let source = reading g.S.Source.left g.S.Source.faults c.args.source.now c.args.source.now in
    let before = g.O.Sink.written c.args.sink.now in
    let now = g.O.Sink.written c.make.new.sink in
    subst (λ (f : Form). WritesAll f source c.make.result before now) c.in-Make.ensures.form (c.make.ensures.written source kept)

pub returns-in-Make-clause-part : goal.returns-in-Make-clause-part
returns-in-Make-clause-part g c = λ failed.
    let source = reading g.S.Source.left g.S.Source.faults c.args.source.now c.args.source.now in
    let before = g.O.Sink.written c.args.sink.now in
    let now = g.O.Sink.written c.make.new.sink in
    subst (λ (f : Form). WritesPart f source before now) c.in-Make.ensures.form (c.make.ensures.part source failed)

pub returns-in-Make-clause-makes : goal.returns-in-Make-clause-makes
returns-in-Make-clause-makes g c = λ n is done.
    let before = g.O.Sink.written c.args.sink.now in
    let now = g.O.Sink.written c.make.new.sink in
    subst (λ (k : ℕ). WritesMade k before now) (same_number c.in-Make.requests n (c.in-Make.ensures.form ∙ is)) (c.make.ensures.makes done)

pub returns-in-Make-clause-complete : goal.returns-in-Make-clause-complete
returns-in-Make-clause-complete g c = λ _ _ _ kept.
    let source = reading g.S.Source.left g.S.Source.faults c.args.source.now c.args.source.now in
    let before = g.O.Sink.written c.args.sink.now in
    let now = g.O.Sink.written c.make.new.sink in
    subst (λ (f : Form). Completes f source c.make.result) c.in-Make.ensures.form
    (made_done source c.in-Make.requests c.make.result before now (c.make.ensures.written source (λ e. kept (c.make.ensures.write_fault e))))

pub returns-in-Help-clause-part : goal.returns-in-Help-clause-part
returns-in-Help-clause-part g c = λ failed.
    let source = reading g.S.Source.left g.S.Source.faults c.args.source.now c.args.source.now in
    let before = g.O.Sink.written c.args.sink.now in
    let now = g.O.Sink.written c.tell.new.sink in
    subst (λ (f : Form). WritesPart f source before now) c.in-Help.ensures.form (help_part source before now (c.tell.ensures.part failed))

pub returns-in-Usage-clause-part : goal.returns-in-Usage-clause-part
returns-in-Usage-clause-part g c = λ failed.
    let source = reading g.S.Source.left g.S.Source.faults c.args.source.now c.args.source.now in
    let before = g.O.Sink.written c.args.sink.now in
    let now = g.O.Sink.written c.tell-in-Usage.new.sink in
    subst (λ (f : Form). WritesPart f source before now) c.in-Usage.ensures.form (usage_part source before now (c.tell-in-Usage.ensures.part failed))
