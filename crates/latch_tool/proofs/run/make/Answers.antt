use Rattle.std.proofs.Common.{◌≡◌, ◌∙◌, ap, refl, subst, sym}
use Rattle.step_run.specs.Lines.{EndsLine, last_line}
use Rattle.latch_tool.specs.Outcomes.{WritesAll}
use Rattle.latch_tool.specs.declared.form.Form.TheVariants as form
use Rattle.latch_tool.specs.declared.status.Status.{Status}
use Rattle.latch_tool.proofs.Endings.{done_is_no_write_fault, made_all, made_lacks, made_line_written, made_part, no_reading, stopped_ends}
use Rattle.latch_tool.proofs.Endings.{stopped_is_no_write_fault, writes_made}
use Rattle.latch_tool.proofs.run.make.Goals as goal

pub returns-in-Ok-clause-written : goal.returns-in-Ok-clause-written
returns-in-Ok-clause-written g c = λ source kept.
    let is = c.last_line.ensures.value ∙ ap last_line (c.as_slice.ensures.value ∙ c.in-Ok.ensures.output) in
    let w = c.tell.ensures.whole kept in
    made_all source c.args.requests c.tell.result c.last_line.result.now (g.O.Sink.written c.args.sink.now) (g.O.Sink.written c.tell.new.sink) is w.0 w.1

pub returns-in-Ok-clause-part : goal.returns-in-Ok-clause-part
returns-in-Ok-clause-part g c = λ source failed.
    let is = c.last_line.ensures.value ∙ ap last_line (c.as_slice.ensures.value ∙ c.in-Ok.ensures.output) in
    made_part source c.args.requests c.last_line.result.now (g.O.Sink.written c.args.sink.now) (g.O.Sink.written c.tell.new.sink) is
    (c.tell.ensures.part failed)

pub returns-in-Ok-clause-makes : goal.returns-in-Ok-clause-makes
returns-in-Ok-clause-makes g c = λ done.
    let is = c.last_line.ensures.value ∙ ap last_line (c.as_slice.ensures.value ∙ c.in-Ok.ensures.output) in
    let w = c.tell.ensures.whole (done_is_no_write_fault c.tell.result done) in
    made_line_written c.args.requests c.last_line.result.now (g.O.Sink.written c.args.sink.now) (g.O.Sink.written c.tell.new.sink)
    (c.generated_is_a_script.ensures.script c.args.requests c.requires) is w.1

pub last_line-requires : goal.last_line-requires
last_line-requires g c = subst EndsLine (sym c.as_slice.ensures.value) c.in-Ok.ensures.ends

pub finish-requires : goal.finish-requires
finish-requires g c = stopped_is_no_write_fault c.in-Err.fault c.stopped.result c.stopped.ensures.rows

pub returns-in-Err-clause-written : goal.returns-in-Err-clause-written
returns-in-Err-clause-written g c = λ source kept.
    let of = form.Make c.args.requests in
    c.finish.ensures.written of source
    (stopped_ends of source c.in-Err.fault c.stopped.result refl (made_lacks source c.args.requests c.in-Err.fault c.in-Err.ensures.stops)
    c.stopped.ensures.rows c.stopped.ensures.memory)
    kept

pub returns-in-Err-clause-part : goal.returns-in-Err-clause-part
returns-in-Err-clause-part g c = λ source failed.
    let of = form.Make c.args.requests in
    c.finish.ensures.part of source
    (stopped_ends of source c.in-Err.fault c.stopped.result refl (made_lacks source c.args.requests c.in-Err.fault c.in-Err.ensures.stops)
    c.stopped.ensures.rows c.stopped.ensures.memory)
    failed

pub returns-in-Err-clause-makes : goal.returns-in-Err-clause-makes
returns-in-Err-clause-makes g c = λ done.
    let of = form.Make c.args.requests in
    let before = g.O.Sink.written c.args.sink.now in
    let now = g.O.Sink.written c.finish.new.sink in
    let whole = c.finish.ensures.written of no_reading
    (stopped_ends of no_reading c.in-Err.fault c.stopped.result refl
    (made_lacks no_reading c.args.requests c.in-Err.fault c.in-Err.ensures.stops) c.stopped.ensures.rows c.stopped.ensures.memory)
    (done_is_no_write_fault c.finish.result done) in
    writes_made c.args.requests before now (c.generated_is_a_script.ensures.script c.args.requests c.requires)
    (subst (λ (s : Status). WritesAll of no_reading s before now) done whole)
