use Rattle.std.proofs.Common.{◌∙◌, ap, refl, subst, sym}
use Rattle.latch_tool.specs.Outcomes.{WritesAll, WritesReplay, reading}
use Rattle.latch_tool.specs.Words.{reads}
use Rattle.latch_tool.proofs.Endings.{Completes, done_is_no_write_fault, same_layout, script_done, writes_replay}
use Rattle.latch_tool.specs.declared.form.Form.TheVariants as form
use Rattle.latch_tool.specs.declared.form.Form.{Form}
use Rattle.latch_tool.specs.declared.form.Layout.{Layout}
use Rattle.latch_tool.specs.declared.status.Status.{Status}
use Rattle.latch_tool.proofs.run.run.Goals as goal

pub returns-in-Replay-clause-replays : goal.returns-in-Replay-clause-replays
returns-in-Replay-clause-replays g c = λ layout is done.
    let source = reading g.S.Source.left g.S.Source.faults c.args.source.now c.replay.new.source in
    let before = g.O.Sink.written c.args.sink.now in
    let now = g.O.Sink.written c.replay.new.sink in
    let own = c.in-Replay.layout in
    let whole = c.replay.ensures.written (done_is_no_write_fault c.replay.result done) in
    subst (λ (l : Layout). WritesReplay l source before now) (same_layout own layout (c.in-Replay.ensures.form ∙ is))
    (writes_replay own source before now (subst (λ (s : Status). WritesAll (form.Replay own) source s before now) done whole))

pub returns-in-Replay-clause-complete : goal.returns-in-Replay-clause-complete
returns-in-Replay-clause-complete g c = λ _ has sound kept.
    let source = reading g.S.Source.left g.S.Source.faults c.args.source.now c.replay.new.source in
    let before = g.O.Sink.written c.args.sink.now in
    let now = g.O.Sink.written c.replay.new.sink in
    let is = ap reads (sym c.in-Replay.ensures.form) in
    subst (λ (f : Form). Completes f source c.replay.result) c.in-Replay.ensures.form
    (script_done (form.Replay c.in-Replay.layout) source c.replay.result before now refl (has is) sound
    (c.replay.ensures.written (λ e. kept (c.replay.ensures.write_fault e))))
