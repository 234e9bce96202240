use Rattle.std.proofs.Common.{◌-◌, length, drop, inl, inr, arith}
use Rattle.std.proofs.lemmas.List.{length-drop}
use Rattle.step_run.proofs.LastLine.{last_is}
use Rattle.latch_model.proofs.Elements.{take_whole}
use Rattle.step_run.proofs.last.last_line.Goals as goal
use Rattle.step_run.proofs.last.last_line.Goals.{then-loop-from-test+else-text-from-ne10, else-loop-from-test}

pub returns-clause-value : goal.returns-clause-value
returns-clause-value c =
    let text = c.args.text.now in
    let from = c.loop-from.from in
    last_is text _
    (record {
      from = from;
      inside = c.loop-from.invariant.inside;
      rest = take_whole (drop from text) (length text - from) (omega (arith, length-drop from text));
      starts = elim c.loop-from-test.branch [ then-loop-from-test+else-text-from-ne10 w ↦ inr (omega arith) | else-loop-from-test w ↦ inl (omega arith) ];
      one_feed = c.loop-from.invariant.one_feed;
    })
