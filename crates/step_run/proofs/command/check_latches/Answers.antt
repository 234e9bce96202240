use Rattle.std.proofs.Common.{◌++◌, sym, ap, ◌∙◌}
use Rattle.std.proofs.lemmas.Result.{on_ok_weaker}
use Rattle.latch_model.specs.Histories.{HeldLatch}
use Rattle.waiter.specs.Says.{OptimistSays}
use Rattle.step_run.specs.Checking.{checked_met, checked_text, passed_met, passed_then}
use Rattle.step_run.proofs.command.check_latches.Goals as goal

pub returns-in-Met-clause-kept : goal.returns-in-Met-clause-kept
returns-in-Met-clause-kept c =
    let m = c.in-Met.ensures.2 in
    (ap (λ (o : OptimistSays). o.core) m.5, ap (λ (o : OptimistSays). o.r) m.5)

pub returns-in-Met-clause-checked : goal.returns-in-Met-clause-checked
returns-in-Met-clause-checked c =
    let o = c.args.optimist.now in
    let name = c.args.name.now in
    let asked = c.args.asked in
    let m = c.in-Met.ensures.2 in
    let met : HeldLatch = m.0 in
    on_ok_weaker c.checked_line.result
    (λ w. record {
      core = ap (λ (o : OptimistSays). o.core) m.5;
      request = ap (λ (o : OptimistSays). o.r) m.5;
      passed = ap (λ (o : OptimistSays). o.passed) m.5 ∙ sym (ap (passed_then o asked) c.in-Met.ensures.0 ∙ ap (passed_met asked) m.2);
      written = w ∙ sym (ap (λ q. c.args.out.now.items ++ checked_text o name asked q) c.in-Met.ensures.0
          ∙ ap (λ xs. c.args.out.now.items ++ checked_met name asked xs) m.2);
    })
    (c.checked_line.ensures met (ap (λ (o : OptimistSays). o.met) m.5))
