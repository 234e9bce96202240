use Rattle.std.proofs.Common.{subst}
use Rattle.std.specs.Prelude.{OnOk}
use Rattle.step_run.specs.Runs.{Makes}
use Rattle.step_run.specs.Seen.{seen_run}
use Rattle.step_run.specs.Steps.{Step}
use Rattle.step_run.proofs.Opening.{first_waits, first_silent}
use Rattle.step_run.proofs.open.first_turn.Goals as goal

pub returns-in-Acquire : goal.returns-in-Acquire
returns-in-Acquire c = record {
  sound = c.wait_at.ensures.sound;
  turn = λ s n h here e.
      subst (λ (t : Step). OnOk c.wait_at.result (Makes t (seen_run c.wait_at.new.run) c.args.out.now.items c.wait_at.new.out.items))
      (first_waits s n c.args.mode c.in-Acquire.is e) (c.wait_at.ensures.step s n h here);
}

pub returns-in-Optimistic-clause-turn : goal.returns-in-Optimistic-clause-turn
returns-in-Optimistic-clause-turn c = λ s n h here e. first_silent s n c.args.mode (seen_run c.args.run.now) c.args.out.now.items c.in-Optimistic.is h
