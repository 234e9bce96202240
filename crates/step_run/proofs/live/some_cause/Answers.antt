use Rattle.std.proofs.Common.{arith}
use Rattle.step_run.proofs.Sounding.{none_found}
use Rattle.step_run.proofs.live.some_cause.Goals as goal

pub returns : goal.returns
returns c = λ e. none_found c.args.lives.now.items (λ k d l. c.loop-i.invariant k d (omega arith))
