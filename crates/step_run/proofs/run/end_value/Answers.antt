use Rattle.step_run.specs.Seen.{seen_run}
use Rattle.step_run.proofs.Sounding.{sound_looked}
use Rattle.step_run.proofs.run.end_value.Goals as goal

pub returns-then-had_cause-clause-sound : goal.returns-then-had_cause-clause-sound
returns-then-had_cause-clause-sound c = sound_looked (seen_run c.end_lent.new.run) c.some_cause-run.result c.some_cause-run.ensures c.end_lent.ensures.sound
