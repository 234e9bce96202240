-- What contracts see of a run.
use Rattle.std.specs.Prelude.{map}
use Rattle.waiter.specs.Says.{id_of}
use Rattle.step_run.specs.Lives.{seen_live}
use Rattle.step_run.specs.Runs.{RunSays}
use Rattle.step_run.specs.declared.run.StepRun.{StepRun}

abbrev pub seen_run : StepRun → RunSays
seen_run r = record {
  core = id_of r.core;
  desk = r.desk.core;
  sizes = r.desk.sizes;
  given = r.desk.given;
  log = r.desk.log;
  passes = r.passes.items;
  lives = map seen_live r.lives.items;
  some_cause = r.some_cause;
}
