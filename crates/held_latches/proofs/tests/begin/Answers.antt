use Rattle.std.proofs.Common.{◌<◌, ◌∙◌, length, subst, arith}
use Rattle.latch_model.specs.Histories.{Snapshot}
use Rattle.latch_shots.specs.Shots.{AreShots}
use Rattle.held_latches.specs.Holding.{MayInsert}
use Rattle.held_latches.specs.Lists.{no_lists}
use Rattle.held_latches.proofs.OneRequest.{capture-none, may-come, none-in-scopes}
use Rattle.held_latches.proofs.tests.begin.Goals as goal
use Rattle.held_latches.proofs.tests.begin.Goals.{Start}

few : 0 < 65536
few = omega arith

own_come : (c : Start) → MayInsert c.args.held.now no_lists 0 51 1 0 (length c.args.latches.now)
own_come c = may-come c.args.held.now c.args.latches.now c.requires.fresh c.requires.sizes c.requires.writers.0 c.requires.writers.1 c.requires.one

pub begin-requires-clause-may : goal.begin-requires-clause-may
begin-requires-clause-may c = (no_lists, 0, 51, own_come (goal.at.begin-requires-clause-may c).Start, (tt, tt, tt, tt), few)

pub returns-clause-shots : goal.returns-clause-shots
returns-clause-shots c = (
  c.begin.ensures.shots_table ∙ c.requires.table,
  subst (λ (s : Snapshot). AreShots c.begin.result s) (capture-none c.args.latches.now)
      (c.begin.ensures.shots no_lists 0 51 (own_come (goal.at.returns-clause-shots c).Start) (tt, tt, tt, tt) few none-in-scopes),
)

pub returns-clause-held : goal.returns-clause-held
returns-clause-held c = c.begin.ensures.holds no_lists 0 51 (own_come (goal.at.returns-clause-held c).Start) (tt, tt, tt, tt) few
