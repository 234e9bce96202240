use Rattle.std.proofs.Common.{◌≤◌, [], ◌∷◌, ◌++◌, sym, ap, ◌∙◌, subst}
use Rattle.step_run.specs.Runs.{Sound}
use Rattle.step_run.specs.Seen.{seen_run}
use Rattle.waiter.specs.Says.{EndingSays}
use Rattle.sequence_core.specs.Says.{end_entry}
use Rattle.step_run.proofs.turn.give_up.Goals as goal

pub end-requires-clause-sound : goal.end-requires-clause-sound
end-requires-clause-sound c =
    subst (λ w. Sound w (seen_run c.args.run.now)) (sym (ap (λ (e : EndingSays). e.r.who) c.abandon-ending.ensures.ending)) c.requires.sound

pub end-requires-clause-core : goal.end-requires-clause-core
end-requires-clause-core c = ap (λ (e : EndingSays). e.core) c.abandon-ending.ensures.ending ∙ c.requires.core

pub end-requires-clause-session : goal.end-requires-clause-session
end-requires-clause-session c = subst (λ k. (1 ≤ k) × (k ≤ 64)) (sym (ap (λ (e : EndingSays). e.r.who) c.abandon-ending.ensures.ending)) c.requires.session

pub returns-clause-log : goal.returns-clause-log
returns-clause-log c = c.end.ensures.log ∙ ap (λ (e : EndingSays). c.args.run.now.desk.log ++ end_entry e ∷ []) c.abandon-ending.ensures.ending
