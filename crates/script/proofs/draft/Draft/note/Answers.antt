use Rattle.std.proofs.Common.{[], ◌∷◌, ◌++◌, sym, ap, subst, ◌∙◌}
use Rattle.script.specs.Commands.{rule_cause}
use Rattle.script.specs.Names.{KnowsNames}
use Rattle.script.specs.Scripts.{IsCommand}
use Rattle.script.specs.declared.command.Command.{Command}
use Rattle.script.proofs.Noted.{on_both, begin_follows, wait_follows, release_low, release_follows}
use Rattle.script.proofs.draft.Draft.note.Goals as goal

pub release-requires : goal.release-requires
release-requires c =
    let d = c.args.self.now in
    release_low d c.in-Release.name c.requires.kept (sym (ap (rule_cause d.commands.items) c.in-Release.is) ∙ c.requires.allowed)

pub returns-in-Begin-clause-follows : goal.returns-in-Begin-clause-follows
returns-in-Begin-clause-follows c =
    let d = c.args.self.now in
    let b = c.in-Begin in
    let low = (subst IsCommand b.is c.requires.fits).session_high in
    let allowed = sym (ap (rule_cause d.commands.items) b.is) ∙ c.requires.allowed in
    on_both c.open.result (λ is busy. subst (λ (x : Command). KnowsNames c.open.new.self (d.commands.items ++ x ∷ [])) (sym b.is)
    (begin_follows d c.open.new.self b.session b.name b.mode b.policy b.turns b.latches c.fresh.result c.requires.kept allowed low c.fresh.ensures is busy))
    c.open.ensures.opened c.open.ensures.busy

pub returns-in-Wait-clause-follows : goal.returns-in-Wait-clause-follows
returns-in-Wait-clause-follows c =
    let d = c.args.self.now in
    let allowed = sym (ap (rule_cause d.commands.items) c.in-Wait.is) ∙ c.requires.allowed in
    subst (λ (x : Command). KnowsNames c.wait.new.self (d.commands.items ++ x ∷ [])) (sym c.in-Wait.is)
    (wait_follows d c.wait.new.self c.in-Wait.name c.requires.kept allowed c.wait.ensures.opened c.wait.ensures.busy)

pub returns-in-Release-clause-follows : goal.returns-in-Release-clause-follows
returns-in-Release-clause-follows c =
    let d = c.args.self.now in
    let allowed = sym (ap (rule_cause d.commands.items) c.in-Release.is) ∙ c.requires.allowed in
    subst (λ (x : Command). KnowsNames c.release.new.self (d.commands.items ++ x ∷ [])) (sym c.in-Release.is)
    (release_follows d c.release.new.self c.in-Release.name c.requires.kept allowed c.release.ensures.opened c.release.ensures.busy)
