use Rattle.std.proofs.Common.{sym, ap, ◌∙◌, inl, inr}
use Rattle.script.specs.Commands.{rule_cause}
use Rattle.script.proofs.draft.Draft.cause.Goals as goal

pub returns-in-Begin : goal.returns-in-Begin
returns-in-Begin c = c.opening_cause.ensures ∙ sym (ap (rule_cause c.args.self.now.commands.items) c.in-Begin.is)

pub returns-in-Check : goal.returns-in-Check
returns-in-Check c = c.check_cause.ensures ∙ sym (ap (rule_cause c.args.self.now.commands.items) c.in-Check.is)

pub returns-in-Wait : goal.returns-in-Wait
returns-in-Wait c =
    let cs = c.args.self.now.commands.items in
    elim c.in-Wait.is [
      | inl e ↦ c.live_cause.ensures ∙ sym (ap (rule_cause cs) e)
      | inr r ↦ elim r [
        | inl e ↦ c.live_cause.ensures ∙ sym (ap (rule_cause cs) e)
        | inr e ↦ c.live_cause.ensures ∙ sym (ap (rule_cause cs) e)
      ]
    ]
