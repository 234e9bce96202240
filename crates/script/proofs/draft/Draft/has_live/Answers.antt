use Rattle.std.proofs.Common.{sym, ◌∙◌}
use Rattle.script.proofs.Drafts.{some_live_is}
use Rattle.script.proofs.draft.Draft.has_live.Goals as goal

pub returns : goal.returns
returns c = c.any.ensures ∙ sym (some_live_is c.args.self.now c.requires)
