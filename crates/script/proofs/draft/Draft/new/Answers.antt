use Rattle.std.proofs.Common.{refl}
use Rattle.script.proofs.Drafts.{empty_keeps}
use Rattle.script.proofs.draft.Draft.new.Goals as goal

pub returns-clause-kept : goal.returns-clause-kept
returns-clause-kept c = empty_keeps _ c.new.ensures.items c.new-2.ensures.empty refl
