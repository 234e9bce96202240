use Rattle.std.proofs.Common.{◌∙◌, Global, Vec, ℕ, ap}
use Rattle.serde_json.specs.Data.{string}
use Rattle.report.specs.Plain.{shown}
use Rattle.report.proofs.Plain.{plain_shown, plain_utf8}
use Rattle.report.proofs.objects.plain_value.Goals as goal

pub unreachable-requires : goal.unreachable-requires
unreachable-requires c = let h = c.in-Err.ensures.succeeds (plain_utf8 c.args.text.items c.requires) in cc

pub returns : goal.returns
returns c = ap shown c.from.ensures ∙ ap (λ (v : Vec ℕ Global). shown (string v.items)) c.in-Ok.ensures.ok ∙ plain_shown c.args.text.items c.requires
