use Rattle.std.proofs.Common.{sym, ◌∙◌}
use Rattle.script.specs.Fields.{is_byte}
use Rattle.script.proofs.Parts.{found, no_place}
use Rattle.script.proofs.field.cut.Goals as goal

pub returns-in-None : goal.returns-in-None
returns-in-None c = no_place (is_byte c.args.c) c.args.text.now (sym c.index_of.ensures ∙ c.in-None.is)

pub returns-in-Some : goal.returns-in-Some
returns-in-Some c =
    let f = found (is_byte c.args.c) c.args.text.now c.in-Some.at (sym c.index_of.ensures ∙ c.in-Some.is) in
    (f.some, f.front, f.back)
