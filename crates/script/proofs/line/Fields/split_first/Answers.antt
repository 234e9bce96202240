use Rattle.std.proofs.Common.{sym, ap, ◌∙◌, refl}
use Rattle.script.specs.Fields.{is_byte}
use Rattle.script.specs.Views.{fields_left}
use Rattle.script.proofs.Parts.{one_part, first_part}
use Rattle.script.proofs.line.Fields.split_first.Goals as goal

pub returns-in-None-cut : goal.returns-in-None-cut
returns-in-None-cut c =
    sym c.self.view_is ∙ ap fields_left c.in-Some.is ∙ one_part (is_byte 32) c.in-Some.text.now c.in-None-cut.ensures

pub returns-in-Some-cut : goal.returns-in-Some-cut
returns-in-Some-cut c =
    let parts = c.in-Some-cut.ensures in
    sym c.self.view_is ∙ ap fields_left c.in-Some.is ∙ first_part (is_byte 32) c.in-Some.text.now parts.0 ∙ rw (parts.1, parts.2) refl
