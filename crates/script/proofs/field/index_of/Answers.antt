use Rattle.std.proofs.Common.{sym, ◌∙◌}
use Rattle.script.specs.Fields.{is_byte}
use Rattle.script.proofs.Passed.{none_past, some_past}
use Rattle.script.proofs.field.index_of.Goals as goal

pub returns-in-None : goal.returns-in-None
returns-in-None c =
    none_past (is_byte c.args.c) c.blocks_without-passed.result c.args.text.now c.blocks_without-passed.ensures.inside
    c.blocks_without-passed.ensures.without (sym c.place_of.ensures ∙ c.in-None.is)

pub returns-in-Some : goal.returns-in-Some
returns-in-Some c =
    some_past (is_byte c.args.c) c.blocks_without-passed.result c.args.text.now c.in-Some.at c.blocks_without-passed.ensures.inside
    c.blocks_without-passed.ensures.without (sym c.place_of.ensures ∙ c.in-Some.is)
