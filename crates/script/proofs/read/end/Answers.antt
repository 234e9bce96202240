use Rattle.std.proofs.Common.{◌≡◌, false, refl, sym, ◌∙◌}
use Rattle.script.specs.Commands.{some_live}
use Rattle.script.specs.Reading.{end_at, lines, nothing_more}
use Rattle.script.proofs.Walked.{more_left}
use Rattle.script.proofs.read.end.Goals as goal

pub returns-then-not-is_empty : goal.returns-then-not-is_empty
unfolding end_at
returns-then-not-is_empty c =
    let live : some_live c.args.draft.commands.items ≡ false = sym c.has_live.ensures ∙ c.if-has_live.false in
    let more : nothing_more (lines c.args.after.now) ≡ false = more_left c.args.after.now (sym c.is_empty.ensures ∙ c.if-not-is_empty.true) in
    rw c.bad-then-not-is_empty.ensures (rw (live, more) refl)
