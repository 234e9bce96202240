use Rattle.std.proofs.Common.{List, Result, ℕ, Vec, Global, sym, subst, ◌∙◌}
use Rattle.script.specs.Outcomes.{Reads}
use Rattle.script.specs.declared.command.Command.{Command}
use Rattle.script.proofs.Walked.{none_first, other_first, is_first}
use Rattle.script.proofs.read.all.Goals as goal

pub returns-in_default : goal.returns-in_default
returns-in_default c = rw c.bad-in_default.ensures (none_first c.args.bytes.now c.if-bytes-gt-TEXT_LIMIT.false c.in_default.ensures.line)

pub returns-then-not-is_word : goal.returns-then-not-is_word
returns-then-not-is_word c = rw c.bad-then-not-is_word.ensures
    (other_first c.args.bytes.now c.in-Some.first.now c.in-Some.after.now c.if-bytes-gt-TEXT_LIMIT.false c.in-Some.ensures.line (sym c.is_word.ensures
    ∙ c.if-not-is_word.true))

pub returns : goal.returns
returns c =
    subst (λ (read : Result (List Command) (ℕ × ℕ)). Reads (λ (v : Vec Command Global). v.items) c.commands.result read)
    (sym (is_first c.args.bytes.now c.in-Some.first.now c.in-Some.after.now c.if-bytes-gt-TEXT_LIMIT.false c.in-Some.ensures.line (sym c.is_word.ensures
    ∙ c.if-not-is_word.false))) c.commands.ensures
