use Rattle.std.proofs.Common.{List, [], Result, ℕ, Vec, Global, sym, subst, ◌∙◌, arith}
use Rattle.script.specs.Outcomes.{Reads}
use Rattle.script.specs.Reading.{commands_at, lines}
use Rattle.script.specs.declared.command.Command.{Command}
use Rattle.script.proofs.Walked.{at_end, at_fault, goes_on, no_line}
use Rattle.script.proofs.read.commands.Goals as goal

pub returns-then-is_word : goal.returns-then-is_word
returns-then-is_word c =
    let l = c.loop-text in
    let total = commands_at [] 2 (lines c.args.bytes.now) in
    let same = at_end l.draft.commands.items l.line l.rest.now c.in-Some.text.now c.in-Some.after.now total c.in-Some.ensures.line l.invariant.reads
    (sym c.is_word.ensures ∙ c.if-is_word.true) in
    subst (λ (read : Result (List Command) (ℕ × ℕ)). Reads (λ (v : Vec Command Global). v.items) c.end.result read) same c.end.ensures

pub returns-in-Err : goal.returns-in-Err
returns-in-Err c =
    let l = c.loop-text in
    let total = commands_at [] 2 (lines c.args.bytes.now) in
    at_fault c.in-Err.fault c.at_line.result l.draft.commands.items l.line l.rest.now c.in-Some.text.now c.in-Some.after.now total c.at_line.ensures
    c.in-Err.ensures.commands
    c.in-Some.ensures.line l.invariant.reads (sym c.is_word.ensures ∙ c.if-is_word.false)

pub loop-text-preserved : goal.loop-text-preserved
loop-text-preserved c =
    let l = c.loop-text in
    let total = commands_at [] 2 (lines c.args.bytes.now) in
    let shorter = c.in-Some.ensures.shorter in
    let count = l.invariant.count in
    record {
      kept = c.in_default-next.ensures.kept;
      reads = goes_on l.draft.commands.items c.next.new.draft.commands.items l.line l.rest.now c.in-Some.text.now c.in-Some.after.now total
          c.in_default-next.ensures.commands
          c.in-Some.ensures.line l.invariant.reads (sym c.is_word.ensures ∙ c.if-is_word.false);
      count = omega arith;
    }

pub returns : goal.returns
returns c =
    let l = c.loop-text in
    rw c.bad.ensures (no_line l.draft.commands.items l.line l.rest.now (commands_at [] 2 (lines c.args.bytes.now)) c.in_default.ensures.line l.invariant.reads)
