use Rattle.std.proofs.Common.{ℕ, List, Result, Ok, sym, ap, subst, ◌∙◌}
use Rattle.std.proofs.lemmas.Result.{err_from_is_err_and}
use Rattle.script.specs.Outcomes.{ScriptFails}
use Rattle.script.specs.Reading.{script_at}
use Rattle.script.specs.Scripts.{Spells}
use Rattle.script.specs.declared.command.Command.{Command}
use Rattle.script.specs.declared.fault.ReadScript.{ReadScript}
use Rattle.script.proofs.Laws.Scripts.{script_takes, script_again}
use Rattle.script.proofs.read.read_script.Goals as goal

only_fails : (e : ReadScript) (b : List ℕ) (cs : List Command) → ScriptFails e (script_at b) → Spells b cs → ScriptFails {Y = List Command} e (Ok cs)
only_fails e b cs h s = subst (λ (read : Result (List Command) (ℕ × ℕ)). ScriptFails e read) (script_again b cs s) h

abbrev done : List Command → Result (List Command) (ℕ × ℕ)
done cs = Ok cs

pub of-requires-clause-rules : goal.of-requires-clause-rules
of-requires-clause-rules c = (script_takes c.args.bytes.now c.in_ok-all.field-0.items c.in_ok-all.ensures).script

pub of-requires-clause-fits : goal.of-requires-clause-fits
of-requires-clause-fits c = (script_takes c.args.bytes.now c.in_ok-all.field-0.items c.in_ok-all.ensures).fits

pub returns-in_err-all-clause-only : goal.returns-in_err-all-clause-only
returns-in_err-all-clause-only c = λ cs s.
    let p = err_from_is_err_and c.from_residual.result c.from_residual.ensures.1 in
    rw (p.1, p.2) (only_fails c.in_err-all.field-0.0 c.args.bytes.now cs c.in_err-all.ensures s)

pub returns-clause-found : goal.returns-clause-found
returns-clause-found c = subst (λ (cs : List Command). Spells c.args.bytes.now cs) (sym c.of.ensures)
    (script_takes c.args.bytes.now c.in_ok-all.field-0.items c.in_ok-all.ensures)

pub returns-clause-only : goal.returns-clause-only
returns-clause-only c = λ cs s. sym (script_again c.args.bytes.now cs s) ∙ c.in_ok-all.ensures ∙ ap done (sym c.of.ensures)
