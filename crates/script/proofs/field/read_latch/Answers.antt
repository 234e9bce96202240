use Rattle.std.proofs.Common.{◌≡◌, ℕ, List, Result, Ok, Err, ap, subst, ◌∙◌}
use Rattle.std.specs.Result.{IfOk}
use Rattle.latch_model.specs.declared.latch.Latch.{Latch}
use Rattle.script.specs.Fields.{latch_at}
use Rattle.script.specs.Outcomes.{Gives}
use Rattle.script.specs.Scripts.{IsScriptLatch}
use Rattle.script.specs.Texts.{latch_text}
use Rattle.script.specs.declared.fault.FieldFault.{FieldFault}
use Rattle.script.proofs.Laws.Latches.{latch_takes, latch_again}
use Rattle.script.proofs.field.read_latch.Goals as goal

found : (f : List ℕ) (r : Result Latch FieldFault) → Gives (λ (l : Latch). l) r (latch_at f) → IfOk r (λ l. (f ≡ latch_text l) × IsScriptLatch l)
found f (Ok l) h = latch_takes f l h
found f (Err e) h = tt

pub returns-clause-found : goal.returns-clause-found
returns-clause-found c = found c.args.field.now c.latch.result c.latch.ensures

pub returns-clause-only : goal.returns-clause-only
returns-clause-only c = λ l e fits.
    let same : latch_at c.args.field.now ≡ Ok l = ap latch_at e ∙ latch_again l fits in
    subst (λ (read : Result Latch ℕ). Gives (λ (x : Latch). x) c.latch.result read) same c.latch.ensures
