use Rattle.std.proofs.Common.{◌≡◌, decimal, map, take}
use Rattle.serde_json.specs.View.{view}
use Rattle.report.specs.Plain.{shown, sound}
use Rattle.report.proofs.objects.number_values.Given as goal

abbrev pub invariant-loop-n : goal.invariant-loop-n
invariant-loop-n l = map (λ v. shown (view v)) l.list.items ≡ map (λ n. sound (decimal n)) (take l.n-index l.numbers)
