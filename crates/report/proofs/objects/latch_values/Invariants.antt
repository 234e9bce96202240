use Rattle.std.proofs.Common.{◌≡◌, map, take}
use Rattle.serde_json.specs.View.{view}
use Rattle.script.specs.Texts.{latch_text}
use Rattle.report.specs.Json.{quoted}
use Rattle.report.specs.Plain.{shown, sound}
use Rattle.report.proofs.objects.latch_values.Given as goal

abbrev pub invariant-loop-latch : goal.invariant-loop-latch
invariant-loop-latch l = map (λ v. shown (view v)) l.list.items ≡ map (λ x. sound (quoted (latch_text x))) (take l.latch-index l.latches)
