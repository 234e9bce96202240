use Rattle.std.proofs.Common.{◌≡◌, ◌++◌, drop, map, take}
use Rattle.std.specs.List.{join_with_byte}
use Rattle.latch_model.specs.Histories.{before, begins}
use Rattle.report.specs.Json.{entry_json}
use Rattle.report.specs.Passing.{is_nil}
use Rattle.report.proofs.objects.put_entries.Given as goal

-- the objects of the entries passed are written, and the lists of the others are left
abbrev pub invariant-loop-entry : goal.invariant-loop-entry
invariant-loop-entry l = record {
  written : l.out.items ≡ l.initial.out.items ++ join_with_byte 44 (map (entry_json l.entries) (take l.entry-index l.entries));
  left : map (λ v. v.items) l.rest ≡ map (λ b. before l.entries b.id) (begins (drop l.entry-index l.entries));
  none : l.first ≡ is_nil (take l.entry-index l.entries);
}
