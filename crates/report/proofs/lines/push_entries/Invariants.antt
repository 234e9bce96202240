use Rattle.std.proofs.Common.{◌≡◌, ◌++◌, drop, map, take}
use Rattle.std.specs.List.{flat_map}
use Rattle.latch_model.specs.Histories.{before, begins}
use Rattle.report.specs.Reports.{entry_line}
use Rattle.report.proofs.lines.push_entries.Given as goal

-- the lines of the entries passed are written, and the lists of the others are left
abbrev pub invariant-loop-entry : goal.invariant-loop-entry
invariant-loop-entry l = record {
  written : l.out.items ≡ l.initial.out.items ++ flat_map (entry_line l.entries) (take l.entry-index l.entries);
  left : map (λ v. v.items) l.rest ≡ map (λ b. before l.entries b.id) (begins (drop l.entry-index l.entries));
}
