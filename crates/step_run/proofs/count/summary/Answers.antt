use Rattle.std.proofs.Common.{◌≡◌, [], ◌∷◌, ◌++◌, ◌+◌, ◌-◌, ◌^◌, length, take, sym, ap, ◌∙◌, subst, arith}
use Rattle.std.proofs.lemmas.List.{length-take-le, take_more}
use Rattle.report.specs.Words.{summary_of}
use Rattle.report.specs.declared.counts.Summary.{Summary}
use Rattle.step_run.specs.Counting.{AreAtMost, with_entry}
use Rattle.step_run.proofs.Counting.{few_counts, summary_push}
use Rattle.step_run.proofs.count.summary.Goals as goal

pub add-requires : goal.add-requires
add-requires c =
    let k = c.loop-entry.entry-index in
    let short : length (take k c.args.entries.now) ≡ k = length-take-le k c.args.entries.now (omega arith) in
    subst (λ s. AreAtMost (2 ^ 64 - 1) s) (sym c.loop-entry.invariant) (few_counts (take k c.args.entries.now) (2 ^ 64 - 1) (omega arith))

pub loop-entry-preserved : goal.loop-entry-preserved
loop-entry-preserved c =
    let k = c.loop-entry.entry-index in
    let es = c.args.entries.now in
    let e = c.entry-item.result in
    let longer : take (k + 1) es ≡ take k es ++ e ∷ [] = take_more es k e (omega arith) ∙ ap (λ x. take k es ++ x ∷ []) (sym c.entry-item.is) in
    c.add.ensures ∙ ap (λ (s : Summary). with_entry e s) c.loop-entry.invariant ∙ sym (summary_push (take k es) e) ∙ sym (ap summary_of longer)
