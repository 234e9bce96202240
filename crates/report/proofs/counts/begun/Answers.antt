use Rattle.std.proofs.Common.{◌≡◌, ◌+◌, List, ◌∷◌, cond, length, refl, arith, rules}
use Rattle.std.specs.List.{count_by}
use Rattle.std.specs.Option.{is_some}
use Rattle.std.proofs.lemmas.List.Recursion.{is_count_by}
use Rattle.latch_model.specs.Histories.{begin_of, begins}
use Rattle.latch_model.specs.declared.history.Entry.{Entry}
use Rattle.latch_model.specs.declared.history.Entry.TheVariants.{Begun, Ended}
use Rattle.report.specs.Words.{count_begun}
use Rattle.report.proofs.counts.begun.Goals as goal

one_more : (e : Entry) (h : List Entry) → length (begins (e ∷ h)) ≡ cond (is_some (begin_of e)) (1 + length (begins h)) (length (begins h))
one_more (Begun id lane who mode request) h = omega arith
one_more (Ended id who grant poison fault) h = refl

begins_counted : (h : List Entry) → count_begun h ≡ count_by (λ e. is_some (begin_of e)) h
begins_counted h = is_count_by (λ xs. length (begins xs)) (λ e. is_some (begin_of e)) refl one_more h

pub returns : goal.returns
returns c = search (rules, begins_counted)
