-- The counts of the last line, entry by entry.
use Rattle.std.proofs.Common.{◌≡◌, ℕ, ◌+◌, ◌<◌, ◌≤◌, Bool, cond, List, [], ◌∷◌, ◌++◌, length, ap, ◌∙◌, arith, add-zero}
use Rattle.std.proofs.lemmas.List.{length-append}
use Rattle.std.proofs.lemmas.List.Sums.{count_by-le-length, sum_by_push}
use Rattle.latch_model.specs.Histories.{begins}
use Rattle.latch_model.specs.declared.history.Entry.{Entry}
use Rattle.latch_model.specs.declared.history.Entry.TheVariants.{Begun, Ended}
use Rattle.latch_model.specs.declared.history.Fault.{Fault}
use Rattle.latch_model.specs.declared.history.Grant.{Grant}
use Rattle.latch_model.proofs.Growing.{begins-append, begins-end}
use Rattle.report.specs.Words.{count_ended, ended_by, is_cancelled, is_checked, is_granted, is_never, is_poisoned, summary_of}
use Rattle.report.specs.declared.counts.Summary.{Summary}
use Rattle.step_run.specs.Counting.{AreAtMost, with_entry}

count_push : (test : Grant → Fault → Bool) (h : List Entry) (x : Entry) → count_ended test (h ++ x ∷ []) ≡ count_ended test h + cond (ended_by test x) 1 0
count_push test h x = sum_by_push (λ e. cond (ended_by test e) 1 0) h x

summary_made : (b g c p x n b' g' c' p' x' n' : ℕ) → b ≡ b' → g ≡ g' → c ≡ c' → p ≡ p' → x ≡ x' → n ≡ n' →
    (let s : Summary = record { begun = b; granted = g; checked = c; poisoned = p; cancelled = x; never = n } in s)
    ≡ record { begun = b'; granted = g'; checked = c'; poisoned = p'; cancelled = x'; never = n' }
summary_made b g c p x n b' g' c' p' x' n' e0 e1 e2 e3 e4 e5 = cc

pub summary_push : (h : List Entry) (e : Entry) → summary_of (h ++ e ∷ []) ≡ with_entry e (summary_of h)
summary_push h (Begun id lane who mode request) =
    let x : Entry = Begun id lane who mode request in
    summary_made _ _ _ _ _ _ _ _ _ _ _ _ (ap length (begins-append h (x ∷ [])) ∙ length-append (begins h) (begins (x ∷ [])))
    (count_push is_granted h x ∙ add-zero _) (count_push is_checked h x ∙ add-zero _) (count_push is_poisoned h x ∙ add-zero _)
    (count_push is_cancelled h x ∙ add-zero _) (count_push is_never h x ∙ add-zero _)
summary_push h (Ended id who grant poison fault) =
    let x : Entry = Ended id who grant poison fault in
    summary_made _ _ _ _ _ _ _ _ _ _ _ _ (ap length (begins-end h id who grant poison fault))
    (count_push is_granted h x) (count_push is_checked h x) (count_push is_poisoned h x) (count_push is_cancelled h x) (count_push is_never h x)

count_most : (test : Grant → Fault → Bool) (h : List Entry) → count_ended test h ≤ length h
count_most test h = count_by-le-length (ended_by test) h

begun_most : (h : List Entry) → length (begins h) ≤ length h
begun_most [] = omega arith
begun_most (Begun id lane who mode request ∷ h) = let l : length (begins h) ≤ length h = begun_most h in omega arith
begun_most (Ended id who grant poison fault ∷ h) = let l : length (begins h) ≤ length h = begun_most h in omega arith

pub few_counts : (h : List Entry) (most : ℕ) → length h < most → AreAtMost most (summary_of h)
few_counts h most l = record {
  begun = let a : length (begins h) ≤ length h = begun_most h in omega arith;
  granted = let a : count_ended is_granted h ≤ length h = count_most is_granted h in omega arith;
  checked = let a : count_ended is_checked h ≤ length h = count_most is_checked h in omega arith;
  poisoned = let a : count_ended is_poisoned h ≤ length h = count_most is_poisoned h in omega arith;
  cancelled = let a : count_ended is_cancelled h ≤ length h = count_most is_cancelled h in omega arith;
  never = let a : count_ended is_never h ≤ length h = count_most is_never h in omega arith;
}
