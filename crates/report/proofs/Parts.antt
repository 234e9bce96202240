-- The line of a begin and of an end, by the parts that are written one after another.
use Rattle.std.proofs.Common.{◌≡◌, ℕ, List, ◌++◌, codes, decimal, append_assoc}
use Rattle.latch_model.specs.Declaration.{Declaration}
use Rattle.latch_model.specs.declared.history.Cause.{Cause}
use Rattle.latch_model.specs.declared.history.Fault.{Fault}
use Rattle.latch_model.specs.declared.history.Grant.{Grant}
use Rattle.latch_model.specs.declared.latch.Latch.{Latch}
use Rattle.latch_model.specs.declared.latch.Mode.{Mode}
use Rattle.script.specs.Commands.{mode_text, policy_text}
use Rattle.report.specs.Reports.{begin_line, cause_text, checked_latches, end_line, fault_text, grant_text, latches_text}
use Rattle.report.specs.Words.{numbers_text}

end_parts : (o a i s c f g l n : List ℕ) → ((((((o ++ (a ++ i)) ++ s) ++ c) ++ s) ++ f) ++ s) ++ g ++ (l ++ n)
    ≡ o ++ (a ++ i ++ s ++ c ++ s ++ f ++ s ++ g ++ l ++ n)
end_parts o a i s c f g l n = simp append_assoc

pub end_written : (id : ℕ) (grant : Grant) (poison : Cause) (fault : Fault) (ls : List Latch) (o x1 x2 x3 x4 x5 x6 x7 x8 : List ℕ)
    → ls ≡ checked_latches grant → x1 ≡ o ++ (codes "end " ++ decimal id) → x2 ≡ x1 ++ codes " " → x3 ≡ x2 ++ cause_text poison → x4 ≡ x3 ++ codes " "
    → x5 ≡ x4 ++ fault_text fault → x6 ≡ x5 ++ codes " " → x7 ≡ x6 ++ grant_text grant → x8 ≡ x7 ++ (latches_text ls ++ codes "\n")
    → x8 ≡ o ++ end_line id grant poison fault
end_written id grant poison fault ls o x1 x2 x3 x4 x5 x6 x7 x8 e e1 e2 e3 e4 e5 e6 e7 e8 =
    rw (e8, e7, e6, e5, e4, e3, e2, e1, e)
    (end_parts o (codes "end ") (decimal id) (codes " ") (cause_text poison) (fault_text fault) (grant_text grant)
    (latches_text (checked_latches grant)) (codes "\n"))

begin_parts : (o a i b l c w d t s m p f n ls e : List ℕ)
    → ((((((((o ++ (a ++ i)) ++ (b ++ l)) ++ (c ++ w)) ++ (d ++ t)) ++ (s ++ m)) ++ (s ++ p)) ++ f) ++ n) ++ (ls ++ e)
    ≡ o ++ (a ++ i ++ b ++ l ++ c ++ w ++ d ++ t ++ s ++ m ++ s ++ p ++ f ++ n ++ ls ++ e)
begin_parts o a i b l c w d t s m p f n ls e = simp append_assoc

pub begin_written : (ids : List ℕ) (id lane who : ℕ) (mode : Mode) (request : Declaration) (tag : ℕ) (mode_word policy_word : List ℕ) (ls : List Latch)
    (o x1 x2 x3 x4 x5 x6 x7 x8 x9 : List ℕ)
    → tag ≡ request.tag → mode_word ≡ mode_text mode → policy_word ≡ policy_text request.policy → ls ≡ request.latches
    → x1 ≡ o ++ (codes "begin " ++ decimal id) → x2 ≡ x1 ++ (codes " lane=" ++ decimal lane) → x3 ≡ x2 ++ (codes " session=" ++ decimal who)
    → x4 ≡ x3 ++ (codes " line=" ++ decimal tag) → x5 ≡ x4 ++ (codes " " ++ mode_word) → x6 ≡ x5 ++ (codes " " ++ policy_word)
    → x7 ≡ x6 ++ codes " before=" → x8 ≡ x7 ++ numbers_text ids → x9 ≡ x8 ++ (latches_text ls ++ codes "\n")
    → x9 ≡ o ++ begin_line ids id lane who mode request
begin_written ids id lane who mode request tag mode_word policy_word ls o x1 x2 x3 x4 x5 x6 x7 x8 x9 et em ep el e1 e2 e3 e4 e5 e6 e7 e8 e9 =
    rw (e9, e8, e7, e6, e5, e4, e3, e2, e1, et, em, ep, el)
    (begin_parts o (codes "begin ") (decimal id) (codes " lane=") (decimal lane) (codes " session=") (decimal who) (codes " line=") (decimal request.tag)
    (codes " ") (mode_text mode) (policy_text request.policy) (codes " before=") (numbers_text ids) (latches_text request.latches) (codes "\n"))
