-- The report of a history, version 1.
use Rattle.std.specs.Prelude.{ℕ, ◌++◌, List, [], ◌∷◌, codes, decimal}
use Rattle.std.specs.List.{flat_map}
use Rattle.latch_model.specs.Declaration.{Declaration}
use Rattle.latch_model.specs.Histories.{before}
use Rattle.latch_model.specs.declared.latch.Latch.{Latch}
use Rattle.latch_model.specs.declared.latch.Mode.{Mode}
use Rattle.latch_model.specs.declared.history.Cause.{Cause}
use Rattle.latch_model.specs.declared.history.Cause.TheVariants.{None as no_cause, Called, From}
use Rattle.latch_model.specs.declared.history.Entry.{Entry}
use Rattle.latch_model.specs.declared.history.Entry.TheVariants.{Begun, Ended}
use Rattle.latch_model.specs.declared.history.Fault.{Fault}
use Rattle.latch_model.specs.declared.history.Fault.TheVariants.{None as no_fault, Poisoned, Cancelled}
use Rattle.latch_model.specs.declared.history.Grant.{Grant}
use Rattle.latch_model.specs.declared.history.Grant.TheVariants.{Never, Waited, Checked}
use Rattle.script.specs.Commands.{mode_text, policy_text}
use Rattle.script.specs.Texts.{latch_text}
use Rattle.report.specs.Words.{numbers_text, summary_line}

abbrev pub cause_text : Cause → List ℕ
cause_text no_cause = codes "-"
cause_text Called = codes "called"
cause_text (From p) = codes "from=" ++ decimal p

abbrev pub fault_text : Fault → List ℕ
fault_text no_fault = codes "-"
fault_text (Poisoned p) = codes "poisoned=" ++ decimal p
fault_text (Cancelled turns) = codes "cancelled=" ++ decimal turns

abbrev pub grant_text : Grant → List ℕ
grant_text Never = codes "never"
grant_text (Waited front) = codes "waited=" ++ decimal front
grant_text (Checked asked) = codes "checked"

-- the latches that a grant checked
abbrev pub checked_latches : Grant → List Latch
checked_latches Never = []
checked_latches (Waited front) = []
checked_latches (Checked asked) = asked

-- each latch with a space in front of it
abbrev pub latches_text : List Latch → List ℕ
latches_text ls = flat_map (λ l. 32 ∷ latch_text l) ls

-- the line of a begin, with the request's prerequisites
abbrev pub begin_line : List ℕ → ℕ → ℕ → ℕ → Mode → Declaration → List ℕ
begin_line ids id lane who mode request =
    codes "begin " ++ decimal id ++ codes " lane=" ++ decimal lane ++ codes " session=" ++ decimal who ++ codes " line=" ++ decimal request.tag
    ++ codes " " ++ mode_text mode ++ codes " " ++ policy_text request.policy ++ codes " before=" ++ numbers_text ids
    ++ latches_text request.latches ++ codes "\n"

-- the line of an end
abbrev pub end_line : ℕ → Grant → Cause → Fault → List ℕ
end_line id grant poison fault =
    codes "end " ++ decimal id ++ codes " " ++ cause_text poison ++ codes " " ++ fault_text fault ++ codes " " ++ grant_text grant
    ++ latches_text (checked_latches grant) ++ codes "\n"

-- the line of an entry of the history h
abbrev pub entry_line : List Entry → Entry → List ℕ
entry_line h (Begun id lane who mode request) = begin_line (before h id) id lane who mode request
entry_line h (Ended id who grant poison fault) = end_line id grant poison fault

-- A first line, a line for each entry in the order of the history, and the last line.
abbrev pub report_text : List Entry → List ℕ
report_text h = codes "latch report 1\n" ++ flat_map (entry_line h) h ++ summary_line h
