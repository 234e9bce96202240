-- The report of a history as JSON: one object without spaces, its keys in the order of their bytes, and a line feed.
use Rattle.std.specs.Prelude.{ℕ, ◌++◌, List, [], ◌∷◌, map, codes, decimal}
use Rattle.std.specs.List.{join_with_byte}
use Rattle.latch_model.specs.Declaration.{Declaration}
use Rattle.latch_model.specs.Histories.{before}
use Rattle.latch_model.specs.declared.latch.Latch.{Latch}
use Rattle.latch_model.specs.declared.latch.Mode.{Mode}
use Rattle.latch_model.specs.declared.history.Cause.{Cause}
use Rattle.latch_model.specs.declared.history.Entry.{Entry}
use Rattle.latch_model.specs.declared.history.Entry.TheVariants.{Begun, Ended}
use Rattle.latch_model.specs.declared.history.Fault.{Fault}
use Rattle.latch_model.specs.declared.history.Grant.{Grant}
use Rattle.script.specs.Commands.{mode_text, policy_text}
use Rattle.script.specs.Texts.{latch_text}
use Rattle.report.specs.Reports.{cause_text, checked_latches, fault_text, grant_text}
use Rattle.report.specs.Words.{summary_of}
use Rattle.report.specs.declared.counts.Summary.{Summary}

-- a text between quotes: none that is shown needs an escape
abbrev pub quoted : List ℕ → List ℕ
quoted text = 34 ∷ text ++ 34 ∷ []

abbrev pub listed : List (List ℕ) → List ℕ
listed items = 91 ∷ join_with_byte 44 items ++ 93 ∷ []

-- a member of an object: its key and its value
abbrev pub member : List ℕ → List ℕ → List ℕ
member key value = quoted key ++ 58 ∷ value

abbrev pub object : List (List ℕ) → List ℕ
object members = 123 ∷ join_with_byte 44 members ++ 125 ∷ []

abbrev pub latch_list : List Latch → List ℕ
latch_list ls = listed (map (λ l. quoted (latch_text l)) ls)

-- the object of a begin, with the request's prerequisites
abbrev pub begin_json : List ℕ → ℕ → ℕ → ℕ → Mode → Declaration → List ℕ
begin_json ids id lane who mode request = object (
    member (codes "before") (listed (map decimal ids))
    ∷ member (codes "begin") (decimal id)
    ∷ member (codes "lane") (decimal lane)
    ∷ member (codes "latches") (latch_list request.latches)
    ∷ member (codes "line") (decimal request.tag)
    ∷ member (codes "mode") (quoted (mode_text mode))
    ∷ member (codes "policy") (quoted (policy_text request.policy))
    ∷ member (codes "session") (decimal who)
    ∷ [])

-- the object of an end
abbrev pub end_json : ℕ → Grant → Cause → Fault → List ℕ
end_json id grant poison fault = object (
    member (codes "cause") (quoted (cause_text poison))
    ∷ member (codes "end") (decimal id)
    ∷ member (codes "fault") (quoted (fault_text fault))
    ∷ member (codes "grant") (quoted (grant_text grant))
    ∷ member (codes "latches") (latch_list (checked_latches grant))
    ∷ [])

-- the object of an entry of the history h
abbrev pub entry_json : List Entry → Entry → List ℕ
entry_json h (Begun id lane who mode request) = begin_json (before h id) id lane who mode request
entry_json h (Ended id who grant poison fault) = end_json id grant poison fault

-- the counts of the last line
abbrev pub summary_json : Summary → List ℕ
summary_json s = object (
    member (codes "cancelled") (decimal s.cancelled)
    ∷ member (codes "checked") (decimal s.checked)
    ∷ member (codes "granted") (decimal s.granted)
    ∷ member (codes "never") (decimal s.never)
    ∷ member (codes "poisoned") (decimal s.poisoned)
    ∷ member (codes "requests") (decimal s.begun)
    ∷ [])

abbrev pub report_json : List Entry → List ℕ
report_json h = object (
    member (codes "entries") (listed (map (entry_json h) h))
    ∷ member (codes "report") (codes "1")
    ∷ member (codes "summary") (summary_json (summary_of h))
    ∷ []) ++ codes "\n"
