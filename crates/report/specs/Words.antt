-- What the step output and the reports have in common: marks, lists of numbers, causes and the last line.
use Rattle.std.specs.Prelude.{ℕ, ◌++◌, Bool, true, false, List, [], ◌∷◌, map, length, codes, decimal}
use Rattle.std.specs.List.{count_by, join_with_byte}
use Rattle.hlc_stamp.specs.declared.Stamp.{Stamp}
use Rattle.span_key.specs.Spans.{Pair}
use Rattle.latch_model.specs.Latches.{normal}
use Rattle.latch_model.specs.Histories.{begins}
use Rattle.latch_model.specs.declared.latch.Latch.{Latch}
use Rattle.latch_model.specs.declared.history.Entry.{Entry}
use Rattle.latch_model.specs.declared.history.Entry.TheVariants.{Begun, Ended}
use Rattle.latch_model.specs.declared.history.Fault.{Fault}
use Rattle.latch_model.specs.declared.history.Fault.TheVariants.{None as no_fault, Poisoned, Cancelled}
use Rattle.latch_model.specs.declared.history.Grant.{Grant}
use Rattle.latch_model.specs.declared.history.Grant.TheVariants.{Never, Waited, Checked}
use Rattle.script.specs.Texts.{span_text, whole_stamp_text}
use Rattle.report.specs.declared.counts.Summary.{Summary}

-- A mark is a span, and always both parts of a stamp.
abbrev pub marked : Pair → Stamp → List ℕ
marked span stamp = span_text span ++ whole_stamp_text stamp

-- A held latch that was met is shown by its span and its normal stamp.
abbrev pub mark_text : Latch → List ℕ
mark_text l = marked l.span (normal l)

-- numbers with commas between them, or a hyphen where there are none
abbrev pub numbers_text : List ℕ → List ℕ
numbers_text [] = codes "-"
numbers_text (n ∷ ns) = join_with_byte 44 (map decimal (n ∷ ns))

-- which ends the last line counts
abbrev pub ended_by : (Grant → Fault → Bool) → Entry → Bool
ended_by test (Begun id lane who mode request) = false
ended_by test (Ended id who grant poison fault) = test grant fault

abbrev pub is_granted : Grant → Fault → Bool
is_granted Never fault = false
is_granted (Waited front) fault = true
is_granted (Checked asked) fault = false

abbrev pub is_checked : Grant → Fault → Bool
is_checked Never fault = false
is_checked (Waited front) fault = false
is_checked (Checked asked) fault = true

abbrev pub is_poisoned : Grant → Fault → Bool
is_poisoned grant no_fault = false
is_poisoned grant (Poisoned p) = true
is_poisoned grant (Cancelled turns) = false

abbrev pub is_cancelled : Grant → Fault → Bool
is_cancelled grant no_fault = false
is_cancelled grant (Poisoned p) = false
is_cancelled grant (Cancelled turns) = true

abbrev pub is_never : Grant → Fault → Bool
is_never Never no_fault = true
is_never Never (Poisoned p) = false
is_never Never (Cancelled turns) = false
is_never (Waited front) fault = false
is_never (Checked asked) fault = false

abbrev pub count_ended : (Grant → Fault → Bool) → List Entry → ℕ
count_ended test h = count_by (ended_by test) h

abbrev pub count_begun : List Entry → ℕ
count_begun h = length (begins h)

-- the counts of the last line: how many requests began, and how many ended in each way
abbrev pub summary_of : List Entry → Summary
summary_of h = record {
  begun = count_begun h;
  granted = count_ended is_granted h;
  checked = count_ended is_checked h;
  poisoned = count_ended is_poisoned h;
  cancelled = count_ended is_cancelled h;
  never = count_ended is_never h;
}

abbrev pub summary_text : Summary → List ℕ
summary_text s =
    codes "requests " ++ decimal s.begun
    ++ codes " granted " ++ decimal s.granted
    ++ codes " checked " ++ decimal s.checked
    ++ codes " poisoned " ++ decimal s.poisoned
    ++ codes " cancelled " ++ decimal s.cancelled
    ++ codes " never " ++ decimal s.never
    ++ codes "\n"

-- The last line.
abbrev pub summary_line : List Entry → List ℕ
summary_line h = summary_text (summary_of h)
