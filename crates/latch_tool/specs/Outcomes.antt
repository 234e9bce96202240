-- How a run ends and what it writes: what its words and its input decide, and what becomes of that by what the devices show.
use Rattle.std.specs.Prelude.{◌≡◌, ℕ, ◌++◌, ◌⊎◌, IsTrue, List, [], ◌∷◌, Option, Some, IfSome, Result, Ok, Err, codes, decimal}
use Rattle.std.specs.Io.KnownBytes.{Appends}
use Rattle.latch_model.specs.declared.history.Entry.{Entry}
use Rattle.port_io.specs.Devices.{AppendsPart, CountsFault, TakesMoreThan}
use Rattle.report.specs.Json.{report_json}
use Rattle.report.specs.Reports.{report_text}
use Rattle.script.specs.Generated.{generated}
use Rattle.script.specs.Reading.{script_at}
use Rattle.script.specs.Scripts.{IsScript, Spells}
use Rattle.script.specs.declared.command.Command.{Command}
use Rattle.script.specs.declared.limits.TheConstants.{TEXT_LIMIT}
use Rattle.step_run.specs.Faults.{ScriptLacks}
use Rattle.step_run.specs.Lines.{last_line}
use Rattle.step_run.specs.Steps.{step_output}
use Rattle.step_run.specs.declared.fault.RunFault.{RunFault}
use Rattle.step_run.specs.declared.fault.RunFault.TheVariants as run_faults
use Rattle.latch_tool.specs.Replays.{IsRunOf}
use Rattle.latch_tool.specs.Words.{reads, takes_memory}
use Rattle.latch_tool.specs.declared.form.Form.{Form}
use Rattle.latch_tool.specs.declared.form.Form.TheVariants as form
use Rattle.latch_tool.specs.declared.form.Layout.{Layout}
use Rattle.latch_tool.specs.declared.form.Layout.TheVariants as layouts
use Rattle.latch_tool.specs.declared.run.Answer.{Answer}
use Rattle.latch_tool.specs.declared.run.Input.{Input}
use Rattle.latch_tool.specs.declared.run.Input.TheVariants as inputs
use Rattle.latch_tool.specs.declared.run.Stop.{Stop}
use Rattle.latch_tool.specs.declared.run.Stop.TheVariants as stops
use Rattle.latch_tool.specs.declared.status.Status.{Status}
use Rattle.latch_tool.specs.declared.status.Status.TheVariants.{Done, Usage, Script, ReadFault, WriteFault, Memory, RowsOut}

-- the usage line
abbrev pub usage_line : List ℕ
usage_line = codes "usage: latch step | replay [--json] | make N | help\n"

-- the line of the first fault of an input
abbrev pub fault_line : ℕ → ℕ → List ℕ
fault_line line cause = codes "script " ++ decimal line ++ 32 ∷ decimal cause ++ 10 ∷ []

-- the line of rows that were lacked
abbrev pub rows_line : ℕ → ℕ → List ℕ
rows_line free need = codes "rows " ++ decimal free ++ 32 ∷ decimal need ++ 10 ∷ []

-- What `make` writes: the last line of the step output of the generated script of so many requests.
abbrev pub made_line : ℕ → List ℕ
made_line requests = last_line (step_output (generated requests))

-- the report of a history in a layout
abbrev pub report_of : Layout → List Entry → List ℕ
report_of layouts.Lines h = report_text h
report_of layouts.Json h = report_json h

-- What `replay` may write for a script: the report of a history of its run.
abbrev pub Shows : Layout → List Command → List ℕ → Type 0
Shows layout commands text = (h : List Entry) × IsRunOf commands h × (text ≡ report_of layout h)

-- What a form answers that reads a script: for a script a text that it may write, and for an input that is none the line of its first fault.
abbrev pub AnswersBy : (List Command → List ℕ → Type 0) → Result (List Command) (ℕ × ℕ) → Status → List ℕ → Type 0
AnswersBy Writes (Ok commands) status text = (status ≡ Done) × Writes commands text
AnswersBy Writes (Err (line, cause)) status text = (status ≡ Script line cause) × (text ≡ fault_line line cause)

-- What a form and an input decide, as long as no device fails and memory suffices: the status, and the text that is written. Which report
-- `replay` writes depends on the schedule of its sessions; all else is decided.
abbrev pub Decides : Form → List ℕ → Status → List ℕ → Type 0
Decides form.Step input status text = AnswersBy (λ commands written. written ≡ step_output commands) (script_at input) status text
Decides (form.Replay layout) input status text = AnswersBy (Shows layout) (script_at input) status text
Decides (form.Make requests) input status text = (status ≡ Done) × (text ≡ made_line requests)
Decides form.Help input status text = (status ≡ Done) × (text ≡ usage_line)
Decides form.Usage input status text = (status ≡ Usage) × (text ≡ usage_line)

-- What a source shows before a call and after it: the bytes that are left, where it tells them, and its count of faults.
pub record Reading : Type 0 where
  pub left : Option (List ℕ)
  pub left_after : Option (List ℕ)
  pub faults : ℕ
  pub faults_after : ℕ

-- what a source with these meanings shows before a call and after it
abbrev pub reading : {A : Type 0} → (A → Option (List ℕ)) → (A → ℕ) → A → A → Reading
reading left faults before now = record { left = left before; left_after = left now; faults = faults before; faults_after = faults now }

-- A script was read from a source that showed these bytes before and after: it is all that the source had, where it tells, and it was
-- taken to its end, or past the limit.
abbrev pub IsRead : Option (List ℕ) → Option (List ℕ) → List ℕ → Type 0
IsRead before now input = IfSome before (λ bytes. (input ≡ bytes) × ((now ≡ Some []) ⊎ TakesMoreThan TEXT_LIMIT before now))

-- This was read from a source: a script, or the first fault of an input that is none.
abbrev pub HasRead : Reading → Result (List Command) (ℕ × ℕ) → Type 0
HasRead source read = (input : List ℕ) × IsRead source.left source.left_after input × (script_at input ≡ read)

abbrev pub as_read : Input → Result (List Command) (ℕ × ℕ)
as_read (inputs.Script commands) = Ok commands
as_read (inputs.Bad fault) = Err (fault.line, fault.cause)

-- An opening of the script that a form runs lacks rows: of the one that was read, or of the generated one.
abbrev pub ReadLacks : Result (List Command) (ℕ × ℕ) → ℕ → ℕ → Type 0
ReadLacks (Ok commands) free need = ScriptLacks commands free need
ReadLacks (Err fault) free need = ⊥

abbrev pub FormLacks : Form → List ℕ → ℕ → ℕ → Type 0
FormLacks form.Step input free need = ReadLacks (script_at input) free need
FormLacks (form.Replay layout) input free need = ReadLacks (script_at input) free need
FormLacks (form.Make requests) input free need = ScriptLacks (generated requests) free need
FormLacks form.Help input free need = ⊥
FormLacks form.Usage input free need = ⊥

abbrev pub RunLacks : Form → Reading → ℕ → ℕ → Type 0
RunLacks form source free need =
    (input : List ℕ) × (IsTrue (reads form) → IsRead source.left source.left_after input) × FormLacks form input free need

-- How a run ends while the sink takes what is written: the status, and the whole text. It is what the form and its input decide, unless
-- the source failed, or rows or memory were refused.
abbrev pub Ends : Form → Reading → Status → List ℕ → Type 0
Ends form source ReadFault text = IsTrue (reads form) × CountsFault source.faults source.faults_after × (text ≡ codes "read fault\n")
Ends form source Memory text = IsTrue (takes_memory form) × (text ≡ codes "out of memory\n")
Ends form source (RowsOut free need) text = RunLacks form source free need × (text ≡ rows_line free need)
Ends form source WriteFault text = ⊥
Ends form source status text = (input : List ℕ) × (IsTrue (reads form) → IsRead source.left source.left_after input) × Decides form input status text

-- How a run ends by what was answered.
abbrev pub EndsBy : Form → Reading → Result Answer Stop → Type 0
EndsBy form source (Ok answer) = Ends form source answer.status answer.text.items
EndsBy form source (Err stops.ReadFault) = Ends form source ReadFault (codes "read fault\n")
EndsBy form source (Err stops.Memory) = Ends form source Memory (codes "out of memory\n")

-- What is answered where the run of a script stopped: which rows it lacked.
abbrev pub AnswersFault : RunFault → Status → List ℕ → Type 0
AnswersFault (run_faults.RowsOut free need) status text = (status ≡ RowsOut free need) × (text ≡ rows_line free need)
AnswersFault run_faults.Memory status text = ⊥

-- The run ended for want of rows, by its cause.
abbrev pub EndsForRows : Form → Reading → Status → Type 0
EndsForRows form source status = (free : ℕ) × (need : ℕ) × (status ≡ RowsOut free need) × RunLacks form source free need

-- The whole text of how the run ended was written.
abbrev pub WritesAll : Form → Reading → Status → Option (List ℕ) → Option (List ℕ) → Type 0
WritesAll form source status before now = (text : List ℕ) × Ends form source status text × Appends before now text

-- The sink failed: a front was written of the text of some ending that the run had come to.
abbrev pub WritesPart : Form → Reading → Option (List ℕ) → Option (List ℕ) → Type 0
WritesPart form source before now = (status : Status) × (text : List ℕ) × Ends form source status text × AppendsPart before now text

-- The step output of the script that the source's bytes spell was written.
abbrev pub WritesSteps : Reading → Option (List ℕ) → Option (List ℕ) → Type 0
WritesSteps source before now =
    (input : List ℕ) × (commands : List Command) × IsRead source.left source.left_after input × Spells input commands
    × Appends before now (step_output commands)

-- The report of a history of a run of the script that the source's bytes spell was written.
pub record WritesReplay (layout : Layout) (source : Reading) (before now : Option (List ℕ)) : Type 0 where
  pub input : List ℕ
  pub commands : List Command
  pub history : List Entry
  pub read : IsRead source.left source.left_after input
  pub spelled : Spells input commands
  pub run : IsRunOf commands history
  pub written : Appends before now (report_of layout history)

-- The last line of the step output of a generated script was written, and that is a script.
abbrev pub WritesMade : ℕ → Option (List ℕ) → Option (List ℕ) → Type 0
WritesMade requests before now = IsScript (generated requests) × Appends before now (made_line requests)

-- The source tells its bytes, and they spell a script.
abbrev pub HasScript : Reading → Type 0
HasScript source = (input : List ℕ) × (commands : List Command) × (source.left ≡ Some input) × Spells input commands
