-- How runs end: what was read of a source, what was answered to it, and what a run that is done has written.
use Rattle.std.proofs.Common.{◌≡◌, ◌≢◌, ℕ, ◌<◌, ◌⊎◌, inl, inr, Bool, cond, IsTrue, List, [], length, Option, Some, None, IfSome, Result, Ok, Err}
use Rattle.std.proofs.Common.{IfErr, IfOk, refl, sym, ap, subst, ◌∙◌}
use Rattle.std.proofs.lemmas.Bool.{lt-ltb}
use Rattle.std.specs.Io.KnownBytes.{Appends}
use Rattle.port_io.specs.Devices.{AppendsPart, CountsFault, TakesMoreThan}
use Rattle.script.specs.Generated.{generated}
use Rattle.script.specs.Reading.{all_at, lines, script_at}
use Rattle.script.specs.Scripts.{IsScript, Spells}
use Rattle.script.specs.declared.command.Command.{Command}
use Rattle.script.specs.declared.limits.TheConstants.{TEXT_LIMIT}
use Rattle.script.proofs.Laws.Scripts.{script_again, script_takes}
use Rattle.step_run.specs.Faults.{ScriptLacks, StopsBy}
use Rattle.step_run.specs.Steps.{step_output}
use Rattle.step_run.specs.declared.fault.RunFault.{RunFault}
use Rattle.step_run.specs.declared.fault.RunFault.TheVariants as run_faults
use Rattle.latch_tool.specs.Outcomes.{AnswersBy, AnswersFault, Decides, Ends, EndsBy, EndsForRows, HasRead, HasScript, IsRead, RunLacks, ReadLacks}
use Rattle.latch_tool.specs.Outcomes.{Reading, Shows, WritesAll, WritesMade, WritesPart, WritesReplay, WritesSteps, made_line, usage_line}
use Rattle.latch_tool.specs.Words.{reads, takes_memory}
use Rattle.latch_tool.specs.declared.form.Form.{Form}
use Rattle.latch_tool.specs.declared.form.Form.TheVariants as form
use Rattle.latch_tool.specs.declared.form.Layout.{Layout}
use Rattle.latch_tool.specs.declared.run.Answer.{Answer}
use Rattle.latch_tool.specs.declared.run.Stop.{Stop}
use Rattle.latch_tool.specs.declared.run.Stop.TheVariants as stops
use Rattle.latch_tool.specs.declared.status.Status.{Status}
use Rattle.latch_tool.specs.declared.status.Status.TheVariants.{Done, Usage, Script, ReadFault, WriteFault, Memory, RowsOut}

-- what is read from an input
abbrev Read : Type 0
Read = Result (List Command) (ℕ × ℕ)

-- an input that is too long has that fault
read_long : (input : List ℕ) → TEXT_LIMIT < length input → script_at input ≡ Err (0, 18)
unfolding script_at
read_long input long = ap (λ (b : Bool). cond {A = Read} b (Err (0, 18)) (all_at (lines input))) (lt-ltb TEXT_LIMIT (length input) long)

-- a source from which too much was taken has such an input
long_input : (told now : Option (List ℕ)) → TakesMoreThan TEXT_LIMIT told now → IfSome told (λ bytes. TEXT_LIMIT < length bytes)
    → (input : List ℕ) × IsRead told now input × (TEXT_LIMIT < length input)
long_input None now taken long = (taken.0, tt, taken.1)
long_input (Some bytes) now taken long = (bytes, (refl, inr taken), long)

pub has_read_long : (source : Reading) → TakesMoreThan TEXT_LIMIT source.left source.left_after → IfSome source.left (λ bytes. TEXT_LIMIT < length bytes)
    → HasRead source (Err (0, 18))
has_read_long source taken long =
    let read = long_input source.left source.left_after taken long in (read.0, read.1, read_long read.0 read.2)

-- What words and an input decide is no fault of a device, and no want of rows or memory.
abbrev IsAnswer : Status → Type 0
IsAnswer Done = Unit {0}
IsAnswer Usage = Unit {0}
IsAnswer (Script line cause) = Unit {0}
IsAnswer ReadFault = ⊥
IsAnswer WriteFault = ⊥
IsAnswer Memory = ⊥
IsAnswer (RowsOut free need) = ⊥

script_answer : (Writes : List Command → List ℕ → Type 0) (read : Read) (status : Status) (text : List ℕ) → AnswersBy Writes read status text → IsAnswer status
script_answer Writes (Ok commands) status text answers = subst IsAnswer (sym answers.0) tt
script_answer Writes (Err (line, cause)) status text answers = subst IsAnswer (sym answers.0) tt

decided_answer : (of : Form) (input : List ℕ) (status : Status) (text : List ℕ) → Decides of input status text → IsAnswer status
decided_answer form.Step input status text decides = script_answer (λ commands written. written ≡ step_output commands) (script_at input) status text decides
decided_answer (form.Replay layout) input status text decides = script_answer (Shows layout) (script_at input) status text decides
decided_answer (form.Make requests) input status text decides = subst IsAnswer (sym decides.0) tt
decided_answer form.Help input status text decides = subst IsAnswer (sym decides.0) tt
decided_answer form.Usage input status text decides = subst IsAnswer (sym decides.0) tt

-- what a form and an input decide is how the run ends
decided_ends : (of : Form) (source : Reading) (input : List ℕ) (status : Status) (text : List ℕ)
    → (IsTrue (reads of) → IsRead source.left source.left_after input) → Decides of input status text → Ends of source status text
decided_ends of source input Done text read decides = (input, read, decides)
decided_ends of source input Usage text read decides = (input, read, decides)
decided_ends of source input (Script line cause) text read decides = (input, read, decides)
decided_ends of source input ReadFault text read decides = absurd (decided_answer of input ReadFault text decides)
decided_ends of source input WriteFault text read decides = absurd (decided_answer of input WriteFault text decides)
decided_ends of source input Memory text read decides = absurd (decided_answer of input Memory text decides)
decided_ends of source input (RowsOut free need) text read decides = absurd (decided_answer of input (RowsOut free need) text decides)

-- what was read, and what is answered to that, is how `step` ends, and `replay`
pub step_ends : (source : Reading) (read : Read) (status : Status) (text : List ℕ) → HasRead source read
    → AnswersBy (λ commands written. written ≡ step_output commands) read status text → Ends form.Step source status text
step_ends source read status text has answers =
    decided_ends form.Step source has.0 status text (λ _. has.1)
    (subst (λ (r : Read). AnswersBy (λ commands written. written ≡ step_output commands) r status text) (sym has.2) answers)

pub replay_ends : (layout : Layout) (source : Reading) (read : Read) (status : Status) (text : List ℕ) → HasRead source read
    → AnswersBy (Shows layout) read status text → Ends (form.Replay layout) source status text
replay_ends layout source read status text has answers =
    decided_ends (form.Replay layout) source has.0 status text (λ _. has.1)
    (subst (λ (r : Read). AnswersBy (Shows layout) r status text) (sym has.2) answers)

-- ---- a run that lacked rows

-- the rows that a script lacks are lacked by the form that runs it
pub step_lacks : (source : Reading) (commands : List Command) (fault : RunFault) → HasRead source (Ok commands) → StopsBy (ScriptLacks commands) fault
    → StopsBy (RunLacks form.Step source) fault
step_lacks source commands (run_faults.RowsOut free need) has lacks =
    (has.0, (λ _. has.1), subst (λ (r : Read). ReadLacks r free need) (sym has.2) lacks)
step_lacks source commands run_faults.Memory has lacks = tt

pub replay_lacks : (layout : Layout) (source : Reading) (commands : List Command) (fault : RunFault) → HasRead source (Ok commands)
    → StopsBy (ScriptLacks commands) fault → StopsBy (RunLacks (form.Replay layout) source) fault
replay_lacks layout source commands (run_faults.RowsOut free need) has lacks =
    (has.0, (λ _. has.1), subst (λ (r : Read). ReadLacks r free need) (sym has.2) lacks)
replay_lacks layout source commands run_faults.Memory has lacks = tt

-- where the run of a form's script stopped, what is answered to that is how the run ends
fault_ends : (of : Form) (source : Reading) (fault : RunFault) (status : Status) (text : List ℕ) → StopsBy (RunLacks of source) fault
    → AnswersFault fault status text → Ends of source status text
fault_ends of source (run_faults.RowsOut free need) status text lacks answers =
    subst (λ (s : Status). Ends of source s text) (sym answers.0) (lacks, answers.1)
fault_ends of source run_faults.Memory status text lacks answers = absurd answers

pub stopped_ends : (of : Form) (source : Reading) (fault : RunFault) (answered : Result Answer Stop) → IsTrue (takes_memory of)
    → StopsBy (RunLacks of source) fault → IfOk answered (λ a. AnswersFault fault a.status a.text.items) → IfErr answered (λ s. s ≡ stops.Memory)
    → EndsBy of source answered
stopped_ends of source fault (Ok a) takes lacks answers memory = fault_ends of source fault a.status a.text.items lacks answers
stopped_ends of source fault (Err stops.ReadFault) takes lacks answers memory = absurd cc
stopped_ends of source fault (Err stops.Memory) takes lacks answers memory = (takes, refl)

fault_is_no_write_fault : (fault : RunFault) (status : Status) (text : List ℕ) → AnswersFault fault status text → status ≢ WriteFault
fault_is_no_write_fault (run_faults.RowsOut free need) status text answers is = let r : RowsOut free need ≡ WriteFault = sym answers.0 ∙ is in cc
fault_is_no_write_fault run_faults.Memory status text answers is = answers

pub stopped_is_no_write_fault : (fault : RunFault) (answered : Result Answer Stop) → IfOk answered (λ a. AnswersFault fault a.status a.text.items)
    → IfOk answered (λ a. a.status ≢ WriteFault)
stopped_is_no_write_fault fault (Ok a) answers = fault_is_no_write_fault fault a.status a.text.items answers
stopped_is_no_write_fault fault (Err stop) answers = tt

-- how a run ends is no fault of the sink
pub no_write_fault : (of : Form) (source : Reading) (status : Status) (text : List ℕ) → Ends of source status text → status ≢ WriteFault
no_write_fault of source status text ends is = subst (λ (s : Status). Ends of source s text) is ends

-- what is done was answered to a script
done_script : (Writes : List Command → List ℕ → Type 0) (read : Read) (text : List ℕ) → AnswersBy Writes read Done text
    → (commands : List Command) × (read ≡ Ok commands) × Writes commands text
done_script Writes (Ok commands) text answers = (commands, refl, answers.1)
done_script Writes (Err (line, cause)) text answers = absurd (no_script line cause answers.0)
  where
    no_script : (line cause : ℕ) → Done ≢ Script line cause
    no_script line cause is = cc

-- what `step` writes in the end is the output of the script that was read
pub writes_steps : (source : Reading) (before now : Option (List ℕ)) → WritesAll form.Step source Done before now → WritesSteps source before now
writes_steps source before now w =
    let input = w.1.0 in
    let script = done_script (λ commands written. written ≡ step_output commands) (script_at input) w.0 w.1.2 in
    (input, script.0, w.1.1 refl, script_takes input script.0 script.1, subst (Appends before now) script.2 w.2)

-- what `replay` writes in the end is the report of a history of a run of the script that was read
pub writes_replay : (layout : Layout) (source : Reading) (before now : Option (List ℕ)) → WritesAll (form.Replay layout) source Done before now
    → WritesReplay layout source before now
writes_replay layout source before now w =
    let script = done_script (Shows layout) (script_at w.1.0) w.0 w.1.2 in
    record {
      input = w.1.0;
      commands = script.0;
      history = script.2.0;
      read = w.1.1 refl;
      spelled = script_takes w.1.0 script.0 script.1;
      run = script.2.1;
      written = subst (Appends before now) script.2.2 w.2;
    }

-- the input that was read from a source that tells a script is that script
read_script_is : (told now : Option (List ℕ)) (input bytes : List ℕ) (commands : List Command) → told ≡ Some bytes → Spells bytes commands
    → IsRead told now input → script_at input ≡ Ok commands
read_script_is None now input bytes commands e spells read = absurd cc
read_script_is (Some told) now input bytes commands e spells read =
    let same : input ≡ bytes = read.0 ∙ ap (λ (o : Option (List ℕ)). elim o [ None ↦ told | Some b ↦ b ]) e in
    ap script_at same ∙ script_again bytes commands spells

-- a form that reads a script is done with it
script_is_done : (of : Form) (input : List ℕ) (commands : List Command) (status : Status) (text : List ℕ) → IsTrue (reads of) → script_at input ≡ Ok commands
    → Decides of input status text → status ≡ Done
script_is_done form.Step input commands status text r is decides =
    (subst (λ (read : Read). AnswersBy (λ cs written. written ≡ step_output cs) read status text) is decides).0
script_is_done (form.Replay layout) input commands status text r is decides =
    (subst (λ (read : Read). AnswersBy (Shows layout) read status text) is decides).0
script_is_done (form.Make requests) input commands status text r is decides = decides.0
script_is_done form.Help input commands status text r is decides = decides.0
script_is_done form.Usage input commands status text r is decides = absurd cc

-- A run is done, or memory or rows were refused.
abbrev pub Completes : Form → Reading → Status → Type 0
Completes of source status = (status ≡ Done) ⊎ ((status ≡ Memory) ⊎ EndsForRows of source status)

-- where a form has the script that it reads and the source does not fail, the run is done, or memory or rows were refused
ends_done : (of : Form) (source : Reading) (status : Status) (text : List ℕ) → IsTrue (reads of) → HasScript source
    → ¬ CountsFault source.faults source.faults_after → Ends of source status text → Completes of source status
ends_done of source Memory text r has sound ends = inr (inl refl)
ends_done of source (RowsOut free need) text r has sound ends = inr (inr (free, need, refl, ends.0))
ends_done of source ReadFault text r has sound ends = absurd (sound ends.1)
ends_done of source WriteFault text r has sound ends = absurd ends
ends_done of source status text r has sound ends =
    let is = read_script_is source.left source.left_after ends.0 has.0 has.1 has.2 has.3 (ends.1 r) in
    inl (script_is_done of ends.0 has.1 status text r is ends.2)

-- a run of a form that has the script that it reads, and whose devices do not fail, is done, or memory or rows were refused
pub script_done : (of : Form) (source : Reading) (status : Status) (before now : Option (List ℕ)) → IsTrue (reads of) → HasScript source
    → ¬ CountsFault source.faults source.faults_after → WritesAll of source status before now → Completes of source status
script_done of source status before now r has sound w = ends_done of source status w.0 r has sound w.1

-- ---- `make` and `help`, which read nothing

make_reads_nothing : (requests : ℕ) → IsTrue (reads (form.Make requests)) → ⊥
make_reads_nothing requests r = cc

-- the rows that a generated script lacks are lacked by the form that runs it
pub made_lacks : (source : Reading) (requests : ℕ) (fault : RunFault) → StopsBy (ScriptLacks (generated requests)) fault
    → StopsBy (RunLacks (form.Make requests) source) fault
made_lacks source requests (run_faults.RowsOut free need) lacks = ([], (λ r. absurd (make_reads_nothing requests r)), lacks)
made_lacks source requests run_faults.Memory lacks = tt

-- the run is done, or memory or rows were refused
made_ends_done : (source : Reading) (requests : ℕ) (status : Status) (text : List ℕ) → Ends (form.Make requests) source status text
    → Completes (form.Make requests) source status
made_ends_done source requests Memory text ends = inr (inl refl)
made_ends_done source requests (RowsOut free need) text ends = inr (inr (free, need, refl, ends.0))
made_ends_done source requests ReadFault text ends = absurd (make_reads_nothing requests ends.0)
made_ends_done source requests WriteFault text ends = absurd ends
made_ends_done source requests status text ends = inl ends.2.0

pub made_done : (source : Reading) (requests : ℕ) (status : Status) (before now : Option (List ℕ))
    → WritesAll (form.Make requests) source status before now → Completes (form.Make requests) source status
made_done source requests status before now w = made_ends_done source requests status w.0 w.1

-- the last line was written
pub made_all : (source : Reading) (requests : ℕ) (status : Status) (text : List ℕ) (before now : Option (List ℕ)) → text ≡ made_line requests
    → status ≡ Done → Appends before now text → WritesAll (form.Make requests) source status before now
made_all source requests status text before now is done written =
    let ends : Ends (form.Make requests) source Done text = ([], (λ r. absurd (make_reads_nothing requests r)), (refl, is)) in
    subst (λ (s : Status). WritesAll (form.Make requests) source s before now) (sym done) (text, ends, written)

-- a front of it was written
pub made_part : (source : Reading) (requests : ℕ) (text : List ℕ) (before now : Option (List ℕ)) → text ≡ made_line requests
    → AppendsPart before now text → WritesPart (form.Make requests) source before now
made_part source requests text before now is written =
    (Done, text, ([], (λ r. absurd (make_reads_nothing requests r)), (refl, is)), written)

pub done_is_no_write_fault : (status : Status) → status ≡ Done → status ≢ WriteFault
done_is_no_write_fault status done e = let d : Done ≡ WriteFault = sym done ∙ e in absurd cc

-- the last line was written, and the script is one
pub made_line_written : (requests : ℕ) (text : List ℕ) (before now : Option (List ℕ)) → IsScript (generated requests) → text ≡ made_line requests
    → Appends before now text → WritesMade requests before now
made_line_written requests text before now script is written = (script, subst (Appends before now) is written)

-- A source that is not read.
abbrev pub no_reading : Reading
no_reading = record { left = None; left_after = None; faults = 0; faults_after = 0 }

-- what `make` writes in the end is the last line of the output of a script
pub writes_made : (requests : ℕ) (before now : Option (List ℕ)) → IsScript (generated requests)
    → WritesAll (form.Make requests) no_reading Done before now → WritesMade requests before now
writes_made requests before now script w = (script, subst (Appends before now) w.1.2.1 w.2)

-- a front of the usage line was written
pub help_part : (source : Reading) (before now : Option (List ℕ)) → AppendsPart before now usage_line → WritesPart form.Help source before now
help_part source before now written = (Done, usage_line, ([], (λ r. absurd cc), (refl, refl)), written)

pub usage_part : (source : Reading) (before now : Option (List ℕ)) → AppendsPart before now usage_line → WritesPart form.Usage source before now
usage_part source before now written = (Usage, usage_line, ([], (λ r. absurd cc), (refl, refl)), written)

pub same_number : (m n : ℕ) → form.Make m ≡ form.Make n → m ≡ n
same_number m n e = cc

pub same_layout : (l m : Layout) → form.Replay l ≡ form.Replay m → l ≡ m
same_layout l m e = cc
