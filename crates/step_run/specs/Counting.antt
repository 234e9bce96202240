-- The counts of the last line, entry by entry.
use Rattle.std.specs.Prelude.{ℕ, ◌+◌, ◌<◌, if◌then◌else◌}
use Rattle.latch_model.specs.declared.history.Entry.{Entry}
use Rattle.latch_model.specs.declared.history.Entry.TheVariants.{Begun, Ended}
use Rattle.latch_model.specs.declared.history.Fault.{Fault}
use Rattle.latch_model.specs.declared.history.Grant.{Grant}
use Rattle.report.specs.Words.{is_cancelled, is_checked, is_granted, is_never, is_poisoned}
use Rattle.report.specs.declared.counts.Summary.{Summary}

-- no count is as high as this
pub record AreAtMost (most : ℕ) (s : Summary) : Type 0 where
  pub begun : s.begun < most
  pub granted : s.granted < most
  pub checked : s.checked < most
  pub poisoned : s.poisoned < most
  pub cancelled : s.cancelled < most
  pub never : s.never < most

abbrev pub with_end : Grant → Fault → Summary → Summary
with_end grant fault s = record {
  begun = s.begun;
  granted = s.granted + (if is_granted grant fault then 1 else 0);
  checked = s.checked + (if is_checked grant fault then 1 else 0);
  poisoned = s.poisoned + (if is_poisoned grant fault then 1 else 0);
  cancelled = s.cancelled + (if is_cancelled grant fault then 1 else 0);
  never = s.never + (if is_never grant fault then 1 else 0);
}

abbrev pub with_entry : Entry → Summary → Summary
with_entry (Begun id lane who mode request) s = record s { begun = s.begun + 1 }
with_entry (Ended id who grant poison fault) s = with_end grant fault s
