-- The states to which a run comes.
use Rattle.std.specs.Prelude.{◌≡◌, ℕ, ◌<◌, true, false, not, Bool, List, map, length}
use Rattle.std.specs.List.{filter}
use Rattle.latch_model.specs.Histories.{Begin, begins, has_begun, has_ended, latches_of, open_begins}
use Rattle.latch_model.specs.declared.history.Entry.{Entry}
use Rattle.latch_model.specs.declared.latch.Latch.{Latch}
use Rattle.latch_model.specs.declared.latch.Mode.{Mode}
use Rattle.latch_model.proofs.Ascending.{Rising}
use Rattle.latch_model.proofs.Elements.{Each}
use Rattle.step_run.specs.State.{Named}
use Rattle.step_run.specs.Steps.{is_over}

-- what matters of a begin, and of the request of a live name
pub record Brief : Type 0 where
  pub id : ℕ
  pub mode : Mode
  pub latches : List Latch

abbrev pub brief : Begin → Brief
brief b = record { id = b.id; mode = b.mode; latches = b.request.latches }

abbrev pub brief_of : List Entry → Named → Brief
brief_of h n = record { id = n.id; mode = n.mode; latches = latches_of h n.id }

abbrev pub is_going : Named → Bool
is_going n = not (is_over n.phase)

-- A history and live names to which a run may come. The requests have the numbers from 1 on, what has ended has begun, the live names are
-- in the order of their numbers, and those whose requests are not over are the open requests.
pub record Valid (h : List Entry) (ns : List Named) : Type 0 where
  pub fresh : (j : ℕ) → length (begins h) < j → has_begun h j ≡ false
  pub unended : (j : ℕ) → length (begins h) < j → has_ended h j ≡ false
  pub begun : Each (λ (n : Named). has_begun h n.id ≡ true) ns
  pub rising : Rising (map (λ (n : Named). n.id) ns)
  pub rising_begins : Rising (map (λ (x : Begin). x.id) (begins h))
  pub going : map brief (open_begins h) ≡ map (brief_of h) (filter is_going ns)
