-- The held latches in four lists, and what a capture, a begin and an end do to them.
use Rattle.std.specs.Prelude.{ℕ, ◌+◌, ◌&&◌, if◌then◌else◌, Bool, List, [], ◌∷◌, length}
use Rattle.span_key.specs.declared.scopes.Scope.TheVariants.{Global, Local}
use Rattle.latch_model.specs.Histories.{HeldLatch, Snapshot, captures, with_latch}
use Rattle.latch_model.specs.Latches.{at_normal, has_access, in_scope}
use Rattle.latch_model.specs.declared.latch.Access.TheVariants.{Read, Write}
use Rattle.latch_model.specs.declared.latch.Latch.{Latch}
use Rattle.latch_shots.specs.Held.{others}

abbrev pub no_lists : Snapshot
no_lists = record { global_reads = []; global_writes = []; local_reads = []; local_writes = [] }

abbrev pub total : Snapshot → ℕ
total s = length s.global_reads + length s.global_writes + length s.local_reads + length s.local_writes

-- what a request with these latches captures of the lists
abbrev pub taken_if : Bool → List HeldLatch → List HeldLatch
taken_if wanted xs = if wanted then xs else []

-- the lists that are wanted: the writes of each scope, and its reads
abbrev pub shown_if : Bool → Bool → Bool → Bool → Snapshot → Snapshot
shown_if global global_write local local_write s = record {
  global_reads = taken_if global_write s.global_reads;
  global_writes = taken_if global s.global_writes;
  local_reads = taken_if local_write s.local_reads;
  local_writes = taken_if local s.local_writes;
}

abbrev pub capture : List Latch → Snapshot → Snapshot
capture ls s = shown_if (captures ls Global Write) (captures ls Global Read) (captures ls Local Write) (captures ls Local Read) s

-- the lists with one more latch
abbrev pub with_if : Bool → HeldLatch → List HeldLatch → List HeldLatch
with_if there x xs = if there then with_latch x xs else xs

abbrev pub with_held : HeldLatch → Snapshot → Snapshot
with_held x s = record {
  global_reads = with_if (in_scope Global x.latch && has_access Read x.latch) x s.global_reads;
  global_writes = with_if (in_scope Global x.latch && has_access Write x.latch) x s.global_writes;
  local_reads = with_if (in_scope Local x.latch && has_access Read x.latch) x s.local_reads;
  local_writes = with_if (in_scope Local x.latch && has_access Write x.latch) x s.local_writes;
}

abbrev pub inserted : List HeldLatch → Snapshot → Snapshot
inserted [] s = s
inserted (x ∷ xs) s = with_held x (inserted xs s)

-- the lists without the latches of one request
abbrev pub without_by : ℕ → Snapshot → Snapshot
without_by id s = record {
  global_reads = others id s.global_reads;
  global_writes = others id s.global_writes;
  local_reads = others id s.local_reads;
  local_writes = others id s.local_writes;
}

-- the latches of a request, from its latch number n on, as snapshots list them
abbrev pub own_from : ℕ → ℕ → ℕ → List Latch → List HeldLatch
own_from id lane n [] = []
own_from id lane n (l ∷ ls) = record { by = id; lane = lane; place = n; latch = at_normal l } ∷ own_from id lane (n + 1) ls
