-- What a begin prepares before it changes anything, and what an entry changes of what is kept.
use Rattle.std.specs.Prelude.{◌≡◌, ℕ, ◌+◌, ◌-◌, ◌<◌, ◌≤◌, IsTrue, List, [], ◌∷◌, ◌++◌, length}
use Rattle.latch_model.specs.Declaration.{Declaration}
use Rattle.latch_model.specs.Histories.{Begin, holds_latches}
use Rattle.latch_model.specs.declared.latch.Latch.{Latch}
use Rattle.latch_model.specs.declared.latch.Mode.{Mode}
use Rattle.latch_model.specs.declared.history.Entry.{Entry}
use Rattle.sequence_core.specs.Lanes.{least, with_lane}
use Rattle.sequence_core.specs.Says.{rows_for}
use Rattle.sequence_core.specs.declared.fault.SeqFault.{SeqFault}
use Rattle.sequence_core.specs.declared.fault.SeqFault.TheVariants as seq_fault
use Rattle.sequence_core.specs.declared.kept.Kept.{Kept}

-- Nothing but room has changed.
pub record SameBut (old new : Kept) : Type 0 where
  pub entries : new.book.entries ≡ old.book.entries
  pub room : old.book.room ≤ new.book.room
  pub begun : new.begun ≡ old.begun
  pub free : new.free ≡ old.free
  pub held : new.held ≡ old.held

-- There is room for both entries of one more request beside the ends of those that are open.
abbrev pub HasRoom : Kept → Type 0
HasRoom k = k.free.lanes + 2 ≤ k.book.room + length k.free.free

-- the begin that comes next
abbrev pub begin_next : Kept → ℕ → Mode → Declaration → Begin
begin_next k who mode request = record { id = k.begun + 1; lane = least k.free.free; who = who; mode = mode; request = request }

-- There is place for latches beside as many, and there are the rows for them. A look needs none.
abbrev pub FitsIn : ℕ → Mode → ℕ → ℕ → Type 0
FitsIn limit mode held asked = IsTrue (holds_latches mode) → held + asked ≤ limit

abbrev pub RowsFor : Mode → ℕ → List Latch → Type 0
RowsFor mode free ls = IsTrue (holds_latches mode) → rows_for ls ≤ free

-- Why a request of these latches can't begin, where so many latches are held and rows are free.
abbrev pub Lacks : ℕ → Mode → ℕ → ℕ → List Latch → SeqFault → Type 0
Lacks limit mode held free ls (seq_fault.LatchesFull h a) = IsTrue (holds_latches mode) × (h ≡ held) × (a ≡ length ls) × (limit < held + length ls)
Lacks limit mode held free ls (seq_fault.RowsOut f need) =
    FitsIn limit mode held (length ls) × IsTrue (holds_latches mode) × (f ≡ free) × (need ≡ rows_for ls) × (free < need)
Lacks limit mode held free ls seq_fault.Memory = FitsIn limit mode held (length ls) × RowsFor mode free ls

-- What a begin changes beside the held latches.
pub record AddsBegin (old : Kept) (e : Entry) (id lane : ℕ) (new : Kept) : Type 0 where
  pub book : new.book ≡ record { entries = old.book.entries ++ e ∷ []; room = old.book.room - 1 }
  pub begun : new.begun ≡ id
  pub lanes : new.free.lanes ≡ old.free.lanes
  pub free : old.free.free ≡ new.free.free ++ lane ∷ []

-- What an end changes beside them.
pub record AddsEnd (old : Kept) (e : Entry) (lane : ℕ) (new : Kept) : Type 0 where
  pub book : new.book ≡ record { entries = old.book.entries ++ e ∷ []; room = old.book.room - 1 }
  pub begun : new.begun ≡ old.begun
  pub free : new.free ≡ record old.free { free = with_lane lane old.free.free }
