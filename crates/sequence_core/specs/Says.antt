-- What contracts see of a desk, and what its calls say.
use Rattle.std.specs.Prelude.{◌≡◌, ℕ, ◌+◌, ◌-◌, ◌*◌, ◌<◌, ◌≤◌, IsTrue, List, [], ◌∷◌, ◌++◌, length, slice_get, Some, None}
use Rattle.std.specs.List.{All, Contains}
use Rattle.atomic_table.specs.Seated.{TableId}
use Rattle.latch_model.specs.Declaration.{Declaration}
use Rattle.latch_model.specs.Histories.{Begin, begins, entry_of, free_lane, holds_latches, latches_held}
use Rattle.latch_model.specs.declared.history.Entry.{Entry}
use Rattle.latch_model.specs.declared.history.Entry.TheVariants.{Ended}
use Rattle.latch_model.specs.declared.history.Sizes.{Sizes}
use Rattle.latch_model.specs.declared.latch.Latch.{Latch}
use Rattle.latch_model.specs.declared.latch.Mode.{Mode}
use Rattle.signal_board.specs.Rule.{open_count}
use Rattle.signal_board.specs.Says.{PassSays}
use Rattle.waiter.specs.Says.{CoreId, EndingSays}
use Rattle.sequence_core.specs.Bounds.{bad_size}
use Rattle.sequence_core.specs.declared.fault.NewFault.{NewFault}
use Rattle.sequence_core.specs.declared.fault.NewFault.TheVariants as new_fault
use Rattle.sequence_core.specs.declared.fault.SeqFault.{SeqFault}
use Rattle.sequence_core.specs.declared.fault.SeqFault.TheVariants as seq_fault
use Rattle.sequence_core.specs.declared.limits.TheConstants.{LATCH_ROWS}

-- A desk: its core, the sizes of its history, the history, how many passes it gave, and how many rows are free for the latches of further requests.
pub record DeskState : Type 0 where
  pub core : CoreId
  pub sizes : Sizes
  pub log : List Entry
  pub given : ℕ
  pub free : ℕ

-- The desk after one more entry, with so many free rows.
abbrev pub logs : Entry → ℕ → DeskState → DeskState
logs e free d = record d { log = d.log ++ e ∷ []; free = free }

-- The begin of the next request: the next number, and the least lane that no open request has.
abbrev pub next_begin : List Entry → ℕ → Mode → Declaration → Begin
next_begin log who mode request = record { id = length (begins log) + 1; lane = free_lane log; who = who; mode = mode; request = request }

abbrev pub next_entry : List Entry → ℕ → Mode → Declaration → Entry
next_entry log who mode request = entry_of (next_begin log who mode request)

-- The end of a request, as it is to end.
abbrev pub end_entry : EndingSays → Entry
end_entry e = Ended e.r.id e.r.who e.grant e.r.cause e.fault

-- There is place for latches beside those that are held. A look needs none.
abbrev pub HasPlace : DeskState → Mode → List Latch → Type 0
HasPlace d mode ls = IsTrue (holds_latches mode) → length (latches_held d.log) + length ls ≤ d.sizes.latches

-- The rows that are set aside for latches.
abbrev pub rows_for : List Latch → ℕ
rows_for ls = LATCH_ROWS * length ls

-- The rows for the latches of a request are free. A look needs none.
abbrev pub HasRows : DeskState → Mode → List Latch → Type 0
HasRows d mode ls = IsTrue (holds_latches mode) → rows_for ls ≤ d.free

-- They are more than are free.
abbrev pub LacksRows : Mode → List Latch → ℕ → ℕ → Type 0
LacksRows mode ls free need = IsTrue (holds_latches mode) × (need ≡ rows_for ls) × (free < need)

-- Why a request doesn't begin: as many latches are held, as many are asked for, and together they are too many, while the other lanes
-- could hold as many; or rows, where there is place; or memory, where there are place and rows.
abbrev pub Refuses : DeskState → Mode → List Latch → SeqFault → Type 0
Refuses d mode ls (seq_fault.LatchesFull held asked) =
    IsTrue (holds_latches mode)
    × (held ≡ length (latches_held d.log))
    × (asked ≡ length ls)
    × (d.sizes.latches < held + asked)
    × (held ≤ 16 * (d.sizes.lanes - 1))
Refuses d mode ls (seq_fault.RowsOut free need) = HasPlace d mode ls × (free ≡ d.free) × LacksRows mode ls free need
Refuses d mode ls seq_fault.Memory = HasPlace d mode ls × HasRows d mode ls

-- Why a desk isn't made: the first of the sizes that is out of its bounds; or memory, where none is.
abbrev pub RefusesNew : Sizes → NewFault → Type 0
RefusesNew sizes (new_fault.BadSizes which) = bad_size sizes ≡ Some which
RefusesNew sizes new_fault.Memory = bad_size sizes ≡ None

-- A pass that was just given: it has seen and was shown the empty history.
abbrev pub fresh_pass : TableId → ℕ → PassSays
fresh_pass table who = record { table = table; p = record { who = who; seen = 0; shown = []; mine = [] } }

-- The passes of a new desk: one for each lane, numbered from 1 in their order.
pub record AreFresh (table : TableId) (lanes : ℕ) (passes : List PassSays) : Type 0 where
  pub as_many : length passes ≡ lanes
  pub each : (i : ℕ) (p : PassSays) → slice_get passes i ≡ Some p → p ≡ fresh_pass table (i + 1)

-- All passes of a desk, each without an open request.
pub record HasEachPass (d : DeskState) (passes : List PassSays) : Type 0 where
  pub tables : All (λ p. p.table ≡ d.core.signals) passes
  pub idle : All (λ p. open_count p.p.mine ≡ 0) passes
  pub each : (who : ℕ) → 0 < who → who ≤ d.given → (p : PassSays) × Contains passes p × (p.p.who ≡ who)
