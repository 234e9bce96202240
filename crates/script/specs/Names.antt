-- What is kept while a script is read: of each name how it was opened and what has been done with it since, and of each session
-- whether it has a live name.
use Rattle.std.specs.Prelude.{◌≡◌, ℕ, Bool, true, false, not, ◌&&◌, ◌==◌, ◌+◌, ◌*◌, nat_eq, if◌then◌else◌, List, [], ◌∷◌, length, Option, Some, None}
use Rattle.std.specs.Prelude.{slice_index_or}
use Rattle.std.specs.HashMap.{get}
use Rattle.std.specs.List.{list_any}
use Rattle.latch_model.specs.declared.latch.Mode.{Mode}
use Rattle.latch_model.specs.declared.latch.Mode.TheVariants.{Acquire, Optimistic, Look}
pub use Rattle.script.specs.Commands.{opens_for}
use Rattle.script.specs.Commands.{opens, opens_optimistic, waits_for, releases}
use Rattle.script.specs.Scripts.{is_name}
use Rattle.script.specs.declared.command.Command.{Command}
use Rattle.script.specs.declared.draft.Draft.{Draft}
use Rattle.script.specs.declared.draft.Opened.{Opened}

-- A name as a number: its bytes are the digits to the base 256, the lowest first.
abbrev pub packed : List ℕ → ℕ
packed [] = 0
packed (b ∷ bs) = b + 256 * packed bs

-- what is kept of a name
abbrev pub find : Draft → List ℕ → Option Opened
find d name = if is_name name then get nat_eq d.opened (packed name) else None

abbrev pub used_in : Option Opened → Bool
used_in None = false
used_in (Some o) = true

abbrev pub owned_by : ℕ → Option Opened → Bool
owned_by s None = false
owned_by s (Some o) = o.session == s

abbrev pub optimistic_in : Option Opened → Bool
optimistic_in None = false
optimistic_in (Some o) = o.optimistic

abbrev pub waited_in : Option Opened → Bool
waited_in None = false
waited_in (Some o) = o.waited

abbrev pub released_in : Option Opened → Bool
released_in None = false
released_in (Some o) = o.released

-- a name that has had a wait, and one that was released
abbrev pub with_wait : Opened → Opened
with_wait o = record { session = o.session; optimistic = o.optimistic; waited = true; released = o.released }

abbrev pub with_release : Opened → Opened
with_release o = record { session = o.session; optimistic = o.optimistic; waited = o.waited; released = true }

-- whether a name is live and belongs to this session
abbrev pub open_in : ℕ → Option Opened → Bool
open_in s None = false
open_in s (Some o) = (o.session == s) && not o.released

abbrev pub is_optimistic : Mode → Bool
is_optimistic Acquire = false
is_optimistic Optimistic = true
is_optimistic Look = false

-- What is kept of the names is what the commands say of them.
pub record Tracks (kept : List ℕ → Option Opened) (cs : List Command) : Type 0 where
  pub used : (q : List ℕ) → list_any (opens q) cs ≡ used_in (kept q)
  pub owner : (q : List ℕ) (s : ℕ) → list_any (opens_for s q) cs ≡ owned_by s (kept q)
  pub optimistic : (q : List ℕ) → list_any (opens_optimistic q) cs ≡ optimistic_in (kept q)
  pub waited : (q : List ℕ) → list_any (waits_for q) cs ≡ waited_in (kept q)
  pub released : (q : List ℕ) → list_any (releases q) cs ≡ released_in (kept q)

-- A session is busy where it has a live name, and it has one at most.
pub record Sessions (kept : List ℕ → Option Opened) (busy : List Bool) : Type 0 where
  pub size : length busy ≡ 65
  pub some : (s : ℕ) → slice_index_or busy s false ≡ true → (q : List ℕ) × (open_in s (kept q) ≡ true)
  pub each : (s : ℕ) (q : List ℕ) → open_in s (kept q) ≡ true → slice_index_or busy s false ≡ true
  pub one : (s : ℕ) (q r : List ℕ) → open_in s (kept q) ≡ true → open_in s (kept r) ≡ true → q ≡ r

pub record KnowsNames (d : Draft) (cs : List Command) : Type 0 where
  pub tracks : Tracks (find d) cs
  pub sessions : Sessions (find d) d.busy

-- what a draft keeps is what its commands say
abbrev pub Keeps : Draft → Type 0
Keeps d = KnowsNames d d.commands.items
