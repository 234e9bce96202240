-- The counts of metrics: how many latches are held, by scope and access, and how many of the held reads are pending.
use Rattle.std.specs.Prelude.{ℕ, Bool, not, ◌&&◌, if◌then◌else◌, List, [], ◌∷◌}
use Rattle.std.specs.List.{count_by, filter, list_any, sum_by}
use Rattle.span_key.specs.declared.scopes.Scope.{Scope}
use Rattle.latch_model.specs.Histories.{Begin, begins, has_ended, held, holds_latches}
use Rattle.latch_model.specs.Latches.{has_access, in_scope, writes}
use Rattle.latch_model.specs.declared.history.Entry.{Entry}
use Rattle.latch_model.specs.declared.latch.Access.{Access}
use Rattle.latch_model.specs.declared.latch.Access.TheVariants.{Read}

-- how many latches of a scope and access some begins declare
abbrev pub count_latches : Scope → Access → List Begin → ℕ
count_latches scope access bs = sum_by (λ b. count_by (λ l. in_scope scope l && has_access access l) b.request.latches) bs

-- whether a begin declares a write in a scope
abbrev pub writes_in : Scope → Begin → Bool
writes_in scope b = list_any (λ l. in_scope scope l && writes l.access) b.request.latches

-- The begins from the last one on that declares a write in the scope; all of them where none does.
abbrev pub from_last_writer : Scope → List Begin → List Begin
from_last_writer scope [] = []
from_last_writer scope (b ∷ bs) = if list_any (writes_in scope) bs then from_last_writer scope bs else b ∷ bs

-- of some begins of a history, those whose requests hold their latches
abbrev pub held_among : List Entry → List Begin → List Begin
held_among h bs = filter (λ b. holds_latches b.mode && not (has_ended h b.id)) bs

-- The latches of a scope and access that are held, and the pending reads of a scope: those held by requests that began no earlier than
-- the last one, of any mode, that declares a write in the scope.
abbrev pub held_count : Scope → Access → List Entry → ℕ
held_count scope access h = count_latches scope access (held h)

abbrev pub pending_count : Scope → List Entry → ℕ
pending_count scope h = count_latches scope Read (held_among h (from_last_writer scope (begins h)))
