-- All passes of a manager, without an open request.
use Rattle.std.proofs.Common.{◌≡◌, List, ◌∷◌, [], ap}
use Rattle.signal_board.specs.Rule.{open_count}
use Rattle.signal_board.specs.Says.{PassSays}
use Rattle.sequence_core.specs.Says.{AreFresh, DeskState, HasEachPass}
use Rattle.sequence_core.proofs.Passes.{has_each, has_two}
use Rattle.latch_manager.specs.Making.{HasAllPasses, Made}
use Rattle.replay_rows.specs.Idles.{IsIdle}

-- a desk of the making
abbrev desk_of : Made → DeskState
desk_of made = record { core = made.core; sizes = made.sizes; log = []; given = made.sizes.lanes; free = made.sizes.rows }

all_of : (made : Made) (passes : List PassSays) → HasEachPass (desk_of made) passes → HasAllPasses made passes
all_of made passes h = record { tables = h.tables; idle = h.idle; each = h.each }

pub all_two : (made : Made) (one two : PassSays) → made.sizes.lanes ≡ 2 → IsIdle made one × (one.p.who ≡ 1) → IsIdle made two × (two.p.who ≡ 2) →
    HasAllPasses made (one ∷ two ∷ [])
all_two made one two lanes a b =
    all_of made (one ∷ two ∷ [])
    (has_two (desk_of made) one two lanes (record { same = a.0.0; number = a.1; idle = a.0.1 }) (record { same = b.0.0; number = b.1; idle = b.0.1 }))

pub all_fresh : (made : Made) (passes : List PassSays) → AreFresh made.core.signals made.sizes.lanes passes → HasAllPasses made passes
all_fresh made passes fresh =
    all_of made passes (has_each (desk_of made) passes fresh.as_many (λ i p at.
    let is = fresh.each i p at in
    record { same = ap (λ (x : PassSays). x.table) is; number = ap (λ (x : PassSays). x.p.who) is; idle = ap (λ (x : PassSays). open_count x.p.mine) is }))
