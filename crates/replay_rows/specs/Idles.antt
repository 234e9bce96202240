-- Sessions of a manager.
use Rattle.std.specs.Prelude.{◌≡◌, ℕ}
use Rattle.latch_manager.specs.Making.{Made}
use Rattle.signal_board.specs.Rule.{open_count}
use Rattle.signal_board.specs.Says.{PassSays}

-- A pass of the making, of this session.
abbrev pub IsOf : Made → ℕ → PassSays → Type 0
IsOf made who pass = (pass.table ≡ made.core.signals) × (pass.p.who ≡ who)

-- A pass of the making, without an open request.
abbrev pub IsIdle : Made → PassSays → Type 0
IsIdle made pass = (pass.table ≡ made.core.signals) × (open_count pass.p.mine ≡ 0)
