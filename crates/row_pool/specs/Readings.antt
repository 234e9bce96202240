-- Words for the laws of the count rule.
use Rattle.std.specs.Prelude.{ℕ, cond}
use Rattle.row_pool.specs.Lists.{mem}
use Rattle.row_pool.specs.SeatView.{SeatView}
use Rattle.row_pool.specs.Caps.{rows_of_view, sum_below}

-- how many of n rows the seat neither owns nor reaches
abbrev pub rows_elsewhere : ℕ → SeatView → ℕ
rows_elsewhere n v = sum_below (λ r. cond (mem r (rows_of_view v)) 0 1) n
