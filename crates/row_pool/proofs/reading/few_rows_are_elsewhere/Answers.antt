use Rattle.std.proofs.Common.{arith}
use Rattle.row_pool.proofs.SeatCaps.{covered}
use Rattle.row_pool.proofs.Readings.{counted-in, counted-from, elsewhere-or-had}
use Rattle.row_pool.proofs.reading.few_rows_are_elsewhere.Goals as goal

pub returns-clause-few : goal.returns-clause-few
returns-clause-few c = λ n s rule i v at first. let a = covered rule i v at first in let b = elsewhere-or-had n v in omega arith

pub returns-clause-which : goal.returns-clause-which
returns-clause-which c = λ n s rule i v at r. (λ h. counted-in v r h, λ h. counted-from v r (rule.keys_distinct i v at) h)
