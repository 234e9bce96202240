use Rattle.row_pool.proofs.Laws.{all-reached}
use Rattle.row_pool.proofs.reading.each_live_row_is_reached.Goals as goal

pub returns : goal.returns
returns c = λ n s rule r t here. all-reached rule.counted r t here
