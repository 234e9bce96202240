use Rattle.std.proofs.Common.{⊎_elim, true≢false, sym}
use Rattle.read_list.proofs.tests.close_all.Goals as goal

pub whole-requires : goal.whole-requires
whole-requires c =
    let g = c.requires.stock in
    record {
      first = (c.requires.first.0, c.requires.first.1, g.1.refs);
      all = (g.0, g.1.chain, λ r e f. ⊎_elim (λ m. m) (λ m. absurd (true≢false (sym m))) (g.1.all r e f));
    }

pub close-requires : goal.close-requires
close-requires c = let g = c.requires.stock in record { table = g.1.table; first = c.requires.first; all = (g.0, g.1.chain, c.whole.ensures g.0 g.1.chain) }
