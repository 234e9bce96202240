-- The references of shots are given up.
use Rattle.std.proofs.Common.{◌≡◌, [], ◌++◌, sym, subst, ◌∙◌, ⊎_elim}
use mathlib.Core.Option.{some, some-ne-none}
use Rattle.row_pool.proofs.Chains.{mem-left, mem-or, mem-right}
use Rattle.row_pool.specs.Chains.{ChainGrows, IsChain}
use Rattle.row_pool.specs.Lists.{find}
use Rattle.row_pool.specs.SeatView.{SeatView}
use Rattle.row_pool.specs.declared.chain.Chain.{Chain}
use Rattle.latch_shots.specs.Shots.{OwnsJust}

-- a seat that owns nothing, and an empty chain
pub owns-none : (v : SeatView) (c : Chain) → v.owned ≡ [] → IsChain v c [] → OwnsJust v c
owns-none v c none chain = record {
  rows = [];
  chain = chain;
  all = λ q e has. absurd (some-ne-none e (sym (subst (λ ps. find q ps ≡ some e) none has)));
}

-- the rows that came to be owned are in the chain
pub owns-more : (v w : SeatView) (c d : Chain) → OwnsJust v c → ChainGrows v w c d → OwnsJust w d
owns-more v w c d o g = record {
  rows = g.more ++ o.rows;
  chain = g.chain o.rows o.chain;
  all = λ q e has. ⊎_elim (λ m. mem-left q g.more o.rows m) (λ m. mem-right q g.more o.rows (o.all q e (sym (g.owns_more.same q m) ∙ has)))
      (mem-or q g.more);
}
