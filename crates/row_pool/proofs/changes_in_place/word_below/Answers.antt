use Rattle.std.proofs.Common.{sym, subst, ◌<◌, inl, arith}
use Rattle.row_pool.specs.Layout.{first_link}
use Rattle.row_pool.specs.Views.{below}
use Rattle.row_pool.proofs.TestSeats.{first-up}
use Rattle.row_pool.proofs.changes_in_place.word_below.Goals as goal

pub read-requires-clause-reachable : goal.read-requires-clause-reachable
read-requires-clause-reachable c =
    let g = c.requires.stand in
    let over = g.6 in
    inl (
      g.2,
      below 0 (first-up c.args.seat.now.view g.1 g.3 g.5.refs) over.first,
      over.below,
      (omega arith, omega arith, inl (subst (λ k. 5 < first_link k) (sym over.is_item) (omega arith))),
    )

pub returns-clause-word : goal.returns-clause-word
returns-clause-word c = λ leaf x w ts rs h over.
    c.read.ensures.tree w (below 0 (first-up c.args.seat.now.view x ts h.refs) over.first) over.below
