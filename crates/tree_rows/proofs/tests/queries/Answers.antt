use Rattle.std.proofs.Common.{sym, subst, ◌∙◌}
use Rattle.latch_item.specs.Shape.{Refers}
use Rattle.tree_rows.proofs.tests.queries.Goals as goal

pub query-requires-clause-table : goal.query-requires-clause-table
query-requires-clause-table c = c.loop-q.invariant.table ∙ c.requires.table

pub query-requires-clause-shot : goal.query-requires-clause-shot
query-requires-clause-shot c =
    let (xs, o) = c.requires.shot in
    (xs, subst (λ v. Refers v c.args.shot.now xs) (sym c.loop-q.invariant.view) o)
