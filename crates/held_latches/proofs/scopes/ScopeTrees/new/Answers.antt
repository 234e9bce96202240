use Rattle.row_pool.specs.Changes.{fresh}
use Rattle.held_latches.proofs.scopes.ScopeTrees.new.Goals as goal

pub returns-clause-empty : goal.returns-clause-empty
returns-clause-empty c = record {
  no_writes = (c.new.ensures.root, (fresh 0, c.new.ensures.tree (fresh 0)));
  no_reads = (c.new-2.ensures.root, (fresh 0, c.new-2.ensures.tree (fresh 0)));
  none_pending = c.new-3.ensures;
}
