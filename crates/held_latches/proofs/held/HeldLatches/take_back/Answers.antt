use Rattle.std.proofs.Common.{[], ◌∷◌, ◌++◌, length, sym, refl, ◌∙◌, arith}
use Rattle.held_latches.specs.Stock.{tree_root}
use Rattle.held_latches.proofs.Keeping.{kept-more}
use Rattle.held_latches.proofs.held.HeldLatches.take_back.Goals as goal

pub take_back-requires-clause-table : goal.take_back-requires-clause-table
take_back-requires-clause-table c = let (number, r) = c.requires.returned in (c.requires.table, r.same_table)

pub take_back-requires-clause-other : goal.take_back-requires-clause-other
take_back-requires-clause-other c =
    let (number, r) = c.requires.returned in (r.owns, (let a = r.split_off in let b = r.same_number in omega arith), r.no_refs)

pub take_back-requires-clause-stock : goal.take_back-requires-clause-stock
take_back-requires-clause-stock c = let (s, n, o) = c.requires.holds in (_, _, o.kept.stock, omega arith)

pub returns-clause-holds : goal.returns-clause-holds
returns-clause-holds c = λ s n more spare.
    let o = spare.holds in let h = c.args.self.now in let g = o.global in let l = o.local in
    let (stock, stay) = c.take_back.ensures.stock (tree_root h.global.writes g.writes ∷ tree_root h.global.reads g.reads
    ∷ tree_root h.local.writes l.writes ∷ tree_root h.local.reads l.reads ∷ []) (g.pending ++ l.pending) o.kept.stock in (
      length c.take_back.new.self.seat.view.out,
      sym (c.take_back.ensures.out ∙ o.out),
      record {
        holds = record {
          global = g;
          local = l;
          kept = kept-more h c.take_back.new.self g l o.kept stock stay c.take_back.ensures.spent;
          global_reads = o.global_reads;
          global_writes = o.global_writes;
          local_reads = o.local_reads;
          local_writes = o.local_writes;
          out = refl;
        };
        spare = (let a = spare.spare in let b = c.take_back.ensures.spent in omega arith);
      },
    )
