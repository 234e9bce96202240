use Rattle.std.proofs.Common.{refl, ◌∙◌, arith}
use Rattle.held_latches.proofs.Flushes.{flushing-none, flushing-then, none-pending, same-self, same-then}
use Rattle.held_latches.proofs.scopes.ScopeTrees.flush.Goals as goal

pub loop-init : goal.loop-init
loop-init c = record {
  same = same-self c.args.pool.now;
  flushing = λ d a h apart many room. (d, flushing-none c.args.pool.now c.args.self.now d a h apart);
}

pub flush_one-requires-clause-table : goal.flush_one-requires-clause-table
flush_one-requires-clause-table c = c.loop.invariant.same.0 ∙ c.requires.table

pub flush_one-requires-clause-has : goal.flush_one-requires-clause-has
flush_one-requires-clause-has c =
    let (d, a, h, apart, many, room) = c.requires.has in
    let (e, f) = c.loop.invariant.flushing d a h apart many room in
    (e, a, f.has, f.apart, (let b = f.many in omega arith), (let b = f.spent in omega arith))

pub loop-smaller : goal.loop-smaller
loop-smaller c = let b = c.loop-test.ensures.some refl in omega arith

pub loop-preserved : goal.loop-preserved
loop-preserved c = record {
  same = same-then c.args.pool.now c.loop.pool c.flush_one.new.pool c.loop.invariant.same c.flush_one.ensures.same;
  flushing = λ d a h apart many room.
      let (e, f) = c.loop.invariant.flushing d a h apart many room in
      let (g, k) = c.flush_one.ensures.flushed e a f.has f.apart (let b = f.many in omega arith) in
      (g, flushing-then c.args.pool.now c.loop.pool c.flush_one.new.pool c.args.self.now c.loop.self c.flush_one.new.self d e g a f k);
}

pub returns-clause-same : goal.returns-clause-same
returns-clause-same c = same-then c.args.pool.now c.loop.pool c.flush_one.new.pool c.loop.invariant.same c.flush_one.ensures.same

pub returns-clause-flushed : goal.returns-clause-flushed
returns-clause-flushed c = λ d a h apart many room.
    let (e, f) = c.loop.invariant.flushing d a h apart many room in
    let (g, k) = c.flush_one.ensures.flushed e a f.has f.apart (let b = f.many in omega arith) in
    let o = flushing-then c.args.pool.now c.loop.pool c.flush_one.new.pool c.args.self.now c.loop.self c.flush_one.new.self d e g a f k in (
      g,
      record {
        has = record { stock = o.has.stock; fits_writes = o.has.fits_writes; fits_reads = o.has.fits_reads; listed = o.has.listed };
        writes = o.writes;
        order = o.order;
        apart = o.apart;
        many = o.many;
        spent = o.spent;
        stay = o.stay;
        came = o.came;
        left = o.left;
      },
      none-pending c.flush_one.new.pool.seat.view c.flush_one.new.self.pending g.pending o.has.listed (c.loop-test.ensures.none refl).1,
    )
