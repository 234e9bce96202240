use Rattle.std.proofs.Common.{arith}
use Rattle.span_key.specs.declared.scopes.Scope.TheVariants.{Local}
use Rattle.held_latches.proofs.Keeping.{flushed}
use Rattle.held_latches.proofs.Scoped.{around, scope-has}
use Rattle.held_latches.proofs.held.HeldLatches.flush_local.Goals as goal

pub flush-requires-clause-has : goal.flush-requires-clause-has
flush-requires-clause-has c =
    let (s, n, o, low) = c.requires.holds in let k = o.kept in (
      o.local,
      around Local c.args.self.now.global o.global,
      scope-has Local c.args.self.now o.global o.local k,
      k.sound_local.reads_apart,
      (let b = k.few in omega arith),
      (let b = k.set_aside in omega arith),
    )

pub returns-then-wanted-clause-holds : goal.returns-then-wanted-clause-holds
returns-then-wanted-clause-holds c = λ s n m o low.
    let h = c.args.self.now in let k = o.holds.kept in
    flushed Local h c.flush.new.pool c.flush.new.self s n m c.args.id o low
    (c.flush.ensures.flushed o.holds.local (around Local h.global o.holds.global) (scope-has Local h o.holds.global o.holds.local k) k.sound_local.reads_apart
    (let x = k.few in omega arith) (let x = k.set_aside in omega arith)) c.flush.ensures.writer c.flush.ensures.same
