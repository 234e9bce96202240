use Rattle.std.proofs.Common.{arith}
use Rattle.span_key.specs.declared.scopes.Scope.TheVariants.{Global}
use Rattle.held_latches.proofs.Keeping.{flushed}
use Rattle.held_latches.proofs.Scoped.{around, scope-has}
use Rattle.held_latches.proofs.held.HeldLatches.flush_global.Goals as goal

pub flush-requires-clause-has : goal.flush-requires-clause-has
flush-requires-clause-has c =
    let (s, n, o, low) = c.requires.holds in let k = o.kept in (
      o.global,
      around Global c.args.self.now.local o.local,
      scope-has Global c.args.self.now o.global o.local k,
      k.sound_global.reads_apart,
      (let b = k.few in omega arith),
      (let b = k.set_aside in omega arith),
    )

pub returns-then-wanted-clause-holds : goal.returns-then-wanted-clause-holds
returns-then-wanted-clause-holds c = λ s n m o low.
    let h = c.args.self.now in let k = o.holds.kept in
    flushed Global h c.flush.new.pool c.flush.new.self s n m c.args.id o low
    (c.flush.ensures.flushed o.holds.global (around Global h.local o.holds.local) (scope-has Global h o.holds.global o.holds.local k) k.sound_global.reads_apart
    (let x = k.few in omega arith) (let x = k.set_aside in omega arith)) c.flush.ensures.writer c.flush.ensures.same
