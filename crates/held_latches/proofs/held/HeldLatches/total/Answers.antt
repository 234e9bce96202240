use Rattle.std.proofs.Common.{arith}
use Rattle.span_key.specs.declared.scopes.Scope.TheVariants.{Global, Local}
use Rattle.held_latches.proofs.Scoped.{has-content}
use Rattle.held_latches.proofs.Counting.{total-of}
use Rattle.held_latches.proofs.held.HeldLatches.total.Goals as goal

pub returns : goal.returns
returns c = λ s n o.
    let h = c.args.self.now in let a = c.total.ensures o.global (has-content Global h o.global o.local o.kept) in
    let b = c.total-2.ensures o.local (has-content Local h o.global o.local o.kept) in let d = total-of h s n o in omega arith
