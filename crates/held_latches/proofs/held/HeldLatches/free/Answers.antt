use Rattle.std.proofs.Common.{arith}
use Rattle.span_key.specs.declared.scopes.Scope.TheVariants.{Global, Local}
use Rattle.held_latches.proofs.Scoped.{has-content}
use Rattle.held_latches.proofs.Counting.{all-rows}
use Rattle.held_latches.proofs.held.HeldLatches.free.Goals as goal

pub returns-clause-free : goal.returns-clause-free
returns-clause-free c =
    let (s, n, o) = c.requires in let h = c.args.self.now in let k = o.kept in
    let a = (c.aside.ensures o.global (has-content Global h o.global o.local k)).1 in
    let b = (c.aside-2.ensures o.local (has-content Local h o.global o.local k)).1 in
    let d = c.len.ensures h.pool.seat.view k.stock.free k.stock.chained in let e = k.stock.chained.long in omega arith

pub returns-clause-all : goal.returns-clause-all
returns-clause-all c = λ o.
    let h = c.args.self.now in let k = o.kept in
    let a = (c.aside.ensures o.global (has-content Global h o.global o.local k)).1 in
    let b = (c.aside-2.ensures o.local (has-content Local h o.global o.local k)).1 in
    let d = c.len.ensures h.pool.seat.view k.stock.free k.stock.chained in let e = k.stock.chained.long in
    let z = all-rows h c.known.ensures o in omega arith

pub returns-clause-most : goal.returns-clause-most
returns-clause-most c = λ s n m o.
    let h = c.args.self.now in let g = o.holds.global in let l = o.holds.local in let k = o.holds.kept in
    let a = (c.aside.ensures g (has-content Global h g l k)).0 in let b = (c.aside-2.ensures l (has-content Local h g l k)).0 in
    let d = c.len.ensures h.pool.seat.view k.stock.free k.stock.chained in let e = k.stock.chained.long in let f = o.spare in omega arith

pub returns-clause-spare : goal.returns-clause-spare
returns-clause-spare c = λ s n o.
    let h = c.args.self.now in let k = o.kept in
    let a = (c.aside.ensures o.global (has-content Global h o.global o.local k)).0 in
    let b = (c.aside-2.ensures o.local (has-content Local h o.global o.local k)).0 in
    let d = c.len.ensures h.pool.seat.view k.stock.free k.stock.chained in let e = k.stock.chained.long in
    record { holds = o; spare = (let f = k.set_aside in omega arith) }
