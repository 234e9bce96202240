use Rattle.std.proofs.Common.{ℕ, ◌+◌, ◌*◌, ◌<◌, length, subst, sym, ◌∙◌}
use Rattle.span_key.specs.declared.scopes.Scope.TheVariants.{Global, Local}
use Rattle.latch_model.specs.Histories.{Snapshot, captures}
use Rattle.latch_model.specs.declared.latch.Access.TheVariants.{Read, Write}
use Rattle.latch_shots.specs.Shots.{AreShots}
use Rattle.held_latches.specs.Holding.{EachHeld, MayInsert, writer_of}
use Rattle.held_latches.specs.Lists.{inserted, own_from}
use Rattle.held_latches.proofs.Capturing.{come-flushed, each-upto, same-captured, writes-in}
use Rattle.held_latches.proofs.Own.{each-own, without-own}
use Rattle.held_latches.proofs.held.HeldLatches.begin.Goals as goal
use Rattle.held_latches.proofs.held.HeldLatches.begin.Goals.{After-flush, After-insert}

own_come : (c : After-flush) (s : Snapshot) (n more : ℕ) → MayInsert c.args.self.now s n more c.args.id c.args.lane (length c.args.own.now)
    → EachHeld (λ x. x.by < c.args.id) s → MayInsert c.flush.new.self s n more c.args.id c.args.lane (length c.args.own.now)
own_come c s n more may low =
    let flushed = c.flush.ensures in
    come-flushed c.args.self.now c.flush.new.self s n more c.args.id c.args.lane (length c.args.own.now) c.has_write-global_write.result
    c.has_write-local_write.result may (flushed.holds s n (13 * length c.args.own.now + more) may.has low) flushed.table.1 flushed.writers.0 flushed.writers.1

pub insert-requires-clause-may : goal.insert-requires-clause-may
insert-requires-clause-may c =
    let (s, n, more, may, low, few) = c.requires.may in
    (s, n, more, own_come (goal.at.insert-requires-clause-may c).After-flush s n more may low)

pub take_shots-requires-clause-holds : goal.take_shots-requires-clause-holds
take_shots-requires-clause-holds c =
    let (s, n, more, may, low, few) = c.requires.may in
    (_, n, more, c.insert.ensures.held s n more (own_come (goal.at.take_shots-requires-clause-holds c).After-flush s n more may low), few)

pub returns-clause-holds : goal.returns-clause-holds
returns-clause-holds c = λ s n more may low few.
    c.take_shots.ensures.holds _ n more (c.insert.ensures.held s n more (own_come (goal.at.returns-clause-holds c).After-flush s n more may low)) few

pub returns-clause-shots : goal.returns-clause-shots
returns-clause-shots c = λ s n more may low few scopes.
    let id = c.args.id in let own = c.args.own.now in let old = c.args.self.now in let flushed = c.flush.ensures in let come = c.insert.ensures in
    let ls = c.args.latches.now in let g = c.shows_writes-global.result in let l = c.shows_writes-local.result in
    subst (AreShots c.take_shots.result)
    (same-captured g (captures ls Global Write) (captures ls Global Read) l (captures ls Local Write) (captures ls Local Read) s
    (c.shows_writes-global.ensures s n may.has.holds) (c.shows_writes-local.ensures s n may.has.holds))
    (rw (sym c.has_write-global_write.ensures, sym c.has_write-local_write.ensures)
    (c.take_shots.ensures.shots (inserted (own_from id c.args.lane 0 own) s) s n more
    (come.held s n more (own_come (goal.at.returns-clause-shots c).After-flush s n more may low)) few
    (each-own id c.args.lane 0 own s (
      each-upto id s.global_reads low.0,
      each-upto id s.global_writes low.1,
      each-upto id s.local_reads low.2,
      each-upto id s.local_writes low.3,
    ))
    (writes-in c.insert.new.self id (writer_of old Global) (writer_of old Local) c.has_write-global_write.result c.has_write-local_write.result
    (come.writers.0 ∙ flushed.writers.0) (come.writers.1 ∙ flushed.writers.1))
    (without-own id c.args.lane 0 own s low) scopes))
