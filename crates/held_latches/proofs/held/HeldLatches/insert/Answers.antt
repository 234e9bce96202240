use Rattle.std.proofs.Common.{◌≡◌, ◌+◌, ◌-◌, length, refl, ◌∙◌, subst, arith}
use Rattle.held_latches.specs.Holding.{MayInsert}
use Rattle.held_latches.proofs.Inserting.{came-all, came-from, came-may, came-next, came-none}
use Rattle.held_latches.proofs.held.HeldLatches.insert.Goals as goal

pub loop-passed-init : goal.loop-passed-init
loop-passed-init c = record {
  table = refl;
  slots = refl;
  size = refl;
  writers = (refl, refl);
  came = λ s n more m. came-none c.args.self.now s n more c.args.id c.args.lane (length c.args.latches.now - 0) c.args.latches.now (omega arith) m;
}

pub insert_one-requires-clause-table : goal.insert_one-requires-clause-table
insert_one-requires-clause-table c = c.loop-passed.invariant.table ∙ c.requires.table

pub insert_one-requires-clause-may : goal.insert_one-requires-clause-may
insert_one-requires-clause-may c =
    let (s, n, more, m) = c.requires.may in
    came-may c.loop-passed.self s n more c.args.id c.args.lane (length c.args.latches.now - c.loop-passed.passed)
    (length c.args.latches.now - 1 - c.loop-passed.passed) c.args.latches.now
    (let a = c.loop-passed-test.true in omega arith) (c.loop-passed.invariant.came s n more m)

pub loop-passed-preserved : goal.loop-passed-preserved
loop-passed-preserved c = record {
  table = c.insert_one.ensures.table.0 ∙ c.loop-passed.invariant.table;
  slots = c.insert_one.ensures.table.1 ∙ c.loop-passed.invariant.slots;
  size = c.insert_one.ensures.table.2 ∙ c.loop-passed.invariant.size;
  writers = (c.insert_one.ensures.writers.0 ∙ c.loop-passed.invariant.writers.0, c.insert_one.ensures.writers.1 ∙ c.loop-passed.invariant.writers.1);
  came = λ s n more m.
      let place = length c.args.latches.now - 1 - c.loop-passed.passed in
      let next : place ≡ length c.args.latches.now - (c.loop-passed.passed + 1) = (let a = c.loop-passed-test.true in omega arith) in
      subst (λ z. MayInsert c.insert_one.new.self (came-from c.args.id c.args.lane z c.args.latches.now s) n more c.args.id c.args.lane z) next
      (came-next c.loop-passed.self c.insert_one.new.self s n more c.args.id c.args.lane (length c.args.latches.now - c.loop-passed.passed) place
      c.args.latches.now c.index-latches-place.result (let a = c.loop-passed-test.true in omega arith) (let a = c.loop-passed-test.true in omega arith)
      c.index-latches-place.is (c.loop-passed.invariant.came s n more m) (λ t k. c.insert_one.ensures.held t k more));
}

pub returns-clause-held : goal.returns-clause-held
returns-clause-held c = λ s n more m.
    came-all c.loop-passed.self s n more c.args.id c.args.lane (length c.args.latches.now - c.loop-passed.passed) c.args.latches.now
    (let a = c.loop-passed-test.false in omega arith) (c.loop-passed.invariant.came s n more m)
