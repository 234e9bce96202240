use Rattle.std.proofs.Common.{◌≡◌, ◌∙◌, true, false, not, sym, ap, subst, arith}
use Rattle.std.specs.List.{Any}
use Rattle.latch_model.specs.declared.latch.Latch.{Latch}
use Rattle.latch_model.specs.Checks.{is_declared}
use Rattle.latch_model.specs.Latches.{LiesInLatch}
use Rattle.waiter.proofs.Firsts.{one_more, position_found, position_none}
use Rattle.waiter.proofs.optimist.undeclared.Goals as goal

pub returns-then-not-is_declared-clause-first : goal.returns-then-not-is_declared-clause-first
returns-then-not-is_declared-clause-first c =
    let declared = c.args.declared.now in
    let xs = c.args.asked.now in
    let x = c.index-asked-k.result in
    let here : c.is_declared.result ≡ false = c.if-not-is_declared.true in
    let none : not (is_declared declared x) ≡ true = ap not (sym c.is_declared.ensures.test ∙ here) in
    sym (position_found (λ (l : Latch). not (is_declared declared l)) xs c.loop-k.k x c.loop-k-test.true (λ j less. c.loop-k.invariant.first j x less)
    (subst (λ (l : Latch). not (is_declared declared l) ≡ true) c.index-asked-k.is none))

pub loop-k-preserved : goal.loop-k-preserved
loop-k-preserved c =
    let declared = c.args.declared.now in
    let xs = c.args.asked.now in
    let x = c.index-asked-k.result in
    let here : c.is_declared.result ≡ true = c.if-not-is_declared.false in
    record {
      first = one_more (λ (l : Latch). not (is_declared declared l) ≡ false) xs c.loop-k.k x c.loop-k-test.true c.index-asked-k.is
          (ap not (sym c.is_declared.ensures.test ∙ here)) c.loop-k.invariant.first;
      lie = one_more (λ (l : Latch). Any (LiesInLatch l) declared) xs c.loop-k.k x c.loop-k-test.true c.index-asked-k.is
          (c.is_declared.ensures.fact here) c.loop-k.invariant.lie;
    }

pub returns-clause-first : goal.returns-clause-first
returns-clause-first c =
    let declared = c.args.declared.now in
    let past = c.loop-k-test.false in
    sym (position_none (λ (l : Latch). not (is_declared declared l)) c.args.asked.now (λ j d less. c.loop-k.invariant.first j d (omega arith)))
