use Rattle.latch_model.specs.declared.latch.Mode.TheVariants.{Acquire, Optimistic, Look}
use Rattle.history_latches.specs.Example.{asked, ended, one_ended, three_begun, three_sizes, two_ended}
use Rattle.history_latches.specs.Logs.{MayEnd}
use Rattle.history_latches.proofs.ThreeRequests.{is_asked, may_end_first, may_end_look, may_end_second}
use Rattle.history_latches.proofs.tests.end_three.Goals as goal
use Rattle.history_latches.proofs.tests.end_three.Goals.{After-end, After-end-2}

-- behind one end the look may end, and behind two the second
look_may : (c : After-end) →
    MayEnd c.end.new.self (one_ended c.args.first.now c.args.second.now c.args.look.now) three_sizes (ended 3) (asked 3 2 Look c.args.look.now)
look_may c =
    let f = c.args.first.now in let l = c.args.second.now in let m = c.args.look.now in let one = c.requires.one in
    may_end_look f l m one c.end.new.self (c.end.ensures.holds (three_begun f l m) three_sizes (ended 1) (asked 1 0 Acquire f)
    (may_end_first f l m one c.args.latches.now c.requires.holds) (is_asked 1 0 Acquire f))

second_may : (c : After-end-2) →
    MayEnd c.end.new.self (one_ended c.args.first.now c.args.second.now c.args.look.now) three_sizes (ended 3) (asked 3 2 Look c.args.look.now) →
    MayEnd c.end-2.new.self (two_ended c.args.first.now c.args.second.now c.args.look.now) three_sizes (ended 2) (asked 2 1 Optimistic c.args.second.now)
second_may c may =
    let f = c.args.first.now in let l = c.args.second.now in let m = c.args.look.now in
    may_end_second f l m c.requires.one c.end-2.new.self (c.end-2.ensures.holds (one_ended f l m) three_sizes (ended 3) (asked 3 2 Look m) may
    (is_asked 3 2 Look m))

pub end-requires-clause-may : goal.end-requires-clause-may
end-requires-clause-may c =
    let f = c.args.first.now in let l = c.args.second.now in let m = c.args.look.now in
    let may = may_end_first f l m c.requires.one c.args.latches.now c.requires.holds in
    (three_begun f l m, three_sizes, ended 1, asked 1 0 Acquire f, may, is_asked 1 0 Acquire f)

pub end-requires-2-clause-may : goal.end-requires-2-clause-may
end-requires-2-clause-may c =
    let m = c.args.look.now in (
      one_ended c.args.first.now c.args.second.now m,
      three_sizes,
      ended 3,
      asked 3 2 Look m,
      look_may (goal.at.end-requires-2-clause-may c).After-end,
      is_asked 3 2 Look m,
    )

pub end-requires-3-clause-may : goal.end-requires-3-clause-may
end-requires-3-clause-may c =
    let l = c.args.second.now in
    let at = goal.at.end-requires-3-clause-may c in (
      two_ended c.args.first.now l c.args.look.now,
      three_sizes,
      ended 2,
      asked 2 1 Optimistic l,
      second_may at.After-end-2 (look_may at.After-end),
      is_asked 2 1 Optimistic l,
    )

pub returns-clause-holds : goal.returns-clause-holds
returns-clause-holds c =
    let l = c.args.second.now in
    let at = goal.at.returns-clause-holds c in
    c.end-3.ensures.holds (two_ended c.args.first.now l c.args.look.now) three_sizes (ended 2) (asked 2 1 Optimistic l)
    (second_may at.After-end-2 (look_may at.After-end)) (is_asked 2 1 Optimistic l)
