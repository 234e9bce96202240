use Rattle.std.proofs.Common.{[], ◌∙◌}
use Rattle.latch_model.specs.declared.latch.Mode.TheVariants.{Acquire, Optimistic, Look}
use Rattle.history_latches.specs.Example.{asked, one_begun, three_sizes, two_begun}
use Rattle.history_latches.specs.Logs.{MayBegin}
use Rattle.history_latches.proofs.ThreeRequests.{is_asked, may_begin_first, may_begin_second, may_look}
use Rattle.history_latches.proofs.tests.begin_three.Goals as goal
use Rattle.history_latches.proofs.tests.begin_three.Goals.{After-begin, After-begin-2}

-- behind one begin the second may come, and behind two the look
second_may : (c : After-begin) → MayBegin c.begin.new.self (one_begun c.args.first.now) three_sizes (asked 2 1 Optimistic c.args.second.now)
second_may c =
    let f = c.args.first.now in let l = c.args.second.now in let m = c.args.look.now in let one = c.requires.one in
    let may = may_begin_first f l m one c.args.latches.now c.requires.holds in
    may_begin_second f l m one c.begin.new.self (c.begin.ensures.holds [] three_sizes (asked 1 0 Acquire f) may (is_asked 1 0 Acquire f))

look_may : (c : After-begin-2) → MayBegin c.begin.new.self (one_begun c.args.first.now) three_sizes (asked 2 1 Optimistic c.args.second.now) →
    MayBegin c.begin-2.new.self (two_begun c.args.first.now c.args.second.now) three_sizes (asked 3 2 Look c.args.look.now)
look_may c may =
    let f = c.args.first.now in let l = c.args.second.now in let m = c.args.look.now in
    may_look f l m c.requires.one c.begin-2.new.self
    (c.begin-2.ensures.holds (one_begun f) three_sizes (asked 2 1 Optimistic l) may (is_asked 2 1 Optimistic l))

pub begin-requires-clause-may : goal.begin-requires-clause-may
begin-requires-clause-may c =
    let f = c.args.first.now in (
      [],
      three_sizes,
      asked 1 0 Acquire f,
      may_begin_first f c.args.second.now c.args.look.now c.requires.one c.args.latches.now c.requires.holds,
      is_asked 1 0 Acquire f,
    )

pub begin-requires-2-clause-may : goal.begin-requires-2-clause-may
begin-requires-2-clause-may c =
    let l = c.args.second.now in
    (one_begun c.args.first.now, three_sizes, asked 2 1 Optimistic l, second_may (goal.at.begin-requires-2-clause-may c).After-begin, is_asked 2 1 Optimistic l)

pub begin-requires-3-clause-may : goal.begin-requires-3-clause-may
begin-requires-3-clause-may c =
    let m = c.args.look.now in
    let at = goal.at.begin-requires-3-clause-may c in
    (two_begun c.args.first.now c.args.second.now, three_sizes, asked 3 2 Look m, look_may at.After-begin-2 (second_may at.After-begin), is_asked 3 2 Look m)

pub returns-clause-holds : goal.returns-clause-holds
returns-clause-holds c =
    let m = c.args.look.now in
    let at = goal.at.returns-clause-holds c in
    c.begin-3.ensures.holds (two_begun c.args.first.now c.args.second.now) three_sizes (asked 3 2 Look m)
    (look_may at.After-begin-2 (second_may at.After-begin)) (is_asked 3 2 Look m)

pub returns-clause-first : goal.returns-clause-first
returns-clause-first c =
    let f = c.args.first.now in
    let may = may_begin_first f c.args.second.now c.args.look.now c.requires.one c.args.latches.now c.requires.holds in
    (c.begin.ensures.shots_table ∙ c.requires.table, _, c.begin.ensures.shots [] three_sizes (asked 1 0 Acquire f) may (is_asked 1 0 Acquire f))

pub returns-clause-second : goal.returns-clause-second
returns-clause-second c =
    let l = c.args.second.now in
    let may = second_may (goal.at.returns-clause-second c).After-begin in (
      c.begin-2.ensures.shots_table ∙ (c.begin.ensures.table ∙ c.requires.table),
      _,
      c.begin-2.ensures.shots (one_begun c.args.first.now) three_sizes (asked 2 1 Optimistic l) may (is_asked 2 1 Optimistic l),
    )

pub returns-clause-look : goal.returns-clause-look
returns-clause-look c =
    let m = c.args.look.now in
    let at = goal.at.returns-clause-look c in
    let may = look_may at.After-begin-2 (second_may at.After-begin) in (
      c.begin-3.ensures.shots_table ∙ (c.begin-2.ensures.table ∙ (c.begin.ensures.table ∙ c.requires.table)),
      _,
      c.begin-3.ensures.shots (two_begun c.args.first.now c.args.second.now) three_sizes (asked 3 2 Look m) may (is_asked 3 2 Look m),
    )
