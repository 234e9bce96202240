use Rattle.std.proofs.Common.{ap}
use Rattle.signal_board.specs.Rule.{open_count}
use Rattle.signal_board.specs.Says.{PassSays}
use Rattle.sequence_core.proofs.Passes.{fresh_front, fresh_last}
use Rattle.replay_rows.proofs.managers.two_sessions.Goals as goal

pub returns-clause-one : goal.returns-clause-one
returns-clause-one g c =
    let table = c.in-Ok.made.0.board.table in
    let front = fresh_front table 1 c.in-Ok.made.2.items c.taken-two.new.passes.items c.taken-two.result c.in-Ok.ensures.passes c.taken-two.ensures in
    let is = fresh_last table 0 c.taken-two.new.passes.items c.taken-one.new.passes.items c.taken-one.result front c.taken-one.ensures in
    (ap (λ (p : PassSays). p.table) is, ap (λ (p : PassSays). open_count p.p.mine) is, ap (λ (p : PassSays). p.p.who) is)

pub returns-clause-two : goal.returns-clause-two
returns-clause-two g c =
    let table = c.in-Ok.made.0.board.table in
    let is = fresh_last table 1 c.in-Ok.made.2.items c.taken-two.new.passes.items c.taken-two.result c.in-Ok.ensures.passes c.taken-two.ensures in
    (ap (λ (p : PassSays). p.table) is, ap (λ (p : PassSays). open_count p.p.mine) is, ap (λ (p : PassSays). p.p.who) is)
