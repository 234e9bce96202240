use Rattle.std.proofs.Common.{◌≡◌, ◌+◌, [], length, ◌∙◌, ap, arith}
use Rattle.signal_board.specs.Says.{DeskSays}
use Rattle.sequence_core.specs.Says.{fresh_pass}
use Rattle.sequence_core.proofs.Resting.{fresh_next, rests_first}
use Rattle.sequence_core.proofs.desk.furnish.Goals as goal

pub loop-given-preserved : goal.loop-given-preserved
loop-given-preserved c =
    let n = c.loop-given.given in
    let inv = c.loop-given.invariant in
    let given = c.requires.seat in
    let table = ap (λ (d : DeskSays). d.table) inv.seat ∙ ap (λ (d : DeskSays). d.table) given in
    let log : c.loop-given.seat.log ≡ [] = ap (λ (d : DeskSays). d.log) inv.seat ∙ ap (λ (d : DeskSays). d.log) given in
    let pass : c.enroll-pass.result ≡ fresh_pass c.args.board.table (n + 1) =
    c.enroll-pass.ensures.pass
    ∙ (λ i. record { table = table i; p = record { who = n + 1; seen = length (log i); shown = log i; mine = [] } }) in
    record {
      seat = c.enroll-pass.ensures.desk ∙ ap (λ (d : DeskSays). record d { given = n + 1 }) inv.seat;
      passes = fresh_next c.args.board.table n c.loop-given.passes.items c.push.new.self.items c.enroll-pass.result inv.passes c.in-Ok.ensures.items pass;
      room = omega (arith, c.in-Ok.ensures.capacity);
    }

pub invariant_of-result : goal.invariant_of-result
invariant_of-result c =
    let end : c.loop-given.given ≡ c.args.sizes.lanes = omega (arith, c.loop-given.auto.given-end, c.loop-given-test.false) in
    rests_first c.args.board.table c.loop-given.seat c.args.sizes c.args.kept c.requires.bounds
    (c.loop-given.invariant.seat
    ∙ (ap (λ (d : DeskSays). record d { given = c.loop-given.given }) c.requires.seat
    ∙ ap (λ m. record { table = c.args.board.table; sizes = c.args.sizes; log = []; given = m; retired = [] }) end))
    c.requires.kept
