use Rattle.std.proofs.Common.{ℕ, ◌≤◌, length, arith, sym, subst}
use Rattle.script.specs.Follows.{blocks_of}
use Rattle.signal_board.specs.Says.{PassSays}
use Rattle.replay.specs.Running.{IsAt, NoneBetween}
use Rattle.replay.specs.Sessions.{Idle, Standing}
use Rattle.replay.proofs.Owning.{at-next, idle-at_end, own-at, stands-at_end}
use Rattle.replay.proofs.session.run_commands.Goals as goal

-- Behind the commands of others the session stands as in front of them.
pub run_own-requires-clause-at : goal.run_own-requires-clause-at
run_own-requires-clause-at g c κs within =
    let cs = c.args.commands.now in
    let core = g.N.Making.made.core in
    let next = c.in-Some.ensures.next in
    let size = c.requires.sessions.size in
    let below = c.in-Some.ensures.inside in
    let inside : c.in-Some.own ≤ length cs = omega arith in
    subst (λ (n : ℕ). IsAt cs core n c.in-Some.own c.loop-own.pass c.loop-own.live c.loop-own.hand) (sym c.who-who.ensures)
    (at-next cs c.requires.script c.args.sessions.now c.requires.sessions core c.args.pass.now.p.who c.requires.fresh.3 c.loop-own.pass c.loop-own.live
    c.loop-own.hand c.loop-own.from c.loop-own.invariant.1 c.in-Some.own next.0 inside
    (subst (λ (n : ℕ). NoneBetween c.args.sessions.now n c.loop-own.from c.in-Some.own) c.who-who.ensures next.2))

pub run_own-requires-clause-own : goal.run_own-requires-clause-own
run_own-requires-clause-own g c κs within =
    let low = subst (λ (n : ℕ). 1 ≤ n) (sym c.who-who.ensures) c.requires.fresh.3 in
    λ d at. own-at c.args.commands.now c.args.sessions.now c.who-who.result c.in-Some.own c.requires.sessions low c.in-Some.ensures.next.1 d at

-- The list has no more of its commands, so it stands at the end.
pub returns-clause-stands : goal.returns-clause-stands
returns-clause-stands g c =
    let cs = c.args.commands.now in
    let core = g.N.Making.made.core in
    let who = c.args.pass.now.p.who in
    let at = at-next cs c.requires.script c.args.sessions.now c.requires.sessions core who c.requires.fresh.3 c.loop-own.pass c.loop-own.live
    c.loop-own.hand c.loop-own.from c.loop-own.invariant.1 (length cs) c.loop-own.invariant.0 (omega arith)
    (subst (λ (n : ℕ). NoneBetween c.args.sessions.now who c.loop-own.from n) c.requires.sessions.size
    (subst (λ (n : ℕ). NoneBetween c.args.sessions.now n c.loop-own.from (length c.args.sessions.now)) c.who-who.ensures c.in_default.ensures.next)) in
    subst (λ (p : PassSays). Standing core p.p (blocks_of cs who) Idle)
    (sym (c.release.ensures.same (idle-at_end cs c.requires.script core who c.loop-own.pass c.loop-own.live c.loop-own.hand at)))
    (stands-at_end cs c.requires.script core who c.loop-own.pass c.loop-own.live c.loop-own.hand at)
