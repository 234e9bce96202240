use Rattle.std.proofs.Common.{ap, sym, subst}
use Rattle.latch_shots.specs.Shots.{number_of, table_of}
use Rattle.waiter.specs.Met.{held_of, last_of}
use Rattle.waiter.specs.Says.{MayAbandon, ShowsLast, WaitingSays}
use Rattle.waiter.proofs.Keeping.{is_back, may_fault}
use Rattle.waiter.proofs.waiting.Waiting.abandon.Goals as goal

pub invariant_of-ending : goal.invariant_of-ending
invariant_of-ending c =
    let g = c.self.invariant in
    let w = c.self.inside in
    record {
      who_is = g.who_is;
      mode_is = g.mode_is;
      request_is = g.request_is;
      given = tt;
      fault_given = may_fault (record { signals = w.seat.table; rows = table_of w.shots }) w.seat.r w.turns (last_of w.stage (held_of w.met)) c.args.fault
          g.given
          (subst (λ (x : WaitingSays). MayAbandon x c.args.fault) (sym c.self.view_is) c.requires.fault);
      back = is_back c.args.core.now.rows (number_of w.shots) c.close.result c.close.ensures;
    }

pub returns-clause-mark : goal.returns-clause-mark
returns-clause-mark c = subst (ShowsLast c.shown_mark-shown.result) (ap (λ (x : WaitingSays). x.last) c.self.view_is) c.shown_mark-shown.ensures
