use Rattle.std.proofs.Common.{◌≡◌, ◌*◌, ◌-◌, cond, List, length, sym, subst, arith}
use Rattle.span_key.specs.declared.scopes.Scope.{Scope}
use Rattle.latch_model.specs.Histories.{Begin, Snapshot, captures, latches_held, open_begins}
use Rattle.latch_model.specs.declared.history.Entry.{Entry}
use Rattle.latch_model.specs.declared.history.Sizes.{Sizes}
use Rattle.latch_model.specs.declared.latch.Access.TheVariants.{Read}
use Rattle.latch_shots.specs.Shots.{AreShots}
use Rattle.held_latches.specs.Holding.{MayInsert, free_of, writer_of}
use Rattle.history_latches.specs.Logs.{IsBeginOf, MayBegin, to_hold}
use Rattle.history_latches.proofs.Begins.{can_insert, each_above, few_seats, keeps_begun, shot_is}
use Rattle.history_latches.proofs.Listing.{in_scopes, lists_in}
use Rattle.history_latches.proofs.Spare.{most_spare}
use Rattle.history_latches.proofs.Writers.{both_scopes}
use Rattle.history_latches.proofs.latches.HistoryLatches.begin.Goals as goal
use Rattle.history_latches.proofs.latches.HistoryLatches.begin.Goals.{After-to_hold}

-- the request's own latches can come
own_come : (c : After-to_hold) (log : List Entry) (sizes : Sizes) (b : Begin) → MayBegin c.args.self.now log sizes b →
    IsBeginOf b c.args.id c.args.lane c.args.latches.now c.args.mode →
    MayInsert c.args.self.now.held (lists_in log) (length (open_begins log))
    (free_of c.args.self.now.held - 13 * length (to_hold c.args.mode c.args.latches.now)) c.args.id c.args.lane (length c.to_hold.result.now)
own_come c log sizes b may is =
    can_insert c.args.self.now log sizes b may c.args.id c.args.lane c.args.latches.now c.args.mode is c.to_hold.result.now c.to_hold.ensures c.requires.room

pub begin-requires-clause-may : goal.begin-requires-clause-may
begin-requires-clause-may c =
    let h = c.args.self.now in
    let (log, sizes, b, may, is) = c.requires.may in (
      lists_in log,
      length (open_begins log),
      _,
      own_come (goal.at.begin-requires-clause-may c).After-to_hold log sizes b may is,
      each_above h log sizes b may c.args.id is.id_is,
      few_seats h log sizes b may,
    )

pub returns-clause-holds : goal.returns-clause-holds
returns-clause-holds c = λ log sizes b may is.
    let h = c.args.self.now in
    let begun = c.begin.ensures in
    keeps_begun h log sizes b may c.args.id c.args.lane c.args.latches.now c.args.mode is (record { held = c.begin.new.self }) c.to_hold.result.now
    c.to_hold.ensures
    (begun.holds _ _ _ (own_come (goal.at.returns-clause-holds c).After-to_hold log sizes b may is) (each_above h log sizes b may c.args.id is.id_is)
    (few_seats h log sizes b may)).holds
    (begun.table.2, begun.table.1)
    (both_scopes (λ (s : Scope). writer_of c.begin.new.self s ≡ cond (captures c.args.latches.now s Read) c.args.id (writer_of h.held s))
    begun.writers.0 begun.writers.1)

pub returns-clause-shots : goal.returns-clause-shots
returns-clause-shots c = λ log sizes b may is.
    let h = c.args.self.now in
    subst (λ (s : Snapshot). AreShots c.begin.result s) (sym (shot_is h log sizes b may c.args.latches.now is.latches_are))
    (c.begin.ensures.shots (lists_in log) (length (open_begins log)) _ (own_come (goal.at.returns-clause-shots c).After-to_hold log sizes b may is)
    (each_above h log sizes b may c.args.id is.id_is) (few_seats h log sizes b may) (in_scopes (latches_held log)))

pub returns-clause-free : goal.returns-clause-free
returns-clause-free c =
    let h = c.args.self.now in
    let (log, sizes, b, may, is) = c.requires.may in
    let most = most_spare _ _ _ _ (c.begin.ensures.holds _ _ _ (own_come (goal.at.returns-clause-free c).After-to_hold log sizes b may is)
    (each_above h log sizes b may c.args.id is.id_is) (few_seats h log sizes b may)) in
    omega arith
