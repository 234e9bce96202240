use Rattle.std.proofs.Common.{◌≡◌, ℕ, suc, List, length, ◌∙◌}
use Rattle.span_key.specs.declared.scopes.Scope.{Scope}
use Rattle.latch_model.specs.Histories.{Begin, open_begins}
use Rattle.latch_model.specs.declared.history.Entry.{Entry}
use Rattle.latch_model.specs.declared.history.Sizes.{Sizes}
use Rattle.held_latches.specs.Holding.{HasSpare, HoldsOwn, free_of, writer_of}
use Rattle.held_latches.specs.Taking.{OnlyOwn}
use Rattle.history_latches.specs.Logs.{IsBeginOf, MayEnd}
use Rattle.history_latches.proofs.Ends.{can_remove, few_held, keeps_ended}
use Rattle.history_latches.proofs.Spare.{all_spare, most_spare}
use Rattle.history_latches.proofs.Listing.{lists_in}
use Rattle.history_latches.proofs.Writers.{both_scopes}
use Rattle.history_latches.proofs.latches.HistoryLatches.end.Goals as goal
use Rattle.history_latches.proofs.latches.HistoryLatches.end.Goals.{After-to_hold}

-- What is held once the shots came back, and that the request's own latches can go.
record CameBack (c : After-to_hold) (log : List Entry) : Type 0 where
  out : ℕ
  less : length (open_begins log) ≡ suc out
  spare : HasSpare c.take_back.new.self (lists_in log) out (free_of c.args.self.now.held)
  own : HoldsOwn (lists_in log) c.args.id c.args.lane c.to_hold.result.now 0
  only : OnlyOwn (lists_in log) c.args.id c.to_hold.result.now

came_back : (c : After-to_hold) (log : List Entry) (sizes : Sizes) (e : Entry) (b : Begin) → MayEnd c.args.self.now log sizes e b →
    IsBeginOf b c.args.id c.args.lane c.args.latches.now c.args.mode → CameBack c log
came_back c log sizes e b may is =
    let h = c.args.self.now in
    let back = c.take_back.ensures.holds (lists_in log) (length (open_begins log)) (free_of h.held)
    (all_spare h.held (lists_in log) (length (open_begins log)) may.keeps.holds) in
    let own = can_remove h log sizes e b may c.args.id c.args.lane c.args.latches.now c.args.mode is c.to_hold.result.now c.to_hold.ensures in
    record { out = back.0; less = back.1; spare = back.2; own = own.0; only = own.1 }

pub take_back-requires-clause-holds : goal.take_back-requires-clause-holds
take_back-requires-clause-holds c =
    let (log, sizes, e, b, may, is) = c.requires.may in (lists_in log, length (open_begins log), may.keeps.holds)

pub remove-requires-clause-held : goal.remove-requires-clause-held
remove-requires-clause-held c =
    let (log, sizes, e, b, may, is) = c.requires.may in
    let back = came_back (goal.at.remove-requires-clause-held c).After-to_hold log sizes e b may is in
    (lists_in log, back.out, back.spare.holds, back.own, back.only)

pub remove-requires-clause-few : goal.remove-requires-clause-few
remove-requires-clause-few c =
    let (log, sizes, e, b, may, is) = c.requires.may in
    few_held c.args.self.now log sizes e b may c.args.id c.args.lane c.args.latches.now c.args.mode is c.to_hold.result.now c.to_hold.ensures

pub returns-clause-holds : goal.returns-clause-holds
returns-clause-holds c = λ log sizes e b may is.
    let h = c.args.self.now in
    let back = came_back (goal.at.returns-clause-holds c).After-to_hold log sizes e b may is in
    let before = c.take_back.ensures in
    let now = c.remove.ensures in
    keeps_ended h log sizes e b may c.args.id is.id_is (record { held = c.remove.new.self }) back.out back.less
    (now.held (lists_in log) back.out (free_of h.held) back.spare back.own back.only).holds
    (now.table.2 ∙ before.table.2, now.table.1 ∙ before.table.1)
    (both_scopes (λ (s : Scope). writer_of c.remove.new.self s ≡ writer_of h.held s) (now.writers.0 ∙ before.writers.0) (now.writers.1 ∙ before.writers.1))

pub returns-clause-free : goal.returns-clause-free
returns-clause-free c =
    let (log, sizes, e, b, may, is) = c.requires.may in
    let back = came_back (goal.at.returns-clause-free c).After-to_hold log sizes e b may is in
    most_spare _ _ _ _ (c.remove.ensures.held (lists_in log) back.out (free_of c.args.self.now.held) back.spare back.own back.only)
