use Rattle.std.proofs.Common.{◌≡◌, ℕ, false, List, sym, ◌∙◌, ap, subst}
use Rattle.latch_model.specs.Histories.{is_open}
use Rattle.latch_model.specs.Legal.{IsLegal}
use Rattle.latch_model.specs.Recorded.{Recorded}
use Rattle.latch_model.specs.declared.history.Entry.{Entry}
use Rattle.script.specs.Follows.{FollowsScript}
use Rattle.signal_board.specs.Rule.{ByGiven}
use Rattle.replay.specs.Running.{program_sizes}
use Rattle.replay.proofs.Closing.{each-pass, follows-script}
use Rattle.replay.proofs.LegalSizes.{legal_at}
use Rattle.replay.proofs.run.finish.Goals as goal
use Rattle.replay.proofs.run.finish.Goals.{After-entries}

pub close-requires-clause-passes : goal.close-requires-clause-passes
close-requires-clause-passes c =
    each-pass 64 c.args.passes.items c.requires.whos c.args.desk (c.known.ensures.given ∙ c.requires.room.lanes) c.requires.rested

-- the entries that come out are the desk's
whole : (c : After-entries) → c.entries.inside.entries.items ≡ c.args.desk.log
whole c = ap (λ (h : Recorded). h.entries) (c.entries.view_is ∙ c.close.ensures.history)

pub returns-clause-legal : goal.returns-clause-legal
returns-clause-legal c =
    subst (λ (h : List Entry). IsLegal h program_sizes) (sym (whole c))
    (legal_at c.args.desk.log c.args.desk.sizes program_sizes c.requires.room.latches c.requires.room.lanes c.close.ensures.legal)

pub returns-clause-closed : goal.returns-clause-closed
returns-clause-closed c = subst (λ (h : List Entry). (id : ℕ) → is_open h id ≡ false) (sym (whole c)) c.close.ensures.closed

pub returns-clause-follows : goal.returns-clause-follows
returns-clause-follows c cs script follows =
    subst (λ (h : List Entry). FollowsScript h cs) (sym (whole c))
    (follows-script 64 c.args.passes.items c.requires.whos c.args.desk.core.signals c.args.desk.log cs script c.requires.rested follows c.close.ensures.own
    c.close.ensures.shown
    (subst (ByGiven c.args.desk.log) (c.known.ensures.given ∙ c.requires.room.lanes) c.close.ensures.by_given) (λ w le. le))
