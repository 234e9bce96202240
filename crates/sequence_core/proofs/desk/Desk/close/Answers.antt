use Rattle.std.proofs.Common.{rules, ◌≡◌, ℕ, [], List, false, ◌∙◌, ap, sym, subst}
use Rattle.std.proofs.lemmas.List.{nil_from_length}
use Rattle.latch_model.specs.Histories.{is_open, open_begins}
use Rattle.latch_model.specs.Legal.{IsLegal}
use Rattle.latch_model.specs.declared.history.Entry.{Entry}
use Rattle.latch_model.specs.declared.history.Sizes.{Sizes}
use Rattle.signal_board.specs.Rule.{ByGiven, IsPrefix, own}
use Rattle.signal_board.specs.Says.{DeskSays}
use Rattle.sequence_core.specs.Says.{DeskState}
use Rattle.sequence_core.proofs.Closing.{all_closed, all_kept, each_kept, retires_next}
use Rattle.sequence_core.proofs.desk.Desk.close.Goals as goal

pub loop-pass-preserved : goal.loop-pass-preserved
loop-pass-preserved c =
    retires_next c.args.core.board.table c.self.inside.seat c.args.passes.items c.loop-pass.seat c.loop-pass.passes.items c.loop-pass.invariant
    c.pop.new.self.items c.in-Some.pass c.retire.new.desk c.in-Some.ensures.items c.retire.ensures.desk

pub close-requires-clause-retired : goal.close-requires-clause-retired
close-requires-clause-retired c =
    let none : c.loop-pass.passes.items ≡ [] = nil_from_length c.loop-pass.passes.items (search rules) in
    let given = sym (ap (λ (d : DeskSays). d.given) c.loop-pass.invariant.seat_is ∙ ap (λ (d : DeskState). d.given) c.self.view_is) in
    each_kept c.args.core.board.table c.self.inside.seat c.args.passes.items c.loop-pass.seat c.loop-pass.passes.items c.loop-pass.invariant
    none c.args.self given c.requires.passes

pub returns-clause-legal : goal.returns-clause-legal
returns-clause-legal c =
    let log = ap (λ (d : DeskSays). d.log) c.loop-pass.invariant.seat_is ∙ ap (λ (d : DeskState). d.log) c.self.view_is in
    let sizes =
    ap (λ (d : DeskSays). d.sizes) c.loop-pass.invariant.seat_is ∙ (c.self.invariant.same_sizes ∙ ap (λ (d : DeskState). d.sizes) c.self.view_is) in
    subst (λ (x : List Entry × Sizes). IsLegal x.0 x.1) (λ i. (log i, sizes i)) c.close.ensures.legal

pub returns-clause-closed : goal.returns-clause-closed
returns-clause-closed c =
    let log = ap (λ (d : DeskSays). d.log) c.loop-pass.invariant.seat_is ∙ ap (λ (d : DeskState). d.log) c.self.view_is in
    subst (λ (l : List Entry). (id : ℕ) → is_open l id ≡ false) log c.close.ensures.closed

pub returns-clause-own : goal.returns-clause-own
returns-clause-own c p there =
    let none : c.loop-pass.passes.items ≡ [] = nil_from_length c.loop-pass.passes.items (search rules) in
    let log = ap (λ (d : DeskSays). d.log) c.loop-pass.invariant.seat_is ∙ ap (λ (d : DeskState). d.log) c.self.view_is in
    c.close.ensures.own p.p (all_kept c.args.core.board.table c.self.inside.seat c.args.passes.items c.loop-pass.seat c.loop-pass.passes.items
    c.loop-pass.invariant none p there)
    ∙ ap (own p.p.who) log

pub returns-clause-shown : goal.returns-clause-shown
returns-clause-shown c p there =
    let none : c.loop-pass.passes.items ≡ [] = nil_from_length c.loop-pass.passes.items (search rules) in
    let log = ap (λ (d : DeskSays). d.log) c.loop-pass.invariant.seat_is ∙ ap (λ (d : DeskState). d.log) c.self.view_is in
    subst (λ (l : List Entry). IsPrefix p.p.shown l) log
    (c.close.ensures.shown p.p (all_kept c.args.core.board.table c.self.inside.seat c.args.passes.items c.loop-pass.seat c.loop-pass.passes.items
    c.loop-pass.invariant none p there))

pub returns-clause-by_given : goal.returns-clause-by_given
returns-clause-by_given c =
    let log = ap (λ (d : DeskSays). d.log) c.loop-pass.invariant.seat_is ∙ ap (λ (d : DeskState). d.log) c.self.view_is in
    let given = ap (λ (d : DeskSays). d.given) c.loop-pass.invariant.seat_is ∙ ap (λ (d : DeskState). d.given) c.self.view_is in
    subst (λ (x : List Entry × ℕ). ByGiven x.0 x.1) (λ i. (log i, given i)) c.close.ensures.by_given

pub close-requires-2-clause-holds : goal.close-requires-2-clause-holds
close-requires-2-clause-holds c =
    let log = ap (λ (d : DeskSays). d.log) c.loop-pass.invariant.seat_is in
    let rests = c.self.invariant in
    (c.self.inside.seat.log, c.self.inside.sizes, rests.kept.holds, ap open_begins (sym log) ∙ all_closed c.loop-pass.seat.log c.close.ensures.closed)
