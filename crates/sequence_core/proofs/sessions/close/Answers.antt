use Rattle.std.proofs.Common.{◌≡◌, [], ◌∷◌, ◌++◌, List, ◌∙◌, ap, sym, subst}
use Rattle.latch_model.specs.Legal.{IsLegal}
use Rattle.latch_model.specs.Recorded.{Recorded}
use Rattle.signal_board.specs.Says.{PassSays}
use Rattle.waiter.specs.Says.{CoreId}
use Rattle.sequence_core.specs.Says.{HasEachPass}
use Rattle.sequence_core.proofs.Passes.{has_two}
use Rattle.sequence_core.proofs.sessions.close.Goals as goal

pub close-requires-clause-passes : goal.close-requires-clause-passes
close-requires-clause-passes g c =
    let one = c.args.one in
    let two = c.args.two in
    let desk = c.requires.desk in
    let table = ap (λ (d : CoreId). d.signals) (sym desk.0) in
    let items : c.put-2.new.passes.items ≡ one ∷ two ∷ [] =
    c.put-2.ensures.items
    ∙ ap (λ (l : List PassSays). l ++ two ∷ []) (c.put.ensures.items ∙ ap (λ (l : List PassSays). l ++ one ∷ []) c.room-passes.ensures.items) in
    subst (HasEachPass c.args.desk) (sym items)
    (has_two c.args.desk one two desk.1
    (record { same = c.requires.one.0 ∙ table; number = c.requires.one.1; idle = c.requires.one.2 })
    (record { same = c.requires.two.0 ∙ table; number = c.requires.two.1; idle = c.requires.two.2 }))

pub returns : goal.returns
returns g c = subst (λ (h : Recorded). IsLegal h.entries h.sizes) (sym c.close.ensures.history) c.close.ensures.legal
