use Rattle.std.proofs.Common.{[], ◌∷◌, ◌++◌, List, ◌∙◌, ap}
use Rattle.signal_board.specs.Says.{PassSays}
use Rattle.sequence_core.proofs.sessions.in_a_list.Goals as goal

pub returns : goal.returns
returns g c =
    let push : PassSays → List PassSays → List PassSays = λ p l. l ++ p ∷ [] in
    c.put-4.ensures.items
    ∙ ap (push c.args.four) (c.put-3.ensures.items
    ∙ ap (push c.args.three) (c.put-2.ensures.items
    ∙ ap (push c.args.two) (c.put.ensures.items ∙ ap (push c.args.one) c.room-passes.ensures.items)))
