use Rattle.std.proofs.Common.{◌≡◌, [], ◌∷◌, ◌++◌, List, ◌∙◌, ap, sym, subst}
use Rattle.signal_board.specs.Says.{PassSays}
use Rattle.latch_manager.specs.Making.{HasAllPasses}
use Rattle.replay_rows.proofs.Passes.{all_two}
use Rattle.replay_rows.proofs.managers.close_two.Goals as goal

pub close-requires : goal.close-requires
close-requires g c =
    let one = c.args.one in
    let two = c.args.two in
    let items : c.put-2.new.passes.items ≡ one ∷ two ∷ [] =
    c.put-2.ensures.items
    ∙ ap (λ (l : List PassSays). l ++ two ∷ []) (c.put.ensures.items ∙ ap (λ (l : List PassSays). l ++ one ∷ []) c.room-passes.ensures.items) in
    subst (HasAllPasses g.N.Making.made) (sym items) (all_two g.N.Making.made one two c.requires.lanes c.requires.one c.requires.two)
