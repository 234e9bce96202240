use Rattle.std.proofs.Common.{[], ◌∷◌, sym, subst, ◌∙◌}
use Rattle.row_pool.specs.SeatState.{SeatState}
use Rattle.row_pool.specs.TestSeats.{Holding}
use Rattle.row_pool.proofs.changes_in_place.alone_below.Goals as goal

pub word_below-word-requires : goal.word_below-word-requires
word_below-word-requires c =
    let g = c.requires.stand in
    let h = c.change_below-changed.ensures.stand g.0 g.1 [] g.2 g.3 g.4 in
    record { stand = (c.args.leaf, h.0, h.1, [], g.2, h.2, h.3) }

pub drop_one-requires : goal.drop_one-requires
drop_one-requires c =
    let g = c.requires.stand in
    let h = c.change_below-changed.ensures.stand g.0 g.1 [] g.2 g.3 g.4 in
    let held = subst (λ (z : SeatState). Holding c.args.rows.now z c.args.chain.now (h.0 ∷ []) g.2) (sym c.word_below-word.ensures.same) h.2 in
    record { stand = (h.0, [], g.2, held, h.3.here) }

pub returns-clause-stand : goal.returns-clause-stand
returns-clause-stand c =
    let g = c.requires.stand in
    let h = c.change_below-changed.ensures.stand g.0 g.1 [] g.2 g.3 g.4 in
    let held = subst (λ (z : SeatState). Holding c.args.rows.now z c.args.chain.now (h.0 ∷ []) g.2) (sym c.word_below-word.ensures.same) h.2 in
    c.drop_one.ensures.stand h.0 [] g.2 h.3.here held

pub returns-clause-word : goal.returns-clause-word
returns-clause-word c = λ changed.
    let g = c.requires.stand in
    let h = c.change_below-changed.ensures.stand g.0 g.1 [] g.2 g.3 g.4 in
    c.word_below-word.ensures.word c.args.leaf h.0 h.1 [] g.2 h.2 h.3 ∙ h.4 changed
