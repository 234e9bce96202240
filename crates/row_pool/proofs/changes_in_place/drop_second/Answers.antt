use Rattle.std.proofs.Common.{◌≢◌, suc, ◌∷◌, ap, sym, ◌∙◌, arith}
use lib.ListN.{get_elem?}
use Rattle.row_pool.specs.Trees.{tree_word}
use Rattle.row_pool.specs.Views.{by_ref}
use Rattle.row_pool.specs.SeatState.{kind_of}
use Rattle.row_pool.proofs.NewestRef.{without_tree-second}
use Rattle.row_pool.proofs.TestSeats.{first-up, stand-dropped}
use Rattle.row_pool.proofs.changes_in_place.drop_second.Goals as goal

pub returns-clause-stand : goal.returns-clause-stand
returns-clause-stand c = λ x t ts rs h is kinds.
    let r = c.args.row in
    let other : tree_word x ≢ suc r = λ z. kinds (ap kind_of (c.known.ensures.one x t (first-up c.args.seat.now.view x (t ∷ ts) h.refs)
    (by_ref 1 (ap (λ ts. get_elem? ts 1) h.refs)) (omega arith) (z ∙ sym is))) in
    stand-dropped c.args.rows.now c.args.seat.now c.drop_ref.new.seat c.args.chain.now c.drop_ref.new.chain r (x ∷ t ∷ ts) (x ∷ ts) rs
    (without_tree-second r x t ts other is) h c.drop_ref.ensures.same.0 c.drop_ref.ensures.refs c.drop_ref.ensures.chain
