use Rattle.std.proofs.Common.{List, [], ap, arith, length, sym, ℕ, ◌++◌, ◌∙◌, ◌∷◌, ◌≡◌}
use Rattle.row_pool.specs.Trees.{Tree, nil}
use Rattle.interval_tree.proofs.Frames.{spends-join, spends-others}
use Rattle.interval_tree.proofs.Rows.{back-cons}
use Rattle.tree_shrink.proofs.Descending.{Behind, behind-child, replaced-finishing}
use Rattle.tree_shrink.proofs.Lending.{chain-after}
use Rattle.tree_shrink.specs.Slots.{slot_links}
use Rattle.tree_shrink.specs.Stages.{Finishing, Replacing}
use Rattle.tree_shrink.proofs.descent.take_over.Goals as goal
use Rattle.tree_shrink.proofs.descent.take_over.Goals.{After-swap-item}

pub swap-item-requires-clause-link : goal.swap-item-requires-clause-link
swap-item-requires-clause-link c =
    let (h, n, xs, ps, zs, qs, it, m, R, low, p) = c.requires.state in
    let b = behind-child h c.args.seat.now.view c.args.row n c.args.child c.args.j xs ps zs qs it m c.args.last R p in
    (3, n, b.front, b.back, it, m, R, b.owns, b.place, (let a = c.requires.low in omega arith), b.refs, p.last_is, (let a = p.few in omega arith))

-- the last item of the child is in its place
swapped : (c : After-swap-item) → (h n : ℕ) (xs ps zs qs : List Tree) (it m : Tree) (R : List Tree)
    → (p : Replacing h c.args.seat.now.view c.args.row n c.args.child c.args.j xs ps zs qs it m c.args.last R)
    → (b : Behind h c.args.seat.now.view c.args.row n c.args.child c.args.j xs ps zs qs it m c.args.last R p)
    → Finishing h c.swap-item.new.seat.view c.args.row n c.args.child c.args.j xs ps zs (m ∷ b.ms) it c.swap-item.result
    × (c.swap-item.new.seat.view.refs ≡ it ∷ R)
swapped c h n xs ps zs qs it m R p b =
    let z = c.swap-item.ensures.node 3 n b.front b.back it m R b.owns b.place b.refs p.last_is in (
      replaced-finishing h c.args.seat.now.view c.swap-item.new.seat.view c.args.row n c.args.child c.args.j xs ps zs qs it m c.args.last c.swap-item.result
          R p b
          z.1 c.swap-item.ensures.others z.0,
      z.2 ∙ sym (back-cons it R b.fits.row b.fits.here),
    )

pub finish-requires-clause-state : goal.finish-requires-clause-state
finish-requires-clause-state c =
    let (h, n, xs, ps, zs, qs, it, m, R, low, p) = c.requires.state in
    let b = behind-child h c.args.seat.now.view c.args.row n c.args.child c.args.j xs ps zs qs it m c.args.last R p in
    (h, n, xs, ps, zs, m ∷ b.ms, it, low, (swapped (goal.at.finish-requires-clause-state c).After-swap-item h n xs ps zs qs it m R p b).0)

pub finish-requires-clause-few : goal.finish-requires-clause-few
finish-requires-clause-few c =
    let (h, n, xs, ps, zs, qs, it, m, R, low, p) = c.requires.state in
    let b = behind-child h c.args.seat.now.view c.args.row n c.args.child c.args.j xs ps zs qs it m c.args.last R p in
    let a = ap length (swapped (goal.at.finish-requires-clause-few c).After-swap-item h n xs ps zs qs it m R p b).1 in let d = p.few in omega arith

pub finish-requires-clause-chain : goal.finish-requires-clause-chain
finish-requires-clause-chain c =
    let (h, n, xs, ps, zs, qs, it, m, R, low, p) = c.requires.state in chain-after p.owns c.swap-item.ensures.others c.requires.chain

pub returns-clause-replaced : goal.returns-clause-replaced
returns-clause-replaced c = λ h n xs ps zs qs it m R low p.
    let b = behind-child h c.args.seat.now.view c.args.row n c.args.child c.args.j xs ps zs qs it m c.args.last R p in
    let (f, refs) = swapped (goal.at.returns-clause-replaced c).After-swap-item h n xs ps zs qs it m R p b in
    record {
      ys = ps ++ (zs ++ m ∷ b.ms);
      stood = c.finish.ensures.stood h n xs ps zs (m ∷ b.ms) it low f;
      gone = b.gone;
      fits = b.fits;
      item_is = f.item_is;
      refs = c.finish.ensures.same.1 ∙ refs;
    }

pub returns-clause-spends : goal.returns-clause-spends
returns-clause-spends c = λ rs g.
    let (h, n, xs, ps, zs, qs, it, m, R, low, p) = c.requires.state in let row = c.args.row in let child = c.args.child in
    let s = spends-others c.args.seat.now.view c.swap-item.new.seat.view row 3 n (slot_links p.slot p.top nil) c.args.chain.now (child ∷ []) rs p.owns
    c.swap-item.ensures.others g in
    spends-join 0 0 (row ∷ child ∷ []) (row ∷ child ∷ []) (row ∷ []) rs c.args.seat.now.view c.swap-item.new.seat.view c.finish.new.seat.view c.args.chain.now
    c.finish.new.chain s (c.finish.ensures.spends s.left s.chain)
