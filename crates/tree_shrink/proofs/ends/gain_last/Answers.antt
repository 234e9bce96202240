use Rattle.std.proofs.Common.{List, [], arith, refl, replicate, subst, sym, ℕ, ◌++◌, ◌∙◌, ◌∷◌, ◌≡◌}
use Rattle.row_pool.specs.Changes.{with_old_target}
use Rattle.row_pool.specs.SeatView.{SeatView}
use Rattle.row_pool.specs.Trees.{Tree, nil}
use Rattle.latch_item.specs.Shape.{IsTop}
use Rattle.interval_tree.proofs.Cutting.{node-of}
use Rattle.interval_tree.proofs.Frames.{others-join}
use Rattle.interval_tree.proofs.Rows.{back-cons}
use Rattle.interval_tree.specs.Held.{OwnsNode}
use Rattle.tree_shrink.proofs.Borders.{LastIn, last-in, same-items}
use Rattle.tree_shrink.proofs.Lending.{gain-raises, old-long, spends-before}
use Rattle.tree_shrink.proofs.Seams.{item_back, item_front, kid_back, kid_front, next-place, seam-item, seam-next}
use Rattle.tree_shrink.specs.Slots.{seam_links}
use Rattle.tree_shrink.specs.Stages.{Gains}
use Rattle.tree_shrink.proofs.ends.gain_last.Goals as goal
use Rattle.tree_shrink.proofs.ends.gain_last.Goals.{After-raise_both, After-swap, After-swap-2}

module _ {h kind : ℕ} {us xs l : List Tree} {m u : Tree} {R : List Tree} where
  -- where the two come in
  place-in : {v : SeatView} {row item kid : ℕ} → Gains h v row kind us xs l m u item kid R → LastIn h kind 15 us xs l m u
  place-in p = last-in h kind 15 us xs l m u p.whole (omega arith) p.carried.fits p.carried.part

  -- the first link has the greatest bound
  raised : (c : After-raise_both) → (p : Gains h c.args.seat.now.view c.args.row kind us xs l m u c.args.item c.args.kid R) → (new : Tree)
      × OwnsNode c.raise_both.new.seat.view c.args.row kind 15 (new ∷ (place-in p).tail) × IsTop new (xs ++ m ∷ l)
  raised c p =
      let q = place-in p in
      let (new, owns, top) = c.raise_both.ensures.node h kind 15 q.top q.tail l m u R
      (subst (OwnsNode c.args.seat.now.view c.args.row kind 15) q.whole_links p.owns) q.top_fits p.carried in
      (new, owns, top xs (xs ++ m ∷ l) q.greatest (same-items (xs ++ m ∷ l) (xs ++ m ∷ l) refl))

  back : (c : After-raise_both) → (p : Gains h c.args.seat.now.view c.args.row kind us xs l m u c.args.item c.args.kid R)
      → c.raise_both.new.seat.view.refs ≡ with_old_target m (with_old_target u R)
  back c p = c.raise_both.ensures.same.1 ∙ p.carried.refs ∙ back-cons m (with_old_target u R) p.carried.fits.row p.carried.fits.here

  -- the links at the new item, and at the new child
  item-links : {v : SeatView} {row item kid : ℕ} → (p : Gains h v row kind us xs l m u item kid R) → (new t : Tree)
      → seam_links (place-in p).seam new t (place-in p).x nil ≡ item_front (place-in p).seam new ++ t ∷ item_back (place-in p).seam (place-in p).x nil
  item-links p new t = let q = place-in p in seam-item h 16 new t q.x nil q.ps q.qs 15 q.seam

  kid-links : {v : SeatView} {row item kid : ℕ} → (p : Gains h v row kind us xs l m u item kid R) → (new t : Tree)
      → seam_links (place-in p).seam new m (place-in p).x t ≡ (kid_front (place-in p).seam new m ++ (place-in p).x ∷ []) ++ t ∷ kid_back (place-in p).seam
  kid-links p new t = let q = place-in p in seam-next h 16 new m q.x t q.ps q.qs 15 q.seam

  -- the item is in
  item-in : (c : After-swap) → (p : Gains h c.args.seat.now.view c.args.row kind us xs l m u c.args.item c.args.kid R) → (new : Tree)
      → OwnsNode c.raise_both.new.seat.view c.args.row kind 15 (new ∷ (place-in p).tail)
      → c.raise_both.new.seat.view.refs ≡ with_old_target m (with_old_target u R)
      → OwnsNode c.swap.new.seat.view c.args.row kind 15 ((kid_front (place-in p).seam new m ++ (place-in p).x ∷ []) ++ nil ∷ kid_back (place-in p).seam)
      × (c.swap.new.seat.view.refs ≡ with_old_target u R)
  item-in c p new o e =
      let q = place-in p in
      let z = c.swap.ensures.node kind 15 (item_front q.seam new) (item_back q.seam q.x nil) nil m (with_old_target u R)
      (subst (OwnsNode c.raise_both.new.seat.view c.args.row kind 15) (q.links new ∙ item-links p new nil) o) (let a = q.seam.place in omega arith) e
      p.carried.item_is in
      (subst (OwnsNode c.swap.new.seat.view c.args.row kind 15) (sym (item-links p new m) ∙ kid-links p new nil) z.1, z.2)

  -- and the child
  both-in : (c : After-swap-2) → (p : Gains h c.args.seat.now.view c.args.row kind us xs l m u c.args.item c.args.kid R) → (new : Tree)
      → OwnsNode c.swap.new.seat.view c.args.row kind 15 ((kid_front (place-in p).seam new m ++ (place-in p).x ∷ []) ++ nil ∷ kid_back (place-in p).seam)
      → c.swap.new.seat.view.refs ≡ with_old_target u R
      → OwnsNode c.swap-2.new.seat.view c.args.row kind 15 (seam_links (place-in p).seam new m (place-in p).x u) × (c.swap-2.new.seat.view.refs ≡ R)
  both-in c p new o e =
      let q = place-in p in
      let z = c.swap-2.ensures.node kind 15 (kid_front q.seam new m ++ q.x ∷ []) (kid_back q.seam) nil u R o
      (next-place h 16 new m q.x q.ps q.qs 15 q.seam) e p.carried.kid_is in
      (subst (OwnsNode c.swap-2.new.seat.view c.args.row kind 15) (sym (kid-links p new u)) z.1, z.2)

pub raise_both-requires-clause-node : goal.raise_both-requires-clause-node
raise_both-requires-clause-node c =
    let (h, kind, us, xs, l, m, u, R, p) = c.requires.gains in let q = place-in p in gain-raises p q.top q.tail q.whole_links q.top_fits

pub swap-requires-clause-link : goal.swap-requires-clause-link
swap-requires-clause-link c =
    let (h, kind, us, xs, l, m, u, R, p) = c.requires.gains in let q = place-in p in
    let at = (goal.at.swap-requires-clause-link c).After-raise_both in
    let (new, o, top) = raised at p in (
      kind,
      15,
      item_front q.seam new,
      item_back q.seam q.x nil,
      nil,
      m,
      with_old_target u R,
      subst (OwnsNode c.raise_both.new.seat.view c.args.row kind 15) (q.links new ∙ item-links p new nil) o,
      (let a = q.seam.place in omega arith),
      omega arith,
      back at p,
      p.carried.item_is,
      (let a = old-long u R in let b = p.few in omega arith),
    )

pub swap-requires-2-clause-link : goal.swap-requires-2-clause-link
swap-requires-2-clause-link c =
    let (h, kind, us, xs, l, m, u, R, p) = c.requires.gains in let q = place-in p in
    let at = goal.at.swap-requires-2-clause-link c in
    let (new, o, top) = raised at.After-raise_both p in let z = item-in at.After-swap p new o (back at.After-raise_both p) in (
      kind,
      15,
      kid_front q.seam new m ++ q.x ∷ [],
      kid_back q.seam,
      nil,
      u,
      R,
      z.0,
      next-place h 16 new m q.x q.ps q.qs 15 q.seam,
      omega arith,
      z.1,
      p.carried.kid_is,
      (let b = p.few in omega arith),
    )

pub set_count-requires-clause-node : goal.set_count-requires-clause-node
set_count-requires-clause-node c =
    let (h, kind, us, xs, l, m, u, R, p) = c.requires.gains in let q = place-in p in
    let at = goal.at.set_count-requires-clause-node c in
    let (new, o, top) = raised at.After-raise_both p in let z = item-in at.After-swap p new o (back at.After-raise_both p) in
    (kind, 15, seam_links q.seam new m q.x u, (both-in at.After-swap-2 p new z.0 z.1).0)

pub returns-clause-gained : goal.returns-clause-gained
returns-clause-gained c = λ h kind us xs l m u R p.
    let q = place-in p in let at = goal.at.returns-clause-gained c in
    let (new, o, top) = raised at.After-raise_both p in let z = item-in at.After-swap p new o (back at.After-raise_both p) in
    let y = both-in at.After-swap-2 p new z.0 z.1 in
    let links : List Tree = ((q.seam.is ++ m ∷ q.seam.js) ++ replicate q.seam.free nil) ++ ((q.seam.cs ++ q.x ∷ u ∷ q.seam.ds) ++ replicate q.seam.free nil) in
    record {
      us = new ∷ links;
      owns = c.set_count.ensures.node kind 15 (new ∷ links) y.0;
      whole = node-of h kind 16 q.top links (xs ++ m ∷ l) new q.whole top;
      refs = c.set_count.ensures.same.1 ∙ y.1;
    }

pub returns-clause-spends : goal.returns-clause-spends
returns-clause-spends c =
    let (h, kind, us, xs, l, m, u, R, p) = c.requires.gains in let q = place-in p in
    let a = c.raise_both.new.seat.view in let b = c.swap.new.seat.view in let d = c.swap-2.new.seat.view in let w = c.set_count.new.seat.view in
    let (new, o, top) = raised (goal.at.returns-clause-spends c).After-raise_both p in
    spends-before c.raise_both.ensures.spends o (others-join a b w c.args.row c.swap.ensures.others
    (others-join b d w c.args.row c.swap-2.ensures.others c.set_count.ensures.others))
