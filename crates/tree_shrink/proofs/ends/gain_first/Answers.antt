use Rattle.std.proofs.Common.{List, [], ap, arith, refl, subst, ℕ, ◌++◌, ◌∙◌, ◌∷◌, ◌≡◌}
use Rattle.row_pool.specs.Changes.{with_old_target}
use Rattle.row_pool.specs.SeatView.{SeatView}
use Rattle.row_pool.specs.Trees.{Tree, nil}
use Rattle.latch_item.specs.Shape.{IsTop}
use Rattle.interval_tree.proofs.Cutting.{node-of}
use Rattle.interval_tree.proofs.Frames.{others-join}
use Rattle.interval_tree.proofs.Rows.{back-cons}
use Rattle.interval_tree.specs.Held.{OwnsNode}
use Rattle.tree_shrink.proofs.Borders.{FirstIn, first-in, items-around}
use Rattle.tree_shrink.proofs.Lending.{gain-raises, old-long, spends-before}
use Rattle.tree_shrink.specs.Stages.{Gains}
use Rattle.tree_shrink.proofs.ends.gain_first.Goals as goal
use Rattle.tree_shrink.proofs.ends.gain_first.Goals.{After-raise_both, After-insert_link, After-insert_link-2}

module _ {h kind : ℕ} {us xs l : List Tree} {m u : Tree} {R : List Tree} where
  -- where the two come in
  place-in : {v : SeatView} {row item kid : ℕ} → Gains h v row kind us xs l m u item kid R → FirstIn h kind 15 us xs l m u
  place-in p = first-in h kind 15 us xs l m u p.whole (omega arith) p.carried.fits p.carried.part

  -- the first link has the greatest bound
  raised : (c : After-raise_both) → (p : Gains h c.args.seat.now.view c.args.row kind us xs l m u c.args.item c.args.kid R) → (new : Tree)
      × OwnsNode c.raise_both.new.seat.view c.args.row kind 15 (new ∷ (place-in p).tail) × IsTop new (l ++ m ∷ xs)
  raised c p =
      let q = place-in p in
      let (new, owns, top) = c.raise_both.ensures.node h kind 15 q.top q.tail l m u R
      (subst (OwnsNode c.args.seat.now.view c.args.row kind 15) q.whole_links p.owns) q.top_fits p.carried in
      (new, owns, top xs (l ++ m ∷ xs) q.greatest (items-around xs l (l ++ m ∷ xs) m refl))

  back : (c : After-raise_both) → (p : Gains h c.args.seat.now.view c.args.row kind us xs l m u c.args.item c.args.kid R)
      → c.raise_both.new.seat.view.refs ≡ with_old_target m (with_old_target u R)
  back c p = c.raise_both.ensures.same.1 ∙ p.carried.refs ∙ back-cons m (with_old_target u R) p.carried.fits.row p.carried.fits.here

  -- the item is in
  item-in : (c : After-insert_link) → (p : Gains h c.args.seat.now.view c.args.row kind us xs l m u c.args.item c.args.kid R) → (new : Tree)
      → OwnsNode c.raise_both.new.seat.view c.args.row kind 15 (new ∷ (place-in p).tail)
      → c.raise_both.new.seat.view.refs ≡ with_old_target m (with_old_target u R)
      → OwnsNode c.insert_link.new.seat.view c.args.row kind 15 ((new ∷ (place-in p).front) ++ ((place-in p).bs ++ nil ∷ (place-in p).ws))
      × (c.insert_link.new.seat.view.refs ≡ with_old_target u R)
  item-in c p new o e =
      let q = place-in p in
      let z = c.insert_link.ensures.node kind 15 (new ∷ []) q.its q.vs m (with_old_target u R)
      (subst (OwnsNode c.raise_both.new.seat.view c.args.row kind 15) (ap (λ k. new ∷ k) q.one) o) refl q.named_items e p.carried.item_is in
      (subst (OwnsNode c.insert_link.new.seat.view c.args.row kind 15) (ap (λ k. new ∷ k) q.two) z.0, z.1)

  -- and the child
  both-in : (c : After-insert_link-2) → (p : Gains h c.args.seat.now.view c.args.row kind us xs l m u c.args.item c.args.kid R) → (new : Tree)
      → OwnsNode c.insert_link.new.seat.view c.args.row kind 15 ((new ∷ (place-in p).front) ++ ((place-in p).bs ++ nil ∷ (place-in p).ws))
      → c.insert_link.new.seat.view.refs ≡ with_old_target u R
      → OwnsNode c.insert_link-2.new.seat.view c.args.row kind 15 ((new ∷ (place-in p).front) ++ u ∷ ((place-in p).bs ++ (place-in p).ws))
      × (c.insert_link-2.new.seat.view.refs ≡ R)
  both-in c p new o e =
      let q = place-in p in
      c.insert_link-2.ensures.node kind 15 (new ∷ q.front) q.bs q.ws u R o (let a = q.long in omega arith) q.named_kids e p.carried.kid_is

pub raise_both-requires-clause-node : goal.raise_both-requires-clause-node
raise_both-requires-clause-node c =
    let (h, kind, us, xs, l, m, u, R, p) = c.requires.gains in let q = place-in p in gain-raises p q.top q.tail q.whole_links q.top_fits

pub insert_link-requires-clause-link : goal.insert_link-requires-clause-link
insert_link-requires-clause-link c =
    let (h, kind, us, xs, l, m, u, R, p) = c.requires.gains in let q = place-in p in
    let at = (goal.at.insert_link-requires-clause-link c).After-raise_both in
    let (new, o, top) = raised at p in (
      kind,
      15,
      new ∷ [],
      q.its,
      q.vs,
      m,
      with_old_target u R,
      subst (OwnsNode c.raise_both.new.seat.view c.args.row kind 15) (ap (λ k. new ∷ k) q.one) o,
      refl,
      q.named_items,
      (let a = q.few in omega arith),
      back at p,
      p.carried.item_is,
      (let a = old-long u R in let b = p.few in omega arith),
    )

pub insert_link-requires-2-clause-link : goal.insert_link-requires-2-clause-link
insert_link-requires-2-clause-link c =
    let (h, kind, us, xs, l, m, u, R, p) = c.requires.gains in let q = place-in p in
    let at = goal.at.insert_link-requires-2-clause-link c in
    let (new, o, top) = raised at.After-raise_both p in let z = item-in at.After-insert_link p new o (back at.After-raise_both p) in (
      kind,
      15,
      new ∷ q.front,
      q.bs,
      q.ws,
      u,
      R,
      z.0,
      (let a = q.long in omega arith),
      q.named_kids,
      (let a = q.few_kids in omega arith),
      z.1,
      p.carried.kid_is,
      (let b = p.few in omega arith),
    )

pub set_count-requires-clause-node : goal.set_count-requires-clause-node
set_count-requires-clause-node c =
    let (h, kind, us, xs, l, m, u, R, p) = c.requires.gains in let q = place-in p in
    let at = goal.at.set_count-requires-clause-node c in
    let (new, o, top) = raised at.After-raise_both p in let z = item-in at.After-insert_link p new o (back at.After-raise_both p) in
    (kind, 15, (new ∷ q.front) ++ u ∷ (q.bs ++ q.ws), (both-in at.After-insert_link-2 p new z.0 z.1).0)

pub returns-clause-gained : goal.returns-clause-gained
returns-clause-gained c = λ h kind us xs l m u R p.
    let q = place-in p in let at = goal.at.returns-clause-gained c in
    let (new, o, top) = raised at.After-raise_both p in let z = item-in at.After-insert_link p new o (back at.After-raise_both p) in
    let y = both-in at.After-insert_link-2 p new z.0 z.1 in
    let links : List Tree = q.front ++ u ∷ (q.bs ++ q.ws) in
    record {
      us = new ∷ links;
      owns = c.set_count.ensures.node kind 15 (new ∷ links) y.0;
      whole = node-of h kind 16 q.top links (l ++ m ∷ xs) new q.whole top;
      refs = c.set_count.ensures.same.1 ∙ y.1;
    }

pub returns-clause-spends : goal.returns-clause-spends
returns-clause-spends c =
    let (h, kind, us, xs, l, m, u, R, p) = c.requires.gains in let q = place-in p in
    let a = c.raise_both.new.seat.view in let b = c.insert_link.new.seat.view in let d = c.insert_link-2.new.seat.view in let w = c.set_count.new.seat.view in
    let (new, o, top) = raised (goal.at.returns-clause-spends c).After-raise_both p in
    spends-before c.raise_both.ensures.spends o (others-join a b w c.args.row c.insert_link.ensures.others
    (others-join b d w c.args.row c.insert_link-2.ensures.others c.set_count.ensures.others))
