use Rattle.std.proofs.Common.{List, ap, arith, length, subst, suc, sym, ℕ, ⊎_elim, ◌++◌, ◌+◌, ◌<◌, ◌∙◌, ◌∷◌, ◌≡◌, ◌≢◌}
use Rattle.std.proofs.lemmas.Bool.{eqb-false, eqb-true}
use Rattle.row_pool.specs.SeatState.{SeatState}
use Rattle.row_pool.specs.SeatView.{SeatView}
use Rattle.row_pool.specs.Trees.{Tree, nil, tree_word}
use Rattle.latch_item.specs.Items.{IsLatch}
use Rattle.interval_tree.proofs.Rows.{up-link}
use Rattle.interval_tree.specs.Held.{OwnsNode}
use Rattle.tree_shrink.proofs.Descending.{end-empty, next-differs, no-heads}
use Rattle.tree_shrink.proofs.Reaching.{reach-node, up-owned}
use Rattle.tree_shrink.proofs.Seams.{item_back, item_front, right-of, seam-item}
use Rattle.tree_shrink.specs.Slots.{slot_links}
use Rattle.tree_shrink.specs.Stages.{Open}
use Rattle.tree_shrink.proofs.descent.is_item_at.Goals as goal
use Rattle.tree_shrink.proofs.descent.is_item_at.Goals.{After-count_of-n, After-row_at-at}

pub count_of-n-requires-clause-node : goal.count_of-n-requires-clause-node
count_of-n-requires-clause-node c =
    let (h, n, child, xs, ps, ys, qs, R, o) = c.requires.state in (3, n, slot_links o.slot o.top nil, o.owns)

-- the item behind the child, as a link
record Next (h n i : ℕ) (v : SeatView) (row : ℕ) (qs : List Tree) : Type 0 where
  front : List Tree
  back : List Tree
  s : Tree
  ms : List Tree
  owns : OwnsNode v row 3 n (front ++ s ∷ back)
  place : length front ≡ 1 + i
  list : qs ≡ s ∷ ms
  fits : IsLatch s
  low : 1 + i < 64

next : (h n child i : ℕ) (v : SeatView) (row : ℕ) (xs ps ys qs R : List Tree) → Open h v row n child i xs ps ys qs R → i ≢ n → Next h n i v row qs
next h n child i v row xs ps ys qs R o ne =
    let r = right-of (suc h) n ps qs i o.slot (let a = o.slot.count in omega arith) in
    record {
      front = item_front r.seam o.top;
      back = item_back r.seam nil r.kid;
      s = r.s;
      ms = r.l ++ r.rs;
      owns = subst (OwnsNode v row 3 n) (r.links o.top nil ∙ seam-item (suc h) n o.top r.s nil r.kid ps r.rs i r.seam) o.owns;
      place = (let a = r.seam.place in omega arith);
      list = r.list;
      fits = r.fits;
      low = (let a = o.slot.count in let b = o.slot.full in omega arith);
    }

differs : (c : After-count_of-n) → c.args.i ≢ c.count_of-n.result → (h n child : ℕ) (xs ps ys qs R : List Tree)
    → Open h c.args.seat.now.view c.args.row n child c.args.i xs ps ys qs R → Next h n c.args.i c.args.seat.now.view c.args.row qs
differs c ne h n child xs ps ys qs R o = next h n child c.args.i c.args.seat.now.view c.args.row xs ps ys qs R o
    (λ e. ne (e ∙ sym (c.count_of-n.ensures.count 3 n (slot_links o.slot o.top nil) o.owns)))

pub row_at-at-requires-clause-link : goal.row_at-at-requires-clause-link
row_at-at-requires-clause-link c =
    let (h, n, child, xs, ps, ys, qs, R, o) = c.requires.state in
    let x = differs (goal.at.row_at-at-requires-clause-link c).After-count_of-n c.if-i-n.false h n child xs ps ys qs R o in (
      3,
      n,
      x.front,
      x.back,
      x.s,
      subst (λ (s : SeatState). OwnsNode s.view c.args.row 3 n (x.front ++ x.s ∷ x.back)) (sym c.count_of-n.ensures.same) x.owns,
      x.place,
      x.low,
      let a = x.fits.here in omega arith,
    )

row-of : (c : After-row_at-at) → (h n : ℕ) (qs : List Tree) → (x : Next h n c.args.i c.args.seat.now.view c.args.row qs)
    → tree_word x.s ≡ suc c.row_at-at.result
row-of c h n qs x = c.row_at-at.ensures.row 3 n x.front x.back x.s
    (subst (λ (s : SeatState). OwnsNode s.view c.args.row 3 n (x.front ++ x.s ∷ x.back)) (sym c.count_of-n.ensures.same) x.owns) x.place

pub returns-then-i-n-clause-next : goal.returns-then-i-n-clause-next
returns-then-i-n-clause-next c = λ yes. cc

pub returns-then-i-n-clause-below : goal.returns-then-i-n-clause-below
returns-then-i-n-clause-below c = λ no h n child xs ps ys qs R it o t.
    let e = c.count_of-n.ensures.count 3 n (slot_links o.slot o.top nil) o.owns in
    let ends = end-empty (suc h) n c.args.i ps qs o.slot (c.if-i-n.true ∙ e) in
    (t.0, ⊎_elim (λ a. a) (λ a. absurd (no-heads it qs ends a)) t.1)

pub returns-clause-next : goal.returns-clause-next
returns-clause-next c = λ yes h n child xs ps ys qs R it o t.
    let here = goal.at.returns-clause-next c in let v = c.args.seat.now.view in
    let x = differs here.After-count_of-n c.if-i-n.false h n child xs ps ys qs R o in
    let word_is : tree_word x.s ≡ tree_word it = row-of here.After-row_at-at h n qs x ∙ ap suc (eqb-true c.row_at-at.result c.args.item yes) ∙ sym t.0 in
    ⊎_elim
    (λ a. let up = reach-node v h o.sort o.count o.below ys it (λ u b. up-owned v child o.sort o.count o.below u o.owns_child b) o.node a in
    let same = c.known.ensures.one x.s it (up-link v c.args.row 3 n x.front x.back x.s (1 + c.args.i) x.owns x.place) up
    (let b = x.fits.here in omega arith) word_is in
    (x.ms, x.list ∙ ap (λ z. z ∷ x.ms) same))
    (λ a. a) t.1

pub returns-clause-below : goal.returns-clause-below
returns-clause-below c = λ no h n child xs ps ys qs R it o t.
    let here = goal.at.returns-clause-below c in
    let x = differs here.After-count_of-n c.if-i-n.false h n child xs ps ys qs R o in
    let w = row-of here.After-row_at-at h n qs x in (
      t.0,
      ⊎_elim (λ a. a) (λ a. absurd (next-differs it x.s qs x.ms x.list (λ e. eqb-false c.row_at-at.result c.args.item no
          (let b = ap tree_word e in let d = t.0 in omega arith)) a)) t.1,
    )
