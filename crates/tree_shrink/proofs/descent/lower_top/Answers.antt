use Rattle.std.proofs.Common.{List, [], ap, arith, refl, subst, sym, ℕ, ◌∙◌, ◌∷◌, ◌≡◌, ◌≢◌, ◌≤◌}
use Rattle.row_pool.specs.SeatState.{SeatState}
use Rattle.row_pool.specs.Trees.{Tree}
use Rattle.interval_tree.specs.Held.{OwnsNode}
use Rattle.tree_shrink.proofs.Lowering.{stood-bare, stood-new, stood-same}
use Rattle.tree_shrink.specs.Stages.{Stood}
use Rattle.tree_shrink.proofs.descent.lower_top.Goals as goal
use Rattle.tree_shrink.proofs.descent.lower_top.Goals.{After-count_of, After-row_at-top}

pub row_at-top-requires-clause-link : goal.row_at-top-requires-clause-link
row_at-top-requires-clause-link c =
    let (h, kind, n, xs, ys, it, l) = c.requires.node in (
      kind,
      n,
      [],
      l.tail,
      l.top,
      subst (λ (s : SeatState). OwnsNode s.view c.args.row kind n (l.top ∷ l.tail)) (sym c.count_of.ensures.same) l.owns,
      refl,
      omega arith,
      let a = l.fits.here in omega arith,
    )

-- the two loads change nothing
quiet : (c : After-row_at-top) → c.row_at-top.new.seat.view ≡ c.args.seat.now.view
quiet c = c.row_at-top.ensures.same.1 ∙ ap (λ (s : SeatState). s.view) c.count_of.ensures.same

some_items : (c : After-count_of) → c.count_of.result ≢ 0 → (kind n : ℕ) (us : List Tree) → OwnsNode c.args.seat.now.view c.args.row kind n us → 1 ≤ n
some_items c ne kind n us o = let a = c.count_of.ensures.count kind n us o in omega arith

pub set_top-requires-clause-node : goal.set_top-requires-clause-node
set_top-requires-clause-node c =
    let (h, kind, n, xs, ys, it, l) = c.requires.node in (
      h,
      kind,
      n,
      l.top ∷ l.tail,
      ys,
      subst (λ v. OwnsNode v c.args.row kind n (l.top ∷ l.tail))
          (sym (quiet (goal.at.set_top-requires-clause-node c).After-row_at-top)) l.owns,
      l.body,
      some_items (goal.at.set_top-requires-clause-node c).After-count_of c.if-count_of-eq0.false kind n (l.top ∷ l.tail) l.owns,
      l.sorted,
    )

pub returns-then-count_of-eq0-clause-node : goal.returns-then-count_of-eq0-clause-node
returns-then-count_of-eq0-clause-node c = λ h kind n xs ys it l.
    subst (λ (s : SeatState). Stood h s.view c.args.row kind n ys) (sym c.count_of.ensures.same) (stood-bare h c.args.seat.now.view c.args.row kind n xs ys it
    c.args.item l (let a = c.count_of.ensures.count kind n (l.top ∷ l.tail) l.owns in let b = c.if-count_of-eq0.true in omega arith))

pub returns-then-top-item-clause-node : goal.returns-then-top-item-clause-node
returns-then-top-item-clause-node c = λ h kind n xs ys it l.
    let at = goal.at.returns-then-top-item-clause-node c in
    let (vs, owns, whole) = c.set_top.ensures.node h kind n (l.top ∷ l.tail) ys
    (subst (λ v. OwnsNode v c.args.row kind n (l.top ∷ l.tail)) (sym (quiet at.After-row_at-top)) l.owns) l.body
    (some_items at.After-count_of c.if-count_of-eq0.false kind n (l.top ∷ l.tail) l.owns) l.sorted in
    stood-new h c.set_top.new.seat.view c.args.row kind n ys vs owns whole

pub returns-else-top-item-clause-node : goal.returns-else-top-item-clause-node
returns-else-top-item-clause-node c = λ h kind n xs ys it l.
    let q = quiet (goal.at.returns-else-top-item-clause-node c).After-row_at-top in
    let o = subst (λ (s : SeatState). OwnsNode s.view c.args.row kind n (l.top ∷ l.tail)) (sym c.count_of.ensures.same) l.owns in
    let a = c.row_at-top.ensures.row kind n [] l.tail l.top o refl in
    subst (λ v. Stood h v c.args.row kind n ys) (sym q) (stood-same h c.args.seat.now.view c.args.row kind n xs ys it c.args.item l
    (λ e. c.if-top-item.false (omega arith)))
