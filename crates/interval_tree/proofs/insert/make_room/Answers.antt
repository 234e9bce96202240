use Rattle.std.proofs.Common.{◌≡◌, ◌<◌, ◌+◌, ℕ, suc, List, [], ◌∷◌, ◌++◌, length, ap, sym, subst, ◌∙◌, arith}
use Rattle.row_pool.specs.Trees.{Tree, nil, tree_word}
use Rattle.row_pool.specs.SeatView.{SeatView}
use Rattle.row_pool.specs.SeatState.{SeatState}
use Rattle.interval_tree.specs.Held.{OwnsNode, OthersStand}
use Rattle.interval_tree.specs.Nodes.{Hole, item_front, hole_end}
use Rattle.interval_tree.proofs.Frames.{others-join}
use Rattle.interval_tree.proofs.Linking.{hole-insert, hole-inserted, gap-insert, gap-inserted}
use Rattle.interval_tree.proofs.insert.make_room.Goals as goal
use Rattle.interval_tree.proofs.insert.make_room.Goals.{After-insert_link, After-insert_link-2, After-count_of-n}

pub insert_link-requires-clause-link : goal.insert_link-requires-clause-link
insert_link-requires-clause-link c =
    let (h, kind, n, top, m, us, ps, qs, rest, o, low, owns, here, refs, few) = c.requires.hole in
    hole-insert h c.args.seat.now.view c.args.row c.args.i c.args.item kind n top m us ps qs rest o low owns here refs few

first : (c : After-insert_link) → (h kind n : ℕ) (top m : Tree) (us ps qs rest : List Tree) (o : Hole h kind n us ps qs c.args.i) → n < 31
    → OwnsNode c.args.seat.now.view c.args.row kind n (top ∷ us) → tree_word m ≡ suc c.args.item → c.args.seat.now.view.refs ≡ m ∷ rest
    → OwnsNode c.insert_link.new.seat.view c.args.row kind n ((item_front o top m ++ nil ∷ []) ++ (o.ds ++ nil ∷ hole_end o))
    × (c.insert_link.new.seat.view.refs ≡ rest)
first c h kind n top m us ps qs rest o low owns here refs = hole-inserted h c.args.seat.now.view c.insert_link.new.seat.view c.args.row c.args.i c.args.item
    kind n top m us ps qs rest o low owns here refs c.insert_link.ensures.node

pub insert_link-requires-2-clause-link : goal.insert_link-requires-2-clause-link
insert_link-requires-2-clause-link c =
    let (h, kind, n, top, m, us, ps, qs, rest, o, low, owns, here, refs, few) = c.requires.hole in
    let z = first (goal.at.insert_link-requires-2-clause-link c).After-insert_link h kind n top m us ps qs rest o low owns here refs in
    gap-insert h c.insert_link.new.seat.view c.args.row c.args.i kind n top m us ps qs o low z.0 (let a = ap length z.1 in omega arith)

second : (c : After-insert_link-2) → (h kind n : ℕ) (top m : Tree) (us ps qs rest : List Tree) (o : Hole h kind n us ps qs c.args.i) → n < 31
    → OwnsNode c.args.seat.now.view c.args.row kind n (top ∷ us) → tree_word m ≡ suc c.args.item → c.args.seat.now.view.refs ≡ m ∷ rest
    → OwnsNode c.insert_link-2.new.seat.view c.args.row kind n ((item_front o top m ++ nil ∷ []) ++ nil ∷ (o.ds ++ hole_end o))
    × (c.insert_link-2.new.seat.view.refs ≡ rest)
second c h kind n top m us ps qs rest o low owns here refs =
    let z = hole-inserted h c.args.seat.now.view c.insert_link.new.seat.view c.args.row c.args.i c.args.item kind n top m us ps qs rest o low owns here refs
    c.insert_link.ensures.node in
    let y = gap-inserted h c.insert_link.new.seat.view c.insert_link-2.new.seat.view c.args.row c.args.i kind n top m us ps qs o low z.0
    c.insert_link-2.ensures.node in
    (y.0, y.1 ∙ z.1)

pub count_of-n-requires-clause-node : goal.count_of-n-requires-clause-node
count_of-n-requires-clause-node c =
    let (h, kind, n, top, m, us, ps, qs, rest, o, low, owns, here, refs, few) = c.requires.hole in
    (kind, n, _, (second (goal.at.count_of-n-requires-clause-node c).After-insert_link-2 h kind n top m us ps qs rest o low owns here refs).0)

pub overflow_add-n : goal.overflow_add-n
overflow_add-n c =
    let (h, kind, n, top, m, us, ps, qs, rest, o, low, owns, here, refs, few) = c.requires.hole in
    let a = c.count_of-n.ensures.count kind n _ (second (goal.at.overflow_add-n c).After-insert_link-2 h kind n top m us ps qs rest o low owns here refs).0 in
    omega arith

pub set_count-requires-clause-node : goal.set_count-requires-clause-node
set_count-requires-clause-node c =
    subst (λ (s : SeatState). (kind m : ℕ) × (us : List Tree) × OwnsNode s.view c.args.row kind m us) (sym c.count_of-n.ensures.same)
    (let (h, kind, n, top, m, us, ps, qs, rest, o, low, owns, here, refs, few) = c.requires.hole in
    (kind, n, _, (second (goal.at.set_count-requires-clause-node c).After-insert_link-2 h kind n top m us ps qs rest o low owns here refs).0))

pub returns-clause-node : goal.returns-clause-node
returns-clause-node c = λ h kind n top m us ps qs rest o low owns here refs.
    let z = second (goal.at.returns-clause-node c).After-insert_link-2 h kind n top m us ps qs rest o low owns here refs in
    let a = c.count_of-n.ensures.count kind n _ z.0 in
    let same = ap (λ (s : SeatState). s.view) c.count_of-n.ensures.same in (
      subst (λ k. OwnsNode c.set_count.new.seat.view c.args.row kind (k + 1) ((item_front o top m ++ nil ∷ []) ++ nil ∷ (o.ds ++ hole_end o))) a
          (c.set_count.ensures.node kind n _ (subst (λ v. OwnsNode v c.args.row kind n ((item_front o top m ++ nil ∷ []) ++ nil ∷ (o.ds ++ hole_end o)))
          (sym same) z.0)),
      c.set_count.ensures.same.1 ∙ ap (λ (v : SeatView). v.refs) same ∙ z.1,
    )

pub returns-clause-others : goal.returns-clause-others
returns-clause-others c =
    let v = c.args.seat.now.view in let a = c.insert_link.new.seat.view in let b = c.insert_link-2.new.seat.view in let row = c.args.row in
    others-join v a c.set_count.new.seat.view row c.insert_link.ensures.others (others-join a b c.set_count.new.seat.view row c.insert_link-2.ensures.others
    (subst (λ (s : SeatState). OthersStand row s.view c.set_count.new.seat.view) c.count_of-n.ensures.same c.set_count.ensures.others))
