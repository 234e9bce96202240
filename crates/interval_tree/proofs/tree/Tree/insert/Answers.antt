use Rattle.std.proofs.Common.{◌≡◌, ℕ, List, [], ◌∷◌, length, inl, ap, sym, arith}
use mathlib.Core.Option.{some-ne-none}
use Rattle.row_pool.specs.Trees.{Tree as Row}
use Rattle.row_pool.specs.SeatView.{SeatView}
use Rattle.row_pool.specs.Changes.{Becomes, published}
use Rattle.latch_item.specs.Items.{Item}
use Rattle.latch_item.proofs.Rows.{lives}
use Rattle.interval_tree.specs.Trees.{IsNewItem, beside}
use Rattle.interval_tree.proofs.Frames.{spends-join}
use Rattle.interval_tree.proofs.Linking.{room-after}
use Rattle.interval_tree.proofs.Growing.{entering, item-spends, refers-standing, inserted-long, beside-first, beside-long}
use Rattle.interval_tree.proofs.tree.Tree.insert.Goals as goal
use Rattle.interval_tree.proofs.tree.Tree.insert.Goals.{After-publish, After-insert_any-root}

pub publish-requires-clause-whole : goal.publish-requires-clause-whole
publish-requires-clause-whole c =
    let (xs, x, k, f, many) = c.requires.tree in
    (f.owns.entry, [], f.owns.has, (let a = f.owns.kind in omega arith), f.owns.links, (λ j u at. absurd (some-ne-none u (sym at))), inl f.unlinked)

-- the item that went live
pub record Came (v p : SeatView) (item : ℕ) (x : Item) (xs : List Row) (f : IsNewItem v item x xs) : Type 0 where
  pub tree : Row
  pub is : Becomes item f.owns.entry [] tree
  pub move : p ≡ published item tree v

came : (c : After-publish) → (x : Item) (xs : List Row) → (f : IsNewItem c.args.seat.now.view c.args.item x xs)
    → Came c.args.seat.now.view c.publish.new.seat.view c.args.item x xs f
came c x xs f = let (t, b, is) = c.publish.ensures.view f.owns.entry [] f.owns.has f.unlinked f.owns.links in record { tree = t; is = b; move = is }

pub insert_any-root-requires-clause-tree : goal.insert_any-root-requires-clause-tree
insert_any-root-requires-clause-tree c =
    let (xs, x, k, f, many) = c.requires.tree in
    let v = c.args.seat.now.view in let p = c.publish.new.seat.view in
    let m = came (goal.at.insert_any-root-requires-clause-tree c).After-publish x xs f in (
      xs,
      m.tree,
      v.refs,
      entering v p c.args.item x c.args.self.now.root c.args.self.now.height xs m.tree f k.refers c.known.ensures m.is
          (ap (λ (z : SeatView). z.refs) m.move) c.requires.few many,
    )

pub insert_any-root-requires-clause-room : goal.insert_any-root-requires-clause-room
insert_any-root-requires-clause-room c =
    let (xs, x, k, f, many) = c.requires.tree in
    let v = c.args.seat.now.view in let p = c.publish.new.seat.view in
    let m = came (goal.at.insert_any-root-requires-clause-room c).After-publish x xs f in
    room-after 0 7 (c.args.item ∷ []) [] v p c.args.chain.now c.args.chain.now
    (λ rs h. item-spends v p c.args.item x m.tree c.args.chain.now rs f.owns m.move h) c.requires.room

pub returns-clause-tree : goal.returns-clause-tree
returns-clause-tree c = λ xs x k f many.
    let v = c.args.seat.now.view in let p = c.publish.new.seat.view in let w = c.insert_any-root.new.seat.view in
    let m = came (goal.at.returns-clause-tree c).After-publish x xs f in
    let (ys, more, s) = c.insert_any-root.ensures.tree xs m.tree v.refs (entering v p c.args.item x c.args.self.now.root c.args.self.now.height xs m.tree f
    k.refers c.known.ensures m.is (ap (λ (z : SeatView). z.refs) m.move) c.requires.few many) in (
      m.tree,
      ys,
      m.is.here,
      lives v c.args.item x m.tree f.owns m.is,
      more,
      record {
        refers = refers-standing w c.insert_any-root.result.0 c.insert_any-root.result.1 ys (beside c.args.self.now.root v.refs) s;
        many = (let a = k.many in let b = inserted-long m.tree xs ys more in omega arith);
        low = λ e. absurd (cc);
      },
    )

pub returns-clause-references : goal.returns-clause-references
returns-clause-references c =
    let (xs, x, k, f, many) = c.requires.tree in
    let v = c.args.seat.now.view in let p = c.publish.new.seat.view in let w = c.insert_any-root.new.seat.view in
    let m = came (goal.at.returns-clause-references c).After-publish x xs f in
    let (ys, more, s) = c.insert_any-root.ensures.tree xs m.tree v.refs (entering v p c.args.item x c.args.self.now.root c.args.self.now.height xs m.tree f
    k.refers c.known.ensures m.is (ap (λ (z : SeatView). z.refs) m.move) c.requires.few many) in
    beside-first w c.insert_any-root.result.0 c.insert_any-root.result.1 ys (beside c.args.self.now.root v.refs) s

pub returns-clause-few : goal.returns-clause-few
returns-clause-few c =
    let (xs, x, k, f, many) = c.requires.tree in
    let v = c.args.seat.now.view in let p = c.publish.new.seat.view in
    let m = came (goal.at.returns-clause-few c).After-publish x xs f in
    let (ys, more, s) = c.insert_any-root.ensures.tree xs m.tree v.refs (entering v p c.args.item x c.args.self.now.root c.args.self.now.height xs m.tree f
    k.refers c.known.ensures m.is (ap (λ (z : SeatView). z.refs) m.move) c.requires.few many) in
    let a = beside-long c.args.self.now.root v.refs in let b = ap length s.refs in omega arith

pub returns-clause-spends : goal.returns-clause-spends
returns-clause-spends c = λ rs h.
    let (xs, x, k, f, many) = c.requires.tree in
    let v = c.args.seat.now.view in let p = c.publish.new.seat.view in
    let m = came (goal.at.returns-clause-spends c).After-publish x xs f in
    let s = item-spends v p c.args.item x m.tree c.args.chain.now rs f.owns m.move h in
    spends-join 0 7 (c.args.item ∷ []) [] [] rs v p c.insert_any-root.new.seat.view c.args.chain.now c.insert_any-root.new.chain s
    (c.insert_any-root.ensures.spends s.left s.chain)
