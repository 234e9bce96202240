use Rattle.std.proofs.Common.{◌≡◌, suc, ◌+◌, ◌-◌, List, ◌++◌, append-nil, ap, sym, subst, ◌∙◌, inl, arith}
use Rattle.std.proofs.lemmas.Result.{IfOk-weaker}
use Rattle.row_pool.specs.Trees.{Tree, tree_word}
use Rattle.row_pool.specs.SeatState.{SeatState}
use Rattle.row_pool.specs.Views.{Reaches}
use Rattle.latch_item.specs.Items.{word}
use Rattle.interval_tree.specs.Listings.{Rest, rows_of}
use Rattle.interval_tree.proofs.Rows.{content-low}
use Rattle.interval_tree.proofs.InOrder.{turn, leaf-turn, leaf-last}
use Rattle.interval_tree.proofs.listing.+list_leaf.Goals as goal

pub read-n-requires-clause-reachable : goal.read-n-requires-clause-reachable
read-n-requires-clause-reachable s c =
    let (t, zs, up, here, r) = c.requires.rest in inl (t, up, here, content-low (word t 1) 2 r.low (omega arith) (omega arith))

pub returns-then-i-n-clause-rows : goal.returns-then-i-n-clause-rows
returns-then-i-n-clause-rows s c = λ t zs up here r.
    let q = turn 0 t c.args.i zs r in
    let n = c.read-n.ensures.tree t up here in
    let none = leaf-turn t c.args.i zs q ∙ q.ends (c.if-i-n.true ∙ n) in
    sym (append-nil c.args.out.now.items) ∙ ap (λ l. c.args.out.now.items ++ rows_of l) (sym none)

pub live_row_at-item-requires-clause-link : goal.live_row_at-item-requires-clause-link
live_row_at-item-requires-clause-link s c =
    let (t, zs, up, here, r) = c.requires.rest in
    let q = turn 0 t c.args.i zs r in
    let n = c.read-n.ensures.tree t up here in
    let nx = q.goes (λ e. c.if-i-n.false (e ∙ sym n)) in (
      t,
      nx.item,
      subst (λ (z : SeatState). Reaches z.view t) (sym c.read-n.ensures.same) up,
      here,
      r.low,
      r.high,
      (let a = q.place in let b = q.low in omega arith),
      nx.at,
      let a = nx.latch.here in omega arith,
    )

pub list_leaf-requires : goal.list_leaf-requires
list_leaf-requires s c =
    let (t, zs, up, here, r) = c.requires.rest in
    let q = turn 0 t c.args.i zs r in
    let n = c.read-n.ensures.tree t up here in
    let nx = q.goes (λ e. c.if-i-n.false (e ∙ sym n)) in
    let same = c.live_row_at-item.ensures.same.1 ∙ ap (λ (z : SeatState). z.view) c.read-n.ensures.same in (
      let claim : 32 - c.args.i ≡ s = c.decreases in let k = q.low in let b = q.place in let d = c.if-i-n.false in omega arith,
      (
        c.live_row_at-item.ensures.same.0 ∙ ap (λ (z : SeatState). z.table) c.read-n.ensures.same ∙ c.requires.table,
        (
          (let k = q.low in let b = q.place in let d = c.if-i-n.false in omega arith),
          (t, nx.later, subst (λ v. Reaches v t) (sym same) up, here, nx.rest),
        ),
      ),
    )

pub returns-clause-rows : goal.returns-clause-rows
returns-clause-rows s c =
    IfOk-weaker c.list_leaf.result (λ u. (t : Tree) (zs : List Tree) → Reaches c.live_row_at-item.new.seat.view t → tree_word t ≡ suc c.args.node
    → Rest 0 t (c.args.i + 1) zs → c.list_leaf.new.out.items ≡ c.push.new.self.items ++ rows_of zs)
    (λ u. (t : Tree) (zs : List Tree) → Reaches c.args.seat.now.view t → tree_word t ≡ suc c.args.node → Rest 0 t c.args.i zs
    → c.list_leaf.new.out.items ≡ c.args.out.now.items ++ rows_of zs)
    (λ u g t zs up here r.
    let q = turn 0 t c.args.i zs r in
    let n = c.read-n.ensures.tree t up here in
    let nx = q.goes (λ e. c.if-i-n.false (e ∙ sym n)) in
    let read = subst (λ (z : SeatState). Reaches z.view t) (sym c.read-n.ensures.same) up in
    let same = c.live_row_at-item.ensures.same.1 ∙ ap (λ (z : SeatState). z.view) c.read-n.ensures.same in
    leaf-last c.args.out.now.items c.push.new.self.items c.list_leaf.new.out.items c.live_row_at-item.result zs q.ms nx.later nx.item
    (leaf-turn t c.args.i zs q) nx.split (c.live_row_at-item.ensures.row t nx.item read here r.low r.high nx.at) c.in_ok-push.ensures.items
    (g t nx.later (subst (λ v. Reaches v t) (sym same) up) here nx.rest)) c.list_leaf.ensures.rows
