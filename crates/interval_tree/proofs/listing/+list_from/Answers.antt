use Rattle.std.proofs.Common.{◌≡◌, ◌≢◌, ℕ, suc, ◌+◌, ◌-◌, ◌*◌, List, ◌++◌, append-nil, ap, sym, subst, ◌∙◌, inl, arith}
use Rattle.std.proofs.lemmas.Result.{IfOk-weaker}
use Rattle.row_pool.specs.Trees.{Tree, tree_word}
use Rattle.row_pool.specs.SeatState.{SeatState, OwnsOrReachesAs}
use Rattle.row_pool.specs.Layout.{IsContent}
use Rattle.row_pool.specs.Views.{Reaches, below}
use Rattle.latch_item.specs.Items.{word}
use Rattle.latch_item.specs.Shape.{Kid, Node}
use Rattle.interval_tree.specs.Listings.{Rest, rows_of}
use Rattle.interval_tree.proofs.Rows.{content-low}
use Rattle.interval_tree.proofs.InOrder.{Turn, turn, rest-start, inner-last}
use Rattle.interval_tree.proofs.listing.+list_from.Goals as goal

-- the node's level is not 0
at-level : (level i : ℕ) (t : Tree) (zs : List Tree) → level ≢ 0 → Rest level t i zs → Turn (suc (level - 1)) t i zs
at-level level i t zs ne r = let e : level ≡ suc (level - 1) = omega arith in turn (suc (level - 1)) t i zs (subst (λ k. Rest k t i zs) e r)

-- the child and where it stands
child-of : (h : ℕ) (t : Tree) (i : ℕ) (zs : List Tree) (q : Turn (suc h) t i zs) → Kid (Node h) q.child q.ys
child-of h t i zs q = q.part

pub returns-then-level-eq0-clause-rows : goal.returns-then-level-eq0-clause-rows
returns-then-level-eq0-clause-rows s c =
    IfOk-weaker c.list_leaf.result (λ u. (t : Tree) (zs : List Tree) → Reaches c.args.seat.now.view t → tree_word t ≡ suc c.args.node → Rest 0 t c.args.i zs
    → c.list_leaf.new.out.items ≡ c.args.out.now.items ++ rows_of zs)
    (λ u. (t : Tree) (zs : List Tree) → Reaches c.args.seat.now.view t → tree_word t ≡ suc c.args.node → Rest c.args.level t c.args.i zs
    → c.list_leaf.new.out.items ≡ c.args.out.now.items ++ rows_of zs)
    (λ u g t zs up here r. g t zs up here (subst (λ k. Rest k t c.args.i zs) c.if-level-eq0.true r)) c.list_leaf.ensures.rows

pub list_leaf-requires-clause-rest : goal.list_leaf-requires-clause-rest
list_leaf-requires-clause-rest s c =
    let (t, zs, up, here, r) = c.requires.rest in (t, zs, up, here, subst (λ k. Rest k t c.args.i zs) c.if-level-eq0.true r)

pub live_row_at-child-requires-clause-link : goal.live_row_at-child-requires-clause-link
live_row_at-child-requires-clause-link s c =
    let (t, zs, up, here, r) = c.requires.rest in
    let q = at-level c.args.level c.args.i t zs c.if-level-eq0.false r in
    let k = child-of (c.args.level - 1) t c.args.i zs q in
    (t, q.child, up, here, r.low, r.high, (let a = q.place in let b = q.low in omega arith), q.at, let a = k.here in omega arith)

pub list_from-requires : goal.list_from-requires
list_from-requires s c =
    let (t, zs, up, here, r) = c.requires.rest in
    let q = at-level c.args.level c.args.i t zs c.if-level-eq0.false r in
    let k = child-of (c.args.level - 1) t c.args.i zs q in
    let b = c.if-level-eq0.false in (
      let claim : c.args.level * 64 + (32 - c.args.i) ≡ s = c.decreases in omega arith,
      (
        c.live_row_at-child.ensures.same.0 ∙ c.requires.table,
        (
          ((let a = c.requires.low in omega arith), omega arith),
          (
            q.child,
            q.ys,
            subst (λ v. Reaches v q.child) (sym c.live_row_at-child.ensures.same.1) (below (32 + c.args.i) up q.at),
            c.live_row_at-child.ensures.row t q.child up here r.low r.high q.at,
            rest-start (c.args.level - 1) q.child q.ys k.node,
          ),
        ),
      ),
    )

pub read-n-requires-clause-reachable : goal.read-n-requires-clause-reachable
read-n-requires-clause-reachable s c =
    let (t, zs, up, here, r) = c.requires.rest in
    subst (λ v. OwnsOrReachesAs (λ kind. IsContent kind 2) v c.args.node) (sym (c.list_from.ensures.same.1 ∙ c.live_row_at-child.ensures.same.1))
    (inl (t, up, here, content-low (word t 1) 2 r.low (omega arith) (omega arith)))

pub returns-then-i-n-clause-rows : goal.returns-then-i-n-clause-rows
returns-then-i-n-clause-rows s c = λ t zs up here r.
    let q = at-level c.args.level c.args.i t zs c.if-level-eq0.false r in
    let k = child-of (c.args.level - 1) t c.args.i zs q in
    let same = c.list_from.ensures.same.1 ∙ c.live_row_at-child.ensures.same.1 in
    let n = c.read-n.ensures.tree t (subst (λ v. Reaches v t) (sym same) up) here in
    let first = c.in_ok-list_from.ensures.rows q.child q.ys
    (subst (λ v. Reaches v q.child) (sym c.live_row_at-child.ensures.same.1) (below (32 + c.args.i) up q.at))
    (c.live_row_at-child.ensures.row t q.child up here r.low r.high q.at) (rest-start (c.args.level - 1) q.child q.ys k.node) in
    let none = q.ends (c.if-i-n.true ∙ n) in
    first ∙ ap (λ l. c.args.out.now.items ++ rows_of l) (sym (append-nil q.ys) ∙ ap (λ l. q.ys ++ l) (sym none) ∙ sym q.list)

pub live_row_at-item-requires-clause-link : goal.live_row_at-item-requires-clause-link
live_row_at-item-requires-clause-link s c =
    let (t, zs, up, here, r) = c.requires.rest in
    let q = at-level c.args.level c.args.i t zs c.if-level-eq0.false r in
    let two = c.list_from.ensures.same.1 ∙ c.live_row_at-child.ensures.same.1 in
    let n = c.read-n.ensures.tree t (subst (λ v. Reaches v t) (sym two) up) here in
    let nx = q.goes (λ e. c.if-i-n.false (e ∙ sym n)) in
    let same = ap (λ (z : SeatState). z.view) c.read-n.ensures.same ∙ two in (
      t,
      nx.item,
      subst (λ v. Reaches v t) (sym same) up,
      here,
      r.low,
      r.high,
      (let a = q.place in let b = q.low in omega arith),
      nx.at,
      let a = nx.latch.here in omega arith,
    )

pub list_from-requires-2 : goal.list_from-requires-2
list_from-requires-2 s c =
    let (t, zs, up, here, r) = c.requires.rest in
    let q = at-level c.args.level c.args.i t zs c.if-level-eq0.false r in
    let two = c.list_from.ensures.same.1 ∙ c.live_row_at-child.ensures.same.1 in
    let n = c.read-n.ensures.tree t (subst (λ v. Reaches v t) (sym two) up) here in
    let nx = q.goes (λ e. c.if-i-n.false (e ∙ sym n)) in
    let same = c.live_row_at-item.ensures.same.1 ∙ ap (λ (z : SeatState). z.view) c.read-n.ensures.same ∙ two in
    let e : suc (c.args.level - 1) ≡ c.args.level = (let a = c.if-level-eq0.false in omega arith) in (
      let claim : c.args.level * 64 + (32 - c.args.i) ≡ s = c.decreases in let k = q.low in let b = q.place in let d = c.if-i-n.false in omega arith,
      (
        c.live_row_at-item.ensures.same.0 ∙ ap (λ (z : SeatState). z.table) c.read-n.ensures.same ∙ c.list_from.ensures.same.0
            ∙ c.live_row_at-child.ensures.same.0 ∙ c.requires.table,
        (
          ((let a = c.requires.low in omega arith), let k = q.low in let b = q.place in let d = c.if-i-n.false in omega arith),
          (t, nx.later, subst (λ v. Reaches v t) (sym same) up, here, subst (λ k. Rest k t (c.args.i + 1) nx.later) e nx.rest),
        ),
      ),
    )

pub returns-clause-rows : goal.returns-clause-rows
returns-clause-rows s c =
    IfOk-weaker c.list_from-2.result (λ u. (t : Tree) (zs : List Tree) → Reaches c.live_row_at-item.new.seat.view t → tree_word t ≡ suc c.args.node
    → Rest c.args.level t (c.args.i + 1) zs → c.list_from-2.new.out.items ≡ c.push.new.self.items ++ rows_of zs)
    (λ u. (t : Tree) (zs : List Tree) → Reaches c.args.seat.now.view t → tree_word t ≡ suc c.args.node → Rest c.args.level t c.args.i zs
    → c.list_from-2.new.out.items ≡ c.args.out.now.items ++ rows_of zs)
    (λ u g t zs up here r.
    let q = at-level c.args.level c.args.i t zs c.if-level-eq0.false r in
    let k = child-of (c.args.level - 1) t c.args.i zs q in
    let two = c.list_from.ensures.same.1 ∙ c.live_row_at-child.ensures.same.1 in
    let n = c.read-n.ensures.tree t (subst (λ v. Reaches v t) (sym two) up) here in
    let nx = q.goes (λ e. c.if-i-n.false (e ∙ sym n)) in
    let three = ap (λ (z : SeatState). z.view) c.read-n.ensures.same ∙ two in
    let same = c.live_row_at-item.ensures.same.1 ∙ three in
    let e : suc (c.args.level - 1) ≡ c.args.level = (let a = c.if-level-eq0.false in omega arith) in
    let first = c.in_ok-list_from.ensures.rows q.child q.ys
    (subst (λ v. Reaches v q.child) (sym c.live_row_at-child.ensures.same.1) (below (32 + c.args.i) up q.at))
    (c.live_row_at-child.ensures.row t q.child up here r.low r.high q.at) (rest-start (c.args.level - 1) q.child q.ys k.node) in
    inner-last c.args.out.now.items c.list_from.new.out.items c.push.new.self.items c.list_from-2.new.out.items c.live_row_at-item.result zs q.ys q.ms
    nx.later nx.item q.list first nx.split
    (c.live_row_at-item.ensures.row t nx.item (subst (λ v. Reaches v t) (sym three) up) here r.low r.high nx.at) c.in_ok-push.ensures.items
    (g t nx.later (subst (λ v. Reaches v t) (sym same) up) here (subst (λ k. Rest k t (c.args.i + 1) nx.later) e nx.rest))) c.list_from-2.ensures.rows
