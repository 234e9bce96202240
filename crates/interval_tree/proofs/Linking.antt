-- An owned node goes live under another, and what follows for the nodes above.
use Rattle.std.proofs.Common.{◌≡◌, ◌≢◌, ℕ, suc, ◌+◌, ◌<◌, ◌≤◌, ◌^◌, List, [], ◌∷◌, ◌++◌, length, length-append, append_assoc, sym, refl, ap, ◌∙◌, subst, arith}
use Rattle.row_pool.specs.Chains.{IsChain}
use Rattle.row_pool.specs.SeatView.{SeatView}
use Rattle.row_pool.specs.Trees.{Tree, depth, nil, tree_word}
use Rattle.row_pool.specs.declared.chain.Chain.{Chain}
use Rattle.latch_item.specs.Items.{Before}
use Rattle.latch_item.specs.Shape.{Each, Kid, Node, Sorted}
use Rattle.interval_tree.proofs.Depths.{node-shallow}
use Rattle.interval_tree.proofs.Frames.{owns-others, spends-add, spends-join, spends-leaves, spends-others}
use Rattle.interval_tree.proofs.Holes.{before-child, before-item, close, hole-links, hole-place, hole_front, hole_rest, item-place, named-items, named-kids}
use Rattle.interval_tree.proofs.Holes.{with-item}
use Rattle.interval_tree.proofs.Leading.{turned}
use Rattle.interval_tree.proofs.Lists.{before-trans, each-back, each-front, each-join, each-map, inserted-within, sorted-back, sorted-front, sorted-under}
use Rattle.interval_tree.proofs.Rows.{back-cons}
use Rattle.interval_tree.specs.Held.{HasRoom, IsNodeRow, OthersStand, OwnsNode, Spends}
use Rattle.interval_tree.specs.Nodes.{Differs, Hole, Inserted, hole_back, hole_end, item_front}
use Rattle.interval_tree.specs.States.{Filled, Halves, Opened, Whole}
use Rattle.interval_tree.specs.Steps.{CanInsert, CanLink, CanSwap, Inserts, LinkedNode, Links, Swaps, WentLive}

pub link-swap : (v p : SeatView) (row k child kind n sort m : ℕ) (us vs ws : List Tree) → OwnsNode v row kind n (us ++ nil ∷ vs) → length us ≡ k → k < 64
    → child ≢ row → length v.refs < 2 ^ 32 → WentLive v p child sort m ws → CanSwap p row k (child + 1)
link-swap v p row k child kind n sort m us vs ws o at low apart few g = (
  kind,
  n,
  us,
  vs,
  nil,
  g.tree,
  v.refs,
  owns-others child v p row kind n (us ++ nil ∷ vs) g.others (λ e. apart (sym e)) o,
  at,
  low,
  g.refs ∙ back-cons g.tree v.refs child g.is.here,
  (let a = g.is.here in omega arith),
  few,
)

pub linked-node : (v p w : SeatView) (row k child kind n sort m result : ℕ) (us vs ws : List Tree) → OwnsNode v row kind n (us ++ nil ∷ vs) → length us ≡ k
    → child ≢ row → WentLive v p child sort m ws → Swaps p w row k (child + 1) result → LinkedNode v w row child kind n sort m us vs ws
linked-node v p w row k child kind n sort m result us vs ws o at apart g swap =
    let z = swap kind n us vs nil g.tree v.refs (owns-others child v p row kind n (us ++ nil ∷ vs) g.others (λ e. apart (sym e)) o) at
    (g.refs ∙ back-cons g.tree v.refs child g.is.here) (let a = g.is.here in omega arith) in
    record { tree = g.tree; is = g.is; owns = z.1; refs = z.2 }

pub link-spends : (v p w : SeatView) (row child kind n sort m : ℕ) (us ws : List Tree) (rs : List ℕ) (c : Chain) → OwnsNode v row kind n us
    → OwnsNode v child sort m ws → child ≢ row → WentLive v p child sort m ws → OthersStand row p w → IsChain v c rs
    → Spends 0 (row ∷ child ∷ []) (row ∷ []) rs v w c
link-spends v p w row child kind n sort m us ws rs c o oc apart g others h =
    let a = spends-add row 0 (child ∷ []) [] rs v p c (spends-leaves v p child sort m ws c [] rs oc g.others g.gone h) in
    let b = spends-others p w row kind n us c [] a.left (owns-others child v p row kind n us g.others (λ e. apart (sym e)) o) others a.chain in
    spends-join 0 0 (row ∷ child ∷ []) (row ∷ []) (row ∷ []) rs v p w c c a b

-- a live node of at least 15 items is a child
pub kid-row-of : (h : ℕ) (t : Tree) (r kind n : ℕ) (us ys : List Tree) → IsNodeRow t r kind n us → 15 ≤ n → Node h kind n us ys → Kid (Node h) t ys
kid-row-of h t r kind n us ys s least node = record {
  row = r;
  here = s.here;
  least = (let a = s.count in omega arith);
  node = subst (λ (z : ℕ × (ℕ × List Tree)). Node h z.0 z.1.0 z.1.1 ys) (λ i. (sym s.kind_is i, (sym s.count i, sym s.links i))) node;
}

pub shallow : (h d kind n : ℕ) (us xs : List Tree) → h + 1 ≤ d → Node h kind n us xs → Each (λ u. depth u ≤ d) us
shallow h d kind n us xs low node = each-map us (λ u a. step (depth u) a) (node-shallow h kind n us xs node)
  where
    step : (k : ℕ) → k ≤ suc h → k ≤ d
    step k a = omega arith

-- ---- the child with its new item is linked again
pub closing : (h : ℕ) (v : SeatView) (row kind n child j : ℕ) (xs : List Tree) (it : Tree) (rest : List Tree) → h ≤ 1 → j ≤ 31
    → Filled h v row kind n child j xs it rest → CanLink v row (32 + j) child
closing h v row kind n child j xs it rest low high f = (
  kind,
  n,
  f.top ∷ hole_front f.hole,
  hole_back f.hole,
  f.sort,
  f.many,
  f.below,
  subst (OwnsNode v row kind n) (ap (λ l. f.top ∷ l) (hole-links h kind n f.us f.ps f.qs j f.hole)) f.owns,
  (let a = hole-place h kind n f.us f.ps f.qs j f.hole in omega arith),
  omega arith,
  f.owns_child,
  shallow h 3 f.sort f.many f.below f.zs (omega arith) f.node,
  f.apart,
  (let a = ap length f.refs in let b = f.few in omega arith),
)

pub closed : (h : ℕ) (v w : SeatView) (row kind n child j : ℕ) (xs : List Tree) (it : Tree) (rest : List Tree)
    → (f : Filled h v row kind n child j xs it rest) → Links v w row (32 + j) child → Whole (suc h) w row kind n xs it rest
closed h v w row kind n child j xs it rest f links =
    let z = links kind n (f.top ∷ hole_front f.hole) (hole_back f.hole) f.sort f.many f.below
    (subst (OwnsNode v row kind n) (ap (λ l. f.top ∷ l) (hole-links h kind n f.us f.ps f.qs j f.hole)) f.owns)
    (let a = hole-place h kind n f.us f.ps f.qs j f.hole in omega arith) f.owns_child f.apart in
    let more = subst (λ l. Inserted it l (f.ps ++ (f.zs ++ f.qs))) (sym f.list) (inserted-within it f.ps f.ys f.zs f.qs f.low f.high f.more) in
    record {
      us = (f.top ∷ hole_front f.hole) ++ z.tree ∷ hole_back f.hole;
      ys = f.ps ++ (f.zs ++ f.qs);
      owns = z.owns;
      node = close h kind n f.top f.us f.ps f.qs j f.hole z.tree f.zs (kid-row-of h z.tree child f.sort f.many f.below f.zs z.is f.least f.node)
          (f.tops (f.ps ++ (f.zs ++ f.qs)) more);
      more = more;
      refs = z.refs ∙ f.refs;
    }

-- ---- a full child in two halves
pub around : (ps ls : List Tree) (m : Tree) (rs qs : List Tree) → ps ++ ((ls ++ m ∷ rs) ++ qs) ≡ (ps ++ (ls ++ m ∷ [])) ++ (rs ++ qs)
around ps ls m rs qs = ap (λ l. ps ++ l) (append_assoc ls (m ∷ rs) qs)
    ∙ sym (append_assoc ps (ls ++ m ∷ []) (rs ++ qs) ∙ ap (λ l. ps ++ l) (append_assoc ls (m ∷ []) (rs ++ qs)))

-- the item goes to the right half
pub goes-right : (h : ℕ) (v w : SeatView) (row kind n : ℕ) (top : Tree) (child j item : ℕ) (xs : List Tree) (it : Tree) (rest : List Tree)
    → (o : Opened h v row kind n top child j item xs it rest) (right middle : ℕ) (s : SeatView)
    → (z : Halves h s child right middle o.sort o.ys (it ∷ rest)) (ws : List Tree) → Before z.m it → OwnsNode w row kind (n + 1) (top ∷ ws)
    → Hole h kind (n + 1) ws (o.ps ++ (z.ls ++ z.m ∷ [])) o.qs (j + 1) → right ≢ row → OwnsNode w right o.sort 15 z.vs → w.refs ≡ it ∷ rest
    → (p : Opened h w row kind (n + 1) top right (j + 1) item xs it rest) × (p.count < 31)
goes-right h v w row kind n top child j item xs it rest o right middle s z ws before owns hole apart half refs =
    let sorted = subst Sorted z.list o.sorted in
    let differs = subst (Each (Differs it)) z.list o.differs in (
      record {
        us = ws;
        ps = o.ps ++ (z.ls ++ z.m ∷ []);
        qs = o.qs;
        ys = z.rs;
        below = z.vs;
        sort = o.sort;
        count = 15;
        owns = owns;
        hole = hole;
        tops = o.tops;
        least = omega arith;
        list = o.list ∙ (λ i. o.ps ++ (z.list i ++ o.qs)) ∙ around o.ps z.ls z.m z.rs o.qs;
        low = each-join (λ y. Before y it) o.ps (z.ls ++ z.m ∷ []) o.low (each-join (λ y. Before y it) z.ls (z.m ∷ [])
            (each-map z.ls (λ y b. before-trans y z.m it b before) (sorted-under z.ls z.m z.rs sorted)) (before, tt));
        high = o.high;
        apart = apart;
        owns_child = half;
        node = z.right_node;
        sorted = (sorted-back z.ls (z.m ∷ z.rs) sorted).1;
        differs = (each-back (Differs it) z.ls (z.m ∷ z.rs) differs).1;
        latch = o.latch;
        here = o.here;
        refs = refs;
        few = o.few;
      },
      omega arith,
    )

pub goes-left : (h : ℕ) (v w : SeatView) (row kind n : ℕ) (top : Tree) (child j item : ℕ) (xs : List Tree) (it : Tree) (rest : List Tree)
    → (o : Opened h v row kind n top child j item xs it rest) (right middle : ℕ) (s : SeatView)
    → (z : Halves h s child right middle o.sort o.ys (it ∷ rest)) (ws : List Tree) → (Before z.m it → ⊥) → OwnsNode w row kind (n + 1) (top ∷ ws)
    → Hole h kind (n + 1) ws o.ps (z.m ∷ (z.rs ++ o.qs)) j → OwnsNode w child o.sort 15 z.us → w.refs ≡ it ∷ rest
    → (p : Opened h w row kind (n + 1) top child j item xs it rest) × (p.count < 31)
goes-left h v w row kind n top child j item xs it rest o right middle s z ws before owns hole half refs =
    let sorted = subst Sorted z.list o.sorted in
    let differs = subst (Each (Differs it)) z.list o.differs in
    let after : Before it z.m = turned it z.m before (each-back (Differs it) z.ls (z.m ∷ z.rs) differs).0 in (
      record {
        us = ws;
        ps = o.ps;
        qs = z.m ∷ (z.rs ++ o.qs);
        ys = z.ls;
        below = z.us;
        sort = o.sort;
        count = 15;
        owns = owns;
        hole = hole;
        tops = o.tops;
        least = omega arith;
        list = o.list ∙ (λ i. o.ps ++ (z.list i ++ o.qs)) ∙ ap (λ l. o.ps ++ l) (append_assoc z.ls (z.m ∷ z.rs) o.qs);
        low = o.low;
        high = (
          after,
          each-join (λ y. Before it y) z.rs o.qs
              (each-map z.rs (λ y b. before-trans it z.m y after b) (sorted-back z.ls (z.m ∷ z.rs) sorted).0) o.high,
        );
        apart = o.apart;
        owns_child = half;
        node = z.left_node;
        sorted = sorted-front z.ls (z.m ∷ z.rs) sorted;
        differs = each-front (Differs it) z.ls (z.m ∷ z.rs) differs;
        latch = o.latch;
        here = o.here;
        refs = refs;
        few = o.few;
      },
      omega arith,
    )

-- ---- a further item and a further link at the hole
pub hole-insert : (h : ℕ) (v : SeatView) (row i item kind n : ℕ) (top m : Tree) (us ps qs rest : List Tree) (o : Hole h kind n us ps qs i) → n < 31
    → OwnsNode v row kind n (top ∷ us) → tree_word m ≡ suc item → v.refs ≡ m ∷ rest → length rest < 2 ^ 31 + 1 → CanInsert v row (1 + i) (item + 1)
hole-insert h v row i item kind n top m us ps qs rest o low owns here refs few = (
  kind,
  n,
  top ∷ o.is,
  o.js,
  hole_rest o,
  m,
  rest,
  subst (OwnsNode v row kind n) (before-item h kind n top us ps qs i o low) owns,
  (let a = o.place in omega arith),
  named-items o.js o.items_right,
  (let a = o.place in let b = o.count in omega arith),
  refs ∙ back-cons m rest item here,
  omega arith,
  omega arith,
)

pub hole-inserted : (h : ℕ) (v w : SeatView) (row i item kind n : ℕ) (top m : Tree) (us ps qs rest : List Tree) (o : Hole h kind n us ps qs i) → n < 31
    → OwnsNode v row kind n (top ∷ us) → tree_word m ≡ suc item → v.refs ≡ m ∷ rest → Inserts v w row (1 + i) (item + 1)
    → OwnsNode w row kind n ((item_front o top m ++ nil ∷ []) ++ (o.ds ++ nil ∷ hole_end o)) × (w.refs ≡ rest)
hole-inserted h v w row i item kind n top m us ps qs rest o low owns here refs ins =
    let z = ins kind n (top ∷ o.is) o.js (hole_rest o) m rest (subst (OwnsNode v row kind n) (before-item h kind n top us ps qs i o low) owns)
    (let a = o.place in omega arith) (named-items o.js o.items_right) (refs ∙ back-cons m rest item here) (omega arith) in (
      subst (OwnsNode w row kind n) (with-item h kind n top m us ps qs i o ∙ ap (λ l. item_front o top m ++ nil ∷ l) (before-child h kind n us ps qs i o low)
          ∙ sym (append_assoc (item_front o top m) (nil ∷ []) (o.ds ++ nil ∷ hole_end o))) z.0,
      z.1,
    )

pub gap-place : (h kind n : ℕ) (top m x : Tree) (us ps qs : List Tree) (j : ℕ) (o : Hole h kind n us ps qs j) → n < 31
    → length (item_front o top m ++ x ∷ []) ≡ 33 + j
gap-place h kind n top m x us ps qs j o low =
    let a = item-place h kind n top m us ps qs j o low in omega (arith, length-append (item_front o top m) (x ∷ []))

pub gap-insert : (h : ℕ) (v : SeatView) (row i kind n : ℕ) (top m : Tree) (us ps qs : List Tree) (o : Hole h kind n us ps qs i) → n < 31
    → OwnsNode v row kind n ((item_front o top m ++ nil ∷ []) ++ (o.ds ++ nil ∷ hole_end o)) → length v.refs + 1 < 2 ^ 32 → CanInsert v row (33 + i) 0
gap-insert h v row i kind n top m us ps qs o low owns few = (
  kind,
  n,
  item_front o top m ++ nil ∷ [],
  o.ds,
  hole_end o,
  nil,
  v.refs,
  owns,
  gap-place h kind n top m nil us ps qs i o low,
  named-kids (Node h) o.ds o.zss o.kids_right,
  (let a = o.right in let b = o.count in let c = o.place in omega arith),
  refl,
  refl,
  few,
)

pub gap-inserted : (h : ℕ) (v w : SeatView) (row i kind n : ℕ) (top m : Tree) (us ps qs : List Tree) (o : Hole h kind n us ps qs i) → n < 31
    → OwnsNode v row kind n ((item_front o top m ++ nil ∷ []) ++ (o.ds ++ nil ∷ hole_end o)) → Inserts v w row (33 + i) 0
    → OwnsNode w row kind n ((item_front o top m ++ nil ∷ []) ++ nil ∷ (o.ds ++ hole_end o)) × (w.refs ≡ v.refs)
gap-inserted h v w row i kind n top m us ps qs o low owns ins = ins kind n (item_front o top m ++ nil ∷ []) o.ds (hole_end o) nil v.refs owns
    (gap-place h kind n top m nil us ps qs i o low) (named-kids (Node h) o.ds o.zss o.kids_right) refl refl

-- ---- room in a chain
pub room-after : (j k : ℕ) (xs ys : List ℕ) (v w : SeatView) (c d : Chain) → ((rs : List ℕ) → IsChain v c rs → Spends j xs ys rs v w d) → HasRoom (j + k) v c
    → HasRoom k w d
room-after j k xs ys v w c d spends (rs, h, many) = let s = spends rs h in (s.left, s.chain, let a = s.spent in omega arith)

pub room-less : (j k : ℕ) (v : SeatView) (c : Chain) → j ≤ k → HasRoom k v c → HasRoom j v c
room-less j k v c le (rs, h, many) = (rs, h, omega arith)
