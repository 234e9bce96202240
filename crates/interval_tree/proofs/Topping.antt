-- The first link of a node is set.
use Rattle.std.proofs.Common.{◌≡◌, ◌≢◌, ⊎_elim, ℕ, zero, suc, ◌+◌, ◌-◌, ◌<◌, ◌≤◌, ◌^◌, List, [], ◌∷◌, ◌++◌, length, replicate, length-append}
use Rattle.std.proofs.Common.{append_assoc, sym, refl, ap, ◌∙◌, subst, arith}
use Rattle.std.proofs.lemmas.List.{length-replicate}
use Rattle.row_pool.proofs.NewestRef.{tree_of-first, without_tree-first}
use Rattle.row_pool.specs.Chains.{ChainGrows, IsChain}
use Rattle.row_pool.specs.Changes.{tree_of, with_old_target, with_ref, without_tree}
use Rattle.row_pool.specs.SeatView.{SeatView}
use Rattle.row_pool.specs.Trees.{Tree, nil, tree_word}
use Rattle.row_pool.specs.declared.chain.Chain.{Chain}
use Rattle.latch_item.specs.Items.{BoundUpTo, IsLatch}
use Rattle.latch_item.specs.Shape.{Among, Each, IsTop, Pairs, Sorted, Spread, weave}
use Rattle.interval_tree.proofs.Copying.{held-others}
use Rattle.interval_tree.proofs.Frames.{others-join, owns-grows, owns-same, spends-grows, spends-join, spends-others}
use Rattle.interval_tree.proofs.Greatest.{weave-below, weave-each, weave-item}
use Rattle.interval_tree.proofs.Holes.{pairs-length}
use Rattle.interval_tree.proofs.Lists.{among-front, among-here, bound-trans, each-back, each-front, each-join, each-map}
use Rattle.interval_tree.proofs.Rows.{back-cons, named-zero, up-link}
use Rattle.interval_tree.proofs.Singles.{singles-before}
use Rattle.interval_tree.proofs.Weaves.{sorted-items}
use Rattle.interval_tree.specs.Held.{OthersStand, OwnsNode, Spends}
use Rattle.interval_tree.specs.Nodes.{Body, LevelKid, Many, joined}
use Rattle.interval_tree.specs.States.{Best, Greatest, ReachesItem}
use Rattle.interval_tree.specs.Steps.{BestBelow, BestItem, CanSwap, HasChildren, HasItems, LeadsTo, SingleUpTo, Swaps}

-- the last of some items, and those in front of it
pub record Ends (xs : List Tree) : Type 0 where
  pub front : List Tree
  pub last : Tree
  pub whole : xs ≡ front ++ last ∷ []

pub ends : (x : Tree) (xs : List Tree) → Ends (x ∷ xs)
ends x [] = record { front = []; last = x; whole = refl }
ends x (y ∷ ys) = let e = ends y ys in record { front = x ∷ e.front; last = e.last; whole = ap (λ l. x ∷ l) e.whole }

-- the links as the search meets them: the last item, those in front of it, and the children
pub record Meets (h kind n : ℕ) (us xs : List Tree) : Type 0 where
  pub top : Tree
  pub tail : List Tree
  pub its : List Tree
  pub last : Tree
  pub cs : List Tree
  pub yss : List (List Tree)
  pub vs : List Tree
  pub ws : List Tree
  pub front : List Tree
  pub whole : us ≡ top ∷ tail
  pub one : us ≡ top ∷ (its ++ last ∷ vs)
  pub three : us ≡ front ++ (cs ++ ws)
  pub long : length front ≡ 32
  pub few : suc (length its) ≡ n
  pub low : n ≤ 31
  pub many : Many h (length cs) n
  pub latch : IsLatch last
  pub items : Each IsLatch its
  pub pairs : Pairs (LevelKid h) cs yss
  pub list : xs ≡ weave (its ++ last ∷ []) yss
  pub lists_few : length yss ≤ suc (length (its ++ last ∷ []))

pub many-low : (h c n : ℕ) → Many h c n → c ≤ suc n
many-low zero c n m = omega arith
many-low (suc h) c n m = omega arith

pub many-same : (h a b n : ℕ) → Many h a n → Many h b n → a ≡ b
many-same zero a b n p q = p ∙ sym q
many-same (suc h) a b n p q = p ∙ sym q

pub meets : (h kind n : ℕ) (us xs : List Tree) → Body h kind n us xs → 1 ≤ n → Meets h kind n us xs
meets h kind n us xs b some_items = start b.its b.spread b.list b.items
  where
    go : (its : List Tree) (last : Tree) → Spread n us b.top (its ++ last ∷ []) b.cs → xs ≡ weave (its ++ last ∷ []) b.yss
        → Each IsLatch (its ++ last ∷ []) → Meets h kind n us xs
    go its last s l i =
        let m = many-low h (length b.cs) n b.many in
        let e = pairs-length (LevelKid h) b.cs b.yss b.below in
        record {
          top = b.top;
          tail = ((its ++ last ∷ []) ++ replicate s.free nil) ++ (b.cs ++ replicate s.room nil);
          its = its;
          last = last;
          cs = b.cs;
          yss = b.yss;
          vs = replicate s.free nil ++ (b.cs ++ replicate s.room nil);
          ws = replicate s.room nil;
          front = b.top ∷ ((its ++ last ∷ []) ++ replicate s.free nil);
          whole = s.links;
          one = s.links ∙ ap (λ l. b.top ∷ l) (append_assoc (its ++ last ∷ []) (replicate s.free nil) (b.cs ++ replicate s.room nil)
              ∙ append_assoc its (last ∷ []) (replicate s.free nil ++ (b.cs ++ replicate s.room nil)));
          three = s.links;
          long = (let a = s.count in let c = s.items in let d = length-replicate {A = Tree} s.free nil in
              let g = length-append (its ++ last ∷ []) (replicate s.free nil) in omega arith);
          few = (let a = s.count in let c = length-append its (last ∷ []) in omega arith);
          low = (let a = s.items in omega arith);
          many = b.many;
          latch = (each-back IsLatch its (last ∷ []) i).0;
          items = each-front IsLatch its (last ∷ []) i;
          pairs = b.below;
          list = l;
          lists_few = (let a = s.count in omega arith);
        }

    start : (its : List Tree) → Spread n us b.top its b.cs → xs ≡ weave its b.yss → Each IsLatch its → Meets h kind n us xs
    start [] s l i = absurd (let a = s.count in omega arith)
    start (x ∷ its) s l i =
        let e = ends x its in
        go e.front e.last (subst (λ k. Spread n us b.top k b.cs) e.whole s) (l ∙ ap (λ k. weave k b.yss) e.whole) (subst (Each IsLatch) e.whole i)

pub many-inner : (h kind n : ℕ) (us xs : List Tree) → Body h kind n us xs → kind ≡ 3 → Many h (n + 1) n
many-inner zero kind n us xs b is = absurd (let a = b.is in omega arith)
many-inner (suc h) kind n us xs b is = omega arith

pub many-leaf : (h kind n : ℕ) (us xs : List Tree) → Body h kind n us xs → kind ≢ 3 → Many h 0 n
many-leaf zero kind n us xs b ne = refl
many-leaf (suc h) kind n us xs b ne = absurd (ne b.is)

pub body-most : (h kind n : ℕ) (us xs : List Tree) → Body h kind n us xs → n ≤ 31
body-most h kind n us xs b = let a = b.spread.items in omega arith

-- the greatest of all
pub found : (v : SeatView) (h kind n : ℕ) (us xs : List Tree) (m : Meets h kind n us xs) (i best : ℕ) (x : Best v m.last m.its i)
    → Best v x.item (joined m.yss) best → Greatest v xs best
found v h kind n us xs m i best x y =
    let all : List Tree = m.its ++ m.last ∷ [] in
    record {
      item = y.item;
      reached = y.reached;
      greatest = subst (IsTop y.item) (sym m.list) (record {
        among = ⊎_elim (λ (e : y.item ≡ x.item). weave-item y.item all m.yss (⊎_elim
            (λ (g : x.item ≡ m.last). subst (λ t. Among t all) (sym (e ∙ g)) (among-here m.last m.its []))
            (λ g. among-front y.item m.its (m.last ∷ []) (subst (λ t. Among t m.its) (sym e) g)) x.origin))
            (λ a. weave-below y.item all m.yss m.lists_few a) y.origin;
        most = weave-each (BoundUpTo y.item) all m.yss (each-join (BoundUpTo y.item) m.its (m.last ∷ [])
            (each-map m.its (λ q g. bound-trans y.item x.item q y.over g) x.most) (bound-trans y.item x.item m.last y.over x.over, tt)) y.most;
      });
    }

-- the items in front of the last, and the children
pub meets-last : (v : SeatView) (row h kind n last : ℕ) (us xs : List Tree) (m : Meets h kind n us xs) → OwnsNode v row kind n us → LeadsTo v row n last
    → ReachesItem v m.last last
meets-last v row h kind n last us xs m o leads =
    let a = subst (OwnsNode v row kind n) m.one o in
    (up-link v row kind n (m.top ∷ m.its) m.vs m.last n a m.few, leads kind n (m.top ∷ m.its) m.vs m.last a m.few, m.latch)

meets-singles : (h kind n : ℕ) (us xs : List Tree) (m : Meets h kind n us xs) → Sorted xs → Each (SingleUpTo m.last) m.its
meets-singles h kind n us xs m sorted = singles-before m.its m.last m.latch (sorted-items (m.its ++ m.last ∷ []) m.yss (subst Sorted m.list sorted))

pub meets-items : (v : SeatView) (row h kind n last : ℕ) (us xs : List Tree) (m : Meets h kind n us xs) → OwnsNode v row kind n us → LeadsTo v row n last
    → Sorted xs → HasItems v row 1 (n - 1) last
meets-items v row h kind n last us xs m o leads sorted = (
  kind,
  n,
  m.top ∷ [],
  m.its,
  m.last ∷ m.vs,
  m.last,
  subst (OwnsNode v row kind n) m.one o,
  refl,
  (let b = m.few in omega arith),
  (let b = m.low in omega arith),
  m.items,
  meets-last v row h kind n last us xs m o leads,
  meets-singles h kind n us xs m sorted,
)

pub meets-best : (v : SeatView) (row h kind n last item : ℕ) (us xs : List Tree) (m : Meets h kind n us xs) → OwnsNode v row kind n us
    → LeadsTo v row n last → Sorted xs → BestItem v row 1 (n - 1) last item → Best v m.last m.its item
meets-best v row h kind n last item us xs m o leads sorted best =
    best kind n (m.top ∷ []) m.its (m.last ∷ m.vs) m.last (subst (OwnsNode v row kind n) m.one o) refl
    (let b = m.few in omega arith) m.items (meets-last v row h kind n last us xs m o leads) (meets-singles h kind n us xs m sorted)

pub meets-children : (v : SeatView) (row h kind n count item : ℕ) (us xs : List Tree) (m : Meets h kind n us xs) → OwnsNode v row kind n us → Many h count n
    → Best v m.last m.its item → HasChildren v row 32 count item
meets-children v row h kind n count item us xs m o many x = (
  h,
  kind,
  n,
  m.front,
  m.cs,
  m.ws,
  m.yss,
  x.item,
  subst (OwnsNode v row kind n) m.three o,
  m.long,
  many-same h (length m.cs) count n m.many many,
  (let a = many-low h count n many in let b = m.low in omega arith),
  m.pairs,
  x.reached,
)

pub meets-found : (v : SeatView) (row h kind n count item result : ℕ) (us xs : List Tree) (m : Meets h kind n us xs) → OwnsNode v row kind n us
    → Many h count n → Best v m.last m.its item → BestBelow v row 32 count item result → Greatest v xs result
meets-found v row h kind n count item result us xs m o many x best = found v h kind n us xs m item result x
    (best h kind n m.front m.cs m.ws m.yss x.item (subst (OwnsNode v row kind n) m.three o) m.long (many-same h (length m.cs) count n m.many many) m.pairs
    x.reached)

-- ---- the first link takes another item
pub replace-swap : (v w : SeatView) (row item kind n : ℕ) (u t : Tree) (us : List Tree) → OwnsNode v row kind n (u ∷ us) → tree_word t ≡ suc item
    → w ≡ with_ref t v → length v.refs + 1 < 2 ^ 32 → CanSwap w row 0 (item + 1)
replace-swap v w row item kind n u t us o here move few = (
  kind,
  n,
  [],
  us,
  u,
  t,
  v.refs,
  owns-same v w row kind n (u ∷ us) (ap (λ (z : SeatView). z.owned) move) o,
  refl,
  omega arith,
  ap (λ (z : SeatView). z.refs) move ∙ back-cons t v.refs item here,
  omega arith,
  omega arith,
)

-- after the swap
pub record Swapped (v x : SeatView) (row kind n old : ℕ) (u t : Tree) (us : List Tree) : Type 0 where
  pub is : old ≡ tree_word u
  pub owns : OwnsNode x row kind n (t ∷ us)
  pub refs : x.refs ≡ with_old_target u v.refs
  pub others : OthersStand row v x

pub swapped-top : (v w x : SeatView) (row item kind n old : ℕ) (u t : Tree) (us : List Tree) → OwnsNode v row kind n (u ∷ us) → tree_word t ≡ suc item
    → w ≡ with_ref t v → Swaps w x row 0 (item + 1) old → OthersStand row w x → Swapped v x row kind n old u t us
swapped-top v w x row item kind n old u t us o here move swap others =
    let z = swap kind n [] us u t v.refs (owns-same v w row kind n (u ∷ us) (ap (λ (z : SeatView). z.owned) move) o) refl
    (ap (λ (z : SeatView). z.refs) move ∙ back-cons t v.refs item here) (omega arith) in
    record { is = z.0; owns = z.1; refs = z.2; others = others-join v w x row (held-others v w t row move) others }

-- the old item goes
pub old-first : (v x : SeatView) (row kind n old : ℕ) (u t : Tree) (us : List Tree) → Swapped v x row kind n old u t us → old ≢ 0
    → x.refs ≡ u ∷ v.refs
old-first v x row kind n old u t us s ne = s.refs ∙ sym (back-cons u v.refs (old - 1) (let a = s.is in omega arith))

pub old-named : (v x : SeatView) (row kind n old : ℕ) (u t : Tree) (us : List Tree) → Swapped v x row kind n old u t us → old ≢ 0
    → tree_word (tree_of (old - 1) x.refs) ≡ suc (old - 1)
old-named v x row kind n old u t us s ne =
    let here : tree_word u ≡ suc (old - 1) = (let a = s.is in omega arith) in
    ap (λ ts. tree_word (tree_of (old - 1) ts)) (old-first v x row kind n old u t us s ne) ∙ ap tree_word (tree_of-first (old - 1) u v.refs here) ∙ here

-- what replacing the first link does
pub record Replaced (v w : SeatView) (row kind n : ℕ) (t : Tree) (us : List Tree) (c d : Chain) : Type 0 where
  pub owns : OwnsNode w row kind n (t ∷ us)
  pub refs : w.refs ≡ v.refs
  pub spends : (rs : List ℕ) → IsChain v c rs → Spends 0 (row ∷ []) (row ∷ []) rs v w d

pub replaced-some : (v x w : SeatView) (row kind n old : ℕ) (u t : Tree) (us : List Tree) (c d : Chain) → OwnsNode v row kind n (u ∷ us)
    → Swapped v x row kind n old u t us → old ≢ 0 → w.refs ≡ without_tree (old - 1) x.refs → ChainGrows x w c d → Replaced v w row kind n t us c d
replaced-some v x w row kind n old u t us c d o s ne refs grows =
    let here : tree_word u ≡ suc (old - 1) = (let a = s.is in omega arith) in
    record {
      owns = owns-grows grows.more x w row kind n (t ∷ us) grows.owns_more s.owns;
      refs = refs ∙ ap (without_tree (old - 1)) (old-first v x row kind n old u t us s ne) ∙ without_tree-first (old - 1) u v.refs here;
      spends = λ rs h.
          let a = spends-others v x row kind n (u ∷ us) c [] rs o s.others h in
          spends-join 0 0 (row ∷ []) (row ∷ []) (row ∷ []) rs v x w c d a (spends-grows x w c d (row ∷ []) a.left grows a.chain);
    }

pub replaced-none : (v x : SeatView) (row kind n old : ℕ) (u t : Tree) (us : List Tree) (c : Chain) → OwnsNode v row kind n (u ∷ us)
    → Swapped v x row kind n old u t us → old ≡ 0 → Replaced v x row kind n t us c c
replaced-none v x row kind n old u t us c o s empty = record {
  owns = s.owns;
  refs = s.refs ∙ ap (λ z. with_old_target z v.refs) (named-zero u (sym s.is ∙ empty));
  spends = λ rs h. spends-others v x row kind n (u ∷ us) c [] rs o s.others h;
}
