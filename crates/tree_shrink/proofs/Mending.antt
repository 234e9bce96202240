-- Lists around a child that gets more.
use Rattle.std.proofs.Common.{List, [], ap, append-nil, append_assoc, arith, length, refl, subst, suc, sym, ℕ, ◌++◌, ◌+◌, ◌-◌, ◌<◌, ◌^◌, ◌∙◌, ◌∷◌, ◌≡◌, ◌≢◌}
use Rattle.std.proofs.Common.{◌≤◌}
use Rattle.row_pool.specs.Chains.{IsChain}
use Rattle.row_pool.specs.Changes.{with_old_target}
use Rattle.row_pool.specs.SeatView.{SeatView}
use Rattle.row_pool.specs.Trees.{Tree, children, nil, tree_word}
use Rattle.row_pool.specs.declared.chain.Chain.{Chain}
use Rattle.latch_item.specs.Items.{IsLatch, word}
use Rattle.latch_item.specs.Shape.{Kid, Node, Sorted}
use Rattle.interval_tree.proofs.Linking.{kid-row-of, shallow}
use Rattle.interval_tree.proofs.Lists.{sorted-back, sorted-front}
use Rattle.interval_tree.proofs.Rows.{back-cons}
use Rattle.interval_tree.specs.Held.{OthersStand, OwnsNode, Spends}
use Rattle.interval_tree.specs.Listings.{Part}
use Rattle.interval_tree.specs.Steps.{CanLink, CanSwap, Links, Swaps}
use Rattle.tree_shrink.proofs.Bench.{Bench, Owned, bench-apart, bench-call, bench-links, bench-more, bench-start, bench-step, bench-third, bench-turn}
use Rattle.tree_shrink.proofs.Bench.{node_at, two-apart}
use Rattle.tree_shrink.proofs.Lending.{old-long}
use Rattle.tree_shrink.proofs.Seams.{item_back, item_front, kid-place, kid_back, kid_front, next-place, seam-item, seam-kid, seam-next}
use Rattle.tree_shrink.specs.Slots.{Leftward, Rightward, Seam, Slot, cut_links, seam_links, slot_links}
use Rattle.tree_shrink.specs.Stages.{Gains, Joins, Lent, Open, Roomy}
use Rattle.tree_shrink.specs.Steps.{CanCut, CanTake, CanWeigh, Cuts, SpendsAll, Takes, Weighs}

-- what was in front of the child and is in it now, and what was behind it
pub front-moves : (ps ls l ls2 l2 : List Tree) (s m : Tree) → ps ≡ ls ++ (l ++ s ∷ []) → l ≡ ls2 ++ m ∷ l2 → ps ≡ (ls ++ (ls2 ++ m ∷ [])) ++ (l2 ++ s ∷ [])
front-moves ps ls l ls2 l2 s m a b = a ∙ (λ i. ls ++ (b i ++ s ∷ [])) ∙ simp append_assoc

pub wider-front : (l ys : List Tree) (s : Tree) → l ++ s ∷ ys ≡ (l ++ s ∷ []) ++ (ys ++ [])
wider-front l ys s = simp (append_assoc, append-nil)

pub back-moves : (qs l rs ls2 l2 : List Tree) (s m : Tree) → qs ≡ s ∷ (l ++ rs) → l ≡ l2 ++ m ∷ ls2 → qs ≡ (s ∷ l2) ++ (m ∷ (ls2 ++ rs))
back-moves qs l rs ls2 l2 s m a b = a ∙ ap (λ z. s ∷ z) ((λ i. b i ++ rs) ∙ append_assoc l2 (m ∷ ls2) rs)

-- the whole list is as it was
pub all-stays : (xs ps ys qs ps2 ys2 qs2 front back : List Tree) → xs ≡ ps ++ (ys ++ qs) → ps ≡ ps2 ++ front → ys2 ≡ front ++ (ys ++ back)
    → qs ≡ back ++ qs2 → xs ≡ ps2 ++ (ys2 ++ qs2)
all-stays xs ps ys qs ps2 ys2 qs2 front back a b d e = a ∙ (λ i. b i ++ (ys ++ e i)) ∙ append_assoc ps2 front (ys ++ (back ++ qs2))
    ∙ ap (λ z. ps2 ++ z) (ap (λ z. front ++ z) (sym (append_assoc ys back qs2)) ∙ sym (append_assoc front (ys ++ back) qs2)) ∙ (λ i. ps2 ++ (sym d i ++ qs2))

-- the state that is reached
pub roomy : (h : ℕ) (v w : SeatView) (row n child j : ℕ) (xs ps ys qs rest : List Tree) (o : Open h v row n child j xs ps ys qs rest) (m goes k : ℕ)
    (ps2 ys2 qs2 front back : List Tree) (slot : Slot (suc h) m ps2 qs2 k) (sort count : ℕ) (below : List Tree)
    → ps ≡ ps2 ++ front → ys2 ≡ front ++ (ys ++ back) → qs ≡ back ++ qs2 → OwnsNode w row 3 m (slot_links slot o.top nil) → goes ≢ row
    → OwnsNode w goes sort count below → Node h sort count below ys2 → 16 ≤ count → w.refs ≡ rest → Roomy h w row m goes k xs ps ys qs rest
roomy h v w row n child j xs ps ys qs rest o m goes k ps2 ys2 qs2 front back slot sort count below before wider behind owns apart owns_child node room refs =
    record {
      n = m;
      ps2 = ps2;
      ys2 = ys2;
      qs2 = qs2;
      front = front;
      back = back;
      before = before;
      wider = wider;
      behind = behind;
      state = record {
        top = o.top;
        slot = slot;
        owns = owns;
        greatest = o.greatest;
        list = all-stays xs ps ys qs ps2 ys2 qs2 front back o.list before wider behind;
        sorted = o.sorted;
        apart = apart;
        sort = sort;
        count = count;
        below = below;
        owns_child = owns_child;
        node = node;
        least = (omega arith);
        refs = refs;
        few = o.few;
      };
      room = room;
      many = (omega arith);
    }

pub roomy-less : (h : ℕ) (w : SeatView) (row m k child j : ℕ) (xs ps ys qs rest : List Tree) → k ≤ m → Roomy h w row m child j xs ps ys qs rest
    → Roomy h w row k child j xs ps ys qs rest
roomy-less h w row m k child j xs ps ys qs rest le r = record {
  n = r.n;
  ps2 = r.ps2;
  ys2 = r.ys2;
  qs2 = r.qs2;
  front = r.front;
  back = r.back;
  before =
      r.before;
  wider = r.wider;
  behind = r.behind;
  state = r.state;
  room = r.room;
  many = (let a = r.many in omega arith);
}

-- a child that has enough
pub roomy-now : (h : ℕ) (v : SeatView) (row n child j : ℕ) (xs ps ys qs rest : List Tree) (o : Open h v row n child j xs ps ys qs rest) → 16 ≤ o.count
    → Roomy h v row (n - 1) child j xs ps ys qs rest
roomy-now h v row n child j xs ps ys qs rest o room = record {
  n = n;
  ps2 = ps;
  ys2 = ys;
  qs2 = qs;
  front = [];
  back = [];
  before = sym
      (append-nil ps);
  wider = sym (append-nil ys);
  behind = refl;
  state = o;
  room = room;
  many = (omega arith);
}

-- the place and the number of a child that is out
pub open-place : (h : ℕ) (v : SeatView) (row n child j : ℕ) (xs ps ys qs rest : List Tree) → Open h v row n child j xs ps ys qs rest → (j ≤ n) × (n ≤ 31)
open-place h v row n child j xs ps ys qs rest o = (let a = o.slot.count in omega arith, let a = o.slot.full in omega arith)

-- ---- the stages of a move between neighbours
module _ {h n i : ℕ} {ls qs : List Tree} (sm : Seam (suc h) n ls qs i) {v : SeatView} {X rs : List ℕ} {row child sib sort count : ℕ} {below : List Tree}
    {top : Tree} where
  -- the neighbour lent an item and a child
  pub bench-lent : (s : Tree) (front back : List Tree) {x y : SeatView} {c d : Chain} {ks kn : ℕ} {ws us R S : List Tree}
      → Bench v X rs 1 x c (node_at row 3 n (front ++ nil ∷ back) ∷ node_at sib ks kn ws ∷ node_at child sort count below ∷ []) R
      → SpendsAll 0 (sib ∷ []) (sib ∷ []) x y c d → OwnsNode y sib ks (kn - 1) us → y.refs ≡ S
      → front ++ nil ∷ back ≡ item_front sm top ++ s ∷ item_back sm nil nil
      → Bench v X rs 1 y d (node_at row 3 n (item_front sm top ++ s ∷ item_back sm nil nil) ∷ node_at sib ks (kn - 1) us ∷ node_at child sort count below ∷
      []) S
  bench-lent s front back {x} {y} {c} {d} {ks} {kn} {ws} {us} {R} {S} b call owns refs links = bench-links links (bench-turn (bench-more 1 (omega arith)
      (bench-call (node_at sib ks kn ws ∷ []) (node_at sib ks (kn - 1) us ∷ []) (node_at row 3 n (front ++ nil ∷ back) ∷ node_at child sort count below ∷ [])
      (bench-turn b) call (owns, tt) (refl, tt) refs)))

  -- it took the place of the one between the two
  pub bench-swapped : (R : List Tree) (u : Tree) {x y : SeatView} {c : Chain} {ks kn middle item : ℕ} {us : List Tree} {s m : Tree}
      → Bench v X rs 1 x c (node_at row 3 n (item_front sm top ++ s ∷ item_back sm nil nil) ∷ node_at sib ks kn us ∷ node_at child sort count below ∷ [])
      (m ∷ with_old_target u R) → Swaps x y row (1 + i) item middle → OthersStand row x y → IsLatch m → IsLatch s → tree_word m ≡ item
      → (middle ≡ tree_word s)
      × Bench v X rs 1 y c (node_at child sort count below ∷ node_at row 3 n (item_front sm top ++ m ∷ item_back sm nil nil) ∷ node_at sib ks kn us ∷ [])
      (s ∷ with_old_target u R)
  bench-swapped R u {x} {y} {c} {ks} {kn} {middle} {item} {us} {s} {m} b f others fm fs is =
      let z = f 3 n (item_front sm top) (item_back sm nil nil) s m (with_old_target u R) b.owns.0 (let p = sm.place in omega arith)
      (b.refs ∙ back-cons m (with_old_target u R) fm.row fm.here) is in
      (z.0, bench-third (bench-step b others z.1 (z.2 ∙ sym (back-cons s (with_old_target u R) fs.row fs.here))))

  pub bench-swap : (s : Tree) (R : List Tree) (u : Tree) {x : SeatView} {c : Chain} {ks kn item : ℕ} {us : List Tree} {m : Tree}
      → Bench v X rs 1 x c (node_at row 3 n (item_front sm top ++ s ∷ item_back sm nil nil) ∷ node_at sib ks kn us ∷ node_at child sort count below ∷ [])
      (m ∷ with_old_target u R) → IsLatch m → tree_word m ≡ item → length R < 2 ^ 31 + 3 → CanSwap x row (1 + i) item
  bench-swap s R u {x} {c} {ks} {kn} {item} {us} {m} b fm is few = (
    3,
    n,
    item_front sm top,
    item_back sm nil nil,
    s,
    m,
    with_old_target u R,
    b.owns.0,
    (let p = sm.place in omega arith),
    (let p = sm.count in let q = sm.full in omega arith),
    b.refs ∙ back-cons m (with_old_target u R) fm.row fm.here,
    is,
    (let a = old-long u R in omega arith),
  )

  -- the child got the one between them
  pub bench-gained : (m : Tree) (front back : List Tree) {x y : SeatView} {c d : Chain} {ks kn kind k : ℕ} {us ws R S : List Tree}
      → Bench v X rs 1 x c (node_at child sort count below ∷ node_at row 3 n (item_front sm top ++ m ∷ item_back sm nil nil) ∷ node_at sib ks kn us ∷ []) S
      → SpendsAll 0 (child ∷ []) (child ∷ []) x y c d → OwnsNode y child kind k ws → y.refs ≡ R
      → item_front sm top ++ m ∷ item_back sm nil nil ≡ front ++ nil ∷ back
      → Bench v X rs 1 y d (node_at row 3 n (front ++ nil ∷ back) ∷ node_at sib ks kn us ∷ node_at child kind k ws ∷ []) R
  bench-gained m front back {x} {y} {c} {d} {ks} {kn} {kind} {k} {us} {ws} {R} {S} b call owns refs links = bench-links links
      (bench-third (bench-third (bench-more 1 (omega arith) (bench-call (node_at child sort count below ∷ []) (node_at child kind k ws ∷ [])
      (node_at row 3 n (item_front sm top ++ m ∷ item_back sm nil nil) ∷ node_at sib ks kn us ∷ []) b call (owns, tt) (refl, tt) refs))))

-- the neighbour is linked again
pub record Relinked (h : ℕ) (v : SeatView) (X rs : List ℕ) (w : SeatView) (c : Chain) (row n child kind k : ℕ) (front back ws R l : List Tree) : Type 0 where
  pub tree : Tree
  pub kid : Kid (Node h) tree l
  pub bench : Bench v X rs 1 w c (node_at row 3 n (front ++ tree ∷ back) ∷ node_at child kind k ws ∷ []) R

pub bench-linked : (h place : ℕ) (front back : List Tree) {v x w : SeatView} {X rs : List ℕ} {c : Chain} {row n sib child ks kn kind k : ℕ} {us ws R l : List
    Tree}
    → Bench v X rs 1 x c (node_at row 3 n (front ++ nil ∷ back) ∷ node_at sib ks kn us ∷ node_at child kind k ws ∷ []) R → length front ≡ place
    → Node h ks kn us l → 15 ≤ kn → ((qs : List ℕ) (c : Chain) → IsChain x c qs → Spends 0 (row ∷ sib ∷ []) (row ∷ []) qs x w c)
    → Links x w row place sib → Relinked h v X rs w c row n child kind k front back ws R l
bench-linked h place front back {v} {x} {w} {X} {rs} {c} {row} {n} {sib} {child} {ks} {kn} {kind} {k} {us} {ws} {R} {l} b at node least call links =
    let z = links 3 n front back ks kn us b.owns.0 at b.owns.1.0 (λ e. bench-apart b (sym e)) in
    record {
      tree = z.tree;
      kid = kid-row-of h z.tree sib ks kn us l z.is least node;
      bench = bench-more 1 (omega arith) (bench-call (node_at row 3 n (front ++ nil ∷ back) ∷ node_at sib ks kn us ∷ []) (node_at row 3 n (front ++ z.tree ∷
          back) ∷ [])
          (node_at child kind k ws ∷ []) b (λ qs g. call qs c g) (z.owns, tt) (refl, tt) (z.refs ∙ b.refs));
    }

pub bench-link : (h place : ℕ) (l front back : List Tree) {v x : SeatView} {X rs : List ℕ} {c : Chain} {row n sib child ks kn kind k : ℕ} {us ws R : List Tree}
    → Bench v X rs 1 x c (node_at row 3 n (front ++ nil ∷ back) ∷ node_at sib ks kn us ∷ node_at child kind k ws ∷ []) R → length front ≡ place → place < 64
    → Node h ks kn us l → h ≤ 1 → length R < 2 ^ 31 + 3 → CanLink x row place sib
bench-link h place l front back {v} {x} {X} {rs} {c} {row} {n} {sib} {child} {ks} {kn} {kind} {k} {us} {ws} {R} b at most node low few = (
  3,
  n,
  front,
  back,
  ks,
  kn,
  us,
  b.owns.0,
  at,
  most,
  b.owns.1.0,
  shallow h 3 ks kn us l (omega arith) node,
  (λ e. bench-apart b (sym e)),
  (let a = ap length b.refs in omega arith),
)

-- the neighbour is out
pub bench-taken : {h k : ℕ} {v x : SeatView} {c d : Chain} {rs : List ℕ} {row n child j sib : ℕ} {xs ps ys qs R : List Tree}
    (o : Open h v row n child j xs ps ys qs R) (front back : List Tree) (kid : Tree) (l : List Tree) → slot_links o.slot o.top nil ≡ front ++ kid ∷ back
    → length front ≡ k → Kid (Node h) kid l → Takes v x row k sib → x.refs ≡ v.refs → SpendsAll 1 (row ∷ []) (row ∷ sib ∷ []) v x c d → IsChain v c rs
    → Bench v (row ∷ child ∷ []) rs 1 x d (node_at row 3 n (front ++ nil ∷ back) ∷ node_at sib (word kid 1) (word kid 2) (children kid)
    ∷ node_at child o.sort o.count o.below ∷ []) R
bench-taken {h} {k} {v} {x} {c} {d} {rs} {row} {n} {child} {j} {sib} {xs} {ps} {ys} {qs} {R} o front back kid l links at part takes same call g =
    let owns = subst (OwnsNode v row 3 n) links o.owns in
    let z = takes h 3 n front back kid l owns at part in
    bench-call (node_at row 3 n (front ++ kid ∷ back) ∷ [])
    (node_at row 3 n (front ++ nil ∷ back) ∷ node_at sib (word kid 1) (word kid 2) (children kid) ∷ []) (node_at child o.sort o.count o.below ∷ [])
    (bench-start v c rs (node_at row 3 n (front ++ kid ∷ back) ∷ node_at child o.sort o.count o.below ∷ []) R g (owns, (o.owns_child, tt))
    (two-apart row child (λ e. o.apart (sym e))) o.refs) call (z.0, (z.1, tt)) (two-apart row sib (λ e. z.2 (sym e))) (same ∙ o.refs)

pub take-can : {h k : ℕ} {v : SeatView} {row n child j : ℕ} {xs ps ys qs R : List Tree} (o : Open h v row n child j xs ps ys qs R) (front back : List Tree)
    (kid : Tree) (l : List Tree) → slot_links o.slot o.top nil ≡ front ++ kid ∷ back → length front ≡ k → k < 64 → Kid (Node h) kid l → CanTake v row k
take-can {h} {k} {v} {row} {n} o front back kid l links at most part =
    (h, 3, n, front, back, kid, l, subst (OwnsNode v row 3 n) links o.owns, at, most, part, (let a = ap length o.refs in let b = o.few in omega arith))

-- the links at the neighbour
pub left-links : {h n j b : ℕ} {v : SeatView} {row child : ℕ} {xs ps ys qs R : List Tree} (o : Open h v row n child j xs ps ys qs R)
    → (l : Leftward (suc h) n ps qs j b o.slot) → slot_links o.slot o.top nil ≡ kid_front l.seam o.top l.s ++ l.kid ∷ (nil ∷ kid_back l.seam)
left-links {h} {n} {j} {b} {v} {row} {child} {xs} {ps} {ys} {qs} {R} o l = l.links o.top nil ∙ seam-kid (suc h) n o.top l.s l.kid nil l.ls qs b l.seam

pub right-links : {h n j : ℕ} {v : SeatView} {row child : ℕ} {xs ps ys qs R : List Tree} (o : Open h v row n child j xs ps ys qs R)
    → (r : Rightward (suc h) n ps qs j o.slot) → slot_links o.slot o.top nil ≡ (kid_front r.seam o.top r.s ++ nil ∷ []) ++ r.kid ∷ kid_back r.seam
right-links {h} {n} {j} {v} {row} {child} {xs} {ps} {ys} {qs} {R} o r = r.links o.top nil ∙ seam-next (suc h) n o.top r.s nil r.kid ps r.rs j r.seam

-- the neighbour's list is sorted
pub left-sorted : {h n j b : ℕ} {v : SeatView} {row child : ℕ} {xs ps ys qs R : List Tree} (o : Open h v row n child j xs ps ys qs R)
    → (l : Leftward (suc h) n ps qs j b o.slot) → Sorted l.l
left-sorted {ps = ps} {ys = ys} {qs = qs} o l = sorted-front l.l (l.s ∷ [])
    (sorted-back l.ls (l.l ++ l.s ∷ []) (subst Sorted l.list (sorted-front ps (ys ++ qs) (subst Sorted o.list o.sorted))))

pub right-sorted : {h n j : ℕ} {v : SeatView} {row child : ℕ} {xs ps ys qs R : List Tree} (o : Open h v row n child j xs ps ys qs R)
    → (r : Rightward (suc h) n ps qs j o.slot) → Sorted r.l
right-sorted {ps = ps} {ys = ys} {qs = qs} o r =
    let tail : Sorted (r.s ∷ (r.l ++ r.rs)) = subst Sorted r.list (sorted-back ys qs (sorted-back ps (ys ++ qs) (subst Sorted o.list o.sorted))) in
    sorted-front r.l r.rs tail.1

-- what the neighbour lent: its list l is `whole` of what it keeps, the item, and what went with it
pub record LentFrom (h : ℕ) (w : SeatView) (sib ks kn : ℕ) (l : List Tree) (item kid : ℕ) (R : List Tree) (whole : List Tree → Tree → List Tree → List Tree)
    : Type 0 where
  pub ls : List Tree
  pub l2 : List Tree
  pub m : Tree
  pub list : l ≡ whole ls m l2
  pub lent : Lent h w sib ks kn ls l2 m item kid R

pub lent-refs : {h : ℕ} {w : SeatView} {sib ks kn : ℕ} {l : List Tree} {item kid : ℕ} {R S : List Tree} {whole : List Tree → Tree → List Tree → List Tree}
    → R ≡ S → (ls l2 : List Tree) × (m : Tree) × (l ≡ whole ls m l2) × Lent h w sib ks kn ls l2 m item kid R → LentFrom h w sib ks kn l item kid S whole
lent-refs {h} {w} {sib} {ks} {kn} {l} {item} {kid} e (ls, l2, m, list, g) =
    record { ls = ls; l2 = l2; m = m; list = list; lent = subst (Lent h w sib ks kn ls l2 m item kid) e g }

pub item-kid : {h n i : ℕ} {ls qs : List Tree} (sm : Seam (suc h) n ls qs i) (top s : Tree)
    → kid_front sm top s ++ nil ∷ (nil ∷ kid_back sm) ≡ item_front sm top ++ s ∷ item_back sm nil nil
item-kid {h} {n} {i} {ls} {qs} sm top s = sym (seam-kid (suc h) n top s nil nil ls qs i sm) ∙ seam-item (suc h) n top s nil nil ls qs i sm

pub item-next : {h n i : ℕ} {ls qs : List Tree} (sm : Seam (suc h) n ls qs i) (top s : Tree)
    → (kid_front sm top s ++ nil ∷ []) ++ nil ∷ kid_back sm ≡ item_front sm top ++ s ∷ item_back sm nil nil
item-next {h} {n} {i} {ls} {qs} sm top s = sym (seam-next (suc h) n top s nil nil ls qs i sm) ∙ seam-item (suc h) n top s nil nil ls qs i sm

-- what the child is to get
pub child-gains : {h n : ℕ} {v x : SeatView} {c : Chain} {X rs : List ℕ} {row child j sib ks kn item kid : ℕ} {xs ps ys qs R l us links : List Tree} {s u :
    Tree}
    (o : Open h v row n child j xs ps ys qs R) → o.count ≡ 15
    → Bench v X rs 1 x c (node_at child o.sort o.count o.below ∷ node_at row 3 n links ∷ node_at sib ks kn us ∷ []) (s ∷ with_old_target u R)
    → IsLatch s → Part h u l → item ≡ tree_word s → tree_word u ≡ kid → Gains h x child o.sort o.below ys l s u item kid R
child-gains {h} {n} {v} {x} {c} {X} {rs} {row} {child} {j} {sib} {ks} {kn} {item} {kid} {xs} {ps} {ys} {qs} {R} {l} {us} {links} {s} {u} o poor b fits part
    is named = record {
      owns = subst (λ k. OwnsNode x child o.sort k o.below) poor b.owns.0;
      whole = subst (λ k. Node h o.sort k o.below ys) poor o.node;
      carried = record { fits = fits; part = part; item_is = sym is; kid_is = named; refs = b.refs };
      few = (let a = o.few in omega arith);
    }

-- ---- the stages of a merge
-- the item between the two is out
module _ {h n i : ℕ} {ls qs : List Tree} (sm : Seam (suc h) n ls qs i) (front back : List Tree) {v : SeatView} {X rs : List ℕ} {x : SeatView} {c : Chain}
    {row : ℕ} {ns : List Owned} {R : List Tree} {top s : Tree} where
  pub bench-cut : {y : SeatView} {item : ℕ} → Bench v X rs 1 x c (node_at row 3 n (front ++ nil ∷ back) ∷ ns) R
      → front ++ nil ∷ back ≡ seam_links sm top s nil nil → IsLatch s → Cuts x y row i n item → OthersStand row x y
      → (item ≡ tree_word s) × Bench v X rs 1 y c (node_at row 3 (n - 1) (cut_links sm top nil) ∷ ns) (s ∷ R)
  bench-cut {y} {item} b links fits f others =
      let z = f (suc h) 3 ls qs sm top s nil refl (subst (OwnsNode x row 3 n) links b.owns.0) (let a = fits.here in omega arith) in
      (z.0, bench-step b others z.1 (z.2 ∙ ap (λ ts. s ∷ ts) b.refs))

  pub cut-can : Bench v X rs 1 x c (node_at row 3 n (front ++ nil ∷ back) ∷ ns) R → front ++ nil ∷ back ≡ seam_links sm top s nil nil → IsLatch s
      → length R < 2 ^ 31 + 3 → CanCut x row i n
  cut-can b links fits few = (
    suc h,
    3,
    ls,
    qs,
    sm,
    top,
    s,
    nil,
    refl,
    subst (OwnsNode x row 3 n) links b.owns.0,
    (let a = fits.here in omega arith),
    (let a = ap length b.refs in omega arith),
  )

-- two nodes of 15 items, the child and a neighbour, in this order or the other
pub joins-right : {h n : ℕ} {v x : SeatView} {c : Chain} {X rs : List ℕ} {row child j sib item : ℕ} {xs ps ys qs R l : List Tree} {ns : List Owned} {kid s :
    Tree}
    (o : Open h v row n child j xs ps ys qs R) (part : Kid (Node h) kid l) → o.count ≡ 15 → word kid 2 ≡ 15
    → Bench v X rs 1 x c (node_at child o.sort o.count o.below ∷ node_at sib (word kid 1) (word kid 2) (children kid) ∷ ns) (s ∷ R) → IsLatch s
    → item ≡ tree_word s → Joins h x child sib item o.sort (word kid 1) o.below (children kid) ys l s R
joins-right {h} {n} {v} {x} {c} {X} {rs} {row} {child} {j} {sib} {item} {xs} {ps} {ys} {qs} {R} {l} {ns} {kid} {s} o part poor thin b fits named = record {
  left_owns = subst (λ k. OwnsNode x child o.sort k o.below) poor b.owns.0;
  left_node = subst (λ k. Node h o.sort k o.below ys) poor o.node;
  right_owns = subst (λ k. OwnsNode x sib (word kid 1) k (children kid)) thin b.owns.1.0;
  right_node = subst (λ k. Node h (word kid 1) k (children kid) l) thin part.node;
  fits = fits;
  here = sym named;
  apart = bench-apart b;
  refs = b.refs;
  few = (let a = o.few in omega arith);
}

pub joins-left : {h n : ℕ} {v x : SeatView} {c : Chain} {X rs : List ℕ} {row child j sib item : ℕ} {xs ps ys qs R l : List Tree} {ns : List Owned} {kid s :
    Tree}
    (o : Open h v row n child j xs ps ys qs R) (part : Kid (Node h) kid l) → o.count ≡ 15 → word kid 2 ≡ 15
    → Bench v X rs 1 x c (node_at sib (word kid 1) (word kid 2) (children kid) ∷ node_at child o.sort o.count o.below ∷ ns) (s ∷ R) → IsLatch s
    → item ≡ tree_word s → Joins h x sib child item (word kid 1) o.sort (children kid) o.below l ys s R
joins-left {h} {n} {v} {x} {c} {X} {rs} {row} {child} {j} {sib} {item} {xs} {ps} {ys} {qs} {R} {l} {ns} {kid} {s} o part poor thin b fits named = record {
  left_owns = subst (λ k. OwnsNode x sib (word kid 1) k (children kid)) thin b.owns.0;
  left_node = subst (λ k. Node h (word kid 1) k (children kid) l) thin part.node;
  right_owns = subst (λ k. OwnsNode x child o.sort k o.below) poor b.owns.1.0;
  right_node = subst (λ k. Node h o.sort k o.below ys) poor o.node;
  fits = fits;
  here = sym named;
  apart = bench-apart b;
  refs = b.refs;
  few = (let a = o.few in omega arith);
}

-- they are one
pub bench-joined : {v x y : SeatView} {c d : Chain} {X rs : List ℕ} {p q kind k ks kn : ℕ} {us ws vs R S : List Tree} {a : Owned}
    → Bench v X rs 1 x c (node_at p kind k us ∷ node_at q ks kn ws ∷ a ∷ []) R → SpendsAll 0 (p ∷ q ∷ []) (p ∷ []) x y c d → OwnsNode y p kind 31 vs
    → y.refs ≡ S
    → Bench v X rs 1 y d (a ∷ node_at p kind 31 vs ∷ []) S
bench-joined {v} {x} {y} {c} {d} {X} {rs} {p} {q} {kind} {k} {ks} {kn} {us} {ws} {vs} {R} {S} {a} b call owns refs = bench-turn (bench-more 1 (omega arith)
    (bench-call (node_at p kind k us ∷ node_at q ks kn ws ∷ []) (node_at p kind 31 vs ∷ []) (a ∷ []) b call (owns, tt) (refl, tt) refs))

-- ---- the number of items of a neighbour
module _ {h n : ℕ} {v : SeatView} {row child : ℕ} {xs ps ys qs R : List Tree} where
  pub weigh-right : {i : ℕ} (o : Open h v row n child i xs ps ys qs R) → (r : Rightward (suc h) n ps qs i o.slot) → i ≤ 30 → CanWeigh v row (33 + i)
  weigh-right {i} o r low = (
    h,
    3,
    n,
    kid_front r.seam o.top r.s ++ nil ∷ [],
    kid_back r.seam,
    r.kid,
    r.l,
    subst (OwnsNode v row 3 n) (right-links o r) o.owns,
    next-place (suc h) n o.top r.s nil ps r.rs i r.seam,
    omega arith,
    r.part,
  )

  pub weighs-right : (P : ℕ → Type 0) {i : ℕ} (o : Open h v row n child i xs ps ys qs R) → (r : Rightward (suc h) n ps qs i o.slot) → Weighs P v row (33 + i)
      → P (word r.kid 2)
  weighs-right P {i} o r f = f h 3 n (kid_front r.seam o.top r.s ++ nil ∷ []) (kid_back r.seam) r.kid r.l (subst (OwnsNode v row 3 n) (right-links o r) o.owns)
      (next-place (suc h) n o.top r.s nil ps r.rs i r.seam) r.part

  pub weigh-left : {j b : ℕ} (o : Open h v row n child j xs ps ys qs R) → (l : Leftward (suc h) n ps qs j b o.slot) → b ≤ 30 → CanWeigh v row (32 + b)
  weigh-left {j} {b} o l low = (
    h,
    3,
    n,
    kid_front l.seam o.top l.s,
    nil ∷ kid_back l.seam,
    l.kid,
    l.l,
    subst (OwnsNode v row 3 n) (left-links o l) o.owns,
    kid-place (suc h) n o.top l.s l.ls qs b l.seam,
    omega arith,
    l.part,
  )

  pub weighs-left : (P : ℕ → Type 0) {j b : ℕ} (o : Open h v row n child j xs ps ys qs R) → (l : Leftward (suc h) n ps qs j b o.slot) → Weighs P v row (32 + b)
      → P (word l.kid 2)
  weighs-left P {j} {b} o l f = f h 3 n (kid_front l.seam o.top l.s) (nil ∷ kid_back l.seam) l.kid l.l (subst (OwnsNode v row 3 n) (left-links o l) o.owns)
      (kid-place (suc h) n o.top l.s l.ls qs b l.seam) l.part

pub just-least : (h : ℕ) {u : Tree} {l : List Tree} → Kid (Node h) u l → word u 2 ≤ 15 → word u 2 ≡ 15
just-least h k low = let a = k.least in omega arith

-- the state when two numbers were read
pub poor-open : (h i : ℕ) {n m : ℕ} {v w : SeatView} {row child : ℕ} (xs ps ys qs R : List Tree) → w ≡ v → m ≡ n → (o : Open h v row n child i xs ps ys qs R)
    → o.count ≡ 15 → (p : Open h w row m child i xs ps ys qs R) × (p.count ≡ 15)
poor-open h i {n} {m} {v} {w} {row} {child} xs ps ys qs R a b o e =
    subst (λ (z : SeatView × ℕ). (p : Open h z.0 row z.1 child i xs ps ys qs R) × (p.count ≡ 15)) (λ k. (sym a k, sym b k)) (o, e)
