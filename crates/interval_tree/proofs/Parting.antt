-- A full child is split, its middle item and one half are linked, and the item goes to one of the two. A full root grows.
use Rattle.std.proofs.Common.{◌≡◌, ◌≢◌, ℕ, suc, ◌+◌, ◌<◌, ◌≤◌, ◌^◌, List, [], ◌∷◌, ◌++◌, length, append_assoc, replicate, false, sym, refl, ap, ◌∙◌, subst}
use Rattle.std.proofs.Common.{arith}
use lib.ListN.{get_elem?}
use Rattle.row_pool.specs.Chains.{IsChain}
use Rattle.row_pool.specs.Lists.{mem}
use Rattle.row_pool.specs.SeatView.{SeatView}
use Rattle.row_pool.specs.Trees.{Tree, nil}
use Rattle.row_pool.specs.Views.{Reaches, by_ref}
use Rattle.row_pool.specs.declared.chain.Chain.{Chain}
use Rattle.latch_item.specs.Items.{IsLatch}
use Rattle.latch_item.specs.Shape.{IsTop, Kid, Node}
use Rattle.interval_tree.proofs.Cutting.{node-body}
use Rattle.interval_tree.proofs.Frames.{mem-cons, mem-more, owns-kept, owns-others, spends-add, spends-join, spends-others, spends-rotate, spends-swap}
use Rattle.interval_tree.proofs.Frames.{spends-swap-after}
use Rattle.interval_tree.proofs.Fresh.{node-most}
use Rattle.interval_tree.proofs.Holes.{hole-left, hole-right, item-place}
use Rattle.interval_tree.proofs.Linking.{gap-place, kid-row-of, shallow}
use Rattle.interval_tree.specs.Held.{OthersStand, OwnsNode, Spends}
use Rattle.interval_tree.specs.Nodes.{Body, Hole, hole_end, item_front}
use Rattle.interval_tree.specs.States.{Opened}
use Rattle.interval_tree.specs.Steps.{CanLink, Links}

pub count-full : (h : ℕ) (v : SeatView) (row kind n : ℕ) (top : Tree) (child j item : ℕ) (xs : List Tree) (it : Tree) (rest : List Tree)
    → (o : Opened h v row kind n top child j item xs it rest) → (result : ℕ) → result ≡ o.count → 31 ≤ result → o.count ≡ 31
count-full h v row kind n top child j item xs it rest o result is low =
    let b = node-most h o.sort o.count o.below o.ys o.node in omega arith

pub child-body : (h : ℕ) (v : SeatView) (row kind n : ℕ) (top : Tree) (child j item : ℕ) (xs : List Tree) (it : Tree) (rest : List Tree)
    → (o : Opened h v row kind n top child j item xs it rest) → o.count ≡ 31
    → OwnsNode v child o.sort 31 o.below × Body h o.sort 31 o.below o.ys
child-body h v row kind n top child j item xs it rest o full = (
  subst (λ m. OwnsNode v child o.sort m o.below) full o.owns_child,
  subst (λ m. Body h o.sort m o.below o.ys) full (node-body h o.sort o.count o.below o.ys o.node),
)

pub second-ref : (v : SeatView) (m it : Tree) (rest : List Tree) → v.refs ≡ m ∷ it ∷ rest → Reaches v it
second-ref v m it rest refs = by_ref 1 (ap (λ ts. get_elem? ts 1) refs)

-- ---- rows that differ
pub two-apart : (r a b : ℕ) → mem r (a ∷ b ∷ []) ≡ false → (a ≢ r) × (b ≢ r)
two-apart r a b h = let z = mem-cons r a (b ∷ []) h in let y = mem-cons r b [] z.1 in ((λ e. z.0 (sym e)), (λ e. y.0 (sym e)))

pub away-two : (r a b : ℕ) → r ≢ a → r ≢ b → mem r (a ∷ b ∷ []) ≡ false
away-two r a b x y = mem-more r a (b ∷ []) x (mem-more r b [] y refl)

-- the left half is to be linked in front of the hole
pub left-can : (h : ℕ) (s r : SeatView) (row kind n : ℕ) (top m : Tree) (child i sort : ℕ) (us ps qs ls ws rest : List Tree) (o : Hole h kind n us ps qs i)
    → h ≤ 1 → n < 31 → OwnsNode r row kind (n + 1) ((item_front o top m ++ nil ∷ []) ++ nil ∷ (o.ds ++ hole_end o)) → OwnsNode s child sort 15 ws
    → Node h sort 15 ws ls → OthersStand row s r → child ≢ row → r.refs ≡ rest → length rest < 2 ^ 32 → CanLink r row (32 + i) child
left-can h s r row kind n top m child i sort us ps qs ls ws rest o low few owns oc node others apart refs many = (
  kind,
  n + 1,
  item_front o top m,
  nil ∷ (o.ds ++ hole_end o),
  sort,
  15,
  ws,
  subst (OwnsNode r row kind (n + 1)) (append_assoc (item_front o top m) (nil ∷ []) (nil ∷ (o.ds ++ hole_end o))) owns,
  item-place h kind n top m us ps qs i o few,
  (let a = o.place in let b = o.count in omega arith),
  owns-others row s r child sort 15 ws others apart oc,
  shallow h 3 sort 15 ws ls (omega arith) node,
  apart,
  (let a = ap length refs in omega arith),
)

-- once it is linked the hole is behind it
pub left-linked : (h : ℕ) (s r w : SeatView) (row kind n : ℕ) (top m : Tree) (child i sort : ℕ) (us ps qs ls ws : List Tree) (o : Hole h kind n us ps qs i)
    → n < 31 → IsLatch m → OwnsNode r row kind (n + 1) ((item_front o top m ++ nil ∷ []) ++ nil ∷ (o.ds ++ hole_end o)) → OwnsNode s child sort 15 ws
    → Node h sort 15 ws ls → OthersStand row s r → child ≢ row → Links r w row (32 + i) child
    → (us' : List Tree) × OwnsNode w row kind (n + 1) (top ∷ us') × Hole h kind (n + 1) us' (ps ++ (ls ++ m ∷ [])) qs (i + 1) × (w.refs ≡ r.refs)
left-linked h s r w row kind n top m child i sort us ps qs ls ws o few latch owns oc node others apart links =
    let z = links kind (n + 1) (item_front o top m) (nil ∷ (o.ds ++ hole_end o)) sort 15 ws
    (subst (OwnsNode r row kind (n + 1)) (append_assoc (item_front o top m) (nil ∷ []) (nil ∷ (o.ds ++ hole_end o))) owns)
    (item-place h kind n top m us ps qs i o few) (owns-others row s r child sort 15 ws others apart oc) apart in
    let (us', e, hole) = hole-right h kind n top m z.tree us ps qs ls i o few latch (kid-row-of h z.tree child sort 15 ws ls z.is (omega arith) node) in (
      us',
      subst (OwnsNode w row kind (n + 1)) (sym (append_assoc (item_front o top m) (z.tree ∷ []) (nil ∷ (o.ds ++ hole_end o))) ∙ e) z.owns,
      hole,
      z.refs,
    )

-- the right half is to be linked behind the hole
pub right-can : (h : ℕ) (s r : SeatView) (row kind n : ℕ) (top m : Tree) (i right sort : ℕ) (us ps qs rs ws rest : List Tree) (o : Hole h kind n us ps qs i)
    → h ≤ 1 → n < 31 → OwnsNode r row kind (n + 1) ((item_front o top m ++ nil ∷ []) ++ nil ∷ (o.ds ++ hole_end o)) → OwnsNode s right sort 15 ws
    → Node h sort 15 ws rs → OthersStand row s r → right ≢ row → r.refs ≡ rest → length rest < 2 ^ 32 → CanLink r row (33 + i) right
right-can h s r row kind n top m i right sort us ps qs rs ws rest o low few owns oc node others apart refs many = (
  kind,
  n + 1,
  item_front o top m ++ nil ∷ [],
  o.ds ++ hole_end o,
  sort,
  15,
  ws,
  owns,
  gap-place h kind n top m nil us ps qs i o few,
  (let a = o.place in let b = o.count in omega arith),
  owns-others row s r right sort 15 ws others apart oc,
  shallow h 3 sort 15 ws rs (omega arith) node,
  apart,
  (let a = ap length refs in omega arith),
)

pub right-linked : (h : ℕ) (s r w : SeatView) (row kind n : ℕ) (top m : Tree) (i right sort : ℕ) (us ps qs rs ws : List Tree) (o : Hole h kind n us ps qs i)
    → n < 31 → IsLatch m → OwnsNode r row kind (n + 1) ((item_front o top m ++ nil ∷ []) ++ nil ∷ (o.ds ++ hole_end o)) → OwnsNode s right sort 15 ws
    → Node h sort 15 ws rs → OthersStand row s r → right ≢ row → Links r w row (33 + i) right
    → (us' : List Tree) × OwnsNode w row kind (n + 1) (top ∷ us') × Hole h kind (n + 1) us' ps (m ∷ (rs ++ qs)) i × (w.refs ≡ r.refs)
right-linked h s r w row kind n top m i right sort us ps qs rs ws o few latch owns oc node others apart links =
    let z = links kind (n + 1) (item_front o top m ++ nil ∷ []) (o.ds ++ hole_end o) sort 15 ws owns (gap-place h kind n top m nil us ps qs i o few)
    (owns-others row s r right sort 15 ws others apart oc) apart in
    let (us', e, hole) = hole-left h kind n top m z.tree us ps qs rs i o few latch (kid-row-of h z.tree right sort 15 ws rs z.is (omega arith) node) in
    (us', subst (OwnsNode w row kind (n + 1)) e z.owns, hole, z.refs)

-- ---- the chain through a split and a link; v before, s split, r with the middle item, w with the half linked
pub right-spends : (v s r w : SeatView) (row child right kind n : ℕ) (us : List Tree) (rs : List ℕ) (d : Chain)
    (a : Spends 1 (child ∷ []) (child ∷ right ∷ []) rs v s d)
    → OwnsNode s row kind n us → OthersStand row s r
    → ((rs : List ℕ) (c : Chain) → IsChain r c rs → Spends 0 (row ∷ child ∷ []) (row ∷ []) rs r w c) → Spends 1 (row ∷ child ∷ []) (row ∷ right ∷ []) rs v w d
right-spends v s r w row child right kind n us rs d a owns others link =
    let s1 = spends-add row 1 (child ∷ []) (child ∷ right ∷ []) rs v s d a in
    let s2 = spends-others s r row kind n us d (child ∷ right ∷ []) s1.left owns others s1.chain in
    let t = spends-rotate right row child 0 (right ∷ row ∷ []) s2.left r w d
    (spends-add right 0 (row ∷ child ∷ []) (row ∷ []) s2.left r w d (link s2.left d s2.chain)) in
    let s3 = spends-swap-after right row 0 (row ∷ child ∷ right ∷ []) [] s2.left r w d t in
    spends-join 1 0 (row ∷ child ∷ []) (row ∷ child ∷ right ∷ []) (row ∷ right ∷ []) rs v s w d d s1
    (spends-join 0 0 (row ∷ child ∷ right ∷ []) (row ∷ child ∷ right ∷ []) (row ∷ right ∷ []) s1.left s r w d d s2 s3)

pub left-spends : (v s r w : SeatView) (row child right kind n : ℕ) (us : List Tree) (rs : List ℕ) (d : Chain)
    (a : Spends 1 (child ∷ []) (child ∷ right ∷ []) rs v s d)
    → OwnsNode s row kind n us → OthersStand row s r
    → ((rs : List ℕ) (c : Chain) → IsChain r c rs → Spends 0 (row ∷ right ∷ []) (row ∷ []) rs r w c) → Spends 1 (row ∷ child ∷ []) (row ∷ child ∷ []) rs v w d
left-spends v s r w row child right kind n us rs d a owns others link =
    let s1 = spends-add row 1 (child ∷ []) (child ∷ right ∷ []) rs v s d a in
    let s2 = spends-others s r row kind n us d (child ∷ right ∷ []) s1.left owns others s1.chain in
    let t = spends-swap child row 0 (right ∷ []) (child ∷ row ∷ []) s2.left r w d
    (spends-add child 0 (row ∷ right ∷ []) (row ∷ []) s2.left r w d (link s2.left d s2.chain)) in
    let s3 = spends-swap-after child row 0 (row ∷ child ∷ right ∷ []) [] s2.left r w d t in
    spends-join 1 0 (row ∷ child ∷ []) (row ∷ child ∷ right ∷ []) (row ∷ child ∷ []) rs v s w d d s1
    (spends-join 0 0 (row ∷ child ∷ right ∷ []) (row ∷ child ∷ right ∷ []) (row ∷ child ∷ []) s1.left s r w d d s2 s3)

-- the other half through the link of the first
pub half-kept : (r w : SeatView) (row linked other n sort : ℕ) (ws : List Tree) (rs : List ℕ) (c : Chain) → IsChain r c rs
    → ((rs : List ℕ) (c : Chain) → IsChain r c rs → Spends 0 (row ∷ linked ∷ []) (row ∷ []) rs r w c) → other ≢ row → other ≢ linked
    → OwnsNode r other sort n ws → OwnsNode w other sort n ws
half-kept r w row linked other n sort ws rs c h link a b o =
    (owns-kept 0 (row ∷ linked ∷ []) (row ∷ []) rs r w c c other sort n ws h (link rs c h) o (away-two other row linked a b)).owns

-- ---- a new root over two halves
pub new-root : (h : ℕ) (top m t u : Tree) (xs ls rs : List Tree) → IsTop top xs → IsLatch m → xs ≡ ls ++ m ∷ rs → Kid (Node h) t ls → Kid (Node h) u rs
    → Node (suc h) 3 1 (top ∷ m ∷ (replicate 30 nil ++ t ∷ u ∷ replicate 30 nil)) xs
new-root h top m t u xs ls rs greatest latch list left right = record {
  top = top;
  its = m ∷ [];
  cs = t ∷ u ∷ [];
  yss = ls ∷ rs ∷ [];
  is = refl;
  spread = record { free = 30; room = 30; links = refl; count = refl; items = refl; children = refl };
  list = list;
  items = (latch, tt);
  greatest = greatest;
  one_more = refl;
  below = (left, (right, tt));
}
