-- An item and the child beside it go from one node to another.
use Rattle.std.proofs.Common.{Bool, List, [], ap, append_assoc, arith, false, length, not, refl, subst, suc, sym, true, zero, ℕ, ⊎_elim, ◌++◌, ◌+◌, ◌-◌, ◌<◌}
use Rattle.std.proofs.Common.{◌^◌, ◌∙◌, ◌∷◌, ◌≡◌, ◌≢◌, ◌≤◌, ◌⊎◌}
use Rattle.std.specs.Ordering.{is_lt}
use Rattle.std.specs.Prelude.{IsFalse}
use Rattle.std.specs.declared.cmp.Ordering.{Ordering}
use Rattle.std.specs.declared.cmp.Ordering.TheVariants.{Less}
use Rattle.row_pool.proofs.Writes.{with_old_target-length}
use Rattle.row_pool.specs.Chains.{IsChain}
use Rattle.row_pool.specs.Changes.{with_old_target}
use Rattle.row_pool.specs.SeatState.{SeatState}
use Rattle.row_pool.specs.SeatView.{SeatView}
use Rattle.row_pool.specs.Trees.{Tree, nil, tree_word}
use Rattle.row_pool.specs.Views.{Reaches}
use Rattle.row_pool.specs.declared.chain.Chain.{Chain}
use Rattle.latch_item.specs.Items.{BoundUpTo, IsLatch, item_of}
use Rattle.latch_item.specs.Shape.{Among, IsTop, Node, Sorted}
use Rattle.interval_tree.proofs.Cutting.{node-of}
use Rattle.interval_tree.proofs.Depths.{each-among}
use Rattle.interval_tree.proofs.Frames.{chain-others, spends-join, spends-others}
use Rattle.interval_tree.proofs.Greatest.{is-less}
use Rattle.interval_tree.proofs.Leading.{up-first}
use Rattle.interval_tree.proofs.Moving.{two}
use Rattle.interval_tree.proofs.Parting.{second-ref}
use Rattle.interval_tree.proofs.Rows.{back-cons}
use Rattle.interval_tree.specs.Held.{OthersStand, OwnsNode}
use Rattle.interval_tree.specs.Listings.{Part}
use Rattle.interval_tree.specs.Nodes.{LevelKid, Raised}
use Rattle.interval_tree.specs.States.{ReachesItem}
use Rattle.interval_tree.specs.Steps.{CanSwap, Swaps}
use Rattle.span_key.specs.Spans.{bound_cmp}
use Rattle.tree_shrink.proofs.Borders.{FirstOut, LastOut, Lends, lightens, top-joined, top-one, top-same}
use Rattle.tree_shrink.proofs.Seams.{kid-place, kid_back, kid_front, next-place, seam-kid, seam-next}
use Rattle.tree_shrink.specs.Slots.{seam_links}
use Rattle.tree_shrink.specs.Stages.{Carried, Gains, Lent, Lightens, SameItems}
use Rattle.tree_shrink.specs.Steps.{CanCut, CanRaise, Closes, Cuts, LowersBoth, SpendsAll}

-- ---- what is carried
pub part-kid : (h : ℕ) (u : Tree) (l : List Tree) → Part h u l → 0 < tree_word u → LevelKid h u l
part-kid zero u l p low = absurd (let a = ap tree_word p.0 in omega arith)
part-kid (suc h) u l p low = p

pub part-none : (h : ℕ) (u : Tree) (l : List Tree) → Part h u l → tree_word u ≡ 0 → l ≡ []
part-none zero u l p e = p.1
part-none (suc h) u l p e = absurd (let a = p.here in omega arith)

module _ {h : ℕ} {v : SeatView} {m u : Tree} {l : List Tree} {item kid : ℕ} {R : List Tree} where
  pub carried-item : Carried h v m u l item kid R → ReachesItem v m (item - 1)
  carried-item o = (up-first v m (with_old_target u R) o.refs, (let a = o.fits.here in let b = o.item_is in omega arith), o.fits)

  pub carried-kid : Carried h v m u l item kid R → kid ≢ 0 → Reaches v u × (tree_word u ≡ suc (kid - 1)) × LevelKid h u l
  carried-kid o ne =
      let here : tree_word u ≡ suc (kid - 1) = (let a = o.kid_is in omega arith) in
      let refs : v.refs ≡ m ∷ u ∷ R = o.refs ∙ ap (λ ts. m ∷ ts) (sym (back-cons u R (kid - 1) here)) in
      (second-ref v m u R refs, here, part-kid h u l o.part (omega arith))

  pub carried-over : {w : SeatView} → w.refs ≡ v.refs → Carried h v m u l item kid R → Carried h w m u l item kid R
  carried-over e o = record { fits = o.fits; part = o.part; item_is = o.item_is; kid_is = o.kid_is; refs = e ∙ o.refs }

pub old-long : (u : Tree) (R : List Tree) → length (with_old_target u R) ≤ length R + 1
old-long u R = let a = with_old_target-length u R in omega arith

-- ---- the child has an item of no less bound, or it is below the top
pub not-below : (b t : Tree) (l : List Tree) → IsTop b l → bound_cmp (item_of b).span (item_of t).span ≡ Less → Among t l → ⊥
not-below b t l g less a = each-among (BoundUpTo b) t l a g.most less

pub differs : (m t : Tree) (top item : ℕ) → tree_word t ≡ suc top → tree_word m ≡ item → top + 1 ≢ item → m ≡ t → ⊥
differs m t top item a b ne e = ne (let k = ap tree_word e in omega arith)

-- ---- the first link of the one that lent
pub lower-top : {h kind n : ℕ} {v : SeatView} {row : ℕ} {top : Tree} {us ls l : List Tree} {m u : Tree} {item kid : ℕ} {R : List Tree}
    → Lightens h v row kind n top us ls l m u item kid R → ((m ≡ top) ⊎ Among top l → ⊥) → Node h kind n (top ∷ us) ls
lower-top {h} {kind} {n} {v} {row} {top} {us} {ls} o none = node-of h kind n top us ls top o.body (record {
  among = ⊎_elim (λ a. a) (λ a. absurd (none a)) o.origin;
  most = o.most;
})

-- ---- the node that lent
pub lent-last-kid : {h kind n : ℕ} {v w : SeatView} {row kid : ℕ} {us xs : List Tree} (q : LastOut h kind n us xs) → 2 ≤ n → OwnsNode v row kind n us
    → Swaps v w row (32 + n) 0 kid → (kid ≡ tree_word q.pair.goes)
    × OwnsNode w row kind n (seam_links q.pair.seam q.pair.top q.pair.s q.pair.stays nil) × (w.refs ≡ with_old_target q.pair.goes v.refs)
lent-last-kid {h} {kind} {n} {v} {w} {row} {kid} q two o f =
    let p = q.pair in
    let z = f kind n (kid_front p.seam p.top p.s ++ p.stays ∷ []) (kid_back p.seam) p.goes nil v.refs
    (subst (OwnsNode v row kind n) (q.links ∙ seam-next h n p.top p.s p.stays p.goes p.ps p.qs (n - 1) p.seam) o)
    (let a = next-place h n p.top p.s p.stays p.ps p.qs (n - 1) p.seam in omega arith) refl refl in
    (z.0, subst (OwnsNode w row kind n) (sym (seam-next h n p.top p.s p.stays nil p.ps p.qs (n - 1) p.seam)) z.1, z.2)

pub lent-last-can : {h kind n : ℕ} {v : SeatView} {row : ℕ} {us xs : List Tree} (q : LastOut h kind n us xs) → 2 ≤ n → n ≤ 31 → OwnsNode v row kind n us
    → length v.refs < 2 ^ 32 → CanSwap v row (32 + n) 0
lent-last-can {h} {kind} {n} {v} {row} q two most o few =
    let p = q.pair in (
      kind,
      n,
      kid_front p.seam p.top p.s ++ p.stays ∷ [],
      kid_back p.seam,
      p.goes,
      nil,
      v.refs,
      subst (OwnsNode v row kind n) (q.links ∙ seam-next h n p.top p.s p.stays p.goes p.ps p.qs (n - 1) p.seam) o,
      (let a = next-place h n p.top p.s p.stays p.ps p.qs (n - 1) p.seam in omega arith),
      omega arith,
      refl,
      refl,
      few,
    )

pub lent-first-can : {h kind n : ℕ} {v : SeatView} {row : ℕ} {us xs : List Tree} (q : FirstOut h kind n us xs) → OwnsNode v row kind n us
    → length v.refs < 2 ^ 32 → CanSwap v row 32 0
lent-first-can {h} {kind} {n} {v} {row} q o few =
    let p = q.pair in (
      kind,
      n,
      kid_front p.seam p.top p.s,
      p.stays ∷ kid_back p.seam,
      p.goes,
      nil,
      v.refs,
      subst (OwnsNode v row kind n) (q.links ∙ seam-kid h n p.top p.s p.goes p.stays p.ps p.qs 0 p.seam) o,
      kid-place h n p.top p.s p.ps p.qs 0 p.seam,
      omega arith,
      refl,
      refl,
      few,
    )

pub lent-first-kid : {h kind n : ℕ} {v w : SeatView} {row kid : ℕ} {us xs : List Tree} (q : FirstOut h kind n us xs) → OwnsNode v row kind n us
    → Swaps v w row 32 0 kid → (kid ≡ tree_word q.pair.goes)
    × OwnsNode w row kind n (kid_front q.pair.seam q.pair.top q.pair.s ++ nil ∷ ((q.pair.stays ∷ []) ++ kid_back q.pair.seam))
    × (w.refs ≡ with_old_target q.pair.goes v.refs)
lent-first-kid {h} {kind} {n} {v} {w} {row} {kid} q o f =
    let p = q.pair in
    f kind n (kid_front p.seam p.top p.s) (p.stays ∷ kid_back p.seam) p.goes nil v.refs
    (subst (OwnsNode v row kind n) (q.links ∙ seam-kid h n p.top p.s p.goes p.stays p.ps p.qs 0 p.seam) o) (kid-place h n p.top p.s p.ps p.qs 0 p.seam) refl
    refl

pub lent-first-closed : {h kind n : ℕ} {v w : SeatView} {row : ℕ} {us xs : List Tree} (q : FirstOut h kind n us xs)
    → OwnsNode v row kind n (kid_front q.pair.seam q.pair.top q.pair.s ++ nil ∷ ((q.pair.stays ∷ []) ++ kid_back q.pair.seam)) → Closes v w row 32 1
    → OwnsNode w row kind n (seam_links q.pair.seam q.pair.top q.pair.s q.pair.stays nil)
lent-first-closed {h} {kind} {n} {v} {w} {row} q o f =
    let p = q.pair in
    subst (OwnsNode w row kind n) (sym (seam-kid h n p.top p.s p.stays nil p.ps p.qs 0 p.seam))
    (f kind n (kid_front p.seam p.top p.s) (p.stays ∷ []) (kid_back p.seam) o (kid-place h n p.top p.s p.ps p.qs 0 p.seam) refl)

-- the item is out too
pub lent-cut : {h kind n j : ℕ} {v w : SeatView} {row item kid : ℕ} {us xs R : List Tree} (q : Lends h kind n j us xs) → 2 ≤ n
    → OwnsNode v row kind n (seam_links q.seam q.top q.s q.stays nil) → v.refs ≡ with_old_target q.goes R → kid ≡ tree_word q.goes → length R + 4 < 2 ^ 32
    → Sorted q.ls → Cuts v w row j n item → (tail : List Tree) × Lightens h w row kind (n - 1) q.top tail q.ls q.l q.s q.goes item kid R
lent-cut {h} {kind} {n} {j} {v} {w} {row} {item} {kid} {us} {xs} {R} q two o refs is few sorted f =
    let z = f h kind q.ps q.qs q.seam q.top q.s q.stays q.kind_is o (let a = q.fits.here in omega arith) in
    lightens h kind n j us xs q two w row item kid R z.1
    (record { fits = q.fits; part = q.part; item_is = sym z.0; kid_is = sym is; refs = z.2 ∙ ap (λ ts. q.s ∷ ts) refs }) few sorted

pub lent-cuts : {h kind n j : ℕ} {v : SeatView} {row : ℕ} {us xs : List Tree} (R : List Tree) (q : Lends h kind n j us xs)
    → OwnsNode v row kind n (seam_links q.seam q.top q.s q.stays nil) → v.refs ≡ with_old_target q.goes R → length R + 4 < 2 ^ 32 → CanCut v row j n
lent-cuts {h} {kind} {n} {j} {v} {row} {us} {xs} R q o refs few = (
  h,
  kind,
  q.ps,
  q.qs,
  q.seam,
  q.top,
  q.s,
  q.stays,
  q.kind_is,
  o,
  (let a = q.fits.here in omega arith),
  (let a = ap length refs in let b = old-long q.goes R in omega arith),
)

-- ---- the node that gains
pub gain-raises : {h kind item kid : ℕ} {v : SeatView} {row : ℕ} {us xs l : List Tree} {m u : Tree} {R : List Tree} → Gains h v row kind us xs l m u item kid R
    → (top : Tree) (tail : List Tree) → us ≡ top ∷ tail → IsLatch top → CanRaise v row item kid
gain-raises {h} {kind} {item} {kid} {v} {row} {us} {xs} {l} {m} {u} {R} o top tail links fits =
    (h, kind, 15, top, tail, l, m, u, R, subst (OwnsNode v row kind 15) links o.owns, fits, o.carried, o.few)

pub lt-less : (b : Bool) (o : Ordering) → b ≡ is_lt o → IsFalse (not b) → o ≡ Less
lt-less true o e f = is-less o (sym e)
lt-less false o e f = cc

-- ---- the greatest bound with the two
pub both-raised : (top m new best last : Tree) (xs l ys : List Tree) → IsTop top xs → Raised m top new → IsTop best l → Raised best new last
    → SameItems (xs ++ m ∷ l) ys → IsTop last ys
both-raised top m new best last xs l ys g r gl r2 same = top-same last (xs ++ m ∷ l) ys same
    (subst (IsTop last) (append_assoc xs (m ∷ []) l) (top-joined new best last (xs ++ m ∷ []) l (top-joined top m new xs (m ∷ []) g (top-one m) r) gl r2))

pub one-raised : (top m new : Tree) (xs l ys : List Tree) → IsTop top xs → Raised m top new → l ≡ [] → SameItems (xs ++ m ∷ l) ys → IsTop new ys
one-raised top m new xs l ys g r none same = top-same new (xs ++ m ∷ l) ys same
    (subst (λ k. IsTop new (xs ++ m ∷ k)) (sym none) (top-joined top m new xs (m ∷ []) g (top-one m) r))

-- ---- the chain through steps on one row
pub chain-after : {v b : SeatView} {row kind n : ℕ} {us : List Tree} {c : Chain} → OwnsNode v row kind n us → OthersStand row v b
    → (rs : List ℕ) × IsChain v c rs → (rs : List ℕ) × IsChain b c rs
chain-after {v} {b} {row} {kind} {n} {us} {c} o others (rs, g) = (rs, chain-others v b row kind n us c rs o others g)

module _ {v b d : SeatView} {row kind n : ℕ} {us : List Tree} where
  pub spends-after : {c e : Chain} → OwnsNode v row kind n us → OthersStand row v b → SpendsAll 0 (row ∷ []) (row ∷ []) b d c e
      → SpendsAll 0 (row ∷ []) (row ∷ []) v d c e
  spends-after {c} {e} o others f rs g =
      let s = spends-others v b row kind n us c [] rs o others g in
      spends-join 0 0 (row ∷ []) (row ∷ []) (row ∷ []) rs v b d c e s (f s.left s.chain)

  pub spends-before : {c e : Chain} → SpendsAll 0 (row ∷ []) (row ∷ []) v b c e → OwnsNode b row kind n us → OthersStand row b d
      → SpendsAll 0 (row ∷ []) (row ∷ []) v d c e
  spends-before {c} {e} f o others rs g =
      let s = f rs g in
      spends-join 0 0 (row ∷ []) (row ∷ []) (row ∷ []) rs v b d e e s (spends-others b d row kind n us e [] s.left o others s.chain)

-- the number of items was read
pub read-node : (h : ℕ) (xs : List Tree) {kind n m : ℕ} {v w : SeatState} {row : ℕ} {us : List Tree} → w ≡ v → m ≡ n → OwnsNode v.view row kind n us
    → Node h kind n us xs
    → OwnsNode w.view row kind m us × Node h kind m us xs
read-node h xs {kind} {n} {m} {v} {w} {row} {us} e k o nd =
    (subst (λ (z : SeatState × ℕ). OwnsNode z.0.view row kind z.1 us) (λ i. (sym e i, sym k i)) o, subst (λ k. Node h kind k us xs) (sym k) nd)

-- the child is out
pub record KidOut (h kind n j : ℕ) (us xs : List Tree) (v w : SeatView) (row kid : ℕ) (q : Lends h kind n j us xs) : Type 0 where
  pub named : kid ≡ tree_word q.goes
  pub owns : OwnsNode w row kind n (seam_links q.seam q.top q.s q.stays nil)
  pub back : w.refs ≡ with_old_target q.goes v.refs

pub kid-cuts : {h kind n j : ℕ} {us xs : List Tree} {v w : SeatView} {row kid : ℕ} {q : Lends h kind n j us xs} → KidOut h kind n j us xs v w row kid q
    → length v.refs + 5 < 2 ^ 32 → CanCut w row j n
kid-cuts {v = v} {q = q} k few = lent-cuts v.refs q k.owns k.back (omega arith)

pub kid-lightens : {h kind n j : ℕ} {us xs : List Tree} {v w x : SeatView} {row kid item : ℕ} {q : Lends h kind n j us xs}
    → KidOut h kind n j us xs v w row kid q → 2 ≤ n → length v.refs + 5 < 2 ^ 32 → Sorted q.ls → Cuts w x row j n item
    → (tail : List Tree) × Lightens h x row kind (n - 1) q.top tail q.ls q.l q.s q.goes item kid v.refs
kid-lightens {q = q} k two few sorted f = lent-cut q two k.owns k.back k.named (omega arith) sorted f

pub kid-lent : {h kind n j m : ℕ} {us xs : List Tree} {v w x y : SeatView} {row kid item : ℕ} {q : Lends h kind n j us xs}
    → KidOut h kind n j us xs v w row kid q → n ≡ m → 2 ≤ n → length v.refs + 5 < 2 ^ 32 → Sorted q.ls → Cuts w x row j n item → LowersBoth x y row item kid
    → y.refs ≡ x.refs → Lent h y row kind (m - 1) q.ls q.l q.s item kid v.refs
kid-lent {h} {kind} {n} {j} {m} {us} {xs} {v} {w} {x} {y} {row} {kid} {item} {q} k e two few sorted f g same =
    let (tail, o) = kid-lightens k two few sorted f in
    let (vs, owns, whole) = g h kind (n - 1) q.top tail q.ls q.l q.s q.goes v.refs o in
    subst (λ z. Lent h y row kind (z - 1) q.ls q.l q.s item kid v.refs) e
    (record { us = vs; u = q.goes; owns = owns; whole = whole; carried = carried-over same o.carried })
