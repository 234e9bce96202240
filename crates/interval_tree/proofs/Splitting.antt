-- The steps of a split.
use Rattle.std.proofs.Common.{◌≡◌, ◌≢◌, ℕ, zero, suc, ◌+◌, ◌-◌, ◌<◌, ◌≤◌, ◌^◌, List, [], ◌∷◌, ◌++◌, map, take, drop, length, replicate}
use Rattle.std.proofs.Common.{length-append, append_assoc, append-nil, sym, refl, ap, ◌∙◌, subst, arith}
use Rattle.std.proofs.Math.Seq.{drop-append_seam, take-append_seam}
use mathlib.Core.Option.{some-injective}
use Rattle.row_pool.specs.Chains.{IsChain}
use Rattle.row_pool.specs.SeatView.{SeatView}
use Rattle.row_pool.specs.Trees.{Entry, Link, Tree, nil, own, to, tree_word}
use Rattle.row_pool.specs.declared.chain.Chain.{Chain}
use Rattle.latch_item.specs.Items.{IsLatch}
use Rattle.latch_item.specs.Shape.{Each, Pairs, Spread}
use Rattle.interval_tree.proofs.Cutting.{Parts, leaf-none, parts-leaf, parts-of}
use Rattle.interval_tree.proofs.Frames.{owns-others, spends-add, spends-join, spends-others}
use Rattle.interval_tree.proofs.Rows.{back-cons}
use Rattle.interval_tree.specs.Held.{OthersStand, OwnsNode, Spends}
use Rattle.interval_tree.specs.Nodes.{Body, LevelKid}
use Rattle.interval_tree.specs.States.{CutParts}
use Rattle.interval_tree.specs.Steps.{CanMove, CanSwap, HasNoChildren, MovesLinks, Swaps}

-- both rows at one moment
pub record Both (w : SeatView) (row right kind n k : ℕ) (us vs : List Tree) : Type 0 where
  pub left_owns : OwnsNode w row kind n us
  pub right_owns : OwnsNode w right kind k vs

abbrev pub front : {h kind : ℕ} {us xs : List Tree} → Parts h kind us xs → List Tree
front p = p.top ∷ (p.is ++ p.m ∷ [])

pub front-long : (h kind : ℕ) (us xs : List Tree) (p : Parts h kind us xs) → length (front p) ≡ 17
front-long h kind us xs p = let a = p.left_items in omega (arith, length-append p.is (p.m ∷ []))

-- before the items go
pub links-one : (h kind : ℕ) (us xs : List Tree) (p : Parts h kind us xs) → us ≡ front p ++ (p.js ++ (p.cs ++ p.ds))
links-one h kind us xs p = p.links ∙ ap (λ l. p.top ∷ l) (append_assoc p.is (p.m ∷ p.js) (p.cs ++ p.ds)
    ∙ sym (append_assoc p.is (p.m ∷ []) (p.js ++ (p.cs ++ p.ds))))

pub first-move : (h : ℕ) (f a : SeatView) (row right kind : ℕ) (us xs : List Tree) (p : Parts h kind us xs) → OwnsNode f row kind 31 us
    → OwnsNode f right kind 15 (replicate 64 nil) → row ≢ right → MovesLinks f a row right 17 1 15
    → Both a row right kind 31 15 (front p ++ (replicate 15 nil ++ (p.cs ++ p.ds))) ((nil ∷ []) ++ (p.js ++ replicate 48 nil))
first-move h f a row right kind us xs p o r apart g =
    let z = g kind 31 kind 15 (front p) p.js (p.cs ++ p.ds) (nil ∷ []) (replicate 48 nil) (subst (OwnsNode f row kind 31) (links-one h kind us xs p) o)
    (front-long h kind us xs p) p.right_items r refl apart in
    record { left_owns = z.0; right_owns = z.1 }

abbrev pub second-front : {h kind : ℕ} {us xs : List Tree} → Parts h kind us xs → List Tree
second-front p = front p ++ (replicate 15 nil ++ p.cs)

abbrev pub second-right : {h kind : ℕ} {us xs : List Tree} → Parts h kind us xs → List Tree
second-right p = (nil ∷ []) ++ (p.js ++ replicate 16 nil)

-- before the children go
pub second : (h : ℕ) (a : SeatView) (row right kind : ℕ) (us xs : List Tree) (p : Parts h kind us xs)
    → Both a row right kind 31 15 (front p ++ (replicate 15 nil ++ (p.cs ++ p.ds))) ((nil ∷ []) ++ (p.js ++ replicate 48 nil))
    → Both a row right kind 31 15 (second-front p ++ (p.ds ++ [])) (second-right p ++ (replicate 16 nil ++ replicate 16 nil))
second h a row right kind us xs p b = record {
  left_owns = subst (OwnsNode a row kind 31) (ap (λ l. front p ++ l) (sym (append_assoc (replicate 15 nil) p.cs p.ds))
      ∙ sym (append_assoc (front p) (replicate 15 nil ++ p.cs) p.ds) ∙ ap (λ l. second-front p ++ l) (sym (append-nil p.ds))) b.left_owns;
  right_owns = subst (OwnsNode a right kind 15) (ap (λ l. nil ∷ l) (sym (append_assoc p.js (replicate 16 nil) (replicate 32 nil)))) b.right_owns;
}

pub second-places : (h kind : ℕ) (us xs : List Tree) (p : Parts h kind us xs) → (length (second-front p) ≡ 48) × (length (second-right p) ≡ 32)
second-places h kind us xs p = (
  let a = front-long h kind us xs p in let b = p.left_kids in
      omega (arith, length-append (front p) (replicate 15 nil ++ p.cs), length-append (replicate 15 nil) p.cs),
  let a = p.right_items in omega (arith, length-append p.js (replicate 16 nil)),
)

pub second-move : (h : ℕ) (a b : SeatView) (row right kind : ℕ) (us xs : List Tree) (p : Parts h kind us xs)
    → Both a row right kind 31 15 (second-front p ++ (p.ds ++ [])) (second-right p ++ (replicate 16 nil ++ replicate 16 nil)) → row ≢ right
    → MovesLinks a b row right 48 32 16
    → Both b row right kind 31 15 ((p.top ∷ p.is) ++ p.m ∷ (replicate 15 nil ++ (p.cs ++ replicate 16 nil)))
    (nil ∷ ((p.js ++ replicate 16 nil) ++ (p.ds ++ replicate 16 nil)))
second-move h a b row right kind us xs p q apart g =
    let l = second-places h kind us xs p in
    let z = g kind 31 kind 15 (second-front p) p.ds [] (second-right p) (replicate 16 nil) q.left_owns l.0 p.right_kids q.right_owns l.1 apart in
    record {
      left_owns = subst (OwnsNode b row kind 31) (around p.top p.is p.m (replicate 15 nil) p.cs (replicate 16 nil)) z.0;
      right_owns = z.1;
    }
  where
    around : (t : Tree) (is : List Tree) (m : Tree) (gs cs es : List Tree) → ((t ∷ (is ++ m ∷ [])) ++ (gs ++ cs)) ++ (es ++ [])
        ≡ (t ∷ is) ++ m ∷ (gs ++ (cs ++ es))
    around t is m gs cs es = ap (λ l. t ∷ l) (append_assoc (is ++ m ∷ []) (gs ++ cs) (es ++ []) ∙ append_assoc is (m ∷ []) ((gs ++ cs) ++ (es ++ []))
        ∙ ap (λ l. is ++ m ∷ l) (append_assoc gs cs (es ++ []) ∙ ap (λ l. gs ++ (cs ++ l)) (append-nil es)))

-- ---- a leaf has no children that could go
module _ {A : Type 0} where
  part : (us ms vs : List A) (i n : ℕ) → length us ≡ i → length ms ≡ n → take n (drop i (us ++ (ms ++ vs))) ≡ ms
  part us ms vs i n place long = ap (λ k. take k (drop i (us ++ (ms ++ vs)))) (sym long) ∙ ap (λ k. take (length ms) (drop k (us ++ (ms ++ vs)))) (sym place)
      ∙ ap (take (length ms)) (drop-append_seam us (ms ++ vs)) ∙ take-append_seam ms vs

  same-part : (us ms vs fs gs hs : List A) (i n : ℕ) → length us ≡ i → length ms ≡ n → length fs ≡ i → length gs ≡ n
      → us ++ (ms ++ vs) ≡ fs ++ (gs ++ hs) → ms ≡ gs
  same-part us ms vs fs gs hs i n place long place2 long2 e =
      sym (part us ms vs i n place long) ∙ ap (λ l. take n (drop i l)) e ∙ part fs gs hs i n place2 long2

led : Link → Tree
led (to t) = t
led (own r) = nil

all-led : (us : List Tree) → map led (map to us) ≡ us
unfolding led
all-led [] = refl
all-led (u ∷ us) = ap (λ l. u ∷ l) (all-led us)

-- the links of an owned node are determined
same-links : (v : SeatView) (r kind n sort m : ℕ) (us vs : List Tree) → OwnsNode v r kind n us → OwnsNode v r sort m vs → us ≡ vs
same-links v r kind n sort m us vs a b =
    let same : a.entry ≡ b.entry = some-injective a.entry b.entry (sym a.has ∙ b.has) in
    sym (all-led us) ∙ ap (map led) (sym a.links ∙ ap (λ (e : Entry). e.links) same ∙ b.links) ∙ all-led vs

pub none-moved : (v : SeatView) (from goal : ℕ) → HasNoChildren v from → MovesLinks v v from goal 48 32 16
none-moved v from goal (sort, m, fs, bs, none, first) kind n kind2 n2 us ms vs ws xs o place long p place2 apart =
    let empty : ms ≡ replicate 16 nil = same-part us ms vs fs (replicate 16 nil) bs 48 16 place long first refl
    (same-links v from kind n sort m (us ++ (ms ++ vs)) (fs ++ (replicate 16 nil ++ bs)) o none) in (
      subst (λ l. OwnsNode v from kind n (us ++ (l ++ vs))) empty o,
      subst (λ l. OwnsNode v goal kind2 n2 (ws ++ (l ++ xs))) (sym empty) p,
    )

pub second-none : (h : ℕ) (f a : SeatView) (row right kind : ℕ) (us xs : List Tree) → Body h kind 31 us xs → kind ≢ 3 → OwnsNode f row kind 31 us
    → OwnsNode f right kind 15 (replicate 64 nil) → row ≢ right → MovesLinks f a row right 17 1 15 → HasNoChildren a row
second-none (suc h) f a row right kind us xs b leaf o r apart g = absurd (leaf b.is)
second-none zero f a row right kind us xs b leaf o r apart g = go b.its b.cs b.yss b.spread b.items b.many b.below
  where
    go : (its cs : List Tree) (yss : List (List Tree)) → Spread 31 us b.top its cs → Each IsLatch its → length cs ≡ 0 → Pairs (LevelKid zero) cs yss
        → HasNoChildren a row
    go its [] yss s i m q =
        let p = parts-leaf kind us its b.top b.is s i in
        let both = second zero a row right kind us its p (first-move zero f a row right kind us its p o r apart g) in (
          kind,
          31,
          second-front p,
          [],
          subst (λ l. OwnsNode a row kind 31 (second-front p ++ (l ++ []))) (leaf-none kind us its b.top b.is s i) both.left_owns,
          (second-places zero kind us its p).0,
        )
    go its (x ∷ cs) yss s i m q = absurd (omega arith)

-- the middle item comes out
pub taken-middle : (h : ℕ) (b d : SeatView) (row right kind result : ℕ) (us xs : List Tree) (p : Parts h kind us xs)
    → Both b row right kind 31 15 ((p.top ∷ p.is) ++ p.m ∷ (replicate 15 nil ++ (p.cs ++ replicate 16 nil)))
    (nil ∷ ((p.js ++ replicate 16 nil) ++ (p.ds ++ replicate 16 nil))) → right ≢ row → Swaps b d row 16 0 result → OthersStand row b d
    → Both d row right kind 31 15 (p.top ∷ ((p.is ++ replicate 16 nil) ++ (p.cs ++ replicate 16 nil)))
    (nil ∷ ((p.js ++ replicate 16 nil) ++ (p.ds ++ replicate 16 nil))) × (tree_word p.m ≡ suc (result - 1)) × (d.refs ≡ p.m ∷ b.refs) × (1 ≤ result)
taken-middle h b d row right kind result us xs p q apart g others =
    let z = g kind 31 (p.top ∷ p.is) (replicate 15 nil ++ (p.cs ++ replicate 16 nil)) p.m nil b.refs q.left_owns (let a = p.left_items in
    omega arith) refl refl in
    let is : tree_word p.m ≡ suc (result - 1) = (let a = p.latch.here in let e = z.0 in omega arith) in (
      record {
        left_owns = subst (OwnsNode d row kind 31) (ap (λ l. p.top ∷ l) (sym (append_assoc p.is (replicate 16 nil) (p.cs ++ replicate 16 nil)))) z.1;
        right_owns = owns-others row b d right kind 15 (nil ∷ ((p.js ++ replicate 16 nil) ++ (p.ds ++ replicate 16 nil))) others apart q.right_owns;
      },
      is,
      z.2 ∙ sym (back-cons p.m b.refs (result - 1) is),
      let a = p.latch.here in let e = z.0 in omega arith,
    )

-- ---- a node is cut
-- v is before, f with the fresh row, a and b with the moved links, d without the middle item, e with the number
pub cut : (h : ℕ) (v f a b d e : SeatView) (row right kind result : ℕ) (us xs : List Tree) → Body h kind 31 us xs → OwnsNode f row kind 31 us
    → OwnsNode f right kind 15 (replicate 64 nil) → row ≢ right → f.refs ≡ v.refs → MovesLinks f a row right 17 1 15 → a.refs ≡ f.refs
    → MovesLinks a b row right 48 32 16 → b.refs ≡ a.refs → Swaps b d row 16 0 result → OthersStand row b d
    → ((kind m : ℕ) (us : List Tree) → OwnsNode d row kind m us → OwnsNode e row kind 15 us) → OthersStand row d e → e.refs ≡ d.refs
    → CutParts h e row right (result - 1) kind xs v.refs
cut h v f a b d e row right kind result us xs body o r apart rf g1 r1 g2 r2 swap od count oe re =
    let p = parts-of h kind us xs body in
    let q1 = first-move h f a row right kind us xs p o r apart g1 in
    let q2 = second-move h a b row right kind us xs p (second h a row right kind us xs p q1) apart g2 in
    let (both, here, refs, low) = taken-middle h b d row right kind result us xs p q2 (λ z. apart (sym z)) swap od in
    record {
      us = p.top ∷ ((p.is ++ replicate 16 nil) ++ (p.cs ++ replicate 16 nil));
      vs = nil ∷ ((p.js ++ replicate 16 nil) ++ (p.ds ++ replicate 16 nil));
      ls = p.ls;
      rs = p.rs;
      m = p.m;
      left_owns = count kind 31 (p.top ∷ ((p.is ++ replicate 16 nil) ++ (p.cs ++ replicate 16 nil))) both.left_owns;
      right_owns = owns-others row d e right kind 15 (nil ∷ ((p.js ++ replicate 16 nil) ++ (p.ds ++ replicate 16 nil))) oe (λ z. apart (sym z)) both.right_owns;
      left_body = p.left p.top;
      right_body = p.right nil;
      apart = apart;
      list = p.list;
      latch = p.latch;
      here = here;
      refs = re ∙ refs ∙ ap (λ l. p.m ∷ l) (r2 ∙ r1 ∙ rf);
    }

-- the places of the two moves
pub first-can : (h : ℕ) (f : SeatView) (row right kind : ℕ) (us xs : List Tree) → Body h kind 31 us xs → OwnsNode f row kind 31 us
    → OwnsNode f right kind 15 (replicate 64 nil) → row ≢ right → length f.refs + 1 < 2 ^ 32 → CanMove f row right 17 1 15
first-can h f row right kind us xs body o r apart few =
    let p = parts-of h kind us xs body in (
      kind,
      31,
      kind,
      15,
      front p,
      p.js,
      p.cs ++ p.ds,
      nil ∷ [],
      replicate 48 nil,
      subst (OwnsNode f row kind 31) (links-one h kind us xs p) o,
      front-long h kind us xs p,
      p.right_items,
      r,
      refl,
      apart,
      omega arith,
      omega arith,
      few,
    )

pub second-can : (h : ℕ) (f a : SeatView) (row right kind : ℕ) (us xs : List Tree) → Body h kind 31 us xs → OwnsNode f row kind 31 us
    → OwnsNode f right kind 15 (replicate 64 nil) → row ≢ right → MovesLinks f a row right 17 1 15 → a.refs ≡ f.refs → length f.refs + 1 < 2 ^ 32
    → CanMove a row right 48 32 16
second-can h f a row right kind us xs body o r apart g1 r1 few =
    let p = parts-of h kind us xs body in
    let q = second h a row right kind us xs p (first-move h f a row right kind us xs p o r apart g1) in
    let l = second-places h kind us xs p in (
      kind,
      31,
      kind,
      15,
      second-front p,
      p.ds,
      [],
      second-right p,
      replicate 16 nil,
      q.left_owns,
      l.0,
      p.right_kids,
      q.right_owns,
      l.1,
      apart,
      omega arith,
      omega arith,
      let s = ap length r1 in omega arith,
    )

pub middle-can : (h : ℕ) (f a b : SeatView) (row right kind : ℕ) (us xs : List Tree) → Body h kind 31 us xs → OwnsNode f row kind 31 us
    → OwnsNode f right kind 15 (replicate 64 nil) → row ≢ right → MovesLinks f a row right 17 1 15 → a.refs ≡ f.refs → MovesLinks a b row right 48 32 16
    → b.refs ≡ a.refs → length f.refs + 1 < 2 ^ 32 → CanSwap b row 16 0
middle-can h f a b row right kind us xs body o r apart g1 r1 g2 r2 few =
    let p = parts-of h kind us xs body in
    let q = second-move h a b row right kind us xs p (second h a row right kind us xs p (first-move h f a row right kind us xs p o r apart g1)) apart g2 in (
      kind,
      31,
      p.top ∷ p.is,
      replicate 15 nil ++ (p.cs ++ replicate 16 nil),
      p.m,
      nil,
      b.refs,
      q.left_owns,
      let z = p.left_items in omega arith,
      omega arith,
      refl,
      refl,
      let s = ap length (r2 ∙ r1) in omega arith,
    )

pub middle-least : (h : ℕ) (f a b d : SeatView) (row right kind result : ℕ) (us xs : List Tree) → Body h kind 31 us xs → OwnsNode f row kind 31 us
    → OwnsNode f right kind 15 (replicate 64 nil) → row ≢ right → MovesLinks f a row right 17 1 15 → MovesLinks a b row right 48 32 16
    → Swaps b d row 16 0 result → OthersStand row b d → (1 ≤ result) × ((vs : List Tree) × OwnsNode d row kind 31 vs)
middle-least h f a b d row right kind result us xs body o r apart g1 g2 swap od =
    let p = parts-of h kind us xs body in
    let q1 = first-move h f a row right kind us xs p o r apart g1 in
    let q2 = second-move h a b row right kind us xs p (second h a row right kind us xs p q1) apart g2 in
    let (both, here, refs, low) = taken-middle h b d row right kind result us xs p q2 (λ z. apart (sym z)) swap od in
    (low, (p.top ∷ ((p.is ++ replicate 16 nil) ++ (p.cs ++ replicate 16 nil)), both.left_owns))

-- the chain through the cut
pub cut-spends : (v f a b d e : SeatView) (row right sort kind m n : ℕ) (bs ds : List Tree) (rs : List ℕ) (c p : Chain) (s : Spends 1 [] (right ∷ []) rs v f p)
    → ((rs : List ℕ) (c : Chain) → IsChain f c rs → Spends 0 (row ∷ right ∷ []) (row ∷ right ∷ []) rs f a c)
    → ((rs : List ℕ) (c : Chain) → IsChain a c rs → Spends 0 (row ∷ right ∷ []) (row ∷ right ∷ []) rs a b c) → OwnsNode b row sort m bs → OthersStand row b d
    → OwnsNode d row kind n ds → OthersStand row d e → Spends 1 (row ∷ []) (row ∷ right ∷ []) rs v e p
cut-spends v f a b d e row right sort kind m n bs ds rs c p s g1 g2 ob od od2 oe =
    let all : List ℕ = row ∷ right ∷ [] in
    let s1 = spends-add row 1 [] (right ∷ []) rs v f p s in
    let s2 = g1 s1.left p s1.chain in
    let s3 = g2 s2.left p s2.chain in
    let s4 = spends-others b d row sort m bs p (right ∷ []) s3.left ob od s3.chain in
    let s5 = spends-others d e row kind n ds p (right ∷ []) s4.left od2 oe s4.chain in
    spends-join 1 0 (row ∷ []) all all rs v f e p p s1 (spends-join 0 0 all all all s1.left f a e p p s2
    (spends-join 0 0 all all all s2.left a b e p p s3 (spends-join 0 0 all all all s3.left b d e p p s4 s5)))
