-- What calls know of a seat and of a row that is near to it.
use Rattle.std.proofs.Common.{◌≡◌, ◌≢◌, ℕ, zero, suc, slice_index, ◌+◌, ◌-◌, ◌*◌, ◌^◌, ◌<◌, ◌≤◌, List, length, refl, sym, ap, subst, ◌∙◌, inl, inr, arith}
use mathlib.Core.Option.{some, some-injective, some-ne-none}
use lib.ListN.{get_elem?}
use Rattle.atomic_table.specs.Table.{Me}
use Rattle.atomic_table.specs.Seated.{TableId}
use Rattle.row_pool.specs.Lists.{find}
use Rattle.row_pool.specs.Trees.{Tree, nil, row, Link, link_word, Entry, tree_word, children, words_of}
use Rattle.row_pool.specs.SeatView.{SeatView}
use Rattle.row_pool.specs.Layout.{first_link, IsContent, IsLink}
use Rattle.row_pool.specs.Changes.{tree_of, without_tree, target_of, with_old_target, without_target}
use Rattle.row_pool.specs.Views.{by_link, below, Reaches, ViewInvariant}
use Rattle.row_pool.specs.StepEffects.{Unchanged}
use Rattle.row_pool.specs.SeatState.{OwnsOrReaches, OwnsOrReachesAs, LinkAt, SeatInvariant, kind_of}
use Rattle.row_pool.proofs.Words.{at-length, at-some, fan-most}
use Rattle.row_pool.proofs.Writes.{with_old_target-length}
use Rattle.row_pool.proofs.Splits.{without_tree-shorter}

-- a row that a seat reaches or owns is in the pool
pub reachable-inside : (v : SeatView) (r : ℕ) → ViewInvariant v → OwnsOrReaches v r → r < v.size
reachable-inside v r h (inl t) = let a = h.trees t.0 t.1 (let z = t.2 in omega arith) in let b = a.inside in let z = t.2 in omega arith
reachable-inside v r h (inr e) = (h.rows r e.0 e.1).inside

pub reachable-as : (P : ℕ → Type 0) (v : SeatView) (r : ℕ) → OwnsOrReachesAs P v r → OwnsOrReaches v r
reachable-as P v r (inl t) = inl (t.0, t.1, t.2)
reachable-as P v r (inr e) = inr (e.0, e.1)

pub invariant-kept : {S : Type 0} {table next : TableId} {me now : Me S SeatView} → SeatInvariant table me → next ≡ table → Unchanged me now
    → SeatInvariant next now
invariant-kept h same s = record {
  empty = s.kept ∙ h.empty;
  words = let a = ap (λ (t : TableId). t.words) same in let b = h.words in let c = s.size in omega arith;
  sound = s.sound;
  unspent = λ z. h.unspent (sym s.number ∙ z);
}

-- the seat fits the pool, and a word of a row that it is near to is in it
pub word-inside : {S : Type 0} {table pool : TableId} {me : Me S SeatView} → SeatInvariant table me → table ≡ pool → (r w j : ℕ) → OwnsOrReaches me.0 r
    → w < 80 → j ≡ r * 80 + w
    → j < pool.words
word-inside {me = me} h same r w j reachable low place = let a = ap (λ (t : TableId). t.words) same in let b = reachable-inside me.0 r h.sound reachable in
    let c = h.words in
    omega arith

-- a counted link is one of the row's words
pub link-low : (v : SeatView) (r k : ℕ) (e : Entry) (l : Link) → ViewInvariant v → find r v.owned ≡ some e → get_elem? e.links k ≡ some l
    → first_link e.kind + k < 80
link-low v r k e l h has is = let a = at-length e.links k l is in let b = (h.rows r e has).many in let f = fan-most e.kind in omega arith

pub named-most : (v : SeatView) (u : Tree) → ViewInvariant v → Reaches v u → tree_word u ≤ 4194304
named-most v nil h up = omega arith
named-most v (row r ws ks) h up = let a = h.trees (row r ws ks) up (omega arith) in let b = a.inside in let c = h.most in omega arith

-- the same where the view has changed before the load
pub invariant-after : {S : Type 0} {table next : TableId} {me now : Me S SeatView} → SeatInvariant table me → next ≡ table → (mid : Me S SeatView)
    → mid.1 ≡ me.1
    → mid.0.size ≡ me.0.size → mid.0.number ≢ 0 → Unchanged mid now → SeatInvariant next now
invariant-after h same mid kept size unspent s = record {
  empty = s.kept ∙ kept ∙ h.empty;
  words = let a = ap (λ (t : TableId). t.words) same in let b = h.words in let c = s.size in omega arith;
  sound = s.sound;
  unspent = λ z. unspent (sym s.number ∙ z);
}

-- a word that is no counted link is one of the row's words
pub plain-low : (v : SeatView) (r w : ℕ) → OwnsOrReachesAs (λ kind. IsContent kind w) v r → (1 ≤ w) × (w < 80)
plain-low v r w (inl t) = (t.3.0, t.3.1)
plain-low v r w (inr e) = (e.2.0, e.2.1)

-- what holds of the kind by which the seat is near to an owned row holds of its entry's
pub as-entry : (P : ℕ → Type 0) (v : SeatView) (r : ℕ) (e : Entry) → ViewInvariant v → OwnsOrReachesAs P v r → find r v.owned ≡ some e → P e.kind
as-entry P v r e h (inl t) has = absurd (some-ne-none e (sym has ∙ h.apart r t.0 t.1 t.2))
as-entry P v r e h (inr d) has = subst (λ (e : Entry). P e.kind) (some-injective d.0 e (sym d.1 ∙ has)) d.2

-- the same of a live row
pub as-tree : (P : ℕ → Type 0) (v : SeatView) (r : ℕ) (t : Tree) → ViewInvariant v → OwnsOrReachesAs P v r → Reaches v t → tree_word t ≡ suc r → P (kind_of t)
as-tree P v r t h (inl u) up is = subst (λ (t : Tree). P (kind_of t)) (h.one u.0 t u.1 up (let z = u.2 in omega arith) (u.2 ∙ sym is)) u.3
as-tree P v r t h (inr d) up is = absurd (some-ne-none d.0 (sym d.1 ∙ h.apart r t up is))

-- the references after a link was moved are no more than there may be
pub swap-room : (y : ℕ) (u : Tree) (v : SeatView) → ViewInvariant v → tree_word (target_of y v.refs) ≡ y → (y ≡ 0 → length v.refs < 2 ^ 32)
    → length (with_old_target u (without_target (target_of y v.refs) v.refs)) ≤ 2 ^ 32
swap-room zero u v h is room = let a = with_old_target-length u v.refs in let b = room refl in omega arith
swap-room (suc r) u v h is room =
    let a = with_old_target-length u (without_target (tree_of r v.refs) v.refs) in
    let b = without_target-shorter r (tree_of r v.refs) v.refs is (without_tree-shorter r v.refs is) in
    let d = h.few in omega arith
  where
    without_target-shorter : (r : ℕ) (t : Tree) (ts : List Tree) → tree_word t ≡ suc r → suc (length (without_tree r ts)) ≡ length ts
        → suc (length (without_target t ts)) ≡ length ts
    without_target-shorter r nil ts is h = absurd (omega arith)
    without_target-shorter r (row q ws ks) ts is h = let z : r ≡ q = omega arith in subst (λ q. suc (length (without_tree q ts)) ≡ length ts) z h

-- a counted link is one of the row's words
pub follow-low : (v : SeatView) (r w : ℕ) → OwnsOrReachesAs (λ kind. IsLink kind w) v r → w < 80
follow-low v r w (inl t) = let f = fan-most (kind_of t.0) in let a = t.3.1 in omega arith
follow-low v r w (inr e) = let f = fan-most e.0.kind in let a = e.2.1 in omega arith

pub follow-first : (v : SeatView) (r w : ℕ) → OwnsOrReachesAs (λ kind. IsLink kind w) v r → 1 ≤ w
follow-first v r w (inl t) = let f = fan-most (kind_of t.0) in let a = t.3.0 in omega arith
follow-first v r w (inr e) = let f = fan-most e.0.kind in let a = e.2.0 in omega arith

-- what a live row's counted link holds
pub link-value : (v : SeatView) (t u : Tree) (w k : ℕ) → ViewInvariant v → Reaches v t → 0 < tree_word t → w ≡ first_link (kind_of t) + k
    → get_elem? (children t) k ≡ some u
    → slice_index (words_of t) w ≡ tree_word u
link-value v t u w k h up is place at = ap (slice_index (words_of t)) place ∙ (h.trees t up is).links k u at

-- what a counted link holds names no row behind the last
pub link-most : (v : SeatView) (r w n : ℕ) → ViewInvariant v → OwnsOrReachesAs (λ kind. IsLink kind w) v r
    → ((t : Tree) → tree_word t ≡ suc r → Reaches v t → n ≡ slice_index (words_of t) w)
    → ((e : Entry) (l : Link) (k : ℕ) → LinkAt v r w e k l → n ≡ link_word l) → n ≤ 4194304
link-most v r w n h (inl t) tree link =
    let s = h.trees t.0 t.1 (let z = t.2 in omega arith) in
    let k : ℕ = w - first_link (kind_of t.0) in
    let is : w ≡ first_link (kind_of t.0) + k = let a = t.3.0 in omega arith in
    let o = at-some (children t.0) k (let a = t.3.0 in let b = t.3.1 in let m = s.many in omega arith) in
    let value = tree t.0 t.2 t.1 ∙ ap (slice_index (words_of t.0)) is ∙ s.links k o.0 o.1 in
    let most = named-most v o.0 h (below k t.1 o.1) in omega arith
link-most v r w n h (inr e) tree link =
    let k : ℕ = w - first_link e.0.kind in
    let is : w ≡ first_link e.0.kind + k = let a = e.2.0 in omega arith in
    let m = (h.rows r e.0 e.1).many in
    let o = at-some e.0.links k (let a = e.2.0 in let b = e.2.1 in omega arith) in
    let value = link e.0 o.0 k (e.1, is, o.1) in
    let most = word-most o.0 k o.1 in omega arith
  where
    word-most : (l : Link) (k : ℕ) → get_elem? e.0.links k ≡ some l → link_word l ≤ 4194304
    word-most (Link.to u) k o = named-most v u h (by_link r e.0 k e.1 o)
    word-most (Link.own p) k o = let a = (h.rows r e.0 e.1).inner k p o in let b = h.most in omega arith
