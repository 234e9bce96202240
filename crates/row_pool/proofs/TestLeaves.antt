-- A leaf is made of a free row and an item.
use Rattle.std.proofs.Common.{◌≡◌, ◌≢◌, ℕ, zero, suc, ◌+◌, ◌≤◌, List, ◌∷◌, length, map, replicate, slice_set, sym, refl, ap, ◌∙◌, arith}
use mathlib.Core.Option.{some, some-injective, some-ne-none}
use lib.ListN.{get_elem?}
use Rattle.row_pool.specs.Lists.{find}
use Rattle.row_pool.specs.Trees.{Tree, Trees, none as no_trees, next, nil, row, Link, Entry, tree_word, children_of, depth, depths}
use Rattle.row_pool.specs.SeatView.{SeatView}
use Rattle.row_pool.specs.Layout.{link_count, first_link}
use Rattle.row_pool.specs.Changes.{nil_links, tree_of, with_link, relinked, without_target}
use Rattle.row_pool.specs.Views.{ViewInvariant, Reaches}
use Rattle.row_pool.specs.SeatState.{SameSeat, OnlyEntryChanges, kind_of, IsNewNode, LinkAt}
use Rattle.row_pool.proofs.Seats.{each_cons, find-here, find-put}
use Rattle.row_pool.proofs.NewestRef.{tree_of-first}
use Rattle.row_pool.proofs.LinkedRows.{without_target-first}

pub nil_links-first : (m : ℕ) → get_elem? (nil_links (suc m)) 0 ≡ some (Link.to nil)
unfolding nil_links
nil_links-first m = refl

-- the links of a new node, of which the first is set
pub first-set : (m : ℕ) (t : Tree) → slice_set (nil_links (suc m)) 0 (Link.to t) ≡ map Link.to (t ∷ replicate m nil)
unfolding nil_links
first-set m t = ap (λ ls. Link.to t ∷ ls) (rest m)
  where
    rest : (m : ℕ) → replicate m (Link.to nil) ≡ map Link.to (replicate m nil)
    rest zero = refl
    rest (suc m) = ap (λ ls. Link.to nil ∷ ls) (rest m)

no-children : (ts : Trees) → length (children_of ts) ≡ 0 → depths ts ≡ 0
no-children no_trees h = refl
no-children (next t ts) h = absurd (omega arith)

-- an item has nothing below it
pub item-shallow : (v : SeatView) (t : Tree) → ViewInvariant v → Reaches v t → kind_of t ≡ 1 → depth t ≤ 1
item-shallow v nil h up is = omega arith
item-shallow v (row r ws ks) h up is = let s = h.trees (row r ws ks) up (omega arith) in let z = no-children ks (s.many ∙ ap link_count is) in omega arith

pub leaf-depths : (v : SeatView) (t : Tree) (m : ℕ) → ViewInvariant v → Reaches v t → kind_of t ≡ 1 → (k : ℕ) (u : Tree)
    → get_elem? (t ∷ replicate m nil) k ≡ some u
    → depth u ≤ 3
leaf-depths v t m h up is = each_cons (λ _ u. depth u ≤ 3) t (replicate m nil) (let a = item-shallow v t h up is in omega arith) (none-deep m)
  where
    none-deep : (m k : ℕ) (u : Tree) → get_elem? (replicate m nil) k ≡ some u → depth u ≤ 3
    none-deep zero k u e = absurd (some-ne-none u (sym e))
    none-deep (suc m) zero u e = let z = ap depth (some-injective nil u e) in omega arith
    none-deep (suc m) (suc k) u e = none-deep m k u e

-- the first link of a new leaf
pub first-link : (v : SeatView) (r : ℕ) (e d : Entry) → find r v.owned ≡ some d → IsNewNode 2 e d → LinkAt v r 3 d 0 (Link.to nil)
first-link v r e d has node = (has, ap (λ k. first_link k + 0) (sym node.is), ap (λ ls. get_elem? ls 0) node.links ∙ nil_links-first 63)

-- the free row r became a leaf with a link to the tree t, which was the newest reference
pub record LeafLinked (r : ℕ) (t : Tree) (ts : List Tree) (v x : SeatView) : Type 0 where
  pub entry : Entry
  pub has : find r x.owned ≡ some entry
  pub kind : entry.kind ≡ 2
  pub unlinked : entry.linked ≡ 0
  pub links : entry.links ≡ map Link.to (t ∷ replicate 63 nil)
  pub refs : x.refs ≡ ts
  pub others : (q : ℕ) → q ≢ r → find q x.owned ≡ find q v.owned
  pub same_seat : SameSeat v x

-- w is the view once the row is a node, and x once the link is set
pub leaf-linked : (v w x : SeatView) (r item : ℕ) (e d : Entry) (t : Tree) (ts : List Tree) → v.refs ≡ t ∷ ts → tree_word t ≡ suc item → e.linked ≡ 0
    → OnlyEntryChanges r v w → IsNewNode 2 e d → x ≡ relinked r d 0 nil (tree_of item w.refs) w → LeafLinked r t ts v x
leaf-linked v w x r item e d t ts refs is unlinked only node move =
    let old : w.refs ≡ t ∷ ts = only.refs ∙ refs in
    let all : x ≡ relinked r d 0 nil t w = move ∙ ap (λ u. relinked r d 0 nil u w) (ap (tree_of item) old ∙ tree_of-first item t ts is) in
    let l : Entry = with_link 0 (Link.to t) d in
    record {
      entry = l;
      has = ap (λ (v : SeatView). find r v.owned) all ∙ find-here r l w.owned;
      kind = node.is;
      unlinked = node.linked ∙ unlinked;
      links = ap (λ ls. slice_set ls 0 (Link.to t)) node.links ∙ first-set 63 t;
      refs = ap (λ (v : SeatView). v.refs) all ∙ ap (without_target t) old ∙ without_target-first t item ts is;
      others = λ q n. ap (λ (v : SeatView). find q v.owned) all ∙ sym (find-put q r l w.owned n) ∙ only.others q n;
      same_seat = record {
        number = ap (λ (v : SeatView). v.number) all ∙ only.same_seat.number;
        out = ap (λ (v : SeatView). v.out) all ∙ only.same_seat.out;
        size = ap (λ (v : SeatView). v.size) all ∙ only.same_seat.size;
      };
    }
