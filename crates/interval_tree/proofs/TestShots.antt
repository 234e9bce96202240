-- Shots of a tree that grows: their references stand beside the tree's, and are given up in any order.
use Rattle.std.proofs.Common.{◌≡◌, ◌≢◌, ⊎_elim, ℕ, zero, suc, ◌≤◌, true, true≢false, List, [], ◌∷◌, ◌++◌, length, ap, sym, refl, ◌∙◌, subst, eq-eqb}
use Rattle.std.proofs.Common.{ne_eqb, arith}
use Rattle.std.specs.Prelude.{Option, Some, None}
use Rattle.std.proofs.lemmas.Bool.Decides.{eqb_tells}
use mathlib.Core.Option.{some, some-injective, some-ne-none}
use lib.ListN.{get_elem?}
use Rattle.atomic_table.specs.Seated.{TableId}
use Rattle.row_pool.proofs.Chains.{mem-here, mem-right}
use Rattle.row_pool.proofs.NewestRef.{tree_of-first, without_tree-first}
use Rattle.row_pool.proofs.Seats.{same_or}
use Rattle.row_pool.proofs.Splits.{tree_of-at}
use Rattle.row_pool.proofs.Sums.{without_tree-from}
use Rattle.row_pool.specs.Chains.{ChainGrows}
use Rattle.row_pool.specs.Changes.{HasRefs, tree_of, with_ref, without_tree, without_trees}
use Rattle.row_pool.specs.Lists.{find, mem}
use Rattle.row_pool.specs.SeatState.{SeatState}
use Rattle.row_pool.specs.SeatView.{SeatView}
use Rattle.row_pool.specs.Trees.{Entry, Tree as Row, tree_word}
use Rattle.row_pool.specs.Views.{ViewInvariant, by_ref}
use Rattle.row_pool.specs.declared.chain.Chain.{Chain}
use Rattle.latch_item.specs.Shape.{IsTree, RefersTo}
use Rattle.interval_tree.specs.declared.tree.Tree.{Tree}
use Rattle.interval_tree.specs.TestTrees.{Growing, HasShot, ShotsStand, with_shot, without_number, without_shot}
use Rattle.interval_tree.specs.Trees.{Keeps, beside, other_refs}
use Rattle.interval_tree.proofs.TestGrowing.{all-grows, chain-held, growing-same}

-- ---- references that are found, and taken away
found : (r : ℕ) (ts : List Row) (k : ℕ) (t : Row) → get_elem? ts k ≡ some t → tree_word t ≡ suc r → tree_word (tree_of r ts) ≡ suc r
found r [] k t e is = absurd (some-ne-none t (sym e))
found r (u ∷ ts) zero t e is =
    let z = ap tree_word (some-injective u t e) ∙ is in ap tree_word (tree_of-first r u ts z) ∙ z
found r (u ∷ ts) (suc k) t e is = ⊎_elim (λ b. rw b.0 b.1) (λ b. rw b.0 (found r ts k t e is)) (eqb_tells (tree_word u) (suc r))

found-beside : (q r : ℕ) (ts : List Row) → tree_word (tree_of r (without_tree q ts)) ≡ suc r → tree_word (tree_of r ts) ≡ suc r
found-beside q r ts h =
    let t : Row = tree_of r (without_tree q ts) in let o = tree_of-at r (without_tree q ts) h in
    let p = without_tree-from q ts o.0 t o.1 in found r ts p.0 t p.1 h

-- all references to one row lead to one tree
same-beside : (v : SeatView) (q r : ℕ) → ViewInvariant v → tree_word (tree_of r (without_tree q v.refs)) ≡ suc r
    → tree_of r v.refs ≡ tree_of r (without_tree q v.refs)
same-beside v q r sound h =
    let t : Row = tree_of r (without_tree q v.refs) in let o = tree_of-at r (without_tree q v.refs) h in
    let p = without_tree-from q v.refs o.0 t o.1 in
    let here = found r v.refs p.0 t p.1 h in let f = tree_of-at r v.refs here in
    sound.one (tree_of r v.refs) t (by_ref f.0 f.1) (by_ref p.0 p.1) (omega arith) (here ∙ sym h)

same-other : (v : SeatView) (tree : Tree) (r : ℕ) → ViewInvariant v → tree_word (tree_of r (other_refs tree v.refs)) ≡ suc r
    → tree_of r v.refs ≡ tree_of r (other_refs tree v.refs)
same-other v tree r sound h = go tree.root h
  where
    go : (k : Option ℕ) → tree_word (tree_of r (beside k v.refs)) ≡ suc r → tree_of r v.refs ≡ tree_of r (beside k v.refs)
    go None h = refl
    go (Some k) h = same-beside v k r sound h

tree_of-past : (q r : ℕ) (ts : List Row) → r ≢ q → tree_of r (without_tree q ts) ≡ tree_of r ts
tree_of-past q r [] ne = refl
tree_of-past q r (t ∷ ts) ne =
    ⊎_elim (λ b. rw b.0 (rw (ne_eqb (tree_word t) (suc r) (λ e. ne (let a = b.1 in omega arith))) refl))
    (λ b. rw b.0 (⊎_elim (λ d. rw d.0 refl) (λ d. rw d.0 (tree_of-past q r ts ne)) (eqb_tells (tree_word t) (suc r))))
    (eqb_tells (tree_word t) (suc q))

-- two references are taken away in either order
without_tree-swap : (q r : ℕ) (ts : List Row) → without_tree q (without_tree r ts) ≡ without_tree r (without_tree q ts)
without_tree-swap q r [] = refl
without_tree-swap q r (t ∷ ts) = ⊎_elim (λ b. ⊎_elim (λ d. same b.1 d.1) (λ d. rw d.0 (rw b.0 refl)) (eqb_tells (tree_word t) (suc r)))
    (λ b. ⊎_elim (λ d. rw b.0 (rw d.0 refl)) (λ d. rw b.0 (rw d.0 (rw b.0 (ap (λ l. t ∷ l) (without_tree-swap q r ts))))) (eqb_tells (tree_word t) (suc r)))
    (eqb_tells (tree_word t) (suc q))
  where
    same : tree_word t ≡ suc q → tree_word t ≡ suc r → without_tree q (without_tree r (t ∷ ts)) ≡ without_tree r (without_tree q (t ∷ ts))
    same a b = let z : q ≡ r = omega arith in
        subst (λ k. without_tree q (without_tree k (t ∷ ts)) ≡ without_tree k (without_tree q (t ∷ ts))) z refl

beside-swap : (k : Option ℕ) (q : ℕ) (ts : List Row) → beside k (without_tree q ts) ≡ without_tree q (beside k ts)
beside-swap None q ts = refl
beside-swap (Some k) q ts = without_tree-swap k q ts

-- ---- one of several references
has-at : (q : ℕ) (roots : List ℕ) (ts : List Row) → HasRefs roots ts → mem q roots ≡ true → tree_word (tree_of q ts) ≡ suc q
has-at q [] ts h m = absurd (true≢false (sym m))
has-at q (r ∷ rs) ts h m = ⊎_elim (λ b. subst (λ k. tree_word (tree_of k ts) ≡ suc k) b.1 h.0)
    (λ b. found-beside r q ts (has-at q rs (without_tree r ts) h.1 (rw b.0 at m))) (eqb_tells r q)

record TakenOut (q : ℕ) (roots : List ℕ) (ts : List Row) : Type 0 where
  has : HasRefs (without_number q roots) (without_tree q ts)
  left : without_trees (without_number q roots) (without_tree q ts) ≡ without_trees roots ts

taken-out : (q : ℕ) (roots : List ℕ) (ts : List Row) → HasRefs roots ts → mem q roots ≡ true → TakenOut q roots ts
taken-out q [] ts h m = absurd (true≢false (sym m))
taken-out q (r ∷ rs) ts h m = ⊎_elim
    (λ b. record {
      has = rw b.0 (subst (λ k. HasRefs rs (without_tree k ts)) b.1 h.1);
      left = rw b.0 (ap (λ k. without_trees rs (without_tree k ts)) (sym b.1));
    })
    (λ b. let o = taken-out q rs (without_tree r ts) h.1 (rw b.0 at m) in record {
      has = rw b.0 (ap tree_word (tree_of-past q r ts b.1) ∙ h.0, subst (HasRefs (without_number q rs)) (without_tree-swap q r ts) o.has);
      left = rw b.0 (ap (without_trees (without_number q rs)) (without_tree-swap r q ts) ∙ o.left);
    })
    (eqb_tells r q)

-- ---- the shots stand
pub shots-added : (v z : SeatView) (tree new : Tree) (roots : List ℕ) → HasRefs roots (other_refs tree v.refs)
    → other_refs new z.refs ≡ other_refs tree v.refs → ViewInvariant v → ViewInvariant z → ShotsStand roots v z
shots-added v z tree new roots has refs before after r m =
    let here = has-at r roots (other_refs tree v.refs) has m in
    same-other z new r after (ap (λ ts. tree_word (tree_of r ts)) refs ∙ here) ∙ ap (tree_of r) refs ∙ sym (same-other v tree r before here)

-- what a shot of a tree changes
abbrev pub Holds : Option ℕ → SeatView → SeatView → Type 0
Holds shot v w = ((root : ℕ) → shot ≡ Some root → w ≡ with_ref (tree_of root v.refs) v) × (shot ≡ None → w ≡ v)

pub shots-dropped : (v w : SeatView) (tree : Tree) (roots : List ℕ) (root : ℕ) → HasRefs roots (other_refs tree v.refs) → mem root roots ≡ true
    → ViewInvariant v → w.refs ≡ without_tree root v.refs → ShotsStand (without_number root roots) v w
shots-dropped v w tree roots root has m sound refs r n =
    let o = taken-out root roots (other_refs tree v.refs) has m in
    let here = has-at r (without_number root roots) (without_tree root (other_refs tree v.refs)) o.has n in
    ap (tree_of r) refs ∙ sym (same-beside v root r sound
    (up tree.root (ap (λ ts. tree_word (tree_of r ts)) (beside-swap tree.root root v.refs) ∙ here)))
  where
    up : (k : Option ℕ) → tree_word (tree_of r (beside k (without_tree root v.refs))) ≡ suc r → tree_word (tree_of r (without_tree root v.refs)) ≡ suc r
    up None h = h
    up (Some k) h = found-beside k r (without_tree root v.refs) h

-- a shot's list stays as it is
pub refers-still : (v w : SeatView) (roots : List ℕ) (shot : Option ℕ) (height : ℕ) (xs : List Row) → HasShot shot roots → ShotsStand roots v w
    → RefersTo v shot height xs → RefersTo w shot height xs
refers-still v w roots None height xs h stand k = k
refers-still v w roots (Some r) height xs h stand k = (ap tree_word (stand r h) ∙ k.0, subst (λ t. IsTree t height xs) (sym (stand r h)) k.1)

-- ---- a shot is taken
pub growing-shot : (pool : TableId) (s z : SeatState) (c : Chain) (tree : Tree) (n : ℕ) (roots : List ℕ) (shot : Option ℕ)
    → (g : Growing pool s c tree n roots) → z.table ≡ s.table → shot ≡ tree.root → Keeps z.view tree g.items → Holds shot s.view z.view
    → Growing pool z c tree n (with_shot shot roots)
growing-shot pool s z c tree n roots None g table is keeps h = growing-same pool s z c tree n roots table (h.1 refl) g
growing-shot pool s z c tree n roots (Some root) g table is keeps h =
    let move = h.0 root refl in
    let k = subst (λ r. RefersTo s.view r tree.height g.items) (sym is) g.keeps.refers in
    let now : other_refs tree z.view.refs ≡ s.view.refs = ap (λ k. beside k z.view.refs) (sym is)
    ∙ ap (λ (v : SeatView). without_tree root v.refs) move ∙ without_tree-first root (tree_of root s.view.refs) s.view.refs k.0 in
    let before : without_tree root s.view.refs ≡ other_refs tree s.view.refs = ap (λ k. beside k s.view.refs) is in
    record {
      table = table ∙ g.table;
      first = ap (λ (v : SeatView). v.number) move ∙ g.first;
      alone = ap (λ (v : SeatView). v.out) move ∙ g.alone;
      items = g.items;
      keeps = keeps;
      ids = g.ids;
      shots = subst (HasRefs (root ∷ roots)) (sym now) (k.0, subst (HasRefs roots) (sym before) g.shots);
      no_more = ap (without_trees (root ∷ roots)) now ∙ ap (without_trees roots) before ∙ g.no_more;
      rows = g.rows;
      chain = chain-held s.view z.view c (tree_of root s.view.refs) g.rows move g.chain;
      all = subst (λ (v : SeatView). (q : ℕ) (e : Entry) → find q v.owned ≡ some e → mem q g.rows ≡ true) (sym move) g.all;
    }

-- ---- a shot is given up
pub shot-held : (v : SeatView) (tree : Tree) (roots : List ℕ) (root : ℕ) → HasRefs roots (other_refs tree v.refs) → mem root roots ≡ true
    → tree_word (tree_of root v.refs) ≡ suc root
shot-held v tree roots root has m = go tree.root (has-at root roots (other_refs tree v.refs) has m)
  where
    go : (k : Option ℕ) → tree_word (tree_of root (beside k v.refs)) ≡ suc root → tree_word (tree_of root v.refs) ≡ suc root
    go None h = h
    go (Some k) h = found-beside k root v.refs h

keeps-dropped : (v w : SeatView) (tree : Tree) (xs : List Row) (roots : List ℕ) (root : ℕ) → Keeps v tree xs → HasRefs roots (other_refs tree v.refs)
    → mem root roots ≡ true → ViewInvariant v → w.refs ≡ without_tree root v.refs → Keeps w tree xs
keeps-dropped v w tree xs roots root k has m sound refs = record { refers = go tree.root k.refers has; many = k.many; low = k.low }
  where
    go : (k : Option ℕ) → RefersTo v k tree.height xs → HasRefs roots (beside k v.refs) → RefersTo w k tree.height xs
    go None r has = r
    go (Some k) r has =
        let same : tree_of k w.refs ≡ tree_of k v.refs = ap (tree_of k) refs ∙ ⊎_elim
        (λ (z : k ≡ root). subst (λ q. tree_of k (without_tree q v.refs) ≡ tree_of k v.refs) z
        (sym (same-beside v k k sound (has-at k roots (without_tree k v.refs) has (ap (λ q. mem q roots) z ∙ m)))))
        (λ (ne : k ≢ root). tree_of-past root k v.refs ne) (same_or k root) in
        (ap tree_word same ∙ r.0, subst (λ t. IsTree t tree.height xs) (sym same) r.1)

pub growing-dropped : (pool : TableId) (s z : SeatState) (c d : Chain) (tree : Tree) (n : ℕ) (roots : List ℕ) (root : ℕ)
    → Growing pool s c tree n roots → mem root roots ≡ true → ViewInvariant s.view → z.table ≡ s.table → z.view.refs ≡ without_tree root s.view.refs
    → ChainGrows s.view z.view c d → Growing pool z d tree n (without_number root roots)
growing-dropped pool s z c d tree n roots root g m sound table refs grows =
    let now = ap (other_refs tree) refs ∙ beside-swap tree.root root s.view.refs in
    let o = taken-out root roots (other_refs tree s.view.refs) g.shots m in
    record {
      table = table ∙ g.table;
      first = grows.owns_more.same_seat.number ∙ g.first;
      alone = grows.owns_more.same_seat.out ∙ g.alone;
      items = g.items;
      keeps = keeps-dropped s.view z.view tree g.items roots root g.keeps g.shots m sound refs;
      ids = g.ids;
      shots = subst (HasRefs (without_number root roots)) (sym now) o.has;
      no_more = ap (without_trees (without_number root roots)) now ∙ o.left ∙ g.no_more;
      rows = grows.more ++ g.rows;
      chain = grows.chain g.rows g.chain;
      all = all-grows s.view z.view c d g.rows g.all grows;
    }

-- ---- which shots there are
pub has-newest : (shot : Option ℕ) (roots : List ℕ) → HasShot shot (with_shot shot roots)
has-newest None roots = tt
has-newest (Some r) roots = mem-here r roots

pub has-still : (shot : Option ℕ) (roots : List ℕ) (q : ℕ) → mem q roots ≡ true → mem q (with_shot shot roots) ≡ true
has-still None roots q m = m
has-still (Some r) roots q m = mem-right q (r ∷ []) roots m

pub with-shot-long : (shot : Option ℕ) (roots : List ℕ) → length (with_shot shot roots) ≤ suc (length roots)
with-shot-long None roots = omega arith
with-shot-long (Some r) roots = omega arith

pub without-newest : (shot : Option ℕ) (roots : List ℕ) → without_shot shot (with_shot shot roots) ≡ roots
without-newest None roots = refl
without-newest (Some r) roots = rw (eq-eqb r r refl)

pub has-older : (one two : Option ℕ) (roots : List ℕ) → HasShot one (with_shot two (with_shot one roots))
has-older None two roots = tt
has-older (Some q) None roots = mem-here q roots
has-older (Some q) (Some r) roots = mem-right q (r ∷ []) (q ∷ roots) (mem-here q roots)

pub without-older : (one two : Option ℕ) (roots : List ℕ) → without_shot one (with_shot two (with_shot one roots)) ≡ with_shot two roots
without-older None two roots = refl
without-older (Some q) None roots = without-newest (Some q) roots
without-older (Some q) (Some r) roots = ⊎_elim (λ b. rw b.0 (ap (λ k. k ∷ roots) (sym b.1)))
    (λ b. rw b.0 (ap (λ l. r ∷ l) (without-newest (Some q) roots))) (eqb_tells r q)
