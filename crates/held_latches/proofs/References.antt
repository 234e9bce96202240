-- References that are just those of some roots: each root's can be taken first, and one that changes is put back at its place.
use Rattle.std.proofs.Common.{◌≡◌, ◌≢◌, ⊎_elim, ℕ, zero, suc, ◌<◌, ◌≤◌, List, [], ◌∷◌, ◌++◌, length, ap, sym, refl, ◌∙◌, subst, arith, ne_eqb}
use Rattle.std.specs.Prelude.{Option, Some, None}
use Rattle.std.proofs.lemmas.Bool.Decides.{eqb_tells}
use mathlib.Core.Option.{some, some-injective, some-ne-none}
use lib.ListN.{get_elem?}
use Rattle.row_pool.proofs.NewestRef.{tree_of-first, without_tree-first}
use Rattle.row_pool.proofs.Seats.{same_or}
use Rattle.row_pool.proofs.Splits.{tree_of-at, without_tree-shorter}
use Rattle.row_pool.proofs.Sums.{without_tree-from}
use Rattle.row_pool.specs.Changes.{HasRefs, picked, tree_of, without_tree, without_trees}
use Rattle.row_pool.specs.SeatView.{SeatView}
use Rattle.row_pool.specs.Trees.{Tree as Row, tree_word}
use Rattle.row_pool.specs.Views.{ViewInvariant, by_ref}
use Rattle.latch_item.specs.Shape.{IsTree, RefersTo}
use Rattle.interval_tree.specs.Trees.{beside}
use Rattle.latch_shots.specs.Roots.{AreRoots, HasRoot, Root}
use Rattle.held_latches.specs.Stock.{root_rows, with_row}

-- ---- references that are found, and taken away
found : (r : ℕ) (ts : List Row) (k : ℕ) (t : Row) → get_elem? ts k ≡ some t → tree_word t ≡ suc r → tree_word (tree_of r ts) ≡ suc r
found r [] k t e is = absurd (some-ne-none t (sym e))
found r (u ∷ ts) zero t e is = let z = ap tree_word (some-injective u t e) ∙ is in ap tree_word (tree_of-first r u ts z) ∙ z
found r (u ∷ ts) (suc k) t e is = ⊎_elim (λ b. rw b.0 b.1) (λ b. rw b.0 (found r ts k t e is)) (eqb_tells (tree_word u) (suc r))

tree_of-past : (q r : ℕ) (ts : List Row) → r ≢ q → tree_of r (without_tree q ts) ≡ tree_of r ts
tree_of-past q r [] ne = refl
tree_of-past q r (t ∷ ts) ne =
    ⊎_elim (λ b. rw b.0 (rw (ne_eqb (tree_word t) (suc r) (λ e. ne (let a = b.1 in omega arith))) refl))
    (λ b. rw b.0 (⊎_elim (λ d. rw d.0 refl) (λ d. rw d.0 (tree_of-past q r ts ne)) (eqb_tells (tree_word t) (suc r))))
    (eqb_tells (tree_word t) (suc q))

-- two references are taken away in either order
without_tree-swap : (q r : ℕ) (ts : List Row) → without_tree q (without_tree r ts) ≡ without_tree r (without_tree q ts)
without_tree-swap q r [] = refl
without_tree-swap q r (t ∷ ts) = ⊎_elim (λ b. ⊎_elim (λ d. same b.1 d.1) (λ d. rw d.0 (rw b.0 refl)) (eqb_tells (tree_word t) (suc r)))
    (λ b. ⊎_elim (λ d. rw b.0 (rw d.0 refl)) (λ d. rw b.0 (rw d.0 (rw b.0 (ap (λ l. t ∷ l) (without_tree-swap q r ts))))) (eqb_tells (tree_word t) (suc r)))
    (eqb_tells (tree_word t) (suc q))
  where
    same : tree_word t ≡ suc q → tree_word t ≡ suc r → without_tree q (without_tree r (t ∷ ts)) ≡ without_tree r (without_tree q (t ∷ ts))
    same a b = let z : q ≡ r = omega arith in
        subst (λ k. without_tree q (without_tree k (t ∷ ts)) ≡ without_tree k (without_tree q (t ∷ ts))) z refl

-- ---- all references to one row lead to one tree
abbrev pub AreOne : List Row → Type 0
AreOne refs = (j k : ℕ) (t u : Row) → get_elem? refs j ≡ some t → get_elem? refs k ≡ some u → 0 < tree_word t → tree_word t ≡ tree_word u → t ≡ u

pub one-refs : (v : SeatView) → ViewInvariant v → AreOne v.refs
one-refs v sound j k t u e f some_row same = sound.one t u (by_ref j e) (by_ref k f) some_row same

pub one-less : (q : ℕ) (refs : List Row) → AreOne refs → AreOne (without_tree q refs)
one-less q refs one j k t u e f =
    let a = without_tree-from q refs j t e in let b = without_tree-from q refs k u f in one a.0 b.0 t u a.1 b.1

same-less : (q r : ℕ) (refs : List Row) → AreOne refs → tree_word (tree_of r (without_tree q refs)) ≡ suc r → tree_of r refs ≡ tree_of r (without_tree q refs)
same-less q r refs one h =
    let t : Row = tree_of r (without_tree q refs) in let o = tree_of-at r (without_tree q refs) h in
    let p = without_tree-from q refs o.0 t o.1 in
    let here = found r refs p.0 t p.1 h in let f = tree_of-at r refs here in
    one f.0 p.0 (tree_of r refs) t f.1 p.1 (omega arith) (here ∙ sym h)

same-other : (q k : ℕ) (refs : List Row) → AreOne refs → tree_word (tree_of q (without_tree k refs)) ≡ suc q → tree_of k (without_tree q refs) ≡ tree_of k refs
same-other q k refs one w = ⊎_elim
    (λ (z : k ≡ q). subst (λ n. tree_of k (without_tree n refs) ≡ tree_of k refs) z
    (sym (same-less k k refs one (subst (λ n. tree_word (tree_of n (without_tree k refs)) ≡ suc n) (sym z) w))))
    (λ ne. tree_of-past q k refs ne) (same_or k q)

-- ---- one root among several
abbrev pub RefersIn : List Row → Option ℕ → ℕ → List Row → Type 0
RefersIn refs None height items = items ≡ []
RefersIn refs (Some root) height items = (tree_word (tree_of root refs) ≡ suc root) × IsTree (tree_of root refs) height items

pub refers-in : (v : SeatView) (root : Option ℕ) (height : ℕ) (items : List Row) → RefersIn v.refs root height items → RefersTo v root height items
refers-in v None height items h = h
refers-in v (Some root) height items h = h

pub refers-to : (v : SeatView) (root : Option ℕ) (height : ℕ) (items : List Row) → RefersTo v root height items → RefersIn v.refs root height items
refers-to v None height items h = h
refers-to v (Some root) height items h = h

-- a root behind another
record Behind (P : List Row → Type 0) (q fh : ℕ) (fi : List Row) (k : Option ℕ) (height : ℕ) (items refs : List Row) : Type 0 where
  refers : RefersIn refs k height items
  has : HasRoot (Some q) fh fi P (beside k refs)

behind : (P : List Row → Type 0) (q fh : ℕ) (fi : List Row) (k : Option ℕ) (height : ℕ) (items refs : List Row) → AreOne refs
    → tree_word (tree_of q refs) ≡ suc q → IsTree (tree_of q refs) fh fi → RefersIn (without_tree q refs) k height items → P (beside k (without_tree q refs))
    → Behind P q fh fi k height items refs
behind P q fh fi None height items refs one w t a p = record { refers = a; has = (w, t, p) }
behind P q fh fi (Some k) height items refs one w t a p =
    let same = same-less q k refs one a.0 in let other = same-other k q refs one a.0 in record {
      refers = (ap tree_word same ∙ a.0, subst (λ t. IsTree t height items) (sym same) a.1);
      has = (ap tree_word other ∙ w, subst (λ t. IsTree t fh fi) (sym other) t, subst P (without_tree-swap k q refs) p);
    }

record Before (P : List Row → Type 0) (q fh : ℕ) (fi : List Row) (k : Option ℕ) (height : ℕ) (items refs : List Row) : Type 0 where
  here : tree_word (tree_of q refs) ≡ suc q
  tree : IsTree (tree_of q refs) fh fi
  refers : RefersIn (without_tree q refs) k height items
  rest : P (beside k (without_tree q refs))

before : (P : List Row → Type 0) (q fh : ℕ) (fi : List Row) (k : Option ℕ) (height : ℕ) (items refs : List Row) → AreOne refs
    → RefersIn refs k height items → HasRoot (Some q) fh fi P (beside k refs) → Before P q fh fi k height items refs
before P q fh fi None height items refs one a h = record { here = h.0; tree = h.1; refers = a; rest = h.2 }
before P q fh fi (Some k) height items refs one a h =
    let same = same-less k q refs one h.0 in let other = same-other q k refs one h.0 in record {
      here = ap tree_word same ∙ h.0;
      tree = subst (λ t. IsTree t fh fi) (sym same) h.1;
      refers = (ap tree_word other ∙ a.0, subst (λ t. IsTree t height items) (sym other) a.1);
      rest = subst P (without_tree-swap q k refs) h.2;
    }

-- each root's reference can be taken first
pub record Picked (r : Root) (others : List Root) (refs : List Row) : Type 0 where
  pub refers : RefersIn refs r.row r.height r.items
  pub rest : AreRoots others (beside r.row refs)

pub pick : (front : List Root) (r : Root) (back : List Root) (refs : List Row) → AreOne refs → AreRoots (front ++ r ∷ back) refs
    → Picked r (front ++ back) refs
pick [] r back refs one h = let o = first r.row h in record { refers = o.0; rest = o.1 }
  where
    first : (k : Option ℕ) → HasRoot k r.height r.items (AreRoots back) refs → RefersIn refs k r.height r.items × AreRoots back (beside k refs)
    first None h = (h.0, h.1)
    first (Some q) h = ((h.0, h.1), h.2)
pick (f ∷ front) r back refs one h = let o = go (pick front r back) f.row h in record { refers = o.0; rest = o.1 }
  where
    go : ((ts : List Row) → AreOne ts → AreRoots (front ++ r ∷ back) ts → Picked r (front ++ back) ts) → (k : Option ℕ)
        → HasRoot k f.height f.items (AreRoots (front ++ r ∷ back)) refs
        → RefersIn refs r.row r.height r.items × HasRoot k f.height f.items (AreRoots (front ++ back)) (beside r.row refs)
    go later None h = let o = later refs one h.1 in (o.refers, (h.0, o.rest))
    go later (Some q) h = let o = later (without_tree q refs) (one-less q refs one) h.2 in
        let b = behind (AreRoots (front ++ back)) q f.height f.items r.row r.height r.items refs one h.0 h.1 o.refers o.rest in (b.refers, b.has)

-- and put back at its place
pub put_back : (front : List Root) (r : Root) (back : List Root) (refs : List Row) → AreOne refs → RefersIn refs r.row r.height r.items
    → AreRoots (front ++ back) (beside r.row refs) → AreRoots (front ++ r ∷ back) refs
put_back [] r back refs one a h = first r.row a h
  where
    first : (k : Option ℕ) → RefersIn refs k r.height r.items → AreRoots back (beside k refs) → HasRoot k r.height r.items (AreRoots back) refs
    first None a h = (a, h)
    first (Some q) a h = (a.0, a.1, h)
put_back (f ∷ front) r back refs one a h = go (put_back front r back) f.row h
  where
    go : ((ts : List Row) → AreOne ts → RefersIn ts r.row r.height r.items → AreRoots (front ++ back) (beside r.row ts) → AreRoots (front ++ r ∷ back) ts)
        → (k : Option ℕ) → HasRoot k f.height f.items (AreRoots (front ++ back)) (beside r.row refs)
        → HasRoot k f.height f.items (AreRoots (front ++ r ∷ back)) refs
    go later None h = (h.0, later refs one a h.1)
    go later (Some q) h = let b = before (AreRoots (front ++ back)) q f.height f.items r.row r.height r.items refs one a h in
        (b.here, b.tree, later (without_tree q refs) (one-less q refs one) b.refers b.rest)

pub roots-length : (roots : List Root) (refs : List Row) → AreRoots roots refs → length refs ≤ length roots
roots-length [] refs h = let a = ap length h in omega arith
roots-length (r ∷ rs) refs h = go (roots-length rs) r.row h
  where
    go : ((ts : List Row) → AreRoots rs ts → length ts ≤ length rs) → (k : Option ℕ) → HasRoot k r.height r.items (AreRoots rs) refs
        → length refs ≤ suc (length rs)
    go later None h = let a = later refs h.1 in omega arith
    go later (Some q) h = let a = later (without_tree q refs) h.2 in let b = without_tree-shorter q refs h.0 in omega arith

-- ---- the references of the first roots go to another seat
pub record Parted (shots trees : List Root) (refs : List Row) : Type 0 where
  pub has : HasRefs (root_rows shots) refs
  pub left : AreRoots trees (without_trees (root_rows shots) refs)
  pub taken : AreRoots shots (picked (root_rows shots) refs)

pub parted : (shots trees : List Root) (refs : List Row) → AreRoots (shots ++ trees) refs → Parted shots trees refs
parted [] trees refs h = record { has = tt; left = h; taken = refl }
parted (s ∷ ss) trees refs h = let o = go (parted ss trees) s.row h in record { has = o.0; left = o.1; taken = o.2 }
  where
    go : ((ts : List Row) → AreRoots (ss ++ trees) ts → Parted ss trees ts) → (k : Option ℕ) → HasRoot k s.height s.items (AreRoots (ss ++ trees)) refs
        → HasRefs (with_row k (root_rows ss)) refs × AreRoots trees (without_trees (with_row k (root_rows ss)) refs)
        × HasRoot k s.height s.items (AreRoots ss) (picked (with_row k (root_rows ss)) refs)
    go later None h = let o = later refs h.1 in (o.has, o.left, (h.0, o.taken))
    go later (Some q) h = let o = later (without_tree q refs) h.2 in
        let t : Row = tree_of q refs in let rest = picked (root_rows ss) (without_tree q refs) in
        let first : tree_of q (t ∷ rest) ≡ t = tree_of-first q t rest h.0 in (
          (h.0, o.has),
          o.left,
          (
            ap tree_word first ∙ h.0,
            subst (λ u. IsTree u s.height s.items) (sym first) h.1,
            subst (AreRoots ss) (sym (without_tree-first q t rest h.0)) o.taken,
          ),
        )
