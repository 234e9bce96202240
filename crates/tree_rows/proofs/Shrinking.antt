-- What the calls of the tests with removals do to what a seat has.
use Rattle.std.proofs.Common.{◌≡◌, ◌≢◌, ℕ, zero, suc, ◌+◌, ◌<◌, ◌≤◌, true, false, true≢false, List, [], ◌∷◌, ◌++◌, append-nil, length, sym, refl, ap, inl}
use Rattle.std.proofs.Common.{◌∙◌, subst, ⊎_elim, slice_index_or, inr, arith}
use Rattle.std.specs.Prelude.{Option, None, Some}
use Rattle.std.specs.List.{Contains}
use Rattle.std.proofs.lemmas.Bool.Decides.{eqb_tells}
use mathlib.Core.Option.{some}
use lib.ListN.{get_elem?}
use Rattle.atomic_table.specs.Seated.{TableId}
use Rattle.row_pool.specs.Lists.{find}
use Rattle.row_pool.specs.Trees.{Tree as Row, tree_word, children}
use Rattle.row_pool.specs.SeatView.{SeatView}
use Rattle.row_pool.specs.SeatState.{SeatState, SameSeat, kind_of}
use Rattle.row_pool.specs.Layout.{IsContent, IsLink, first_link}
use Rattle.row_pool.specs.Views.{Reaches, ViewInvariant, by_ref}
use Rattle.row_pool.specs.Changes.{joined, remaining, split_off, tree_of, with_ref, without_tree}
use Rattle.row_pool.specs.Caps.{row_count}
use Rattle.row_pool.specs.Chains.{ChainGrows}
use Rattle.row_pool.specs.declared.chain.Chain.{Chain}
use Rattle.row_pool.proofs.NewestRef.{tree_of-first, without_tree-first, without_tree-second}
use Rattle.row_pool.proofs.NewNodes.{fan-node}
use Rattle.row_pool.proofs.Words.{at-some}
use Rattle.row_pool.proofs.Chains.{mem-or}
use Rattle.latch_item.specs.Items.{IsLatch, item_of, word}
use Rattle.latch_item.specs.Shape.{Among, Each, IsTree, Node, RefersTo}
use Rattle.interval_tree.specs.Held.{Spends}
use Rattle.interval_tree.specs.Listings.{rows_of}
use Rattle.interval_tree.specs.Trees.{Keeps, beside, other_refs, root_of}
use Rattle.interval_tree.specs.declared.tree.Tree.{Tree}
use Rattle.interval_tree.proofs.Depths.{node-items}
use Rattle.interval_tree.proofs.Lists.{each-back, each-front, each-join}
use Rattle.tree_shrink.specs.Stages.{Removed}
use Rattle.tree_rows.specs.Planting.{OwnsChain, Planted}
use Rattle.tree_rows.specs.Shrinking.{HasPlanted, HoldsTree, IsOnce, Stays}
use Rattle.tree_rows.proofs.Planting.{each-weaker, keeps-refs, longer, no-tree, owns-grows, owns-same, single}

-- ---- what stays
-- the seat has the same references and owns the same rows
planted-moved : (p : TableId) (s z : SeatState) (c : Chain) (t : Tree) (rs : List ℕ) (xs : List Row) (n : ℕ) → Planted p s c t rs xs n → z.table ≡ s.table
    → z.view.refs ≡ s.view.refs → ((q : ℕ) → find q z.view.owned ≡ find q s.view.owned) → Planted p z c t rs xs n
planted-moved p s z c t rs xs n h table refs same = record {
  owns = owns-same p s z c rs h.owns table same;
  keeps = keeps-refs s.view z.view t xs refs h.keeps;
  ids = h.ids;
  refs = ap (other_refs t) refs ∙ h.refs;
  few = (let a = ap length refs in let b = h.few in omega arith);
  low = h.low;
}

pub has-later : (p : TableId) (s : SeatState) (c : Chain) (t : Tree) (n m : ℕ) → HasPlanted p s c t n → n ≤ m → HasPlanted p s c t m
has-later p s c t n m (rs, xs, h) more = (
  rs,
  xs,
  record {
    owns = h.owns;
    keeps = h.keeps;
    ids = each-weaker (λ y. (item_of y).id ≤ n) (λ y. (item_of y).id ≤ m) xs (λ y low. omega arith) h.ids;
    refs = h.refs;
    few = h.few;
    low = h.low;
  },
)

pub same-then : (u v w : SeatView) → SameSeat u v → SameSeat v w → SameSeat u w
same-then u v w a b = record { number = b.number ∙ a.number; out = b.out ∙ a.out; size = b.size ∙ a.size }

same-view : (v w : SeatView) → w ≡ v → SameSeat v w
same-view v w e = record { number = ap (λ (v : SeatView). v.number) e; out = ap (λ (v : SeatView). v.out) e; size = ap (λ (v : SeatView). v.size) e }

pub stays-same : (p : TableId) (s z : SeatState) (c : Chain) (t : Tree) → z.table ≡ s.table → z.view ≡ s.view → Stays p s z c c t t
stays-same p s z c t table view = record {
  stand = λ n h. (
    h.0,
    h.1,
    planted-moved p s z c t h.0 h.1 n h.2 table (ap (λ (v : SeatView). v.refs) view) (λ q. ap (λ (v : SeatView). find q v.owned) view),
  );
  same_seat = same-view s.view z.view view;
}

pub stays-then : (p : TableId) (s m z : SeatState) (c d e : Chain) (t u w : Tree) → Stays p s m c d t u → Stays p m z d e u w → Stays p s z c e t w
stays-then p s m z c d e t u w a b = record {
  stand = λ n h. b.stand n (a.stand n h);
  same_seat = same-then s.view m.view z.view a.same_seat b.same_seat;
}

-- ---- an item goes
-- a row that is listed is that of an item of the tree
among-row : (r : ℕ) (xs : List Row) (k : ℕ) → Each IsLatch xs → k < length (rows_of xs) → slice_index_or (rows_of xs) k r ≡ r
    → (it : Row) × Among it xs × (tree_word it ≡ suc r)
among-row r [] k latches low at = absurd (omega arith)
among-row r (x ∷ xs) zero latches low at = (x, inl refl, let a = latches.0.here in omega arith)
among-row r (x ∷ xs) (suc k) latches low at = let o = among-row r xs k latches.1 (omega arith) at in (o.0, inr o.1, o.2)

listed-item : (v : SeatView) (t : Tree) (xs : List Row) (r : ℕ) → Keeps v t xs → Contains (rows_of xs) r
    → (it : Row) × Among it xs × (tree_word it ≡ suc r)
listed-item v t xs r keeps (k, low, at) = among-row r xs k (go t.root keeps.refers) low at
  where
    go : (root : Option ℕ) → RefersTo v root t.height xs → Each IsLatch xs
    go None e = subst (Each IsLatch) (sym e) tt
    go (Some root) o = let y : Row = tree_of root v.refs in node-items o.1.level (word y 1) (word y 2) (children y) xs o.1.stands

pub found-item : (v w : SeatView) (t : Tree) (xs : List Row) (r : ℕ) (list : List ℕ) → w ≡ v → Keeps w t xs → (Keeps v t xs → list ≡ rows_of xs)
    → Contains list r → (it : Row) × Among it xs × (tree_word it ≡ suc r)
found-item v w t xs r list same keeps is has =
    let k = subst (λ v. Keeps v t xs) same keeps in listed-item v t xs r k (subst (λ l. Contains l r) (is k) has)

each-removed : (P : Row → Type 0) (x : Row) (xs ys : List Row) → Removed x xs ys → Each P xs → Each P ys
each-removed P x xs ys r h =
    let split = subst (Each P) r.old h in
    subst (Each P) (sym r.new) (each-join P r.front r.back (each-front P r.front (x ∷ r.back) split) ((each-back P r.front (x ∷ r.back) split).1))

-- a seat has one reference to the root of a tree that it keeps, where it has no other
once-refs : (v : SeatView) (t : Tree) (xs : List Row) → Keeps v t xs → other_refs t v.refs ≡ [] → IsOnce t.root v.refs
once-refs v t xs keeps none = go t.root keeps.refers none
  where
    go : (root : Option ℕ) → RefersTo v root t.height xs → beside root v.refs ≡ [] → IsOnce root v.refs
    go None o e = e
    go (Some root) o e = single root v.refs o.0 e

few-refs : (v : SeatView) (t : Tree) (xs : List Row) → Keeps v t xs → other_refs t v.refs ≡ [] → length v.refs ≤ length xs
few-refs v t xs keeps none = go t.root xs keeps.refers (once-refs v t xs keeps none)
  where
    go : (root : Option ℕ) (xs : List Row) → RefersTo v root t.height xs → IsOnce root v.refs → length v.refs ≤ length xs
    go None xs o e = let a = ap length e in omega arith
    go (Some root) [] o e = absurd (no-tree o.1.level (tree_of root v.refs) o.1.stands)
    go (Some root) (x ∷ xs) o e = let a = ap length e.1 in omega arith

pub planted-less : (p : TableId) (s z : SeatState) (c d : Chain) (t u : Tree) (rs : List ℕ) (xs ys : List Row) (n : ℕ) (it : Row) → Planted p s c t rs xs n
    → Removed it xs ys → Keeps z.view u ys → z.table ≡ s.table → other_refs u z.view.refs ≡ other_refs t s.view.refs
    → (o : Spends 5 [] [] rs s.view z.view d) → Planted p z d u o.left ys n
planted-less p s z c d t u rs xs ys n it h less keeps table refs o = record {
  owns = record {
    table = table ∙ h.owns.table;
    chain = o.chain;
    all = λ q e f. ⊎_elim (λ a. a) (λ out. let b = o.frame.only q e (out, f) in absurd (true≢false (sym (h.owns.all q e b.1) ∙ b.0))) (mem-or q o.left);
  };
  keeps = keeps;
  ids = each-removed (λ y. (item_of y).id ≤ n) it xs ys less h.ids;
  refs = refs ∙ h.refs;
  few = few-refs z.view u ys keeps (refs ∙ h.refs);
  low =
      (let a = ap length less.old in let b = longer less.front less.back it in let e = ap length less.new in let k = h.low in omega arith);
}

-- ---- a shot goes to a seat of its own
pub held-none : (p : TableId) (s m z : SeatState) (c : Chain) (t : Tree) (n : ℕ) → HasPlanted p s c t n → m.view ≡ s.view → z.view ≡ remaining [] m.view
    → z.table ≡ s.table → HasPlanted p z c t n
held-none p s m z c t n (rs, xs, h) same split table = (
  rs,
  xs,
  planted-moved p s z c t rs xs n h table (ap (λ (v : SeatView). v.refs) split ∙ ap (λ (v : SeatView). v.refs) same)
      (λ q. ap (λ (v : SeatView). find q v.owned) split ∙ ap (λ (v : SeatView). find q v.owned) same),
)

pub held-some : (p : TableId) (s m z : SeatState) (c : Chain) (t : Tree) (n root : ℕ) → HasPlanted p s c t n → t.root ≡ Some root
    → m.view ≡ with_ref (tree_of root s.view.refs) s.view → z.view ≡ remaining (root ∷ []) m.view → z.table ≡ s.table → HasPlanted p z c t n
held-some p s m z c t n root (rs, xs, h) is hold split table =
    let o = subst (λ r. RefersTo s.view r t.height xs) is h.keeps.refers in (
      rs,
      xs,
      planted-moved p s z c t rs xs n h table
          (ap (λ (v : SeatView). v.refs) split ∙ ap (λ (v : SeatView). without_tree root v.refs) hold
          ∙ without_tree-first root (tree_of root s.view.refs) s.view.refs o.0)
          (λ q. ap (λ (v : SeatView). find q v.owned) split ∙ ap (λ (v : SeatView). find q v.owned) hold),
    )

-- the seat is the newest of those that are split off
pub out-held : (s m z h : SeatView) (rs : List ℕ) → z ≡ remaining rs m → h ≡ split_off rs m → m.out ≡ s.out
    → (cap : ℕ) × (z.out ≡ (h.number, cap) ∷ s.out)
out-held s m z h rs left split same =
    let cap : ℕ = row_count m.size (split_off rs m) in (
      cap,
      ap (λ (v : SeatView). v.out) left ∙ ap (λ k. (k, cap) ∷ m.out) (sym (ap (λ (v : SeatView). v.number) split)) ∙ ap (λ l. (h.number, cap) ∷ l) same,
    )

-- ---- it comes back
record Back (r : ℕ) (ts : List Row) (u : Row) : Type 0 where
  found : tree_word (tree_of r (ts ++ u ∷ [])) ≡ suc r
  left : without_tree r (ts ++ u ∷ []) ≡ ts

back-refs : (r : ℕ) (ts : List Row) (u : Row) (root : Option ℕ) → IsOnce root ts → tree_word u ≡ suc r
    → ((t : Row) → ts ≡ t ∷ [] → tree_word t ≡ suc r → t ≡ u) → Back r ts u
back-refs r ts u None e is same = subst (λ ts. Back r ts u) (sym e)
    (record { found = ap tree_word (tree_of-first r u [] is) ∙ is; left = without_tree-first r u [] is })
back-refs r ts u (Some q) (t, e, named) is same = subst (λ ts. Back r ts u) (sym e) (⊎_elim
    (λ b. record {
      found = ap tree_word (tree_of-first r t (u ∷ []) b.1) ∙ b.1;
      left = without_tree-first r t (u ∷ []) b.1 ∙ ap (λ x. x ∷ []) (sym (same t e b.1));
    })
    (λ b. record {
      found = rw b.0 (ap tree_word (tree_of-first r u [] is) ∙ is);
      left = without_tree-second r t u [] b.1 is;
    })
    (eqb_tells (tree_word t) (suc r)))

-- the seat of a shot came back
pub record Returned (s j h : SeatState) (root : ℕ) : Type 0 where
  pub tree : Row
  pub refs : j.view.refs ≡ s.view.refs ++ tree ∷ []
  pub found : tree_word (tree_of root j.view.refs) ≡ suc root
  pub left : without_tree root j.view.refs ≡ s.view.refs

same-rows : (s j h : SeatState) → j.view ≡ joined s.view h.view → h.view.owned ≡ [] → (q : ℕ) → find q j.view.owned ≡ find q s.view.owned
same-rows s j h move bare q = ap (λ (v : SeatView). find q v.owned) move ∙ ap (λ l. find q (s.view.owned ++ l)) bare ∙ ap (find q) (append-nil s.view.owned)

pub returned : (p : TableId) (s j h : SeatState) (c : Chain) (t kept : Tree) (n root : ℕ) → HasPlanted p s c t n → HoldsTree p h kept
    → j.view ≡ joined s.view h.view → ViewInvariant j.view → root_of kept ≡ Some root → Returned s j h root
returned p s j h c t kept n root (rs, xs, g) k move sound is =
    let (u, once, named) = subst (λ r. IsOnce r h.view.refs) is k.once in
    let refs : j.view.refs ≡ s.view.refs ++ u ∷ [] = ap (λ (v : SeatView). v.refs) move ∙ ap (λ l. s.view.refs ++ l) once in
    let back = back-refs root s.view.refs u t.root (once-refs s.view t xs g.keeps g.refs) named (λ y e is.
    let both : j.view.refs ≡ y ∷ u ∷ [] = refs ∙ ap (λ l. l ++ u ∷ []) e in
    sound.one y u (by_ref 0 (ap (λ l. get_elem? l 0) both)) (by_ref 1 (ap (λ l. get_elem? l 1) both)) (omega arith) (is ∙ sym named)) in
    record {
      tree = u;
      refs = refs;
      found = ap (λ l. tree_word (tree_of root l)) refs ∙ back.found;
      left = ap (without_tree root) refs ∙ back.left;
    }

pub planted-joined : (p : TableId) (s j h : SeatState) (c : Chain) (t kept : Tree) (n : ℕ) → HasPlanted p s c t n → HoldsTree p h kept
    → j.table ≡ s.table → j.view ≡ joined s.view h.view → root_of kept ≡ None → HasPlanted p j c t n
planted-joined p s j h c t kept n (rs, xs, g) k table move is = (
  rs,
  xs,
  planted-moved p s j c t rs xs n g table (ap (λ (v : SeatView). v.refs) move ∙ ap (λ l. s.view.refs ++ l) (subst (λ r. IsOnce r h.view.refs) is k.once)
      ∙ append-nil s.view.refs) (same-rows s j h move k.bare),
)

pub chain-joined : (p : TableId) (s j h : SeatState) (c : Chain) (t kept : Tree) (n : ℕ) (g : HasPlanted p s c t n) → HoldsTree p h kept
    → j.table ≡ s.table → j.view ≡ joined s.view h.view → OwnsChain p j c g.0
chain-joined p s j h c t kept n g k table move = owns-same p s j c g.0 g.2.owns table (same-rows s j h move k.bare)

pub planted-back : (p : TableId) (s j h z : SeatState) (c d : Chain) (t kept : Tree) (n root : ℕ) → HasPlanted p s c t n → HoldsTree p h kept
    → j.table ≡ s.table → j.view ≡ joined s.view h.view → ViewInvariant j.view → root_of kept ≡ Some root → z.table ≡ j.table
    → z.view.refs ≡ without_tree root j.view.refs → ChainGrows j.view z.view c d → HasPlanted p z d t n
planted-back p s j h z c d t kept n root g k table move sound is table' refs grows =
    let owns = owns-grows p j z c d g.0 (chain-joined p s j h c t kept n g k table move) table' grows in
    let same : z.view.refs ≡ s.view.refs = refs ∙ (returned p s j h c t kept n root g k move sound is).left in
    let o = g.2 in (
      owns.0,
      g.1,
      record {
        owns = owns.1;
        keeps = keeps-refs s.view z.view t g.1 same o.keeps;
        ids = o.ids;
        refs = ap (other_refs t) same ∙ o.refs;
        few = (let a = ap length same in let b = o.few in omega arith);
        low = o.low;
      },
    )

-- ---- the last reference is given up
pub root-held : (v : SeatView) (t : Tree) (xs : List Row) (root : ℕ) → Keeps v t xs → t.root ≡ Some root
    → (tree_word (tree_of root v.refs) ≡ suc root) × IsTree (tree_of root v.refs) t.height xs
root-held v t xs root keeps is = subst (λ r. RefersTo v r t.height xs) is keeps.refers

-- ---- what is seen of a node
node-kind : (h kind n : ℕ) (us xs : List Row) → Node h kind n us xs → (2 ≤ kind) × (kind ≤ 3)
node-kind zero kind n us xs o = let a = o.is in (omega arith, omega arith)
node-kind (suc h) kind n us xs o = let a = o.is in (omega arith, omega arith)

pub tree-kind : (t : Row) (height : ℕ) (xs : List Row) → IsTree t height xs → (2 ≤ kind_of t) × (kind_of t ≤ 3)
tree-kind t height xs o = node-kind o.level (word t 1) (word t 2) (children t) xs o.stands

pub child-link : (kind i : ℕ) → 2 ≤ kind → kind ≤ 3 → i ≤ 31 → IsLink kind (35 + i)
child-link kind i low high few = let f = fan-node kind low high in let a = f.0 in let b = f.1 in (omega arith, omega arith)

pub child-word : (kind i : ℕ) → 2 ≤ kind → kind ≤ 3 → 35 + i ≡ first_link kind + (32 + i)
child-word kind i low high = let f = fan-node kind low high in let b = f.1 in omega arith

pub child-there : (v : SeatView) (t : Row) (i : ℕ) → ViewInvariant v → Reaches v t → 2 ≤ kind_of t → kind_of t ≤ 3 → 0 < tree_word t → i ≤ 31
    → (u : Row) × (get_elem? (children t) (32 + i) ≡ some u)
child-there v t i sound up low high here few =
    let shape = sound.trees t up here in let f = fan-node (kind_of t) low high in let a = f.0 in let b = shape.many in
    at-some (children t) (32 + i) (omega arith)

pub content-count : (kind : ℕ) → IsContent kind 2
content-count kind = (omega arith, omega arith, inl (past kind))
  where
    past : (kind : ℕ) → 2 < first_link kind
    past zero = omega arith
    past (suc zero) = omega arith
    past (suc (suc k)) = omega arith
