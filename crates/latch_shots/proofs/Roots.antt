-- The roots to which a seat refers.
use Rattle.std.proofs.Common.{◌≡◌, ℕ, zero, suc, List, [], ◌∷◌, ap, sym, subst, ◌∙◌, ⊎_elim, arith}
use Rattle.std.specs.Prelude.{Option, Some, None}
use Rattle.std.proofs.lemmas.Bool.Decides.{eqb_tells}
use mathlib.Core.Option.{some, some-injective, some-ne-none}
use lib.ListN.{get_elem?}
use Rattle.row_pool.proofs.NewestRef.{tree_of-first}
use Rattle.row_pool.proofs.Splits.{tree_of-at}
use Rattle.row_pool.proofs.Sums.{without_tree-from}
use Rattle.row_pool.specs.Changes.{tree_of, without_tree}
use Rattle.row_pool.specs.SeatView.{SeatView}
use Rattle.row_pool.specs.Trees.{Tree, tree_word}
use Rattle.row_pool.specs.Views.{ViewInvariant, by_ref}
use Rattle.latch_item.specs.Shape.{IsTree, RefersTo}
use Rattle.latch_shots.specs.Roots.{HasRoot}

-- where some tree is of the row, the first one of the row is
named : (r : ℕ) (ts : List Tree) (k : ℕ) (t : Tree) → get_elem? ts k ≡ some t → tree_word t ≡ suc r → tree_word (tree_of r ts) ≡ suc r
named r [] k t e is = absurd (some-ne-none t (sym e))
named r (u ∷ ts) zero t e is = let z = ap tree_word (some-injective u t e) ∙ is in ap tree_word (tree_of-first r u ts z) ∙ z
named r (u ∷ ts) (suc k) t e is = ⊎_elim (λ b. rw b.0 b.1) (λ b. rw b.0 (named r ts k t e is)) (eqb_tells (tree_word u) (suc r))

-- each of the trees is one of those
pub record Inside (ts us : List Tree) : Type 0 where
  pub each : (k : ℕ) (t : Tree) → get_elem? ts k ≡ some t → (j : ℕ) × (get_elem? us j ≡ some t)

-- The seat refers to a root that stands first among some of its references, and those that are left without it are among them
pub record FirstRoot (v : SeatView) (row : Option ℕ) (height : ℕ) (items : List Tree) (P : List Tree → Type 0) : Type 0 where
  pub refers : RefersTo v row height items
  pub left : List Tree
  pub inside : Inside left v.refs
  pub rest : P left

pub first-root : (v : SeatView) (row : Option ℕ) (height : ℕ) (items : List Tree) (P : List Tree → Type 0) (ts : List Tree) → ViewInvariant v
    → Inside ts v.refs → HasRoot row height items P ts → FirstRoot v row height items P
first-root v None height items P ts sound inside h = record { refers = h.0; left = ts; inside = inside; rest = h.1 }
first-root v (Some root) height items P ts sound inside h =
    let t : Tree = tree_of root ts in
    let at = tree_of-at root ts h.0 in
    let o = inside.each at.0 t at.1 in
    let here = named root v.refs o.0 t o.1 h.0 in
    let first = tree_of-at root v.refs here in
    let same : t ≡ tree_of root v.refs = sound.one t (tree_of root v.refs) (by_ref o.0 o.1) (by_ref first.0 first.1) (omega arith) (h.0 ∙ sym here) in
    record {
      refers = (here, subst (λ u. IsTree u height items) same h.1);
      left = without_tree root ts;
      inside = record { each = λ k u e. let p = without_tree-from root ts k u e in inside.each p.0 u p.1 };
      rest = h.2;
    }
