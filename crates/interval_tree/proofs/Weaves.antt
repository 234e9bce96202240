-- Lists of nodes, from their items and the lists of their children.
use Rattle.std.proofs.Common.{◌≡◌, suc, List, [], ◌∷◌, ◌++◌, length, sym, refl, subst, append_assoc, append-nil, arith}
use Rattle.row_pool.specs.Trees.{Tree}
use Rattle.latch_item.specs.Bytes.{rest}
use Rattle.latch_item.specs.Items.{Before}
use Rattle.latch_item.specs.Shape.{Each, Sorted, weave}
use Rattle.interval_tree.proofs.Lists.{before-trans, each-back, each-join, each-map, sorted-back, sorted-under}
use Rattle.interval_tree.specs.Nodes.{ahead, behind}

pub weave-at : (is js : List Tree) (yss : List (List Tree)) (y : List Tree) (zss : List (List Tree)) → length is ≡ length yss → length js ≡ length zss
    → weave (is ++ js) (yss ++ y ∷ zss) ≡ ahead is yss ++ (y ++ behind js zss)
weave-at [] [] [] y [] a b = simp append-nil
weave-at [] [] [] y (z ∷ zss) a b = absurd (omega arith)
weave-at [] (j ∷ js) [] y zss a b = refl
weave-at [] js (ys ∷ yss) y zss a b = absurd (omega arith)
weave-at (x ∷ is) js [] y zss a b = absurd (omega arith)
weave-at (x ∷ is) js (ys ∷ yss) y zss a b = let h = weave-at is js yss y zss (omega arith) b in rw h (simp append_assoc)

-- a node cut at the item m
pub weave-cut : (is : List Tree) (m : Tree) (js : List Tree) (yss : List (List Tree)) (zss : List (List Tree)) → length yss ≡ suc (length is)
    → weave (is ++ m ∷ js) (yss ++ zss) ≡ weave is yss ++ m ∷ weave js zss
weave-cut [] m js [] zss a = absurd (omega arith)
weave-cut [] m js (ys ∷ []) zss a = refl
weave-cut [] m js (ys ∷ zs ∷ yss) zss a = absurd (omega arith)
weave-cut (x ∷ is) m js [] zss a = absurd (omega arith)
weave-cut (x ∷ is) m js (ys ∷ yss) zss a = let h = weave-cut is m js yss zss (omega arith) in rw h (simp append_assoc)

pub ahead-low : (x : Tree) (is : List Tree) (yss : List (List Tree)) (rest : List Tree) → Each (λ y. Before y x) is → Sorted (ahead is yss ++ rest)
    → Each (λ y. Before y x) (ahead is yss)
ahead-low x [] yss rest a h = tt
ahead-low x (i ∷ is) [] rest a h = tt
ahead-low x (i ∷ is) (ys ∷ yss) rest a h =
    let s : Sorted (ys ++ i ∷ (ahead is yss ++ rest)) = subst Sorted (append_assoc ys (i ∷ ahead is yss) rest) h in
    each-join (λ y. Before y x) ys (i ∷ ahead is yss) (each-map ys (λ y b. before-trans y i x b a.0) (sorted-under ys i (ahead is yss ++ rest) s))
    (a.0, ahead-low x is yss rest a.1 (sorted-back ys (i ∷ (ahead is yss ++ rest)) s).1)

pub behind-high : (x : Tree) (js : List Tree) (zss : List (List Tree)) → Each (λ y. Before x y) js → Sorted (behind js zss)
    → Each (λ y. Before x y) (behind js zss)
behind-high x [] zss a h = tt
behind-high x (j ∷ js) zss a h = (a.0, each-map (weave js zss) (λ y b. before-trans x j y a.0 b) h.0)

pub weave-behind : (js : List Tree) (r : List Tree) (zss : List (List Tree)) → weave js (r ∷ zss) ≡ r ++ behind js zss
weave-behind [] r zss = sym (append-nil r)
weave-behind (j ∷ js) r zss = refl

pub ahead-more : (is : List Tree) (m : Tree) (yss : List (List Tree)) (l : List Tree) → length is ≡ length yss → ahead (is ++ m ∷ []) (yss ++ l ∷ [])
    ≡ ahead is yss ++ (l ++ m ∷ [])
ahead-more [] m [] l e = refl
ahead-more [] m (ys ∷ yss) l e = absurd (omega arith)
ahead-more (i ∷ is) m [] l e = absurd (omega arith)
ahead-more (i ∷ is) m (ys ∷ yss) l e = let h = ahead-more is m yss l (omega arith) in rw h (simp append_assoc)

-- what holds of the whole list holds of the items
pub each-items : (P : Tree → Type 0) (its : List Tree) (yss : List (List Tree)) → Each P (weave its yss) → Each P its
each-items P [] yss h = tt
each-items P (x ∷ its) [] h = h
each-items P (x ∷ its) (ys ∷ yss) h = let g = each-back P ys (x ∷ weave its yss) h in (g.0, each-items P its yss g.1)

pub sorted-items : (its : List Tree) (yss : List (List Tree)) → Sorted (weave its yss) → Sorted its
sorted-items [] yss h = tt
sorted-items (x ∷ its) [] h = h
sorted-items (x ∷ its) (ys ∷ yss) h = let g = sorted-back ys (x ∷ weave its yss) h in (each-items (Before x) its yss g.0, sorted-items its yss g.1)
