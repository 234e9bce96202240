-- Two nodes of 15 items and the item between them become one.
use Rattle.std.proofs.Common.{List, [], ap, append-nil, append_assoc, arith, length, length-append, refl, replicate, subst, suc, sym, zero, ℕ, ◌++◌, ◌∙◌}
use Rattle.std.proofs.Common.{◌∷◌, ◌≡◌, ◌≢◌, ◌≤◌}
use Rattle.row_pool.specs.SeatView.{SeatView}
use Rattle.row_pool.specs.Trees.{Tree, depth, nil}
use Rattle.latch_item.specs.Items.{IsLatch}
use Rattle.latch_item.specs.Shape.{Each, IsTop, Node, Pairs, weave}
use Rattle.interval_tree.proofs.Cutting.{node-of}
use Rattle.interval_tree.proofs.Depths.{depth-item}
use Rattle.interval_tree.proofs.Holes.{pairs-join, pairs-length}
use Rattle.interval_tree.proofs.Lists.{each-join}
use Rattle.interval_tree.proofs.Weaves.{weave-cut}
use Rattle.interval_tree.specs.Held.{OwnsNode}
use Rattle.interval_tree.specs.Listings.{Part}
use Rattle.interval_tree.specs.Nodes.{kind_at}
use Rattle.interval_tree.specs.Steps.{CanMove, MovesLinks}
use Rattle.tree_shrink.proofs.Borders.{flat-top, top-latch}
use Rattle.tree_shrink.proofs.Seams.{body-of, flat-of, nothing}
use Rattle.tree_shrink.specs.Steps.{CanMoveChildren, MovesChildren}

-- a node of 15 items in its parts
pub record Fifteen (h kind : ℕ) (us xs : List Tree) : Type 0 where
  pub top : Tree
  pub its : List Tree
  pub ks : List Tree
  pub yss : List (List Tree)
  pub is : kind ≡ kind_at h
  pub links : us ≡ top ∷ ((its ++ replicate 16 nil) ++ (ks ++ replicate 16 nil))
  pub count : length its ≡ 15
  pub many : length ks ≡ 16
  pub list : xs ≡ weave its yss
  pub items : Each IsLatch its
  pub below : Pairs (Part h) ks yss
  pub greatest : IsTop top xs
  pub fits : IsLatch top

pub fifteen : (h kind : ℕ) (us xs : List Tree) → Node h kind 15 us xs → Fifteen h kind us xs
fifteen h kind us xs nd =
    let f = flat-of h kind 15 us xs nd in
    let e : f.free ≡ 16 = (let a = f.full in omega arith) in
    record {
      top = f.top;
      its = f.its;
      ks = f.ks;
      yss = f.yss;
      is = f.is;
      links = f.links ∙ (λ i. f.top ∷ ((f.its ++ replicate (e i) nil) ++ (f.ks ++ replicate (e i) nil)));
      count = f.count;
      many = f.many;
      list = f.list;
      items = f.items;
      below = f.below;
      greatest = flat-top h kind 15 us xs nd;
      fits = top-latch h kind 15 us xs f.top nd (flat-top h kind 15 us xs nd);
    }

abbrev pub tail_of : {h kind : ℕ} {us xs : List Tree} → Fifteen h kind us xs → List Tree
tail_of a = (a.its ++ replicate 16 nil) ++ (a.ks ++ replicate 16 nil)

-- where the item comes in
pub place-one : (h kind : ℕ) (us xs : List Tree) (t : Tree) (a : Fifteen h kind us xs)
    → t ∷ tail_of a ≡ (t ∷ a.its) ++ nil ∷ (replicate 15 nil ++ (a.ks ++ replicate 16 nil))
place-one h kind us xs t a = ap (λ l. t ∷ l) (append_assoc a.its (replicate 16 nil) (a.ks ++ replicate 16 nil))

abbrev pub fore : {h kind : ℕ} {us xs : List Tree} → Fifteen h kind us xs → Tree → Tree → List Tree
fore a t m = t ∷ (a.its ++ m ∷ [])

pub fore-long : (h kind : ℕ) (us xs : List Tree) (t m : Tree) (a : Fifteen h kind us xs) → length (fore a t m) ≡ 17
fore-long h kind us xs t m a = let b = a.count in ap suc (length-append a.its (m ∷ [])) ∙ omega arith

pub left-one : (h kind : ℕ) (us xs : List Tree) (t m : Tree) (a : Fifteen h kind us xs)
    → (t ∷ a.its) ++ m ∷ (replicate 15 nil ++ (a.ks ++ replicate 16 nil)) ≡ fore a t m ++ (replicate 15 nil ++ (a.ks ++ replicate 16 nil))
left-one h kind us xs t m a = ap (λ l. t ∷ l) (sym (append_assoc a.its (m ∷ []) (replicate 15 nil ++ (a.ks ++ replicate 16 nil))))

pub right-one : (h kind : ℕ) (us xs : List Tree) (b : Fifteen h kind us xs)
    → b.top ∷ tail_of b ≡ (b.top ∷ []) ++ (b.its ++ (replicate 16 nil ++ (b.ks ++ replicate 16 nil)))
right-one h kind us xs b = ap (λ l. b.top ∷ l) (append_assoc b.its (replicate 16 nil) (b.ks ++ replicate 16 nil))

-- where the children come in
pub left-two : (t m : Tree) (is js ks : List Tree) → (t ∷ (is ++ m ∷ [])) ++ (js ++ (ks ++ replicate 16 nil)) ≡ ((t ∷ (is ++ m ∷ [])) ++ (js ++ ks)) ++
    (replicate 16 nil ++ [])
left-two t m is js ks = ap (λ l. (t ∷ (is ++ m ∷ [])) ++ l) (sym (append_assoc js ks (replicate 16 nil)))
    ∙ sym (append_assoc (t ∷ (is ++ m ∷ [])) (js ++ ks) (replicate 16 nil))

pub two-long : (t m : Tree) (is js ks : List Tree) → length is ≡ 15 → length js ≡ 15 → length ks ≡ 16 → length ((t ∷ (is ++ m ∷ [])) ++ (js ++ ks)) ≡ 48
two-long t m is js ks a b c = simp length-append (omega arith)

pub both-joined : (h kind sort : ℕ) (us vs xs ys : List Tree) (t m : Tree) (a : Fifteen h kind us xs) (b : Fifteen h sort vs ys) → IsLatch m
    → IsTop t (xs ++ m ∷ ys) → Node h kind 31 (((t ∷ (a.its ++ m ∷ [])) ++ (b.its ++ a.ks)) ++ (b.ks ++ [])) (xs ++ m ∷ ys)
both-joined h kind sort us vs xs ys t m a b fits greatest =
    let whole : ((t ∷ (a.its ++ m ∷ [])) ++ (b.its ++ a.ks)) ++ (b.ks ++ []) ≡ t ∷ (((a.its ++ m ∷ b.its) ++ []) ++ ((a.ks ++ b.ks) ++ [])) = ap
    (λ l. t ∷ l) (around a.its b.its a.ks b.ks) in
    subst (λ l. Node h kind 31 l (xs ++ m ∷ ys)) (sym whole) (node-of h kind 31 t (((a.its ++ m ∷ b.its) ++ []) ++ ((a.ks ++ b.ks) ++ [])) (xs ++ m ∷ ys) t
    (body-of h kind 31 (t ∷ (((a.its ++ m ∷ b.its) ++ []) ++ ((a.ks ++ b.ks) ++ []))) (xs ++ m ∷ ys) (record {
      top = t;
      its = a.its ++ m ∷ b.its;
      ks = a.ks ++ b.ks;
      yss = a.yss ++ b.yss;
      free = 0;
      is = a.is;
      links = refl;
      count = (let p = a.count in let q = b.count in length-append a.its (m ∷ b.its) ∙ omega arith);
      full = refl;
      many = (let p = a.many in let q = b.many in length-append a.ks b.ks ∙ omega arith);
      list = (λ i. a.list i ++ m ∷ b.list i) ∙ sym (weave-cut a.its m b.its a.yss b.yss (let p = a.count in let q = a.many in let r = pairs-length
          (Part h) a.ks a.yss a.below in omega arith));
      items = each-join IsLatch a.its (m ∷ b.its) a.items (fits, b.items);
      below = pairs-join (Part h) a.ks a.yss b.ks b.yss a.below b.below;
    })) greatest)
  where
    around : (is js ks ls : List Tree) → ((is ++ m ∷ []) ++ (js ++ ks)) ++ (ls ++ []) ≡ ((is ++ m ∷ js) ++ []) ++ ((ks ++ ls) ++ [])
    around is js ks ls = simp (append_assoc, append-nil)

each-low : (n : ℕ) → Each (λ u. depth u ≤ 3) (replicate n nil)
each-low zero = tt
each-low (suc n) = (omega arith, each-low n)

-- a node of which only the first link leads anywhere
pub bare-low : (top : Tree) → IsLatch top → Each (λ u. depth u ≤ 3) (top ∷ replicate 63 nil)
bare-low top i = (let a = depth-item top i in omega arith, each-low 63)

-- the children of a leaf are nothing, so they needn't move
pub leaf-moves : (v : SeatView) (from to : ℕ) → ((kind m : ℕ) (us : List Tree) → OwnsNode v from kind m us → kind ≢ 3) → MovesChildren v v from to
leaf-moves v from to leaf zero kind m sort k us ms vs ws xs yss is p o at many o2 at2 apart =
    let e : ms ≡ replicate 16 nil = nothing ms yss p ∙ ap (λ j. replicate j nil) many in
    (subst (λ l. OwnsNode v from kind m (us ++ (l ++ vs))) e o, subst (λ l. OwnsNode v to sort k (ws ++ (l ++ xs))) (sym e) o2)
leaf-moves v from to leaf (suc h) kind m sort k us ms vs ws xs yss is p o at many o2 at2 apart = absurd (leaf kind m (us ++ (ms ++ vs)) o is)

pub inner-moves : (v w : SeatView) (from to : ℕ) → MovesLinks v w from to 32 48 16 → MovesChildren v w from to
inner-moves v w from to f h kind m sort k us ms vs ws xs yss is p o at many o2 at2 apart = f kind m sort k us ms vs ws xs o at many o2 at2 apart

pub children-move : (v : SeatView) (from to : ℕ) → CanMoveChildren v from to → CanMove v from to 32 48 16
children-move v from to (h, kind, m, sort, k, us, ms, vs, ws, xs, yss, is, p, o, at, many, o2, at2, apart, few) =
    (kind, m, sort, k, us, ms, vs, ws, xs, o, at, many, o2, at2, apart, omega arith, omega arith, few)
