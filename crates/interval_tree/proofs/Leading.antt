-- The first link and the items of a node, and what an insertion needs of them.
use Rattle.std.proofs.Common.{◌≡◌, ⊎_elim, ℕ, zero, suc, ◌+◌, ◌-◌, ◌<◌, ◌≤◌, List, [], ◌∷◌, ◌++◌, length, replicate, length-append, append_assoc, append-nil}
use Rattle.std.proofs.Common.{sym, refl, ap, ◌∙◌, subst, arith}
use lib.ListN.{get_elem?}
use Rattle.std.specs.declared.cmp.Ordering.{Ordering}
use Rattle.std.specs.declared.cmp.Ordering.TheVariants.{Less, Equal, Greater}
use Rattle.row_pool.specs.Lists.{find}
use Rattle.row_pool.specs.SeatView.{SeatView}
use Rattle.row_pool.specs.Trees.{Tree, nil, tree_word}
use Rattle.row_pool.specs.Views.{Reaches, by_ref}
use Rattle.latch_item.specs.Items.{Before, BoundUpTo, IsLatch, item_cmp, item_of}
use Rattle.latch_item.specs.Shape.{Each, IsTop, Node, Sorted, weave}
use Rattle.interval_tree.proofs.Cutting.{cut-list}
use Rattle.interval_tree.proofs.Depths.{each-among, node-items}
use Rattle.interval_tree.proofs.Holes.{Out, named-items, out, spare}
use Rattle.interval_tree.proofs.Lists.{before-trans, before-turn, each-back, each-front, each-join, each-map, sorted-back, sorted-under, top-rises, top-stays}
use Rattle.interval_tree.proofs.Rows.{up-link}
use Rattle.interval_tree.proofs.Weaves.{each-items, sorted-items}
use Rattle.interval_tree.specs.Held.{OwnsNode}
use Rattle.interval_tree.specs.Nodes.{Between, Differs, EachRow, Inserted, Lifts, Raised, Stops}
use Rattle.interval_tree.specs.States.{ReachesItem, Ready}
use Rattle.interval_tree.specs.Steps.{HasPlace, LeadsTo}

pub record Lead (n : ℕ) (us its : List Tree) : Type 0 where
  pub top : Tree
  pub tail : List Tree
  pub links : us ≡ top ∷ (its ++ tail)
  pub count : length its ≡ n
  pub items : Each IsLatch its
  pub latch : IsLatch top

pub lead-leaf : (kind n : ℕ) (us xs : List Tree) → Node 0 kind n us xs → Lead n us xs
lead-leaf kind n us xs o = record {
  top = o.top;
  tail = replicate o.spread.free nil ++ replicate o.spread.room nil;
  links = o.spread.links ∙ ap (λ l. o.top ∷ l) (append_assoc xs (replicate o.spread.free nil) (replicate o.spread.room nil));
  count = o.spread.count;
  items = o.items;
  latch = each-among IsLatch o.top xs o.greatest.among o.items;
}

abbrev pub lead-inner : (h kind n : ℕ) (us xs : List Tree) (o : Node (suc h) kind n us xs) → Lead n us o.its
lead-inner h kind n us xs o = record {
  top = o.top;
  tail = replicate o.spread.free nil ++ (o.cs ++ replicate o.spread.room nil);
  links = o.spread.links ∙ ap (λ l. o.top ∷ l) (append_assoc o.its (replicate o.spread.free nil) (o.cs ++ replicate o.spread.room nil));
  count = o.spread.count;
  items = o.items;
  latch = each-among IsLatch o.top xs o.greatest.among (node-items (suc h) kind n us xs o);
}

three : (o : Ordering) → (o ≡ Less → ⊥) → (o ≡ Equal → ⊥) → o ≡ Greater
three Less a b = absurd (a refl)
three Equal a b = absurd (b refl)
three Greater a b = refl

-- an item that differs and isn't before is behind
pub turned : (it y : Tree) → (Before y it → ⊥) → Differs it y → Before it y
turned it y a b = before-turn y it (three (item_cmp (item_of y) (item_of it)) a b)

pub stops-high : (it : Tree) (js : List Tree) → Stops it js → Each (Differs it) js → Sorted js → Each (λ y. Before it y) js
stops-high it [] s d h = tt
stops-high it (j ∷ js) s d h = let b = turned it j s d.0 in (b, each-map js (λ y a. before-trans it j y b a) h.0)

pub lifts : (it : Tree) (xs : List Tree) (old new : Tree) → Raised it old new → IsTop old xs → Lifts it xs new
lifts it xs old new r top ys m = ⊎_elim
    (λ (a : (new ≡ old) × BoundUpTo old it). subst (λ t. IsTop t ys) (sym a.0) (top-stays it old xs ys m top a.1))
    (λ (b : (new ≡ it) × BoundUpTo it old). subst (λ t. IsTop t ys) (sym b.0) (top-rises it old xs ys m top b.1)) r

pub up-first : (v : SeatView) (it : Tree) (rest : List Tree) → v.refs ≡ it ∷ rest → Reaches v it
up-first v it rest refs = by_ref 0 (ap (λ ts. get_elem? ts 0) refs)

-- ---- a leaf
pub record LeafStep (kind n : ℕ) (tail xs : List Tree) (it new : Tree) (is js : List Tree) : Type 0 where
  pub back : List Tree
  pub links : new ∷ (xs ++ tail) ≡ (new ∷ is) ++ (js ++ nil ∷ back)
  pub node : Node 0 kind (n + 1) ((new ∷ is) ++ it ∷ (js ++ back)) (is ++ it ∷ js)
  pub more : Inserted it xs (is ++ it ∷ js)
  pub each_row : EachRow js
  pub low : length is + length js ≡ n

pub leaf-step : (kind n : ℕ) (us xs : List Tree) (it new : Tree) (is js : List Tree) (o : Node 0 kind n us xs) → n < 31 → IsLatch it → Sorted xs
    → Each (Differs it) xs → Raised it (lead-leaf kind n us xs o).top new → xs ≡ is ++ js → Each (λ y. Before y it) is → Stops it js
    → LeafStep kind n (lead-leaf kind n us xs o).tail xs it new is js
unfolding lead-leaf
leaf-step kind n us xs it new is js o low latch sorted differs raised split before stops =
    let free : replicate o.spread.free nil ≡ nil ∷ replicate (o.spread.free - 1) nil = spare n o.spread.free (λ z. let a = o.spread.items in omega arith) in
    let many : length is + length js ≡ n = sym (length-append is js) ∙ ap length (sym split) ∙ o.spread.count in
    let items = subst (Each IsLatch) split o.items in
    let more : Inserted it xs (is ++ it ∷ js) = record {
      front = is;
      back = js;
      old = split;
      new = refl;
      low = before;
      high = stops-high it js stops (each-back (Differs it) is js (subst (Each (Differs it)) split differs)) (sorted-back is js (subst Sorted split sorted));
    } in
    record {
      back = replicate (o.spread.free - 1) nil ++ replicate o.spread.room nil;
      links = ap (λ l. new ∷ l) ((λ i. split i ++ (free i ++ replicate o.spread.room nil))
          ∙ append_assoc is js (nil ∷ (replicate (o.spread.free - 1) nil ++ replicate o.spread.room nil)));
      node = record {
        top = new;
        is = o.is;
        spread = record {
          free = o.spread.free - 1;
          room = o.spread.room;
          links = ap (λ l. new ∷ l) (around is js (replicate (o.spread.free - 1) nil) (replicate o.spread.room nil));
          count = omega (arith, length-append is (it ∷ js));
          items = (let a = o.spread.items in omega arith);
          children = o.spread.children;
        };
        items = each-join IsLatch is (it ∷ js) (each-front IsLatch is js items) (latch, each-back IsLatch is js items);
        greatest = lifts it xs o.top new raised o.greatest (is ++ it ∷ js) more;
      };
      more = more;
      each_row = named-items js (each-back IsLatch is js items);
      low = many;
    }
  where
    around : (is js gs es : List Tree) → is ++ it ∷ (js ++ (gs ++ es)) ≡ ((is ++ it ∷ js) ++ gs) ++ es
    around is js gs es = sym (append_assoc (is ++ it ∷ js) gs es ∙ append_assoc is (it ∷ js) (gs ++ es))

-- ---- the place of the item
pub record Cut (it : Tree) (its : List Tree) (i : ℕ) : Type 0 where
  pub is : List Tree
  pub js : List Tree
  pub split : its ≡ is ++ js
  pub at : length is ≡ i
  pub before : Each (λ y. Before y it) is
  pub stops : Stops it js

pub placed : (it : Tree) (its : List Tree) (i : ℕ) → Between it its i i → Cut it its i
placed it its i b = record {
  is = b.front;
  js = b.back;
  split = b.whole ∙ ap (λ l. b.front ++ (l ++ b.back)) (none b.middle (let a = b.first in let c = b.last in omega arith));
  at = b.first;
  before = b.before;
  stops = b.stops;
}
  where
    none : (l : List Tree) → length l ≡ 0 → l ≡ []
    none [] e = refl
    none (x ∷ l) e = absurd (omega arith)

pub whole-place : (it : Tree) (its : List Tree) (n : ℕ) → length its ≡ n → Between it its 0 n
whole-place it its n len = record {
  front = [];
  middle = its;
  back = [];
  whole = sym (append-nil its);
  first = refl;
  last = (let z = len in omega arith);
  before = tt;
  stops = tt;
}

-- the item in the middle, which the halving looks at
pub record Middle (it : Tree) (its : List Tree) (low high m : ℕ) : Type 0 where
  pub fs : List Tree
  pub is : List Tree
  pub y : Tree
  pub js : List Tree
  pub bs : List Tree
  pub whole : its ≡ (fs ++ is) ++ y ∷ (js ++ bs)
  pub at : length (fs ++ is) ≡ m
  pub first : length fs ≡ low
  pub last : m + suc (length js) ≡ high
  pub before : Each (λ y. Before y it) fs
  pub stops : Stops it bs

pub middle : (it : Tree) (its : List Tree) (low high m : ℕ) → Between it its low high → low ≤ m → m < high → Middle it its low high m
middle it its low high m b a c = go (cut-list b.middle (m - low) (let p = b.first in let q = b.last in omega arith))
  where
    go : (us vs : List Tree) × (b.middle ≡ us ++ vs) × (length us ≡ m - low) → Middle it its low high m
    go (us, [], e, l) = absurd (let p = b.first in let q = b.last in let r = ap length e in let s = length-append us [] in omega arith)
    go (us, v ∷ vs, e, l) = record {
      fs = b.front;
      is = us;
      y = v;
      js = vs;
      bs = b.back;
      whole = b.whole ∙ ap (λ k. b.front ++ (k ++ b.back)) e ∙ ap (λ k. b.front ++ k) (append_assoc us (v ∷ vs) b.back)
          ∙ sym (append_assoc b.front us (v ∷ (vs ++ b.back)));
      at = (let p = b.first in let s = length-append b.front us in omega arith);
      first = b.first;
      last = (let p = b.first in let q = b.last in let r = ap length e in let s = length-append us (v ∷ vs) in omega arith);
      before = b.before;
      stops = b.stops;
    }

pub behind-middle : (it : Tree) (its : List Tree) (low high m : ℕ) (o : Middle it its low high m) → Sorted its → Before o.y it → Between it its (m + 1) high
behind-middle it its low high m o sorted less = record {
  front = (o.fs ++ o.is) ++ o.y ∷ [];
  middle = o.js;
  back = o.bs;
  whole = o.whole ∙ sym (append_assoc (o.fs ++ o.is) (o.y ∷ []) (o.js ++ o.bs));
  first = (let a = o.at in omega (arith, length-append (o.fs ++ o.is) (o.y ∷ [])));
  last = (let a = o.at in let b = o.last in omega (arith, length-append (o.fs ++ o.is) (o.y ∷ [])));
  before = each-join (λ y. Before y it) (o.fs ++ o.is) (o.y ∷ [])
      (each-map (o.fs ++ o.is) (λ y b. before-trans y o.y it b less) (sorted-under (o.fs ++ o.is) o.y (o.js ++ o.bs) (subst Sorted o.whole sorted))) (less, tt);
  stops = o.stops;
}

pub ahead-middle : (it : Tree) (its : List Tree) (low high m : ℕ) (o : Middle it its low high m) → (Before o.y it → ⊥) → Between it its low m
ahead-middle it its low high m o no_less = record {
  front = o.fs;
  middle = o.is;
  back = o.y ∷ (o.js ++ o.bs);
  whole = o.whole ∙ append_assoc o.fs o.is (o.y ∷ (o.js ++ o.bs));
  first = o.first;
  last = sym (length-append o.fs o.is) ∙ o.at;
  before = o.before;
  stops = no_less;
}

-- the row that the halving looks at
pub middle-link : (v : SeatView) (row item low high m : ℕ) → HasPlace v row item low high → low ≤ m → m < high
    → (kind n : ℕ) × (us vs : List Tree) × (u : Tree) × OwnsNode v row kind n (us ++ u ∷ vs) × (length us ≡ 1 + m) × (1 + m < 64) × (0 < tree_word u)
middle-link v row item low high m (kind, n, u, its, ds, it, o, few, latches, sorted, up, b) a c =
    let q = middle it its low high m b a c in (
      kind,
      n,
      u ∷ (q.fs ++ q.is),
      (q.js ++ q.bs) ++ ds,
      q.y,
      subst (OwnsNode v row kind n) (ap (λ l. u ∷ l) (around (q.fs ++ q.is) (q.js ++ q.bs) q.y q.whole)) o,
      (let z = q.at in omega arith),
      (let z = q.at in let e = ap length q.whole in let f = length-append (q.fs ++ q.is) (q.y ∷ (q.js ++ q.bs)) in omega arith),
      let z = (each-back IsLatch (q.fs ++ q.is) (q.y ∷ (q.js ++ q.bs)) (subst (Each IsLatch) q.whole latches)).0.here in omega arith,
    )
  where
    around : (fs js : List Tree) (y : Tree) → its ≡ fs ++ y ∷ js → its ++ ds ≡ fs ++ y ∷ (js ++ ds)
    around fs js y e = ap (λ l. l ++ ds) e ∙ append_assoc fs (y ∷ js) ds

pub middle-reached : (v : SeatView) (row low high m other kind n : ℕ) (u : Tree) (its ds : List Tree) (it : Tree) (q : Middle it its low high m)
    → OwnsNode v row kind n (u ∷ (its ++ ds)) → Each IsLatch its → LeadsTo v row (1 + m) other → ReachesItem v q.y other
middle-reached v row low high m other kind n u its ds it q o latches leads =
    let whole : u ∷ (its ++ ds) ≡ (u ∷ (q.fs ++ q.is)) ++ q.y ∷ ((q.js ++ q.bs) ++ ds) = ap (λ l. u ∷ l)
    (ap (λ l. l ++ ds) q.whole ∙ append_assoc (q.fs ++ q.is) (q.y ∷ (q.js ++ q.bs)) ds) in
    let a = subst (OwnsNode v row kind n) whole o in
    let k : length (u ∷ (q.fs ++ q.is)) ≡ 1 + m = (let z = q.at in omega arith) in (
      up-link v row kind n (u ∷ (q.fs ++ q.is)) ((q.js ++ q.bs) ++ ds) q.y (1 + m) a k,
      leads kind n (u ∷ (q.fs ++ q.is)) ((q.js ++ q.bs) ++ ds) q.y a k,
      (each-back IsLatch (q.fs ++ q.is) (q.y ∷ (q.js ++ q.bs)) (subst (Each IsLatch) q.whole latches)).0,
    )

-- ---- what the calls on the first link and the place promise
abbrev pub RaisesTop : SeatView → SeatView → ℕ → ℕ → Type 0
RaisesTop v w row item = (kind n : ℕ) (top : Tree) (us : List Tree) (it : Tree) → OwnsNode v row kind n (top ∷ us) → IsLatch top → ReachesItem v it item
    → (new : Tree) × Raised it top new × OwnsNode w row kind n (new ∷ us)

abbrev pub FindsCut : SeatView → ℕ → ℕ → ℕ → Type 0
FindsCut w row item i = (kind n : ℕ) (u : Tree) (its ds : List Tree) (it : Tree) → OwnsNode w row kind n (u ∷ (its ++ ds)) → length its ≡ n → n ≤ 31
    → Each IsLatch its → Sorted its → ReachesItem w it item → Between it its i i

-- the place of the item among its node's, and the new first link
pub record Spot (w : SeatView) (row i kind n : ℕ) (its : List Tree) (it old : Tree) (tail : List Tree) : Type 0 where
  pub new : Tree
  pub raised : Raised it old new
  pub cut : Cut it its i
  pub owns : OwnsNode w row kind n (new ∷ (its ++ tail))

pub newest : (v : SeatView) (it : Tree) (rest : List Tree) (item : ℕ) → v.refs ≡ it ∷ rest → tree_word it ≡ suc item → IsLatch it → ReachesItem v it item
newest v it rest item refs here latch = (up-first v it rest refs, here, latch)

pub spot : (v w : SeatView) (row item i kind n : ℕ) (us its : List Tree) (it : Tree) (rest : List Tree) (l : Lead n us its) → RaisesTop v w row item
    → w.refs ≡ v.refs → FindsCut w row item i → OwnsNode v row kind n us → n < 31 → Sorted its → tree_word it ≡ suc item → IsLatch it → v.refs ≡ it ∷ rest
    → Spot w row i kind n its it l.top l.tail
spot v w row item i kind n us its it rest l raise same find o low sorted here latch refs =
    let (new, raised, o1) = raise kind n l.top (its ++ l.tail) it (subst (OwnsNode v row kind n) l.links o) l.latch (newest v it rest item refs here latch) in
    record {
      new = new;
      raised = raised;
      cut = placed it its i (find kind n new its l.tail it o1 l.count (omega arith) l.items sorted (newest w it rest item (same ∙ refs) here latch));
      owns = o1;
    }

-- the first link and the items of a node of any level
pub record Front (h kind n : ℕ) (us xs : List Tree) : Type 0 where
  pub its : List Tree
  pub lead : Lead n us its
  pub sorted : Sorted its

pub front-of : (h kind n : ℕ) (us xs : List Tree) → Node h kind n us xs → Sorted xs → Front h kind n us xs
front-of zero kind n us xs o s = record { its = xs; lead = lead-leaf kind n us xs o; sorted = s }
front-of (suc h) kind n us xs o s = record { its = o.its; lead = lead-inner h kind n us xs o; sorted = sorted-items o.its o.yss (subst Sorted o.list s) }

-- the items behind the place
pub high-items : (it : Tree) (its : List Tree) (yss : List (List Tree)) (is js : List Tree) (xs : List Tree) → xs ≡ weave its yss → Sorted xs
    → Each (Differs it) xs → its ≡ is ++ js → Stops it js → Each (λ y. Before it y) js
high-items it its yss is js xs list sorted differs split stops =
    stops-high it js stops (each-back (Differs it) is js
    (subst (Each (Differs it)) split (each-items (Differs it) its yss (subst (Each (Differs it)) list differs))))
    (sorted-back is js (subst Sorted split (sorted-items its yss (subst Sorted list sorted))))

-- ---- an item goes into a leaf
pub record LeafPlan (p : SeatView) (row i kind n : ℕ) (xs : List Tree) (it : Tree) (rest : List Tree) : Type 0 where
  pub new : Tree
  pub is : List Tree
  pub js : List Tree
  pub back : List Tree
  pub owns : OwnsNode p row kind n ((new ∷ is) ++ (js ++ nil ∷ back))
  pub place : length (new ∷ is) ≡ 1 + i
  pub each_row : EachRow js
  pub low : length is + length js ≡ n
  pub node : Node 0 kind (n + 1) ((new ∷ is) ++ it ∷ (js ++ back)) (is ++ it ∷ js)
  pub more : Inserted it xs (is ++ it ∷ js)
  pub refs : p.refs ≡ it ∷ rest

pub leaf-plan : (v p : SeatView) (row item i kind n : ℕ) (us xs : List Tree) (it : Tree) (rest : List Tree) → Ready 0 v row item kind n us xs it rest
    → RaisesTop v p row item → p.refs ≡ v.refs → FindsCut p row item i → LeafPlan p row i kind n xs it rest
leaf-plan v p row item i kind n us xs it rest r raise same find =
    let l = lead-leaf kind n us xs r.node in
    let s = spot v p row item i kind n us xs it rest l raise same find r.owns r.room r.sorted r.here r.latch r.refs in
    let t = leaf-step kind n us xs it s.new s.cut.is s.cut.js r.node r.room r.latch r.sorted r.differs s.raised s.cut.split s.cut.before s.cut.stops in
    record {
      new = s.new;
      is = s.cut.is;
      js = s.cut.js;
      back = t.back;
      owns = subst (OwnsNode p row kind n) t.links s.owns;
      place = (let a = s.cut.at in omega arith);
      each_row = t.each_row;
      low = t.low;
      node = t.node;
      more = t.more;
      refs = same ∙ r.refs;
    }

-- ---- a child is opened
pub record ChildPlan (h : ℕ) (p : SeatView) (row i kind n : ℕ) (xs : List Tree) (it : Tree) (rest : List Tree) : Type 0 where
  pub new : Tree
  pub links : List Tree
  pub out : Out h kind n links xs it i
  pub owns : OwnsNode p row kind n ((new ∷ out.front) ++ out.child ∷ out.back)
  pub place : length (new ∷ out.front) ≡ 32 + i
  pub low : i ≤ 31
  pub tops : Lifts it xs new
  pub refs : p.refs ≡ it ∷ rest

pub child-plan : (h : ℕ) (v p : SeatView) (row item i kind n : ℕ) (us xs : List Tree) (it : Tree) (rest : List Tree)
    → Ready (suc h) v row item kind n us xs it rest → RaisesTop v p row item → p.refs ≡ v.refs → FindsCut p row item i → ChildPlan h p row i kind n xs it rest
child-plan h v p row item i kind n us xs it rest r raise same find =
    let o = r.node in
    let l = lead-inner h kind n us xs o in
    let s = spot v p row item i kind n us o.its it rest l raise same find r.owns r.room (sorted-items o.its o.yss (subst Sorted o.list r.sorted)) r.here
    r.latch r.refs in
    let high = high-items it o.its o.yss s.cut.is s.cut.js xs o.list r.sorted r.differs s.cut.split s.cut.stops in
    let z = out h kind n us xs it i o s.cut.is s.cut.js s.cut.split s.cut.at r.sorted r.differs s.cut.before high in
    record {
      new = s.new;
      links = (o.its ++ replicate o.spread.free nil) ++ (o.cs ++ replicate o.spread.room nil);
      out = z;
      owns = subst (OwnsNode p row kind n) (ap (λ l. s.new ∷ l)
          (sym (append_assoc o.its (replicate o.spread.free nil) (o.cs ++ replicate o.spread.room nil)) ∙ z.links)) s.owns;
      place = (let a = z.place in omega arith);
      low = (let a = s.cut.at in let b = ap length s.cut.split in let d = length-append s.cut.is s.cut.js in let e = o.spread.count in let f = r.room in
          omega arith);
      tops = lifts it xs o.top s.new s.raised o.greatest;
      refs = same ∙ r.refs;
    }
