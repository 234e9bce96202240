-- A node whose child is out: how it comes about, how a further item and child come in, and how it ends.
use Rattle.std.proofs.Common.{◌≡◌, ◌≢◌, ℕ, zero, suc, ◌+◌, ◌-◌, ◌<◌, List, [], ◌∷◌, ◌++◌, length, replicate, length-append, append_assoc, sym, refl, ap, ◌∙◌}
use Rattle.std.proofs.Common.{subst, arith}
use Rattle.std.proofs.lemmas.List.{length-replicate}
use Rattle.row_pool.specs.Trees.{Tree, nil}
use Rattle.latch_item.specs.Items.{Before, IsLatch}
use Rattle.latch_item.specs.Shape.{Each, IsTop, Kid, Node, Pairs, Sorted, weave}
use Rattle.interval_tree.proofs.Lists.{each-back, each-front, each-join, sorted-back, sorted-front}
use Rattle.interval_tree.proofs.Weaves.{ahead-low, ahead-more, behind-high, weave-at, weave-behind}
use Rattle.interval_tree.specs.Nodes.{Differs, EachRow, Hole, ahead, behind, hole_back, hole_end, item_front}

module _ (R : Tree → List Tree → Type 0) where
  pub pairs-join : (fs : List Tree) (fss : List (List Tree)) (bs : List Tree) (bss : List (List Tree)) → Pairs R fs fss → Pairs R bs bss
      → Pairs R (fs ++ bs) (fss ++ bss)
  pairs-join [] [] bs bss a b = b
  pairs-join [] (y ∷ ys) bs bss a b = absurd a
  pairs-join (x ∷ xs) [] bs bss a b = absurd a
  pairs-join (x ∷ xs) (y ∷ ys) bs bss a b = (a.0, pairs-join xs ys bs bss a.1 b)

  pub pairs-length : (fs : List Tree) (fss : List (List Tree)) → Pairs R fs fss → length fs ≡ length fss
  pairs-length [] [] a = refl
  pairs-length [] (y ∷ ys) a = absurd a
  pairs-length (x ∷ xs) [] a = absurd a
  pairs-length (x ∷ xs) (y ∷ ys) a = let h = pairs-length xs ys a.1 in omega arith

  pub record Cut (cs : List Tree) (yss : List (List Tree)) (j : ℕ) : Type 0 where
    pub fs : List Tree
    pub c : Tree
    pub bs : List Tree
    pub fss : List (List Tree)
    pub y : List Tree
    pub bss : List (List Tree)
    pub kids_is : cs ≡ fs ++ c ∷ bs
    pub lists_is : yss ≡ fss ++ y ∷ bss
    pub place : length fs ≡ j
    pub left : Pairs R fs fss
    pub here : R c y
    pub right : Pairs R bs bss

  pub cut-pairs : (cs : List Tree) (yss : List (List Tree)) (j : ℕ) → Pairs R cs yss → j < length cs → Cut cs yss j
  cut-pairs [] yss j p h = absurd (omega arith)
  cut-pairs (x ∷ xs) [] j p h = absurd p
  cut-pairs (x ∷ xs) (y ∷ ys) zero p h = record {
    fs = [];
    c = x;
    bs = xs;
    fss = [];
    y = y;
    bss = ys;
    kids_is = refl;
    lists_is = refl;
    place = refl;
    left = tt;
    here = p.0;
    right = p.1;
  }
  cut-pairs (x ∷ xs) (y ∷ ys) (suc j) p h = let o = cut-pairs xs ys j p.1 (omega arith) in
      record {
        fs = x ∷ o.fs;
        c = o.c;
        bs = o.bs;
        fss = y ∷ o.fss;
        y = o.y;
        bss = o.bss;
        kids_is = ap (λ l. x ∷ l) o.kids_is;
        lists_is = ap (λ l. y ∷ l) o.lists_is;
        place = ap suc o.place;
        left = (p.0, o.left);
        here = o.here;
        right = o.right;
      }

-- ---- the links in front of the hole, and behind it
abbrev pub hole_front : {h kind n : ℕ} {us ps qs : List Tree} {j : ℕ} → Hole h kind n us ps qs j → List Tree
hole_front o = ((o.is ++ o.js) ++ replicate o.free nil) ++ o.cs

pub hole-links : (h kind n : ℕ) (us ps qs : List Tree) (j : ℕ) (o : Hole h kind n us ps qs j) → us ≡ hole_front o ++ nil ∷ hole_back o
hole-links h kind n us ps qs j o = o.links ∙ simp append_assoc

pub hole-place : (h kind n : ℕ) (us ps qs : List Tree) (j : ℕ) (o : Hole h kind n us ps qs j) → length (hole_front o) ≡ 31 + j
hole-place h kind n us ps qs j o = let a = o.count in let b = o.full in let c = o.left in simp (length-append, length-replicate) (omega arith)

-- ---- a child goes out
pub record Out (h kind n : ℕ) (us xs : List Tree) (it : Tree) (j : ℕ) : Type 0 where
  pub front : List Tree
  pub back : List Tree
  pub child : Tree
  pub ps : List Tree
  pub ys : List Tree
  pub qs : List Tree
  pub links : us ≡ front ++ child ∷ back
  pub place : length front ≡ 31 + j
  pub hole : Hole h kind n (front ++ nil ∷ back) ps qs j
  pub kid : Kid (Node h) child ys
  pub list : xs ≡ ps ++ (ys ++ qs)
  pub low : Each (λ y. Before y it) ps
  pub high : Each (λ y. Before it y) qs
  pub sorted : Sorted ys
  pub differs : Each (Differs it) ys

-- where the lists of the children stand, and what follows from the order
record Apart (it : Tree) (xs ps ys qs : List Tree) : Type 0 where
  low : Each (λ y. Before y it) ps
  high : Each (λ y. Before it y) qs
  sorted : Sorted ys
  differs : Each (Differs it) ys

apart_lists : (it : Tree) (xs is js : List Tree) (yss : List (List Tree)) (ys : List Tree) (zss : List (List Tree)) → xs ≡ ahead is yss ++ (ys ++ behind js zss)
    → Sorted xs → Each (Differs it) xs → Each (λ y. Before y it) is → Each (λ y. Before it y) js → Apart it xs (ahead is yss) ys (behind js zss)
apart_lists it xs is js yss ys zss list sorted differs before after =
    let s = subst Sorted list sorted in
    let d = subst (Each (Differs it)) list differs in
    let t = sorted-back (ahead is yss) (ys ++ behind js zss) s in
    record {
      low = ahead-low it is yss (ys ++ behind js zss) before s;
      high = behind-high it js zss after (sorted-back ys (behind js zss) t);
      sorted = sorted-front ys (behind js zss) t;
      differs = each-front (Differs it) ys (behind js zss) (each-back (Differs it) (ahead is yss) (ys ++ behind js zss) d);
    }

pub out : (h kind n : ℕ) (us xs : List Tree) (it : Tree) (j : ℕ) (o : Node (suc h) kind n us xs) (is js : List Tree) → o.its ≡ is ++ js → length is ≡ j
    → Sorted xs → Each (Differs it) xs → Each (λ y. Before y it) is → Each (λ y. Before it y) js
    → Out h kind n ((o.its ++ replicate o.spread.free nil) ++ (o.cs ++ replicate o.spread.room nil)) xs it j
out h kind n us xs it j o is js split at sorted differs before after =
    let many : length is + length js ≡ n = sym (length-append is js) ∙ ap length (sym split) ∙ o.spread.count in
    let z = cut-pairs (Kid (Node h)) o.cs o.yss j o.below (let a = o.one_more in omega arith) in
    let front : List Tree = ((is ++ js) ++ replicate o.spread.free nil) ++ z.fs in
    let back : List Tree = z.bs ++ replicate o.spread.room nil in
    let all : length z.fs + suc (length z.bs) ≡ length o.cs = sym (length-append z.fs (z.c ∷ z.bs)) ∙ ap length (sym z.kids_is) in
    let l1 = pairs-length (Kid (Node h)) z.fs z.fss z.left in
    let l2 = pairs-length (Kid (Node h)) z.bs z.bss z.right in
    let parts = subst (Each IsLatch) split o.items in
    let place : length front ≡ 31 + j = (let a = z.place in let b = o.spread.items in simp (length-append, length-replicate) (omega arith)) in
    let list : xs ≡ ahead is z.fss ++ (z.y ++ behind js z.bss) = o.list ∙ (λ i. weave (split i) (z.lists_is i))
    ∙ weave-at is js z.fss z.y z.bss (let a = z.place in omega arith) (let a = z.place in let b = o.one_more in omega arith) in
    let p = apart_lists it xs is js z.fss z.y z.bss list sorted differs before after in
    record {
      front = front;
      back = back;
      child = z.c;
      ps = ahead is z.fss;
      ys = z.y;
      qs = behind js z.bss;
      links = (λ i. (split i ++ replicate o.spread.free nil) ++ (z.kids_is i ++ replicate o.spread.room nil))
          ∙ around (is ++ js) (replicate o.spread.free nil) z.fs z.c z.bs (replicate o.spread.room nil);
      place = place;
      hole = record {
        is = is;
        js = js;
        cs = z.fs;
        ds = z.bs;
        yss = z.fss;
        zss = z.bss;
        free = o.spread.free;
        room = o.spread.room;
        links = sym (around (is ++ js) (replicate o.spread.free nil) z.fs nil z.bs (replicate o.spread.room nil));
        inner = o.is;
        place = at;
        count = many;
        full = o.spread.items;
        room_is = (let a = o.spread.children in let b = o.one_more in omega arith);
        left = z.place;
        left_lists = (let a = z.place in omega arith);
        right = (let a = z.place in let b = o.one_more in omega arith);
        right_lists = (let a = z.place in let b = o.one_more in omega arith);
        items_left = each-front IsLatch is js parts;
        items_right = each-back IsLatch is js parts;
        kids_left = z.left;
        kids_right = z.right;
        front = refl;
        back = refl;
      };
      kid = z.here;
      list = list;
      low = p.low;
      high = p.high;
      sorted = p.sorted;
      differs = p.differs;
    }
  where
    around : (ts gs fs : List Tree) (c : Tree) (bs es : List Tree) → (ts ++ gs) ++ ((fs ++ c ∷ bs) ++ es) ≡ ((ts ++ gs) ++ fs) ++ c ∷ (bs ++ es)
    around ts gs fs c bs es = ap (λ l. (ts ++ gs) ++ l) (append_assoc fs (c ∷ bs) es) ∙ sym (append_assoc (ts ++ gs) fs (c ∷ (bs ++ es)))

-- ---- a child comes in
pub close : (h kind n : ℕ) (top : Tree) (us ps qs : List Tree) (j : ℕ) (o : Hole h kind n us ps qs j) (c : Tree) (ys : List Tree) → Kid (Node h) c ys
    → IsTop top (ps ++ (ys ++ qs)) → Node (suc h) kind n (top ∷ (hole_front o ++ c ∷ hole_back o)) (ps ++ (ys ++ qs))
close h kind n top us ps qs j o c ys kid greatest = record {
  top = top;
  its = o.is ++ o.js;
  cs = o.cs ++ c ∷ o.ds;
  yss = o.yss ++ ys ∷ o.zss;
  is = o.inner;
  spread = record {
    free = o.free;
    room = o.room;
    links = ap (λ l. top ∷ l) (simp append_assoc);
    count = length-append o.is o.js ∙ o.count;
    items = o.full;
    children = (let a = o.left in let b = o.right in let d = o.count in let e = o.place in let f = o.room_is in simp length-append (omega arith));
  };
  list = (λ i. o.front i ++ (ys ++ o.back i))
      ∙ sym (weave-at o.is o.js o.yss ys o.zss (let a = o.place in let b = o.left_lists in omega arith) (sym o.right_lists));
  items = each-join IsLatch o.is o.js o.items_left o.items_right;
  greatest = greatest;
  one_more = (let a = o.left in let b = o.right in let d = o.count in let e = o.place in simp length-append (omega arith));
  below = pairs-join (Kid (Node h)) o.cs o.yss (c ∷ o.ds) (ys ∷ o.zss) o.kids_left (kid, o.kids_right);
}

-- ---- a further item and a further child come in
regroup : (is js gs cs ds es : List Tree) (m c : Tree) → (((((is ++ m ∷ js) ++ gs) ++ cs) ++ c ∷ []) ++ nil ∷ (ds ++ es))
    ≡ ((((is ++ m ∷ []) ++ js) ++ gs) ++ (((cs ++ c ∷ []) ++ nil ∷ ds) ++ es))
regroup is js gs cs ds es m c =
    append_assoc (((is ++ m ∷ js) ++ gs) ++ cs) (c ∷ []) (nil ∷ (ds ++ es))
    ∙ append_assoc ((is ++ m ∷ js) ++ gs) cs (c ∷ nil ∷ (ds ++ es))
    ∙ (λ i. (sym (append_assoc is (m ∷ []) js) i ++ gs) ++ (sym (append_assoc cs (c ∷ []) (nil ∷ (ds ++ es)) ∙ refl) i))
    ∙ ap (λ l. (((is ++ m ∷ []) ++ js) ++ gs) ++ l) (sym (append_assoc (cs ++ c ∷ []) (nil ∷ ds) es))

regroup-left : (is js gs cs ds es : List Tree) (m c : Tree) → (((((is ++ m ∷ js) ++ gs) ++ cs) ++ nil ∷ []) ++ c ∷ (ds ++ es))
    ≡ (((is ++ m ∷ js) ++ gs) ++ ((cs ++ nil ∷ c ∷ ds) ++ es))
regroup-left is js gs cs ds es m c =
    append_assoc (((is ++ m ∷ js) ++ gs) ++ cs) (nil ∷ []) (c ∷ (ds ++ es))
    ∙ append_assoc ((is ++ m ∷ js) ++ gs) cs (nil ∷ c ∷ (ds ++ es))
    ∙ ap (λ l. ((is ++ m ∷ js) ++ gs) ++ l) (sym (append_assoc cs (nil ∷ c ∷ ds) es))

pub spare : (n m : ℕ) → m ≢ 0 → replicate m nil ≡ nil ∷ replicate (m - 1) nil
spare n zero h = absurd (h refl)
spare n (suc m) h = (let e : suc m - 1 ≡ m = omega arith in rw e)

pub named-items : (js : List Tree) → Each IsLatch js → EachRow js
named-items [] h = tt
named-items (j ∷ js) h = (let a = h.0.here in omega arith, named-items js h.1)

pub named-kids : (Sub : ℕ → ℕ → List Tree → List Tree → Type 0) (ds : List Tree) (zss : List (List Tree)) → Pairs (Kid Sub) ds zss → EachRow ds
named-kids Sub [] zss p = tt
named-kids Sub (d ∷ ds) [] p = absurd p
named-kids Sub (d ∷ ds) (z ∷ zss) p = (let a = p.0.here in omega arith, named-kids Sub ds zss p.1)

-- the links behind the items of a node that isn't full
abbrev pub hole_rest : {h kind n : ℕ} {us ps qs : List Tree} {j : ℕ} → Hole h kind n us ps qs j → List Tree
hole_rest o = replicate (o.free - 1) nil ++ ((o.cs ++ nil ∷ o.ds) ++ replicate o.room nil)

pub before-item : (h kind n : ℕ) (top : Tree) (us ps qs : List Tree) (j : ℕ) (o : Hole h kind n us ps qs j) → n < 31
    → top ∷ us ≡ (top ∷ o.is) ++ (o.js ++ nil ∷ hole_rest o)
before-item h kind n top us ps qs j o low = let a = o.full in let e = spare n o.free (λ z. omega arith) in
    ap (λ l. top ∷ l) (o.links ∙ rw e (simp append_assoc))

pub with-item : (h kind n : ℕ) (top m : Tree) (us ps qs : List Tree) (j : ℕ) (o : Hole h kind n us ps qs j) → (top ∷ o.is) ++ m ∷ (o.js ++ hole_rest o)
    ≡ item_front o top m ++ nil ∷ hole_back o
with-item h kind n top m us ps qs j o = ap (λ l. top ∷ l) (simp append_assoc)

pub item-place : (h kind n : ℕ) (top m : Tree) (us ps qs : List Tree) (j : ℕ) (o : Hole h kind n us ps qs j) → n < 31 → length (item_front o top m) ≡ 32 + j
item-place h kind n top m us ps qs j o low = let a = o.count in let b = o.full in let c = o.left in simp (length-append, length-replicate) (omega arith)

-- behind the hole there is room for a further child
pub before-child : (h kind n : ℕ) (us ps qs : List Tree) (j : ℕ) (o : Hole h kind n us ps qs j) → n < 31 → hole_back o ≡ o.ds ++ nil ∷ hole_end o
before-child h kind n us ps qs j o low = let a = o.room_is in let e = spare n o.room (λ z. omega arith) in rw e

-- the child in front of the hole, and the item between them
pub hole-right : (h kind n : ℕ) (top m c : Tree) (us ps qs ls : List Tree) (j : ℕ) (o : Hole h kind n us ps qs j) → n < 31 → IsLatch m → Kid (Node h) c ls
    → (ws : List Tree) × ((item_front o top m ++ c ∷ []) ++ nil ∷ (o.ds ++ hole_end o) ≡ top ∷ ws) × Hole h kind (n + 1) ws (ps ++ (ls ++ m ∷ [])) qs (j + 1)
hole-right h kind n top m c us ps qs ls j o low item kid = (
  ((((o.is ++ m ∷ []) ++ o.js) ++ replicate (o.free - 1) nil) ++ (((o.cs ++ c ∷ []) ++ nil ∷ o.ds) ++ replicate (o.room - 1) nil)),
  ap (λ l. top ∷ l) (regroup o.is o.js (replicate (o.free - 1) nil) o.cs o.ds (hole_end o) m c),
  record {
    is = o.is ++ m ∷ [];
    js = o.js;
    cs = o.cs ++ c ∷ [];
    ds = o.ds;
    yss = o.yss ++ ls ∷ [];
    zss = o.zss;
    free = o.free - 1;
    room = o.room - 1;
    links = refl;
    inner = o.inner;
    place = (let a = o.place in simp length-append (omega arith));
    count = (let a = o.count in simp length-append (omega arith));
    full = (let a = o.full in omega arith);
    room_is = (let a = o.room_is in omega arith);
    left = (let a = o.left in simp length-append (omega arith));
    left_lists = (let a = o.left_lists in simp length-append (omega arith));
    right = o.right;
    right_lists = o.right_lists;
    items_left = each-join IsLatch o.is (m ∷ []) o.items_left (item, tt);
    items_right = o.items_right;
    kids_left = pairs-join (Kid (Node h)) o.cs o.yss (c ∷ []) (ls ∷ []) o.kids_left (kid, tt);
    kids_right = o.kids_right;
    front = (λ i. o.front i ++ (ls ++ m ∷ [])) ∙ sym (ahead-more o.is m o.yss ls (let a = o.place in let b = o.left_lists in omega arith));
    back = o.back;
  },
)

-- the item and the child behind the hole
pub hole-left : (h kind n : ℕ) (top m c : Tree) (us ps qs rs : List Tree) (j : ℕ) (o : Hole h kind n us ps qs j) → n < 31 → IsLatch m → Kid (Node h) c rs
    → (ws : List Tree) × ((item_front o top m ++ nil ∷ []) ++ c ∷ (o.ds ++ hole_end o) ≡ top ∷ ws) × Hole h kind (n + 1) ws ps (m ∷ (rs ++ qs)) j
hole-left h kind n top m c us ps qs rs j o low item kid = (
  (((o.is ++ m ∷ o.js) ++ replicate (o.free - 1) nil) ++ ((o.cs ++ nil ∷ c ∷ o.ds) ++ replicate (o.room - 1) nil)),
  ap (λ l. top ∷ l) (regroup-left o.is o.js (replicate (o.free - 1) nil) o.cs o.ds (hole_end o) m c),
  record {
    is = o.is;
    js = m ∷ o.js;
    cs = o.cs;
    ds = c ∷ o.ds;
    yss = o.yss;
    zss = rs ∷ o.zss;
    free = o.free - 1;
    room = o.room - 1;
    links = refl;
    inner = o.inner;
    place = o.place;
    count = (let a = o.count in omega arith);
    full = (let a = o.full in omega arith);
    room_is = (let a = o.room_is in omega arith);
    left = o.left;
    left_lists = o.left_lists;
    right = (let a = o.right in omega arith);
    right_lists = (let a = o.right_lists in omega arith);
    items_left = o.items_left;
    items_right = (item, o.items_right);
    kids_left = o.kids_left;
    kids_right = (kid, o.kids_right);
    front = o.front;
    back = ap (λ l. m ∷ l) ((λ i. rs ++ o.back i) ∙ sym (weave-behind o.js rs o.zss));
  },
)
