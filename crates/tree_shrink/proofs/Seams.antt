-- Nodes with a place left open: how they come about, how they turn into one another, and how they end.
use Rattle.std.proofs.Common.{List, [], ap, append_assoc, arith, length, length-append, refl, replicate, subst, suc, sym, zero, ℕ, ◌++◌, ◌+◌, ◌-◌, ◌<◌, ◌∙◌}
use Rattle.std.proofs.Common.{◌∷◌, ◌≡◌}
use Rattle.std.proofs.lemmas.List.{length-replicate}
use Rattle.row_pool.specs.Trees.{Tree, nil}
use Rattle.latch_item.specs.Items.{IsLatch}
use Rattle.latch_item.specs.Shape.{Each, Node, Pairs, weave}
use Rattle.interval_tree.proofs.Holes.{cut-pairs, pairs-join, pairs-length}
use Rattle.interval_tree.proofs.Lists.{each-back, each-front, each-join}
use Rattle.interval_tree.proofs.Weaves.{ahead-more, weave-at, weave-behind}
use Rattle.interval_tree.specs.Listings.{Part}
use Rattle.interval_tree.specs.Nodes.{Body, ahead, behind, kind_at}
use Rattle.tree_shrink.specs.Slots.{Flat, Leftward, Rightward, Seam, Slot, cut_links, seam_links, slot_links}

-- ---- a leaf's children are nothing
pub nothing : (ks : List Tree) (yss : List (List Tree)) → Pairs (Part 0) ks yss → ks ≡ replicate (length ks) nil
nothing [] yss p = refl
nothing (k ∷ ks) [] p = absurd p
nothing (k ∷ ks) (ys ∷ yss) p = (λ i. p.0.0 i ∷ nothing ks yss p.1 i)

pub weave-nothing : (its ks : List Tree) (yss : List (List Tree)) → Pairs (Part 0) ks yss → length ks ≡ suc (length its) → weave its yss ≡ its
weave-nothing its [] yss p e = absurd (omega arith)
weave-nothing its (k ∷ ks) [] p e = absurd p
weave-nothing [] (k ∷ []) (ys ∷ []) p e = p.0.1
weave-nothing [] (k ∷ []) (ys ∷ zs ∷ yss) p e = absurd p.1
weave-nothing [] (k ∷ l ∷ ks) (ys ∷ yss) p e = absurd (omega arith)
weave-nothing (x ∷ its) (k ∷ ks) (ys ∷ yss) p e = (λ i. p.0.1 i ++ x ∷ weave-nothing its ks yss p.1 (omega arith) i)

pub gaps-join : (m n : ℕ) → replicate m nil ++ replicate n nil ≡ replicate (m + n) nil
gaps-join zero n = let e : 0 + n ≡ n = omega arith in ap (λ k. replicate k nil) (sym e)
gaps-join (suc m) n = let e : suc m + n ≡ suc (m + n) = omega arith in ap (λ l. nil ∷ l) (gaps-join m n) ∙ ap (λ k. replicate k nil) (sym e)

abbrev pub empty-lists : ℕ → List (List Tree)
empty-lists zero = []
empty-lists (suc n) = [] ∷ empty-lists n

pub nothings : (n : ℕ) → Pairs (Part 0) (replicate n nil) (empty-lists n)
nothings zero = tt
nothings (suc n) = ((refl, refl), nothings n)

-- ---- between the forms of a node
abbrev pub flat-of : (h kind n : ℕ) (us xs : List Tree) → Node h kind n us xs → Flat h kind n us xs
flat-of zero kind n us xs o =
    let e : replicate o.spread.room nil ≡ replicate (suc n) nil ++ replicate o.spread.free nil = ap (λ k. replicate k nil)
    (let a = o.spread.items in let b = o.spread.children in omega arith) ∙ sym (gaps-join (suc n) o.spread.free) in
    record {
      top = o.top;
      its = xs;
      ks = replicate (suc n) nil;
      yss = empty-lists (suc n);
      free = o.spread.free;
      is = o.is;
      links = o.spread.links ∙ ap (λ l. o.top ∷ ((xs ++ replicate o.spread.free nil) ++ l)) e;
      count = o.spread.count;
      full = o.spread.items;
      many = length-replicate {A = Tree} (suc n) nil;
      list = sym (weave-nothing xs (replicate (suc n) nil) (empty-lists (suc n)) (nothings (suc n)) (let a = o.spread.count in length-replicate {A = Tree}
          (suc n) nil ∙ ap suc (sym a)));
      items = o.items;
      below = nothings (suc n);
    }
flat-of (suc h) kind n us xs o =
    let e : o.spread.room ≡ o.spread.free = (let a = o.spread.items in let b = o.spread.children in let c = o.one_more in omega arith) in
    record {
      top = o.top;
      its = o.its;
      ks = o.cs;
      yss = o.yss;
      free = o.spread.free;
      is = o.is;
      links = o.spread.links ∙ ap (λ r. o.top ∷ ((o.its ++ replicate o.spread.free nil) ++ (o.cs ++ replicate r nil))) e;
      count = o.spread.count;
      full = o.spread.items;
      many = o.one_more;
      list = o.list;
      items = o.items;
      below = o.below;
    }

pub body-of : (h kind n : ℕ) (us xs : List Tree) → Flat h kind n us xs → Body h kind n us xs
body-of zero kind n us xs f =
    let all : length f.ks + f.free ≡ 32 = (let a = f.many in let b = f.full in omega arith) in
    let e : f.ks ++ replicate f.free nil ≡ replicate 32 nil = (λ i. nothing f.ks f.yss f.below i ++ replicate f.free nil) ∙ gaps-join (length f.ks) f.free
    ∙ ap (λ k. replicate k nil) all in
    record {
      top = f.top;
      its = f.its;
      cs = [];
      yss = [];
      is = f.is;
      spread = record {
        free = f.free;
        room = 32;
        links = f.links
            ∙ ap (λ l. f.top ∷ ((f.its ++ replicate f.free nil) ++ l)) e;
        count = f.count;
        items = f.full;
        children = refl;
      };
      list = f.list ∙ weave-nothing f.its f.ks f.yss f.below (let a = f.many in let b = f.count in omega arith);
      items = f.items;
      many = refl;
      below = tt;
    }
body-of (suc h) kind n us xs f = record {
  top = f.top;
  its = f.its;
  cs = f.ks;
  yss = f.yss;
  is = f.is;
  spread = record {
    free = f.free;
    room = f.free;
    links = f.links;
    count = f.count;
    items = f.full;
    children =
        (let a = f.many in let b = f.full in omega arith);
  };
  list = f.list;
  items = f.items;
  many = f.many;
  below = f.below;
}

-- ---- a slot
pub record Cutout (h kind n : ℕ) (us xs is js : List Tree) (j : ℕ) (top : Tree) : Type 0 where
  pub ps : List Tree
  pub ys : List Tree
  pub qs : List Tree
  pub child : Tree
  pub slot : Slot h n ps qs j
  pub same_left : slot.is ≡ is
  pub same_right : slot.js ≡ js
  pub links : us ≡ slot_links slot top child
  pub part : Part h child ys
  pub list : xs ≡ ps ++ (ys ++ qs)

pub cutout : (h kind n : ℕ) (us xs : List Tree) (f : Flat h kind n us xs) (is js : List Tree) (j : ℕ) → f.its ≡ is ++ js → length is ≡ j
    → Cutout h kind n us xs is js j f.top
cutout h kind n us xs f is js j split at =
    let many : length is + length js ≡ n = sym (length-append is js) ∙ ap length (sym split) ∙ f.count in
    let z = cut-pairs (Part h) f.ks f.yss j f.below (let a = f.many in omega arith) in
    let l1 = pairs-length (Part h) z.fs z.fss z.left in
    let l2 = pairs-length (Part h) z.bs z.bss z.right in
    let all : length z.fs + suc (length z.bs) ≡ length f.ks = sym (length-append z.fs (z.c ∷ z.bs)) ∙ ap length (sym z.kids_is) in
    let parts = subst (Each IsLatch) split f.items in
    let a = z.place in let b = f.many in
    record {
      ps = ahead is z.fss;
      ys = z.y;
      qs = behind js z.bss;
      child = z.c;
      slot = record {
        is = is;
        js = js;
        cs = z.fs;
        ds = z.bs;
        yss = z.fss;
        zss = z.bss;
        free = f.free;
        place = at;
        count = (omega arith);
        full = f.full;
        left = z.place;
        left_lists = (omega arith);
        right = (omega arith);
        right_lists = (omega arith);
        items_left = each-front IsLatch is js parts;
        items_right = each-back IsLatch is js parts;
        kids_left = z.left;
        kids_right = z.right;
        front = refl;
        back = refl;
      };
      same_left = refl;
      same_right = refl;
      links = f.links ∙ (λ i. f.top ∷ ((split i ++ replicate f.free nil) ++ (z.kids_is i ++ replicate f.free nil)));
      part = z.here;
      list = f.list ∙ (λ i. weave (split i) (z.lists_is i)) ∙ weave-at is js z.fss z.y z.bss (omega arith) (omega arith);
    }

pub filled : (h kind n : ℕ) (top : Tree) (ps qs : List Tree) (j : ℕ) (o : Slot h n ps qs j) (c : Tree) (ys : List Tree) → kind ≡ kind_at h → Part h c ys
    → Flat h kind n (slot_links o top c) (ps ++ (ys ++ qs))
filled h kind n top ps qs j o c ys k part = record {
  top = top;
  its = o.is ++ o.js;
  ks = o.cs ++ c ∷ o.ds;
  yss = o.yss ++ ys ∷ o.zss;
  free = o.free;
  is = k;
  links = refl;
  count = (let a = o.place in let b = o.count in length-append o.is o.js ∙ omega arith);
  full = o.full;
  many = (let a = o.left in let b = o.right in let d = o.count in length-append o.cs (c ∷ o.ds) ∙ omega arith);
  list = (λ i. o.front i ++ (ys ++ o.back i)) ∙ sym (weave-at o.is o.js o.yss ys o.zss (let a = o.place in let b = o.left_lists in omega arith)
      (sym o.right_lists));
  items = each-join IsLatch o.is o.js o.items_left o.items_right;
  below = pairs-join (Part h) o.cs o.yss (c ∷ o.ds) (ys ∷ o.zss) o.kids_left (part, o.kids_right);
}

-- the links in front of the child, and behind it
abbrev pub slot_front : {h n : ℕ} {ps qs : List Tree} {j : ℕ} → Slot h n ps qs j → Tree → List Tree
slot_front o top = top ∷ (((o.is ++ o.js) ++ replicate o.free nil) ++ o.cs)

abbrev pub slot_back : {h n : ℕ} {ps qs : List Tree} {j : ℕ} → Slot h n ps qs j → List Tree
slot_back o = o.ds ++ replicate o.free nil

pub slot-links : (h n : ℕ) (top x : Tree) (ps qs : List Tree) (j : ℕ) (o : Slot h n ps qs j) → slot_links o top x ≡ slot_front o top ++ x ∷ slot_back o
slot-links h n top x ps qs j o = ap (λ l. top ∷ l) (ap (λ l. ((o.is ++ o.js) ++ replicate o.free nil) ++ l) (append_assoc o.cs (x ∷ o.ds)
    (replicate o.free nil)) ∙ sym (append_assoc ((o.is ++ o.js) ++ replicate o.free nil) o.cs (x ∷ (o.ds ++ replicate o.free nil))))

pub slot-place : (h n : ℕ) (top : Tree) (ps qs : List Tree) (j : ℕ) (o : Slot h n ps qs j) → length (slot_front o top) ≡ 32 + j
slot-place h n top ps qs j o = let a = o.place in let b = o.count in let c = o.full in let d = o.left in simp (length-append, length-replicate) (omega arith)

-- ---- a seam beside a slot
last-of : {A : Type 0} → (xs : List A) → (n : ℕ) → length xs ≡ suc n → (ys : List A) × (y : A) × (xs ≡ ys ++ y ∷ []) × (length ys ≡ n)
last-of [] n e = absurd (omega arith)
last-of (x ∷ []) n e = ([], x, refl, omega arith)
last-of (x ∷ y ∷ xs) zero e = absurd (omega arith)
last-of (x ∷ y ∷ xs) (suc n) e = let o = last-of (y ∷ xs) n (omega arith) in (x ∷ o.0, o.1, ap (λ l. x ∷ l) o.2, ap suc o.3)

no-items : {A : Type 0} → (xs : List A) → length xs ≡ 0 → xs ≡ []
no-items [] e = refl
no-items (x ∷ xs) e = absurd (omega arith)

pub left-of : (h n : ℕ) (ps qs : List Tree) (j b : ℕ) (o : Slot h n ps qs j) → j ≡ suc b → Leftward h n ps qs j b o
left-of h n ps qs j b o at =
    let (is, s, items, few) = last-of o.is b (o.place ∙ at) in
    let z = cut-pairs (Part h) o.cs o.yss b o.kids_left (let a = o.left in omega arith) in
    let l1 = pairs-length (Part h) z.bs z.bss z.right in
    let l2 = pairs-length (Part h) z.fs z.fss z.left in
    let all : length z.fs + suc (length z.bs) ≡ length o.cs = sym (length-append z.fs (z.c ∷ z.bs)) ∙ ap length (sym z.kids_is) in
    let p = z.place in let q = o.left in
    let none : z.bs ≡ [] = no-items z.bs (omega arith) in
    let nones : z.bss ≡ [] = no-items z.bss (omega arith) in
    let kids_are : o.cs ≡ z.fs ++ z.c ∷ [] = z.kids_is ∙ ap (λ l. z.fs ++ z.c ∷ l) none in
    let lists_are : o.yss ≡ z.fss ++ z.y ∷ [] = z.lists_is ∙ ap (λ l. z.fss ++ z.y ∷ l) nones in
    let parts = subst (Each IsLatch) items o.items_left in
    record {
      ls = ahead is z.fss;
      kid = z.c;
      l = z.y;
      s = s;
      seam = record {
        is = is;
        js = o.js;
        cs = z.fs;
        ds = o.ds;
        yss = z.fss;
        zss = o.zss;
        free = o.free;
        place = few;
        count = (let a = o.count in omega arith);
        full = o.full;
        left = z.place;
        left_lists = (omega arith);
        right = o.right;
        right_lists = o.right_lists;
        items_left = each-front IsLatch is (s ∷ []) parts;
        items_right = o.items_right;
        kids_left = z.left;
        kids_right = o.kids_right;
        front = refl;
        back = o.back;
      };
      at = at;
      fits = (each-back IsLatch is (s ∷ []) parts).0;
      part = z.here;
      list = o.front ∙ (λ i. ahead (items i) (lists_are i)) ∙ ahead-more is s z.fss z.y (omega arith);
      links = λ top x. (λ i. top ∷ (((items i ++ o.js) ++ replicate o.free nil) ++ ((kids_are i ++ x ∷ o.ds) ++ replicate o.free nil)))
          ∙ (λ i. top ∷ ((append_assoc is (s ∷ []) o.js i ++ replicate o.free nil) ++ (append_assoc z.fs (z.c ∷ []) (x ∷ o.ds) i ++ replicate o.free nil)));
    }

pub right-of : (h n : ℕ) (ps qs : List Tree) (j : ℕ) (o : Slot h n ps qs j) → j < n → Rightward h n ps qs j o
right-of h n ps qs j o low = go o.js o.ds o.zss refl refl refl
  where
    go : (js ds : List Tree) (zss : List (List Tree)) → o.js ≡ js → o.ds ≡ ds → o.zss ≡ zss → Rightward h n ps qs j o
    go [] ds zss a b c = (let d = ap length a in let e = o.count in absurd (omega arith))
    go (s ∷ js) [] zss a b c = (let d = ap length a in let e = ap length b in let f = o.right in absurd (omega arith))
    go (s ∷ js) (k ∷ ds) [] a b c = (let d = ap length a in let e = ap length c in let f = o.right_lists in absurd (omega arith))
    go (s ∷ js) (k ∷ ds) (z ∷ zss) a b c =
        let la = ap length a in let lb = ap length b in let lc = ap length c in
        let items = subst (Each IsLatch) a o.items_right in
        let kids_are = subst (λ (w : List Tree × List (List Tree)). Pairs (Part h) w.0 w.1) (λ i. (b i, c i)) o.kids_right in
        record {
          rs = behind js zss;
          kid = k;
          l = z;
          s = s;
          seam = record {
            is = o.is;
            js = js;
            cs = o.cs;
            ds = ds;
            yss = o.yss;
            zss = zss;
            free = o.free;
            place = o.place;
            count = (let d = o.count in omega arith);
            full = o.full;
            left = o.left;
            left_lists = o.left_lists;
            right = (let d = o.right in omega arith);
            right_lists = (let d = o.right_lists in omega arith);
            items_left = o.items_left;
            items_right = items.1;
            kids_left = o.kids_left;
            kids_right = kids_are.1;
            front = o.front;
            back = refl;
          };
          fits = items.0;
          part = kids_are.0;
          list = o.back ∙ (λ i. behind (a i) (c i)) ∙ ap (λ l. s ∷ l) (weave-behind js z zss);
          links = λ top x. (λ i. top ∷ (((o.is ++ a i) ++ replicate o.free nil) ++ ((o.cs ++ x ∷ b i) ++ replicate o.free nil)));
        }

-- ---- from a seam back to a slot
pub record Joined (h n : ℕ) (ps qs : List Tree) (j : ℕ) (us : Tree → Tree → List Tree) : Type 0 where
  pub slot : Slot h n ps qs j
  pub links : (top x : Tree) → us top x ≡ slot_links slot top x

pub close-left : (h n : ℕ) (ps qs : List Tree) (j : ℕ) (o : Seam h n ps qs j) (s c : Tree) (l : List Tree) → IsLatch s → Part h c l
    → Joined h n (ps ++ (l ++ s ∷ [])) qs (j + 1) (λ top x. seam_links o top s c x)
close-left h n ps qs j o s c l fits part = record {
  slot = record {
    is = o.is ++ s ∷ [];
    js = o.js;
    cs = o.cs ++ c ∷ [];
    ds = o.ds;
    yss = o.yss ++ l ∷ [];
    zss = o.zss;
    free = o.free;
    place = (let a = o.place in length-append o.is (s ∷ []) ∙ omega arith);
    count = (let a = o.count in omega arith);
    full = o.full;
    left = (let a = o.left in length-append o.cs (c ∷ []) ∙ omega arith);
    left_lists = (let a = o.left_lists in length-append o.yss (l ∷ []) ∙ omega arith);
    right = o.right;
    right_lists = o.right_lists;
    items_left = each-join IsLatch o.is (s ∷ []) o.items_left (fits, tt);
    items_right = o.items_right;
    kids_left = pairs-join (Part h) o.cs o.yss (c ∷ []) (l ∷ []) o.kids_left (part, tt);
    kids_right = o.kids_right;
    front = (λ i. o.front i ++ (l ++ s ∷ [])) ∙ sym (ahead-more o.is s o.yss l (let a = o.place in let b = o.left_lists in omega arith));
    back = o.back;
  };
  links = λ top x. (λ i. top ∷ ((sym (append_assoc o.is (s ∷ []) o.js) i ++ replicate o.free nil) ++ (sym (append_assoc o.cs (c ∷ [])
      (x ∷ o.ds)) i ++ replicate o.free nil)));
}

pub close-right : (h n : ℕ) (ps qs : List Tree) (j : ℕ) (o : Seam h n ps qs j) (s c : Tree) (l : List Tree) → IsLatch s → Part h c l
    → Joined h n ps (s ∷ (l ++ qs)) j (λ top x. seam_links o top s x c)
close-right h n ps qs j o s c l fits part = record {
  slot = record {
    is = o.is;
    js = s ∷ o.js;
    cs = o.cs;
    ds = c ∷ o.ds;
    yss = o.yss;
    zss = l ∷ o.zss;
    free = o.free;
    place = o.place;
    count = o.count;
    full = o.full;
    left = o.left;
    left_lists = o.left_lists;
    right = (let a = o.right in omega arith);
    right_lists = (let a = o.right_lists in omega arith);
    items_left = o.items_left;
    items_right = (fits, o.items_right);
    kids_left = o.kids_left;
    kids_right = (part, o.kids_right);
    front = o.front;
    back = ap (λ q. s ∷ q) ((λ i. l ++ o.back i) ∙ sym (weave-behind o.js l o.zss));
  };
  links = λ top x. refl;
}

-- the slot that is left when the item and one child are gone
abbrev pub without : (h n : ℕ) (ps qs : List Tree) (j : ℕ) → Seam h n ps qs j → Slot h (n - 1) ps qs j
without h n ps qs j o = record {
  is = o.is;
  js = o.js;
  cs = o.cs;
  ds = o.ds;
  yss = o.yss;
  zss = o.zss;
  free = suc o.free;
  place = o.place;
  count = (let a = o.count in omega arith);
  full = (let a = o.count in let b = o.full in omega arith);
  left = o.left;
  left_lists = o.left_lists;
  right = o.right;
  right_lists = o.right_lists;
  items_left = o.items_left;
  items_right = o.items_right;
  kids_left = o.kids_left;
  kids_right = o.kids_right;
  front = o.front;
  back = o.back;
}

-- a further item and child beside a slot
abbrev pub with-more : (h n : ℕ) (ps qs : List Tree) (j : ℕ) (o : Slot h n ps qs j) → n < 31 → Seam h (n + 1) ps qs j
with-more h n ps qs j o low = record {
  is = o.is;
  js = o.js;
  cs = o.cs;
  ds = o.ds;
  yss = o.yss;
  zss = o.zss;
  free = o.free - 1;
  place = o.place;
  count = (let a = o.count in omega arith);
  full = (let b = o.full in omega arith);
  left = o.left;
  left_lists = o.left_lists;
  right = o.right;
  right_lists = o.right_lists;
  items_left = o.items_left;
  items_right = o.items_right;
  kids_left = o.kids_left;
  kids_right = o.kids_right;
  front = o.front;
  back = o.back;
}

-- ---- the places of a seam's links
abbrev pub item_front : {h n : ℕ} {ps qs : List Tree} {j : ℕ} → Seam h n ps qs j → Tree → List Tree
item_front o top = top ∷ o.is

abbrev pub item_back : {h n : ℕ} {ps qs : List Tree} {j : ℕ} → Seam h n ps qs j → Tree → Tree → List Tree
item_back o x y = o.js ++ (replicate o.free nil ++ ((o.cs ++ x ∷ y ∷ o.ds) ++ replicate o.free nil))

pub seam-item : (h n : ℕ) (top s x y : Tree) (ps qs : List Tree) (j : ℕ) (o : Seam h n ps qs j)
    → seam_links o top s x y ≡ item_front o top ++ s ∷ item_back o x y
seam-item h n top s x y ps qs j o = ap (λ l. top ∷ l) (ap (λ l. l ++ ((o.cs ++ x ∷ y ∷ o.ds) ++ replicate o.free nil)) (append_assoc o.is (s ∷ o.js)
    (replicate o.free nil)) ∙ append_assoc o.is (s ∷ (o.js ++ replicate o.free nil)) ((o.cs ++ x ∷ y ∷ o.ds) ++ replicate o.free nil)
    ∙ ap (λ l. o.is ++ s ∷ l) (append_assoc o.js (replicate o.free nil) ((o.cs ++ x ∷ y ∷ o.ds) ++ replicate o.free nil)))

abbrev pub kid_front : {h n : ℕ} {ps qs : List Tree} {j : ℕ} → Seam h n ps qs j → Tree → Tree → List Tree
kid_front o top s = top ∷ (((o.is ++ s ∷ o.js) ++ replicate o.free nil) ++ o.cs)

abbrev pub kid_back : {h n : ℕ} {ps qs : List Tree} {j : ℕ} → Seam h n ps qs j → List Tree
kid_back o = o.ds ++ replicate o.free nil

-- the child in front
pub seam-kid : (h n : ℕ) (top s x y : Tree) (ps qs : List Tree) (j : ℕ) (o : Seam h n ps qs j)
    → seam_links o top s x y ≡ kid_front o top s ++ x ∷ (y ∷ kid_back o)
seam-kid h n top s x y ps qs j o = ap (λ l. top ∷ l) (ap (λ l. ((o.is ++ s ∷ o.js) ++ replicate o.free nil) ++ l) (append_assoc o.cs (x ∷ y ∷ o.ds)
    (replicate o.free nil)) ∙ sym (append_assoc ((o.is ++ s ∷ o.js) ++ replicate o.free nil) o.cs (x ∷ y ∷ (o.ds ++ replicate o.free nil))))

-- the child behind
pub seam-next : (h n : ℕ) (top s x y : Tree) (ps qs : List Tree) (j : ℕ) (o : Seam h n ps qs j)
    → seam_links o top s x y ≡ (kid_front o top s ++ x ∷ []) ++ y ∷ kid_back o
seam-next h n top s x y ps qs j o = seam-kid h n top s x y ps qs j o ∙ sym (append_assoc (kid_front o top s) (x ∷ []) (y ∷ kid_back o))

pub kid-place : (h n : ℕ) (top s : Tree) (ps qs : List Tree) (j : ℕ) (o : Seam h n ps qs j) → length (kid_front o top s) ≡ 32 + j
kid-place h n top s ps qs j o = let a = o.place in let b = o.count in let c = o.full in let d = o.left in simp (length-append, length-replicate) (omega arith)

pub next-place : (h n : ℕ) (top s x : Tree) (ps qs : List Tree) (j : ℕ) (o : Seam h n ps qs j) → length (kid_front o top s ++ x ∷ []) ≡ 33 + j
next-place h n top s x ps qs j o = let a = kid-place h n top s ps qs j o in length-append (kid_front o top s) (x ∷ []) ∙ omega arith

-- ---- what is left of a seam once both gaps are closed
-- the links behind the items
abbrev pub items_behind : {h n : ℕ} {ps qs : List Tree} {j : ℕ} → Seam h n ps qs j → Tree → List Tree
items_behind o x = replicate o.free nil ++ ((o.cs ++ x ∷ nil ∷ o.ds) ++ replicate o.free nil)

-- the links up to the first child, without the item
abbrev pub closed_front : {h n : ℕ} {ps qs : List Tree} {j : ℕ} → Seam h n ps qs j → Tree → Tree → List Tree
closed_front o top x = top ∷ (((o.is ++ o.js) ++ replicate (suc o.free) nil) ++ (o.cs ++ x ∷ []))

pub closed-items : (h n : ℕ) (top x : Tree) (ps qs : List Tree) (j : ℕ) (o : Seam h n ps qs j)
    → item_front o top ++ (o.js ++ nil ∷ items_behind o x) ≡ closed_front o top x ++ nil ∷ kid_back o
closed-items h n top x ps qs j o = ap (λ l. top ∷ l) (sym (append_assoc o.is o.js (nil ∷ items_behind o x))
    ∙ sym (append_assoc (o.is ++ o.js) (replicate (suc o.free) nil) ((o.cs ++ x ∷ nil ∷ o.ds) ++ replicate o.free nil))
    ∙ ap (λ l. ((o.is ++ o.js) ++ replicate (suc o.free) nil) ++ l) (append_assoc o.cs (x ∷ nil ∷ o.ds) (replicate o.free nil)
    ∙ sym (append_assoc o.cs (x ∷ []) (nil ∷ (o.ds ++ replicate o.free nil))))
    ∙ sym (append_assoc ((o.is ++ o.js) ++ replicate (suc o.free) nil) (o.cs ++ x ∷ []) (nil ∷ (o.ds ++ replicate o.free nil))))

pub closed-place : (h n : ℕ) (top x : Tree) (ps qs : List Tree) (j : ℕ) (o : Seam h n ps qs j) → length (closed_front o top x) ≡ 33 + j
closed-place h n top x ps qs j o =
    let a = o.place in let b = o.count in let c = o.full in let d = o.left in simp (length-append, length-replicate) (omega arith)

pub closed-kids : (h n : ℕ) (top x : Tree) (ps qs : List Tree) (j : ℕ) (o : Seam h n ps qs j)
    → closed_front o top x ++ (o.ds ++ nil ∷ replicate o.free nil) ≡ cut_links o top x
closed-kids h n top x ps qs j o = ap (λ l. top ∷ l) (append_assoc ((o.is ++ o.js) ++ replicate (suc o.free) nil) (o.cs ++ x ∷ [])
    (o.ds ++ nil ∷ replicate o.free nil)
    ∙ ap (λ l. ((o.is ++ o.js) ++ replicate (suc o.free) nil) ++ l) (sym (append_assoc (o.cs ++ x ∷ []) o.ds (nil ∷ replicate o.free nil))
    ∙ ap (λ l. l ++ (nil ∷ replicate o.free nil)) (append_assoc o.cs (x ∷ []) o.ds)))
