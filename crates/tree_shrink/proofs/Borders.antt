-- The borders of a node: an item and the child beside it go, or come.
use Rattle.std.proofs.Common.{List, [], ap, append-nil, append_assoc, arith, inl, inr, length, length-append, refl, replicate, subst, suc, sym, zero, ℕ}
use Rattle.std.proofs.Common.{⊎_elim, ◌++◌, ◌+◌, ◌-◌, ◌<◌, ◌^◌, ◌∙◌, ◌∷◌, ◌≡◌, ◌≢◌, ◌≤◌, ◌⊎◌}
use Rattle.std.proofs.lemmas.List.{length-replicate}
use Rattle.row_pool.specs.SeatView.{SeatView}
use Rattle.row_pool.specs.Trees.{Tree, nil}
use Rattle.latch_item.specs.Items.{BoundUpTo, IsLatch}
use Rattle.latch_item.specs.Shape.{Among, Each, IsTop, Node, Pairs, Sorted}
use Rattle.interval_tree.proofs.Depths.{each-among, node-items}
use Rattle.interval_tree.proofs.Holes.{named-items, named-kids, spare}
use Rattle.interval_tree.proofs.Lists.{among-back, among-front, bound-self, bound-trans, each-join, each-map, sorted-back, sorted-front}
use Rattle.interval_tree.specs.Held.{OwnsNode}
use Rattle.interval_tree.specs.Listings.{Part}
use Rattle.interval_tree.specs.Nodes.{Body, EachRow, Raised, ahead, behind, kind_at}
use Rattle.tree_shrink.proofs.Seams.{body-of, close-right, cutout, filled, flat-of, gaps-join, left-of, nothing, right-of, with-more, without}
use Rattle.tree_shrink.specs.Slots.{Seam, Slot, cut_links, seam_links, slot_links}
use Rattle.tree_shrink.specs.Stages.{Carried, Lightens, SameItems}

-- ---- the first link of a node in one form
pub flat-top : (h kind n : ℕ) (us xs : List Tree) (o : Node h kind n us xs) → IsTop (flat-of h kind n us xs o).top xs
flat-top zero kind n us xs o = o.greatest
flat-top (suc h) kind n us xs o = o.greatest

pub top-latch : (h kind n : ℕ) (us xs : List Tree) (t : Tree) → Node h kind n us xs → IsTop t xs → IsLatch t
top-latch h kind n us xs t o g = each-among IsLatch t xs g.among (node-items h kind n us xs o)

-- ---- an item and a child beside it go
-- The item number j of a node and a child beside it are to go, and the other child beside it stays
pub record Lends (h kind n j : ℕ) (us xs : List Tree) : Type 0 where
  pub top : Tree
  pub s : Tree
  pub goes : Tree
  pub stays : Tree
  pub ps : List Tree
  pub qs : List Tree
  pub l : List Tree
  pub ls : List Tree
  pub seam : Seam h n ps qs j
  pub kind_is : kind ≡ kind_at h
  pub fits : IsLatch s
  pub part : Part h goes l
  pub body : Body h kind (n - 1) (cut_links seam top stays) ls
  pub greatest : IsTop top xs
  pub top_fits : IsLatch top
  pub inside : SameItems (ls ++ s ∷ l) xs

pub among-split : (t : Tree) (us vs : List Tree) → Among t (us ++ vs) → Among t us ⊎ Among t vs
among-split t [] vs h = inr h
among-split t (u ∷ us) vs h = ⊎_elim (λ a. inl (inl a)) (λ b. ⊎_elim (λ c. inl (inr c)) (λ d. inr d) (among-split t us vs b)) h

around-among : (t m : Tree) (ls l : List Tree) → Among t (ls ++ m ∷ l) → Among t (l ++ m ∷ ls)
around-among t m ls l a = ⊎_elim (λ p. among-back t l (m ∷ ls) (inr p))
    (λ p. ⊎_elim (λ e. among-back t l (m ∷ ls) (inl e)) (λ q. among-front t l (m ∷ ls) q) p) (among-split t ls (m ∷ l) a)

pub same-items : (xs ys : List Tree) → ys ≡ xs → SameItems xs ys
same-items xs ys e = ((λ t a. subst (Among t) (sym e) a), (λ t a. subst (Among t) e a))

pub items-around : (ls l ys : List Tree) (m : Tree) → ys ≡ l ++ m ∷ ls → SameItems (ls ++ m ∷ l) ys
items-around ls l ys m e = ((λ t a. subst (Among t) (sym e) (around-among t m ls l a)), (λ t a. around-among t m l ls (subst (Among t) e a)))

-- the last item, and the child behind it
pub record LastOut (h kind n : ℕ) (us xs : List Tree) : Type 0 where
  pub pair : Lends h kind n (n - 1) us xs
  pub links : us ≡ seam_links pair.seam pair.top pair.s pair.stays pair.goes
  pub list : xs ≡ pair.ls ++ pair.s ∷ pair.l

pub last-sorted : {h kind n : ℕ} {us xs : List Tree} (q : LastOut h kind n us xs) → Sorted xs → Sorted q.pair.ls
last-sorted q sorted = sorted-front q.pair.ls (q.pair.s ∷ q.pair.l) (subst Sorted q.list sorted)

around-last : (qs ls l : List Tree) (s : Tree) (ys : List Tree) → qs ≡ [] → (ls ++ (l ++ s ∷ [])) ++ (ys ++ qs) ≡ (ls ++ (l ++ qs)) ++ s ∷ ys
around-last [] ls l s ys e = simp (append_assoc, append-nil)
around-last (q ∷ qs) ls l s ys e = cc

pub last-out : (h kind n : ℕ) (us xs : List Tree) → Node h kind n us xs → 2 ≤ n → LastOut h kind n us xs
last-out h kind n us xs nd two =
    let f = flat-of h kind n us xs nd in
    let q = cutout h kind n us xs f f.its [] n (sym (append-nil f.its)) f.count in
    let none : q.qs ≡ [] = q.slot.back ∙ (λ i. behind (q.same_right i) q.slot.zss) in
    let w = left-of h n q.ps q.qs n (n - 1) q.slot (omega arith) in
    let list : xs ≡ (w.ls ++ (w.l ++ q.qs)) ++ w.s ∷ q.ys = q.list ∙ (λ i. w.list i ++ (q.ys ++ q.qs)) ∙ around-last q.qs w.ls w.l w.s q.ys none in
    record {
      pair = record {
        top = f.top;
        s = w.s;
        goes = q.child;
        stays = w.kid;
        ps = w.ls;
        qs = q.qs;
        l = q.ys;
        ls = w.ls ++ (w.l ++ q.qs);
        seam = w.seam;
        kind_is = f.is;
        fits = w.fits;
        part = q.part;
        body = body-of h kind (n - 1) (cut_links w.seam f.top w.kid) (w.ls ++ (w.l ++ q.qs)) (filled h kind (n - 1) f.top w.ls q.qs (n - 1)
            (without h n w.ls q.qs (n - 1) w.seam) w.kid w.l f.is w.part);
        greatest = flat-top h kind n us xs nd;
        top_fits = top-latch h kind n us xs f.top nd (flat-top h kind n us xs nd);
        inside = same-items ((w.ls ++ (w.l ++ q.qs)) ++ w.s ∷ q.ys) xs list;
      };
      links = q.links ∙ w.links f.top q.child;
      list = list;
    }

-- the first item, and the child in front of it
pub record FirstOut (h kind n : ℕ) (us xs : List Tree) : Type 0 where
  pub pair : Lends h kind n 0 us xs
  pub links : us ≡ seam_links pair.seam pair.top pair.s pair.goes pair.stays
  pub list : xs ≡ pair.l ++ pair.s ∷ pair.ls

pub first-sorted : {h kind n : ℕ} {us xs : List Tree} (q : FirstOut h kind n us xs) → Sorted xs → Sorted q.pair.ls
first-sorted q sorted = (sorted-back q.pair.l (q.pair.s ∷ q.pair.ls) (subst Sorted q.list sorted)).1

around-first : (ps l : List Tree) (s : Tree) (ms : List Tree) → ps ≡ [] → ps ++ (l ++ s ∷ ms) ≡ l ++ s ∷ (ps ++ ms)
around-first [] l s ms e = refl
around-first (q ∷ qs) l s ms e = cc

pub first-out : (h kind n : ℕ) (us xs : List Tree) → Node h kind n us xs → 2 ≤ n → FirstOut h kind n us xs
first-out h kind n us xs nd two =
    let f = flat-of h kind n us xs nd in
    let q = cutout h kind n us xs f [] f.its 0 refl refl in
    let none : q.ps ≡ [] = q.slot.front ∙ (λ i. ahead (q.same_left i) q.slot.yss) in
    let w = right-of h n q.ps q.qs 0 q.slot (omega arith) in
    let list : xs ≡ q.ys ++ w.s ∷ (q.ps ++ (w.l ++ w.rs)) = q.list ∙ (λ i. q.ps ++ (q.ys ++ w.list i)) ∙ around-first q.ps q.ys w.s (w.l ++ w.rs) none in
    record {
      pair = record {
        top = f.top;
        s = w.s;
        goes = q.child;
        stays = w.kid;
        ps = q.ps;
        qs = w.rs;
        l = q.ys;
        ls = q.ps ++ (w.l ++ w.rs);
        seam = w.seam;
        kind_is = f.is;
        fits = w.fits;
        part = q.part;
        body = body-of h kind (n - 1) (cut_links w.seam f.top w.kid) (q.ps ++ (w.l ++ w.rs)) (filled h kind (n - 1) f.top q.ps w.rs 0
            (without h n q.ps w.rs 0 w.seam) w.kid w.l f.is w.part);
        greatest = flat-top h kind n us xs nd;
        top_fits = top-latch h kind n us xs f.top nd (flat-top h kind n us xs nd);
        inside = items-around (q.ps ++ (w.l ++ w.rs)) q.ys xs w.s list;
      };
      links = q.links ∙ w.links f.top q.child;
      list = list;
    }

-- ---- the greatest bound
pub each-all : (P : Tree → Type 0) (xs : List Tree) → ((t : Tree) → Among t xs → P t) → Each P xs
each-all P [] f = tt
each-all P (x ∷ xs) f = (f x (inl refl), each-all P xs (λ t a. f t (inr a)))

pub top-same : (t : Tree) (xs ys : List Tree) → SameItems xs ys → IsTop t xs → IsTop t ys
top-same t xs ys e g = record {
  among = e.0 t g.among;
  most = each-all (BoundUpTo t) ys (λ y a. each-among (BoundUpTo t) y xs (e.1 y a) g.most);
}

-- the greatest bound of two lists
pub top-joined : (a b t : Tree) (xs ys : List Tree) → IsTop a xs → IsTop b ys → Raised b a t → IsTop t (xs ++ ys)
top-joined a b t xs ys ta tb r = ⊎_elim
    (λ (h : (t ≡ a) × BoundUpTo a b). subst (λ z. IsTop z (xs ++ ys)) (sym h.0) (record {
      among = among-front a xs ys ta.among;
      most = each-join (BoundUpTo a) xs ys ta.most (each-map ys (λ y g. bound-trans a b y h.1 g) tb.most);
    }))
    (λ (h : (t ≡ b) × BoundUpTo b a). subst (λ z. IsTop z (xs ++ ys)) (sym h.0) (record {
      among = among-back b xs ys tb.among;
      most = each-join (BoundUpTo b) xs ys (each-map xs (λ y g. bound-trans b a y h.1 g) ta.most) tb.most;
    })) r

pub top-one : (m : Tree) → IsTop m (m ∷ [])
top-one m = record { among = inl refl; most = (bound-self m, tt) }

pub raised-latch : (it old new : Tree) → Raised it old new → IsLatch it → IsLatch old → IsLatch new
raised-latch it old new r a b = ⊎_elim (λ (h : (new ≡ old) × BoundUpTo old it). subst IsLatch (sym h.0) b)
    (λ (h : (new ≡ it) × BoundUpTo it old). subst IsLatch (sym h.0) a) r

-- what the node is once the two are out
pub lightens : (h kind n j : ℕ) (us xs : List Tree) (q : Lends h kind n j us xs) → 2 ≤ n → (x : SeatView) (row item kid : ℕ) (R : List Tree)
    → OwnsNode x row kind (n - 1) (cut_links q.seam q.top q.stays) → Carried h x q.s q.goes q.l item kid R → length R + 4 < 2 ^ 32 → Sorted q.ls
    → (tail : List Tree) × Lightens h x row kind (n - 1) q.top tail q.ls q.l q.s q.goes item kid R
lightens h kind n j us xs q two x row item kid R owns carried few sorted = (
  ((q.seam.is ++ q.seam.js) ++ replicate (suc q.seam.free) nil) ++ ((q.seam.cs ++ q.stays ∷ q.seam.ds) ++ replicate (suc q.seam.free) nil),
  record {
    owns = owns;
    body = q.body;
    sorted = sorted;
    some_items = omega arith;
    top_fits = q.top_fits;
    most = each-all (BoundUpTo q.top) q.ls (λ y a. each-among (BoundUpTo q.top) y xs (q.inside.0 y (among-front y q.ls (q.s ∷ q.l) a)) q.greatest.most);
    origin = among-split q.top q.ls (q.s ∷ q.l) (q.inside.1 q.top q.greatest.among);
    carried = carried;
    few = few;
  },
)

-- ---- an item and a child come in at the end
pub record LastIn (h kind n : ℕ) (us xs l : List Tree) (m u : Tree) : Type 0 where
  pub top : Tree
  pub tail : List Tree
  pub x : Tree
  pub ps : List Tree
  pub qs : List Tree
  pub seam : Seam h (n + 1) ps qs n
  pub whole_links : us ≡ top ∷ tail
  pub greatest : IsTop top xs
  pub top_fits : IsLatch top
  pub links : (t : Tree) → t ∷ tail ≡ seam_links seam t nil x nil
  pub whole : Body h kind (n + 1) (seam_links seam top m x u) (xs ++ m ∷ l)

opened-last : (h n : ℕ) (top x : Tree) (ps qs : List Tree) (j : ℕ) (o : Slot h n ps qs j) (low : n < 31) → o.js ≡ [] → o.ds ≡ []
    → slot_links o top x ≡ seam_links (with-more h n ps qs j o low) top nil x nil
opened-last h n top x ps qs j o low a b =
    let e = spare n o.free (λ z. let f = o.full in omega arith) in
    (λ i. top ∷ (((o.is ++ a i) ++ e i) ++ ((o.cs ++ x ∷ b i) ++ e i)))
    ∙ (λ i. top ∷ (around o.is (replicate (o.free - 1) nil) i ++ around2 o.cs (replicate (o.free - 1) nil) i))
    ∙ (λ i. top ∷ (((o.is ++ nil ∷ (sym a) i) ++ replicate (o.free - 1) nil) ++ ((o.cs ++ x ∷ nil ∷ (sym b) i) ++ replicate (o.free - 1) nil)))
  where
    around : (is gs : List Tree) → (is ++ []) ++ nil ∷ gs ≡ (is ++ nil ∷ []) ++ gs
    around is gs = simp (append_assoc, append-nil)

    around2 : (cs gs : List Tree) → (cs ++ x ∷ []) ++ nil ∷ gs ≡ (cs ++ x ∷ nil ∷ []) ++ gs
    around2 cs gs = simp (append_assoc, append-nil)

around-in : (ps l0 qs : List Tree) (m : Tree) (l : List Tree) → qs ≡ [] → ps ++ (l0 ++ (m ∷ (l ++ qs))) ≡ (ps ++ (l0 ++ qs)) ++ m ∷ l
around-in ps l0 [] m l e = simp (append_assoc, append-nil)
around-in ps l0 (q ∷ qs) m l e = cc

pub last-in : (h kind n : ℕ) (us xs l : List Tree) (m u : Tree) → Node h kind n us xs → n ≤ 29 → IsLatch m → Part h u l → LastIn h kind n us xs l m u
last-in h kind n us xs l m u nd low fits part =
    let f = flat-of h kind n us xs nd in
    let q = cutout h kind n us xs f f.its [] n (sym (append-nil f.its)) f.count in
    let ends : q.qs ≡ [] = q.slot.back ∙ (λ i. behind (q.same_right i) q.slot.zss) in
    let none : q.slot.ds ≡ [] = no-kids q.slot.ds (let a = q.slot.right in let b = ap length q.same_right in omega arith) in
    let low31 : n < 31 = omega arith in
    let sm = with-more h n q.ps q.qs n q.slot low31 in
    let z = close-right h (n + 1) q.ps q.qs n sm m u l fits part in
    record {
      top = f.top;
      tail = ((sm.is ++ nil ∷ sm.js) ++ replicate sm.free nil) ++ ((sm.cs ++ q.child ∷ nil ∷ sm.ds) ++ replicate sm.free nil);
      x = q.child;
      ps = q.ps;
      qs = q.qs;
      seam = sm;
      whole_links = q.links ∙ opened-last h n f.top q.child q.ps q.qs n q.slot low31 q.same_right none;
      greatest = flat-top h kind n us xs nd;
      top_fits = top-latch h kind n us xs f.top nd (flat-top h kind n us xs nd);
      links = λ t. refl;
      whole = subst (λ (w : List Tree × List Tree). Body h kind (n + 1) w.0 w.1) (λ i. (
        sym (z.links f.top q.child) i,
        (around-in q.ps q.ys q.qs m l ends
            ∙ ap (λ a. a ++ m ∷ l) (sym q.list)) i,
      ))
          (body-of h kind (n + 1) (slot_links z.slot f.top q.child) (q.ps ++ (q.ys ++ (m ∷ (l ++ q.qs)))) (filled h kind (n + 1) f.top q.ps (m ∷
          (l ++ q.qs)) n z.slot q.child q.ys f.is q.part));
    }
  where
    no-kids : (ds : List Tree) → length ds ≡ 0 → ds ≡ []
    no-kids [] e = refl
    no-kids (d ∷ ds) e = absurd (omega arith)

-- ---- an item and a child come in at the front
pub record FirstIn (h kind n : ℕ) (us xs l : List Tree) (m u : Tree) : Type 0 where
  pub top : Tree
  pub tail : List Tree
  pub its : List Tree
  pub vs : List Tree
  pub front : List Tree
  pub bs : List Tree
  pub ws : List Tree
  pub whole_links : us ≡ top ∷ tail
  pub greatest : IsTop top xs
  pub top_fits : IsLatch top
  pub one : tail ≡ its ++ nil ∷ vs
  pub named_items : EachRow its
  pub few : length its ≡ n
  pub two : m ∷ (its ++ vs) ≡ front ++ (bs ++ nil ∷ ws)
  pub long : length front ≡ 31
  pub named_kids : EachRow bs
  pub few_kids : length bs ≤ 31
  pub whole : Body h kind (n + 1) (top ∷ (front ++ u ∷ (bs ++ ws))) (l ++ m ∷ xs)

-- the children as far as they have names, and the empty places behind
record Fronts (h free : ℕ) (ks : List Tree) (u : Tree) : Type 0 where
  bs : List Tree
  ws : List Tree
  is : ks ++ replicate free nil ≡ bs ++ nil ∷ ws
  names_all : EachRow bs
  few : length bs ≤ length ks
  with_one : u ∷ (bs ++ ws) ≡ (u ∷ ks) ++ replicate (free - 1) nil

fronts : (h free : ℕ) (ks : List Tree) (yss : List (List Tree)) (u : Tree) (l : List Tree) → Pairs (Part h) ks yss → Part h u l → free ≢ 0
    → Fronts h free ks u
fronts zero free ks yss u l p part some =
    let e : ks ++ replicate free nil ≡ replicate (length ks + free) nil = (λ i. nothing ks yss p i ++ replicate free nil) ∙ gaps-join (length ks) free in
    let n : length ks + free ≢ 0 = λ z. some (omega arith) in
    let less : length ks + (free - 1) ≡ length ks + free - 1 = omega arith in
    let tail : ks ++ replicate (free - 1) nil ≡ replicate (length ks + free - 1) nil = (λ i. nothing ks yss p i ++ replicate (free - 1) nil)
    ∙ gaps-join (length ks) (free - 1) ∙ ap (λ k. replicate k nil) less in
    record {
      bs = [];
      ws = replicate (length ks + free - 1) nil;
      is = e ∙ spare 0 (length ks + free) n;
      names_all = tt;
      few = omega arith;
      with_one = ap (λ l. u ∷ l) (sym tail);
    }
fronts (suc h) free ks yss u l p part some = record {
  bs = ks;
  ws = replicate (free - 1) nil;
  is = ap (λ l. ks ++ l) (spare 0 free some);
  names_all = named-kids (Node h) ks yss p;
  few = omega arith;
  with_one = refl;
}

pub first-in : (h kind n : ℕ) (us xs l : List Tree) (m u : Tree) → Node h kind n us xs → n ≤ 29 → IsLatch m → Part h u l → FirstIn h kind n us xs l m u
first-in h kind n us xs l m u nd low fits part =
    let f = flat-of h kind n us xs nd in
    let some : f.free ≢ 0 = (λ z. let a = f.full in omega arith) in
    let e = spare 0 f.free some in
    let k = fronts h f.free f.ks f.yss u l f.below part some in
    let vs : List Tree = replicate (f.free - 1) nil ++ (f.ks ++ replicate f.free nil) in
    let front : List Tree = (m ∷ f.its) ++ replicate (f.free - 1) nil in
    record {
      top = f.top;
      tail = (f.its ++ replicate f.free nil) ++ (f.ks ++ replicate f.free nil);
      its = f.its;
      vs = vs;
      front = front;
      bs = k.bs;
      ws = k.ws;
      whole_links = f.links;
      greatest = flat-top h kind n us xs nd;
      top_fits = top-latch h kind n us xs f.top nd (flat-top h kind n us xs nd);
      one = (λ i. (f.its ++ e i) ++ (f.ks ++ replicate f.free nil)) ∙ append_assoc f.its (nil ∷ replicate (f.free - 1) nil) (f.ks ++ replicate f.free nil);
      named_items = named-items f.its f.items;
      few = f.count;
      two = ap (λ l. m ∷ l) (sym (append_assoc f.its (replicate (f.free - 1) nil) (f.ks ++ replicate f.free nil))) ∙ ap (λ l. front ++ l) k.is;
      long = (let a = f.count in let b = f.full in simp (length-append, length-replicate) (omega arith));
      named_kids = k.names_all;
      few_kids = (let a = k.few in let b = f.many in omega arith);
      whole = body-of h kind (n + 1) (f.top ∷ (front ++ u ∷ (k.bs ++ k.ws))) (l ++ m ∷ xs) (record {
        top = f.top;
        its = m ∷ f.its;
        ks = u ∷ f.ks;
        yss = l ∷ f.yss;
        free = f.free - 1;
        is = f.is;
        links = ap (λ l. f.top ∷ (front ++ l)) k.with_one;
        count = (let a = f.count in omega arith);
        full = (let a = f.full in omega arith);
        many = (let a = f.many in omega arith);
        list = ap (λ a. l ++ m ∷ a) f.list;
        items = (fits, f.items);
        below = (part, f.below);
      });
    }
