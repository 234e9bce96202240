-- The way down to the item that is to go.
use Rattle.std.proofs.Common.{List, [], ap, append_assoc, arith, length, refl, replicate, subst, suc, sym, ℕ, ◌++◌, ◌+◌, ◌-◌, ◌<◌, ◌^◌, ◌∙◌, ◌∷◌, ◌≡◌, ◌≢◌, ◌≤◌}
use Rattle.std.specs.Prelude.{None, Option, Some}
use Rattle.row_pool.specs.Changes.{with_old_target}
use Rattle.row_pool.specs.SeatView.{SeatView}
use Rattle.row_pool.specs.Trees.{Tree, children, nil, tree_word}
use Rattle.latch_item.specs.Items.{IsLatch, word}
use Rattle.latch_item.specs.Shape.{Among, Each, IsTop, Kid, Node, Sorted}
use Rattle.interval_tree.proofs.Depths.{each-among, node-items}
use Rattle.interval_tree.proofs.Frames.{owns-others}
use Rattle.interval_tree.proofs.Greatest.{node-top}
use Rattle.interval_tree.proofs.Lists.{sorted-back, sorted-front}
use Rattle.interval_tree.proofs.Rows.{back-cons}
use Rattle.interval_tree.specs.Held.{OthersStand, OwnsNode}
use Rattle.interval_tree.specs.Nodes.{ahead, behind}
use Rattle.tree_shrink.proofs.Finding.{aims, among-end, last-gone, last-part, removed-within, some-last, target-wider}
use Rattle.tree_shrink.proofs.Seams.{Cutout, close-right, cutout, item_back, item_front, right-of, seam-item, slot-links, slot-place, slot_back, slot_front}
use Rattle.tree_shrink.proofs.Seams.{weave-nothing}
use Rattle.tree_shrink.specs.Slots.{Flat, Slot, slot_links}
use Rattle.tree_shrink.specs.Stages.{Aim, Aimed, Entered, Finishing, Heads, Last, Open, Removed, Replacing, Roomy, Shrunk, Target, Way}

pub leaf-items : (kind n : ℕ) (us xs : List Tree) (f : Flat 0 kind n us xs) → f.its ≡ xs
leaf-items kind n us xs f = sym (f.list ∙ weave-nothing f.its f.ks f.yss f.below (let a = f.many in let b = f.count in omega arith))

-- the links as `place` takes them
pub flat-lead : (h kind n : ℕ) (us xs : List Tree) (f : Flat h kind n us xs)
    → us ≡ f.top ∷ (f.its ++ (replicate f.free nil ++ (f.ks ++ replicate f.free nil)))
flat-lead h kind n us xs f = f.links ∙ ap (λ l. f.top ∷ l) (append_assoc f.its (replicate f.free nil) (f.ks ++ replicate f.free nil))

-- what is to go, seen from an opened node
pub target-of : (h n j : ℕ) (goal : Option ℕ) (it t : Tree) (xs ps ys qs is js : List Tree) (o : Slot h n ps qs j) → Sorted xs → Aim goal it xs
    → xs ≡ ps ++ (ys ++ qs) → o.is ≡ is → o.js ≡ js → Among t ys → Way goal it is js → Target goal it ys qs
target-of h n j None it t xs ps ys qs is js o sorted last list left right some_item w =
    let ends : qs ≡ [] = o.back ∙ (λ i. behind ((right ∙ w) i) o.zss) in (last-part it t xs ps ys qs last list ends some_item, ends)
target-of h n j (Some r) it t xs ps ys qs is js o sorted (here, among) list left right some_item w = (
  here,
  aims it xs ps ys qs is js o.yss o.zss sorted among list (o.front ∙ (λ i. ahead (left i) o.yss)) (o.back ∙ (λ i. behind (right i) o.zss)) w.0 w.1,
)

-- ---- the item behind the child
pub heads-low : (h n j : ℕ) (it : Tree) (ps qs : List Tree) (o : Slot h n ps qs j) → Heads it qs → j < n
heads-low h n j it ps qs o a = go o.js o.back refl
  where
    go : (js : List Tree) → qs ≡ behind js o.zss → o.js ≡ js → j < n
    go [] e k = absurd (let l = ap length (sym e ∙ a.1) in omega arith)
    go (s ∷ js) e k = let l = ap length k in let b = o.count in omega arith

pub end-empty : (h n j : ℕ) (ps qs : List Tree) (o : Slot h n ps qs j) → j ≡ n → qs ≡ []
end-empty h n j ps qs o e = go o.js o.back refl
  where
    go : (js : List Tree) → qs ≡ behind js o.zss → o.js ≡ js → qs ≡ []
    go [] b k = b
    go (s ∷ js) b k = absurd (let l = ap length k in let d = o.count in omega arith)

pub no-heads : (it : Tree) (qs : List Tree) → qs ≡ [] → Heads it qs → ⊥
no-heads it qs e a = let l = ap length (sym e ∙ a.1) in absurd (omega arith)

pub next-differs : (it s : Tree) (qs ms : List Tree) → qs ≡ s ∷ ms → (s ≡ it → ⊥) → Heads it qs → ⊥
next-differs it s qs ms first ne a = let all : s ∷ ms ≡ it ∷ a.0 = sym first ∙ a.1 in let same : s ≡ it = cc in ne same

-- ---- parts of a sorted list
pub sorted-part : (xs ps ys qs : List Tree) → xs ≡ ps ++ (ys ++ qs) → Sorted xs → Sorted ys
sorted-part xs ps ys qs list s = sorted-front ys qs (sorted-back ps (ys ++ qs) (subst Sorted list s))

-- the last item of the child's list took the place of the one behind the child
pub swapped-gone : (it m : Tree) (xs ps ys zs qs ms : List Tree) → xs ≡ ps ++ (ys ++ qs) → qs ≡ it ∷ ms → ys ≡ zs ++ m ∷ []
    → Removed it xs (ps ++ (zs ++ (m ∷ ms)))
swapped-gone it m xs ps ys zs qs ms list first last = record {
  front = ps ++ ys;
  back = ms;
  old = list ∙ (λ i. ps ++ (ys ++ first i)) ∙ sym (append_assoc ps ys (it ∷ ms));
  new = ap (λ l. ps ++ l) (sym (append_assoc zs (m ∷ []) ms) ∙ ap (λ l. l ++ ms) (sym last)) ∙ sym (append_assoc ps ys ms);
}

pub within-gone : (it : Tree) (xs ps ys zs qs : List Tree) → xs ≡ ps ++ (ys ++ qs) → Removed it ys zs → Removed it xs (ps ++ (zs ++ qs))
within-gone it xs ps ys zs qs list r = subst (λ l. Removed it l (ps ++ (zs ++ qs))) (sym list) (removed-within it ps ys zs qs r)

pub some-item : (h kind n : ℕ) (us xs : List Tree) → Node h kind n us xs → (t : Tree) × Among t xs
some-item h kind n us xs o = let f = node-top h kind n us xs o in (f.top, f.greatest.among)

-- ---- the child is worked on
pub aim-child : (h : ℕ) (goal : Option ℕ) (k : SeatView) (row n goes j : ℕ) (xs ps ys qs rest : List Tree) (o : Open h k row n goes j xs ps ys qs rest)
    (it : Tree) → 16 ≤ o.count → Sorted xs → Aim goal it ys → Aimed h k goes goal o.sort o.count o.below ys it rest
aim-child h goal k row n goes j xs ps ys qs rest o it room sorted aim = record {
  owns = o.owns_child;
  node = o.node;
  some_items = (omega arith);
  leaf = (λ z. omega arith);
  sorted = sorted-part xs ps ys qs o.list sorted;
  aim = aim;
  refs = o.refs;
  few = o.few;
}

-- the last item of an opened child
pub record Ending (h : ℕ) (k : SeatView) (row n goes j : ℕ) (xs ps ys qs rest : List Tree) (o : Open h k row n goes j xs ps ys qs rest) : Type 0 where
  pub m : Tree
  pub last : Last m ys
  pub fits : IsLatch m

pub ending : (h : ℕ) (k : SeatView) (row n goes j : ℕ) (xs ps ys qs rest : List Tree) (o : Open h k row n goes j xs ps ys qs rest)
    → Ending h k row n goes j xs ps ys qs rest o
ending h k row n goes j xs ps ys qs rest o =
    let (t, among) = some-item h o.sort o.count o.below ys o.node in
    let (m, last) = some-last t ys among in
    record { m = m; last = last; fits = each-among IsLatch m ys (among-end m ys last) (node-items h o.sort o.count o.below ys o.node) }

pub head-same : (s t : Tree) (ls ms : List Tree) → s ∷ ls ≡ t ∷ ms → s ≡ t
head-same s t ls ms e = cc

-- ---- after the recursion
pub finishing : (h : ℕ) (k w : SeatView) (row n goes j : ℕ) (xs ps ys qs rest : List Tree) (o : Open h k row n goes j xs ps ys qs rest) (it : Tree) (item : ℕ)
    → Each IsLatch xs → 16 ≤ o.count → OwnsNode w row 3 n (slot_links o.slot o.top nil) → (s : Shrunk h w goes o.sort o.count ys it item rest)
    → Finishing h w row n goes j xs ps s.ys qs it item
finishing h k w row n goes j xs ps ys qs rest o it item items room owns s = record {
  top = o.top;
  slot = o.slot;
  owns = owns;
  greatest = o.greatest;
  fits = each-among IsLatch o.top xs o.greatest.among items;
  apart = o.apart;
  sort = o.sort;
  count = s.many;
  below = s.stood.us;
  owns_child = s.stood.owns;
  node = s.stood.whole (let b = s.least in omega arith);
  least = (let b = s.least in omega arith);
  gone = within-gone it xs ps ys s.ys qs o.list s.gone;
  sorted = o.sorted;
  item_is = s.item_is;
}

pub replacing : (h : ℕ) (k w : SeatView) (row n goes j : ℕ) (xs ps ys qs rest : List Tree) (o : Open h k row n goes j xs ps ys qs rest)
    (e : Ending h k row n goes j xs ps ys qs rest o) (it : Tree) (last : ℕ) → Each IsLatch xs → Heads it qs → 16 ≤ o.count → Sorted xs
    → OwnsNode w row 3 n (slot_links o.slot o.top nil) → (s : Shrunk h w goes o.sort o.count ys e.m last rest)
    → Replacing h w row n goes j xs ps s.ys qs it e.m last rest
replacing h k w row n goes j xs ps ys qs rest o e it last items heads room sorted owns s =
    let whole : ys ≡ s.ys ++ e.m ∷ [] = last-gone e.m ys s.ys (sorted-part xs ps ys qs o.list sorted) e.last s.gone in
    record {
      top = o.top;
      slot = o.slot;
      owns = owns;
      greatest = o.greatest;
      fits = each-among IsLatch o.top xs o.greatest.among items;
      apart = o.apart;
      sort = o.sort;
      count = s.many;
      below = s.stood.us;
      owns_child = s.stood.owns;
      node = s.stood.whole (let b = s.least in omega arith);
      least = (let b = s.least in omega arith);
      list = o.list ∙ (λ i. ps ++ (whole i ++ qs));
      sorted = sorted;
      heads = heads;
      item = e.fits;
      last_is = s.item_is;
      refs = s.refs;
      few = o.few;
    }

-- the item behind the child, as a link
pub record Behind (h : ℕ) (w : SeatView) (row n child j : ℕ) (xs ps zs qs : List Tree) (it m : Tree) (last : ℕ) (rest : List Tree)
    (p : Replacing h w row n child j xs ps zs qs it m last rest) : Type 0 where
  pub front : List Tree
  pub back : List Tree
  pub ms : List Tree
  pub owns : OwnsNode w row 3 n (front ++ it ∷ back)
  pub place : length front ≡ 1 + j
  pub fits : IsLatch it
  pub refs : w.refs ≡ with_old_target m rest
  pub slot : Slot (suc h) n ps (m ∷ ms) j
  pub links : front ++ m ∷ back ≡ slot_links slot p.top nil
  pub gone : Removed it xs (ps ++ (zs ++ (m ∷ ms)))

pub behind-child : (h : ℕ) (w : SeatView) (row n child j : ℕ) (xs ps zs qs : List Tree) (it m : Tree) (last : ℕ) (rest : List Tree)
    (p : Replacing h w row n child j xs ps zs qs it m last rest) → Behind h w row n child j xs ps zs qs it m last rest p
behind-child h w row n child j xs ps zs qs it m last rest p =
    let r = right-of (suc h) n ps qs j p.slot (heads-low (suc h) n j it ps qs p.slot p.heads) in
    let same : r.s ≡ it = head-same r.s it (r.l ++ r.rs) p.heads.0 (sym r.list ∙ p.heads.1) in
    let cl = close-right (suc h) n ps r.rs j r.seam m r.kid r.l p.item r.part in
    record {
      front = item_front r.seam p.top;
      back = item_back r.seam nil r.kid;
      ms = r.l ++ r.rs;
      owns = subst (OwnsNode w row 3 n) (r.links p.top nil ∙ seam-item (suc h) n p.top r.s nil r.kid ps r.rs j r.seam
          ∙ ap (λ z. item_front r.seam p.top ++ z ∷ item_back r.seam nil r.kid) same) p.owns;
      place = (let b = r.seam.place in omega arith);
      fits = subst IsLatch same r.fits;
      refs = p.refs ∙ back-cons m rest p.item.row p.item.here;
      slot = cl.slot;
      links = sym (seam-item (suc h) n p.top m nil r.kid ps r.rs j r.seam) ∙ cl.links p.top nil;
      gone = swapped-gone it m xs ps (zs ++ m ∷ []) zs qs (r.l ++ r.rs) p.list (r.list ∙ ap (λ z. z ∷ (r.l ++ r.rs)) same) refl;
    }

pub replaced-finishing : (h : ℕ) (w y : SeatView) (row n child j : ℕ) (xs ps zs qs : List Tree) (it m : Tree) (last item : ℕ) (rest : List Tree)
    (p : Replacing h w row n child j xs ps zs qs it m last rest) (b : Behind h w row n child j xs ps zs qs it m last rest p)
    → OwnsNode y row 3 n (b.front ++ m ∷ b.back) → OthersStand row w y → item ≡ tree_word it
    → Finishing h y row n child j xs ps zs (m ∷ b.ms) it item
replaced-finishing h w y row n child j xs ps zs qs it m last item rest p b owns others is = record {
  top = p.top;
  slot = b.slot;
  owns = subst (OwnsNode y row 3 n) b.links owns;
  greatest = p.greatest;
  fits = p.fits;
  apart = p.apart;
  sort = p.sort;
  count = p.count;
  below = p.below;
  owns_child = owns-others row w y child p.sort p.count p.below others p.apart p.owns_child;
  node = p.node;
  least = p.least;
  gone = b.gone;
  sorted = p.sorted;
  item_is = sym is;
}

-- ---- the child that the way leads to
pub record Opens (h kind n : ℕ) (us xs is js : List Tree) (i : ℕ) (f : Flat (suc h) kind n us xs) : Type 0 where
  pub cut : Cutout (suc h) kind n us xs is js i f.top
  pub links : us ≡ slot_front cut.slot f.top ++ cut.child ∷ slot_back cut.slot
  pub place : length (slot_front cut.slot f.top) ≡ 32 + i
  pub kid : Kid (Node h) cut.child cut.ys
  pub low : i ≤ n
  pub most : n ≤ 31

pub opens : (h kind n : ℕ) (us xs : List Tree) (f : Flat (suc h) kind n us xs) (is js : List Tree) (i : ℕ) → f.its ≡ is ++ js → length is ≡ i
    → Opens h kind n us xs is js i f
opens h kind n us xs f is js i split at =
    let q = cutout (suc h) kind n us xs f is js i split at in
    record {
      cut = q;
      links = q.links ∙ slot-links (suc h) n f.top q.child q.ps q.qs i q.slot;
      place = slot-place (suc h) n f.top q.ps q.qs i q.slot;
      kid = q.part;
      low = (let a = q.slot.count in omega arith);
      most = (let a = q.slot.full in omega arith);
    }

pub opened : (h : ℕ) (w : SeatView) (row kind n child i : ℕ) (us xs R is js : List Tree) (f : Flat (suc h) kind n us xs) (q : Opens h kind n us xs is js i f)
    → Node (suc h) kind n us xs → IsTop f.top xs
    → OwnsNode w row kind n (slot_front q.cut.slot f.top ++ nil ∷ slot_back q.cut.slot)
    → OwnsNode w child (word q.cut.child 1) (word q.cut.child 2) (children q.cut.child) → child ≢ row → w.refs ≡ R → length R < 2 ^ 31 + 3
    → Sorted xs → Open h w row n child i xs q.cut.ps q.cut.ys q.cut.qs R
opened h w row kind n child i us xs R is js f q nd top owns owns_child apart refs few sorted = record {
  top = f.top;
  slot = q.cut.slot;
  owns = subst (λ (z : ℕ × List Tree). OwnsNode w row z.0 n z.1) (λ k. (f.is k, sym (slot-links (suc h) n f.top nil q.cut.ps q.cut.qs i q.cut.slot) k)) owns;
  greatest = top;
  list = q.cut.list;
  sorted = sorted;
  apart = apart;
  sort = word q.cut.child 1;
  count = word q.cut.child 2;
  below = children q.cut.child;
  owns_child = owns_child;
  node = q.kid.node;
  least = q.kid.least;
  refs = refs;
  few = few;
}

-- what is to go, in the roomy child
pub entered : (h : ℕ) (w : SeatView) (row n least goes j i : ℕ) (xs ps ys qs R is js : List Tree) (it : Tree) (goal : Option ℕ) (o : Slot (suc h) n ps qs i)
    → o.is ≡ is → o.js ≡ js → (t : Tree) → Among t ys → Sorted xs → Aim goal it xs → xs ≡ ps ++ (ys ++ qs) → Way goal it is js → least ≤ n
    → Roomy h w row (n - 1) goes j xs ps ys qs R → Entered h w row least goes j xs it goal R
entered h w row n least goes j i xs ps ys qs R is js it goal o left right t among sorted aim list way le r = record {
  n = r.n;
  ps = r.ps2;
  ys = r.ys2;
  qs = r.qs2;
  state = r.state;
  room = r.room;
  target = target-wider goal it ys qs r.ys2 r.qs2 r.front r.back r.wider r.behind
      (target-of (suc h) n i goal it t xs ps ys qs is js o sorted aim list left right among way);
  many = (let a = r.many in omega arith);
}
