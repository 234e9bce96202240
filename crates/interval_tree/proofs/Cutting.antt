-- A full node in two halves.
use Rattle.std.proofs.Common.{◌≡◌, ℕ, zero, suc, ◌≤◌, List, [], ◌∷◌, ◌++◌, length, replicate, length-append, append-nil, sym, refl, ap, ◌∙◌, subst, arith}
use Rattle.row_pool.specs.Trees.{Tree, nil}
use Rattle.latch_item.specs.Items.{IsLatch}
use Rattle.latch_item.specs.Shape.{Each, IsTop, Kid, Node, Pairs, Spread, weave}
use Rattle.interval_tree.proofs.Holes.{pairs-length}
use Rattle.interval_tree.proofs.Lists.{each-back, each-front}
use Rattle.interval_tree.proofs.Weaves.{weave-cut}
use Rattle.interval_tree.specs.Nodes.{Body, LevelKid, Many, kind_at}

module _ {A : Type 0} where
  pub cut-list : (xs : List A) (j : ℕ) → j ≤ length xs → (us vs : List A) × (xs ≡ us ++ vs) × (length us ≡ j)
  cut-list xs zero h = ([], xs, refl, refl)
  cut-list [] (suc j) h = absurd (omega arith)
  cut-list (x ∷ xs) (suc j) h = let o = cut-list xs j (omega arith) in (x ∷ o.0, o.1, ap (λ l. x ∷ l) o.2, ap suc o.3)

module _ (R : Tree → List Tree → Type 0) where
  pub record Halved (cs : List Tree) (yss : List (List Tree)) (j : ℕ) : Type 0 where
    pub fs : List Tree
    pub bs : List Tree
    pub fss : List (List Tree)
    pub bss : List (List Tree)
    pub kids_is : cs ≡ fs ++ bs
    pub lists_is : yss ≡ fss ++ bss
    pub place : length fs ≡ j
    pub left : Pairs R fs fss
    pub right : Pairs R bs bss

  pub halve : (cs : List Tree) (yss : List (List Tree)) (j : ℕ) → Pairs R cs yss → j ≤ length cs → Halved cs yss j
  halve cs yss zero p h = record { fs = []; bs = cs; fss = []; bss = yss; kids_is = refl; lists_is = refl; place = refl; left = tt; right = p }
  halve [] yss (suc j) p h = absurd (omega arith)
  halve (c ∷ cs) [] (suc j) p h = absurd p
  halve (c ∷ cs) (y ∷ yss) (suc j) p h = let o = halve cs yss j p.1 (omega arith) in
      record {
        fs = c ∷ o.fs;
        bs = o.bs;
        fss = y ∷ o.fss;
        bss = o.bss;
        kids_is = ap (λ l. c ∷ l) o.kids_is;
        lists_is = ap (λ l. y ∷ l) o.lists_is;
        place = ap suc o.place;
        left = (p.0, o.left);
        right = o.right;
      }

pub node-of : (h kind n : ℕ) (top : Tree) (us xs : List Tree) (t : Tree) → Body h kind n (top ∷ us) xs → IsTop t xs → Node h kind n (t ∷ us) xs
node-of h kind n top us xs t b g = go h b.top b.its b.cs b.yss b.is b.spread b.list b.items b.many b.below
  where
    tail : (s : Tree) (l : List Tree) → top ∷ us ≡ s ∷ l → us ≡ l
    tail s l e = cc

    respread : (s : Tree) (its cs : List Tree) → Spread n (top ∷ us) s its cs → Spread n (t ∷ us) t its cs
    respread s its cs r = record {
      free = r.free;
      room = r.room;
      links = ap (λ l. t ∷ l) (tail s ((its ++ replicate r.free nil) ++ (cs ++ replicate r.room nil)) r.links);
      count = r.count;
      items = r.items;
      children = r.children;
    }

    go : (h : ℕ) (s : Tree) (its cs : List Tree) (yss : List (List Tree)) → kind ≡ kind_at h → Spread n (top ∷ us) s its cs → xs ≡ weave its yss
        → Each IsLatch its → Many h (length cs) n → Pairs (LevelKid h) cs yss → Node h kind n (t ∷ us) xs
    go zero s its [] [] k r l i m p = record {
      top = t;
      is = k;
      spread = subst (λ z. Spread n (t ∷ us) t z []) (sym l) (respread s its [] r);
      items = subst (Each IsLatch) (sym l) i;
      greatest = g;
    }
    go zero s its [] (y ∷ yss) k r l i m p = absurd p
    go zero s its (c ∷ cs) yss k r l i m p = absurd (omega arith)
    go (suc h) s its cs yss k r l i m p = record {
      top = t;
      its = its;
      cs = cs;
      yss = yss;
      is = k;
      spread = respread s its cs r;
      list = l;
      items = i;
      greatest = g;
      one_more = m;
      below = p;
    }

-- the first link may lead anywhere
pub body-with : (h kind n : ℕ) (u t : Tree) (us xs : List Tree) → Body h kind n (u ∷ us) xs → Body h kind n (t ∷ us) xs
body-with h kind n u t us xs b = record {
  top = t;
  its = b.its;
  cs = b.cs;
  yss = b.yss;
  is = b.is;
  spread = record {
    free = b.spread.free;
    room = b.spread.room;
    links = ap (λ l. t ∷ l) (tail b.top ((b.its ++ replicate b.spread.free nil) ++ (b.cs ++ replicate b.spread.room nil)) b.spread.links);
    count = b.spread.count;
    items = b.spread.items;
    children = b.spread.children;
  };
  list = b.list;
  items = b.items;
  many = b.many;
  below = b.below;
}
  where
    tail : (s : Tree) (l : List Tree) → u ∷ us ≡ s ∷ l → us ≡ l
    tail s l e = cc

-- the parts of a full node
pub record Parts (h kind : ℕ) (us xs : List Tree) : Type 0 where
  pub top : Tree
  pub is : List Tree
  pub m : Tree
  pub js : List Tree
  pub cs : List Tree
  pub ds : List Tree
  pub ls : List Tree
  pub rs : List Tree
  pub links : us ≡ top ∷ ((is ++ m ∷ js) ++ (cs ++ ds))
  pub left_items : length is ≡ 15
  pub right_items : length js ≡ 15
  pub left_kids : length cs ≡ 16
  pub right_kids : length ds ≡ 16
  pub list : xs ≡ ls ++ m ∷ rs
  pub latch : IsLatch m
  pub left : (u : Tree) → Body h kind 15 (u ∷ ((is ++ replicate 16 nil) ++ (cs ++ replicate 16 nil))) ls
  pub right : (u : Tree) → Body h kind 15 (u ∷ ((js ++ replicate 16 nil) ++ (ds ++ replicate 16 nil))) rs

middle : (its : List Tree) → length its ≡ 31 → (is : List Tree) × (m : Tree) × (js : List Tree) × (its ≡ is ++ m ∷ js) × (length is ≡ 15) × (length js ≡ 15)
middle its len = go (cut-list its 15 (omega arith))
  where
    go : (us vs : List Tree) × (its ≡ us ++ vs) × (length us ≡ 15) → (is : List Tree) × (m : Tree) × (js : List Tree) × (its ≡ is ++ m ∷ js) × (length is ≡ 15)
        × (length js ≡ 15)
    go (us, [], e, l) = (let a = ap length e in let b = length-append us [] in absurd (omega arith))
    go (us, v ∷ vs, e, l) = (us, v, vs, e, l, let a = ap length e in let b = length-append us (v ∷ vs) in omega arith)

no-more : (n : ℕ) (l : List Tree) → n ≡ 0 → l ++ replicate n nil ≡ l
no-more n l e = ap (λ k. l ++ replicate k nil) e ∙ append-nil l

pub node-body : (h kind n : ℕ) (us xs : List Tree) → Node h kind n us xs → Body h kind n us xs
node-body zero kind n us xs o = record {
  top = o.top;
  its = xs;
  cs = [];
  yss = [];
  is = o.is;
  spread = o.spread;
  list = refl;
  items = o.items;
  many = refl;
  below = tt;
}
node-body (suc h) kind n us xs o = record {
  top = o.top;
  its = o.its;
  cs = o.cs;
  yss = o.yss;
  is = o.is;
  spread = o.spread;
  list = o.list;
  items = o.items;
  many = o.one_more;
  below = o.below;
}

pub parts-leaf : (kind : ℕ) (us xs : List Tree) (top : Tree) → kind ≡ 2 → Spread 31 us top xs [] → Each IsLatch xs → Parts zero kind us xs
parts-leaf kind us xs top is_leaf spread latches =
    let (is, m, js, split, a, b) = middle xs spread.count in
    let items = subst (Each IsLatch) split latches in
    let back = each-back IsLatch is (m ∷ js) items in
    let full : spread.free ≡ 0 = (let z = spread.items in omega arith) in
    let room : spread.room ≡ 32 = (let z = spread.children in omega arith) in
    record {
      top = top;
      is = is;
      m = m;
      js = js;
      cs = replicate 16 nil;
      ds = replicate 16 nil;
      ls = is;
      rs = js;
      links = spread.links ∙ ap (λ l. top ∷ l) ((λ i. no-more spread.free xs full i ++ replicate (room i) nil) ∙ ap (λ l. l ++ replicate 32 nil) split);
      left_items = a;
      right_items = b;
      left_kids = refl;
      right_kids = refl;
      list = split;
      latch = back.0;
      left = λ u. half u is a (each-front IsLatch is (m ∷ js) items);
      right = λ u. half u js b back.1;
    }
  where
    half : (u : Tree) (its : List Tree) → length its ≡ 15 → Each IsLatch its
        → Body zero kind 15 (u ∷ ((its ++ replicate 16 nil) ++ (replicate 16 nil ++ replicate 16 nil))) its
    half u its long each = record {
      top = u;
      its = its;
      cs = [];
      yss = [];
      is = is_leaf;
      spread = record { free = 16; room = 32; links = refl; count = long; items = refl; children = refl };
      list = refl;
      items = each;
      many = refl;
      below = tt;
    }

pub leaf-none : (kind : ℕ) (us xs : List Tree) (top : Tree) (is_leaf : kind ≡ 2) (spread : Spread 31 us top xs []) (items : Each IsLatch xs)
    → (parts-leaf kind us xs top is_leaf spread items).ds ≡ replicate 16 nil
unfolding parts-leaf
leaf-none kind us xs top is_leaf spread items = refl

pub parts-of : (h kind : ℕ) (us xs : List Tree) → Body h kind 31 us xs → Parts h kind us xs
parts-of zero kind us xs o = go o.its o.cs o.yss o.spread o.list o.items o.many o.below
  where
    go : (its cs : List Tree) (yss : List (List Tree)) → Spread 31 us o.top its cs → xs ≡ weave its yss → Each IsLatch its → length cs ≡ 0
        → Pairs (LevelKid zero) cs yss → Parts zero kind us xs
    go its [] [] s l i m p = subst (Parts zero kind us) (sym l) (parts-leaf kind us its o.top o.is s i)
    go its [] (y ∷ yss) s l i m p = absurd p
    go its (x ∷ cs) yss s l i m p = absurd (omega arith)
parts-of (suc h) kind us xs o =
    let (is, m, js, split, a, b) = middle o.its o.spread.count in
    let items = subst (Each IsLatch) split o.items in
    let back = each-back IsLatch is (m ∷ js) items in
    let full : o.spread.free ≡ 0 = (let z = o.spread.items in omega arith) in
    let room : o.spread.room ≡ 0 = (let z = o.spread.children in let y = o.many in omega arith) in
    let q = halve (Kid (Node h)) o.cs o.yss 16 o.below (let y = o.many in omega arith) in
    let l1 = pairs-length (Kid (Node h)) q.fs q.fss q.left in
    let long : length q.bs ≡ 16 = (let y = o.many in let z = ap length q.kids_is in let w = length-append q.fs q.bs in let p = q.place in omega arith) in
    record {
      top = o.top;
      is = is;
      m = m;
      js = js;
      cs = q.fs;
      ds = q.bs;
      ls = weave is q.fss;
      rs = weave js q.bss;
      links = o.spread.links ∙ ap (λ l. o.top ∷ l) ((λ i. no-more o.spread.free o.its full i ++ no-more o.spread.room o.cs room i)
          ∙ (λ i. split i ++ q.kids_is i));
      left_items = a;
      right_items = b;
      left_kids = q.place;
      right_kids = long;
      list = o.list ∙ (λ i. weave (split i) (q.lists_is i)) ∙ weave-cut is m js q.fss q.bss (let p = q.place in omega arith);
      latch = back.0;
      left = λ u. half u is q.fs q.fss a q.place (each-front IsLatch is (m ∷ js) items) q.left;
      right = λ u. half u js q.bs q.bss b long back.1 q.right;
    }
  where
    half : (u : Tree) (its cs : List Tree) (yss : List (List Tree)) → length its ≡ 15 → length cs ≡ 16 → Each IsLatch its → Pairs (Kid (Node h)) cs yss
        → Body (suc h) kind 15 (u ∷ ((its ++ replicate 16 nil) ++ (cs ++ replicate 16 nil))) (weave its yss)
    half u its cs yss long sixteen each pairs = record {
      top = u;
      its = its;
      cs = cs;
      yss = yss;
      is = o.is;
      spread = record { free = 16; room = 16; links = refl; count = long; items = refl; children = (let p = sixteen in omega arith) };
      list = refl;
      items = each;
      many = sixteen;
      below = pairs;
    }
