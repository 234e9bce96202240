-- The items of a live tree, one after the other.
use Rattle.std.proofs.Common.{◌≡◌, ◌≢◌, ℕ, suc, ◌+◌, ◌≤◌, List, [], ◌∷◌, ◌++◌, zero, map, length, replicate, length-append, append_assoc, append-nil, sym, refl}
use Rattle.std.proofs.Common.{ap, ◌∙◌, arith}
use Rattle.std.proofs.lemmas.List.{length-replicate}
use mathlib.Core.Option.{some}
use lib.ListN.{get_elem?}
use Rattle.row_pool.specs.Trees.{Tree, children, nil, tree_word}
use Rattle.latch_item.specs.Items.{IsLatch, word}
use Rattle.latch_item.specs.Shape.{Each, Pairs, Stands, weave}
use Rattle.interval_tree.proofs.Fresh.{node-kind, replicate-add}
use Rattle.interval_tree.proofs.Rows.{at-part}
use Rattle.interval_tree.specs.Listings.{Part, Rest, row_number, rows_of}

no-lists : (n : ℕ) (cs : List Tree) → cs ≡ replicate n nil → Pairs (Part 0) cs (replicate n [])
no-lists zero [] e = tt
no-lists zero (c ∷ cs) e = cc
no-lists (suc n) [] e = cc
no-lists (suc n) (c ∷ cs) e = ((cc, refl), no-lists n cs cc)

weave-none : (xs : List Tree) → weave xs (replicate (suc (length xs)) []) ≡ xs
weave-none [] = refl
weave-none (x ∷ xs) = ap (λ l. x ∷ l) (weave-none xs)

pub rest-start : (h : ℕ) (t : Tree) (xs : List Tree) → Stands h t xs → Rest h t 0 xs
rest-start zero t xs o =
    let k = node-kind 0 (word t 1) (word t 2) (children t) xs o in
    let r : o.spread.room ≡ suc (length xs) + o.spread.free = (let a = o.spread.count in let b = o.spread.items in let d = o.spread.children in omega arith) in
    record {
      n = word t 2;
      top = o.top;
      is = [];
      js = xs;
      cs = [];
      ds = replicate (suc (length xs)) nil;
      yss = replicate (suc (length xs)) [];
      free = o.spread.free;
      low = k.0;
      high = k.1;
      number = refl;
      links = o.spread.links ∙ ap (λ l. o.top ∷ ((xs ++ replicate o.spread.free nil) ++ l)) (ap (λ m. replicate m nil) r
          ∙ replicate-add (suc (length xs)) o.spread.free);
      place = refl;
      count = (let a = o.spread.count in omega arith);
      full = o.spread.items;
      left = refl;
      right = length-replicate (suc (length xs)) nil;
      items = o.items;
      below = no-lists (suc (length xs)) (replicate (suc (length xs)) nil) refl;
      list = sym (weave-none xs);
    }
rest-start (suc h) t xs o =
    let k = node-kind (suc h) (word t 1) (word t 2) (children t) xs o in
    let r : o.spread.room ≡ o.spread.free = (let a = o.one_more in let b = o.spread.items in let d = o.spread.children in omega arith) in
    record {
      n = word t 2;
      top = o.top;
      is = [];
      js = o.its;
      cs = [];
      ds = o.cs;
      yss = o.yss;
      free = o.spread.free;
      low = k.0;
      high = k.1;
      number = refl;
      links = o.spread.links ∙ ap (λ m. o.top ∷ ((o.its ++ replicate o.spread.free nil) ++ (o.cs ++ replicate m nil))) r;
      place = refl;
      count = (let a = o.spread.count in omega arith);
      full = o.spread.items;
      left = refl;
      right = (let a = o.spread.count in let b = o.one_more in omega arith);
      items = o.items;
      below = o.below;
      list = o.list;
    }

pub at-place : (xs ys zs : List Tree) (x : Tree) (k : ℕ) → xs ≡ ys ++ x ∷ zs → length ys ≡ k → get_elem? xs k ≡ some x
at-place xs ys zs x k e l = ap (λ z. get_elem? z k) e ∙ ap (get_elem? (ys ++ x ∷ zs)) (sym l) ∙ at-part ys x zs

-- the item behind the child
pub record Next (h : ℕ) (t : Tree) (i : ℕ) (ms : List Tree) : Type 0 where
  pub item : Tree
  pub later : List Tree
  pub split : ms ≡ item ∷ later
  pub latch : IsLatch item
  pub at : get_elem? (children t) (1 + i) ≡ some item
  pub rest : Rest h t (i + 1) later

-- the child at the place, and what is behind it
pub record Turn (h : ℕ) (t : Tree) (i : ℕ) (zs : List Tree) : Type 0 where
  pub child : Tree
  pub ys : List Tree
  pub ms : List Tree
  pub list : zs ≡ ys ++ ms
  pub part : Part h child ys
  pub at : get_elem? (children t) (32 + i) ≡ some child
  pub ends : i ≡ word t 2 → ms ≡ []
  pub goes : i ≢ word t 2 → Next h t i ms
  pub low : word t 2 ≤ 31
  pub place : i ≤ word t 2

pub turn : (h : ℕ) (t : Tree) (i : ℕ) (zs : List Tree) → Rest h t i zs → Turn h t i zs
turn h t i zs r = go r.js r.ds r.yss r.links r.count r.right r.items r.below r.list
  where
    child-at : (js ds : List Tree) (d : Tree) → children t ≡ r.top ∷ (((r.is ++ js) ++ replicate r.free nil) ++ ((r.cs ++ d ∷ ds) ++ replicate r.free nil))
        → i + length js ≡ r.n → get_elem? (children t) (32 + i) ≡ some d
    child-at js ds d links count = at-place (children t) (r.top ∷ (((r.is ++ js) ++ replicate r.free nil) ++ r.cs)) (ds ++ replicate r.free nil) d (32 + i)
        (links ∙ ap (λ l. r.top ∷ l) (ap (λ l. ((r.is ++ js) ++ replicate r.free nil) ++ l) (append_assoc r.cs (d ∷ ds) (replicate r.free nil))
        ∙ sym (append_assoc ((r.is ++ js) ++ replicate r.free nil) r.cs (d ∷ (ds ++ replicate r.free nil)))))
        (let a = r.place in let b = r.full in let c = r.left in simp (length-append, length-replicate) (omega arith))

    go : (js ds : List Tree) (yss : List (List Tree)) → children t ≡ r.top ∷ (((r.is ++ js) ++ replicate r.free nil) ++ ((r.cs ++ ds) ++ replicate r.free nil))
        → i + length js ≡ r.n → length ds ≡ suc (length js) → Each IsLatch js → Pairs (Part h) ds yss → zs ≡ weave js yss → Turn h t i zs
    go js [] yss links count right items p list = absurd (omega arith)
    go js (d ∷ ds) [] links count right items p list = absurd p
    go [] (d ∷ ds) (ys ∷ []) links count right items p list = record {
      child = d;
      ys = ys;
      ms = [];
      list = list ∙ sym (append-nil ys);
      part = p.0;
      at = child-at [] ds d links count;
      ends = (λ e. refl);
      goes = (λ e. absurd (e (let a = r.number in omega arith)));
      low = (let a = r.number in let b = r.full in omega arith);
      place = (let a = r.number in omega arith);
    }
    go [] (d ∷ []) (ys ∷ zs2 ∷ yss) links count right items p list = absurd p.1
    go [] (d ∷ e ∷ ds) (ys ∷ zs2 ∷ yss) links count right items p list = absurd (omega arith)
    go (j ∷ js) (d ∷ ds) (ys ∷ yss) links count right items p list = record {
      child = d;
      ys = ys;
      ms = j ∷ weave js yss;
      list = list;
      part = p.0;
      at = child-at (j ∷ js) ds d links count;
      ends = (λ e. absurd (let a = r.number in omega arith));
      goes = (λ e. record {
        item = j;
        later = weave js yss;
        split = refl;
        latch = items.0;
        at = at-place (children t) (r.top ∷ r.is) (js ++ (replicate r.free nil ++ ((r.cs ++ d ∷ ds) ++ replicate r.free nil))) j (1 + i)
            (links ∙ ap (λ l. r.top ∷ l) (append_assoc (r.is ++ j ∷ js) (replicate r.free nil) ((r.cs ++ d ∷ ds) ++ replicate r.free nil)
            ∙ append_assoc r.is (j ∷ js) (replicate r.free nil ++ ((r.cs ++ d ∷ ds) ++ replicate r.free nil)))) (let a = r.place in omega arith);
        rest = record {
          n = r.n;
          top = r.top;
          is = r.is ++ j ∷ [];
          js = js;
          cs = r.cs ++ d ∷ [];
          ds = ds;
          yss = yss;
          free = r.free;
          low = r.low;
          high = r.high;
          number = r.number;
          links = links ∙ (λ k. r.top ∷ ((sym (append_assoc r.is (j ∷ []) js) k ++ replicate r.free nil) ++ (sym (append_assoc r.cs
              (d ∷ []) ds) k ++ replicate r.free nil)));
          place = (let a = r.place in length-append r.is (j ∷ []) ∙ omega arith);
          count = (omega arith);
          full = r.full;
          left = (let a = r.left in length-append r.cs (d ∷ []) ∙ omega arith);
          right = (omega arith);
          items = items.1;
          below = p.1;
          list = refl;
        };
      });
      low = (let a = r.number in let b = r.full in omega arith);
      place = (let a = r.number in omega arith);
    }

module _ (f : Tree → ℕ) where
  pub map-join : (xs ys : List Tree) → map f (xs ++ ys) ≡ map f xs ++ map f ys
  map-join [] ys = refl
  map-join (x ∷ xs) ys = ap (λ l. f x ∷ l) (map-join xs ys)

-- a leaf has no lists between its items
pub leaf-turn : (t : Tree) (i : ℕ) (zs : List Tree) (q : Turn 0 t i zs) → zs ≡ q.ms
leaf-turn t i zs q = q.list ∙ ap (λ l. l ++ q.ms) q.part.1

pub row-item : (ms later : List Tree) (item : Tree) (r : ℕ) (ws vs : List ℕ) → ms ≡ item ∷ later → tree_word item ≡ suc r
    → vs ≡ (ws ++ r ∷ []) ++ rows_of later → vs ≡ ws ++ rows_of ms
row-item ms later item r ws vs split is e =
    let a : r ≡ row_number item = omega arith in
    e ∙ append_assoc ws (r ∷ []) (rows_of later) ∙ ap (λ z. ws ++ z ∷ rows_of later) a ∙ ap (λ l. ws ++ rows_of l) (sym split)

pub leaf-last : (ws ps vs : List ℕ) (r : ℕ) (zs ms later : List Tree) (item : Tree) → zs ≡ ms → ms ≡ item ∷ later → tree_word item ≡ suc r
    → ps ≡ ws ++ r ∷ [] → vs ≡ ps ++ rows_of later → vs ≡ ws ++ rows_of zs
leaf-last ws ps vs r zs ms later item a b is p e = row-item ms later item r ws vs b is (e ∙ ap (λ l. l ++ rows_of later) p)
    ∙ ap (λ l. ws ++ rows_of l) (sym a)

-- behind the child's list us, which came first
pub inner-last : (ws us ps vs : List ℕ) (r : ℕ) (zs ys ms later : List Tree) (item : Tree) → zs ≡ ys ++ ms → us ≡ ws ++ rows_of ys → ms ≡ item ∷ later
    → tree_word item ≡ suc r → ps ≡ us ++ r ∷ [] → vs ≡ ps ++ rows_of later → vs ≡ ws ++ rows_of zs
inner-last ws us ps vs r zs ys ms later item a u b is p e = leaf-last us ps vs r ms ms later item refl b is p e ∙ ap (λ l. l ++ rows_of ms) u
    ∙ append_assoc ws (rows_of ys) (rows_of ms) ∙ ap (λ l. ws ++ l) (sym (map-join row_number ys ms) ∙ ap rows_of (sym a))
