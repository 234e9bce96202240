-- One node of a walk.
use Rattle.std.proofs.Common.{◌≡◌, ℕ, zero, suc, ◌+◌, ◌*◌, ◌<◌, ◌≤◌, List, [], ◌∷◌, ◌++◌, length}
use Rattle.std.proofs.Common.{replicate, length-append, append_assoc, sym, refl, ap, ◌∙◌, subst, arith}
use Rattle.std.proofs.lemmas.List.{length-replicate}
use mathlib.Core.Option.{some}
use lib.ListN.{get_elem?}
use Rattle.row_pool.specs.Trees.{Tree, nil, tree_word, children}
use Rattle.row_pool.specs.SeatState.{kind_of}
use Rattle.span_key.specs.Spans.{Pair}
use Rattle.latch_item.specs.Items.{word, IsLatch}
use Rattle.latch_item.specs.Shape.{Each, Pairs, IsTop, Spread, Stands, weave}
use Rattle.overlap_iter.specs.Overlaps.{marks}
use Rattle.overlap_iter.specs.Walks.{IsNodeKind, ChildOf, RestOfNode, behind}
use Rattle.overlap_iter.proofs.Lists.{weave-behind}

-- ---- leaves and inner nodes in one form, where a leaf has children that are nothing
pub record AnyNode (level : ℕ) (u : Tree) (xs : List Tree) : Type 0 where
  pub top : Tree
  pub its : List Tree
  pub cs : List Tree
  pub yss : List (List Tree)
  pub kind : IsNodeKind (kind_of u)
  pub spread : Spread (word u 2) (children u) top its cs
  pub list : xs ≡ weave its yss
  pub items : Each IsLatch its
  pub greatest : IsTop top xs
  pub one_more : length cs ≡ suc (length its)
  pub below : Pairs (ChildOf level) cs yss

replicate-join : (m n : ℕ) → replicate {A = Tree} m nil ++ replicate n nil ≡ replicate (m + n) nil
replicate-join zero n = ap (λ k. replicate k nil) (let e : n ≡ 0 + n = omega arith in e)
replicate-join (suc m) n = ap (λ l. nil ∷ l) (replicate-join m n) ∙ ap (λ k. replicate k nil) (let e : suc (m + n) ≡ suc m + n = omega arith in e)

no-lists : (n : ℕ) → Pairs (ChildOf zero) (replicate n nil) (replicate n [])
no-lists zero = tt
no-lists (suc n) = (refl, no-lists n)

weave-none : (xs : List Tree) (n : ℕ) → weave xs (replicate n []) ≡ xs
weave-none xs zero = refl
weave-none [] (suc n) = refl
weave-none (x ∷ xs) (suc n) = ap (λ l. x ∷ l) (weave-none xs n)

pub any-node : (level : ℕ) (u : Tree) (xs : List Tree) → Stands level u xs → AnyNode level u xs
any-node zero u xs o =
    let m : ℕ = suc (length xs) in
    let n = o.spread.count in let f = o.spread.items in let c = o.spread.children in
    let room : ℕ = o.spread.free in
    record {
      top = o.top;
      its = xs;
      cs = replicate m nil;
      yss = replicate m [];
      kind = subst IsNodeKind (sym o.is) (refl, refl);
      spread = record {
        free = o.spread.free;
        room = room;
        links = o.spread.links ∙ ap (λ l. o.top ∷ ((xs ++ replicate o.spread.free nil) ++ l))
            (ap (λ k. replicate k nil) (let e : o.spread.room ≡ m + room = omega arith in e) ∙ sym (replicate-join m room));
        count = o.spread.count;
        items = o.spread.items;
        children = omega (arith, length-replicate {A = Tree} m nil);
      };
      list = sym (weave-none xs m);
      items = o.items;
      greatest = o.greatest;
      one_more = length-replicate {A = Tree} m nil;
      below = no-lists m;
    }
any-node (suc l) u xs o = record {
  top = o.top;
  its = o.its;
  cs = o.cs;
  yss = o.yss;
  kind = subst IsNodeKind (sym o.is) (refl, refl);
  spread = o.spread;
  list = o.list;
  items = o.items;
  greatest = o.greatest;
  one_more = o.one_more ∙ ap suc (sym o.spread.count);
  below = o.below;
}

-- ---- the links of a node
module _ {A : Type 0} where
  at-part : (us : List A) (u : A) (vs : List A) → get_elem? (us ++ u ∷ vs) (length us) ≡ some u
  at-part [] u vs = refl
  at-part (x ∷ us) u vs = at-part us u vs

  pub shift : (is : List A) (x : A) (js : List A) → is ++ x ∷ js ≡ (is ++ x ∷ []) ++ js
  shift is x js = sym (append_assoc is (x ∷ []) js)

  pub length-more : (is : List A) (x : A) → length (is ++ x ∷ []) ≡ suc (length is)
  length-more [] x = refl
  length-more (y ∷ is) x = ap suc (length-more is x)

at-link : (us vs ws : List Tree) (x : Tree) (k : ℕ) → us ≡ vs ++ x ∷ ws → length vs ≡ k → get_elem? us k ≡ some x
at-link us vs ws x k is len = ap (λ l. get_elem? l k) is ∙ ap (get_elem? (vs ++ x ∷ ws)) (sym len) ∙ at-part vs x ws

-- the link to the item behind these, and to the child behind these
pub item-link : (n : ℕ) (us : List Tree) (top : Tree) (is : List Tree) (x : Tree) (js cs : List Tree) → Spread n us top (is ++ x ∷ js) cs
    → get_elem? us (1 + length is) ≡ some x
item-link n us top is x js cs o =
    let m : List Tree = replicate o.free nil in let rest : List Tree = cs ++ replicate o.room nil in
    at-link us (top ∷ is) ((js ++ m) ++ rest) x (1 + length is)
    (o.links ∙ ap (λ l. top ∷ l) (ap (λ l. l ++ rest) (append_assoc is (x ∷ js) m) ∙ append_assoc is (x ∷ (js ++ m)) rest)) (omega arith)

pub child-link : (n : ℕ) (us : List Tree) (top : Tree) (its cs : List Tree) (d : Tree) (ds : List Tree) → Spread n us top its (cs ++ d ∷ ds)
    → get_elem? us (32 + length cs) ≡ some d
child-link n us top its cs d ds o =
    let m : List Tree = its ++ replicate o.free nil in let rest : List Tree = replicate o.room nil in
    let thirty : length m ≡ 31 = let a = o.count in let b = o.items in
    omega (arith, length-append its (replicate o.free nil), length-replicate {A = Tree} o.free nil) in
    at-link us (top ∷ (m ++ cs)) (ds ++ rest) d (32 + length cs)
    (o.links ∙ ap (λ l. top ∷ l) (ap (λ l. m ++ l) (append_assoc cs (d ∷ ds) rest) ∙ sym (append_assoc m cs (d ∷ (ds ++ rest)))))
    (omega (arith, length-append m cs))

pub top-link : (n : ℕ) (us : List Tree) (top : Tree) (its cs : List Tree) → Spread n us top its cs → get_elem? us 0 ≡ some top
top-link n us top its cs o = ap (λ l. get_elem? l 0) o.links

-- ---- a node at which the walk arrives: its first child's list comes first
pub record Start (span : Pair) (level : ℕ) (u : Tree) (row : ℕ) (ys : List Tree) : Type 0 where
  pub under : List Tree
  pub later : List Tree
  pub work : ℕ
  pub split : ys ≡ under ++ later
  pub rest : RestOfNode span level u row 0 later work
  pub child : Tree
  pub at : get_elem? (children u) 32 ≡ some child
  pub child_is : ChildOf level child under
  pub small : work ≤ 93 + 95 * level * marks span later

pub start : (span : Pair) (level : ℕ) (u : Tree) (row : ℕ) (ys : List Tree) → AnyNode level u ys → tree_word u ≡ suc row → Start span level u row ys
start span level u row ys o here = go o.cs o.yss o.spread o.one_more o.below o.list
  where
    go : (cs : List Tree) (yss : List (List Tree)) → Spread (word u 2) (children u) o.top o.its cs → length cs ≡ suc (length o.its)
        → Pairs (ChildOf level) cs yss → ys ≡ weave o.its yss → Start span level u row ys
    go [] yss s many p t = absurd (omega arith)
    go (d ∷ ds) [] s many p t = absurd p
    go (d ∷ ds) (zs ∷ zss) s many p t = record {
      under = zs;
      later = behind o.its zss;
      work = 3 * length o.its + 95 * level * marks span (behind o.its zss);
      split = t ∙ weave-behind o.its zs zss;
      rest = record {
        top = o.top;
        passed = [];
        items = o.its;
        left = d ∷ [];
        kids = ds;
        lists = zss;
        here = here;
        kind = o.kind;
        spread = s;
        place = refl;
        left_many = refl;
        kids_many = omega arith;
        latches = o.items;
        below = p.1;
        todo = refl;
        work_is = refl;
      };
      child = d;
      at = child-link (word u 2) (children u) o.top o.its [] d ds s;
      child_is = p.0;
      small = (let a = s.count in let b = s.items in omega arith);
    }

-- ---- a node that has an item left: the item, the list of the child behind it, and the rest
pub record Advance (span : Pair) (level : ℕ) (u : Tree) (row j : ℕ) (bs : List Tree) (work : ℕ) : Type 0 where
  pub item : Tree
  pub latch : IsLatch item
  pub at : get_elem? (children u) (1 + j) ≡ some item
  pub under : List Tree
  pub later : List Tree
  pub less : ℕ
  pub split : bs ≡ item ∷ (under ++ later)
  pub rest : RestOfNode span level u row (j + 1) later less
  pub less_is : less + 3 + 95 * level * marks span bs ≡ work + 95 * level * marks span later
  pub child : Tree
  pub child_at : get_elem? (children u) (33 + j) ≡ some child
  pub child_is : ChildOf level child under
  pub low : j < 31

less-work : (m a b d : ℕ) → (3 * m + d * b) + 3 + d * a ≡ (3 * suc m + d * a) + d * b
less-work m a b d = omega arith

pub advance : (span : Pair) (level : ℕ) (u : Tree) (row j : ℕ) (bs : List Tree) (work : ℕ) (o : RestOfNode span level u row j bs work) (x : Tree)
    (js : List Tree) → o.items ≡ x ∷ js → Advance span level u row j bs work
advance span level u row j bs work o x js e = go o.kids o.lists (o.kids_many ∙ ap length e) o.below
    (o.todo ∙ ap (λ l. behind l o.lists) e) (subst (λ l. Spread (word u 2) (children u) o.top (o.passed ++ l) (o.left ++ o.kids)) e o.spread)
  where
    place : length (o.passed ++ x ∷ []) ≡ j + 1
    place = length-more o.passed x ∙ (let a = o.place in omega arith)

    latches : Each IsLatch (x ∷ js)
    latches = subst (Each IsLatch) e o.latches

    go : (ds : List Tree) (zss : List (List Tree)) → length ds ≡ suc (length js) → Pairs (ChildOf level) ds zss → bs ≡ behind (x ∷ js) zss
        → Spread (word u 2) (children u) o.top (o.passed ++ x ∷ js) (o.left ++ ds) → Advance span level u row j bs work
    go [] zss many p t s = absurd (omega arith)
    go (d ∷ ds) [] many p t s = absurd p
    go (d ∷ ds) (zs ∷ zss) many p t s = record {
      item = x;
      latch = latches.0;
      at = subst (λ k. get_elem? (children u) (1 + k) ≡ some x) o.place (item-link (word u 2) (children u) o.top o.passed x js (o.left ++ d ∷ ds) s);
      under = zs;
      later = behind js zss;
      less = 3 * length js + 95 * level * marks span (behind js zss);
      split = t ∙ ap (λ l. x ∷ l) (weave-behind js zs zss);
      rest = record {
        top = o.top;
        passed = o.passed ++ x ∷ [];
        items = js;
        left = o.left ++ d ∷ [];
        kids = ds;
        lists = zss;
        here = o.here;
        kind = o.kind;
        spread = subst (λ l. Spread (word u 2) (children u) o.top l ((o.left ++ d ∷ []) ++ ds)) (shift o.passed x js)
            (subst (λ l. Spread (word u 2) (children u) o.top (o.passed ++ x ∷ js) l) (shift o.left d ds) s);
        place = place;
        left_many = length-more o.left d ∙ (let a = o.left_many in omega arith);
        kids_many = omega arith;
        latches = latches.1;
        below = p.1;
        todo = refl;
        work_is = refl;
      };
      less_is = less-work (length js) (marks span bs) (marks span (behind js zss)) (95 * level)
          ∙ ap (λ w. w + 95 * level * marks span (behind js zss)) (sym (o.work_is ∙ ap (λ m. 3 * m + 95 * level * marks span bs) (ap length e)));
      child = d;
      child_at = subst (λ k. get_elem? (children u) k ≡ some d) (let a = o.left_many in let z : 32 + length o.left ≡ 33 + j = omega arith in z)
          (child-link (word u 2) (children u) o.top (o.passed ++ x ∷ js) o.left d ds s);
      child_is = p.0;
      low = (let a = s.count in let b = s.items in let f = o.place in let g = length-append o.passed (x ∷ js) in omega arith);
    }
