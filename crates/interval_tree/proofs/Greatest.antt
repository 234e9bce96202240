-- The item of the greatest bound.
use Rattle.std.proofs.Common.{◌≡◌, ◌⊎◌, ⊎_elim, inl, inr, true, false, Option, Some, None, ℕ, zero, suc, ◌+◌, ◌-◌, ◌<◌, ◌≤◌, List, [], ◌∷◌, ◌++◌, length}
use Rattle.std.proofs.Common.{replicate, length-append, append_assoc, sym, refl, ap, ◌∙◌, subst, arith}
use mathlib.Core.Option.{some}
use lib.ListN.{get_elem?}
use Rattle.std.specs.Ordering.{is_lt}
use Rattle.std.specs.declared.cmp.Ordering.{Ordering}
use Rattle.std.specs.declared.cmp.Ordering.TheVariants.{Less, Equal, Greater}
use Rattle.span_key.specs.Spans.{bound_cmp}
use Rattle.row_pool.proofs.NewNodes.{fan-node}
use Rattle.row_pool.specs.Layout.{IsLink}
use Rattle.row_pool.specs.SeatState.{OwnsOrReachesAs, row_of}
use Rattle.row_pool.specs.SeatView.{SeatView}
use Rattle.row_pool.specs.Trees.{Tree, children, nil, tree_word}
use Rattle.row_pool.specs.Views.{Reaches, below}
use Rattle.latch_item.specs.Items.{BoundUpTo, HasItem, IsLatch, Item, item_of, word}
use Rattle.latch_item.specs.Shape.{Among, Each, IsTop, Node, weave}
use Rattle.interval_tree.proofs.Copying.{Follows}
use Rattle.interval_tree.proofs.Depths.{each-among, node-items}
use Rattle.interval_tree.proofs.Fresh.{node-kind}
use Rattle.interval_tree.proofs.Lists.{among-back, among-front, bound-less, bound-self, bound-trans, each-join, each-map}
use Rattle.interval_tree.proofs.Rows.{node-link, nowhere, there, up-link}
use Rattle.interval_tree.specs.Held.{OwnsNode}
use Rattle.interval_tree.specs.Nodes.{LevelKid, joined}
use Rattle.interval_tree.specs.States.{Best, Greatest, ReachesItem}
use Rattle.interval_tree.specs.Steps.{BestBelow, BestItem, HasChildren, HasItems, LeadsTo, SingleUpTo}

pub is-less : (o : Ordering) → is_lt o ≡ true → o ≡ Less
is-less Less e = refl
is-less Equal e = cc
is-less Greater e = cc

pub not-less : (o : Ordering) → is_lt o ≡ false → o ≡ Less → ⊥
not-less Less e f = cc
not-less Equal e f = cc
not-less Greater e f = cc

pub item-at : (v : SeatView) (t : Tree) (row : ℕ) → ReachesItem v t row → HasItem v row (item_of t)
item-at v t row r = inl (t, r.0, r.1, r.2)

pub has-item : (v : SeatView) (t : Tree) (row : ℕ) → ReachesItem v t row → (x : Item) × HasItem v row x
has-item v t row r = (item_of t, item-at v t row r)

pub best-other : (v : SeatView) (s t : Tree) (r : ℕ) → bound_cmp (item_of s).span (item_of t).span ≡ Less → ReachesItem v t r → Best v s (t ∷ []) r
best-other v s t r h up = record { item = t; reached = up; over = bound-less s t h; most = (bound-self t, tt); origin = inr (inl refl) }

pub best-one : (v : SeatView) (s t : Tree) (r : ℕ) → BoundUpTo s t → ReachesItem v s r → Best v s (t ∷ []) r
best-one v s t r h up = record { item = s; reached = up; over = bound-self s; most = (h, tt); origin = inl refl }

pub best-none : (v : SeatView) (b : Tree) (r : ℕ) → ReachesItem v b r → Best v b [] r
best-none v b r up = record { item = b; reached = up; over = bound-self b; most = tt; origin = inl refl }

-- one item, and then the others
best-next : (v : SeatView) (b j : Tree) (js : List Tree) (r s : ℕ) (x : Best v b (j ∷ []) r) → Best v x.item js s → Best v b (j ∷ js) s
best-next v b j js r s x y = record {
  item = y.item;
  reached = y.reached;
  over = bound-trans y.item x.item b y.over x.over;
  most = (bound-trans y.item x.item j y.over x.most.0, y.most);
  origin = ⊎_elim (λ (e : y.item ≡ x.item). ⊎_elim (λ (g : x.item ≡ b). inl (e ∙ g)) (λ g. ⊎_elim (λ (z : j ≡ x.item). inr (inl (z ∙ sym e))) (λ z. absurd z) g)
      x.origin) (λ a. inr (inr a)) y.origin;
}

-- one child, whose greatest item is j, and then the others
best-child : (v : SeatView) (b j : Tree) (ys zs : List Tree) (r s : ℕ) (x : Best v b (j ∷ []) r) → IsTop j ys → Best v x.item zs s → Best v b (ys ++ zs) s
best-child v b j ys zs r s x top y = record {
  item = y.item;
  reached = y.reached;
  over = bound-trans y.item x.item b y.over x.over;
  most = each-join (BoundUpTo y.item) ys zs
      (each-map ys (λ q g. bound-trans y.item j q (bound-trans y.item x.item j y.over x.most.0) g) top.most) y.most;
  origin = ⊎_elim (λ (e : y.item ≡ x.item). ⊎_elim (λ (g : x.item ≡ b). inl (e ∙ g)) (λ g. ⊎_elim
      (λ (z : j ≡ x.item). inr (among-front y.item ys zs (subst (λ t. Among t ys) (z ∙ sym e) top.among))) (λ z. absurd z) g) x.origin)
      (λ a. inr (among-back y.item ys zs a)) y.origin;
}

-- ---- the searches, one link and then the others
abbrev pub Picks : SeatView → ℕ → ℕ → ℕ → Type 0
Picks v one other result = (s t : Tree) → ReachesItem v s one → ReachesItem v t other → Best v s (t ∷ []) result

-- the same where the other has no greater bound if it is a single key
abbrev pub PicksItem : SeatView → ℕ → ℕ → ℕ → Type 0
PicksItem v one other result = (s t : Tree) → ReachesItem v s one → ReachesItem v t other → SingleUpTo s t → Best v s (t ∷ []) result

pub first-at : (v : SeatView) (row k n best : ℕ) → 0 < n → HasItems v row k n best
    → (kind m : ℕ) × (us vs : List Tree) × (u : Tree) × OwnsNode v row kind m (us ++ u ∷ vs) × (length us ≡ k) × (k < 64) × (0 < tree_word u)
first-at v row k n best low (kind, m, us, [], vs, b, o, at, len, most, latches, up, single) = absurd (omega arith)
first-at v row k n best low (kind, m, us, j ∷ js, vs, b, o, at, len, most, latches, up, single) =
    (kind, m, us, js ++ vs, j, o, at, omega arith, let a = latches.0.here in omega arith)

item-reached : (v : SeatView) (row k kind m item : ℕ) (us vs : List Tree) (j : Tree) → LeadsTo v row k item → OwnsNode v row kind m (us ++ j ∷ vs)
    → length us ≡ k → IsLatch j → ReachesItem v j item
item-reached v row k kind m item us vs j leads o at latch = (up-link v row kind m us vs j k o at, leads kind m us vs j o at, latch)

pub both-items : (v : SeatView) (row k n best item : ℕ) → 0 < n → LeadsTo v row k item → HasItems v row k n best
    → (s t : Tree) × ReachesItem v s best × ReachesItem v t item
both-items v row k n best item low leads (kind, m, us, [], vs, b, o, at, len, most, latches, up, single) = absurd (omega arith)
both-items v row k n best item low leads (kind, m, us, j ∷ js, vs, b, o, at, len, most, latches, up, single) =
    (b, j, up, item-reached v row k kind m item us (js ++ vs) j leads o at latches.0)

pub items-next : (v : SeatView) (row k n best item better : ℕ) → 0 < n → LeadsTo v row k item → PicksItem v best item better → HasItems v row k n best
    → HasItems v row (k + 1) (n - 1) better
items-next v row k n best item better low leads pick (kind, m, us, [], vs, b, o, at, len, most, latches, up, single) = absurd (omega arith)
items-next v row k n best item better low leads pick (kind, m, us, j ∷ js, vs, b, o, at, len, most, latches, up, single) =
    let x = pick b j up (item-reached v row k kind m item us (js ++ vs) j leads o at latches.0) single.0 in (
      kind,
      m,
      us ++ j ∷ [],
      js,
      vs,
      x.item,
      subst (OwnsNode v row kind m) (sym (append_assoc us (j ∷ []) (js ++ vs))) o,
      omega (arith, length-append us (j ∷ [])),
      omega arith,
      omega arith,
      latches.1,
      x.reached,
      each-map js (λ q g p. bound-trans x.item b q x.over (g p)) single.1,
    )

pub best-items : (v : SeatView) (row k n best item better result : ℕ) → 0 < n → LeadsTo v row k item → PicksItem v best item better
    → BestItem v row (k + 1) (n - 1) better result → BestItem v row k n best result
best-items v row k n best item better result low leads pick later kind m us [] vs b o at len latches up single = absurd (omega arith)
best-items v row k n best item better result low leads pick later kind m us (j ∷ js) vs b o at len latches up single =
    let x = pick b j up (item-reached v row k kind m item us (js ++ vs) j leads o at latches.0) single.0 in
    best-next v b j js better result x (later kind m (us ++ j ∷ []) js vs x.item
    (subst (OwnsNode v row kind m) (sym (append_assoc us (j ∷ []) (js ++ vs))) o) (omega (arith, length-append us (j ∷ []))) (omega arith) latches.1 x.reached
    (each-map js (λ q g p. bound-trans x.item b q x.over (g p)) single.1))

pub no-items : (v : SeatView) (row k n best : ℕ) → n ≡ 0 → BestItem v row k n best best
no-items v row k n best empty kind m us [] vs b o at len latches up single = best-none v b best up
no-items v row k n best empty kind m us (j ∷ js) vs b o at len latches up single = absurd (omega arith)

-- ---- a child's first link
pub record First (us xs : List Tree) : Type 0 where
  pub top : Tree
  pub tail : List Tree
  pub links : us ≡ top ∷ tail
  pub greatest : IsTop top xs
  pub latch : IsLatch top

pub node-top : (h kind n : ℕ) (us xs : List Tree) → Node h kind n us xs → First us xs
node-top zero kind n us xs o = record {
  top = o.top;
  tail = (xs ++ replicate o.spread.free nil) ++ ([] ++ replicate o.spread.room nil);
  links = o.spread.links;
  greatest = o.greatest;
  latch = each-among IsLatch o.top xs o.greatest.among o.items;
}
node-top (suc h) kind n us xs o = record {
  top = o.top;
  tail = (o.its ++ replicate o.spread.free nil) ++ (o.cs ++ replicate o.spread.room nil);
  links = o.spread.links;
  greatest = o.greatest;
  latch = each-among IsLatch o.top xs o.greatest.among (node-items (suc h) kind n us xs o);
}

pub kid-kind : (h : ℕ) (c : Tree) (ys : List Tree) → LevelKid h c ys → (2 ≤ word c 1) × (word c 1 ≤ 3)
kid-kind zero c ys k = absurd k
kid-kind (suc h) c ys k = node-kind h (word c 1) (word c 2) (children c) ys k.node

pub kid-first : (h : ℕ) (c : Tree) (ys : List Tree) → LevelKid h c ys → First (children c) ys
kid-first zero c ys k = absurd k
kid-first (suc h) c ys k = node-top h (word c 1) (word c 2) (children c) ys k.node

pub kid-row : (h : ℕ) (c : Tree) (ys : List Tree) → LevelKid h c ys → 0 < tree_word c
kid-row zero c ys k = absurd k
kid-row (suc h) c ys k = let a = k.here in omega arith

pub top-reach : (v : SeatView) (h : ℕ) (c : Tree) (ys : List Tree) (child : ℕ) → Reaches v c → tree_word c ≡ suc child → LevelKid h c ys
    → OwnsOrReachesAs (λ kind. IsLink kind 3) v child
top-reach v h c ys child up here k = let a = kid-kind h c ys k in inl (c, up, here, node-link (word c 1) 0 a.0 a.1 (omega arith))

-- what following the first link of a child answers
pub record Followed (v : SeatView) (ys : List Tree) (result : Option ℕ) : Type 0 where
  pub top : Tree
  pub up : Reaches v top
  pub greatest : IsTop top ys
  pub latch : IsLatch top
  pub is : result ≡ row_of (tree_word top)

pub followed : (v : SeatView) (h : ℕ) (c : Tree) (ys : List Tree) (child : ℕ) (result : Option ℕ) → Reaches v c → tree_word c ≡ suc child
    → LevelKid h c ys → Follows v child 3 result → Followed v ys result
followed v h c ys child result up here k follow =
    let f = kid-first h c ys k in let a = kid-kind h c ys k in
    let at : get_elem? (children c) 0 ≡ some f.top = ap (λ l. get_elem? l 0) f.links in
    record {
      top = f.top;
      up = below 0 up at;
      greatest = f.greatest;
      latch = f.latch;
      is = follow c f.top 0 up here (ap (λ b. b + 0) (sym ((fan-node (word c 1) a.0 a.1).1))) at;
    }

pub greatest-of : (v : SeatView) (ys : List Tree) (row : ℕ) (f : Followed v ys (Some row)) → Greatest v ys row
greatest-of v ys row f = record { item = f.top; reached = (f.up, there (tree_word f.top) row f.is, f.latch); greatest = f.greatest }

pub no-top : (v : SeatView) (ys : List Tree) → Followed v ys None → ⊥
no-top v ys f = let a = f.latch.here in let b = nowhere (tree_word f.top) f.is in omega arith

-- ---- the children, one and then the others
abbrev pub TopOf : SeatView → ℕ → ℕ → Type 0
TopOf v child result = (h : ℕ) (c : Tree) (ys : List Tree) → Reaches v c → tree_word c ≡ suc child → LevelKid h c ys → Greatest v ys result

pub child-at : (v : SeatView) (row k n best : ℕ) → 0 < n → HasChildren v row k n best
    → (kind m : ℕ) × (us vs : List Tree) × (u : Tree) × OwnsNode v row kind m (us ++ u ∷ vs) × (length us ≡ k) × (k < 64) × (0 < tree_word u)
child-at v row k n best low (h, kind, m, us, [], vs, yss, b, o, at, len, most, under, up) = absurd (omega arith)
child-at v row k n best low (h, kind, m, us, c ∷ cs, vs, [], b, o, at, len, most, under, up) = absurd under
child-at v row k n best low (h, kind, m, us, c ∷ cs, vs, ys ∷ yss, b, o, at, len, most, under, up) =
    (kind, m, us, cs ++ vs, c, o, at, omega arith, kid-row h c ys under.0)

pub child-reached : (v : SeatView) (row k n best child : ℕ) → 0 < n → LeadsTo v row k child → HasChildren v row k n best
    → (h : ℕ) × (c : Tree) × (ys : List Tree) × Reaches v c × (tree_word c ≡ suc child) × LevelKid h c ys
child-reached v row k n best child low leads (h, kind, m, us, [], vs, yss, b, o, at, len, most, under, up) = absurd (omega arith)
child-reached v row k n best child low leads (h, kind, m, us, c ∷ cs, vs, [], b, o, at, len, most, under, up) = absurd under
child-reached v row k n best child low leads (h, kind, m, us, c ∷ cs, vs, ys ∷ yss, b, o, at, len, most, under, up) =
    (h, c, ys, up-link v row kind m us (cs ++ vs) c k o at, leads kind m us (cs ++ vs) c o at, under.0)

pub both-tops : (v : SeatView) (row k n best child top : ℕ) → 0 < n → LeadsTo v row k child → TopOf v child top → HasChildren v row k n best
    → (s t : Tree) × ReachesItem v s best × ReachesItem v t top
both-tops v row k n best child top low leads tops has =
    let (h, c, ys, up, here, k) = child-reached v row k n best child low leads has in
    let g = tops h c ys up here k in
    let (h, kind, m, us, cs, vs, yss, b, o, at, len, most, under, best_up) = has in
    (b, g.item, best_up, g.reached)

pub children-next : (v : SeatView) (row k n best child top better : ℕ) → 0 < n → LeadsTo v row k child → TopOf v child top → Picks v best top better
    → HasChildren v row k n best → HasChildren v row (k + 1) (n - 1) better
children-next v row k n best child top better low leads tops pick (h, kind, m, us, [], vs, yss, b, o, at, len, most, under, up) = absurd (omega arith)
children-next v row k n best child top better low leads tops pick (h, kind, m, us, c ∷ cs, vs, [], b, o, at, len, most, under, up) = absurd under
children-next v row k n best child top better low leads tops pick (h, kind, m, us, c ∷ cs, vs, ys ∷ yss, b, o, at, len, most, under, up) =
    let g = tops h c ys (up-link v row kind m us (cs ++ vs) c k o at) (leads kind m us (cs ++ vs) c o at) under.0 in
    let x = pick b g.item up g.reached in (
      h,
      kind,
      m,
      us ++ c ∷ [],
      cs,
      vs,
      yss,
      x.item,
      subst (OwnsNode v row kind m) (sym (append_assoc us (c ∷ []) (cs ++ vs))) o,
      omega (arith, length-append us (c ∷ [])),
      omega arith,
      omega arith,
      under.1,
      x.reached,
    )

pub best-children : (v : SeatView) (row k n best child top better result : ℕ) → 0 < n → LeadsTo v row k child → TopOf v child top → Picks v best top better
    → BestBelow v row (k + 1) (n - 1) better result → BestBelow v row k n best result
best-children v row k n best child top better result low leads tops pick later h kind m us [] vs yss b o at len under up = absurd (omega arith)
best-children v row k n best child top better result low leads tops pick later h kind m us (c ∷ cs) vs [] b o at len under up = absurd under
best-children v row k n best child top better result low leads tops pick later h kind m us (c ∷ cs) vs (ys ∷ yss) b o at len under up =
    let g = tops h c ys (up-link v row kind m us (cs ++ vs) c k o at) (leads kind m us (cs ++ vs) c o at) under.0 in
    let x = pick b g.item up g.reached in
    best-child v b g.item ys (joined yss) better result x g.greatest (later h kind m (us ++ c ∷ []) cs vs yss x.item
    (subst (OwnsNode v row kind m) (sym (append_assoc us (c ∷ []) (cs ++ vs))) o) (omega (arith, length-append us (c ∷ []))) (omega arith) under.1 x.reached)

pub no-children : (v : SeatView) (row k n best : ℕ) → n ≡ 0 → BestBelow v row k n best best
no-children v row k n best empty h kind m us [] vs [] b o at len under up = best-none v b best up
no-children v row k n best empty h kind m us [] vs (ys ∷ yss) b o at len under up = absurd under
no-children v row k n best empty h kind m us (c ∷ cs) vs yss b o at len under up = absurd (omega arith)

-- the greatest of the items and of the children's lists is that of the node
pub weave-each : (P : Tree → Type 0) (its : List Tree) (yss : List (List Tree)) → Each P its → Each P (joined yss) → Each P (weave its yss)
weave-each P its [] a b = a
weave-each P [] (ys ∷ yss) a b = front ys (joined yss) b
  where
    front : (us vs : List Tree) → Each P (us ++ vs) → Each P us
    front [] vs h = tt
    front (u ∷ us) vs h = (h.0, front us vs h.1)
weave-each P (x ∷ its) (ys ∷ yss) a b = each-join P ys (x ∷ weave its yss) (front ys (joined yss) b) (a.0, weave-each P its yss a.1 (back ys (joined yss) b))
  where
    front : (us vs : List Tree) → Each P (us ++ vs) → Each P us
    front [] vs h = tt
    front (u ∷ us) vs h = (h.0, front us vs h.1)

    back : (us vs : List Tree) → Each P (us ++ vs) → Each P vs
    back [] vs h = h
    back (u ∷ us) vs h = back us vs h.1

among-split : (t : Tree) (us vs : List Tree) → Among t (us ++ vs) → Among t us ⊎ Among t vs
among-split t [] vs h = inr h
among-split t (u ∷ us) vs h = ⊎_elim (λ a. inl (inl a)) (λ b. ⊎_elim (λ c. inl (inr c)) (λ d. inr d) (among-split t us vs b)) h

pub weave-item : (t : Tree) (its : List Tree) (yss : List (List Tree)) → Among t its → Among t (weave its yss)
weave-item t its [] h = h
weave-item t [] (ys ∷ yss) h = absurd h
weave-item t (x ∷ its) (ys ∷ yss) h = among-back t ys (x ∷ weave its yss) (⊎_elim (λ a. inl a) (λ b. inr (weave-item t its yss b)) h)

pub weave-below : (t : Tree) (its : List Tree) (yss : List (List Tree)) → length yss ≤ suc (length its) → Among t (joined yss) → Among t (weave its yss)
weave-below t its [] le h = absurd h
weave-below t [] (ys ∷ []) le h = ⊎_elim (λ a. a) (λ b. absurd b) (among-split t ys [] h)
weave-below t [] (ys ∷ zs ∷ yss) le h = absurd (omega arith)
weave-below t (x ∷ its) (ys ∷ yss) le h = ⊎_elim (λ a. among-front t ys (x ∷ weave its yss) a)
    (λ b. among-back t ys (x ∷ weave its yss) (inr (weave-below t its yss (omega arith) b))) (among-split t ys (joined yss) h)
