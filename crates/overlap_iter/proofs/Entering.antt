-- The walk enters a node.
use Rattle.std.proofs.Common.{◌≡◌, ℕ, suc, ◌+◌, ◌-◌, ◌*◌, ◌<◌, ◌≤◌, Option, Some, None, Bool, true, false, cond, List, [], ◌++◌}
use Rattle.std.proofs.Common.{slice_index, set, append_assoc, get_or-set_same, length-set, sym, refl, ap, ◌∙◌, subst, arith}
use mathlib.Core.Option.{some}
use lib.ListN.{get_elem?}
use Rattle.row_pool.specs.Trees.{Tree, tree_word, children}
use Rattle.row_pool.specs.SeatView.{SeatView}
use Rattle.span_key.specs.Spans.{Pair}
use Rattle.latch_item.specs.Items.{word, HasItem, IsLatch, item_of}
use Rattle.latch_item.specs.Shape.{Sorted, Kid, Node, Stands}
use Rattle.overlap_iter.specs.declared.cursor.Cursor.{Cursor}
use Rattle.overlap_iter.specs.Overlaps.{reaches, found, late, marks, spare}
use Rattle.overlap_iter.specs.Walks.{HasRoot, Within, kid, ChildOf, Comes, Frames, Framed, Opens, steps_left, entries_left, places_left, at_place}
use Rattle.overlap_iter.proofs.Lists.{each-among, node-latches, sorted-back}
use Rattle.overlap_iter.proofs.Marks.{marks-join, spare-join, spare-none, marks-some, none-reach, found-misses}
use Rattle.overlap_iter.proofs.Nodes.{AnyNode, any-node, top-link, start}
use Rattle.overlap_iter.proofs.Frames.{Leads, reached, has-item, root-stays, put-frame, set-above, falls, entries-same, entries-some}

-- ---- the child at the place of the lowest node comes next
abbrev pub with_next : Cursor → Option ℕ → Cursor
with_next c n = record { rows = c.rows; places = c.places; low = c.low; height = c.height; next = n }

pub opened-leaf : (span : Pair) (root : Tree) (c : Cursor) (bs : List Tree) (work : ℕ) → Opens span root c bs work → c.next ≡ None → c.low ≡ 0
    → Framed span root c bs work
opened-leaf span root c bs work o none leaf =
    let no_items : o.ys ≡ [] = subst (λ l. ChildOf l o.child o.ys) leaf o.child_is in
    let all : spare span o.ys o.more ≡ o.more = ap (λ l. spare span l o.more) no_items in
    record {
      levels = suc o.levels;
      height_is = o.height_is;
      low_height = o.low_height;
      rows_three = o.rows_three;
      places_three = o.places_three;
      rest = o.rest;
      more = o.more;
      frames = o.frames;
      comes = subst (λ n. Comes span root c.low n o.rest o.more bs work) (sym none)
          (o.todo ∙ ap (λ l. l ++ o.rest) no_items, let e = o.enough in omega arith);
    }

-- the place that was set
pub opens-place : (span : Pair) (root : Tree) (c : Cursor) (j : ℕ) (bs : List Tree) (work : ℕ) → (o : Opens span root (at_place c j) bs work)
    → slice_index (set c.places c.low j) c.low ≡ j
opens-place span root c j bs work o = get_or-set_same c.places c.low j 0
    (let a = length-set c.places c.low j in let b = o.places_three in let d = o.height_is in let e = o.low_height in omega arith)

-- the child of a node that isn't a leaf
pub inner-child : (span : Pair) (root : Tree) (c : Cursor) (bs : List Tree) (work : ℕ) → (o : Opens span root c bs work) → 0 < c.low
    → Kid (Node (c.low - 1)) o.child o.ys
inner-child span root c bs work o inner = subst (λ l. ChildOf l o.child o.ys) (let e : c.low ≡ suc (c.low - 1) = omega arith in e) o.child_is

pub opened-inner : (span : Pair) (root : Tree) (c : Cursor) (bs : List Tree) (work row : ℕ) → (o : Opens span root c bs work) → 0 < c.low
    → tree_word o.child ≡ suc row → Framed span root (with_next c (Some row)) bs (work - 1) × (1 ≤ work)
opened-inner span root c bs work row o inner here = (
  record {
    levels = suc o.levels;
    height_is = o.height_is;
    low_height = o.low_height;
    rows_three = o.rows_three;
    places_three = o.places_three;
    rest = o.rest;
    more = o.more;
    frames = o.frames;
    comes = (
      o.ys,
      record {
        level = c.low - 1;
        low_is = omega arith;
        node = o.child;
        inside = kid (32 + slice_index c.places c.low) o.inside o.at;
        here = here;
        stands = (inner-child span root c bs work o inner).node;
      },
      o.todo,
      let e = o.enough in omega arith,
    );
  },
  let e = o.enough in omega arith,
)

-- ---- the node that comes next, and the item of its greatest bound
pub record Enters (span : Pair) (root : Tree) (c : Cursor) (row : ℕ) (bs : List Tree) (work : ℕ) : Type 0 where
  pub framed : Framed span root c bs work
  pub low_is : c.low ≡ suc (c.low - 1)
  pub ys : List Tree
  pub node : Tree
  pub inside : Within root node
  pub here : tree_word node ≡ suc row
  pub any : AnyNode (c.low - 1) node ys
  pub todo : bs ≡ ys ++ framed.rest
  pub enough : 1 + 95 * c.low * marks span ys + spare span ys framed.more ≤ work
  pub top_at : get_elem? (children node) 0 ≡ some any.top
  pub top_latch : IsLatch any.top

pub enters : (span : Pair) (root : Tree) (c : Cursor) (row : ℕ) (bs : List Tree) (work : ℕ) → Framed span root c bs work → c.next ≡ Some row
    → Enters span root c row bs work
enters span root c row bs work f next =
    let (ys, e, todo, enough) = subst (λ n. Comes span root c.low n f.rest f.more bs work) next f.comes in
    let stands : Stands (c.low - 1) e.node ys = subst (λ l. Stands l e.node ys) (let a = e.low_is in let z : e.level ≡ c.low - 1 = omega arith in z) e.stands in
    let any = any-node (c.low - 1) e.node ys stands in
    record {
      framed = f;
      low_is = (let a = e.low_is in omega arith);
      ys = ys;
      node = e.node;
      inside = e.inside;
      here = e.here;
      any = any;
      todo = todo;
      enough = enough;
      top_at = top-link (word e.node 2) (children e.node) any.top any.its any.cs any.spread;
      top_latch = each-among IsLatch any.top ys any.greatest.among (node-latches (c.low - 1) (word e.node 1) (word e.node 2) (children e.node) ys stands);
    }

-- the row of that item, which the seat reaches
pub record AtTop (v : SeatView) (span : Pair) (root : Tree) (c : Cursor) (row : ℕ) (bs : List Tree) (work i : ℕ) : Type 0 where
  pub enters : Enters span root c row bs work
  pub here : tree_word enters.any.top ≡ suc i
  pub has : HasItem v i (item_of enters.any.top)

pub at-top : (v w : SeatView) (span : Pair) (root : Tree) (c : Cursor) (row : ℕ) (bs : List Tree) (work i : ℕ) → HasRoot v root → w ≡ v
    → Enters span root c row bs work → Leads v row 3 i → AtTop w span root c row bs work i
at-top v w span root c row bs work i up same e leads =
    let here = leads e.node e.any.top 0 (reached v root e.node row up e.inside e.here) e.here e.any.kind refl e.top_at in
    record { enters = e; here = here; has = has-item w root e.any.top i (root-stays v w root same up) (kid 0 e.inside e.top_at) here e.top_latch }

-- ---- nothing below it reaches the span
pub record Skipped (span : Pair) (root : Tree) (c : Cursor) (bs : List Tree) (work : ℕ) : Type 0 where
  pub rest : List Tree
  pub more : ℕ
  pub framed : Framed span root (with_next c None) rest more
  pub same : found span bs ≡ found span rest
  pub sorted : Sorted bs → Sorted rest
  pub paid : 1 + more ≤ work

pub skipped : (span : Pair) (root : Tree) (c : Cursor) (row : ℕ) (bs : List Tree) (work : ℕ) → (e : Enters span root c row bs work)
    → reaches span e.any.top ≡ false → Skipped span root c bs work
skipped span root c row bs work e out =
    let f = e.framed in
    let none = none-reach span e.any.top e.ys e.any.greatest out in
    record {
      rest = f.rest;
      more = f.more;
      framed = record {
        levels = f.levels;
        height_is = f.height_is;
        low_height = f.low_height;
        rows_three = f.rows_three;
        places_three = f.places_three;
        rest = f.rest;
        more = f.more;
        frames = f.frames;
        comes = (refl, omega arith);
      };
      same = ap (found span) e.todo ∙ found-misses span e.ys f.rest none;
      sorted = λ s. sorted-back e.ys f.rest (subst Sorted e.todo s);
      paid = (let a = e.enough in let b = spare-none span e.ys f.more none in omega arith);
    }

-- ---- it comes in front of the nodes above it
enter-paid : (lt : Bool) (d a b w s total work : ℕ) → w ≤ 93 + d * b → total ≡ a + cond lt 0 b → 1 ≤ total → 1 + (95 + d) * total + cond lt 0 s ≤ work
    → 2 + d * a + cond lt 0 (w + s) ≤ work - 1
enter-paid true d a b w s total work h1 h2 h3 h4 = let e : (95 + d) * total ≡ (95 + d) * a = ap (λ z. (95 + d) * z) (let z : total ≡ a = omega arith in z) in
    omega arith
enter-paid false d a b w s total work h1 h2 h3 h4 = let e : (95 + d) * total ≡ (95 + d) * (a + b) = ap (λ z. (95 + d) * z) h2 in omega arith

abbrev pub with_node : Cursor → ℕ → Cursor
with_node c row = record { rows = set c.rows (c.low - 1) row; places = c.places; low = c.low - 1; height = c.height; next = None }

pub entered : (span : Pair) (root : Tree) (c : Cursor) (row : ℕ) (bs : List Tree) (work : ℕ) → (e : Enters span root c row bs work)
    → reaches span e.any.top ≡ true → Opens span root (at_place (with_node c row) 0) bs (work - 1)
entered span root c row bs work e hit =
    let f = e.framed in let l : ℕ = c.low - 1 in
    let s = start span l e.node row e.ys e.any e.here in
    let high : l < 3 = let a = f.height_is in let b = f.low_height in let d = e.low_is in omega arith in
    let row_is : slice_index (set c.rows l row) l ≡ row = get_or-set_same c.rows l row 0 (let a = f.rows_three in omega arith) in
    let place_is : slice_index (set c.places l 0) l ≡ 0 = get_or-set_same c.places l 0 0 (let a = f.places_three in omega arith) in
    record {
      levels = f.levels;
      height_is = (let a = f.height_is in let b = e.low_is in omega arith);
      low_height = f.low_height;
      rows_three = length-set c.rows l row ∙ f.rows_three;
      places_three = length-set c.places l 0 ∙ f.places_three;
      low_place = omega arith;
      node = e.node;
      inside = e.inside;
      here = e.here ∙ ap suc (sym row_is);
      kind = e.any.kind;
      child = s.child;
      at = subst (λ k. get_elem? (children e.node) k ≡ some s.child) (let z : 32 ≡ 32 + slice_index (set c.places l 0) l = omega arith in z) s.at;
      ys = s.under;
      child_is = s.child_is;
      rest = s.later ++ f.rest;
      more = s.work + spare span s.later f.more;
      frames = put-frame span root c.rows (set c.rows l row) c.places (set c.places l 0) f.levels l row 0 e.node s.later f.rest s.work f.more e.inside s.rest
          row_is place_is (set-above c.rows l row) (set-above c.places l 0)
          (subst (λ k. Frames span root c.rows c.places f.levels k f.rest f.more) e.low_is f.frames);
      todo = e.todo ∙ ap (λ z. z ++ f.rest) s.split ∙ append_assoc s.under s.later f.rest;
      enough = enter-paid (late span s.under) (95 * l) (marks span s.under) (marks span s.later) s.work (spare span s.later f.more) (marks span e.ys) work
          s.small (ap (marks span) s.split ∙ marks-join span s.under s.later) (marks-some span e.any.top e.ys e.any.greatest.among hit)
          (subst (λ z. 1 + z * marks span e.ys + spare span s.under (spare span s.later f.more) ≤ work)
          (let a = e.low_is in let z : 95 * c.low ≡ 95 + 95 * l = omega arith in z)
          (subst (λ z. 1 + 95 * c.low * marks span e.ys + z ≤ work)
          (ap (λ z. spare span z f.more) s.split ∙ spare-join span s.under s.later f.more) e.enough));
    }

-- the steps that are left
pub skip-falls : (span : Pair) (root : Tree) (c : Cursor) (row : ℕ) (bs : List Tree) (work : ℕ) → Enters span root c row bs work → c.next ≡ Some row
    → steps_left (with_next c None) < steps_left c
skip-falls span root c row bs work e next =
    let a : entries_left c.low c.next ≡ entries_left (suc (c.low - 1)) (Some row) = λ i. entries_left (e.low_is i) (next i) in
    let b = entries-some (c.low - 1) row in omega arith

pub enter-falls : (span : Pair) (root : Tree) (c : Cursor) (row n : ℕ) (bs : List Tree) (work : ℕ) → Enters span root c row bs work → c.next ≡ Some row
    → n ≤ steps_left (at_place (with_node c row) 0) + entries_left (c.low - 1) (Some 0) → n < steps_left c
enter-falls span root c row n bs work e next h =
    let f = e.framed in
    let a : entries_left c.low c.next ≡ entries_left (suc (c.low - 1)) (Some row) = λ i. entries_left (e.low_is i) (next i) in
    let b = entries-same (suc (c.low - 1)) row 0 in
    let d : places_left c.low c.places ≡ places_left (suc (c.low - 1)) c.places = ap (λ l. places_left l c.places) e.low_is in
    let g = (falls c.places (c.low - 1) f.places_three (let x = f.height_is in let y = f.low_height in let z = e.low_is in omega arith)).entered in
    omega arith
