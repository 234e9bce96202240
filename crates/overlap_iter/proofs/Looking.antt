-- The walk leaves a node, or passes an item.
use Rattle.std.proofs.Common.{◌≡◌, ◌≢◌, ℕ, zero, suc, ◌+◌, ◌-◌, ◌*◌, ◌<◌, ◌≤◌, Some, None, Bool, true, false, cond, List, [], ◌∷◌, ◌++◌, length}
use Rattle.std.proofs.Common.{slice_index, set, append_assoc, length-append, get_or-set_same, length-set, sym, refl, ap, ◌∙◌, subst, inl, arith}
use mathlib.Core.Option.{some}
use lib.ListN.{get_elem?}
use Rattle.row_pool.specs.Trees.{Tree, tree_word, children}
use Rattle.row_pool.specs.SeatView.{SeatView}
use Rattle.row_pool.specs.Layout.{IsContent}
use Rattle.row_pool.specs.Views.{Reaches}
use Rattle.span_key.specs.Spans.{Pair}
use Rattle.latch_item.specs.Items.{word, HasItem, item_of}
use Rattle.latch_item.specs.Shape.{Sorted}
use Rattle.latch_item.specs.Sides.{side_between}
use Rattle.latch_item.specs.declared.order.Side.TheVariants.{Before, Overlaps, Past}
use Rattle.overlap_iter.specs.declared.cursor.Cursor.{Cursor}
use Rattle.overlap_iter.specs.Overlaps.{starts, reaches, found, late, marks, spare}
use Rattle.overlap_iter.specs.Walks.{HasRoot, IsNodeKind, Within, kid, behind, Comes, Frame, Frames, Framed, Opens, steps_left}
use Rattle.overlap_iter.specs.Walks.{entries_left, places_left, at_place}
use Rattle.overlap_iter.proofs.Marks.{marks-join, spare-join, goes_on, marks-past, spare-past, found-first, found-past, found-end}
use Rattle.overlap_iter.proofs.Nodes.{Advance, advance}
use Rattle.overlap_iter.proofs.Frames.{Leads, reached, has-item, root-stays, put-frame, set-above, falls, falls-to}

-- the lowest node of a walk that isn't at its end, where no node comes first
pub record Stand (span : Pair) (root : Tree) (c : Cursor) (bs : List Tree) (work : ℕ) : Type 0 where
  pub levels : ℕ
  pub height_is : c.low + suc levels ≡ c.height
  pub next : c.next ≡ None
  pub framed : Framed span root c bs work
  pub more : ℕ
  pub frame : Frame (Frames span root c.rows c.places levels (suc c.low)) span root c.low (slice_index c.rows c.low) (slice_index c.places c.low) bs more
  pub enough : more ≤ work

pub stand : (span : Pair) (root : Tree) (c : Cursor) (bs : List Tree) (work : ℕ) → Framed span root c bs work → c.next ≡ None → c.low < c.height
    → Stand span root c bs work
stand span root c bs work f next low =
    let (same, enough) = subst (λ n. Comes span root c.low n f.rest f.more bs work) next f.comes in
    go f.levels f.height_is (subst (λ l. Frames span root c.rows c.places f.levels c.low l f.more) (sym same) f.frames) enough
  where
    go : (n : ℕ) → c.low + n ≡ c.height → Frames span root c.rows c.places n c.low bs f.more → f.more ≤ work → Stand span root c bs work
    go zero e h enough = absurd (omega arith)
    go (suc n) e h enough = record { levels = n; height_is = e; next = next; framed = f; more = f.more; frame = h; enough = enough }

-- the places of a node are at most as many as its items
pub place-low : (span : Pair) (root : Tree) (c : Cursor) (bs : List Tree) (work : ℕ) → (s : Stand span root c bs work) → slice_index c.places c.low < 32
place-low span root c bs work s =
    let o = s.frame.node_rest in let a = o.spread.count in let b = o.spread.items in let d = o.place in
    omega (arith, length-append o.passed o.items)

-- ---- a node is left
abbrev pub with_low : Cursor → ℕ → Cursor
with_low c low = record { rows = c.rows; places = c.places; low = low; height = c.height; next = c.next }

no-more : (xs : List Tree) → length xs ≡ 0 → xs ≡ []
no-more [] h = refl
no-more (x ∷ xs) h = absurd (omega arith)

pub left-node : (span : Pair) (root : Tree) (c : Cursor) (bs : List Tree) (work : ℕ) → (s : Stand span root c bs work)
    → word s.frame.node 2 ≡ slice_index c.places c.low → Framed span root (with_low c (c.low + 1)) bs work
left-node span root c bs work s n =
    let o = s.frame.node_rest in let f = s.framed in
    let none : o.items ≡ [] = no-more o.items (let a = o.spread.count in let b = o.place in omega (arith, length-append o.passed o.items)) in
    let here : s.frame.here ≡ [] = o.todo ∙ ap (λ l. behind l o.lists) none in
    record {
      levels = s.levels;
      height_is = (let a = s.height_is in omega arith);
      low_height = f.low_height;
      rows_three = f.rows_three;
      places_three = f.places_three;
      rest = s.frame.rest;
      more = s.frame.rest_work;
      frames = subst (λ l. Frames span root c.rows c.places s.levels l s.frame.rest s.frame.rest_work)
          (let e : suc c.low ≡ c.low + 1 = omega arith in e) s.frame.above;
      comes = subst (λ n. Comes span root (c.low + 1) n s.frame.rest s.frame.rest_work bs work) (sym s.next) (
        s.frame.todo ∙ ap (λ l. l ++ s.frame.rest) here,
        let a = s.frame.work_is in let b = s.enough in
            let d : spare span s.frame.here s.frame.rest_work ≡ s.frame.rest_work = ap (λ l. spare span l s.frame.rest_work) here in omega arith,
      );
    }

pub leave-falls : (span : Pair) (root : Tree) (c : Cursor) (bs : List Tree) (work : ℕ) → Stand span root c bs work
    → steps_left (with_low c (c.low + 1)) < steps_left c
leave-falls span root c bs work s =
    let f = s.framed in
    let a : entries_left c.low c.next ≡ 0 = ap (entries_left c.low) s.next in
    let e : entries_left (c.low + 1) c.next ≡ 0 = ap (entries_left (c.low + 1)) s.next in
    let one : c.low + 1 ≡ suc c.low = omega arith in
    let b : places_left (c.low + 1) c.places ≡ places_left (suc c.low) c.places = ap (λ l. places_left l c.places) one in
    let d = (falls c.places c.low f.places_three (let x = s.height_is in let y = f.low_height in omega arith)).left (place-low span root c bs work s) in
    omega arith

-- ---- the next item of the lowest node
some-more : (xs : List Tree) → length xs ≢ 0 → (x : Tree) × (ys : List Tree) × (xs ≡ x ∷ ys)
some-more [] h = absurd (h refl)
some-more (x ∷ xs) h = (x, xs, refl)

pub record AtItem (span : Pair) (root : Tree) (c : Cursor) (bs : List Tree) (work : ℕ) : Type 0 where
  pub stand : Stand span root c bs work
  pub advance : Advance span c.low stand.frame.node (slice_index c.rows c.low) (slice_index c.places c.low) stand.frame.here stand.frame.here_work
  pub inside : Within root advance.item
  pub rest : List Tree
  pub parts : rest ≡ advance.under ++ (advance.later ++ stand.frame.rest)
  pub cut : bs ≡ advance.item ∷ rest

pub at-item : (span : Pair) (root : Tree) (c : Cursor) (bs : List Tree) (work : ℕ) → (s : Stand span root c bs work)
    → (word s.frame.node 2 ≡ slice_index c.places c.low → ⊥) → AtItem span root c bs work
at-item span root c bs work s ne =
    let o = s.frame.node_rest in
    let (x, js, e) = some-more o.items (λ z. ne (let a = o.spread.count in let b = o.place in omega (arith, length-append o.passed o.items))) in
    let a = advance span c.low s.frame.node (slice_index c.rows c.low) (slice_index c.places c.low) s.frame.here s.frame.here_work o x js e in
    record {
      stand = s;
      advance = a;
      inside = kid (1 + slice_index c.places c.low) s.frame.inside a.at;
      rest = a.under ++ (a.later ++ s.frame.rest);
      parts = refl;
      cut = s.frame.todo ∙ ap (λ l. l ++ s.frame.rest) a.split ∙ ap (λ l. a.item ∷ l) (append_assoc a.under a.later s.frame.rest);
    }

-- the item's row, which the seat reaches
pub record Met (v : SeatView) (span : Pair) (root : Tree) (c : Cursor) (bs : List Tree) (work i : ℕ) : Type 0 where
  pub at : AtItem span root c bs work
  pub here : tree_word at.advance.item ≡ suc i
  pub has : HasItem v i (item_of at.advance.item)

pub met : (v w : SeatView) (span : Pair) (root : Tree) (c : Cursor) (bs : List Tree) (work i : ℕ) → HasRoot v root → w ≡ v → (q : AtItem span root c bs work)
    → Leads v (slice_index c.rows c.low) (4 + slice_index c.places c.low) i → Met w span root c bs work i
met v w span root c bs work i up same q leads =
    let h = q.stand.frame in let o = h.node_rest in
    let here = leads h.node q.advance.item (1 + slice_index c.places c.low) (reached v root h.node (slice_index c.rows c.low) up h.inside o.here) o.here o.kind
    (omega arith) q.advance.at in
    record { at = q; here = here; has = has-item w root q.advance.item i (root-stays v w root same up) q.inside here q.advance.latch }

-- ---- the end: no item from this one on begins before the span's end
pub ended : (span : Pair) (root : Tree) (c : Cursor) (bs : List Tree) (work : ℕ) → Framed span root c bs work → c.next ≡ None
    → Framed span root (with_low c c.height) [] 0
ended span root c bs work f none = record {
  levels = 0;
  height_is = omega arith;
  low_height = f.low_height;
  rows_three = f.rows_three;
  places_three = f.places_three;
  rest = [];
  more = 0;
  frames = (refl, refl);
  comes = subst (λ n. Comes span root c.height n [] 0 [] 0) (sym none) (refl, omega arith);
}

pub end-falls : (span : Pair) (root : Tree) (c : Cursor) (bs : List Tree) (work : ℕ) → Stand span root c bs work
    → steps_left (with_low c c.height) < steps_left c
end-falls span root c bs work s =
    let f = s.framed in
    let a : entries_left c.low c.next ≡ 0 = ap (entries_left c.low) s.next in
    let e : entries_left c.height c.next ≡ 0 = ap (entries_left c.height) s.next in
    let b = falls-to c.places c.low c.height f.places_three (let x = s.height_is in omega arith) f.low_height (place-low span root c bs work s) in omega arith

-- ---- the item is passed, and the child behind it comes next
pass-paid : (lt : Bool) (d a b e k less w s total rest more work : ℕ) → less + 3 + d * total ≡ w + d * b → less ≡ k + d * b → total ≡ (a + cond lt 0 b) + e
    → more ≡ w + rest → rest ≡ cond lt 0 s → more ≤ work → 2 + d * a + cond lt 0 (less + s) ≤ work - 1
pass-paid true d a b e k less w s total rest more work h1 h2 h3 h4 h5 h6 = let g : d * total ≡ d * (a + e) =
    ap (λ z. d * z) (let z : total ≡ a + e = omega arith in z) in omega arith
pass-paid false d a b e k less w s total rest more work h1 h2 h3 h4 h5 h6 = let g : d * total ≡ d * (a + b + e) = ap (λ z. d * z) h3 in omega arith

pub passed : (span : Pair) (root : Tree) (c : Cursor) (bs : List Tree) (work : ℕ) → (q : AtItem span root c bs work)
    → goes_on (reaches span q.advance.item) (starts span q.advance.item) ≡ true
    → Opens span root (at_place c (slice_index c.places c.low + 1)) q.rest (work - 1)
passed span root c bs work q on =
    let s = q.stand in let f = s.framed in let a = q.advance in let h = s.frame in
    let j : ℕ = slice_index c.places c.low in
    let place_is : slice_index (set c.places c.low (j + 1)) c.low ≡ j + 1 =
    get_or-set_same c.places c.low (j + 1) 0 (let x = f.places_three in let y = s.height_is in let z = f.low_height in omega arith) in
    let up : marks span (a.under ++ a.later) ≤ marks span h.here =
    subst (λ l. marks span (a.under ++ a.later) ≤ marks span l) (sym a.split) (marks-past span a.item (a.under ++ a.later) on) in
    record {
      levels = s.levels;
      height_is = s.height_is;
      low_height = f.low_height;
      rows_three = f.rows_three;
      places_three = length-set c.places c.low (j + 1) ∙ f.places_three;
      low_place = (let x = a.low in omega arith);
      node = h.node;
      inside = h.inside;
      here = h.node_rest.here;
      kind = h.node_rest.kind;
      child = a.child;
      at = subst (λ k. get_elem? (children h.node) k ≡ some a.child) (let z : 33 + j ≡ 32 + slice_index (set c.places c.low (j + 1)) c.low = omega arith in z)
          a.child_at;
      ys = a.under;
      child_is = a.child_is;
      rest = a.later ++ h.rest;
      more = a.less + spare span a.later h.rest_work;
      frames = put-frame span root c.rows c.rows c.places (set c.places c.low (j + 1)) s.levels c.low (slice_index c.rows c.low) (j + 1) h.node a.later h.rest
          a.less h.rest_work h.inside a.rest refl place_is (λ k low. refl) (set-above c.places c.low (j + 1)) h.above;
      todo = q.parts;
      enough = pass-paid (late span a.under) (95 * c.low) (marks span a.under) (marks span a.later)
          (marks span h.here - (marks span a.under + spare span a.under (marks span a.later))) (3 * length a.rest.items) a.less h.here_work
          (spare span a.later h.rest_work) (marks span h.here) (spare span h.here h.rest_work) s.more work a.less_is a.rest.work_is
          (let m = marks-join span a.under a.later in omega arith) h.work_is
          (ap (λ l. spare span l h.rest_work) a.split ∙ spare-past span a.item (a.under ++ a.later) h.rest_work on
          ∙ spare-join span a.under a.later h.rest_work) s.enough;
    }

pub pass-falls : (span : Pair) (root : Tree) (c : Cursor) (bs : List Tree) (work n : ℕ) → (s : Stand span root c bs work)
    → n ≤ steps_left (at_place c (slice_index c.places c.low + 1)) + entries_left c.low (Some 0) → n < steps_left c
pass-falls span root c bs work n s h =
    let f = s.framed in
    let a : entries_left c.low c.next ≡ 0 = ap (entries_left c.low) s.next in
    let d = (falls c.places c.low f.places_three (let x = s.height_is in let y = f.low_height in omega arith)).passed (place-low span root c bs work s) in
    omega arith

-- ---- how the item lies to the span
side-before : (r b : Bool) → side_between r b ≡ Before → (r ≡ false) × (goes_on r b ≡ true)
side-before true true e = cc
side-before true false e = cc
side-before false b e = (refl, refl)

side-overlaps : (r b : Bool) → side_between r b ≡ Overlaps → (r ≡ true) × (b ≡ true) × (goes_on r b ≡ true)
side-overlaps true true e = (refl, refl, refl)
side-overlaps true false e = cc
side-overlaps false b e = cc

side-past : (r b : Bool) → side_between r b ≡ Past → b ≡ false
side-past true true e = cc
side-past true false e = refl
side-past false b e = cc

-- the item ends before the span, so the walk has the same items to come to behind it
pub before-it : (span : Pair) (root : Tree) (c : Cursor) (bs : List Tree) (work : ℕ) → (q : AtItem span root c bs work)
    → side_between (reaches span q.advance.item) (starts span q.advance.item) ≡ Before
    → (goes_on (reaches span q.advance.item) (starts span q.advance.item) ≡ true)
    × (found span bs ≡ found span q.rest)
before-it span root c bs work q e =
    let (out, on) = side-before (reaches span q.advance.item) (starts span q.advance.item) e in
    (on, ap (found span) q.cut ∙ found-past span q.advance.item q.rest out)

-- it overlaps, so it is the next one that the walk has to come to
pub overlaps-it : (span : Pair) (root : Tree) (c : Cursor) (bs : List Tree) (work : ℕ) → (q : AtItem span root c bs work)
    → side_between (reaches span q.advance.item) (starts span q.advance.item) ≡ Overlaps
    → (goes_on (reaches span q.advance.item) (starts span q.advance.item) ≡ true)
    × (found span bs ≡ q.advance.item ∷ found span q.rest)
overlaps-it span root c bs work q e =
    let (hit, first, on) = side-overlaps (reaches span q.advance.item) (starts span q.advance.item) e in
    (on, ap (found span) q.cut ∙ found-first span q.advance.item q.rest first hit)

-- it begins past the span, so the walk has none to come to
pub past-it : (span : Pair) (root : Tree) (c : Cursor) (bs : List Tree) (work : ℕ) → (q : AtItem span root c bs work) → Sorted bs
    → side_between (reaches span q.advance.item) (starts span q.advance.item) ≡ Past → found span bs ≡ []
past-it span root c bs work q s e =
    ap (found span) q.cut ∙ found-end span q.advance.item q.rest (subst Sorted q.cut s)
    (side-past (reaches span q.advance.item) (starts span q.advance.item) e)

-- what is behind the item is sorted
pub sorted-behind : (span : Pair) (root : Tree) (c : Cursor) (bs : List Tree) (work : ℕ) → (q : AtItem span root c bs work) → Sorted bs
    → Sorted q.rest
sorted-behind span root c bs work q s = (subst Sorted q.cut s).1

-- ---- the number of items is a word of a node that is no link
pub node-content : (kind : ℕ) → IsNodeKind kind → IsContent kind 2
node-content kind is = (omega arith, omega arith, inl (let a = is.0 in omega arith))

-- what a load of that word answers
abbrev pub Tells : SeatView → ℕ → ℕ → Type 0
Tells v r n = (t : Tree) → Reaches v t → tree_word t ≡ suc r → n ≡ word t 2

pub counted : (v : SeatView) (span : Pair) (root : Tree) (c : Cursor) (bs : List Tree) (work n : ℕ) → HasRoot v root → (s : Stand span root c bs work)
    → Tells v (slice_index c.rows c.low) n → n ≡ word s.frame.node 2
counted v span root c bs work n up s tells =
    let h = s.frame in
    tells h.node (reached v root h.node (slice_index c.rows c.low) up h.inside h.node_rest.here) h.node_rest.here

pub facing : (v : SeatView) (span : Pair) (root : Tree) (c : Cursor) (bs : List Tree) (work n : ℕ) → HasRoot v root → Stand span root c bs work
    → Tells v (slice_index c.rows c.low) n → (n ≡ slice_index c.places c.low → ⊥) → AtItem span root c bs work
facing v span root c bs work n up s tells ne = at-item span root c bs work s (λ z. ne (counted v span root c bs work n up s tells ∙ z))

-- coming to an item takes a link
pub item-work : (span : Pair) (root : Tree) (c : Cursor) (bs : List Tree) (work : ℕ) → AtItem span root c bs work → 1 ≤ work
item-work span root c bs work q =
    let a = q.advance.less_is in let b = q.advance.rest.work_is in let d = q.stand.frame.work_is in let e = q.stand.enough in omega arith
