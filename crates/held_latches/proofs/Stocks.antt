-- What a stock keeps while the chain, the trees and what is loose change.
use Rattle.std.proofs.Common.{◌≡◌, ◌≢◌, ◌⊎◌, ⊎_elim, inl, inr, ℕ, suc, ◌+◌, ◌≤◌, true, false, true≢false, eqb, List, [], ◌∷◌, ◌++◌, length, ap, sym, refl}
use Rattle.std.proofs.Common.{◌∙◌, subst, arith}
use Rattle.std.specs.List.{IsDistinct}
use Rattle.std.specs.Prelude.{Option, None, Some}
use Rattle.std.proofs.lemmas.Bool.Decides.{eqb_tells}
use Rattle.std.proofs.lemmas.List.{append-nil, length-append, map-append}
use mathlib.Core.Option.{some, none, some-injective, some-ne-none}
use Rattle.row_pool.proofs.Chains.{chain-on, mem-append, mem-head, mem-here, mem-left, mem-neither, mem-or, mem-right, mem-tail, strung-apart, strung-free}
use Rattle.row_pool.proofs.DistinctKeys.{distinct-first}
use Rattle.row_pool.proofs.NewestRef.{tree_of-first, without_tree-first}
use Rattle.row_pool.proofs.Seats.{same_or}
use Rattle.row_pool.proofs.Sums.{find-else, find-without}
use Rattle.row_pool.specs.Chains.{ChainGrows, IsChain, IsFreeRow, LinkedFrom}
use Rattle.row_pool.specs.Changes.{joined, published, tree_of, with_ref, without_tree}
use Rattle.row_pool.specs.Lists.{find, mem}
use Rattle.row_pool.specs.SeatState.{OnlyEntriesChange, OnlyEntryChanges, SameSeat}
use Rattle.row_pool.specs.SeatView.{SeatView}
use Rattle.row_pool.specs.Trees.{Entry, Tree as Row, tree_word}
use Rattle.row_pool.specs.Views.{ViewInvariant}
use Rattle.row_pool.specs.declared.chain.Chain.{Chain}
use Rattle.latch_item.specs.Items.{Item, OwnsItem}
use Rattle.latch_item.specs.Shape.{IsTree}
use Rattle.interval_tree.specs.Held.{Spends}
use Rattle.interval_tree.specs.Trees.{Keeps, height_of, other_refs, root_of}
use Rattle.interval_tree.specs.declared.tree.Tree.{Tree}
use Rattle.read_list.proofs.Rows.{distinct-cons, distinct-head, distinct-tail, mem-not, taken-out}
use Rattle.read_list.specs.Lists.{OnlyLinksChange}
use Rattle.latch_shots.specs.Roots.{AreRoots, Root}
use Rattle.latch_shots.specs.Shots.{OwnsJust}
use Rattle.held_latches.specs.Stock.{AreLoose, Fits, LooseItem, Placed, Stock, rows_of, tree_root}
use Rattle.held_latches.proofs.References.{RefersIn, one-refs, pick, put_back, refers-in, refers-to, roots-length}

-- ---- loose items
pub loose-moved : (v w : SeatView) (row : ℕ) (p : Placed) → find p.row w.owned ≡ find p.row v.owned → LooseItem v p.row p.item → LooseItem w p.row p.item
loose-moved v w row p same o = record {
  owns = record { entry = o.owns.entry; has = same ∙ o.owns.has; kind = o.owns.kind; links = o.owns.links; valid = o.owns.valid; words = o.owns.words };
  unlinked = o.unlinked;
}

pub loose-stay : (v w : SeatView) (ps : List Placed) → ((q : ℕ) → mem q (rows_of ps) ≡ true → find q w.owned ≡ find q v.owned) → AreLoose v ps → AreLoose w ps
loose-stay v w [] same h = tt
loose-stay v w (p ∷ ps) same h =
    (loose-moved v w p.row p (same p.row (mem-here p.row (rows_of ps))) h.0, loose-stay v w ps (λ q m. same q (mem-tail q p.row (rows_of ps) m)) h.1)

-- the seat owns the row of a loose item, as an item
pub loose-entry : (v : SeatView) (ps : List Placed) (q : ℕ) → AreLoose v ps → mem q (rows_of ps) ≡ true
    → (e : Entry) × (find q v.owned ≡ some e) × (e.kind ≡ 1)
loose-entry v [] q h m = absurd (true≢false (sym m))
loose-entry v (p ∷ ps) q h m = ⊎_elim
    (λ (z : p.row ≡ q). (h.0.owns.entry, subst (λ r. find r v.owned ≡ some h.0.owns.entry) z h.0.owns.has, h.0.owns.kind))
    (λ b. loose-entry v ps q h.1 b.1) (mem-head q p.row (rows_of ps) m)

-- such a row is in no chain
pub loose-aside : (v : SeatView) (c : Chain) (free : List ℕ) (ps : List Placed) (q : ℕ) → IsChain v c free → AreLoose v ps → mem q (rows_of ps) ≡ true
    → mem q free ≡ false
loose-aside v c free ps q chain h m = mem-not q free (λ n.
    let o = loose-entry v ps q h m in let (e, has, kind, rest) = strung-free v free c.head q chain.linked_from n in
    let same = ap (λ (e : Entry). e.kind) (some-injective o.0 e (sym o.1 ∙ has)) in let a = o.2 in omega arith)

-- ---- a tree's reference
pub tree-kept : (v : SeatView) (tree : Tree) (items : List Row) (front back : List Root) → ViewInvariant v → Fits tree items
    → AreRoots (front ++ tree_root tree items ∷ back) v.refs → Keeps v tree items
tree-kept v tree items front back sound fits h =
    let r = refers-in v (root_of tree) (height_of tree) items (pick front (tree_root tree items) back v.refs (one-refs v sound) h).refers in
    record { refers = r; many = fits.1.many; low = fits.1.low }

pub fits-kept : (v : SeatView) (tree : Tree) (items : List Row) → Keeps v tree items → Fits tree items
fits-kept v tree items k = (v, k)

-- the tree has changed, and the other references are the same
pub roots-changed : (v w : SeatView) (old new : Tree) (xs ys : List Row) (front back : List Root) → ViewInvariant v → ViewInvariant w
    → AreRoots (front ++ tree_root old xs ∷ back) v.refs → Keeps w new ys → other_refs new w.refs ≡ other_refs old v.refs
    → AreRoots (front ++ tree_root new ys ∷ back) w.refs
roots-changed v w old new xs ys front back before after h k same =
    put_back front (tree_root new ys) back w.refs (one-refs w after) (refers-to w (root_of new) (height_of new) ys k.refers)
    (subst (AreRoots (front ++ back)) (sym same) (pick front (tree_root old xs) back v.refs (one-refs v before) h).rest)

pub refs-few : (v : SeatView) (r : Root) (front back : List Root) → AreRoots (front ++ r ∷ back) v.refs → length front + length back ≤ 16 → length v.refs ≤ 17
refs-few v r front back h few =
    let a = roots-length (front ++ r ∷ back) v.refs h in let b = length-append front (r ∷ back) in omega arith

-- ---- a call that uses rows of the chain, and works on the rows xs
pub record After (k : ℕ) (v w : SeatView) (c d : Chain) (roots : List Root) (loose : List Placed) : Type 0 where
  pub stock : Stock w d roots loose
  pub stay : (q : ℕ) → mem q (rows_of loose) ≡ true → find q w.owned ≡ find q v.owned
  pub spent : c.len ≤ d.len + k

pub stock-after : (k : ℕ) (v w : SeatView) (c d : Chain) (xs free : List ℕ) (roots : List Root) (loose : List Placed) → v.number ≡ 1 → IsChain v c free
    → ((q : ℕ) (e : Entry) → find q v.owned ≡ some e → (mem q free ≡ true) ⊎ (mem q (xs ++ rows_of loose) ≡ true)) → AreLoose v loose
    → IsDistinct eqb (rows_of loose) → ((q : ℕ) → mem q (rows_of loose) ≡ true → mem q xs ≡ false) → AreRoots roots w.refs → Spends k xs [] free v w d
    → After k v w c d roots loose
stock-after k v w c d xs free roots loose first chain all items apart away refs sp = record {
  stock = record {
    first = sp.frame.same_seat.number ∙ first;
    refs = refs;
    free = sp.left;
    chained = sp.chain;
    all = λ q e has. ⊎_elim inl (λ (m : mem q sp.left ≡ false). inr (left_loose q e (sp.frame.only q e (m, has)))) (mem-or q sp.left);
    items = loose-stay v w loose stay items;
    apart = apart;
  };
  stay = stay;
  spent = (let a = chain.long in let b = sp.chain.long in let s = sp.spent in omega arith);
}
  where
    out : (q : ℕ) → mem q (rows_of loose) ≡ true → mem q (xs ++ free) ≡ false
    out q m = neither xs (away q m) (loose-aside v c free loose q chain items m)
      where
        neither : (ys : List ℕ) → mem q ys ≡ false → mem q free ≡ false → mem q (ys ++ free) ≡ false
        neither [] a b = b
        neither (y ∷ ys) a b = ⊎_elim (λ (z : (y ≡ q)). absurd (true≢false (sym (subst (λ r. mem q (r ∷ ys) ≡ true) (sym z) (mem-here q ys)) ∙ a)))
            (λ (ne : y ≢ q). mem-not q (y ∷ (ys ++ free)) (λ n. ⊎_elim (λ (z : y ≡ q). ne z)
            (λ b'. true≢false (sym b'.1 ∙ neither ys (mem-not q ys (λ n. true≢false (sym (mem-tail q y ys n) ∙ a))) b)) (mem-head q y (ys ++ free) n)))
            (same_or y q)

    stay : (q : ℕ) → mem q (rows_of loose) ≡ true → find q w.owned ≡ find q v.owned
    stay q m = let o = loose-entry v loose q items m in (sp.frame.kept q o.0 (out q m, o.1)).1 ∙ sym o.1

    left_loose : (q : ℕ) (e : Entry) → (mem q (xs ++ free) ≡ false) × (find q v.owned ≡ some e) → mem q (rows_of loose) ≡ true
    left_loose q e (not_there, has) = let n = mem-neither q xs free not_there in
        ⊎_elim (λ (m : mem q free ≡ true). absurd (true≢false (sym m ∙ n.1)))
        (λ (m : mem q (xs ++ rows_of loose) ≡ true). ⊎_elim (λ (a : mem q xs ≡ true). absurd (true≢false (sym a ∙ n.0))) (λ b. b.1)
        (mem-append q xs (rows_of loose) m)) (all q e has)

-- the first of distinct rows is none of the others
pub apart-one : (r : ℕ) (rs : List ℕ) → IsDistinct eqb (r ∷ rs) → (q : ℕ) → mem q rs ≡ true → mem q (r ∷ []) ≡ false
apart-one r rs h q m = mem-not q (r ∷ []) (λ n. ⊎_elim (λ (z : r ≡ q). true≢false (sym (subst (λ k. mem k rs ≡ true) (sym z) m) ∙ distinct-head r rs h))
    (λ b. true≢false (sym b.1)) (mem-head q r [] n))

-- ---- shots
pub stock-refs : (v w : SeatView) (c : Chain) (old new : List Root) (loose : List Placed) → w.number ≡ v.number → w.owned ≡ v.owned → AreRoots new w.refs
    → Stock v c old loose → Stock w c new loose
stock-refs v w c old new loose number owned refs s =
    let same : (q : ℕ) → find q w.owned ≡ find q v.owned = λ q. ap (find q) owned in record {
      first = number ∙ s.first;
      refs = refs;
      free = s.free;
      chained = chain-on v w c s.free (λ q m. same q) s.chained;
      all = λ q e has. s.all q e (sym (same q) ∙ has);
      items = loose-stay v w loose (λ q m. same q) s.items;
      apart = s.apart;
    }

-- one reference more to the root of a tree
pub shot-roots : (v w : SeatView) (root : Option ℕ) (height : ℕ) (items : List Row) (rest : List Root)
    → RefersIn v.refs root height items → AreRoots rest v.refs
    → ((r : ℕ) → root ≡ Some r → w ≡ with_ref (tree_of r v.refs) v) → (root ≡ None → w ≡ v)
    → AreRoots (record { row = root; height = height; items = items } ∷ rest) w.refs × (w.owned ≡ v.owned) × (w.number ≡ v.number)
shot-roots v w None height items rest a h some_root empty =
    let is = empty refl in (
      (a, subst (λ (u : SeatView). AreRoots rest u.refs) (sym is) h),
      ap (λ (u : SeatView). u.owned) is,
      ap (λ (u : SeatView). u.number) is,
    )
shot-roots v w (Some r) height items rest a h some_root empty =
    let is = some_root r refl in let t : Row = tree_of r v.refs in
    let now : w.refs ≡ t ∷ v.refs = ap (λ (u : SeatView). u.refs) is in
    let first : tree_of r w.refs ≡ t = ap (tree_of r) now ∙ tree_of-first r t v.refs a.0 in (
      (
        ap tree_word first ∙ a.0,
        subst (λ u. IsTree u height items) (sym first) a.1,
        subst (AreRoots rest) (sym (ap (without_tree r) now ∙ without_tree-first r t v.refs a.0)) h,
      ),
      ap (λ (u : SeatView). u.owned) is,
      ap (λ (u : SeatView). u.number) is,
    )

-- ---- items come and go
pub record Made (v w : SeatView) (d : Chain) (roots : List Root) (p : Placed) (loose : List Placed) : Type 0 where
  pub stock : Stock w d roots (p ∷ loose)
  pub stay : (q : ℕ) → mem q (rows_of loose) ≡ true → find q w.owned ≡ find q v.owned

pub item-made : (v w : SeatView) (c d : Chain) (roots : List Root) (p : Placed) (loose : List Placed) (rs : List ℕ) (s : Stock v c roots loose)
    → s.free ≡ p.row ∷ rs → IsChain v d rs → (e : Entry) × (next : ℕ) × (find p.row v.owned ≡ some e) × IsFreeRow e next → OnlyEntryChanges p.row v w
    → OwnsItem w p.row p.item → ((e : Entry) → find p.row v.owned ≡ some e
    → (f : Entry) × (find p.row w.owned ≡ some f) × (f.own ≡ e.own) × (f.linked ≡ e.linked)) → Made v w d roots p loose
item-made v w c d roots p loose rs s whole rest (e, next, has, free) only owns counts =
    let (f, here, own, linked) = counts e has in
    let same = ap (λ (e : Entry). e.linked) (some-injective owns.entry f (sym owns.has ∙ here)) in record {
      stock = record {
        first = only.same_seat.number ∙ s.first;
        refs = subst (AreRoots roots) (sym only.refs) s.refs;
        free = rs;
        chained = chain-on v w d rs (λ q m. only.others q (λ z. true≢false (sym m ∙ ap (λ k. mem k rs) z
            ∙ strung-apart v p.row rs c.head (subst (LinkedFrom v c.head) whole s.chained.linked_from)))) rest;
        all = λ q g there. ⊎_elim (λ (z : q ≡ p.row). inr (subst (λ k. mem q (k ∷ rows_of loose) ≡ true) z (mem-here q (rows_of loose))))
            (λ (ne : q ≢ p.row). ⊎_elim
            (λ m. ⊎_elim (λ (z : p.row ≡ q). absurd (ne (sym z))) (λ b. inl b.1) (mem-head q p.row rs (subst (λ l. mem q l ≡ true) whole m)))
            (λ m. inr (mem-tail q p.row (rows_of loose) m)) (s.all q g (sym (only.others q ne) ∙ there))) (same_or q p.row);
        items = (record { owns = owns; unlinked = (let a = free.uncounted in omega arith) }, loose-stay v w loose stay s.items);
        apart = distinct-cons p.row (rows_of loose) (mem-not p.row (rows_of loose) (λ m. true≢false (sym first_free ∙ aside p.row m))) s.apart;
      };
      stay = stay;
    }
  where
    first_free : mem p.row s.free ≡ true
    first_free = subst (λ l. mem p.row l ≡ true) (sym whole) (mem-here p.row rs)

    aside : (q : ℕ) → mem q (rows_of loose) ≡ true → mem q s.free ≡ false
    aside q m = loose-aside v c s.free loose q s.chained s.items m

    stay : (q : ℕ) → mem q (rows_of loose) ≡ true → find q w.owned ≡ find q v.owned
    stay q m = only.others q (λ z. true≢false (sym (subst (λ k. mem k s.free ≡ true) (sym z) first_free) ∙ aside q m))

pub record Freed (v w : SeatView) (c d : Chain) (roots : List Root) (loose : List Placed) : Type 0 where
  pub stock : Stock w d roots loose
  pub stay : (q : ℕ) → mem q (rows_of loose) ≡ true → find q w.owned ≡ find q v.owned
  pub spent : c.len ≤ d.len

-- a loose item that went live: the chain stands
pub live-chain : (v u : SeatView) (c : Chain) (roots : List Root) (p : Placed) (loose : List Placed) (t : Row) → (s : Stock v c roots (p ∷ loose))
    → u ≡ published p.row t v → IsChain u c s.free
live-chain v u c roots p loose t s move = chain-on v u c s.free
    (λ q m. ap (λ (x : SeatView). find q x.owned) move ∙ find-else q p.row v.owned (λ z. true≢false (sym (subst (λ k. mem k s.free ≡ true) z m)
    ∙ loose-aside v c s.free (p ∷ loose) p.row s.chained s.items (mem-here p.row (rows_of loose))))) s.chained

-- and its reference was given up
pub item-freed : (v u w : SeatView) (c d : Chain) (roots : List Root) (p : Placed) (loose : List Placed) (t : Row) → Stock v c roots (p ∷ loose)
    → tree_word t ≡ suc p.row → u ≡ published p.row t v → w.refs ≡ without_tree p.row u.refs → ChainGrows u w c d → Freed v w c d roots loose
item-freed v u w c d roots p loose t s here move refs grows =
    let now = grows.chain s.free (live-chain v u c roots p loose t s move) in record {
      stock = record {
        first = grows.owns_more.same_seat.number ∙ ap (λ (x : SeatView). x.number) move ∙ s.first;
        refs = subst (AreRoots roots)
            (sym (refs ∙ ap (without_tree p.row) (ap (λ (x : SeatView). x.refs) move) ∙ without_tree-first p.row t v.refs here)) s.refs;
        free = grows.more ++ s.free;
        chained = now;
        all = all_now;
        items = loose-stay v w loose stay s.items.1;
        apart = distinct-tail p.row (rows_of loose) s.apart;
      };
      stay = stay;
      spent = (let a = s.chained.long in let b = now.long in let l = length-append grows.more s.free in omega arith);
    }
  where
    between : (q : ℕ) → q ≢ p.row → find q u.owned ≡ find q v.owned
    between q ne = ap (λ (x : SeatView). find q x.owned) move ∙ find-else q p.row v.owned ne

    gone : find p.row u.owned ≡ none
    gone = ap (λ (x : SeatView). find p.row x.owned) move ∙ find-without p.row v.owned

    all_now : (q : ℕ) (e : Entry) → find q w.owned ≡ some e → (mem q (grows.more ++ s.free) ≡ true) ⊎ (mem q (rows_of loose) ≡ true)
    all_now q e has = ⊎_elim (λ m. inl (mem-left q grows.more s.free m))
        (λ m. let before = sym (grows.owns_more.same q m) ∙ has in ⊎_elim
        (λ (z : q ≡ p.row). absurd (some-ne-none e (sym (subst (λ k. find k u.owned ≡ some e) z before) ∙ gone)))
        (λ (ne : q ≢ p.row). ⊎_elim (λ a. inl (mem-right q grows.more s.free a))
        (λ a. ⊎_elim (λ (z : p.row ≡ q). absurd (ne (sym z))) (λ b. inr b.1) (mem-head q p.row (rows_of loose) a))
        (s.all q e (sym (between q ne) ∙ before))) (same_or q p.row)) (mem-or q grows.more)

    apart : (q : ℕ) → mem q (rows_of loose) ≡ true → q ≢ p.row
    apart q m z = true≢false (sym (subst (λ k. mem k (rows_of loose) ≡ true) z m) ∙ distinct-head p.row (rows_of loose) s.apart)

    stay : (q : ℕ) → mem q (rows_of loose) ≡ true → find q w.owned ≡ find q v.owned
    stay q m = let o = loose-entry v loose q s.items.1 m in let old = between q (apart q m) in
        grows.owns_more.same q (mem-not q grows.more (λ n. some-ne-none o.0 (sym (old ∙ o.1) ∙ grows.owns_more.fresh q n))) ∙ old

-- a shot changes nothing of the seat but its references
pub seat-held : (v w : SeatView) (root : Option ℕ) → ((r : ℕ) → root ≡ Some r → w ≡ with_ref (tree_of r v.refs) v) → (root ≡ None → w ≡ v)
    → SameSeat v w × (w.owned ≡ v.owned)
seat-held v w None some_root empty = let is = empty refl in (
  record { number = ap (λ (u : SeatView). u.number) is; out = ap (λ (u : SeatView). u.out) is; size = ap (λ (u : SeatView). u.size) is },
  ap (λ (u : SeatView). u.owned) is,
)
seat-held v w (Some r) some_root empty = let is = some_root r refl in (
  record { number = ap (λ (u : SeatView). u.number) is; out = ap (λ (u : SeatView). u.out) is; size = ap (λ (u : SeatView). u.size) is },
  ap (λ (u : SeatView). u.owned) is,
)

-- the first row of a chain that isn't empty
pub first-free : (v : SeatView) (c : Chain) (rs : List ℕ) → IsChain v c rs → 1 ≤ c.len → (r : ℕ) × (us : List ℕ) × (rs ≡ r ∷ us)
first-free v c [] h low = let a = h.long in absurd (omega arith)
first-free v c (r ∷ us) h low = (r, us, refl)

-- ---- another seat comes back
either : (q : ℕ) (ps qs : List (ℕ × Entry)) (e : Entry) → find q (ps ++ qs) ≡ some e → (find q ps ≡ some e) ⊎ (find q qs ≡ some e)
either q [] qs e f = inr f
either q (p ∷ ps) qs e f = ⊎_elim (λ t. inl (rw t.0 (rw t.0 at f))) (λ t. ⊎_elim (λ y. inl (rw t.0 y)) (λ y. inr y) (either q ps qs e (rw t.0 at f)))
    (eqb_tells p.0 q)

pub record Back (v z : SeatView) (c d : Chain) (roots : List Root) (loose : List Placed) : Type 0 where
  pub stock : Stock z d roots loose
  pub stay : (q : ℕ) → mem q (rows_of loose) ≡ true → find q z.owned ≡ find q v.owned
  pub spent : c.len ≤ d.len

pub come-back : (v w m z : SeatView) (c e d : Chain) (roots : List Root) (loose : List Placed) → (s : Stock v c roots loose) → (o : OwnsJust w e) → w.refs ≡ []
    → m ≡ joined v w → ((r : ℕ) (x : Entry) → find r w.owned ≡ some x → find r v.owned ≡ none) → OnlyEntriesChange o.rows m z
    → IsChain z d (o.rows ++ s.free) → Back v z c d roots loose
come-back v w m z c e d roots loose s o refs move apart only chained = record {
  stock = record {
    first = only.same_seat.number ∙ ap (λ (x : SeatView). x.number) move ∙ s.first;
    refs = subst (AreRoots roots) (sym (only.refs ∙ ap (λ (x : SeatView). x.refs) move ∙ ap (λ l. v.refs ++ l) refs ∙ append-nil v.refs)) s.refs;
    free = o.rows ++ s.free;
    chained = chained;
    all = λ q x has. ⊎_elim (λ a. inl (mem-left q o.rows s.free a))
        (λ a. ⊎_elim (λ f. ⊎_elim (λ b. inl (mem-right q o.rows s.free b)) inr (s.all q x f))
        (λ f. absurd (true≢false (sym (o.all q x f) ∙ a)))
        (either q v.owned w.owned x (sym (ap (λ (y : SeatView). find q y.owned) move) ∙ sym (only.others q a) ∙ has))) (mem-or q o.rows);
    items = loose-stay v z loose stay s.items;
    apart = s.apart;
  };
  stay = stay;
  spent = (let a = s.chained.long in let b = chained.long in let l = length-append o.rows s.free in omega arith);
}
  where
    stay : (q : ℕ) → mem q (rows_of loose) ≡ true → find q z.owned ≡ find q v.owned
    stay q k = let x = loose-entry v loose q s.items k in
        let out = mem-not q o.rows (λ n. let (f, has, kind, rest) = strung-free w o.rows e.head q o.chain.linked_from n in
        some-ne-none x.0 (sym x.1 ∙ apart q f has)) in
        only.others q out ∙ ap (λ (y : SeatView). find q y.owned) move ∙ distinct-first q v.owned w.owned x.0 x.1 ∙ sym x.1

-- ---- the order of the loose items is free
loose-append : (v : SeatView) (ps qs : List Placed) → AreLoose v (ps ++ qs) → AreLoose v ps × AreLoose v qs
loose-append v [] qs h = (tt, h)
loose-append v (p ∷ ps) qs h = let o = loose-append v ps qs h.1 in ((h.0, o.0), o.1)

loose-join : (v : SeatView) (ps qs : List Placed) → AreLoose v ps → AreLoose v qs → AreLoose v (ps ++ qs)
loose-join v [] qs h k = k
loose-join v (p ∷ ps) qs h k = (h.0, loose-join v ps qs h.1 k)

pub rows-append : (ps qs : List Placed) → rows_of (ps ++ qs) ≡ rows_of ps ++ rows_of qs
rows-append ps qs = map-append (λ (p : Placed). p.row) ps qs

mem-moved : (q r : ℕ) (ps qs : List ℕ) → mem q (ps ++ r ∷ qs) ≡ true → mem q (r ∷ (ps ++ qs)) ≡ true
mem-moved q r ps qs m = ⊎_elim (λ a. mem-tail q r (ps ++ qs) (mem-left q ps qs a))
    (λ b. ⊎_elim (λ (z : r ≡ q). subst (λ k. mem q (k ∷ (ps ++ qs)) ≡ true) (sym z) (mem-here q (ps ++ qs)))
    (λ c. mem-tail q r (ps ++ qs) (mem-right q ps qs c.1)) (mem-head q r qs b.1)) (mem-append q ps (r ∷ qs) m)

mem-back : (q r : ℕ) (ps qs : List ℕ) → mem q (r ∷ (ps ++ qs)) ≡ true → mem q (ps ++ r ∷ qs) ≡ true
mem-back q r ps qs m = ⊎_elim (λ (z : r ≡ q). mem-right q ps (r ∷ qs) (subst (λ k. mem q (k ∷ qs) ≡ true) (sym z) (mem-here q qs)))
    (λ b. ⊎_elim (λ a. mem-left q ps (r ∷ qs) a) (λ c. mem-right q ps (r ∷ qs) (mem-tail q r qs c.1)) (mem-append q ps qs b.1)) (mem-head q r (ps ++ qs) m)

distinct-moved : (r : ℕ) (ps qs : List ℕ) → IsDistinct eqb (ps ++ r ∷ qs) → IsDistinct eqb (r ∷ (ps ++ qs))
distinct-moved r ps qs h = let o = taken-out ps r qs h in distinct-cons r (ps ++ qs) o.out o.left

distinct-back : (r : ℕ) (ps qs : List ℕ) → IsDistinct eqb (r ∷ (ps ++ qs)) → IsDistinct eqb (ps ++ r ∷ qs)
distinct-back r [] qs h = h
distinct-back r (p ∷ ps) qs h =
    let apart = distinct-head r (p ∷ (ps ++ qs)) h in let rest = distinct-tail r (p ∷ (ps ++ qs)) h in
    let ne : p ≢ r = λ z. true≢false (sym (subst (λ k. mem k (p ∷ (ps ++ qs)) ≡ true) z (mem-here p (ps ++ qs))) ∙ apart) in
    let r_out = mem-not r (ps ++ qs) (λ m. true≢false (sym (mem-tail r p (ps ++ qs) m) ∙ apart)) in
    let p_out = distinct-head p (ps ++ qs) rest in
    distinct-cons p (ps ++ r ∷ qs) (mem-not p (ps ++ r ∷ qs) (λ m. ⊎_elim (λ (z : r ≡ p). ne (sym z)) (λ b. true≢false (sym b.1 ∙ p_out))
    (mem-head p r (ps ++ qs) (mem-moved p r ps qs m))))
    (distinct-back r ps qs (distinct-cons r (ps ++ qs) r_out (distinct-tail p (ps ++ qs) rest)))

pub loose-first : (v : SeatView) (c : Chain) (roots : List Root) (before : List Placed) (p : Placed) (after : List Placed)
    → Stock v c roots (before ++ p ∷ after)
    → Stock v c roots (p ∷ (before ++ after))
loose-first v c roots before p after s =
    let parts = loose-append v before (p ∷ after) s.items in
    let old = rows-append before (p ∷ after) in let new = rows-append before after in record {
      first = s.first;
      refs = s.refs;
      free = s.free;
      chained = s.chained;
      all = λ q e has. ⊎_elim inl (λ m. inr (subst (λ l. mem q (p.row ∷ l) ≡ true) (sym new)
          (mem-moved q p.row (rows_of before) (rows_of after) (subst (λ l. mem q l ≡ true) old m)))) (s.all q e has);
      items = (parts.1.0, loose-join v before after parts.0 parts.1.1);
      apart = subst (λ l. IsDistinct eqb (p.row ∷ l)) (sym new) (distinct-moved p.row (rows_of before) (rows_of after) (subst (IsDistinct eqb) old s.apart));
    }

pub loose-back : (v : SeatView) (c : Chain) (roots : List Root) (before : List Placed) (p : Placed) (after : List Placed)
    → Stock v c roots (p ∷ (before ++ after)) → Stock v c roots (before ++ p ∷ after)
loose-back v c roots before p after s =
    let parts = loose-append v before after s.items.1 in
    let old = rows-append before (p ∷ after) in let new = rows-append before after in record {
      first = s.first;
      refs = s.refs;
      free = s.free;
      chained = s.chained;
      all = λ q e has. ⊎_elim inl (λ m. inr (subst (λ l. mem q l ≡ true) (sym old)
          (mem-back q p.row (rows_of before) (rows_of after) (subst (λ l. mem q (p.row ∷ l) ≡ true) new m)))) (s.all q e has);
      items = loose-join v before (p ∷ after) parts.0 (s.items.0, parts.1);
      apart = subst (IsDistinct eqb) (sym old) (distinct-back p.row (rows_of before) (rows_of after)
          (subst (λ l. IsDistinct eqb (p.row ∷ l)) new s.apart));
    }

-- ---- a list's links change
pub stock-links : (v w : SeatView) (c : Chain) (roots : List Root) (loose : List Placed) (ls : List ℕ) → OnlyLinksChange ls v w
    → ((q : ℕ) → mem q ls ≡ true → mem q (rows_of loose) ≡ true) → ((row : ℕ) (x : Item) → OwnsItem v row x → OwnsItem w row x) → Stock v c roots loose
    → Stock w c roots loose
stock-links v w c roots loose ls o inside stand s = record {
  first = o.only.same_seat.number ∙ s.first;
  refs = subst (AreRoots roots) (sym o.only.refs) s.refs;
  free = s.free;
  chained = chain-on v w c s.free
      (λ q m. o.only.others q (mem-not q ls (λ n. true≢false (sym m ∙ loose-aside v c s.free loose q s.chained s.items (inside q n)))))
      s.chained;
  all = λ q e has. ⊎_elim (λ m. inr (inside q m)) (λ m. s.all q e (sym (o.only.others q m) ∙ has)) (mem-or q ls);
  items = still loose s.items;
  apart = s.apart;
}
  where
    still : (ps : List Placed) → AreLoose v ps → AreLoose w ps
    still [] h = tt
    still (p ∷ ps) h =
        let a = stand p.row p.item h.0.owns in let (d, here, same) = o.entries p.row h.0.owns.entry h.0.owns.has in
        let b = ap (λ (e : Entry). e.linked) (some-injective a.entry d (sym a.has ∙ here)) in
        (record { owns = a; unlinked = b ∙ same.linked ∙ h.0.unlinked }, still ps h.1)
