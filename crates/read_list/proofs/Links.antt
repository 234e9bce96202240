-- Rows that link to one another, as a list.
use Rattle.std.proofs.Common.{◌≡◌, ℕ, zero, suc, ◌+◌, ◌-◌, ◌<◌, true, false, true≢false, eqb, List, [], ◌∷◌, ◌++◌, length-append, sym, refl, ap}
use Rattle.std.proofs.Common.{◌∙◌, subst, inl, inr, ⊎_elim, arith}
use mathlib.Core.Option.{some}
use Rattle.std.specs.List.{IsDistinct}
use Rattle.std.proofs.lemmas.Map.Steps.{length-le_from_distinct_below}
use Rattle.row_pool.specs.Lists.{find, mem}
use Rattle.row_pool.specs.Trees.{Entry}
use Rattle.row_pool.specs.SeatView.{SeatView}
use Rattle.row_pool.specs.SeatState.{SeatState}
use Rattle.row_pool.specs.Views.{ViewInvariant}
use Rattle.row_pool.specs.Changes.{with_entry, written}
use Rattle.row_pool.proofs.Chains.{mem-head, mem-tail, mem-here, mem-left, mem-right, find-noted, find-noted-else}
use Rattle.row_pool.proofs.Seats.{find-here}
use Rattle.read_list.specs.declared.list.ReadList.{ReadList}
use Rattle.read_list.specs.Lists.{IsItemRow, first_link, last_link, IsCell, Linked, IsReadList, OnlyLinksChange, NamesItemRow, Relinks}
use Rattle.read_list.proofs.Rows.{mem-not, mem-else, mem-differs, any-mem, distinct-cons, distinct-head, distinct-tail, distinct-more}
use Rattle.read_list.proofs.Rows.{TakenOut, taken-out, links-none, links-more, links-then}
use Rattle.read_list.proofs.Rows.{links-put}

-- ---- rows that stay as they are
cell-stays : (v w : SeatView) (r b a : ℕ) → find r w.owned ≡ find r v.owned → IsCell v r b a → IsCell w r b a
cell-stays v w r b a same c = record { entry = c.entry; has = same ∙ c.has; kind = c.kind; before_it = c.before_it; after_it = c.after_it }

linked-stays : (v w : SeatView) (b : ℕ) (rs : List ℕ) (a : ℕ) → ((q : ℕ) → mem q rs ≡ true → find q w.owned ≡ find q v.owned) → Linked v b rs a
    → Linked w b rs a
linked-stays v w b [] a same l = tt
linked-stays v w b (r ∷ rs) a same l = (
  cell-stays v w r b (first_link rs a) (same r (mem-here r rs)) l.0,
  linked-stays v w (suc r) rs a (λ q m. same q (mem-tail q r rs m)) l.1,
)

-- a list stands while its rows stay as they are
pub list-stays : (v w : SeatView) (list : ReadList) (rs : List ℕ) → ((q : ℕ) → mem q rs ≡ true → find q w.owned ≡ find q v.owned) → IsReadList v list rs
    → IsReadList w list rs
list-stays v w list rs same o = record {
  first_row = o.first_row;
  last_row = o.last_row;
  many = o.many;
  linked = linked-stays v w 0 rs 0 same o.linked;
  distinct = o.distinct;
}

-- the rows of a list are items
linked-item : (v : SeatView) (b : ℕ) (rs : List ℕ) (a q : ℕ) → Linked v b rs a → mem q rs ≡ true → IsItemRow v q
linked-item v b [] a q l m = absurd (true≢false (sym m))
linked-item v b (r ∷ rs) a q l m = ⊎_elim (λ z. (l.0.entry, ap (λ r. find r v.owned) (sym z) ∙ l.0.has, l.0.kind)) (λ t. linked-item v (suc r) rs a q l.1 t.1)
    (mem-head q r rs m)

pub list-item : (v : SeatView) (list : ReadList) (rs : List ℕ) (q : ℕ) → IsReadList v list rs → mem q rs ≡ true → IsItemRow v q
list-item v list rs q o m = linked-item v 0 rs 0 q o.linked m

-- ---- a list in parts
first-join : (ps qs : List ℕ) (a : ℕ) → first_link (ps ++ qs) a ≡ first_link ps (first_link qs a)
first-join [] qs a = refl
first-join (p ∷ ps) qs a = refl

last-join : (b : ℕ) (ps qs : List ℕ) → last_link b (ps ++ qs) ≡ last_link (last_link b ps) qs
last-join b [] qs = refl
last-join b (p ∷ ps) qs = last-join (suc p) ps qs

linked-cut : (v : SeatView) (b : ℕ) (ps qs : List ℕ) (a : ℕ) → Linked v b (ps ++ qs) a → Linked v b ps (first_link qs a) × Linked v (last_link b ps) qs a
linked-cut v b [] qs a l = (tt, l)
linked-cut v b (p ∷ ps) qs a l = let o = linked-cut v (suc p) ps qs a l.1 in ((subst (IsCell v p b) (first-join ps qs a) l.0, o.0), o.1)

linked-join : (v : SeatView) (b : ℕ) (ps qs : List ℕ) (a : ℕ) → Linked v b ps (first_link qs a) → Linked v (last_link b ps) qs a → Linked v b (ps ++ qs) a
linked-join v b [] qs a l m = m
linked-join v b (p ∷ ps) qs a l m = (subst (IsCell v p b) (sym (first-join ps qs a)) l.0, linked-join v (suc p) ps qs a l.1 m)

-- ---- one word of one row
-- the entry that the row has then
written-cell : (v : SeatView) (r w link : ℕ) (e : Entry) → find r (with_entry r (written w link e) v).owned ≡ some (written w link e)
written-cell v r w link e = find-here r (written w link e) v.owned

after-set : (v : SeatView) (r b a link : ℕ) → (c : IsCell v r b a) → IsCell (with_entry r (written 10 link c.entry) v) r b link
after-set v r b a link c = record {
  entry = written 10 link c.entry;
  has = written-cell v r 10 link c.entry;
  kind = c.kind;
  before_it = find-noted-else 9 10 link c.entry.known (λ z. omega arith) ∙ c.before_it;
  after_it = find-noted 10 link c.entry.known;
}

before-set : (v : SeatView) (r b a link : ℕ) → (c : IsCell v r b a) → IsCell (with_entry r (written 9 link c.entry) v) r link a
before-set v r b a link c = record {
  entry = written 9 link c.entry;
  has = written-cell v r 9 link c.entry;
  kind = c.kind;
  before_it = find-noted 9 link c.entry.known;
  after_it = find-noted-else 10 9 link c.entry.known (λ z. omega arith) ∙ c.after_it;
}

-- both words of one row
pub once-set : (u v : SeatView) (r b : ℕ) (e : Entry) → v ≡ with_entry r (written 9 b e) u → find r v.owned ≡ some (written 9 b e)
once-set u v r b e is = ap (λ (v : SeatView). find r v.owned) is ∙ written-cell u r 9 b e

pub both-set : (u v w : SeatView) (r b a : ℕ) (e : Entry) → find r u.owned ≡ some e → e.kind ≡ 1 → v ≡ with_entry r (written 9 b e) u
    → w ≡ with_entry r (written 10 a (written 9 b e)) v
    → IsCell w r b a × OnlyLinksChange (r ∷ []) u w
both-set u v w r b a e has kind first second =
    let d : Entry = written 9 b e in (
      record {
        entry = written 10 a d;
        has = ap (λ (w : SeatView). find r w.owned) second ∙ written-cell v r 10 a d;
        kind = kind;
        before_it = find-noted-else 9 10 a d.known (λ z. omega arith) ∙ find-noted 9 b e.known;
        after_it = find-noted 10 a d.known;
      },
      links-then (r ∷ []) u v w (subst (OnlyLinksChange (r ∷ []) u) (sym first) (links-put (r ∷ []) u r 9 b e (inl refl) has (mem-here r [])))
          (subst (OnlyLinksChange (r ∷ []) v) (sym second) (links-put (r ∷ []) v r 10 a d (inr refl) (once-set u v r b e first) (mem-here r []))),
    )

-- the rows ps are followed by another row, whose link is `link`
pub record Follows (v w : SeatView) (b : ℕ) (ps : List ℕ) (a link first first' : ℕ) : Type 0 where
  pub linked : Linked w b ps link
  pub only : OnlyLinksChange ps v w
  pub front : first ≡ first_link ps a → first' ≡ first_link ps link

follows-row : (v w : SeatView) (b p : ℕ) (ps : List ℕ) (a link first first' : ℕ) → Linked v b (p ∷ ps) a → IsDistinct eqb (p ∷ ps)
    → Relinks 10 link (last_link (suc p) ps) first first' v w → Linked w b (p ∷ ps) link × OnlyLinksChange (p ∷ ps) v w × (first' ≡ first)
follows-row v w b p [] a link first first' l d r =
    let is : w ≡ with_entry p (written 10 link l.0.entry) v = r.1 l.0.entry l.0.has in (
      (subst (λ w. IsCell w p b link) (sym is) (after-set v p b a link l.0), tt),
      subst (OnlyLinksChange (p ∷ []) v) (sym is) (links-put (p ∷ []) v p 10 link l.0.entry (inr refl) l.0.has (mem-here p [])),
      r.0,
    )
follows-row v w b p (q ∷ ps) a link first first' l d r =
    let (m, o, same) = follows-row v w (suc p) q ps a link first first' l.1 (distinct-tail p (q ∷ ps) d) r in (
      (cell-stays v w p b (suc q) (o.only.others p (distinct-head p (q ∷ ps) d)) l.0, m),
      links-more (q ∷ ps) (p ∷ q ∷ ps) v w (λ z t. mem-tail z p (q ∷ ps) t) o,
      same,
    )

pub follows : (v w : SeatView) (ps : List ℕ) (a link first first' : ℕ) → Linked v 0 ps a → IsDistinct eqb ps
    → Relinks 10 link (last_link 0 ps) first first' v w → Follows v w 0 ps a link first first'
follows v w [] a link first first' l d r = record { linked = tt; only = subst (OnlyLinksChange [] v) (sym r.1) (links-none [] v); front = λ e. r.0 }
follows v w (p ∷ ps) a link first first' l d r =
    let o = follows-row v w 0 p ps a link first first' l d r in record { linked = o.0; only = o.1; front = λ e. o.2 ∙ e }

-- the rows qs follow another row, whose link is `link`
pub record Precedes (v w : SeatView) (b : ℕ) (qs : List ℕ) (link last last' : ℕ) : Type 0 where
  pub linked : Linked w link qs 0
  pub only : OnlyLinksChange qs v w
  pub back : last ≡ last_link b qs → last' ≡ last_link link qs

pub precedes : (v w : SeatView) (b : ℕ) (qs : List ℕ) (link last last' : ℕ) → Linked v b qs 0 → IsDistinct eqb qs
    → Relinks 9 link (first_link qs 0) last last' v w → Precedes v w b qs link last last'
precedes v w b [] link last last' l d r = record { linked = tt; only = subst (OnlyLinksChange [] v) (sym r.1) (links-none [] v); back = λ e. r.0 }
precedes v w b (q ∷ qs) link last last' l d r =
    let is : w ≡ with_entry q (written 9 link l.0.entry) v = r.1 l.0.entry l.0.has in
    let o : OnlyLinksChange (q ∷ []) v w = subst (OnlyLinksChange (q ∷ []) v) (sym is)
    (links-put (q ∷ []) v q 9 link l.0.entry (inl refl) l.0.has (mem-here q [])) in
    record {
      linked = (
        subst (λ w. IsCell w q link (first_link qs 0)) (sym is) (before-set v q b (first_link qs 0) link l.0),
        linked-stays v w (suc q) qs 0
            (λ r m. o.only.others r (mem-not r (q ∷ []) (λ t. ⊎_elim (λ z. mem-differs r q qs m (distinct-head q qs d) (sym z)) (λ n. true≢false (sym n.1))
            (mem-head r q [] t)))) l.1,
      );
      only = links-more (q ∷ []) (q ∷ qs) v w (λ r t. ⊎_elim (λ z. subst (λ r. mem r (q ∷ qs) ≡ true) z (mem-here q qs)) (λ n. absurd (true≢false (sym n.1)))
          (mem-head r q [] t)) o;
      back = λ e. r.0 ∙ e;
    }

-- ---- links to rows
pub last-named : (v : SeatView) (b : ℕ) (ps : List ℕ) (a : ℕ) → NamesItemRow v b → Linked v b ps a → NamesItemRow v (last_link b ps)
last-named v b [] a n l = n
last-named v b (p ∷ ps) a n l = last-named v (suc p) ps a (l.0.entry, l.0.has, l.0.kind) l.1

pub first-named : (v : SeatView) (b : ℕ) (qs : List ℕ) (a : ℕ) → NamesItemRow v a → Linked v b qs a → NamesItemRow v (first_link qs a)
first-named v b [] a n l = n
first-named v b (q ∷ qs) a n l = (l.0.entry, l.0.has, l.0.kind)

-- a link that isn't 0 names a row of the pool
pub named-low : (v : SeatView) (link : ℕ) → ViewInvariant v → NamesItemRow v link → link - 1 < 4194304
named-low v zero s n = omega arith
named-low v (suc r) s n = let a = (s.rows r n.0 n.1).inside in let b = s.most in omega arith

pub named-after : (v w : SeatView) (rs : List ℕ) (link : ℕ) → OnlyLinksChange rs v w → NamesItemRow v link → NamesItemRow w link
named-after v w rs zero o n = tt
named-after v w rs (suc r) o n = let (d, has, s) = o.entries r n.0 n.1 in (d, has, s.kind ∙ n.2)

-- a list has no more rows than the pool
pub list-short : (v : SeatView) (list : ReadList) (rs : List ℕ) (item : ℕ) → ViewInvariant v → IsReadList v list rs → mem item rs ≡ false → IsItemRow v item
    → list.len < 4194304
list-short v list rs item s o out i =
    let row = λ (q : ℕ) (m : mem q (item ∷ rs) ≡ true). ⊎_elim (λ (z : item ≡ q). subst (IsItemRow v) z i) (λ t. list-item v list rs q o t.1)
    (mem-head q item rs m) in
    let a = length-le_from_distinct_below (item ∷ rs) v.size (distinct-cons item rs out o.distinct)
    (λ q m. let e = row q (any-mem q (item ∷ rs) m) in (s.rows q e.0 e.1).inside) in
    let b = s.most in let d = o.many in omega arith

-- ---- an item comes last
pub pushed : (u v w : SeatView) (old new : ReadList) (rs : List ℕ) (item : ℕ) → IsReadList u old rs → mem item rs ≡ false → IsCell v item old.last 0
    → OnlyLinksChange (item ∷ []) u v → Relinks 10 (item + 1) old.last old.first new.first v w → new.last ≡ item + 1 → new.len ≡ old.len + 1
    → IsReadList w new (rs ++ item ∷ []) × OnlyLinksChange (item ∷ rs) u w
pushed u v w old new rs item o out cell only r last len =
    let stay = linked-stays u v 0 rs 0 (λ q m. only.only.others q (mem-else q item [] (mem-differs q item rs m out) refl)) o.linked in
    let f = follows v w rs 0 (item + 1) old.first new.first stay o.distinct (subst (λ l. Relinks 10 (item + 1) l old.first new.first v w) o.last_row r) in
    let one : item + 1 ≡ suc item = omega arith in (
      record {
        first_row = f.front o.first_row ∙ ap (first_link rs) one ∙ sym (first-join rs (item ∷ []) 0);
        last_row = last ∙ one ∙ sym (last-join 0 rs (item ∷ []));
        many = (let a = o.many in let b = length-append rs (item ∷ []) in omega arith);
        linked = linked-join w 0 rs (item ∷ []) 0 (subst (Linked w 0 rs) one f.linked)
            (subst (λ b. IsCell w item b 0) o.last_row (cell-stays v w item old.last 0 (f.only.only.others item out) cell), tt);
        distinct = distinct-more rs item o.distinct out;
      },
      links-then (item ∷ rs) u v w (links-more (item ∷ []) (item ∷ rs) u v (λ q m. mem-left q (item ∷ []) rs m) only)
          (links-more rs (item ∷ rs) v w (λ q m. mem-tail q item rs m) f.only),
    )

-- ---- an item leaves
-- the parts of a list at one of its items
pub record AtItem (v : SeatView) (ps : List ℕ) (item : ℕ) (qs : List ℕ) : Type 0 where
  pub front : Linked v 0 ps (suc item)
  pub cell : IsCell v item (last_link 0 ps) (first_link qs 0)
  pub back : Linked v (suc item) qs 0
  pub taken : TakenOut ps item qs

pub at-item : (v : SeatView) (list : ReadList) (ps : List ℕ) (item : ℕ) (qs : List ℕ) → IsReadList v list (ps ++ item ∷ qs) → AtItem v ps item qs
at-item v list ps item qs o =
    let l = linked-cut v 0 ps (item ∷ qs) 0 o.linked in
    record { front = l.0; cell = l.1.0; back = l.1.1; taken = taken-out ps item qs o.distinct }

-- what loads of its two words answer
abbrev Told : SeatView → ℕ → ℕ → ℕ → Type 0
Told v r w n = (e : Entry) (m : ℕ) → find r v.owned ≡ some e → find w e.known ≡ some m → n ≡ m

pub record Neighbours (v : SeatView) (ps : List ℕ) (item : ℕ) (qs : List ℕ) (before after : ℕ) : Type 0 where
  pub at : AtItem v ps item qs
  pub before_it : before ≡ last_link 0 ps
  pub after_it : after ≡ first_link qs 0
  pub front : NamesItemRow v before

pub neighbours : (s t : SeatState) (list : ReadList) (ps : List ℕ) (item : ℕ) (qs : List ℕ) (before after : ℕ) → IsReadList s.view list (ps ++ item ∷ qs)
    → t ≡ s → Told s.view item 9 before → Told t.view item 10 after → Neighbours s.view ps item qs before after
neighbours s t list ps item qs before after o same first second =
    let a = at-item s.view list ps item qs o in
    let k = a.cell in
    let is = first k.entry (last_link 0 ps) k.has k.before_it in
    record {
      at = a;
      before_it = is;
      after_it = second k.entry (first_link qs 0) (ap (λ (s : SeatState). find item s.view.owned) same ∙ k.has) k.after_it;
      front = subst (NamesItemRow s.view) (sym is) (last-named s.view 0 ps (suc item) tt a.front);
    }

-- the rows in front of the item link past it, and those behind it don't yet
pub record Halfway (u v : SeatView) (ps : List ℕ) (item : ℕ) (qs : List ℕ) (before after first first' : ℕ) : Type 0 where
  pub before_it : before ≡ last_link 0 ps
  pub after_it : after ≡ first_link qs 0
  pub taken : TakenOut ps item qs
  pub front : Follows u v 0 ps (suc item) after first first'
  pub back : Linked v (suc item) qs 0
  pub behind : NamesItemRow v after

pub half-way : (u v : SeatView) (old : ReadList) (ps : List ℕ) (item : ℕ) (qs : List ℕ) (before after first' : ℕ) → IsReadList u old (ps ++ item ∷ qs)
    → Neighbours u ps item qs before after → Relinks 10 after before old.first first' u v
    → Halfway u v ps item qs before after old.first first'
half-way u v old ps item qs before after first' o n r =
    let a = n.at in
    let f = follows u v ps (suc item) after old.first first' a.front a.taken.front (subst (λ b. Relinks 10 after b old.first first' u v) n.before_it r) in
    let back = linked-stays u v (suc item) qs 0
    (λ q m. f.only.only.others q (mem-not q ps (λ t. true≢false (sym m ∙ a.taken.apart q t)))) a.back in
    record {
      before_it = n.before_it;
      after_it = n.after_it;
      taken = a.taken;
      front = f;
      back = back;
      behind = subst (NamesItemRow v) (sym n.after_it) (first-named v (suc item) qs 0 tt back);
    }

pub unlinked : (u v w : SeatView) (old new : ReadList) (ps : List ℕ) (item : ℕ) (qs : List ℕ) (before after : ℕ) → IsReadList u old (ps ++ item ∷ qs)
    → Halfway u v ps item qs before after old.first new.first → Relinks 9 before after old.last new.last v w → new.len ≡ old.len - 1
    → IsReadList w new (ps ++ qs) × OnlyLinksChange (ps ++ qs) u w × (mem item (ps ++ qs) ≡ false)
unlinked u v w old new ps item qs before after o h s len =
    let g = precedes v w (suc item) qs before old.last new.last h.back h.taken.back (subst (λ a. Relinks 9 before a old.last new.last v w) h.after_it s) in (
      record {
        first_row = h.front.front (o.first_row ∙ first-join ps (item ∷ qs) 0) ∙ ap (first_link ps) h.after_it ∙ sym (first-join ps qs 0);
        last_row = g.back (o.last_row ∙ last-join 0 ps (item ∷ qs)) ∙ ap (λ b. last_link b qs) h.before_it ∙ sym (last-join 0 ps qs);
        many = (let b = o.many in let d = length-append ps (item ∷ qs) in let e = length-append ps qs in omega arith);
        linked = linked-join w 0 ps qs 0 (subst (Linked w 0 ps) h.after_it
            (linked-stays v w 0 ps after (λ q m. g.only.only.others q (h.taken.apart q m)) h.front.linked))
            (subst (λ b. Linked w b qs 0) h.before_it g.linked);
        distinct = h.taken.left;
      },
      links-then (ps ++ qs) u v w (links-more ps (ps ++ qs) u v (λ q m. mem-left q ps qs m) h.front.only)
          (links-more qs (ps ++ qs) v w (λ q m. mem-right q ps qs m) g.only),
      h.taken.out,
    )

-- ---- the first item
pub first-item : (v : SeatView) (list : ReadList) (rs : List ℕ) → IsReadList v list rs → (list.first ≡ 0 → ⊥) → (qs : List ℕ)
    × (rs ≡ (list.first - 1) ∷ qs)
first-item v list [] o some_first = absurd (some_first o.first_row)
first-item v list (r ∷ rs) o some_first = (rs, ap (λ z. z ∷ rs) (let a = o.first_row in omega arith))

pub no-item : (v : SeatView) (list : ReadList) (rs : List ℕ) → IsReadList v list rs → list.first ≡ 0 → rs ≡ []
no-item v list [] o none_first = refl
no-item v list (r ∷ rs) o none_first = (let a = o.first_row in absurd (omega arith))
