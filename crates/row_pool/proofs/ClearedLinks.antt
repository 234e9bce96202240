-- A row that reached 0 is cleared link by link, and goes into a chain.
use Rattle.std.proofs.Common.{◌≡◌, ◌≢◌, ℕ, suc, true, false, true≢false, ◌+◌, ◌-◌, ◌<◌, ◌≤◌, List, [], ◌∷◌, ◌++◌, length, sym, refl, ap, subst, ◌∙◌, ⊎_elim}
use Rattle.std.proofs.Common.{length-set, append_assoc, eq-eqb, arith}
use mathlib.Core.Option.{some, none, some-injective, some-ne-none}
use lib.ListN.{get_elem?}
use Rattle.atomic_table.proofs.Lists.{set_else, at_map}
use Rattle.std.proofs.lemmas.List.{length-map}
use Rattle.row_pool.specs.Lists.{mem, find}
use Rattle.row_pool.specs.Trees.{Tree, nil, row, Link, Entry, tree_word, children}
use Rattle.row_pool.specs.SeatView.{SeatView}
use Rattle.row_pool.specs.Layout.{first_link, link_count}
use Rattle.row_pool.specs.Changes.{tree_of, without_tree, with_old_target, entry_of, own_row, relinked, with_link, with_entry, put, freed, written}
use Rattle.row_pool.specs.Views.{Reaches, by_ref, ViewInvariant, TreeShape, Empty}
use Rattle.row_pool.specs.SeatState.{kind_of, SameSeat, LinkAt}
use Rattle.row_pool.specs.Chains.{IsChain, IsFreeRow, OwnsMore, ChainGrows}
use Rattle.row_pool.specs.Loops.{LinksCleared, OwnsMoreBeside}
use Rattle.row_pool.specs.declared.chain.Chain.{Chain}
use Rattle.row_pool.proofs.Words.{at-length, at-some}
use Rattle.row_pool.proofs.Splits.{tree_of-at, without_tree-shorter}
use Rattle.row_pool.proofs.Seats.{same_or, find-here, find-put, each_set}
use Rattle.row_pool.proofs.Chains.{mem-or, mem-head, mem-append, mem-neither, chain-on, chain-aside}

without_tree-given_back : (q : ℕ) (u : Tree) (ts : List Tree) → tree_word u ≡ suc q → without_tree q (with_old_target u ts) ≡ ts
without_tree-given_back q nil ts h = absurd (omega arith)
without_tree-given_back q (row r ws ks) ts h = rw (eq-eqb (suc r) (suc q) h)

pub tree_of-given_back : (q : ℕ) (u : Tree) (ts : List Tree) → tree_word u ≡ suc q → tree_of q (with_old_target u ts) ≡ u
tree_of-given_back q nil ts h = absurd (omega arith)
tree_of-given_back q (row r ws ks) ts h = rw (eq-eqb (suc r) (suc q) h)

pub clearing-start : (t : Tree) (r : ℕ) (old : SeatView) → LinksCleared t r 0 old (own_row t r 0 old)
clearing-start t r old = record {
  refs = refl;
  entry = entry_of t 0 0;
  has = find-here r (entry_of t 0 0) old.owned;
  kind = refl;
  none = refl;
  many = length-map (children t) Link.to;
  cleared = λ m l a. absurd (omega arith);
  left = λ m u a e. at_map Link.to (children t) m u e;
}

pub clearing-skip : (t : Tree) (r k : ℕ) (old v : SeatView) (u : Tree) → get_elem? (children t) k ≡ some u → tree_word u ≡ 0 → LinksCleared t r k old v
    → LinksCleared t r (k + 1) old v
clearing-skip t r k old v nil at is h = record {
  refs = h.refs;
  entry = h.entry;
  has = h.has;
  kind = h.kind;
  none = h.none;
  many = h.many;
  cleared = λ m l a e. ⊎_elim (λ (z : m ≡ k). sym (some-injective (Link.to nil) l (sym (h.left k nil (omega arith) at) ∙ ap (get_elem? h.entry.links) (sym z)
      ∙ e))) (λ n. h.cleared m l (omega arith) e) (same_or m k);
  left = λ m u a e. h.left m u (omega arith) e;
}
clearing-skip t r k old v (row q ws ks) at is h = absurd (omega arith)

-- a row that comes newly is none that was owned
apart : (r : ℕ) (more : List ℕ) (v w : SeatView) (e : Entry) → OwnsMore more v w → find r v.owned ≡ some e → mem r more ≡ false
apart r more v w e g has = ⊎_elim (λ m. absurd (some-ne-none e (sym has ∙ g.fresh r m))) (λ n. n) (mem-or r more)

pub clearing-next : (t : Tree) (r k q : ℕ) (old v w : SeatView) (u : Tree) (h : LinksCleared t r k old v) (more : List ℕ) → get_elem? (children t) k ≡ some u
    → tree_word u ≡ suc q
    → OwnsMore more (relinked r h.entry k u nil v) w → w.refs ≡ without_tree q (with_old_target u v.refs) → LinksCleared t r (k + 1) old w
clearing-next t r k q old v w u h more at is owns_more refs =
    let d : Entry = with_link k (Link.to nil) h.entry in
    let has : find r (relinked r h.entry k u nil v).owned ≡ some d = find-here r d v.owned in
    record {
      refs = refs ∙ without_tree-given_back q u v.refs is ∙ h.refs;
      entry = d;
      has = owns_more.same r (apart r more (relinked r h.entry k u nil v) w d owns_more has) ∙ has;
      kind = h.kind;
      none = h.none;
      many = length-set h.entry.links k (Link.to nil) ∙ h.many;
      cleared = λ m l a e. each_set (λ m l. m < k + 1 → l ≡ Link.to nil) h.entry.links k (Link.to nil) (λ _. refl)
          (λ m l n e a. h.cleared m l (omega arith) e) m l e a;
      left = λ m y a e. set_else h.entry.links k m (Link.to nil) (λ z. omega arith) ∙ h.left m y (omega arith) e;
    }

pub clearing-empty : (t : Tree) (r k : ℕ) (old v : SeatView) (h : LinksCleared t r k old v) → length (children t) ≤ k → Empty h.entry.links
clearing-empty t r k old v h all = λ m l e. let a = at-length h.entry.links m l e in let b = h.many in h.cleared m l (omega arith) e

-- the link k of the row r, which stands in the word w, before it is cleared
pub record NextLink (t : Tree) (r k w : ℕ) (v : SeatView) (e : Entry) : Type 0 where
  pub target : Tree
  pub below : get_elem? (children t) k ≡ some target
  pub at : LinkAt v r w e k (Link.to target)

-- `kind` is what was read of the row's kind, `first` its first link word and `links` the number of its links
pub next-link : (t : Tree) (r k kind first links : ℕ) (old v : SeatView) (h : LinksCleared t r k old v) → TreeShape old.size t → kind ≡ kind_of t
    → first ≡ first_link kind → links ≡ link_count kind → k < links → NextLink t r k (first + k) v h.entry
next-link t r k kind first links old v h shape kind_is first_is links_is low =
    let o = at-some (children t) k (let a = shape.many in let b = links_is ∙ ap link_count kind_is in omega arith) in
    record {
      target = o.0;
      below = o.1;
      at = (h.has, ap (λ z. z + k) (first_is ∙ ap first_link (kind_is ∙ sym h.kind)), h.left k o.0 (omega arith) o.1);
    }

-- the row came to be owned
pub gathers-start : (t : Tree) (r : ℕ) (old : SeatView) (c : Chain) → find r old.owned ≡ none → OwnsMoreBeside r old (own_row t r 0 old) c c
gathers-start t r old c away =
    let w : SeatView = own_row t r 0 old in
    let others : (q : ℕ) → q ≢ r → find q w.owned ≡ find q old.owned = λ q n. sym (find-put q r (entry_of t 0 0) old.owned n) in
    record {
      more = [];
      same_seat = record { number = refl; out = refl; size = refl };
      fresh = λ q m. absurd (true≢false (sym m));
      came = λ q m. absurd (true≢false (sym m));
      same = λ q n _. others q n;
      chain = λ rs h. chain-aside old w r c rs others (λ e f. absurd (some-ne-none e (sym f ∙ away))) h;
    }

-- a link was cleared, and what it led to was dropped
pub gathers-next : (t : Tree) (r k : ℕ) (old v w : SeatView) (u : Tree) (c d d2 : Chain) (h : LinksCleared t r k old v) → 0 < kind_of t
    → OwnsMoreBeside r old v c d
    → ChainGrows (relinked r h.entry k u nil v) w d d2 → OwnsMoreBeside r old w c d2
gathers-next t r k old v w u c d d2 h kind g x =
    let mid : SeatView = relinked r h.entry k u nil v in
    let e : Entry = with_link k (Link.to nil) h.entry in
    let has : find r mid.owned ≡ some e = find-here r e v.owned in
    let others : (q : ℕ) → q ≢ r → find q mid.owned ≡ find q v.owned = λ q n. sym (find-put q r e v.owned n) in
    let used : (f : Entry) → find r v.owned ≡ some f → 0 < f.kind = λ f o. let z = ap (λ (e : Entry). e.kind)
    (some-injective h.entry f (sym h.has ∙ o)) in let y = h.kind in omega arith in
    let new_apart : (q : ℕ) → mem q x.more ≡ true → q ≢ r = λ q m z. some-ne-none e (sym has ∙ ap (λ r. find r mid.owned) (sym z) ∙ x.owns_more.fresh q m) in
    record {
      more = x.more ++ g.more;
      same_seat = record {
        number = x.owns_more.same_seat.number ∙ g.same_seat.number;
        out = x.owns_more.same_seat.out
            ∙ g.same_seat.out;
        size = x.owns_more.same_seat.size ∙ g.same_seat.size;
      };
      fresh = λ q m. ⊎_elim
          (λ a. let none_mid : find q v.owned ≡ none = sym (others q (new_apart q a)) ∙ x.owns_more.fresh q a in
          ⊎_elim (λ b. let o = g.came q b in absurd (some-ne-none o.0 (sym o.1 ∙ none_mid))) (λ b. sym (g.same q (new_apart q a) b)
          ∙ none_mid) (mem-or q g.more))
          (λ b. g.fresh q b.1) (mem-append q x.more g.more m);
      came = λ q m. ⊎_elim (λ a. x.owns_more.came q a)
          (λ b. let o = g.came q b.1 in let n : q ≢ r = λ z. let y = used o.0 (ap (λ r. find r v.owned) (sym z) ∙ o.1) in let y' = o.2 in omega arith in
          (o.0, x.owns_more.same q b.0 ∙ others q n ∙ o.1, o.2)) (mem-append q x.more g.more m);
      same = λ q n m. let b = mem-neither q x.more g.more m in x.owns_more.same q b.0 ∙ others q n ∙ g.same q n b.1;
      chain = λ rs s. rw append_assoc (x.chain (g.more ++ rs) (chain-aside v mid r d (g.more ++ rs) others used (g.chain rs s)));
    }

-- while the row is cleared the chain stays as it is
pub chain-mid : (t : Tree) (r k : ℕ) (old v : SeatView) (u : Tree) (d : Chain) (rs : List ℕ) (h : LinksCleared t r k old v) → 0 < kind_of t → IsChain v d rs
    → IsChain (relinked r h.entry k u nil v) d rs
chain-mid t r k old v u d rs h kind s = chain-aside v (relinked r h.entry k u nil v) r d rs
    (λ q n. sym (find-put q r (with_link k (Link.to nil) h.entry) v.owned n))
    (λ f o. let z = ap (λ (e : Entry). e.kind) (some-injective h.entry f (sym h.has ∙ o)) in let y = h.kind in omega arith) s

-- two changes of one entry leave the others
pub others : (r : ℕ) (a b : Entry) (v : SeatView) (q : ℕ) → q ≢ r → find q (with_entry r b (with_entry r a v)).owned ≡ find q v.owned
others r a b v q n = sym (find-put q r a v.owned n ∙ find-put q r b (put r a v.owned) n)

-- the row went free, and its mark was written
pub record WentFree (r next : ℕ) (v w : SeatView) : Type 0 where
  pub entry : Entry
  pub has : find r w.owned ≡ some entry
  pub free_row : IsFreeRow entry next
  pub refs : w.refs ≡ v.refs
  pub same_seat : SameSeat v w
  pub others : (q : ℕ) → q ≢ r → find q w.owned ≡ find q v.owned

pub went-free : (r next mark : ℕ) (v x w : SeatView) (e : Entry) → x ≡ with_entry r (freed next e) v → w ≡ with_entry r (written 2 mark (freed next e)) x
    → IsFreeRow (written 2 mark (freed next e)) next → WentFree r next v w
went-free r next mark v x w e a b free_row =
    let d : Entry = written 2 mark (freed next e) in
    subst (WentFree r next v) (sym (b ∙ ap (with_entry r d) a)) (record {
      entry = d;
      has = find-here r d (put r (freed next e) v.owned);
      free_row = free_row;
      refs = refl;
      same_seat = record { number = refl; out = refl; size = refl };
      others = others r (freed next e) d v;
    })

-- the chain stays as it is meanwhile
pub chain-after : (t : Tree) (r k next : ℕ) (old v w : SeatView) (d : Chain) (rs : List ℕ) (h : LinksCleared t r k old v) → 0 < kind_of t
    → WentFree r next v w → IsChain v d rs → IsChain w d rs
chain-after t r k next old v w d rs h kind z s = chain-aside v w r d rs z.others
    (λ f o. let z = ap (λ (e : Entry). e.kind) (some-injective h.entry f (sym h.has ∙ o)) in let y = h.kind in omega arith) s

-- the row goes free and into the chain
pub gathers-end : (t : Tree) (r k next : ℕ) (old v w : SeatView) (c d d2 : Chain) (h : LinksCleared t r k old v) → 0 < kind_of t → find r old.owned ≡ none
    → OwnsMoreBeside r old v c d → WentFree r next v w → ((rs : List ℕ) → IsChain w d rs → IsChain w d2 (r ∷ rs)) → ChainGrows old w c d2
gathers-end t r k next old v w c d d2 h kind away g free pushed =
    let used : (f : Entry) → find r v.owned ≡ some f → 0 < f.kind = λ f o. let z = ap (λ (e : Entry). e.kind)
    (some-injective h.entry f (sym h.has ∙ o)) in let y = h.kind in omega arith in
    let new_apart : (q : ℕ) → mem q g.more ≡ true → q ≢ r = λ q m z. let o = g.came q m in let y = used o.0 (ap (λ r. find r v.owned) (sym z)
    ∙ o.1) in let y' = o.2 in omega arith in
    let same = free.same_seat in
    record {
      more = r ∷ g.more;
      owns_more = record {
        same_seat = record { number = same.number ∙ g.same_seat.number; out = same.out ∙ g.same_seat.out; size = same.size ∙ g.same_seat.size };
        fresh = λ q m. ⊎_elim (λ z. ap (λ q. find q old.owned) (sym z) ∙ away) (λ b. g.fresh q b.1) (mem-head q r g.more m);
        came = λ q m. ⊎_elim (λ z. (free.entry, ap (λ q. find q w.owned) (sym z) ∙ free.has, free.free_row.free))
            (λ b. let o = g.came q b.1 in (o.0, free.others q (new_apart q b.1) ∙ o.1, o.2)) (mem-head q r g.more m);
        same = λ q m. let b = mem-neither q (r ∷ []) g.more m in let n : q ≢ r = λ z. true≢false (sym (rw (eq-eqb r q (sym z)) refl) ∙ b.0) in free.others q n
            ∙ g.same q n b.1;
      };
      chain = λ rs s. pushed (g.more ++ rs) (chain-aside v w r d (g.more ++ rs) free.others used (g.chain rs s));
    }

-- nothing came to be owned
pub grows-none : (v w : SeatView) (c : Chain) → w.owned ≡ v.owned → SameSeat v w → ChainGrows v w c c
grows-none v w c owned same_seat = record {
  more = [];
  owns_more = record {
    same_seat = same_seat;
    fresh = λ q m. absurd (true≢false (sym m));
    came = λ q m. absurd (true≢false (sym m));
    same = λ q _. ap
        (find q) owned;
  };
  chain = λ rs h. chain-on v w c rs (λ q _. ap (find q) owned) h;
}

-- what is known of a row that a seat has a reference to
pub record Facts (old : SeatView) (r : ℕ) : Type 0 where
  pub up : Reaches old (tree_of r old.refs)
  pub shape : TreeShape old.size (tree_of r old.refs)
  pub away : find r old.owned ≡ none
  pub shorter : suc (length (without_tree r old.refs)) ≡ length old.refs

pub facts : (old : SeatView) (r : ℕ) → ViewInvariant old → tree_word (tree_of r old.refs) ≡ suc r → Facts old r
facts old r h is =
    let o = tree_of-at r old.refs is in
    record {
      up = by_ref o.0 o.1;
      shape = h.trees (tree_of r old.refs) (by_ref o.0 o.1) (omega arith);
      away = h.apart r (tree_of r old.refs) (by_ref o.0 o.1) is;
      shorter = without_tree-shorter r old.refs is;
    }

pub suc-pred : (m : ℕ) → m ≢ 0 → suc (m - 1) ≡ m
suc-pred m n = omega arith
