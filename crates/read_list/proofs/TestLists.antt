-- What the calls do to a seat that has one chain and items alone.
use Rattle.std.proofs.Common.{◌≡◌, ◌≢◌, ◌⊎◌, ℕ, suc, ◌<◌, true, false, true≢false, List, [], ◌∷◌, ◌++◌, length, ◌≤◌, sym, refl, ap, ◌∙◌}
use Rattle.std.proofs.Common.{subst, inl, inr, ⊎_elim, arith}
use mathlib.Core.Option.{some, some-injective, some-ne-none}
use Rattle.atomic_table.specs.Seated.{TableId}
use Rattle.row_pool.specs.Lists.{find, mem}
use Rattle.row_pool.specs.Trees.{Tree, Entry, tree_word}
use Rattle.row_pool.specs.SeatView.{SeatView}
use Rattle.row_pool.specs.Changes.{fresh, with_entry, turned_into, without_tree}
use Rattle.row_pool.specs.SeatState.{SeatState}
use Rattle.row_pool.specs.Chains.{IsChain, ChainGrows}
use Rattle.row_pool.specs.TestSeats.{WentLive}
use Rattle.row_pool.specs.declared.chain.Chain.{Chain}
use Rattle.row_pool.proofs.Seats.{same_or, find-here, find-put}
use Rattle.row_pool.proofs.Writes.{nil_links-none}
use Rattle.row_pool.proofs.FirstState.{free-at}
use Rattle.row_pool.proofs.NewestRef.{without_tree-first}
use Rattle.row_pool.proofs.Chains.{mem-head, mem-tail, mem-here, mem-or, mem-left, mem-right, mem-append, chain-on, chain-one, strung-free, strung-apart}
use Rattle.read_list.specs.Lists.{OnlyLinksChange}
use Rattle.read_list.specs.TestLists.{IsBareItem, Stock}
use Rattle.read_list.proofs.Rows.{mem-not, mem-differs}

pub stock-fresh : (p : TableId) (s : SeatState) (c : Chain) (n : ℕ) (rs : List ℕ) → s.table ≡ p → s.view ≡ fresh n → IsChain (fresh n) c rs
    → ((q : ℕ) → q < n → mem q rs ≡ true) → Stock p s c rs []
stock-fresh p s c n rs table move on all = record {
  table = table;
  refs = ap (λ (v : SeatView). v.refs) move;
  chain = chain-on (fresh n) s.view c rs (λ q _. ap (λ (v : SeatView). find q v.owned) move) on;
  all = λ q e f. let o = free-at n 0 n q e (sym (ap (λ (v : SeatView). find q v.owned) move) ∙ f) in inl (all q (let a = o.1 in omega arith));
  bare = λ q m. absurd (true≢false (sym m));
}

-- a row of the chain is no item
pub chained-apart : (p : TableId) (s : SeatState) (c : Chain) (rs items : List ℕ) (q : ℕ) → Stock p s c rs items → mem q rs ≡ true → mem q items ≡ true → ⊥
chained-apart p s c rs items q h m i =
    let f = strung-free s.view rs c.head q h.chain.linked_from m in
    let b = h.bare q i in
    let same : f.0 ≡ b.0 = some-injective f.0 b.0 (sym f.1 ∙ b.1) in
    let k : f.0.kind ≡ b.0.kind = ap (λ (e : Entry). e.kind) same in
    let zero_kind = f.2 in
    let one_kind = b.2.kind in
    absurd (omega arith)

-- the same items in another order
pub stock-as : (p : TableId) (s : SeatState) (c : Chain) (rs items others : List ℕ) → Stock p s c rs items
    → ((q : ℕ) → mem q items ≡ true → mem q others ≡ true) → ((q : ℕ) → mem q others ≡ true → mem q items ≡ true) → Stock p s c rs others
stock-as p s c rs items others h on back = record {
  table = h.table;
  refs = h.refs;
  chain = h.chain;
  all = λ q e f. ⊎_elim (λ m. inl m) (λ m. inr (on q m)) (h.all q e f);
  bare = λ q m. h.bare q (back q m);
}

-- the first row of the chain became an item
pub stock-made : (p : TableId) (s n : SeatState) (c d : Chain) (r : ℕ) (e : Entry) (us items : List ℕ) → Stock p s c (r ∷ us) items → IsChain s.view d us
    → e.linked ≡ 0 → n.table ≡ s.table → n.view ≡ with_entry r (turned_into 1 e) s.view → Stock p n d us (r ∷ items)
stock-made p s n c d r e us items h on unlinked table move = record {
  table = table ∙ h.table;
  refs = ap (λ (v : SeatView). v.refs) move ∙ h.refs;
  chain = chain-on s.view n.view d us (λ q m. else q (mem-differs q r us m (strung-apart s.view r us c.head h.chain.linked_from))) on;
  all = λ q f g. ⊎_elim (λ (z : q ≡ r). inr (subst (λ q. mem q (r ∷ items) ≡ true) (sym z) (mem-here r items)))
      (λ ne. ⊎_elim (λ m. ⊎_elim (λ z. absurd (ne (sym z))) (λ o. inl o.1) (mem-head q r us m)) (λ m. inr (mem-tail q r items m))
      (h.all q f (sym (else q ne) ∙ g))) (same_or q r);
  bare = λ q m. ⊎_elim (λ (z : r ≡ q). subst (λ q. (x : Entry) × (find q n.view.owned ≡ some x) × IsBareItem x) z here)
      (λ o. let b = h.bare q o.1 in (b.0, else q (λ z. o.0 (sym z)) ∙ b.1, b.2)) (mem-head q r items m);
}
  where
    else : (q : ℕ) → q ≢ r → find q n.view.owned ≡ find q s.view.owned
    else q ne = ap (λ (v : SeatView). find q v.owned) move ∙ sym (find-put q r (turned_into 1 e) s.view.owned ne)

    here : (x : Entry) × (find r n.view.owned ≡ some x) × IsBareItem x
    here = (
      turned_into 1 e,
      ap (λ (v : SeatView). find r v.owned) move ∙ find-here r (turned_into 1 e) s.view.owned,
      record { kind = refl; unlinked = unlinked; links = nil_links-none },
    )

-- the links of items changed
pub stock-links : (p : TableId) (s n : SeatState) (c : Chain) (rs items qs : List ℕ) → Stock p s c rs items → n.table ≡ s.table
    → OnlyLinksChange qs s.view n.view → ((q : ℕ) → mem q qs ≡ true → mem q items ≡ true) → Stock p n c rs items
stock-links p s n c rs items qs h table o inside = record {
  table = table ∙ h.table;
  refs = o.only.refs ∙ h.refs;
  chain = chain-on s.view n.view c rs (λ q m. o.only.others q (mem-not q qs (λ i. chained-apart p s c rs items q h m (inside q i)))) h.chain;
  all = λ q e f. ⊎_elim (λ i. inr (inside q i)) (λ out. h.all q e (sym (o.only.others q out) ∙ f)) (mem-or q qs);
  bare = λ q m. let b = h.bare q m in let d = o.entries q b.0 b.1 in
      (d.0, d.1, record { kind = d.2.kind ∙ b.2.kind; unlinked = d.2.linked ∙ b.2.unlinked; links = d.2.links ∙ b.2.links });
}

-- the chain stays where an item goes live
pub chain-beside : (p : TableId) (s : SeatState) (c : Chain) (rs items : List ℕ) (r : ℕ) (t : Tree) (w : SeatView) → Stock p s c rs items
    → mem r items ≡ true → WentLive r t [] s.view w → IsChain w c rs
chain-beside p s c rs items r t w h i live =
    chain-on s.view w c rs (λ q m. live.others q (λ z. chained-apart p s c rs items r h (subst (λ q. mem q rs ≡ true) z m) i)) h.chain

-- an item went live and was dropped
pub stock-dropped : (p : TableId) (s m n : SeatState) (c d : Chain) (r : ℕ) (t : Tree) (rs items left : List ℕ) → Stock p s c rs items → mem r items ≡ true
    → WentLive r t [] s.view m.view → tree_word t ≡ suc r → m.table ≡ s.table → n.table ≡ m.table → n.view.refs ≡ without_tree r m.view.refs
    → ChainGrows m.view n.view c d
    → ((q : ℕ) → mem q items ≡ true → q ≢ r → mem q left ≡ true) → ((q : ℕ) → mem q left ≡ true → (mem q items ≡ true) × (q ≢ r))
    → (us : List ℕ) × Stock p n d us left × ((q : ℕ) → mem q left ≡ true → find q n.view.owned ≡ find q s.view.owned)
stock-dropped p s m n c d r t rs items left h i live is table table' refs g on back = (
  g.more ++ rs,
  record {
    table = table' ∙ table ∙ h.table;
    refs = refs ∙ ap (without_tree r) live.refs ∙ without_tree-first r t [] is;
    chain = g.chain rs (chain-beside p s c rs items r t m.view h i live);
    all = λ q e f. ⊎_elim (λ a. inl (mem-left q g.more rs a)) (λ out. gone q e (sym (g.owns_more.same q out) ∙ f)) (mem-or q g.more);
    bare = λ q a. let b = h.bare q (back q a).0 in (b.0, stays q a ∙ b.1, b.2);
  },
  stays,
)
  where
    stays : (q : ℕ) → mem q left ≡ true → find q n.view.owned ≡ find q s.view.owned
    stays q a =
        let k = back q a in
        let b = h.bare q k.0 in
        let same = live.others q k.1 in
        g.owns_more.same q (mem-not q g.more (λ y. some-ne-none b.0 (sym (same ∙ b.1) ∙ g.owns_more.fresh q y))) ∙ same

    gone : (q : ℕ) (e : Entry) → find q m.view.owned ≡ some e → (mem q (g.more ++ rs) ≡ true) ⊎ (mem q left ≡ true)
    gone q e f = ⊎_elim (λ (z : q ≡ r). absurd (some-ne-none e (sym f ∙ ap (λ q. find q m.view.owned) z ∙ live.gone)))
        (λ ne. ⊎_elim (λ a. inl (mem-right q g.more rs a)) (λ a. inr (on q a ne)) (h.all q e (sym (live.others q ne) ∙ f))) (same_or q r)

-- where one row is taken out of a list
pub taken-on : (ps qs : List ℕ) (r q : ℕ) → mem q (ps ++ r ∷ qs) ≡ true → q ≢ r → mem q (ps ++ qs) ≡ true
taken-on ps qs r q m ne = ⊎_elim (λ a. mem-left q ps qs a) (λ b. ⊎_elim (λ z. absurd (ne (sym z))) (λ o. mem-right q ps qs o.1) (mem-head q r qs b.1))
    (mem-append q ps (r ∷ qs) m)

pub taken-back : (ps qs : List ℕ) (r q : ℕ) → mem q (ps ++ qs) ≡ true → mem q (ps ++ r ∷ qs) ≡ true
taken-back ps qs r q m = ⊎_elim (λ a. mem-left q ps (r ∷ qs) a) (λ b. mem-right q ps (r ∷ qs) (mem-tail q r qs b.1)) (mem-append q ps qs m)

pub last-on : (r q : ℕ) (items : List ℕ) → mem q (r ∷ items) ≡ true → mem q (items ++ r ∷ []) ≡ true
last-on r q items m = ⊎_elim (λ z. mem-right q items (r ∷ []) (subst (λ q. mem q (r ∷ []) ≡ true) z (mem-here r [])))
    (λ o. mem-left q items (r ∷ []) o.1) (mem-head q r items m)

pub last-back : (r q : ℕ) (items : List ℕ) → mem q (items ++ r ∷ []) ≡ true → mem q (r ∷ items) ≡ true
last-back r q items m = ⊎_elim (λ a. mem-tail q r items a) (λ b. ⊎_elim (λ z. subst (λ q. mem q (r ∷ items) ≡ true) z (mem-here r items))
    (λ o. absurd (true≢false (sym o.1))) (mem-head q r [] b.1)) (mem-append q items (r ∷ []) m)

-- a free row is no item
pub free-apart : (p : TableId) (s : SeatState) (c : Chain) (rs items : List ℕ) (r : ℕ) (e : Entry) → Stock p s c rs items → find r s.view.owned ≡ some e
    → e.kind ≡ 0 → mem r items ≡ false
free-apart p s c rs items r e h has free = mem-not r items (λ i.
    let b = h.bare r i in
    let same : e ≡ b.0 = some-injective e b.0 (sym has ∙ b.1) in
    let k : e.kind ≡ b.0.kind = ap (λ (e : Entry). e.kind) same in
    let one_kind = b.2.kind in
    absurd (omega arith))

-- one chain has one list of rows
pub chain-length : (p : TableId) (s : SeatState) (c : Chain) (rs us : List ℕ) (items others : List ℕ) → Stock p s c rs items → Stock p s c us others
    → 1 ≤ length rs → 1 ≤ length us
chain-length p s c rs us items others h g some_row = let z = ap length (chain-one s.view c rs us h.chain g.chain) in omega arith

pub none-left : (xs : List ℕ) → length xs ≡ 0 → xs ≡ []
none-left [] h = refl
none-left (x ∷ xs) h = absurd (omega arith)
