-- What a seat reaches, and what holds of each view between any two steps.
use Rattle.std.specs.Prelude.{◌≡◌, ◌⊎◌, ℕ, suc, ◌+◌, ◌^◌, ◌<◌, ◌≤◌, List, map, length, slice_index}
use mathlib.Core.Option.{some, none}
use lib.ListN.{get_elem?}
use Rattle.row_pool.specs.Lists.{find, KeysDistinct, times_named}
use Rattle.row_pool.specs.Trees.{Tree, nil, Link, link_word, Entry, tree_word, words_of, children, depth}
use Rattle.row_pool.specs.SeatView.{SeatView}
use Rattle.row_pool.specs.Layout.{link_count, first_link}
use Rattle.row_pool.specs.Caps.{row_count, cap_sum}
use Rattle.row_pool.specs.Rule.{refs_to}

-- the trees that a seat may read: of its references, of the links of its owned rows, and what lies below these
pub data Reaches (v : SeatView) : Tree → Type 0 where
  by_ref : {t : Tree} (k : ℕ) → get_elem? v.refs k ≡ some t → Reaches v t
  by_link : {t : Tree} (r : ℕ) (e : Entry) (k : ℕ) → find r v.owned ≡ some e → get_elem? e.links k ≡ some (Link.to t) → Reaches v t
  below : {t u : Tree} (k : ℕ) → Reaches v t → get_elem? (children t) k ≡ some u → Reaches v u

abbrev pub entry_names : ℕ → Entry → ℕ
entry_names r e = times_named r (map link_word e.links)

-- One reference or link of the seat names the row r, and below what the seat reaches nothing does
pub record Alone (r : ℕ) (v : SeatView) : Type 0 where
  pub one : ((refs_to r v ≡ 1) × ((q : ℕ) (e : Entry) → find q v.owned ≡ some e → entry_names r e ≡ 0))
      ⊎ ((refs_to r v ≡ 0) × ((q : ℕ) × (e : Entry) × (find q v.owned ≡ some e) × (entry_names r e ≡ 1)
      × ((p : ℕ) (d : Entry) → (p ≡ q → ⊥) → find p v.owned ≡ some d → entry_names r d ≡ 0)))
  pub below : (t u : Tree) (k : ℕ) → Reaches v t → get_elem? (children t) k ≡ some u → tree_word u ≡ suc r → ⊥

-- What holds of each tree that a seat of a pool of n rows reaches, and of each row that it owns
pub record TreeShape (n : ℕ) (t : Tree) : Type 0 where
  pub inside : tree_word t ≤ n
  pub long : length (words_of t) ≡ 80
  pub shallow : depth t ≤ 4
  pub some_kind : 0 < slice_index (words_of t) 1
  pub many : length (children t) ≡ link_count (slice_index (words_of t) 1)
  pub links : (k : ℕ) (u : Tree) → get_elem? (children t) k ≡ some u → slice_index (words_of t) (first_link (slice_index (words_of t) 1) + k) ≡ tree_word u

pub record EntryShape (n r : ℕ) (e : Entry) : Type 0 where
  pub inside : r < n
  pub inner : (k p : ℕ) → get_elem? e.links k ≡ some (Link.own p) → p < n
  pub many : length e.links ≡ link_count e.kind
  pub one : e.own + e.linked ≤ 1

-- What holds of each view between any two steps
pub record ViewInvariant (v : SeatView) : Type 0 where
  pub trees : (t : Tree) → Reaches v t → 0 < tree_word t → TreeShape v.size t
  pub rows : (r : ℕ) (e : Entry) → find r v.owned ≡ some e → EntryShape v.size r e
  pub apart : (r : ℕ) (t : Tree) → Reaches v t → tree_word t ≡ suc r → find r v.owned ≡ none
  pub keys_distinct : KeysDistinct v.owned
  pub one : (t u : Tree) → Reaches v t → Reaches v u → 0 < tree_word t → tree_word t ≡ tree_word u → t ≡ u
  pub most : v.size ≤ 4194304
  pub few : length v.refs ≤ 2 ^ 32
  -- the rows that the first seat has and the caps of the others make up the pool
  pub covered : v.number ≡ 1 → v.size ≤ row_count v.size v + cap_sum v

abbrev pub Empty : List Link → Type 0
Empty ls = (k : ℕ) (l : Link) → get_elem? ls k ≡ some l → l ≡ Link.to nil
