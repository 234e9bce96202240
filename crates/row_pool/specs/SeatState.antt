-- What the contracts say of a seat.
use Rattle.std.specs.Prelude.{Option as Maybe, None, Some, ◌≡◌, ◌⊎◌, ℕ, zero, suc, ◌+◌, ◌*◌, List, [], slice_index}
use Rattle.std.specs.Prelude.{false, refl}
use mathlib.Core.Option.{some}
use lib.ListN.{get_elem?}
use package.base.Stored.{Coded, coded_ℕ, coded×}
use denote.Struct.Codes.{code_by}
use Rattle.atomic_table.specs.Seated.{TableId, table_id_coded}
use Rattle.atomic_table.specs.Table.{Me}
use Rattle.row_pool.specs.Lists.{find, mem}
use Rattle.row_pool.specs.Trees.{Tree, Link, Entry, tree_word, words_of}
use Rattle.row_pool.specs.SeatView.{SeatView, view_coded}
use Rattle.row_pool.specs.Layout.{first_link, link_count}
use Rattle.row_pool.specs.Changes.{nil_links}
use Rattle.row_pool.specs.Views.{Reaches, ViewInvariant}

pub record SeatState : Type 0 where
  pub table : TableId
  pub view : SeatView
  pub follows : ℕ

abbrev pub state_coded : Coded SeatState
state_coded = code_by (TableId × (SeatView × ℕ)) (coded× table_id_coded (coded× view_coded coded_ℕ)) (λ (k : SeatState). (k.table, (k.view, k.follows)))
    (λ z. record { table = z.0; view = z.1.0; follows = z.1.1 }) (λ _. refl)

abbrev pub kind_of : Tree → ℕ
kind_of t = slice_index (words_of t) 1

-- the seat reaches the row, or owns it
abbrev pub OwnsOrReaches : SeatView → ℕ → Type 0
OwnsOrReaches v r = ((t : Tree) × Reaches v t × (tree_word t ≡ suc r)) ⊎ ((e : Entry) × (find r v.owned ≡ some e))

-- the same, and P holds of the row's kind
abbrev pub OwnsOrReachesAs : (ℕ → Type 0) → SeatView → ℕ → Type 0
OwnsOrReachesAs P v r = ((t : Tree) × Reaches v t × (tree_word t ≡ suc r) × P (kind_of t)) ⊎ ((e : Entry) × (find r v.owned ≡ some e) × P e.kind)

-- the link l is the link k of the owned row r, whose entry is e; it stands in the word w
abbrev pub LinkAt : SeatView → ℕ → ℕ → Entry → ℕ → Link → Type 0
LinkAt v r w e k l = (find r v.owned ≡ some e) × (w ≡ first_link e.kind + k) × (get_elem? e.links k ≡ some l)

-- the link k of the owned row q, whose entry is d, leads to the live row r, which stands for t
abbrev pub LinksToLive : SeatView → ℕ → ℕ → ℕ → Entry → Tree → Type 0
LinksToLive v r q k d t = (find q v.owned ≡ some d) × (get_elem? d.links k ≡ some (Link.to t)) × (tree_word t ≡ suc r)

-- the link k of the owned row q, whose entry is d, leads to the owned row r
abbrev pub LinksToOwned : SeatView → ℕ → ℕ → ℕ → Entry → Type 0
LinksToOwned v r q k d = (find q v.owned ≡ some d) × (get_elem? d.links k ≡ some (Link.own r))

-- the row that a link word names
abbrev pub row_of : ℕ → Maybe ℕ
row_of zero = None
row_of (suc r) = Some r

abbrev pub link_to : Maybe ℕ → ℕ
link_to None = 0
link_to (Some r) = suc r

-- the same pool, and no link was followed
abbrev pub OnlyViewChanges : SeatState → SeatState → Type 0
OnlyViewChanges old new = (new.table ≡ old.table) × (new.follows ≡ old.follows)

-- what holds of a seat and of the table that it fits
pub record SeatInvariant {S : Type 0} (table : TableId) (me : Me S SeatView) : Type 0 where
  pub empty : me.1 ≡ []
  pub words : table.words ≡ me.0.size * 80
  pub sound : ViewInvariant me.0
  pub unspent : me.0.number ≡ 0 → ⊥

-- what the seat is stays as it was
pub record SameSeat (v w : SeatView) : Type 0 where
  pub number : w.number ≡ v.number
  pub out : w.out ≡ v.out
  pub size : w.size ≡ v.size

-- of the rows `rs` alone the entries change, and nothing else does
pub record OnlyEntriesChange (rs : List ℕ) (v w : SeatView) : Type 0 where
  pub same_seat : SameSeat v w
  pub refs : w.refs ≡ v.refs
  pub others : (q : ℕ) → mem q rs ≡ false → find q w.owned ≡ find q v.owned

-- one entry changes, and nothing else does
pub record OnlyEntryChanges (r : ℕ) (v w : SeatView) : Type 0 where
  pub same_seat : SameSeat v w
  pub refs : w.refs ≡ v.refs
  pub others : (q : ℕ) → (q ≡ r → ⊥) → find q w.owned ≡ find q v.owned

-- a free row that became a node, whose links are empty
pub record IsNewNode (kind : ℕ) (e d : Entry) : Type 0 where
  pub is : d.kind ≡ kind
  pub own : d.own ≡ e.own
  pub linked : d.linked ≡ e.linked
  pub links : d.links ≡ nil_links (link_count kind)
  pub said : find 1 d.known ≡ some kind
