-- A list that runs through the words 9 and 10 of owned item rows: 9 links to the row in front, 10 to the row behind. A link is a row number and 1, or 0.
use Rattle.std.specs.Prelude.{◌≡◌, ◌≢◌, ℕ, zero, suc, List, [], ◌∷◌, length, eqb}
use Rattle.std.specs.List.{IsDistinct}
use mathlib.Core.Option.{some}
use Rattle.row_pool.specs.Lists.{find}
use Rattle.row_pool.specs.Trees.{Entry}
use Rattle.row_pool.specs.SeatView.{SeatView}
use Rattle.row_pool.specs.SeatState.{OnlyEntriesChange}
use Rattle.row_pool.specs.Changes.{with_entry, written}
use Rattle.read_list.specs.declared.list.ReadList.{ReadList}

-- the seat owns the row, which is an item
abbrev pub IsItemRow : SeatView → ℕ → Type 0
IsItemRow v r = (e : Entry) × (find r v.owned ≡ some e) × (e.kind ≡ 1)

-- the link to the first of the rows; where there are none, the link to what stands behind them
abbrev pub first_link : List ℕ → ℕ → ℕ
first_link [] after = after
first_link (r ∷ rs) after = suc r

-- the link to the last of the rows; where there are none, the link to what stands in front of them
abbrev pub last_link : ℕ → List ℕ → ℕ
last_link before [] = before
last_link before (r ∷ rs) = last_link (suc r) rs

-- an owned item row with its two links
pub record IsCell (v : SeatView) (r before after : ℕ) : Type 0 where
  pub entry : Entry
  pub has : find r v.owned ≡ some entry
  pub kind : entry.kind ≡ 1
  pub before_it : find 9 entry.known ≡ some before
  pub after_it : find 10 entry.known ≡ some after

-- the rows link to one another in this order, the first one back to `before` and the last one on to `after`
abbrev pub Linked : SeatView → ℕ → List ℕ → ℕ → Type 0
Linked v before [] after = Unit {0}
Linked v before (r ∷ rs) after = IsCell v r before (first_link rs after) × Linked v (suc r) rs after

-- the seat owns these different item rows, and they are the list in this order
pub record IsReadList (v : SeatView) (list : ReadList) (rs : List ℕ) : Type 0 where
  pub first_row : list.first ≡ first_link rs 0
  pub last_row : list.last ≡ last_link 0 rs
  pub many : list.len ≡ length rs
  pub linked : Linked v 0 rs 0
  pub distinct : IsDistinct eqb rs

-- an entry is as before, but for what the words of a list hold
pub record SameButLinks (e d : Entry) : Type 0 where
  pub kind : d.kind ≡ e.kind
  pub own : d.own ≡ e.own
  pub linked : d.linked ≡ e.linked
  pub links : d.links ≡ e.links
  pub words : (w : ℕ) → w ≢ 9 → w ≢ 10 → find w d.known ≡ find w e.known

-- of the rows `rs` alone the words of a list change, and nothing else does
pub record OnlyLinksChange (rs : List ℕ) (v w : SeatView) : Type 0 where
  pub only : OnlyEntriesChange rs v w
  pub entries : (q : ℕ) (e : Entry) → find q v.owned ≡ some e → (d : Entry) × (find q w.owned ≡ some d) × SameButLinks e d

-- a link is 0, or names an owned item row
abbrev pub NamesItemRow : SeatView → ℕ → Type 0
NamesItemRow v zero = Unit {0}
NamesItemRow v (suc r) = IsItemRow v r

-- the word of the row that the link `neighbour` names gets another link; where `neighbour` is 0, the end of the list gets it
abbrev pub Relinks : ℕ → ℕ → ℕ → ℕ → ℕ → SeatView → SeatView → Type 0
Relinks word link zero end end' v w = (end' ≡ link) × (w ≡ v)
Relinks word link (suc r) end end' v w = (end' ≡ end)
    × ((e : Entry) → find r v.owned ≡ some e → w ≡ with_entry r (written word link e) v)
