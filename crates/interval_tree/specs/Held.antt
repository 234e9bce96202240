-- What a seat knows of the nodes that it owns, and what a call leaves as it was.
use Rattle.std.specs.Prelude.{◌≡◌, ◌≢◌, ℕ, ◌+◌, ◌≤◌, false, List, ◌++◌, map, length, suc}
use mathlib.Core.Option.{some}
use Rattle.row_pool.specs.Trees.{Tree, Entry, to, tree_word, children}
use Rattle.row_pool.specs.SeatView.{SeatView}
use Rattle.row_pool.specs.SeatState.{SameSeat}
use Rattle.row_pool.specs.Lists.{find, mem}
use Rattle.row_pool.specs.Chains.{IsChain}
use Rattle.row_pool.specs.declared.chain.Chain.{Chain}
use Rattle.latch_item.specs.Items.{word}

-- the seat owns the row as a node of this kind with n items and links to the trees `us`
pub record OwnsNode (v : SeatView) (row kind n : ℕ) (us : List Tree) : Type 0 where
  pub entry : Entry
  pub has : find row v.owned ≡ some entry
  pub is_kind : entry.kind ≡ kind
  pub low : 2 ≤ kind
  pub high : kind ≤ 3
  pub links : entry.links ≡ map to us
  pub apart : entry.linked ≡ 0
  pub count : find 2 entry.known ≡ some n
  pub said : find 1 entry.known ≡ some kind

-- the live row is a node of this kind with n items and links to the trees `us`
pub record IsNodeRow (t : Tree) (row kind n : ℕ) (us : List Tree) : Type 0 where
  pub here : tree_word t ≡ suc row
  pub kind_is : word t 1 ≡ kind
  pub count : word t 2 ≡ n
  pub links : children t ≡ us

-- the entry of each other row is as it was
pub record OthersStand (row : ℕ) (v w : SeatView) : Type 0 where
  pub same_seat : SameSeat v w
  pub rows : (q : ℕ) → q ≢ row → find q w.owned ≡ find q v.owned

-- the seat owns the row with this entry, and it is none of these rows
abbrev pub OwnsBeside : List ℕ → SeatView → ℕ → Entry → Type 0
OwnsBeside rs v q e = (mem q rs ≡ false) × (find q v.owned ≡ some e)

-- Beside the rows `rs` before and the rows `ss` afterwards the seat owns the same rows, with the same entries
pub record Frame (rs ss : List ℕ) (v w : SeatView) : Type 0 where
  pub same_seat : SameSeat v w
  pub kept : (q : ℕ) (e : Entry) → OwnsBeside rs v q e → OwnsBeside ss w q e
  pub only : (q : ℕ) (e : Entry) → OwnsBeside ss w q e → OwnsBeside rs v q e

-- The chain of the rows `rs` has lost at most k rows, and the seat works on the rows `ys` now in place of the rows `xs`. All else that it owns stands
pub record Spends (k : ℕ) (xs ys rs : List ℕ) (v w : SeatView) (c : Chain) : Type 0 where
  pub left : List ℕ
  pub chain : IsChain w c left
  pub spent : length rs ≤ length left + k
  pub frame : Frame (xs ++ rs) (ys ++ left) v w

-- the chain has at least k rows
abbrev pub HasRoom : ℕ → SeatView → Chain → Type 0
HasRoom k v c = (rs : List ℕ) × IsChain v c rs × (k ≤ length rs)
