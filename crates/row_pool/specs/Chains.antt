-- Chains: lists of free rows that a seat owns, linked through word 1 of the rows.
use Rattle.std.specs.Prelude.{◌≡◌, ℕ, suc, ◌+◌, ◌<◌, ◌≤◌, List, [], ◌∷◌, ◌++◌, length}
use Rattle.std.specs.Prelude.{true, false}
use mathlib.Core.Option.{some, none}
use Rattle.row_pool.specs.Lists.{find, mem}
use Rattle.row_pool.specs.Trees.{Entry}
use Rattle.row_pool.specs.SeatView.{SeatView}
use Rattle.row_pool.specs.Layout.{first_link, link_count}
use Rattle.row_pool.specs.SeatState.{SameSeat}
use Rattle.row_pool.specs.declared.chain.Chain.{Chain}

-- Word 2 of a free row in a chain is a mark: where it holds 0, the words that are links in a node hold 0 already
abbrev pub HasMark : Entry → Type 0
HasMark e = (m : ℕ) × (find 2 e.known ≡ some m) × (m ≡ 0 → (u : ℕ) → first_link 2 ≤ u → u < first_link 2 + link_count 2 → find u e.known ≡ some 0)

-- a row in a chain is free, nothing counts on it, and its word 1 links to the next
pub record IsFreeRow (e : Entry) (next : ℕ) : Type 0 where
  pub free : e.kind ≡ 0
  pub uncounted : e.own + e.linked ≡ 0
  pub chained : find 1 e.known ≡ some next
  pub marked : HasMark e

-- the rows of a chain, which the seat owns; h links to the first
abbrev pub LinkedFrom : SeatView → ℕ → List ℕ → Type 0
LinkedFrom v h [] = h ≡ 0
LinkedFrom v h (r ∷ rs) = (h ≡ suc r) × (e : Entry) × (next : ℕ) × (find r v.owned ≡ some e) × IsFreeRow e next × LinkedFrom v next rs

-- l is the last of the rows, where there are any
abbrev pub EndsWith : List ℕ → ℕ → Type 0
EndsWith [] l = Unit {0}
EndsWith (r ∷ []) l = r ≡ l
EndsWith (r ∷ q ∷ rs) l = EndsWith (q ∷ rs) l

-- the chain has the rows `rs`, in this order, and they are the seat's
pub record IsChain (v : SeatView) (c : Chain) (rs : List ℕ) : Type 0 where
  pub linked_from : LinkedFrom v c.head rs
  pub long : length rs ≡ c.len
  pub ends : EndsWith rs c.last

-- no row is in both
abbrev pub Disjoint : List ℕ → List ℕ → Type 0
Disjoint rs ss = (q : ℕ) → mem q rs ≡ true → mem q ss ≡ false

-- Just the rows `more` came to be owned, as free rows. Each other is owned as it was, or is owned no more than it was
pub record OwnsMore (more : List ℕ) (v w : SeatView) : Type 0 where
  pub same_seat : SameSeat v w
  pub fresh : (r : ℕ) → mem r more ≡ true → find r v.owned ≡ none
  pub came : (r : ℕ) → mem r more ≡ true → (e : Entry) × (find r w.owned ≡ some e) × (e.kind ≡ 0)
  pub same : (r : ℕ) → mem r more ≡ false → find r w.owned ≡ find r v.owned

-- just the rows `more` came to be owned, and they went into the chain
pub record ChainGrows (v w : SeatView) (c d : Chain) : Type 0 where
  pub more : List ℕ
  pub owns_more : OwnsMore more v w
  pub chain : (rs : List ℕ) → IsChain v c rs → IsChain w d (more ++ rs)

-- the first rows `ts` of the rows `rs` were taken, and `us` are left
pub record SplitAt (rs ts us : List ℕ) (k : ℕ) : Type 0 where
  pub whole : rs ≡ ts ++ us
  pub many : length ts ≡ k
