-- What holds in the loops of the calls: a walk along a chain, links that are cleared one by one, words that are set to 0.
use Rattle.std.specs.Prelude.{◌≡◌, ℕ, ◌+◌, ◌<◌, ◌≤◌, List, ◌++◌, length}
use Rattle.std.specs.Prelude.{true, false}
use mathlib.Core.Option.{some, none}
use lib.ListN.{get_elem?}
use Rattle.row_pool.specs.Lists.{find, mem}
use Rattle.row_pool.specs.Trees.{Tree, nil, Link, Entry, children}
use Rattle.row_pool.specs.SeatView.{SeatView}
use Rattle.row_pool.specs.Layout.{first_link}
use Rattle.row_pool.specs.Changes.{without_tree}
use Rattle.row_pool.specs.SeatState.{SameSeat, kind_of}
use Rattle.row_pool.specs.Chains.{LinkedFrom, EndsWith, IsChain, SplitAt}
use Rattle.row_pool.specs.declared.chain.Chain.{Chain}

-- the k-th of the rows `rs` of a chain is `row`, and `next` links to the others
pub record KthRow (v : SeatView) (rs : List ℕ) (k row next : ℕ) : Type 0 where
  pub ts : List ℕ
  pub us : List ℕ
  pub parts : SplitAt rs ts us k
  pub ends : EndsWith ts row
  pub rest : LinkedFrom v next us

-- the row's links below k are empty, and the others are as the tree says
pub record LinksCleared (t : Tree) (r k : ℕ) (old v : SeatView) : Type 0 where
  pub refs : v.refs ≡ without_tree r old.refs
  pub entry : Entry
  pub has : find r v.owned ≡ some entry
  pub kind : entry.kind ≡ kind_of t
  pub none : entry.own + entry.linked ≡ 0
  pub many : length entry.links ≡ length (children t)
  pub cleared : (m : ℕ) (l : Link) → m < k → get_elem? entry.links m ≡ some l → l ≡ Link.to nil
  pub left : (m : ℕ) (u : Tree) → k ≤ m → get_elem? (children t) m ≡ some u → get_elem? entry.links m ≡ some (Link.to u)

-- the same as `Grows`, where the row r has come to be owned besides
pub record OwnsMoreBeside (r : ℕ) (v w : SeatView) (c d : Chain) : Type 0 where
  pub more : List ℕ
  pub same_seat : SameSeat v w
  pub fresh : (q : ℕ) → mem q more ≡ true → find q v.owned ≡ none
  pub came : (q : ℕ) → mem q more ≡ true → (e : Entry) × (find q w.owned ≡ some e) × (e.kind ≡ 0)
  pub same : (q : ℕ) → (q ≡ r → ⊥) → mem q more ≡ false → find q w.owned ≡ find q v.owned
  pub chain : (rs : List ℕ) → IsChain v c rs → IsChain w d (more ++ rs)

-- the entry of a free row, with k words from a node's first link on known to hold 0
pub record HasZeros (k : ℕ) (e d : Entry) : Type 0 where
  pub free : d.kind ≡ 0
  pub own : d.own ≡ e.own
  pub linked : d.linked ≡ e.linked
  pub zeros : (u : ℕ) → first_link 2 ≤ u → u < first_link 2 + k → find u d.known ≡ some 0
