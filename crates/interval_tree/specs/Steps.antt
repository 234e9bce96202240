-- What the calls on the links of nodes need, and what they do. The newest reference of the seat, or nothing, goes into a link of an owned node, and what the
-- link held becomes the newest reference.
use Rattle.std.specs.Prelude.{◌≡◌, ◌≢◌, ℕ, suc, ◌+◌, ◌^◌, ◌<◌, ◌≤◌, IsTrue, List, ◌∷◌, ◌++◌, length, replicate}
use mathlib.Core.Option.{none}
use Rattle.row_pool.specs.Trees.{Tree, nil, tree_word, children, depth}
use Rattle.row_pool.specs.SeatView.{SeatView}
use Rattle.row_pool.specs.Lists.{find}
use Rattle.row_pool.specs.Changes.{tree_of, with_old_target}
use Rattle.latch_item.specs.Items.{word}
use Rattle.interval_tree.specs.Held.{OwnsNode, IsNodeRow, OthersStand}
use Rattle.span_key.specs.Spans.{is_point}
use Rattle.latch_item.specs.Items.{BoundUpTo, IsLatch, item_of}
use Rattle.latch_item.specs.Shape.{Each, Pairs, Sorted}
use Rattle.interval_tree.specs.Nodes.{Between, EachRow, LevelKid, joined}
use Rattle.interval_tree.specs.States.{ReachesItem, Best}

-- the link k of the owned node `row` can take what the link word `goal` names
abbrev pub CanSwap : SeatView → ℕ → ℕ → ℕ → Type 0
CanSwap v row k goal = (kind n : ℕ) × (us vs : List Tree) × (u t : Tree) × (R : List Tree) × OwnsNode v row kind n (us ++ u ∷ vs) × (length us ≡ k) × (k < 64)
    × (v.refs ≡ with_old_target t R) × (tree_word t ≡ goal) × (length R < 2 ^ 32)

-- it took it
abbrev pub Swaps : SeatView → SeatView → ℕ → ℕ → ℕ → ℕ → Type 0
Swaps v w row k goal result = (kind n : ℕ) (us vs : List Tree) (u t : Tree) (R : List Tree) → OwnsNode v row kind n (us ++ u ∷ vs) → length us ≡ k
    → v.refs ≡ with_old_target t R → tree_word t ≡ goal
    → (result ≡ tree_word u) × OwnsNode w row kind n (us ++ t ∷ vs) × (w.refs ≡ with_old_target u R)

-- the links `bs` from k on can move by one place
abbrev pub CanInsert : SeatView → ℕ → ℕ → ℕ → Type 0
CanInsert v row k goal = (kind n : ℕ) × (us bs vs : List Tree) × (t : Tree) × (R : List Tree) × OwnsNode v row kind n (us ++ (bs ++ nil ∷ vs)) × (length us ≡ k)
    × EachRow bs × (k + length bs < 64) × (v.refs ≡ with_old_target t R) × (tree_word t ≡ goal) × (length R + 1 < 2 ^ 32)

abbrev pub Inserts : SeatView → SeatView → ℕ → ℕ → ℕ → Type 0
Inserts v w row k goal = (kind n : ℕ) (us bs vs : List Tree) (t : Tree) (R : List Tree) → OwnsNode v row kind n (us ++ (bs ++ nil ∷ vs)) → length us ≡ k
    → EachRow bs → v.refs ≡ with_old_target t R → tree_word t ≡ goal → OwnsNode w row kind n (us ++ t ∷ (bs ++ vs)) × (w.refs ≡ R)

-- m links of a live node, to which the seat has a reference, from the place k on, can be copied to the empty links of an owned one
abbrev pub CanCopy : SeatView → ℕ → ℕ → ℕ → ℕ → Type 0
CanCopy v row copy k m = (kind n : ℕ) × (us ms vs ws xs : List Tree) × (tree_word (tree_of row v.refs) ≡ suc row) × (2 ≤ word (tree_of row v.refs) 1)
    × (word (tree_of row v.refs) 1 ≤ 3) × (children (tree_of row v.refs) ≡ us ++ (ms ++ vs)) × (length us ≡ k) × (length ms ≡ m) × (k + m ≤ 64)
    × OwnsNode v copy kind n (ws ++ (replicate m nil ++ xs)) × (length ws ≡ k) × (length v.refs + 1 < 2 ^ 32)

abbrev pub Copies : SeatView → SeatView → ℕ → ℕ → ℕ → ℕ → Type 0
Copies v w row copy k m = (kind n : ℕ) (us ms vs ws xs : List Tree) → children (tree_of row v.refs) ≡ us ++ (ms ++ vs) → length us ≡ k → length ms ≡ m
    → OwnsNode v copy kind n (ws ++ (replicate m nil ++ xs)) → length ws ≡ k → OwnsNode w copy kind n (ws ++ (ms ++ xs))

-- n links of an owned node, from the place a on, can go to the empty links of another, from the place b on
abbrev pub CanMove : SeatView → ℕ → ℕ → ℕ → ℕ → ℕ → Type 0
CanMove v from to a b n = (kind m kind' m' : ℕ) × (us ms vs ws xs : List Tree) × OwnsNode v from kind m (us ++ (ms ++ vs)) × (length us ≡ a) × (length ms ≡ n)
    × OwnsNode v to kind' m' (ws ++ (replicate n nil ++ xs)) × (length ws ≡ b) × (from ≢ to) × (a + n ≤ 64) × (b + n ≤ 64) × (length v.refs + 1 < 2 ^ 32)

abbrev pub MovesLinks : SeatView → SeatView → ℕ → ℕ → ℕ → ℕ → ℕ → Type 0
MovesLinks v w from to a b n = (kind m kind' m' : ℕ) (us ms vs ws xs : List Tree) → OwnsNode v from kind m (us ++ (ms ++ vs)) → length us ≡ a → length ms ≡ n
    → OwnsNode v to kind' m' (ws ++ (replicate n nil ++ xs)) → length ws ≡ b → from ≢ to
    → OwnsNode w from kind m (us ++ (replicate n nil ++ vs)) × OwnsNode w to kind' m' (ws ++ (ms ++ xs))

-- the places of the children behind the middle item of a full owned node are empty
abbrev pub HasNoChildren : SeatView → ℕ → Type 0
HasNoChildren v row = (kind n : ℕ) × (us vs : List Tree) × OwnsNode v row kind n (us ++ (replicate 16 nil ++ vs)) × (length us ≡ 48)

-- an owned node went live, and the seat has the one reference to it
pub record WentLive (v w : SeatView) (r kind n : ℕ) (us : List Tree) : Type 0 where
  pub tree : Tree
  pub is : IsNodeRow tree r kind n us
  pub refs : w.refs ≡ tree ∷ v.refs
  pub gone : find r w.owned ≡ none
  pub others : OthersStand r v w

-- ---- searches
-- the row `result` is the one to which the link k of the owned node leads
abbrev pub LeadsTo : SeatView → ℕ → ℕ → ℕ → Type 0
LeadsTo v row k result = (kind n : ℕ) (us vs : List Tree) (u : Tree) → OwnsNode v row kind n (us ++ u ∷ vs) → length us ≡ k → tree_word u ≡ suc result

-- if the item j is a single key, the upper bound of the item b is no less
abbrev pub SingleUpTo : Tree → Tree → Type 0
SingleUpTo b j = IsTrue (is_point (item_of j).span) → BoundUpTo b j

-- the item in the row `best`, and n links of an owned node from the place k on that lead to items, among them no single key of a greater bound
abbrev pub HasItems : SeatView → ℕ → ℕ → ℕ → ℕ → Type 0
HasItems v row k n best = (kind m : ℕ) × (us js vs : List Tree) × (b : Tree) × OwnsNode v row kind m (us ++ (js ++ vs)) × (length us ≡ k) × (length js ≡ n)
    × (k + n ≤ 64) × Each IsLatch js × ReachesItem v b best × Each (SingleUpTo b) js

-- the greatest of them
abbrev pub BestItem : SeatView → ℕ → ℕ → ℕ → ℕ → ℕ → Type 0
BestItem v row k n best result = (kind m : ℕ) (us js vs : List Tree) (b : Tree) → OwnsNode v row kind m (us ++ (js ++ vs)) → length us ≡ k → length js ≡ n
    → Each IsLatch js → ReachesItem v b best → Each (SingleUpTo b) js → Best v b js result

-- the item in the row `best`, and n links of an owned node from the place k on that lead to children
abbrev pub HasChildren : SeatView → ℕ → ℕ → ℕ → ℕ → Type 0
HasChildren v row k n best = (h kind m : ℕ) × (us cs vs : List Tree) × (yss : List (List Tree)) × (b : Tree) × OwnsNode v row kind m (us ++ (cs ++ vs))
    × (length us ≡ k) × (length cs ≡ n) × (k + n ≤ 64) × Pairs (LevelKid h) cs yss × ReachesItem v b best

-- the greatest of it and of all items below these
abbrev pub BestBelow : SeatView → ℕ → ℕ → ℕ → ℕ → ℕ → Type 0
BestBelow v row k n best result = (h kind m : ℕ) (us cs vs : List Tree) (yss : List (List Tree)) (b : Tree) → OwnsNode v row kind m (us ++ (cs ++ vs))
    → length us ≡ k → length cs ≡ n → Pairs (LevelKid h) cs yss → ReachesItem v b best → Best v b (joined yss) result

-- the place of the item among those of an owned node lies between two places
abbrev pub HasPlace : SeatView → ℕ → ℕ → ℕ → ℕ → Type 0
HasPlace v row item low high = (kind n : ℕ) × (u : Tree) × (its ds : List Tree) × (it : Tree) × OwnsNode v row kind n (u ∷ (its ++ ds)) × (length its ≤ 31)
    × Each IsLatch its × Sorted its × ReachesItem v it item × Between it its low high

-- it is found
abbrev pub FindsPlace : SeatView → ℕ → ℕ → ℕ → ℕ → ℕ → Type 0
FindsPlace v row item low high result = (kind n : ℕ) (u : Tree) (its ds : List Tree) (it : Tree) → OwnsNode v row kind n (u ∷ (its ++ ds)) → length its ≤ 31
    → Each IsLatch its → Sorted its → ReachesItem v it item → Between it its low high → Between it its result result

-- ---- an owned node under another
-- the owned node `child` can go live under the empty link k of the owned node `row`
abbrev pub CanLink : SeatView → ℕ → ℕ → ℕ → Type 0
CanLink v row k child = (kind n : ℕ) × (us vs : List Tree) × (sort m : ℕ) × (ws : List Tree) × OwnsNode v row kind n (us ++ nil ∷ vs) × (length us ≡ k)
    × (k < 64) × OwnsNode v child sort m ws × Each (λ u. depth u ≤ 3) ws × (child ≢ row) × (length v.refs < 2 ^ 32)

-- it did
pub record LinkedNode (v w : SeatView) (row child kind n sort m : ℕ) (us vs ws : List Tree) : Type 0 where
  pub tree : Tree
  pub is : IsNodeRow tree child sort m ws
  pub owns : OwnsNode w row kind n (us ++ tree ∷ vs)
  pub refs : w.refs ≡ v.refs

abbrev pub Links : SeatView → SeatView → ℕ → ℕ → ℕ → Type 0
Links v w row k child = (kind n : ℕ) (us vs : List Tree) (sort m : ℕ) (ws : List Tree) → OwnsNode v row kind n (us ++ nil ∷ vs) → length us ≡ k
    → OwnsNode v child sort m ws → child ≢ row → LinkedNode v w row child kind n sort m us vs ws
