-- What the calls on open nodes need, and what they do.
use Rattle.std.specs.Prelude.{List, length, replicate, suc, ℕ, ◌++◌, ◌+◌, ◌-◌, ◌<◌, ◌^◌, ◌∷◌, ◌≡◌, ◌≢◌, ◌≤◌}
use Rattle.row_pool.specs.Chains.{IsChain}
use Rattle.row_pool.specs.Changes.{with_old_target}
use Rattle.row_pool.specs.SeatView.{SeatView}
use Rattle.row_pool.specs.Trees.{Tree, children, nil, tree_word}
use Rattle.row_pool.specs.declared.chain.Chain.{Chain}
use Rattle.latch_item.specs.Items.{IsLatch, word}
use Rattle.latch_item.specs.Shape.{IsTop, Kid, Node, Pairs, Sorted}
use Rattle.interval_tree.specs.Held.{OwnsNode, Spends}
use Rattle.interval_tree.specs.Listings.{Part}
use Rattle.interval_tree.specs.Nodes.{Raised, kind_at}
use Rattle.tree_shrink.specs.Slots.{Leftward, Rightward, Seam, cut_links, seam_links}
use Rattle.tree_shrink.specs.Stages.{Carried, Gains, Has, Joins, Lent, Lightens, Open, Roomy, SameItems}

-- of the chain at most k rows are used, and the seat works on the rows ys in place of the rows xs
abbrev pub SpendsAll : ℕ → List ℕ → List ℕ → SeatView → SeatView → Chain → Chain → Type 0
SpendsAll k xs ys v w c d = (rs : List ℕ) → IsChain v c rs → Spends k xs ys rs v w d

-- The links of the owned node from k to k + n can move down by one place, and what the link word `goal` names, the seat's newest reference or nothing, can
-- take the last place
abbrev pub CanShift : SeatView → ℕ → ℕ → ℕ → ℕ → Type 0
CanShift v row k n goal = (kind m : ℕ) × (us bs vs : List Tree) × (b t : Tree) × (R : List Tree) × OwnsNode v row kind m (us ++ b ∷ (bs ++ vs))
    × (length us ≡ k) × (length bs ≡ n) × (k + n ≤ 63) × (v.refs ≡ with_old_target t R) × (tree_word t ≡ goal) × (length R < 2 ^ 32)

-- they did; what the link k held is the newest reference
abbrev pub Shifts : SeatView → SeatView → ℕ → ℕ → ℕ → ℕ → ℕ → Type 0
Shifts v w row k n goal result = (kind m : ℕ) (us bs vs : List Tree) (b t : Tree) (R : List Tree) → OwnsNode v row kind m (us ++ b ∷ (bs ++ vs))
    → length us ≡ k → length bs ≡ n → v.refs ≡ with_old_target t R → tree_word t ≡ goal
    → (result ≡ tree_word b) × OwnsNode w row kind m (us ++ (bs ++ t ∷ vs)) × (w.refs ≡ with_old_target b R)

-- the link k of the owned node can come out, and n links behind it can move down by one place
abbrev pub CanDraw : SeatView → ℕ → ℕ → ℕ → Type 0
CanDraw v row k n = (kind m : ℕ) × (us bs vs : List Tree) × (b : Tree) × OwnsNode v row kind m (us ++ b ∷ (bs ++ vs)) × (length us ≡ k) × (length bs ≡ n)
    × (k + n ≤ 63) × (length v.refs + 1 < 2 ^ 32)

-- it did, and is the newest reference; they did
abbrev pub Draws : SeatView → SeatView → ℕ → ℕ → ℕ → ℕ → Type 0
Draws v w row k n result = (kind m : ℕ) (us bs vs : List Tree) (b : Tree) → OwnsNode v row kind m (us ++ b ∷ (bs ++ vs)) → length us ≡ k → length bs ≡ n
    → (result ≡ tree_word b) × OwnsNode w row kind m (us ++ (bs ++ nil ∷ vs)) × (w.refs ≡ with_old_target b v.refs)

-- n links of the owned node behind the empty link k can move down by one place
abbrev pub CanClose : SeatView → ℕ → ℕ → ℕ → Type 0
CanClose v row k n = (kind m : ℕ) × (us bs vs : List Tree) × OwnsNode v row kind m (us ++ nil ∷ (bs ++ vs)) × (length us ≡ k) × (length bs ≡ n)
    × (k + n ≤ 63) × (length v.refs + 1 < 2 ^ 32)

-- they did
abbrev pub Closes : SeatView → SeatView → ℕ → ℕ → ℕ → Type 0
Closes v w row k n = (kind m : ℕ) (us bs vs : List Tree) → OwnsNode v row kind m (us ++ nil ∷ (bs ++ vs)) → length us ≡ k → length bs ≡ n
    → OwnsNode w row kind m (us ++ (bs ++ nil ∷ vs))

-- the link k of the owned node leads to a live child
abbrev pub CanTake : SeatView → ℕ → ℕ → Type 0
CanTake v row k = (h kind n : ℕ) × (us vs : List Tree) × (u : Tree) × (ys : List Tree) × OwnsNode v row kind n (us ++ u ∷ vs) × (length us ≡ k) × (k < 64)
    × Kid (Node h) u ys × (length v.refs + 3 < 2 ^ 32)

-- the child is owned, and its link is empty
abbrev pub Takes : SeatView → SeatView → ℕ → ℕ → ℕ → Type 0
Takes v w row k result = (h kind n : ℕ) (us vs : List Tree) (u : Tree) (ys : List Tree) → OwnsNode v row kind n (us ++ u ∷ vs) → length us ≡ k
    → Kid (Node h) u ys → OwnsNode w row kind n (us ++ nil ∷ vs) × OwnsNode w result (word u 1) (word u 2) (children u) × (result ≢ row)

-- the item number i of n of an owned node can go; the second child beside it is out already
abbrev pub CanCut : SeatView → ℕ → ℕ → ℕ → Type 0
CanCut v row i n = (h kind : ℕ) × (ps qs : List Tree) × (o : Seam h n ps qs i) × (top s x : Tree) × (kind ≡ kind_at h)
    × OwnsNode v row kind n (seam_links o top s x nil) × (0 < tree_word s) × (length v.refs + 3 < 2 ^ 32)

-- it went, and is the newest reference
abbrev pub Cuts : SeatView → SeatView → ℕ → ℕ → ℕ → ℕ → Type 0
Cuts v w row i n result = (h kind : ℕ) (ps qs : List Tree) (o : Seam h n ps qs i) (top s x : Tree) → kind ≡ kind_at h
    → OwnsNode v row kind n (seam_links o top s x nil) → 0 < tree_word s → (result ≡ tree_word s) × OwnsNode w row kind (n - 1) (cut_links o top x)
    × (w.refs ≡ s ∷ v.refs)

-- the links of the children behind an item that is out can close up
abbrev pub CanCloseChildren : SeatView → ℕ → ℕ → ℕ → Type 0
CanCloseChildren v row i n = (h kind : ℕ) × (us ds : List Tree) × (zss : List (List Tree)) × (free : ℕ) × (kind ≡ kind_at h) × Pairs (Part h) ds zss
    × OwnsNode v row kind n (us ++ nil ∷ (ds ++ replicate free nil)) × (length us ≡ 33 + i) × (length ds ≡ n - 1 - i) × (i < n) × (n ≤ 31)
    × (length v.refs + 1 < 2 ^ 32)

abbrev pub ClosesChildren : SeatView → SeatView → ℕ → ℕ → ℕ → Type 0
ClosesChildren v w row i n = (h kind : ℕ) (us ds : List Tree) (zss : List (List Tree)) (free : ℕ) → kind ≡ kind_at h → Pairs (Part h) ds zss
    → OwnsNode v row kind n (us ++ nil ∷ (ds ++ replicate free nil)) → length us ≡ 33 + i → length ds ≡ n - 1 - i
    → OwnsNode w row kind n (us ++ (ds ++ nil ∷ replicate free nil))

-- an owned node of at least two items can lend one of them with the child beside it
abbrev pub CanLend : SeatView → ℕ → Type 0
CanLend v row = (h kind n : ℕ) × (us xs : List Tree) × OwnsNode v row kind n us × Node h kind n us xs × (2 ≤ n) × (length v.refs + 5 < 2 ^ 32)
    × Sorted xs

-- the last item and the child behind it, or the first item and the child in front of it
abbrev pub LendsLast : SeatView → SeatView → ℕ → ℕ × ℕ → Type 0
LendsLast v w row result = (h kind n : ℕ) (us xs : List Tree) → OwnsNode v row kind n us → Node h kind n us xs → 2 ≤ n → Sorted xs
    → (ls l : List Tree) × (m : Tree) × (xs ≡ ls ++ m ∷ l) × Lent h w row kind (n - 1) ls l m result.0 result.1 v.refs

abbrev pub LendsFirst : SeatView → SeatView → ℕ → ℕ × ℕ → Type 0
LendsFirst v w row result = (h kind n : ℕ) (us xs : List Tree) → OwnsNode v row kind n us → Node h kind n us xs → 2 ≤ n → Sorted xs
    → (ls l : List Tree) × (m : Tree) × (xs ≡ l ++ m ∷ ls) × Lent h w row kind (n - 1) ls l m result.0 result.1 v.refs

-- the seat's newest references are to an item and to the child beside it, which an owned node of 15 items can get
abbrev pub CanGain : SeatView → ℕ → ℕ → ℕ → Type 0
CanGain v row item kid = (h kind : ℕ) × (us xs l : List Tree) × (m u : Tree) × (rest : List Tree) × Gains h v row kind us xs l m u item kid rest

-- the two come in front of its list, or behind it
abbrev pub GainsFirst : SeatView → SeatView → ℕ → ℕ → ℕ → Type 0
GainsFirst v w row item kid = (h kind : ℕ) (us xs l : List Tree) (m u : Tree) (rest : List Tree) → Gains h v row kind us xs l m u item kid rest
    → Has h w row kind 16 (l ++ m ∷ xs) rest

abbrev pub GainsLast : SeatView → SeatView → ℕ → ℕ → ℕ → Type 0
GainsLast v w row item kid = (h kind : ℕ) (us xs l : List Tree) (m u : Tree) (rest : List Tree) → Gains h v row kind us xs l m u item kid rest
    → Has h w row kind 16 (xs ++ m ∷ l) rest

-- the first link of an owned node can take in the bounds of the item and of the child beside it
abbrev pub CanRaise : SeatView → ℕ → ℕ → ℕ → Type 0
CanRaise v row item kid = (h kind n : ℕ) × (top : Tree) × (us l : List Tree) × (m u : Tree) × (rest : List Tree) × OwnsNode v row kind n (top ∷ us)
    × IsLatch top × Carried h v m u l item kid rest × (length rest + 4 < 2 ^ 32)

-- it has the greatest bound of all of them
abbrev pub RaisesBoth : SeatView → SeatView → ℕ → ℕ → ℕ → Type 0
RaisesBoth v w row item kid = (h kind n : ℕ) (top : Tree) (us l : List Tree) (m u : Tree) (rest : List Tree) → OwnsNode v row kind n (top ∷ us)
    → IsLatch top → Carried h v m u l item kid rest
    → (new : Tree) × OwnsNode w row kind n (new ∷ us) × ((xs ys : List Tree) → IsTop top xs → SameItems (xs ++ m ∷ l) ys → IsTop new ys)

-- what was lent may have had the greatest bound of an owned node
abbrev pub CanLower : SeatView → ℕ → ℕ → ℕ → Type 0
CanLower v row item kid = (h kind n : ℕ) × (top : Tree) × (us ls l : List Tree) × (m u : Tree) × (rest : List Tree)
    × Lightens h v row kind n top us ls l m u item kid rest

abbrev pub LowersBoth : SeatView → SeatView → ℕ → ℕ → ℕ → Type 0
LowersBoth v w row item kid = (h kind n : ℕ) (top : Tree) (us ls l : List Tree) (m u : Tree) (rest : List Tree)
    → Lightens h v row kind n top us ls l m u item kid rest → (vs : List Tree) × OwnsNode w row kind n vs × Node h kind n vs ls

-- the first link of the owned node `left` can take in the bounds of the seat's newest reference, an item, and of the owned node `right`
abbrev pub CanCover : SeatView → ℕ → ℕ → ℕ → Type 0
CanCover v left right item = (kind n sort k : ℕ) × (us vs : List Tree) × (a b m : Tree) × (rest : List Tree) × OwnsNode v left kind n (a ∷ us)
    × OwnsNode v right sort k (b ∷ vs) × IsLatch a × IsLatch b × IsLatch m × (tree_word m ≡ item) × (v.refs ≡ m ∷ rest) × (left ≢ right)
    × (length rest + 6 < 2 ^ 32)

abbrev pub Covers : SeatView → SeatView → ℕ → ℕ → ℕ → Type 0
Covers v w left right item = (kind n sort k : ℕ) (us vs : List Tree) (a b m : Tree) (rest : List Tree) → OwnsNode v left kind n (a ∷ us)
    → OwnsNode v right sort k (b ∷ vs) → IsLatch a → IsLatch b → IsLatch m → tree_word m ≡ item → v.refs ≡ m ∷ rest → left ≢ right
    → (s t : Tree) × Raised m a s × Raised b s t × OwnsNode w left kind n (t ∷ us)

-- the 16 children of an owned node can go to the empty links of another, behind 16 children that it has
abbrev pub CanMoveChildren : SeatView → ℕ → ℕ → Type 0
CanMoveChildren v from to = (h kind m sort k : ℕ) × (us ms vs ws xs : List Tree) × (yss : List (List Tree)) × (kind ≡ kind_at h) × Pairs (Part h) ms yss
    × OwnsNode v from kind m (us ++ (ms ++ vs)) × (length us ≡ 32) × (length ms ≡ 16) × OwnsNode v to sort k (ws ++ (replicate 16 nil ++ xs))
    × (length ws ≡ 48) × (from ≢ to) × (length v.refs + 1 < 2 ^ 32)

abbrev pub MovesChildren : SeatView → SeatView → ℕ → ℕ → Type 0
MovesChildren v w from to = (h kind m sort k : ℕ) (us ms vs ws xs : List Tree) (yss : List (List Tree)) → kind ≡ kind_at h → Pairs (Part h) ms yss
    → OwnsNode v from kind m (us ++ (ms ++ vs)) → length us ≡ 32 → length ms ≡ 16 → OwnsNode v to sort k (ws ++ (replicate 16 nil ++ xs))
    → length ws ≡ 48 → from ≢ to → OwnsNode w from kind m (us ++ (replicate 16 nil ++ vs)) × OwnsNode w to sort k (ws ++ (ms ++ xs))

-- two owned nodes of 15 items and the item between them, the seat's newest reference, can become one
abbrev pub CanJoin : SeatView → ℕ → ℕ → ℕ → Type 0
CanJoin v left right item = (h kind sort : ℕ) × (us vs ls rs : List Tree) × (m : Tree) × (rest : List Tree)
    × Joins h v left right item kind sort us vs ls rs m rest

abbrev pub JoinsInto : SeatView → SeatView → ℕ → ℕ → ℕ → Type 0
JoinsInto v w left right item = (h kind sort : ℕ) (us vs ls rs : List Tree) (m : Tree) (rest : List Tree)
    → Joins h v left right item kind sort us vs ls rs m rest → Has h w left kind 31 (ls ++ m ∷ rs) rest

-- ---- a child of 15 items gets more
-- the child in front of the open one, number b, has more than 15 items, or has 15
abbrev pub LeftIs : (ℕ → Type 0) → SeatView → ℕ → ℕ → ℕ → ℕ → Type 0
LeftIs P v row child b n = (h : ℕ) × (xs ps ys qs rest : List Tree) × (h ≤ 1) × (o : Open h v row n child (b + 1) xs ps ys qs rest)
    × (l : Leftward (suc h) n ps qs (b + 1) b o.slot) × P (word l.kid 2) × (o.count ≡ 15)

-- it gave items, and the open child has more than 15
abbrev pub FromLeft : (ℕ → Type 0) → SeatView → SeatView → ℕ → ℕ → ℕ → ℕ → ℕ → ℕ → ℕ → Type 0
FromLeft P v w row child b n goes j least = (h : ℕ) (xs ps ys qs rest : List Tree) → h ≤ 1 → (o : Open h v row n child (b + 1) xs ps ys qs rest)
    → (l : Leftward (suc h) n ps qs (b + 1) b o.slot) → P (word l.kid 2) → o.count ≡ 15 → Roomy h w row least goes j xs ps ys qs rest

-- the same of the child behind the open one, number i
abbrev pub RightIs : (ℕ → Type 0) → SeatView → ℕ → ℕ → ℕ → ℕ → Type 0
RightIs P v row child i n = (h : ℕ) × (xs ps ys qs rest : List Tree) × (h ≤ 1) × (o : Open h v row n child i xs ps ys qs rest)
    × (r : Rightward (suc h) n ps qs i o.slot) × P (word r.kid 2) × (o.count ≡ 15)

abbrev pub FromRight : (ℕ → Type 0) → SeatView → SeatView → ℕ → ℕ → ℕ → ℕ → ℕ → Type 0
FromRight P v w row child i n least = (h : ℕ) (xs ps ys qs rest : List Tree) → h ≤ 1 → (o : Open h v row n child i xs ps ys qs rest)
    → (r : Rightward (suc h) n ps qs i o.slot) → P (word r.kid 2) → o.count ≡ 15 → Roomy h w row least child i xs ps ys qs rest

-- the link k of the owned node leads to a live child
abbrev pub CanWeigh : SeatView → ℕ → ℕ → Type 0
CanWeigh v row k = (h kind n : ℕ) × (us vs : List Tree) × (u : Tree) × (ys : List Tree) × OwnsNode v row kind n (us ++ u ∷ vs) × (length us ≡ k) × (k < 64)
    × Kid (Node h) u ys

-- P holds of its number of items
abbrev pub Weighs : (ℕ → Type 0) → SeatView → ℕ → ℕ → Type 0
Weighs P v row k = (h kind n : ℕ) (us vs : List Tree) (u : Tree) (ys : List Tree) → OwnsNode v row kind n (us ++ u ∷ vs) → length us ≡ k
    → Kid (Node h) u ys → P (word u 2)

-- the open child, number i, has 15 items
abbrev pub IsPoor : SeatView → ℕ → ℕ → ℕ → ℕ → Type 0
IsPoor v row child i n = (h : ℕ) × (xs ps ys qs rest : List Tree) × (h ≤ 1) × (o : Open h v row n child i xs ps ys qs rest) × (o.count ≡ 15)

-- it has more then; it is `goes`, number j
abbrev pub Mends : SeatView → SeatView → ℕ → ℕ → ℕ → ℕ → ℕ → ℕ → Type 0
Mends v w row child i n goes j = (h : ℕ) (xs ps ys qs rest : List Tree) → h ≤ 1 → (o : Open h v row n child i xs ps ys qs rest) → o.count ≡ 15
    → Roomy h w row (n - 1) goes j xs ps ys qs rest
