-- A free row becomes a node, and a live node an owned one.
use Rattle.std.proofs.Common.{◌≡◌, ℕ, zero, suc, ◌+◌, ◌-◌, ◌<◌, ◌≤◌, List, [], ◌∷◌, ◌++◌, map, length, replicate, slice_index, sym, refl, ap, ◌∙◌, subst}
use Rattle.std.proofs.Common.{eq-eqb, ne_eqb, arith}
use mathlib.Core.Option.{some}
use Rattle.std.specs.Prelude.{false}
use Rattle.row_pool.proofs.Chains.{chain-one, find-noted, find-noted-else, mem-here, strung-apart}
use Rattle.row_pool.proofs.ClearedLinks.{facts}
use Rattle.row_pool.proofs.NewNodes.{fan-node}
use Rattle.row_pool.proofs.Seats.{find-here}
use Rattle.row_pool.specs.Chains.{ChainGrows, IsChain, IsFreeRow}
use Rattle.row_pool.specs.Changes.{entry_of, fresh, nil_links, numbered, own_row, tree_of, with_entry, without_tree, written}
use Rattle.row_pool.specs.Layout.{IsContent}
use Rattle.row_pool.specs.Lists.{find, mem}
use Rattle.row_pool.specs.SeatState.{IsNewNode, OnlyEntryChanges}
use Rattle.row_pool.specs.SeatView.{SeatView}
use Rattle.row_pool.specs.Trees.{Entry, Tree, children, nil, to, tree_word, words_of}
use Rattle.row_pool.specs.Views.{ViewInvariant}
use Rattle.row_pool.specs.declared.chain.Chain.{Chain}
use Rattle.latch_item.specs.Items.{word}
use Rattle.latch_item.specs.Shape.{Node}
use Rattle.interval_tree.proofs.Frames.{chain-row, frame-others, others-join, owns-grows, spends-comes, spends-grows, spends-join, spends-more, spends-others}
use Rattle.interval_tree.proofs.Rows.{content-count, others-entry, others-only, others-put}
use Rattle.interval_tree.specs.Held.{HasRoom, OthersStand, OwnsNode, Spends}

pub gaps-map : (n : ℕ) → nil_links n ≡ map to (replicate n nil)
unfolding nil_links
gaps-map n = go n
  where
    go : (n : ℕ) → replicate n (to nil) ≡ map to (replicate n nil)
    go zero = refl
    go (suc n) = ap (λ l. to nil ∷ l) (go n)

-- a new node, and all else as it was
pub record Made (v w : SeatView) (row kind n : ℕ) : Type 0 where
  pub owns : OwnsNode w row kind n (replicate 64 nil)
  pub others : OthersStand row v w
  pub refs : w.refs ≡ v.refs

pub made : (v s w : SeatView) (row kind n : ℕ) → 2 ≤ kind → kind ≤ 3 → (e : Entry) × (next : ℕ) × (find row v.owned ≡ some e) × IsFreeRow e next
    → OnlyEntryChanges row v s → ((e : Entry) → find row v.owned ≡ some e → (d : Entry) × (find row s.owned ≡ some d) × IsNewNode kind e d)
    → ((e : Entry) → find row s.owned ≡ some e → w ≡ with_entry row (written 2 n e) s) → Made v w row kind n
made v s w row kind n low high (e, next, has, free) only node write =
    let (d, at, is) = node e has in let move = write d at in
    record {
      owns = subst (λ (z : SeatView). OwnsNode z row kind n (replicate 64 nil)) (sym move) (record {
        entry = written 2 n d;
        has = find-here row (written 2 n d) s.owned;
        is_kind = is.is;
        low = low;
        high = high;
        links = is.links ∙ ap nil_links ((fan-node kind low high).0) ∙ gaps-map 64;
        apart = (let a = is.linked in let b = free.uncounted in omega arith);
        count = find-noted 2 n d.known;
        said = find-noted-else 1 2 n d.known (λ h. omega arith) ∙ is.said;
      });
      others = others-join v s w row (others-only v s row only) (others-entry s w row (written 2 n d) move);
      refs = ap (λ (z : SeatView). z.refs) move ∙ only.refs;
    }

pub new-content : (v s : SeatView) (row kind : ℕ) → 2 ≤ kind → (e : Entry) × (next : ℕ) × (find row v.owned ≡ some e) × IsFreeRow e next
    → ((e : Entry) → find row v.owned ≡ some e → (d : Entry) × (find row s.owned ≡ some d) × IsNewNode kind e d)
    → (d : Entry) × (find row s.owned ≡ some d) × IsContent d.kind 2
new-content v s row kind low (e, next, has, free) node =
    let (d, at, is) = node e has in (d, at, subst (λ k. IsContent k 2) (sym is.is) (content-count kind low))

pub room-first : (v : SeatView) (c : Chain) → HasRoom 1 v c → (r : ℕ) × (rs : List ℕ) × IsChain v c (r ∷ rs)
room-first v c ([], s, k) = absurd (omega arith)
room-first v c (r ∷ rs, s, k) = (r, rs, s)

pub fresh-spends : (v w : SeatView) (c d : Chain) (row : ℕ) → HasRoom 1 v c → ((r : ℕ) (rs : List ℕ) → IsChain v c (r ∷ rs) → (row ≡ r) × IsChain v d rs)
    → OthersStand row v w → (rs : List ℕ) → IsChain v c rs → Spends 1 [] (row ∷ []) rs v w d
fresh-spends v w c d row room f a [] h = absurd (let e = ap length (chain-one v c room.0 [] room.1 h) in let k = room.2 in omega arith)
fresh-spends v w c d row room f a (r ∷ rs) h =
    let o = f r rs h in let away = subst (λ q. mem q rs ≡ false) (sym o.0) (strung-apart v r rs c.head h.linked_from) in
    subst (λ q. Spends 1 [] (row ∷ []) (q ∷ rs) v w d) o.0 (record {
      left = rs;
      chain = chain-row v w row d rs a away o.1;
      spent = omega arith;
      frame = frame-others row (row ∷ rs) v w a (mem-here row rs);
    })

-- ---- a live node is owned in place
find-numbered : (ws : List ℕ) (k w : ℕ) → w < length ws → find (k + w) (numbered k ws) ≡ some (slice_index ws w)
find-numbered [] k w h = absurd (omega arith)
find-numbered (x ∷ ws) k zero h = rw (eq-eqb k (k + 0) (omega arith))
find-numbered (x ∷ ws) k (suc w) h = let e : k + suc w ≡ suc k + w = omega arith in
    rw (ne_eqb k (k + suc w) (λ z. omega arith)) (ap (λ j. find j (numbered (suc k) ws)) e ∙ find-numbered ws (suc k) w (omega arith))

pub node-kind : (h kind n : ℕ) (us xs : List Tree) → Node h kind n us xs → (2 ≤ kind) × (kind ≤ 3)
node-kind zero kind n us xs o = (let a = o.is in omega arith, let a = o.is in omega arith)
node-kind (suc h) kind n us xs o = (let a = o.is in omega arith, let a = o.is in omega arith)

pub node-most : (h kind n : ℕ) (us xs : List Tree) → Node h kind n us xs → n ≤ 31
node-most zero kind n us xs o = let a = o.spread.items in omega arith
node-most (suc h) kind n us xs o = let a = o.spread.items in omega arith

-- what own_node does
pub record Owned (v w : SeatView) (row result : ℕ) (t : Tree) (c d : Chain) : Type 0 where
  pub node : OwnsNode w result (word t 1) (word t 2) (children t)
  pub refs : w.refs ≡ without_tree row v.refs
  pub spends : (rs : List ℕ) → IsChain v c rs → Spends 1 [] (result ∷ []) rs v w d

pub owned-in-place : (v w : SeatView) (row : ℕ) (c : Chain) → ViewInvariant v → tree_word (tree_of row v.refs) ≡ suc row
    → (2 ≤ word (tree_of row v.refs) 1) × (word (tree_of row v.refs) 1 ≤ 3) → w ≡ own_row (tree_of row v.refs) row 1 v
    → Owned v w row row (tree_of row v.refs) c c
owned-in-place v w row c sound ref kind is =
    let t : Tree = tree_of row v.refs in
    let f = facts v row sound ref in
    let long = f.shape.long in
    let others = others-put v w row (entry_of t 1 0) (ap (λ (z : SeatView). z.owned) is)
    (record { number = ap (λ (z : SeatView). z.number) is; out = ap (λ (z : SeatView). z.out) is; size = ap (λ (z : SeatView). z.size) is }) in
    record {
      node = subst (λ (z : SeatView). OwnsNode z row (word t 1) (word t 2) (children t)) (sym is) (record {
        entry = entry_of t 1 0;
        has = find-here row (entry_of t 1 0) v.owned;
        is_kind = refl;
        low = kind.0;
        high = kind.1;
        links = refl;
        apart = refl;
        count = find-numbered (words_of t) 0 2 (omega arith);
        said = find-numbered (words_of t) 0 1 (omega arith);
      });
      refs = ap (λ (z : SeatView). z.refs) is;
      spends = λ rs h. spends-more 0 1 [] (row ∷ []) rs v w c (omega arith) (spends-comes v w row c [] rs others f.away h);
    }

-- ---- a copy
pub replicate-add : (a b : ℕ) → replicate (a + b) nil ≡ replicate a nil ++ replicate b nil
replicate-add zero b = let e : zero + b ≡ b = omega arith in ap (λ m. replicate m nil) e
replicate-add (suc a) b = let e : suc a + b ≡ suc (a + b) = omega arith in ap (λ m. replicate m nil) e ∙ ap (λ l. nil ∷ l) (replicate-add a b)

-- the links of a node that is to be a copy of one whose links are spread so
pub empty-links : (n free k room : ℕ) → n + free ≡ 31 → k + room ≡ 32
    → replicate 64 nil ≡ replicate (n + 1) nil ++ (replicate free nil ++ (replicate k nil ++ replicate room nil))
empty-links n free k room a b =
    let e : 64 ≡ (n + 1) + (free + (k + room)) = omega arith in
    ap (λ m. replicate m nil) e ∙ replicate-add (n + 1) (free + (k + room)) ∙ ap (λ l. replicate (n + 1) nil ++ l) (replicate-add free (k + room)
    ∙ ap (λ l. replicate free nil ++ l) (replicate-add k room))

pub gaps-one : (n : ℕ) → 0 < n → replicate n nil ≡ nil ∷ replicate (n - 1) nil
gaps-one zero h = absurd (omega arith)
gaps-one (suc n) h = let e : suc n - 1 ≡ n = omega arith in rw e

-- v is before, f after the fresh row, l with the links, w at the end
pub owned-copy : (v f l w : SeatView) (row copy kind n : ℕ) (us : List Tree) (c p d : Chain) → f.refs ≡ v.refs
    → ((rs : List ℕ) → IsChain v c rs → Spends 1 [] (copy ∷ []) rs v f p) → OwnsNode f copy kind n (replicate 64 nil) → OthersStand copy f l → l.refs ≡ f.refs
    → OwnsNode l copy kind n us → w.refs ≡ without_tree row l.refs → ChainGrows l w p d
    → OwnsNode w copy kind n us × ((w.refs ≡ without_tree row v.refs) × ((rs : List ℕ) → IsChain v c rs → Spends 1 [] (copy ∷ []) rs v w d))
owned-copy v f l w row copy kind n us c p d same fresh of fl kept ol dropped grows = (
  owns-grows grows.more l w copy kind n us grows.owns_more ol,
  (
    dropped ∙ ap (without_tree row) (kept ∙ same),
    λ rs h.
        let a = fresh rs h in
        let b = spends-others f l copy kind n (replicate 64 nil) p [] a.left of fl a.chain in
        let e = spends-grows l w p d (copy ∷ []) b.left grows b.chain in
        spends-join 1 0 [] (copy ∷ []) (copy ∷ []) rs v f w p d a (spends-join 0 0 (copy ∷ []) (copy ∷ []) (copy ∷ []) a.left f l w p d b e),
  ),
)
