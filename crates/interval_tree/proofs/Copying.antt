-- The links of a live node are copied to an owned one.
use Rattle.std.proofs.Common.{◌≡◌, ◌⊎◌, inl, inr, ⊎_elim, ℕ, zero, suc, ◌+◌, ◌-◌, ◌<◌, ◌≤◌, ◌^◌, Option, Some, None, List, [], ◌∷◌, ◌++◌, length, replicate}
use Rattle.std.proofs.Common.{length-append, append_assoc, sym, refl, ap, ◌∙◌, subst, arith}
use Rattle.std.proofs.lemmas.List.{length-replicate}
use mathlib.Core.Option.{some}
use lib.ListN.{get_elem?}
use Rattle.row_pool.proofs.NewNodes.{fan-node}
use Rattle.row_pool.proofs.Splits.{tree_of-at}
use Rattle.row_pool.specs.Changes.{tree_of, with_ref}
use Rattle.row_pool.specs.Layout.{IsLink, first_link}
use Rattle.row_pool.specs.Lists.{find}
use Rattle.row_pool.specs.SeatState.{OwnsOrReachesAs, kind_of, row_of}
use Rattle.row_pool.specs.SeatView.{SeatView}
use Rattle.row_pool.specs.Trees.{Tree, children, nil, tree_word}
use Rattle.row_pool.specs.Views.{Reaches, by_ref, below}
use Rattle.latch_item.specs.Items.{word}
use Rattle.latch_item.specs.Shape.{Node, Spread, Stands}
use Rattle.interval_tree.proofs.Frames.{others-join, owns-same}
use Rattle.interval_tree.proofs.Fresh.{empty-links, gaps-one, node-most}
use Rattle.interval_tree.proofs.Rows.{at-part, back-cons, named-zero, node-link, nowhere, there}
use Rattle.interval_tree.specs.Held.{OthersStand, OwnsNode}
use Rattle.interval_tree.specs.Steps.{CanCopy, CanSwap, Copies, Swaps}

-- a part of one link
one-of : (all us ms vs : List Tree) (k : ℕ) → all ≡ us ++ (ms ++ vs) → length us ≡ k → length ms ≡ 1
    → (u : Tree) × (ms ≡ u ∷ []) × (get_elem? all k ≡ some u)
one-of all us [] vs k e len one = absurd (omega arith)
one-of all us (u ∷ []) vs k e len one = (u, refl, ap (λ l. get_elem? l k) e ∙ ap (get_elem? (us ++ u ∷ vs)) (sym len) ∙ at-part us u vs)
one-of all us (u ∷ w ∷ ms) vs k e len one = absurd (omega arith)

pub ref-up : (v : SeatView) (row : ℕ) → tree_word (tree_of row v.refs) ≡ suc row → Reaches v (tree_of row v.refs)
ref-up v row is = let o = tree_of-at row v.refs is in by_ref o.0 o.1

-- what following a link of a live node answers
abbrev pub Follows : SeatView → ℕ → ℕ → Option ℕ → Type 0
Follows v row w result = (t u : Tree) (k : ℕ) → Reaches v t → tree_word t ≡ suc row → w ≡ first_link (kind_of t) + k → get_elem? (children t) k ≡ some u
    → result ≡ row_of (tree_word u)

pub copy-reach : (v : SeatView) (row copy k m : ℕ) → 0 < m → CanCopy v row copy k m → OwnsOrReachesAs (λ kind. IsLink kind (3 + k)) v row
copy-reach v row copy k m some_links (kind, n, us, ms, vs, ws, xs, ref, low, high, e, len, many, most, o, at, few) =
    inl (tree_of row v.refs, ref-up v row ref, ref, node-link (word (tree_of row v.refs) 1) k low high (omega arith))

-- the link to be copied: where it leads
pub record Source (v : SeatView) (row k : ℕ) (result : Option ℕ) : Type 0 where
  pub target : Tree
  pub at : get_elem? (children (tree_of row v.refs)) k ≡ some target
  pub up : Reaches v target
  pub is : result ≡ row_of (tree_word target)

source-at : (v : SeatView) (row k : ℕ) (result : Option ℕ) (us ms vs : List Tree) → tree_word (tree_of row v.refs) ≡ suc row
    → 2 ≤ word (tree_of row v.refs) 1 → word (tree_of row v.refs) 1 ≤ 3 → children (tree_of row v.refs) ≡ us ++ (ms ++ vs) → length us ≡ k → length ms ≡ 1
    → Follows v row (3 + k) result → (ms ≡ [] → ⊥) × (u : Tree) × (ms ≡ u ∷ []) × Reaches v u × (result ≡ row_of (tree_word u))
source-at v row k result us ms vs ref low high e len one follow =
    let t : Tree = tree_of row v.refs in
    let (u, is, at) = one-of (children t) us ms vs k e len one in
    let up = ref-up v row ref in (
      (λ z. let a = ap length z in omega arith),
      u,
      is,
      below k up at,
      follow t u k up ref (ap (λ b. b + k) (sym ((fan-node (word t 1) low high).1))) at,
    )

pub hold-reach : (v f : SeatView) (row copy k target : ℕ) → CanCopy v row copy k 1 → f ≡ v → Follows v row (3 + k) (Some target)
    → (t : Tree) × Reaches f t × (tree_word t ≡ suc target)
hold-reach v f row copy k target (kind, n, us, ms, vs, ws, xs, ref, low, high, e, len, many, most, o, at, few) same follow =
    let (ne, u, is, up, to_is) = source-at v row k (Some target) us ms vs ref low high e len many follow in
    (u, subst (λ z. Reaches z u) (sym same) up, there (tree_word u) target to_is)

-- what holding a row does
abbrev pub Holds : SeatView → SeatView → ℕ → Type 0
Holds v w target = (t : Tree) → tree_word t ≡ suc target → Reaches v t → w ≡ with_ref t v

held : (v f w : SeatView) (target : ℕ) (u : Tree) → f ≡ v → Holds f w target → tree_word u ≡ suc target → Reaches v u → w ≡ with_ref u v
held v f w target u same hold here up = hold u here (subst (λ z. Reaches z u) (sym same) up) ∙ ap (with_ref u) same

pub copy-swap : (v f w : SeatView) (row copy k target : ℕ) → CanCopy v row copy k 1 → f ≡ v → Follows v row (3 + k) (Some target) → Holds f w target
    → CanSwap w copy k (target + 1)
copy-swap v f w row copy k target (kind, n, us, ms, vs, ws, xs, ref, low, high, e, len, many, most, o, at, few) same follow hold =
    let (ne, u, is, up, to_is) = source-at v row k (Some target) us ms vs ref low high e len many follow in
    let here = there (tree_word u) target to_is in
    let move = held v f w target u same hold here up in (
      kind,
      n,
      ws,
      xs,
      nil,
      u,
      v.refs,
      owns-same v w copy kind n (ws ++ nil ∷ xs) (ap (λ (z : SeatView). z.owned) move) o,
      at,
      omega arith,
      ap (λ (z : SeatView). z.refs) move ∙ back-cons u v.refs target here,
      omega arith,
      omega arith,
    )

pub held-others : (v w : SeatView) (u : Tree) (row : ℕ) → w ≡ with_ref u v → OthersStand row v w
held-others v w u row move = record {
  same_seat = record { number = ap (λ (z : SeatView). z.number) move; out = ap (λ (z : SeatView). z.out) move; size = ap (λ (z : SeatView). z.size) move };
  rows = λ q n. ap (λ (z : SeatView). find q z.owned) move;
}

-- one link is copied
pub record CopiedLinks (v w : SeatView) (row copy k m : ℕ) : Type 0 where
  pub node : Copies v w row copy k m
  pub refs : w.refs ≡ v.refs
  pub others : OthersStand copy v w

pub copied-some : (v f w x : SeatView) (row copy k target answer : ℕ) → CanCopy v row copy k 1 → f ≡ v → Follows v row (3 + k) (Some target) → Holds f w target
    → Swaps w x copy k (target + 1) answer → OthersStand copy w x → CopiedLinks v x row copy k 1
copied-some v f w x row copy k target answer (kind, n, us, ms, vs, ws, xs, ref, low, high, e, len, many, most, o, at, few) same follow hold swap others =
    let (ne, u, is, up, to_is) = source-at v row k (Some target) us ms vs ref low high e len many follow in
    let here = there (tree_word u) target to_is in
    let move = held v f w target u same hold here up in
    let back = ap (λ (z : SeatView). z.refs) move ∙ back-cons u v.refs target here in
    let first = owns-same v w copy kind n (ws ++ nil ∷ xs) (ap (λ (z : SeatView). z.owned) move) o in
    record {
      node = λ kind n us ms vs ws xs e len many o at.
          let (ne, t, is, up, to_is) = source-at v row k (Some target) us ms vs ref low high e len many follow in
          let here = there (tree_word t) target to_is in
          let move = held v f w target t same hold here up in
          let z = swap kind n ws xs nil t v.refs (owns-same v w copy kind n (ws ++ nil ∷ xs) (ap (λ (z : SeatView). z.owned) move) o) at
          (ap (λ (z : SeatView). z.refs) move ∙ back-cons t v.refs target here) (omega arith) in
          subst (λ l. OwnsNode x copy kind n (ws ++ (l ++ xs))) (sym is) z.1;
      refs = (swap kind n ws xs nil u v.refs first at back (omega arith)).2;
      others = others-join v w x copy (held-others v w u copy move) others;
    }

pub copied-none : (v f : SeatView) (row copy k : ℕ) → tree_word (tree_of row v.refs) ≡ suc row → 2 ≤ word (tree_of row v.refs) 1
    → word (tree_of row v.refs) 1 ≤ 3 → f ≡ v → Follows v row (3 + k) None → Copies v f row copy k 1
copied-none v f row copy k ref low high same follow kind n us ms vs ws xs e len many o at =
    let (ne, u, is, up, to_is) = source-at v row k None us ms vs ref low high e len many follow in
    let empty = named-zero u (nowhere (tree_word u) to_is) in
    subst (λ z. OwnsNode z copy kind n (ws ++ (ms ++ xs))) (sym same) (subst (λ l. OwnsNode v copy kind n (ws ++ (l ++ xs))) (sym (is ∙ ap (λ t. t ∷ []) empty))
    o)

-- ---- several links
pub copies-none : (v : SeatView) (row copy k m : ℕ) → m ≤ 0 → Copies v v row copy k m
copies-none v row copy k zero low kind n us [] vs ws xs e len many o at = o
copies-none v row copy k zero low kind n us (u ∷ ms) vs ws xs e len many o at = absurd (omega arith)
copies-none v row copy k (suc m) low kind n us ms vs ws xs e len many o at = absurd (omega arith)

pub can-copy-first : (v : SeatView) (row copy k m : ℕ) → 0 < m → CanCopy v row copy k m → CanCopy v row copy k 1
can-copy-first v row copy k m some_links (kind, n, us, [], vs, ws, xs, ref, low, high, e, len, many, most, o, at, few) = absurd (omega arith)
can-copy-first v row copy k m some_links (kind, n, us, u ∷ ms, vs, ws, xs, ref, low, high, e, len, many, most, o, at, few) = (
  kind,
  n,
  us,
  u ∷ [],
  ms ++ vs,
  ws,
  replicate (m - 1) nil ++ xs,
  ref,
  low,
  high,
  e,
  len,
  refl,
  omega arith,
  subst (λ l. OwnsNode v copy kind n (ws ++ (l ++ xs))) (gaps-one m some_links) o,
  at,
  few,
)

pub can-copy-next : (v w : SeatView) (row copy k m : ℕ) → 0 < m → CanCopy v row copy k m → Copies v w row copy k 1 → w.refs ≡ v.refs
    → CanCopy w row copy (k + 1) (m - 1)
can-copy-next v w row copy k m some_links (kind, n, us, [], vs, ws, xs, ref, low, high, e, len, many, most, o, at, few) first same = absurd (omega arith)
can-copy-next v w row copy k m some_links (kind, n, us, u ∷ ms, vs, ws, xs, ref, low, high, e, len, many, most, o, at, few) first same =
    let z = first kind n us (u ∷ []) (ms ++ vs) ws (replicate (m - 1) nil ++ xs) e len refl
    (subst (λ l. OwnsNode v copy kind n (ws ++ (l ++ xs))) (gaps-one m some_links) o) at in
    let t : tree_of row w.refs ≡ tree_of row v.refs = ap (tree_of row) same in (
      kind,
      n,
      us ++ u ∷ [],
      ms,
      vs,
      ws ++ u ∷ [],
      xs,
      ap tree_word t ∙ ref,
      subst (λ t. 2 ≤ word t 1) (sym t) low,
      subst (λ t. word t 1 ≤ 3) (sym t) high,
      ap children t ∙ e ∙ sym (append_assoc us (u ∷ []) (ms ++ vs)),
      omega (arith, length-append us (u ∷ [])),
      omega arith,
      omega arith,
      subst (OwnsNode w copy kind n) (sym (append_assoc ws (u ∷ []) (replicate (m - 1) nil ++ xs))) z,
      omega (arith, length-append ws (u ∷ [])),
      (let a = ap length same in omega arith),
    )

pub copies-more : (v w x : SeatView) (row copy k m : ℕ) → 0 < m → Copies v w row copy k 1 → w.refs ≡ v.refs → Copies w x row copy (k + 1) (m - 1)
    → Copies v x row copy k m
copies-more v w x row copy k m some_links first same others kind n us [] vs ws xs e len many o at = absurd (omega arith)
copies-more v w x row copy k m some_links first same others kind n us (u ∷ ms) vs ws xs e len many o at =
    let z = first kind n us (u ∷ []) (ms ++ vs) ws (replicate (m - 1) nil ++ xs) e len refl
    (subst (λ l. OwnsNode v copy kind n (ws ++ (l ++ xs))) (gaps-one m some_links) o) at in
    let t : tree_of row w.refs ≡ tree_of row v.refs = ap (tree_of row) same in
    let y = others kind n (us ++ u ∷ []) ms vs (ws ++ u ∷ []) xs (ap children t ∙ e ∙ sym (append_assoc us (u ∷ []) (ms ++ vs)))
    (omega (arith, length-append us (u ∷ []))) (omega arith)
    (subst (OwnsNode w copy kind n) (sym (append_assoc ws (u ∷ []) (replicate (m - 1) nil ++ xs))) z) (omega (arith, length-append ws (u ∷ []))) in
    subst (OwnsNode x copy kind n) (append_assoc ws (u ∷ []) (ms ++ xs)) y

-- ---- a whole node
pub record Laid (kind n : ℕ) (us : List Tree) : Type 0 where
  pub top : Tree
  pub its : List Tree
  pub cs : List Tree
  pub spread : Spread n us top its cs
  pub sort : ((kind ≡ 2) × (cs ≡ [])) ⊎ ((kind ≡ 3) × (length cs ≡ n + 1))

pub laid : (h kind n : ℕ) (us xs : List Tree) → Node h kind n us xs → Laid kind n us
laid zero kind n us xs o = record { top = o.top; its = xs; cs = []; spread = o.spread; sort = inl (o.is, refl) }
laid (suc h) kind n us xs o = record { top = o.top; its = o.its; cs = o.cs; spread = o.spread; sort = inr (o.is, let a = o.one_more in omega arith) }

-- the links that are copied first, and what stands behind them
pub record FirstPart (n : ℕ) (us : List Tree) (top : Tree) (its cs : List Tree) (free room : ℕ) : Type 0 where
  pub source : us ≡ [] ++ ((top ∷ its) ++ (replicate free nil ++ (cs ++ replicate room nil)))
  pub long : length (top ∷ its) ≡ n + 1
  pub copy : replicate 64 nil ≡ [] ++ (replicate (n + 1) nil ++ (replicate free nil ++ (replicate (length cs) nil ++ replicate room nil)))

pub first-part : (n : ℕ) (us : List Tree) (top : Tree) (its cs : List Tree) (s : Spread n us top its cs) → FirstPart n us top its cs s.free s.room
first-part n us top its cs s = record {
  source = s.links ∙ ap (λ l. top ∷ l) (append_assoc its (replicate s.free nil) (cs ++ replicate s.room nil));
  long = (let a = s.count in omega arith);
  copy = empty-links n s.free (length cs) s.room s.items s.children;
}

pub record SecondPart (n : ℕ) (us : List Tree) (top : Tree) (its cs : List Tree) (free room : ℕ) : Type 0 where
  pub front : List Tree
  pub place : length front ≡ 32
  pub source : us ≡ front ++ (cs ++ replicate room nil)
  pub before : (ds : List Tree) → [] ++ ((top ∷ its) ++ (replicate free nil ++ (ds ++ replicate room nil))) ≡ front ++ (ds ++ replicate room nil)

pub second-part : (n : ℕ) (us : List Tree) (top : Tree) (its cs : List Tree) (s : Spread n us top its cs) → SecondPart n us top its cs s.free s.room
second-part n us top its cs s = record {
  front = (top ∷ its) ++ replicate s.free nil;
  place = (let a = s.count in let b = s.items in let g = length-replicate {A = Tree} s.free nil in let l = length-append its (replicate s.free nil) in
      omega arith);
  source = s.links;
  before = λ ds. ap (λ l. top ∷ l) (sym (append_assoc its (replicate s.free nil) (ds ++ replicate s.room nil)));
}

-- what the copy of a whole node begins with
pub record Plan (v : SeatView) (row copy kind n : ℕ) : Type 0 where
  pub lay : Laid kind n (children (tree_of row v.refs))
  pub ref : tree_word (tree_of row v.refs) ≡ suc row
  pub is_kind : kind ≡ word (tree_of row v.refs) 1
  pub owns : OwnsNode v copy kind n (replicate 64 nil)
  pub few : length v.refs + 1 < 2 ^ 32

pub plan : (v : SeatView) (row copy kind n h : ℕ) (xs : List Tree) → tree_word (tree_of row v.refs) ≡ suc row → Stands h (tree_of row v.refs) xs
    → kind ≡ word (tree_of row v.refs) 1 → n ≡ word (tree_of row v.refs) 2 → OwnsNode v copy kind n (replicate 64 nil) → length v.refs + 1 < 2 ^ 32
    → Plan v row copy kind n
plan v row copy kind n h xs ref node k m o few = record {
  lay = subst (λ (z : ℕ × ℕ). Laid z.0 z.1 (children (tree_of row v.refs))) (λ i. (sym k i, sym m i))
      (laid h (word (tree_of row v.refs) 1) (word (tree_of row v.refs) 2) (children (tree_of row v.refs)) xs node);
  ref = ref;
  is_kind = k;
  owns = o;
  few = few;
}

pub plan-first : (v : SeatView) (row copy kind n : ℕ) → Plan v row copy kind n → CanCopy v row copy 0 (n + 1)
plan-first v row copy kind n p =
    let l = p.lay in let s = l.spread in let f = first-part n (children (tree_of row v.refs)) l.top l.its l.cs s in let k = p.is_kind in (
      kind,
      n,
      [],
      l.top ∷ l.its,
      replicate s.free nil ++ (l.cs ++ replicate s.room nil),
      [],
      replicate s.free nil ++ (replicate (length l.cs) nil ++ replicate s.room nil),
      p.ref,
      (let a = p.owns.low in omega arith),
      (let a = p.owns.high in omega arith),
      f.source,
      refl,
      f.long,
      (let a = s.items in omega arith),
      subst (OwnsNode v copy kind n) f.copy p.owns,
      refl,
      p.few,
    )

-- with the links to the items there
plan-after : (v w : SeatView) (row copy kind n : ℕ) (p : Plan v row copy kind n) → Copies v w row copy 0 (n + 1)
    → OwnsNode w copy kind n ((second-part n (children (tree_of row v.refs)) p.lay.top p.lay.its p.lay.cs p.lay.spread).front
    ++ (replicate (length p.lay.cs) nil ++ replicate p.lay.spread.room nil))
plan-after v w row copy kind n p first =
    let us : List Tree = children (tree_of row v.refs) in
    let l = p.lay in let s = l.spread in let f = first-part n us l.top l.its l.cs s in
    let z = first kind n [] (l.top ∷ l.its) (replicate s.free nil ++ (l.cs ++ replicate s.room nil)) []
    (replicate s.free nil ++ (replicate (length l.cs) nil ++ replicate s.room nil)) f.source refl f.long (subst (OwnsNode v copy kind n) f.copy p.owns) refl in
    subst (OwnsNode w copy kind n) ((second-part n us l.top l.its l.cs s).before (replicate (length l.cs) nil)) z

pub plan-leaf : (v w : SeatView) (row copy kind n : ℕ) (p : Plan v row copy kind n) → (kind ≡ 3 → ⊥) → Copies v w row copy 0 (n + 1)
    → OwnsNode w copy kind n (children (tree_of row v.refs))
plan-leaf v w row copy kind n p leaf first =
    let us : List Tree = children (tree_of row v.refs) in
    let l = p.lay in let s = l.spread in let q = second-part n us l.top l.its l.cs s in
    let none : l.cs ≡ [] = ⊎_elim (λ (z : (kind ≡ 2) × (l.cs ≡ [])). z.1) (λ (z : (kind ≡ 3) × (length l.cs ≡ n + 1)). absurd (leaf z.0)) l.sort in
    let gone : replicate (length l.cs) nil ≡ l.cs = (λ i. replicate (length (none i)) nil) ∙ sym none in
    subst (OwnsNode w copy kind n) (ap (λ ds. q.front ++ (ds ++ replicate s.room nil)) gone ∙ sym q.source) (plan-after v w row copy kind n p first)

pub plan-second : (v w : SeatView) (row copy kind n : ℕ) (p : Plan v row copy kind n) → kind ≡ 3 → Copies v w row copy 0 (n + 1) → w.refs ≡ v.refs
    → CanCopy w row copy 32 (n + 1)
plan-second v w row copy kind n p inner first same =
    let us : List Tree = children (tree_of row v.refs) in
    let l = p.lay in let s = l.spread in let q = second-part n us l.top l.its l.cs s in
    let many : length l.cs ≡ n + 1 = ⊎_elim (λ (z : (kind ≡ 2) × (l.cs ≡ [])). absurd (let a = z.0 in omega arith))
    (λ (z : (kind ≡ 3) × (length l.cs ≡ n + 1)). z.1) l.sort in
    let t : tree_of row w.refs ≡ tree_of row v.refs = ap (tree_of row) same in let k = p.is_kind in (
      kind,
      n,
      q.front,
      l.cs,
      replicate s.room nil,
      q.front,
      replicate s.room nil,
      ap tree_word t ∙ p.ref,
      subst (λ t. 2 ≤ word t 1) (sym t) (let a = p.owns.low in omega arith),
      subst (λ t. word t 1 ≤ 3) (sym t) (let a = p.owns.high in omega arith),
      ap children t ∙ q.source,
      q.place,
      many,
      (let a = s.items in omega arith),
      subst (λ m. OwnsNode w copy kind n (q.front ++ (replicate m nil ++ replicate s.room nil))) many (plan-after v w row copy kind n p first),
      q.place,
      (let a = ap length same in let b = p.few in omega arith),
    )

pub plan-inner : (v w x : SeatView) (row copy kind n : ℕ) (p : Plan v row copy kind n) → kind ≡ 3 → Copies v w row copy 0 (n + 1) → w.refs ≡ v.refs
    → Copies w x row copy 32 (n + 1) → OwnsNode x copy kind n (children (tree_of row v.refs))
plan-inner v w x row copy kind n p inner first same second =
    let us : List Tree = children (tree_of row v.refs) in
    let l = p.lay in let s = l.spread in let q = second-part n us l.top l.its l.cs s in
    let many : length l.cs ≡ n + 1 = ⊎_elim (λ (z : (kind ≡ 2) × (l.cs ≡ [])). absurd (let a = z.0 in omega arith))
    (λ (z : (kind ≡ 3) × (length l.cs ≡ n + 1)). z.1) l.sort in
    let z = second kind n q.front l.cs (replicate s.room nil) q.front (replicate s.room nil) (ap (λ ts. children (tree_of row ts)) same ∙ q.source) q.place many
    (subst (λ m. OwnsNode w copy kind n (q.front ++ (replicate m nil ++ replicate s.room nil))) many (plan-after v w row copy kind n p first)) q.place in
    subst (OwnsNode x copy kind n) (sym q.source) z

pub plan-most : (v : SeatView) (row n h : ℕ) (xs : List Tree) → Stands h (tree_of row v.refs) xs → n ≡ word (tree_of row v.refs) 2 → n ≤ 31
plan-most v row n h xs node m =
    let t : Tree = tree_of row v.refs in let a = node-most h (word t 1) (word t 2) (children t) xs node in omega arith
