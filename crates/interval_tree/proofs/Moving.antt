-- Links go from one owned node to another.
use Rattle.std.proofs.Common.{◌≡◌, ◌≢◌, ℕ, zero, suc, ◌+◌, ◌-◌, ◌<◌, ◌≤◌, List, [], ◌∷◌, ◌++◌, length, replicate, length-append, append_assoc, sym, refl, ap}
use Rattle.std.proofs.Common.{◌∙◌, subst, arith}
use Rattle.row_pool.specs.Chains.{IsChain}
use Rattle.row_pool.specs.Changes.{with_old_target}
use Rattle.row_pool.specs.SeatView.{SeatView}
use Rattle.row_pool.specs.Trees.{Tree, nil, tree_word}
use Rattle.row_pool.specs.declared.chain.Chain.{Chain}
use Rattle.interval_tree.proofs.Frames.{owns-others, spends-add, spends-join, spends-others}
use Rattle.interval_tree.proofs.Fresh.{gaps-one}
use Rattle.interval_tree.specs.Held.{OthersStand, OwnsNode, Spends}
use Rattle.interval_tree.specs.Steps.{CanMove, CanSwap, MovesLinks, Swaps}

-- one link
pub record One (v x : SeatView) (from to a b n moved : ℕ) (kind m kind2 m2 : ℕ) (us ms vs ws xs : List Tree) : Type 0 where
  pub first : Tree
  pub later : List Tree
  pub split : ms ≡ first ∷ later
  pub is : moved ≡ tree_word first
  pub mid_from : OwnsNode v from kind m (us ++ first ∷ (later ++ vs))
  pub mid_to : OwnsNode x to kind2 m2 (ws ++ nil ∷ (replicate (n - 1) nil ++ xs))
  pub refs : x.refs ≡ with_old_target first v.refs
  pub out : OwnsNode x from kind m (us ++ nil ∷ (later ++ vs))

pub one : (v x : SeatView) (from to a b n moved : ℕ) → Swaps v x from a 0 moved → OthersStand from v x → 0 < n
    → (kind m kind2 m2 : ℕ) (us ms vs ws xs : List Tree) → OwnsNode v from kind m (us ++ (ms ++ vs)) → length us ≡ a → length ms ≡ n
    → OwnsNode v to kind2 m2 (ws ++ (replicate n nil ++ xs)) → length ws ≡ b → from ≢ to → One v x from to a b n moved kind m kind2 m2 us ms vs ws xs
one v x from to a b n moved f others low kind m kind2 m2 us [] vs ws xs o at many p at2 apart = absurd (omega arith)
one v x from to a b n moved f others low kind m kind2 m2 us (t ∷ ms) vs ws xs o at many p at2 apart =
    let z = f kind m us (ms ++ vs) t nil v.refs o at refl refl in
    record {
      first = t;
      later = ms;
      split = refl;
      is = z.0;
      mid_from = o;
      out = z.1;
      refs = z.2;
      mid_to = owns-others from v x to kind2 m2 (ws ++ nil ∷ (replicate (n - 1) nil ++ xs)) others (λ e. apart (sym e))
          (subst (λ l. OwnsNode v to kind2 m2 (ws ++ (l ++ xs))) (gaps-one n low) p);
    }

-- both swaps
pub record Two (w : SeatView) (from to a b n : ℕ) (v : SeatView) (kind m kind2 m2 : ℕ) (us ms vs ws xs : List Tree) : Type 0 where
  pub first : Tree
  pub later : List Tree
  pub split : ms ≡ first ∷ later
  pub from_owns : OwnsNode w from kind m ((us ++ nil ∷ []) ++ (later ++ vs))
  pub from_place : length (us ++ nil ∷ []) ≡ a + 1
  pub many : length later ≡ n - 1
  pub to_owns : OwnsNode w to kind2 m2 ((ws ++ first ∷ []) ++ (replicate (n - 1) nil ++ xs))
  pub to_place : length (ws ++ first ∷ []) ≡ b + 1
  pub refs : w.refs ≡ v.refs

pub two : (v x w : SeatView) (from to a b n moved answer : ℕ) → Swaps v x from a 0 moved → OthersStand from v x → Swaps x w to b moved answer
    → OthersStand to x w → 0 < n → (kind m kind2 m2 : ℕ) (us ms vs ws xs : List Tree) → OwnsNode v from kind m (us ++ (ms ++ vs)) → length us ≡ a
    → length ms ≡ n → OwnsNode v to kind2 m2 (ws ++ (replicate n nil ++ xs)) → length ws ≡ b → from ≢ to → Two w from to a b n v kind m kind2 m2 us ms vs ws xs
two v x w from to a b n moved answer f others g others2 low kind m kind2 m2 us ms vs ws xs o at many p at2 apart =
    let q = one v x from to a b n moved f others low kind m kind2 m2 us ms vs ws xs o at many p at2 apart in
    let z = g kind2 m2 ws (replicate (n - 1) nil ++ xs) nil q.first v.refs q.mid_to at2 q.refs (sym q.is) in
    let l = ap length q.split in
    record {
      first = q.first;
      later = q.later;
      split = q.split;
      from_owns = subst (OwnsNode w from kind m) (sym (append_assoc us (nil ∷ []) (q.later ++ vs)))
          (owns-others to x w from kind m (us ++ nil ∷ (q.later ++ vs)) others2 apart q.out);
      from_place = omega (arith, length-append us (nil ∷ []));
      many = omega arith;
      to_owns = subst (OwnsNode w to kind2 m2) (sym (append_assoc ws (q.first ∷ []) (replicate (n - 1) nil ++ xs))) z.1;
      to_place = omega (arith, length-append ws (q.first ∷ []));
      refs = z.2;
    }

pub all-moved : (v x w y : SeatView) (from to a b n moved answer : ℕ) → Swaps v x from a 0 moved → OthersStand from v x → Swaps x w to b moved answer
    → OthersStand to x w → 0 < n → MovesLinks w y from to (a + 1) (b + 1) (n - 1) → MovesLinks v y from to a b n
all-moved v x w y from to a b n moved answer f others g others2 low h kind m kind2 m2 us ms vs ws xs o at many p at2 apart =
    let t = two v x w from to a b n moved answer f others g others2 low kind m kind2 m2 us ms vs ws xs o at many p at2 apart in
    let z = h kind m kind2 m2 (us ++ nil ∷ []) t.later vs (ws ++ t.first ∷ []) xs t.from_owns t.from_place t.many t.to_owns t.to_place apart in (
      subst (OwnsNode y from kind m) (append_assoc us (nil ∷ []) (replicate (n - 1) nil ++ vs) ∙ ap (λ l. us ++ (l ++ vs)) (sym (gaps-one n low))) z.0,
      subst (OwnsNode y to kind2 m2) (append_assoc ws (t.first ∷ []) (t.later ++ xs) ∙ ap (λ l. ws ++ (l ++ xs)) (sym t.split)) z.1,
    )

pub none-moved : (v : SeatView) (from to a b n : ℕ) → n ≤ 0 → MovesLinks v v from to a b n
none-moved v from to a b zero low kind m kind2 m2 us [] vs ws xs o at many p at2 apart = (o, p)
none-moved v from to a b zero low kind m kind2 m2 us (t ∷ ms) vs ws xs o at many p at2 apart = absurd (omega arith)
none-moved v from to a b (suc n) low kind m kind2 m2 us ms vs ws xs o at many p at2 apart = absurd (omega arith)

-- ---- what the calls of a move ask for
pub move-first : (v : SeatView) (from to a b n : ℕ) → 0 < n → CanMove v from to a b n → CanSwap v from a 0
move-first v from to a b n low (kind, m, kind2, m2, us, [], vs, ws, xs, o, at, many, p, at2, apart, most, most2, few) = absurd (omega arith)
move-first v from to a b n low (kind, m, kind2, m2, us, t ∷ ms, vs, ws, xs, o, at, many, p, at2, apart, most, most2, few) =
    (kind, m, us, ms ++ vs, t, nil, v.refs, o, at, omega arith, refl, refl, omega arith)

pub move-second : (v x : SeatView) (from to a b n moved : ℕ) → 0 < n → CanMove v from to a b n → Swaps v x from a 0 moved → OthersStand from v x
    → CanSwap x to b moved
move-second v x from to a b n moved low (kind, m, kind2, m2, us, ms, vs, ws, xs, o, at, many, p, at2, apart, most, most2, few) swap others =
    let q = one v x from to a b n moved swap others low kind m kind2 m2 us ms vs ws xs o at many p at2 apart in
    (kind2, m2, ws, replicate (n - 1) nil ++ xs, nil, q.first, v.refs, q.mid_to, at2, omega arith, q.refs, sym q.is, omega arith)

pub move-next : (v x w : SeatView) (from to a b n moved answer : ℕ) → 0 < n → CanMove v from to a b n → Swaps v x from a 0 moved → OthersStand from v x
    → Swaps x w to b moved answer → OthersStand to x w → CanMove w from to (a + 1) (b + 1) (n - 1) × (w.refs ≡ v.refs)
move-next v x w from to a b n moved answer low (kind, m, kind2, m2, us, ms, vs, ws, xs, o, at, many, p, at2, apart, most, most2, few) f fo g go =
    let t = two v x w from to a b n moved answer f fo g go low kind m kind2 m2 us ms vs ws xs o at many p at2 apart in (
      (
        kind,
        m,
        kind2,
        m2,
        us ++ nil ∷ [],
        t.later,
        vs,
        ws ++ t.first ∷ [],
        xs,
        t.from_owns,
        t.from_place,
        t.many,
        t.to_owns,
        t.to_place,
        apart,
        omega arith,
        omega arith,
        let l = ap length t.refs in omega arith,
      ),
      t.refs,
    )

-- the chain through one link's move
pub move-spends : (v x w y : SeatView) (from to a b n moved : ℕ) (rs : List ℕ) (c : Chain) → 0 < n → CanMove v from to a b n → Swaps v x from a 0 moved
    → OthersStand from v x → OthersStand to x w → IsChain v c rs
    → ((rs : List ℕ) (c : Chain) → IsChain w c rs → Spends 0 (from ∷ to ∷ []) (from ∷ to ∷ []) rs w y c) → Spends 0 (from ∷ to ∷ []) (from ∷ to ∷ []) rs v y c
move-spends v x w y from to a b n moved rs c low (kind, m, kind2, m2, us, ms, vs, ws, xs, o, at, many, p, at2, apart, most, most2, few) f fo go h later =
    let q = one v x from to a b n moved f fo low kind m kind2 m2 us ms vs ws xs o at many p at2 apart in
    let s = spends-others v x from kind m (us ++ (ms ++ vs)) c (to ∷ []) rs o fo h in
    let t = spends-add from 0 (to ∷ []) (to ∷ []) s.left x w c
    (spends-others x w to kind2 m2 (ws ++ nil ∷ (replicate (n - 1) nil ++ xs)) c [] s.left q.mid_to go s.chain) in
    spends-join 0 0 (from ∷ to ∷ []) (from ∷ to ∷ []) (from ∷ to ∷ []) rs v x y c c s
    (spends-join 0 0 (from ∷ to ∷ []) (from ∷ to ∷ []) (from ∷ to ∷ []) s.left x w y c c t (later t.left c t.chain))
