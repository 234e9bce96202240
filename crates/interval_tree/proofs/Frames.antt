-- What several calls leave as it was, and what they take from a chain.
use Rattle.std.proofs.Common.{◌≡◌, ◌≢◌, ℕ, ◌+◌, ◌≤◌, true, false, true≢false, List, [], ◌∷◌, ◌++◌, length-append, sym, refl, ap, ◌∙◌, subst, ⊎_elim, ne_eqb}
use Rattle.std.proofs.Common.{arith}
use Rattle.std.proofs.lemmas.Bool.Decides.{eqb_tells}
use mathlib.Core.Option.{none, some, some-ne-none, some-injective}
use Rattle.row_pool.proofs.Chains.{chain-aside, chain-on, mem-here, mem-neither, mem-or, strung-free}
use Rattle.row_pool.specs.Chains.{ChainGrows, IsChain, OwnsMore}
use Rattle.row_pool.specs.Lists.{find, mem}
use Rattle.row_pool.specs.SeatState.{SameSeat}
use Rattle.row_pool.specs.SeatView.{SeatView}
use Rattle.row_pool.specs.Trees.{Entry, Tree}
use Rattle.row_pool.specs.declared.chain.Chain.{Chain}
use Rattle.interval_tree.specs.Held.{Frame, OthersStand, OwnsBeside, OwnsNode, Spends}

-- ---- rows in a list
pub mem-cons : (q r : ℕ) (rs : List ℕ) → mem q (r ∷ rs) ≡ false → (q ≢ r) × (mem q rs ≡ false)
mem-cons q r rs h = ⊎_elim (λ t. absurd (true≢false (rw t.0 at h))) (λ t. ((λ e. t.1 (sym e)), rw t.0 at h)) (eqb_tells r q)

pub mem-more : (q r : ℕ) (rs : List ℕ) → q ≢ r → mem q rs ≡ false → mem q (r ∷ rs) ≡ false
mem-more q r rs n h = rw (ne_eqb r q (λ e. n (sym e))) h

pub mem-both : (q : ℕ) (rs ss : List ℕ) → mem q rs ≡ false → mem q ss ≡ false → mem q (rs ++ ss) ≡ false
mem-both q [] ss a b = b
mem-both q (r ∷ rs) ss a b = let z = mem-cons q r rs a in mem-more q r (rs ++ ss) z.0 (mem-both q rs ss z.1 b)

-- ---- frames
pub frame-self : (rs : List ℕ) (v : SeatView) → Frame rs rs v v
frame-self rs v = record { same_seat = record { number = refl; out = refl; size = refl }; kept = λ q e o. o; only = λ q e o. o }

pub same-join : (v w x : SeatView) → SameSeat v w → SameSeat w x → SameSeat v x
same-join v w x a b = record { number = b.number ∙ a.number; out = b.out ∙ a.out; size = b.size ∙ a.size }

pub frame-join : (rs ss ts : List ℕ) (v w x : SeatView) → Frame rs ss v w → Frame ss ts w x → Frame rs ts v x
frame-join rs ss ts v w x a b = record {
  same_seat = same-join v w x a.same_seat b.same_seat;
  kept = λ q e o. b.kept q e (a.kept q e o);
  only = λ q e o. a.only q e (b.only q e o);
}

-- one row more that is not looked at
beside-add : (p : ℕ) (rs ss : List ℕ) (v w : SeatView) → ((q : ℕ) (e : Entry) → OwnsBeside rs v q e → OwnsBeside ss w q e) → (q : ℕ) (e : Entry)
    → OwnsBeside (p ∷ rs) v q e → OwnsBeside (p ∷ ss) w q e
beside-add p rs ss v w f q e o = let z = mem-cons q p rs o.0 in let k = f q e (z.1, o.1) in (mem-more q p ss z.0 k.0, k.1)

pub frame-add : (p : ℕ) (rs ss : List ℕ) (v w : SeatView) → Frame rs ss v w → Frame (p ∷ rs) (p ∷ ss) v w
frame-add p rs ss v w f = record { same_seat = f.same_seat; kept = beside-add p rs ss v w f.kept; only = beside-add p ss rs w v f.only }

beside-swap : (p r : ℕ) (rs : List ℕ) (v : SeatView) (q : ℕ) (e : Entry) → OwnsBeside (p ∷ r ∷ rs) v q e → OwnsBeside (r ∷ p ∷ rs) v q e
beside-swap p r rs v q e o =
    let z = mem-cons q p (r ∷ rs) o.0 in let y = mem-cons q r rs z.1 in (mem-more q r (p ∷ rs) y.0 (mem-more q p rs z.0 y.1), o.1)

-- a step on one of the rows
pub frame-others : (r : ℕ) (rs : List ℕ) (v w : SeatView) → OthersStand r v w → mem r rs ≡ true → Frame rs rs v w
frame-others r rs v w o there = record {
  same_seat = o.same_seat;
  kept = λ q e h. (h.0, o.rows q (λ is. apart q is h.0) ∙ h.1);
  only = λ q e h. (h.0, sym (o.rows q (λ is. apart q is h.0)) ∙ h.1);
}
  where
    apart : (q : ℕ) → q ≡ r → mem q rs ≡ false → ⊥
    apart q is m = true≢false (sym there ∙ ap (λ z. mem z rs) (sym is) ∙ m)

-- a row goes, or comes
leaves : (r : ℕ) (rs : List ℕ) (v w : SeatView) → ((q : ℕ) → q ≢ r → find q w.owned ≡ find q v.owned) → (q : ℕ) (e : Entry) → OwnsBeside (r ∷ rs) v q e
    → OwnsBeside rs w q e
leaves r rs v w o q e h = let z = mem-cons q r rs h.0 in (z.1, o q z.0 ∙ h.1)

comes : (r : ℕ) (rs : List ℕ) (v w : SeatView) → ((q : ℕ) → q ≢ r → find q w.owned ≡ find q v.owned) → find r v.owned ≡ none → (q : ℕ) (e : Entry)
    → OwnsBeside rs v q e → OwnsBeside (r ∷ rs) w q e
comes r rs v w o gone q e h =
    let ne : q ≢ r = λ is. some-ne-none e (sym h.1 ∙ ap (λ z. find z v.owned) is ∙ gone) in (mem-more q r rs ne h.0, o q ne ∙ h.1)

pub frame-leaves : (r : ℕ) (rs : List ℕ) (v w : SeatView) → OthersStand r v w → find r w.owned ≡ none → Frame (r ∷ rs) rs v w
frame-leaves r rs v w o gone = record {
  same_seat = o.same_seat;
  kept = leaves r rs v w o.rows;
  only = comes r rs w v (λ q ne. sym (o.rows q ne)) gone;
}

pub frame-comes : (r : ℕ) (rs : List ℕ) (v w : SeatView) → OthersStand r v w → find r v.owned ≡ none → Frame rs (r ∷ rs) v w
frame-comes r rs v w o gone = record {
  same_seat = o.same_seat;
  kept = comes r rs v w o.rows gone;
  only = leaves r rs w v (λ q ne. sym (o.rows q ne));
}

frame-grows : (more xs rs : List ℕ) (v w : SeatView) → OwnsMore more v w → Frame (xs ++ rs) (xs ++ (more ++ rs)) v w
frame-grows more xs rs v w g = record {
  same_seat = g.same_seat;
  kept = λ q e h.
      let z = mem-neither q xs rs h.0 in
      ⊎_elim (λ m. absurd (some-ne-none e (sym h.1 ∙ g.fresh q m))) (λ m. (mem-both q xs (more ++ rs) z.0 (mem-both q more rs m z.1), g.same q m ∙ h.1))
      (mem-or q more);
  only = λ q e h.
      let z = mem-neither q xs (more ++ rs) h.0 in let y = mem-neither q more rs z.1 in (mem-both q xs rs z.0 y.1, sym (g.same q y.0) ∙ h.1);
}

-- ---- chains
pub spends-self : (xs rs : List ℕ) (v : SeatView) (c : Chain) → IsChain v c rs → Spends 0 xs xs rs v v c
spends-self xs rs v c h = record { left = rs; chain = h; spent = omega arith; frame = frame-self (xs ++ rs) v }

pub spends-same : (xs rs : List ℕ) (v w : SeatView) (c : Chain) → w ≡ v → IsChain v c rs → Spends 0 xs xs rs v w c
spends-same xs rs v w c is h = subst (λ z. Spends 0 xs xs rs v z c) (sym is) (spends-self xs rs v c h)

pub spends-join : (j k : ℕ) (xs ys zs rs : List ℕ) (v w x : SeatView) (c d : Chain) (a : Spends j xs ys rs v w c) → Spends k ys zs a.left w x d
    → Spends (j + k) xs zs rs v x d
spends-join j k xs ys zs rs v w x c d a b = record {
  left = b.left;
  chain = b.chain;
  spent = (let p = a.spent in let q = b.spent in omega arith);
  frame = frame-join (xs ++ rs) (ys ++ a.left) (zs ++ b.left) v w x a.frame b.frame;
}

pub spends-more : (j k : ℕ) (xs ys rs : List ℕ) (v w : SeatView) (c : Chain) → j ≤ k → Spends j xs ys rs v w c → Spends k xs ys rs v w c
spends-more j k xs ys rs v w c le a = record { left = a.left; chain = a.chain; spent = (let p = a.spent in omega arith); frame = a.frame }

pub spends-add : (p k : ℕ) (xs ys rs : List ℕ) (v w : SeatView) (c : Chain) → Spends k xs ys rs v w c → Spends k (p ∷ xs) (p ∷ ys) rs v w c
spends-add p k xs ys rs v w c a = record {
  left = a.left;
  chain = a.chain;
  spent = a.spent;
  frame = frame-add p (xs ++ rs) (ys ++ a.left) v w a.frame;
}

-- the rows in another order
pub spends-swap : (p q k : ℕ) (xs ys rs : List ℕ) (v w : SeatView) (c : Chain) → Spends k (p ∷ q ∷ xs) ys rs v w c → Spends k (q ∷ p ∷ xs) ys rs v w c
spends-swap p q k xs ys rs v w c a = record {
  left = a.left;
  chain = a.chain;
  spent = a.spent;
  frame = record {
    same_seat = a.frame.same_seat;
    kept = λ r e o. a.frame.kept r e (beside-swap q p (xs ++ rs) v r e o);
    only = λ r e o. beside-swap p q (xs ++ rs) v r e (a.frame.only r e o);
  };
}

pub spends-swap-after : (p q k : ℕ) (xs ys rs : List ℕ) (v w : SeatView) (c : Chain) → Spends k xs (p ∷ q ∷ ys) rs v w c → Spends k xs (q ∷ p ∷ ys) rs v w c
spends-swap-after p q k xs ys rs v w c a = record {
  left = a.left;
  chain = a.chain;
  spent = a.spent;
  frame = record {
    same_seat = a.frame.same_seat;
    kept = λ r e o. beside-swap p q (ys ++ a.left) w r e (a.frame.kept r e o);
    only = λ r e o. a.frame.only r e (beside-swap q p (ys ++ a.left) w r e o);
  };
}

rotate : (q a b d : ℕ) → mem q (a ∷ b ∷ d ∷ []) ≡ false → mem q (d ∷ a ∷ b ∷ []) ≡ false
rotate q a b d h =
    let x = mem-cons q a (b ∷ d ∷ []) h in let y = mem-cons q b (d ∷ []) x.1 in let z = mem-cons q d [] y.1 in
    mem-more q d (a ∷ b ∷ []) z.0 (mem-more q a (b ∷ []) x.0 (mem-more q b [] y.0 refl))

pub spends-rotate : (d a b k : ℕ) (ys rs : List ℕ) (v w : SeatView) (c : Chain) → Spends k (d ∷ a ∷ b ∷ []) ys rs v w c
    → Spends k (a ∷ b ∷ d ∷ []) ys rs v w c
spends-rotate d a b k ys rs v w c s = record {
  left = s.left;
  chain = s.chain;
  spent = s.spent;
  frame = record {
    same_seat = s.frame.same_seat;
    kept = λ q e o.
        let z = mem-neither q (a ∷ b ∷ d ∷ []) rs o.0 in s.frame.kept q e (mem-both q (d ∷ a ∷ b ∷ []) rs (rotate q a b d z.0) z.1, o.1);
    only = λ q e o.
        let r = s.frame.only q e o in let z = mem-neither q (d ∷ a ∷ b ∷ []) rs r.0 in
        (mem-both q (a ∷ b ∷ d ∷ []) rs (rotate q b d a (rotate q d a b z.0)) z.1, r.1);
  };
}

-- a node is no row of a chain
pub chain-others : (v w : SeatView) (r kind n : ℕ) (us : List Tree) (c : Chain) (rs : List ℕ) → OwnsNode v r kind n us → OthersStand r v w → IsChain v c rs
    → IsChain w c rs
chain-others v w r kind n us c rs o a h = chain-aside v w r c rs a.rows
    (λ e has. let z = ap (λ (e : Entry). e.kind) (some-injective o.entry e (sym o.has ∙ has)) in let k = o.is_kind in let l = o.low in omega arith) h

-- a step on a row that is not in the chain
pub chain-row : (v w : SeatView) (r : ℕ) (c : Chain) (rs : List ℕ) → OthersStand r v w → mem r rs ≡ false → IsChain v c rs → IsChain w c rs
chain-row v w r c rs a away h = chain-on v w c rs (λ q m. a.rows q (λ is. true≢false (sym m ∙ ap (λ z. mem z rs) is ∙ away))) h

pub spends-row : (v w : SeatView) (r : ℕ) (c : Chain) (xs rs : List ℕ) → OthersStand r v w → mem r rs ≡ false → IsChain v c rs
    → Spends 0 (r ∷ xs) (r ∷ xs) rs v w c
spends-row v w r c xs rs a away h = record {
  left = rs;
  chain = chain-row v w r c rs a away h;
  spent = omega arith;
  frame = frame-others r (r ∷ (xs ++ rs)) v w a (mem-here r (xs ++ rs));
}

pub owns-aside : (v : SeatView) (r kind n : ℕ) (us : List Tree) (c : Chain) (rs : List ℕ) → OwnsNode v r kind n us → IsChain v c rs → mem r rs ≡ false
owns-aside v r kind n us c rs o h = ⊎_elim
    (λ m. let z = strung-free v rs c.head r h.linked_from m in
    let s = ap (λ (e : Entry). e.kind) (some-injective o.entry z.0 (sym o.has ∙ z.1)) in let k = o.is_kind in let l = o.low in let f = z.2 in
    absurd (omega arith))
    (λ m. m) (mem-or r rs)

pub spends-others : (v w : SeatView) (r kind n : ℕ) (us : List Tree) (c : Chain) (xs rs : List ℕ) → OwnsNode v r kind n us → OthersStand r v w → IsChain v c rs
    → Spends 0 (r ∷ xs) (r ∷ xs) rs v w c
spends-others v w r kind n us c xs rs o a h = spends-row v w r c xs rs a (owns-aside v r kind n us c rs o h) h

pub spends-leaves : (v w : SeatView) (r kind n : ℕ) (us : List Tree) (c : Chain) (xs rs : List ℕ) → OwnsNode v r kind n us → OthersStand r v w
    → find r w.owned ≡ none → IsChain v c rs → Spends 0 (r ∷ xs) xs rs v w c
spends-leaves v w r kind n us c xs rs o a gone h = record {
  left = rs;
  chain = chain-others v w r kind n us c rs o a h;
  spent = omega arith;
  frame = frame-leaves r (xs ++ rs) v w a gone;
}

pub spends-comes : (v w : SeatView) (r : ℕ) (c : Chain) (xs rs : List ℕ) → OthersStand r v w → find r v.owned ≡ none → IsChain v c rs
    → Spends 0 xs (r ∷ xs) rs v w c
spends-comes v w r c xs rs a gone h = record {
  left = rs;
  chain = chain-aside v w r c rs a.rows (λ e has. absurd (some-ne-none e (sym has ∙ gone))) h;
  spent = omega arith;
  frame = frame-comes r (xs ++ rs) v w a gone;
}

pub spends-grows : (v w : SeatView) (c d : Chain) (xs rs : List ℕ) → ChainGrows v w c d → IsChain v c rs → Spends 0 xs xs rs v w d
spends-grows v w c d xs rs g h = record {
  left = g.more ++ rs;
  chain = g.chain rs h;
  spent = simp length-append (omega arith);
  frame = frame-grows g.more xs rs v w g.owns_more;
}

-- a row comes out of a chain
pub spends-pop : (v : SeatView) (d : Chain) (r p : ℕ) (rs : List ℕ) → p ≡ r → IsChain v d rs → Spends 1 [] (p ∷ []) (r ∷ rs) v v d
spends-pop v d r p rs is h = subst (λ p. Spends 1 [] (p ∷ []) (r ∷ rs) v v d) (sym is)
    (record { left = rs; chain = h; spent = omega arith; frame = frame-self (r ∷ rs) v })

-- ---- nodes through calls on others
pub owns-entry : (v w : SeatView) (r kind n : ℕ) (us : List Tree) (o : OwnsNode v r kind n us) → find r w.owned ≡ some o.entry → OwnsNode w r kind n us
owns-entry v w r kind n us o has = record {
  entry = o.entry;
  has = has;
  is_kind = o.is_kind;
  low = o.low;
  high = o.high;
  links = o.links;
  apart = o.apart;
  count = o.count;
  said = o.said;
}

pub owns-others : (q : ℕ) (v w : SeatView) (r kind n : ℕ) (us : List Tree) → OthersStand q v w → r ≢ q → OwnsNode v r kind n us → OwnsNode w r kind n us
owns-others q v w r kind n us a ne o = owns-entry v w r kind n us o (a.rows r ne ∙ o.has)

pub owns-same : (v w : SeatView) (r kind n : ℕ) (us : List Tree) → w.owned ≡ v.owned → OwnsNode v r kind n us → OwnsNode w r kind n us
owns-same v w r kind n us is o = owns-entry v w r kind n us o (ap (find r) is ∙ o.has)

-- a node on which the calls did not work
pub record Aside (w : SeatView) (r kind n : ℕ) (us : List Tree) (ys : List ℕ) : Type 0 where
  pub owns : OwnsNode w r kind n us
  pub apart : mem r ys ≡ false

pub owns-kept : (k : ℕ) (xs ys rs : List ℕ) (v w : SeatView) (c d : Chain) (r kind n : ℕ) (us : List Tree) → IsChain v c rs → Spends k xs ys rs v w d
    → OwnsNode v r kind n us → mem r xs ≡ false → Aside w r kind n us ys
owns-kept k xs ys rs v w c d r kind n us h a o away =
    let z = a.frame.kept r o.entry (mem-both r xs rs away (owns-aside v r kind n us c rs o h), o.has) in
    record {
      owns = owns-entry v w r kind n us o z.1;
      apart = (mem-neither r ys a.left z.0).0;
    }

pub apart-one : (r q : ℕ) → mem r (q ∷ []) ≡ false → r ≢ q
apart-one r q h = (mem-cons r q [] h).0

pub away-one : (r q : ℕ) → r ≢ q → mem r (q ∷ []) ≡ false
away-one r q h = mem-more r q [] h refl

-- ---- steps on one row
pub others-self : (v : SeatView) (r : ℕ) → OthersStand r v v
others-self v r = record { same_seat = record { number = refl; out = refl; size = refl }; rows = λ q n. refl }

pub others-join : (v w x : SeatView) (r : ℕ) → OthersStand r v w → OthersStand r w x → OthersStand r v x
others-join v w x r a b = record { same_seat = same-join v w x a.same_seat b.same_seat; rows = λ q n. b.rows q n ∙ a.rows q n }

-- the first view had the same rows
pub others-same : (v w x : SeatView) (r : ℕ) → w ≡ v → OthersStand r w x → OthersStand r v x
others-same v w x r is o = subst (λ z. OthersStand r z x) is o

-- a node through the growth of a chain
pub owns-grows : (more : List ℕ) (v w : SeatView) (r kind n : ℕ) (us : List Tree) → OwnsMore more v w → OwnsNode v r kind n us → OwnsNode w r kind n us
owns-grows more v w r kind n us g o = owns-entry v w r kind n us o
    (⊎_elim (λ m. absurd (some-ne-none o.entry (sym o.has ∙ g.fresh r m))) (λ m. g.same r m ∙ o.has) (mem-or r more))
