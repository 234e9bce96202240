-- What a seat works on: the nodes that it owns, its references, and the chain, from a first view on.
use Rattle.std.proofs.Common.{List, [], ap, arith, false, length, refl, subst, sym, ℕ, ◌++◌, ◌+◌, ◌∷◌, ◌≡◌, ◌≢◌, ◌≤◌}
use Rattle.row_pool.proofs.Chains.{mem-neither}
use Rattle.row_pool.specs.Chains.{ChainGrows, IsChain}
use Rattle.row_pool.specs.Lists.{mem}
use Rattle.row_pool.specs.SeatView.{SeatView}
use Rattle.row_pool.specs.Trees.{Tree}
use Rattle.row_pool.specs.declared.chain.Chain.{Chain}
use Rattle.interval_tree.proofs.Frames.{mem-both, mem-cons, mem-more, owns-grows, owns-kept, spends-grows, spends-join, spends-more, spends-others}
use Rattle.interval_tree.proofs.Frames.{spends-self, spends-swap-after}
use Rattle.interval_tree.specs.Held.{Frame, HasRoom, OthersStand, OwnsNode, Spends}

-- a row that is owned as a node: its number, kind, count and links
abbrev pub Owned : Type 0
Owned = ℕ × (ℕ × (ℕ × List Tree))

abbrev pub node_at : ℕ → ℕ → ℕ → List Tree → Owned
node_at r kind n us = (r, (kind, (n, us)))

abbrev pub rows : List Owned → List ℕ
rows [] = []
rows (a ∷ fs) = a.0 ∷ rows fs

abbrev pub OwnsAll : SeatView → List Owned → Type 0
OwnsAll v [] = Unit {0}
OwnsAll v (a ∷ fs) = OwnsNode v a.0 a.1.0 a.1.1.0 a.1.1.1 × OwnsAll v fs

-- no row stands twice in the list
abbrev pub Apart : List ℕ → Type 0
Apart [] = Unit {0}
Apart (r ∷ rs) = (mem r rs ≡ false) × Apart rs

-- Since the view v, when the chain had the rows rs and the seat worked on the rows xs, at most k rows of the chain were used. The seat works on these nodes now
pub record Bench (v : SeatView) (xs rs : List ℕ) (k : ℕ) (w : SeatView) (c : Chain) (ns : List Owned) (R : List Tree) : Type 0 where
  pub spends : Spends k xs (rows ns) rs v w c
  pub owns : OwnsAll w ns
  pub apart : Apart (rows ns)
  pub refs : w.refs ≡ R

-- what a call promises of the chain: at most k rows less, and the rows ys in place of the rows xs
abbrev pub SpendsAll : ℕ → List ℕ → List ℕ → SeatView → SeatView → Chain → Chain → Type 0
SpendsAll k xs ys v w c d = (rs : List ℕ) → IsChain v c rs → Spends k xs ys rs v w d

-- ---- rows that a call does not work on
frame-beside : (xs ys rs left zs : List ℕ) (v w : SeatView) → Frame (xs ++ rs) (ys ++ left) v w → Frame ((xs ++ zs) ++ rs) ((ys ++ zs) ++ left) v w
frame-beside xs ys rs left zs v w f = record {
  same_seat = f.same_seat;
  kept = λ q e o.
      let a = mem-neither q (xs ++ zs) rs o.0 in let b = mem-neither q xs zs a.0 in
      let z = f.kept q e (mem-both q xs rs b.0 a.1, o.1) in let d = mem-neither q ys left z.0 in
      (mem-both q (ys ++ zs) left (mem-both q ys zs d.0 b.1) d.1, z.1);
  only = λ q e o.
      let a = mem-neither q (ys ++ zs) left o.0 in let b = mem-neither q ys zs a.0 in
      let z = f.only q e (mem-both q ys left b.0 a.1, o.1) in let d = mem-neither q xs rs z.0 in
      (mem-both q (xs ++ zs) rs (mem-both q xs zs d.0 b.1) d.1, z.1);
}

spends-beside : (k : ℕ) (xs ys rs zs : List ℕ) (v w : SeatView) (c : Chain) → Spends k xs ys rs v w c → Spends k (xs ++ zs) (ys ++ zs) rs v w c
spends-beside k xs ys rs zs v w c s = record {
  left = s.left;
  chain = s.chain;
  spent = s.spent;
  frame = frame-beside xs ys rs s.left zs v w s.frame;
}

rows-join : (fs bs : List Owned) → rows (fs ++ bs) ≡ rows fs ++ rows bs
rows-join [] bs = refl
rows-join (a ∷ fs) bs = ap (λ l. a.0 ∷ l) (rows-join fs bs)

apart-front : (rs ss : List ℕ) → Apart (rs ++ ss) → Apart rs
apart-front [] ss a = tt
apart-front (r ∷ rs) ss a = ((mem-neither r rs ss a.0).0, apart-front rs ss a.1)

owns-front : (v : SeatView) (fs bs : List Owned) → OwnsAll v (fs ++ bs) → OwnsAll v fs
owns-front v [] bs o = tt
owns-front v (a ∷ fs) bs o = (o.0, owns-front v fs bs o.1)

owns-back : (v : SeatView) (fs bs : List Owned) → OwnsAll v (fs ++ bs) → OwnsAll v bs
owns-back v [] bs o = o
owns-back v (a ∷ fs) bs o = owns-back v fs bs o.1

owns-both : (v : SeatView) (fs bs : List Owned) → OwnsAll v fs → OwnsAll v bs → OwnsAll v (fs ++ bs)
owns-both v [] bs a b = b
owns-both v (x ∷ fs) bs a b = (a.0, owns-both v fs bs a.1 b)

-- each of the rows is in none of the others
abbrev Away : List ℕ → List ℕ → Type 0
Away [] ss = Unit {0}
Away (r ∷ rs) ss = (mem r ss ≡ false) × Away rs ss

away-back : (rs ss : List ℕ) → Apart (rs ++ ss) → Away ss rs
away-back rs [] a = tt
away-back rs (s ∷ ss) a = (not-front rs a, away-back rs ss (without-next rs a))
  where
    not-front : (rs : List ℕ) → Apart (rs ++ s ∷ ss) → mem s rs ≡ false
    not-front [] a = refl
    not-front (r ∷ rs) a =
        let z = mem-neither r rs (s ∷ ss) a.0 in
        mem-more s r rs (λ e. (mem-cons r s ss z.1).0 (sym e)) (not-front rs a.1)

    without-next : (rs : List ℕ) → Apart (rs ++ s ∷ ss) → Apart (rs ++ ss)
    without-next [] a = a.1
    without-next (r ∷ rs) a =
        let z = mem-neither r rs (s ∷ ss) a.0 in (mem-both r rs ss z.0 (mem-cons r s ss z.1).1, without-next rs a.1)

apart-join : (rs ss : List ℕ) → Apart rs → Apart ss → Away ss rs → Apart (rs ++ ss)
apart-join [] ss a b w = b
apart-join (r ∷ rs) ss a b w = (mem-both r rs ss a.0 (not-back ss w), apart-join rs ss a.1 b (less ss w))
  where
    not-back : (ss : List ℕ) → Away ss (r ∷ rs) → mem r ss ≡ false
    not-back [] w = refl
    not-back (s ∷ ss) w = mem-more r s ss (λ e. (mem-cons s r rs w.0).0 (sym e)) (not-back ss w.1)

    less : (ss : List ℕ) → Away ss (r ∷ rs) → Away ss rs
    less [] w = tt
    less (s ∷ ss) w = ((mem-cons s r rs w.0).1, less ss w.1)

apart-back : (rs ss : List ℕ) → Apart (rs ++ ss) → Apart ss
apart-back [] ss a = a
apart-back (r ∷ rs) ss a = apart-back rs ss a.1

-- the nodes that a call did not work on stand
kept-all : (k : ℕ) (xs ys rs : List ℕ) (v w : SeatView) (c d : Chain) (ns : List Owned) → IsChain v c rs → Spends k xs ys rs v w d → OwnsAll v ns
    → Away (rows ns) xs → OwnsAll w ns × Away (rows ns) ys
kept-all k xs ys rs v w c d [] h s o a = (tt, tt)
kept-all k xs ys rs v w c d (n ∷ ns) h s o a =
    let z = owns-kept k xs ys rs v w c d n.0 n.1.0 n.1.1.0 n.1.1.1 h s o.0 a.0 in let y = kept-all k xs ys rs v w c d ns h s o.1 a.1 in
    ((z.owns, y.0), (z.apart, y.1))

-- ---- the first nodes are worked on
module _ {v : SeatView} {xs rs : List ℕ} {j : ℕ} {w : SeatView} {c : Chain} {R : List Tree} where
  -- the chain has rows left
  pub bench-room : {ns : List Owned} (k : ℕ) → Bench v xs rs j w c ns R → j + k ≤ length rs → HasRoom k w c
  bench-room k b many = (b.spends.left, b.spends.chain, let a = b.spends.spent in omega arith)

  pub bench-chain : {ns : List Owned} → Bench v xs rs j w c ns R → (ss : List ℕ) × IsChain w c ss
  bench-chain b = (b.spends.left, b.spends.chain)

  -- a call works on the nodes `fs`, which are the nodes `bs` then
  pub bench-call : (fs bs ns : List Owned) {k : ℕ} {x : SeatView} {d : Chain} {S : List Tree} → Bench v xs rs j w c (fs ++ ns) R
      → SpendsAll k (rows fs) (rows bs) w x c d → OwnsAll x bs → Apart (rows bs) → x.refs ≡ S → Bench v xs rs (j + k) x d (bs ++ ns) S
  bench-call fs bs ns {k} {x} {d} {S} b call owns apart refs =
      let s = call b.spends.left b.spends.chain in
      let whole = subst Apart (rows-join fs ns) b.apart in
      let z = kept-all k (rows fs) (rows bs) b.spends.left w x c d ns b.spends.chain s (owns-back w fs ns b.owns) (away-back (rows fs) (rows ns) whole) in
      record {
        spends = spends-join j k xs (rows (fs ++ ns)) (rows (bs ++ ns)) rs v w x c d b.spends
            (subst (λ (l : List ℕ × List ℕ). Spends k l.0 l.1 b.spends.left w x d) (λ i. (sym (rows-join fs ns) i, sym (rows-join bs ns) i))
            (spends-beside k (rows fs) (rows bs) b.spends.left (rows ns) w x d s));
        owns = owns-both x bs ns owns z.0;
        apart = subst Apart (sym (rows-join bs ns)) (apart-join (rows bs) (rows ns) apart (apart-back (rows fs) (rows ns) whole) z.1);
        refs = refs;
      }

  -- a step on the first node
  pub bench-step : {r kind n kind' n' : ℕ} {us us' : List Tree} {ns : List Owned} {x : SeatView} {S : List Tree}
      → Bench v xs rs j w c (node_at r kind n us ∷ ns) R
      → OthersStand r w x → OwnsNode x r kind' n' us' → x.refs ≡ S → Bench v xs rs j x c (node_at r kind' n' us' ∷ ns) S
  bench-step {r} {kind} {n} {kind'} {n'} {us} {us'} {ns} {x} {S} b others owns refs =
      let z = bench-call (node_at r kind n us ∷ []) (node_at r kind' n' us' ∷ []) ns b (λ ss h. spends-others w x r kind n us c [] ss b.owns.0 others h)
      (owns, tt) (refl, tt) refs in
      record { spends = spends-more (j + 0) j xs (r ∷ rows ns) rs v x c (omega arith) z.spends; owns = z.owns; apart = z.apart; refs = z.refs }

  -- the first two nodes in the other order
  pub bench-turn : {a b : Owned} {ns : List Owned} → Bench v xs rs j w c (a ∷ b ∷ ns) R → Bench v xs rs j w c (b ∷ a ∷ ns) R
  bench-turn {a} {b} {ns} o = record {
    spends = spends-swap-after a.0 b.0 j xs (rows ns) rs v w c o.spends;
    owns = (o.owns.1.0, (o.owns.0, o.owns.1.1));
    apart = (
      mem-more b.0 a.0 (rows ns) (λ e. (mem-cons a.0 b.0 (rows ns) o.apart.0).0 (sym e)) o.apart.1.0,
      ((mem-cons a.0 b.0 (rows ns) o.apart.0).1, o.apart.1.1),
    );
    refs = o.refs;
  }

  -- the first three nodes, the third one first
  pub bench-third : {a b d : Owned} {ns : List Owned} → Bench v xs rs j w c (a ∷ b ∷ d ∷ ns) R → Bench v xs rs j w c (d ∷ a ∷ b ∷ ns) R
  bench-third {a} {b} {d} {ns} o =
      let ad = (mem-cons a.0 b.0 (d.0 ∷ rows ns) o.apart.0).1 in
      record {
        spends = third a.0 b.0 d.0 (rows ns) o.spends;
        owns = (o.owns.1.1.0, (o.owns.0, (o.owns.1.0, o.owns.1.1.1)));
        apart = (
          mem-more d.0 a.0 (b.0 ∷ rows ns) (λ e. (mem-cons a.0 d.0 (rows ns) ad).0 (sym e))
              (mem-more d.0 b.0 (rows ns) (λ e. (mem-cons b.0 d.0 (rows ns) o.apart.1.0).0 (sym e)) o.apart.1.1.0),
          (
            mem-more a.0 b.0 (rows ns) (mem-cons a.0 b.0 (d.0 ∷ rows ns) o.apart.0).0 (mem-cons a.0 d.0 (rows ns) ad).1,
            ((mem-cons b.0 d.0 (rows ns) o.apart.1.0).1, o.apart.1.1.1),
          ),
        );
        refs = o.refs;
      }
    where
      order : (q a b d : ℕ) (ss : List ℕ) → mem q (a ∷ b ∷ d ∷ ss) ≡ false → mem q (d ∷ a ∷ b ∷ ss) ≡ false
      order q a b d ss m =
          let x = mem-cons q a (b ∷ d ∷ ss) m in let y = mem-cons q b (d ∷ ss) x.1 in let z = mem-cons q d ss y.1 in
          mem-more q d (a ∷ b ∷ ss) z.0 (mem-more q a (b ∷ ss) x.0 (mem-more q b ss y.0 z.1))

      back : (q a b d : ℕ) (ss : List ℕ) → mem q (d ∷ a ∷ b ∷ ss) ≡ false → mem q (a ∷ b ∷ d ∷ ss) ≡ false
      back q a b d ss m =
          let x = mem-cons q d (a ∷ b ∷ ss) m in let y = mem-cons q a (b ∷ ss) x.1 in let z = mem-cons q b ss y.1 in
          mem-more q a (b ∷ d ∷ ss) y.0 (mem-more q b (d ∷ ss) z.0 (mem-more q d ss x.0 z.1))

      third : (a b d : ℕ) (ss : List ℕ) → Spends j xs (a ∷ b ∷ d ∷ ss) rs v w c → Spends j xs (d ∷ a ∷ b ∷ ss) rs v w c
      third a b d ss s = record {
        left = s.left;
        chain = s.chain;
        spent = s.spent;
        frame = record {
          same_seat = s.frame.same_seat;
          kept = λ q e o. let z = s.frame.kept q e o in (order q a b d (ss ++ s.left) z.0, z.1);
          only = λ q e o. s.frame.only q e (back q a b d (ss ++ s.left) o.0, o.1);
        };
      }

  -- a row went, and what it leads to, into the chain
  pub bench-grows : {ns : List Owned} {x : SeatView} {d : Chain} {S : List Tree} → Bench v xs rs j w c ns R → ChainGrows w x c d → x.refs ≡ S
      → Bench v xs rs j x d ns S
  bench-grows {ns} {x} {d} {S} b g refs = record {
    spends = spends-more (j + 0) j xs (rows ns) rs v x d (omega arith)
        (spends-join j 0 xs (rows ns) (rows ns) rs v w x c d b.spends (spends-grows w x c d (rows ns) b.spends.left g b.spends.chain));
    owns = grown ns b.owns;
    apart = b.apart;
    refs = refs;
  }
    where
      grown : (ns : List Owned) → OwnsAll w ns → OwnsAll x ns
      grown [] o = tt
      grown (n ∷ ns) o = (owns-grows g.more w x n.0 n.1.0 n.1.1.0 n.1.1.1 g.owns_more o.0, grown ns o.1)

  -- another count
  pub bench-more : {ns : List Owned} (k : ℕ) → j ≤ k → Bench v xs rs j w c ns R → Bench v xs rs k w c ns R
  bench-more {ns} k le b = record { spends = spends-more j k xs (rows ns) rs v w c le b.spends; owns = b.owns; apart = b.apart; refs = b.refs }

  pub bench-links : {r kind n : ℕ} {us us' : List Tree} {ns : List Owned} → us ≡ us' → Bench v xs rs j w c (node_at r kind n us ∷ ns) R
      → Bench v xs rs j w c (node_at r kind n us' ∷ ns) R
  bench-links {r} {kind} {n} e b = record { spends = b.spends; owns = (subst (OwnsNode w r kind n) e b.owns.0, b.owns.1); apart = b.apart; refs = b.refs }

  -- the first two rows differ
  pub bench-apart : {a b : Owned} {ns : List Owned} → Bench v xs rs j w c (a ∷ b ∷ ns) R → a.0 ≢ b.0
  bench-apart {a} {b} {ns} o = (mem-cons a.0 b.0 (rows ns) o.apart.0).0

-- how it begins
pub bench-start : (v : SeatView) (c : Chain) (rs : List ℕ) (ns : List Owned) (refs : List Tree) → IsChain v c rs → OwnsAll v ns → Apart (rows ns)
    → v.refs ≡ refs
    → Bench v (rows ns) rs 0 v c ns refs
bench-start v c rs ns refs h o a r = record { spends = spends-self (rows ns) rs v c h; owns = o; apart = a; refs = r }

pub two-apart : (a b : ℕ) → a ≢ b → Apart (a ∷ b ∷ [])
two-apart a b ne = (mem-more a b [] ne refl, (refl, tt))
