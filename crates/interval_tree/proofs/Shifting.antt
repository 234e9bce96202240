-- The links of an owned node move by one place.
use Rattle.std.proofs.Common.{◌≡◌, ◌≢◌, ℕ, ◌+◌, [], ◌∷◌, ◌++◌, length-append, append_assoc, sym, subst, arith}
use Rattle.row_pool.specs.SeatView.{SeatView}
use Rattle.row_pool.specs.Trees.{nil}
use Rattle.interval_tree.specs.Held.{OwnsNode}
use Rattle.interval_tree.specs.Steps.{CanInsert, CanSwap, Inserts, Swaps}

pub insert-first : (v : SeatView) (row k g : ℕ) → CanInsert v row k g → CanSwap v row k g
insert-first v row k g (kind, n, us, [], vs, t, R, o, len, nm, most, refs, is, few) = (kind, n, us, vs, nil, t, R, o, len, omega arith, refs, is, omega arith)
insert-first v row k g (kind, n, us, b ∷ bs, vs, t, R, o, len, nm, most, refs, is, few) =
    (kind, n, us, bs ++ nil ∷ vs, b, t, R, o, len, omega arith, refs, is, omega arith)

pub insert-next : (v w : SeatView) (row k g result : ℕ) → Swaps v w row k g result → result ≢ 0 → CanInsert v row k g → CanInsert w row (k + 1) result
insert-next v w row k g result f ne (kind, n, us, [], vs, t, R, o, len, nm, most, refs, is, few) = absurd (ne (f kind n us vs nil t R o len refs is).0)
insert-next v w row k g result f ne (kind, n, us, b ∷ bs, vs, t, R, o, len, nm, most, refs, is, few) =
    let h = f kind n us (bs ++ nil ∷ vs) b t R o len refs is in (
      kind,
      n,
      us ++ t ∷ [],
      bs,
      vs,
      b,
      R,
      subst (OwnsNode w row kind n) (sym (append_assoc us (t ∷ []) (bs ++ nil ∷ vs))) h.1,
      omega (arith, length-append us (t ∷ [])),
      nm.1,
      omega arith,
      h.2,
      sym h.0,
      few,
    )

pub inserts-more : (v w x : SeatView) (row k g result : ℕ) → Swaps v w row k g result → result ≢ 0 → Inserts w x row (k + 1) result → Inserts v x row k g
inserts-more v w x row k g result f ne h kind n us [] vs t R o len nm refs is = absurd (ne (f kind n us vs nil t R o len refs is).0)
inserts-more v w x row k g result f ne h kind n us (b ∷ bs) vs t R o len nm refs is =
    let s = f kind n us (bs ++ nil ∷ vs) b t R o len refs is in
    let z = h kind n (us ++ t ∷ []) bs vs b R (subst (OwnsNode w row kind n) (sym (append_assoc us (t ∷ []) (bs ++ nil ∷ vs))) s.1)
    (omega (arith, length-append us (t ∷ []))) nm.1 s.2 (sym s.0) in
    (subst (OwnsNode x row kind n) (append_assoc us (t ∷ []) (b ∷ (bs ++ vs))) z.0, z.1)

pub inserts-stops : (v w : SeatView) (row k g result : ℕ) → Swaps v w row k g result → result ≡ 0 → Inserts v w row k g
inserts-stops v w row k g result f e kind n us [] vs t R o len nm refs is = let s = f kind n us vs nil t R o len refs is in (s.1, s.2)
inserts-stops v w row k g result f e kind n us (b ∷ bs) vs t R o len nm refs is =
    let s = f kind n us (bs ++ nil ∷ vs) b t R o len refs is in let p = nm.0 in let q = s.0 in absurd (omega arith)
