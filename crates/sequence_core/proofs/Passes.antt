-- The passes of a desk: those that it gave, one after another from the last, and all of them in the order of their numbers.
use Rattle.std.proofs.Common.{refl, ◌≡◌, ℕ, zero, suc, ◌+◌, ◌-◌, List, [], ◌∷◌, ◌++◌, length, slice_get, Some, sym, ◌∙◌, ap, subst, length-append, arith}
use Rattle.std.proofs.lemmas.Option.{get_or_from_slice_get, slice_get_within}
use Rattle.std.specs.List.{All}
use Rattle.atomic_table.specs.Seated.{TableId}
use Rattle.latch_model.proofs.Appending.{last_at}
use Rattle.latch_model.proofs.Members.{get_below}
use Rattle.signal_board.specs.Rule.{open_count}
use Rattle.signal_board.specs.Says.{PassSays}
use Rattle.sequence_core.specs.Says.{AreFresh, DeskState, HasEachPass, fresh_pass}

longer : {X : Type 0} (xs ys : List X) (i : ℕ) (x : X) → slice_get xs i ≡ Some x → slice_get (xs ++ ys) i ≡ Some x
longer [] ys i x at = cc
longer (y ∷ xs) ys zero x at = at
longer (y ∷ xs) ys (suc i) x at = longer xs ys i x at

-- the last of new passes, and those in front of it
module _ (table : TableId) (n : ℕ) (all front : List PassSays) (p : PassSays) (fresh : AreFresh table (n + 1) all) (is : all ≡ front ++ p ∷ []) where
  count : length front ≡ n
  count =
      let many = fresh.as_many in
      let long : length all ≡ length front + 1 = ap length is ∙ length-append front (p ∷ []) in
      omega arith

  pub fresh_last : p ≡ fresh_pass table (n + 1)
  fresh_last = fresh.each n p (ap (λ (l : List PassSays). slice_get l n) is ∙ (ap (slice_get (front ++ p ∷ [])) (sym count) ∙ last_at front p))

  pub fresh_front : AreFresh table n front
  fresh_front = record {
    as_many = count;
    each = λ i q at. fresh.each i q (ap (λ (l : List PassSays). slice_get l i) is ∙ longer front (p ∷ []) i q at);
  }

-- A pass of a desk, with this number and no open request.
pub record IsIdlePass (d : DeskState) (who : ℕ) (p : PassSays) : Type 0 where
  pub same : p.table ≡ d.core.signals
  pub number : p.p.who ≡ who
  pub idle : open_count p.p.mine ≡ 0

-- As many passes as were given, in the order of their numbers, are all.
pub has_each : (d : DeskState) (passes : List PassSays) → length passes ≡ d.given →
    ((i : ℕ) (p : PassSays) → slice_get passes i ≡ Some p → IsIdlePass d (i + 1) p) → HasEachPass d passes
has_each d passes many each = record {
  tables = all (λ (p : PassSays). p.table ≡ d.core.signals) (λ i p at. (each i p at).same);
  idle = all (λ (p : PassSays). open_count p.p.mine ≡ 0) (λ i p at. (each i p at).idle);
  each = λ who low high.
      let w = get_below passes (who - 1) (omega arith) in
      let number = (each (who - 1) w.0 w.1).number in
      (w.0, (who - 1, slice_get_within passes (who - 1) w.0 w.1, get_or_from_slice_get passes (who - 1) w.0 w.0 w.1), omega arith);
}
  where
    all : (P : PassSays → Type 0) → ((i : ℕ) (p : PassSays) → slice_get passes i ≡ Some p → P p) → All P passes
    all P h k e lt =
        let w = get_below passes k lt in
        subst P (sym (get_or_from_slice_get passes k w.0 e w.1)) (h k w.0 w.1)

-- those that were just given
pub has_fresh : (d : DeskState) (table : TableId) (n : ℕ) (passes : List PassSays) → AreFresh table n passes → table ≡ d.core.signals → n ≡ d.given →
    HasEachPass d passes
has_fresh d table n passes fresh same given = has_each d passes (fresh.as_many ∙ given) (λ i p at.
    subst (λ (q : PassSays). IsIdlePass d (i + 1) q) (sym (fresh.each i p at)) (record { same = same; number = refl; idle = refl }))

-- two of them
pub has_two : (d : DeskState) (one two : PassSays) → d.given ≡ 2 → IsIdlePass d 1 one → IsIdlePass d 2 two → HasEachPass d (one ∷ two ∷ [])
has_two d one two given first second = has_each d (one ∷ two ∷ []) (sym given) by
  where
    by : (i : ℕ) (p : PassSays) → slice_get (one ∷ two ∷ []) i ≡ Some p → IsIdlePass d (i + 1) p
    by zero p at = let same : one ≡ p = cc in subst (IsIdlePass d 1) same first
    by (suc zero) p at = let same : two ≡ p = cc in subst (IsIdlePass d 2) same second
    by (suc (suc i)) p at = cc

-- and four
pub has_four : (d : DeskState) (one two three four : PassSays) → d.given ≡ 4 → IsIdlePass d 1 one → IsIdlePass d 2 two → IsIdlePass d 3 three →
    IsIdlePass d 4 four → HasEachPass d (one ∷ two ∷ three ∷ four ∷ [])
has_four d one two three four given first second third fourth = has_each d (one ∷ two ∷ three ∷ four ∷ []) (sym given) by
  where
    by : (i : ℕ) (p : PassSays) → slice_get (one ∷ two ∷ three ∷ four ∷ []) i ≡ Some p → IsIdlePass d (i + 1) p
    by zero p at = let same : one ≡ p = cc in subst (IsIdlePass d 1) same first
    by (suc zero) p at = let same : two ≡ p = cc in subst (IsIdlePass d 2) same second
    by (suc (suc zero)) p at = let same : three ≡ p = cc in subst (IsIdlePass d 3) same third
    by (suc (suc (suc zero))) p at = let same : four ≡ p = cc in subst (IsIdlePass d 4) same fourth
    by (suc (suc (suc (suc i)))) p at = cc
