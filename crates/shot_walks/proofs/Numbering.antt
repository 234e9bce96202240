-- The numbers of the requests whose held latches are met.
use Rattle.std.proofs.Common.{◌≡◌, ◌∙◌, ℕ, List, [], ◌++◌, map, sym, ap}
use Rattle.std.proofs.lemmas.List.{append-nil, append_assoc, map-append}
use Rattle.std.proofs.lemmas.List.Kept.{Contains-dedup_nat, Contains-from_dedup}
use Rattle.std.proofs.lemmas.List.Sorted.{Contains-permutation, IsPermutation-sym}
use Rattle.std.proofs.lemmas.Map.Keys.{IsStrictlyIncreasing-dedup}
use Rattle.std.specs.List.{dedup}
use Rattle.std.specs.List.Sorted.{IsSorted}
use Rattle.std.specs.Ordering.{nat_cmp}
use Rattle.std.specs.Prelude.{IsPermutation, nat_eq}
use Rattle.latch_model.specs.Histories.{HeldLatch, ascending}
use Rattle.latch_model.proofs.Ascending.{In-ascending, Rising-ascending, Rising-from_increasing, ascending_of-In, same_rising}
use Rattle.latch_model.proofs.Lists.{Contains-from_In, In-from_Contains}

-- sorted, and each once
pub sorted_once : (old sorted new : List ℕ) → IsPermutation old sorted → IsSorted nat_cmp sorted → new ≡ dedup nat_eq sorted → new ≡ ascending old
sorted_once old sorted new moved order e =
    e ∙ same_rising (dedup nat_eq sorted) (ascending old) (Rising-from_increasing (dedup nat_eq sorted) (IsStrictlyIncreasing-dedup sorted order))
    (Rising-ascending old)
    (λ k there. In-ascending k old (In-from_Contains old k (Contains-permutation sorted old k (IsPermutation-sym old sorted moved)
    (Contains-from_dedup nat_eq sorted k (Contains-from_In (dedup nat_eq sorted) k there)))))
    (λ k there. In-from_Contains (dedup nat_eq sorted) k (Contains-dedup_nat sorted k
    (Contains-permutation old sorted k moved (Contains-from_In old k (ascending_of-In k old there)))))

-- the numbers of held latches
abbrev pub numbers : List HeldLatch → List ℕ
numbers xs = map (λ x. x.by) xs

-- of those that are left, the first ones were added: the numbers so far and those of what is left are the same ones
pub numbers_next : (goal now new : List ℕ) (left xs rest : List HeldLatch) → now ++ numbers left ≡ goal → left ≡ xs ++ rest → new ≡ now ++ numbers xs
    → new ++ numbers rest ≡ goal
numbers_next goal now new left xs rest is parted e =
    ap (λ zs. zs ++ numbers rest) e
    ∙ append_assoc now (numbers xs) (numbers rest)
    ∙ ap (λ zs. now ++ zs) (sym (map-append (λ (x : HeldLatch). x.by) xs rest) ∙ ap numbers (sym parted))
    ∙ is

-- nothing is left
pub numbers_all : (goal now : List ℕ) (left : List HeldLatch) → now ++ numbers left ≡ goal → left ≡ [] → now ≡ goal
numbers_all goal now left is none = sym (append-nil now) ∙ ap (λ xs. now ++ numbers xs) (sym none) ∙ is
