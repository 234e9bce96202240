-- The definitions of a generated script, from one place on: at the end nothing is left, and before it comes one more and then the rest.
use Rattle.std.proofs.Common.{◌≡◌, ℕ, suc, ◌+◌, ◌-◌, ◌%◌, ◌<◌, ◌≤◌, List, [], ◌∷◌, ◌++◌, refl, sym, ap, ◌∙◌, append_assoc, arith}
use Rattle.std.proofs.lemmas.Bool.{le-leb, lt-leb}
use Rattle.latch_model.specs.declared.latch.Latch.{Latch}
use Rattle.script.specs.declared.command.Command.{Command}
use Rattle.script.specs.Generated.{closing, closings_from, draw, drawn_latch, drawn_latches, last_closings, opening_of, openings_from}

-- how many are left behind place k, of n
one_left : (n k : ℕ) → k < n → n - k ≡ suc (n - (k + 1))
one_left n k lt = omega arith

none_left : (n : ℕ) → n - n ≡ 0
none_left n = omega arith

-- ---- latches

-- what is drawn behind some latches: theirs, and then these, and the last number
pub record Draws (list : List Latch) (last : ℕ) (rest : ℕ) (all : List Latch × ℕ) : Type 0 where
  pub latches : list ++ (drawn_latches rest last).0 ≡ all.0
  pub number : (drawn_latches rest last).1 ≡ all.1

pub draws_on : (list : List Latch) (x n k : ℕ) (all : List Latch × ℕ) → k < n → Draws list x (n - k) all
    → (let d = draw x in let p = draw d in let e = draw p in let t = draw e in Draws (list ++ drawn_latch d p e t ∷ []) t (n - (k + 1)) all)
draws_on list x n k all lt s =
    let d = draw x in let p = draw d in let e = draw p in let t = draw e in
    let more = drawn_latches (n - (k + 1)) t in
    let one = one_left n k lt in
    record {
      latches = append_assoc list (drawn_latch d p e t ∷ []) more.0 ∙ ap (λ (m : ℕ). list ++ (drawn_latches m x).0) (sym one) ∙ s.latches;
      number = ap (λ (m : ℕ). (drawn_latches m x).1) (sym one) ∙ s.number;
    }

-- ---- openings

pub openings_on : (out all : List Command) (n i x : ℕ) → i < n → out ++ openings_from (n - i) i x ≡ all
    → (let c = draw x in let ls = drawn_latches (1 + c % 4) c in (out ++ opening_of i ls.0) ++ openings_from (n - (i + 1)) (i + 1) ls.1 ≡ all)
openings_on out all n i x lt s =
    let c = draw x in
    let ls = drawn_latches (1 + c % 4) c in
    append_assoc out (opening_of i ls.0) (openings_from (n - (i + 1)) (i + 1) ls.1)
    ∙ ap (λ (m : ℕ). out ++ openings_from m i x) (sym (one_left n i lt)) ∙ s

-- ---- closings

pub closings_on : (out all : List Command) (n first k : ℕ) → k < n → out ++ closings_from (n - k) (first + k) ≡ all
    → (out ++ closing (first + k)) ++ closings_from (n - (k + 1)) (first + (k + 1)) ≡ all
closings_on out all n first k lt s =
    let f : first + (k + 1) ≡ (first + k) + 1 = omega arith in
    ap (λ (i : ℕ). (out ++ closing (first + k)) ++ closings_from (n - (k + 1)) i) f
    ∙ append_assoc out (closing (first + k)) (closings_from (n - (k + 1)) ((first + k) + 1))
    ∙ ap (λ (m : ℕ). out ++ closings_from m (first + k)) (sym (one_left n k lt)) ∙ s

pub last_few : (n : ℕ) → n ≤ 64 → closings_from n 0 ≡ last_closings n
last_few n few = rw (le-leb n 64 few) refl

pub last_many : (n : ℕ) → 64 < n → closings_from 64 (n - 64) ≡ last_closings n
last_many n many = rw (lt-leb n 64 many) refl
