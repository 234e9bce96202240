-- The last line as a fact is the last line that is computed.
use Rattle.std.proofs.Common.{◌≡◌, ℕ, ◌-◌, ◌<◌, ◌==◌, not, List, length, drop, take, get_or, sym, ap, ◌∙◌, ⊎_elim, arith}
use Rattle.std.specs.List.{suffix_len}
use Rattle.std.proofs.lemmas.List.{get_or-take, length-take-le}
use Rattle.std.proofs.lemmas.List.Sums.{suffix_len_is}
use Rattle.std.proofs.lemmas.Bool.{eq-eqb, ne_eqb}
use Rattle.step_run.specs.Lines.{IsLastLine, last_line}

pub last_is : (text line : List ℕ) → IsLastLine text line → line ≡ last_line text
last_is text line h =
    let n : ℕ = length text - 1 in
    let inside : h.from < length text = h.inside in
    let short : length (take n text) ≡ n = length-take-le n text (omega arith) in
    let same : (k : ℕ) → k < n → get_or (take n text) k 0 ≡ get_or text k 0 = λ k l. get_or-take n text k 0 l in
    let suffix : suffix_len (λ b. not (b == 10)) (take n text) ≡ length (take n text) - h.from =
    suffix_len_is (λ b. not (b == 10)) (take n text) h.from 0 (omega arith)
    (λ k low high. ap not (ne_eqb (get_or (take n text) k 0) 10 (λ e. h.one_feed k low (omega arith) (sym (same k (omega arith)) ∙ e))))
    (λ some. ap not (eq-eqb (get_or (take n text) (h.from - 1) 0) 10
    (same (h.from - 1) (omega arith) ∙ ⊎_elim (λ e. absurd (omega arith)) (λ e. e) h.starts))) in
    h.rest ∙ ap (λ m. drop m text) (omega arith)
