-- Lists that begin with what they were.
use Rattle.std.proofs.Common.{◌≡◌, ℕ, List, ◌++◌, length, take, drop, sym, ◌∙◌, ap, append_assoc}
use Rattle.std.proofs.Math.Seq.{take-append_seam}
use Rattle.std.proofs.lemmas.List.{take-append-drop}

-- a list that begins with a longer one begins with what that one begins with
pub take-through : (xs ys zs rest : List ℕ) → ys ≡ xs ++ rest → take (length ys) zs ≡ ys → take (length xs) zs ≡ xs
take-through xs ys zs rest e h =
    let all : zs ≡ xs ++ (rest ++ drop (length ys) zs) =
    sym (take-append-drop (length ys) zs) ∙ ap (λ v. v ++ drop (length ys) zs) (h ∙ e) ∙ append_assoc xs rest (drop (length ys) zs) in
    ap (take (length xs)) all ∙ take-append_seam xs (rest ++ drop (length ys) zs)
