-- Known bytes that come and go in several calls.
use Rattle.std.proofs.Common.{◌≡◌, ℕ, ◌+◌, List, ◌++◌, Option, take, drop, sym, ap, subst, ◌∙◌}
use Rattle.std.proofs.Math.Seq.{take-add}
use Rattle.std.specs.Io.KnownBytes.{Appends, Consumes}
use Rattle.std.proofs.KnownBytes.{Appends-trans, Consumes-trans}

-- after the first `done` bytes of the piece, n bytes of what stands behind them
pub Appends-more : (a b c : Option (List ℕ)) (piece : List ℕ) (done n : ℕ) → Appends a b (take done piece)
    → Appends b c (take n (drop done piece)) → Appends a c (take (done + n) piece)
Appends-more a b c piece done n first next =
    subst (Appends a c) (sym (take-add done n piece)) (Appends-trans a b c (take done piece) (take n (drop done piece)) first next)

-- after the first `filled` bytes of one list, n bytes behind the same front of another
pub Consumes-more : (a b c : Option (List ℕ)) (old new : List ℕ) (filled n : ℕ) → take filled new ≡ take filled old
    → Consumes a b (take filled old) → Consumes b c (take n (drop filled new)) → Consumes a c (take (filled + n) new)
Consumes-more a b c old new filled n front first next =
    subst (Consumes a c) (ap (λ l. l ++ take n (drop filled new)) (sym front) ∙ sym (take-add filled n new))
    (Consumes-trans a b c (take filled old) (take n (drop filled new)) first next)
