use Rattle.std.proofs.Common.{◌≡◌, ℕ, zero, suc, ◌+◌, ◌<◌, Some, None, sym, ap, ◌∙◌, arith}
use Rattle.row_pool.specs.Trees.{tree_word}
use Rattle.row_pool.specs.SeatState.{row_of}
use Rattle.overlap_iter.proofs.cursor.follow.Goals as goal

nowhere : (n : ℕ) → 0 < n → row_of n ≡ None → ⊥
nowhere zero some none = omega arith
nowhere (suc r) some none = cc

pub unreachable-requires : goal.unreachable-requires
unreachable-requires c =
    let (t, u, k, up, here, kind, word, low, at, some) = c.requires.link in
    nowhere (tree_word u) some (sym (c.follow.ensures.tree t u k up here (word ∙ ap (λ b. b + k) (sym kind.0)) at) ∙ c.in_default.is)

there : (n r : ℕ) → Some r ≡ row_of n → n ≡ suc r
there zero r e = cc
there (suc q) r e = cc

pub returns-clause-link : goal.returns-clause-link
returns-clause-link c = λ t u k up here kind word at.
    there (tree_word u) c.in-Some.next (sym c.in-Some.is ∙ c.follow.ensures.tree t u k up here (word ∙ ap (λ b. b + k) (sym kind.0)) at)
