-- The last writer of a scope, from one entry to the next.
use Rattle.std.proofs.Common.{◌≡◌, ℕ, ◌≤◌, Bool, true, false, cond, ◌||◌, List, [], ◌∷◌, ◌++◌, refl, ap, ◌∙◌, inl, inr, arith}
use Rattle.std.proofs.Math.Bool.{or-false}
use Rattle.std.proofs.lemmas.List.Folds.{list_any-append}
use Rattle.std.specs.List.{list_any}
use Rattle.span_key.specs.declared.scopes.Scope.{Scope}
use Rattle.span_key.specs.declared.scopes.Scope.TheVariants.{Global, Local}
use Rattle.latch_model.specs.Histories.{Begin, begins, entry_of}
use Rattle.latch_model.specs.Metrics.{writes_in}
use Rattle.latch_model.specs.declared.history.Entry.{Entry}
use Rattle.latch_model.proofs.Growing.{begins-append}
use Rattle.latch_model.proofs.Lists.{In}
use Rattle.history_latches.specs.Writers.{last_writer}

-- the last writer of some begins and one more
writer_last : (scope : Scope) (bs : List Begin) (b : Begin) →
    last_writer scope (bs ++ b ∷ []) ≡ cond (writes_in scope b) b.id (last_writer scope bs)
writer_last scope [] b = refl
writer_last scope (x ∷ xs) b =
    ap (λ n. cond (list_any (writes_in scope) (xs ++ b ∷ [])) n (cond (writes_in scope x) x.id 0)) (writer_last scope xs b)
    ∙ (ap (λ t. cond t (cond (writes_in scope b) b.id (last_writer scope xs)) (cond (writes_in scope x) x.id 0))
    (list_any-append (writes_in scope) xs (b ∷ []) ∙ ap (λ t. list_any (writes_in scope) xs || t) (or-false (writes_in scope b)))
    ∙ pick (list_any (writes_in scope) xs) (writes_in scope b) (last_writer scope xs) b.id (cond (writes_in scope x) x.id 0))
  where
    pick : (early now : Bool) (before id first : ℕ) → cond (early || now) (cond now id before) first ≡ cond now id (cond early before first)
    pick true true before id first = refl
    pick true false before id first = refl
    pick false true before id first = refl
    pick false false before id first = refl

pub writer_begun : (scope : Scope) (h : List Entry) (b : Begin) →
    last_writer scope (begins (h ++ entry_of b ∷ [])) ≡ cond (writes_in scope b) b.id (last_writer scope (begins h))
writer_begun scope h b = ap (last_writer scope) (begins-append h (entry_of b ∷ [])) ∙ writer_last scope (begins h) b

-- it is no greater than each begin's number
pub writer_upto : (scope : Scope) (bs : List Begin) (n : ℕ) → ((b : Begin) → In b bs → b.id ≤ n) → last_writer scope bs ≤ n
writer_upto scope [] n upto = omega arith
writer_upto scope (x ∷ xs) n upto = by (list_any (writes_in scope) xs) (writes_in scope x) (writer_upto scope xs n (λ b there. upto b (inr there)))
  where
    by : (later now : Bool) → last_writer scope xs ≤ n → cond later (last_writer scope xs) (cond now x.id 0) ≤ n
    by true now rest = rest
    by false true rest = upto x (inl refl)
    by false false rest = omega arith

-- what holds in both scopes holds in each
pub both_scopes : (P : Scope → Type 0) → P Global → P Local → (scope : Scope) → P scope
both_scopes P g l Global = g
both_scopes P g l Local = l
