-- A session goes on standing as the history grows, and stands anew after what a call of the manager added.
use Rattle.std.proofs.Common.{◌≡◌, ℕ, List, [], ◌∷◌, ◌++◌, subst}
use Rattle.std.proofs.lemmas.List.{map-append}
use Rattle.latch_model.specs.declared.history.Entry.{Entry}
use Rattle.latch_model.specs.declared.history.Entry.TheVariants.{Begun, Ended}
use Rattle.script.specs.Follows.{AllMadeBy, Block, passed_in}
use Rattle.signal_board.specs.Rule.{IsPrefix, entries}
use Rattle.signal_board.specs.Steps.{wrote}
use Rattle.signal_board.specs.Views.{PassView}
use Rattle.signal_board.proofs.Lists.{prefix_more}
use Rattle.replay.specs.Sessions.{Checking, EachBegun, Hand, Holding, Idle, IsChecking, IsHolding, IsOver, Over, Unreleased}
use Rattle.replay.proofs.Hands.{checking-grown, holding-grown, over-grown}
use Rattle.replay.proofs.Made.{each_begun-grown, made_grown}

pub each_begun-to : (h k es : List Entry) → IsPrefix h k → EachBegun h es → EachBegun k es
each_begun-to h k es p each = subst (λ (x : List Entry). EachBegun x es) p.1 (each_begun-grown h p.0 es each)

pub made-to : (h k : List Entry) (bs : List Block) (es : List Entry) → IsPrefix h k → EachBegun h es → AllMadeBy (passed_in h) bs es
    → AllMadeBy (passed_in k) bs es
made-to h k bs es p each made = subst (λ (x : List Entry). AllMadeBy (passed_in x) bs es) p.1 (made_grown h p.0 bs es each made)

-- the entries in front of some were begun, too
pub each_begun-front : (h xs ys : List Entry) → EachBegun h (xs ++ ys) → EachBegun h xs
each_begun-front h [] ys each = tt
each_begun-front h (Begun id lane who mode request ∷ xs) ys each = (each.0, each_begun-front h xs ys each.1)
each_begun-front h (Ended id who grant cause fault ∷ xs) ys each = each_begun-front h xs ys each

pub unreleased-to : (h k : List Entry) (who : ℕ) (b : Block) (own : List Entry) (hand : Hand) → IsPrefix h k → Unreleased h who b own hand
    → Unreleased k who b own hand
unreleased-to h k who b own Idle p u = absurd u
unreleased-to h k who b own (Checking o) p u = (subst (λ (x : List Entry). IsChecking x b o) p.1 (checking-grown h p.0 b o u.0), u.1)
unreleased-to h k who b own (Holding g) p u = (subst (λ (x : List Entry). IsHolding x b g) p.1 (holding-grown h p.0 b g u.0), u.1)
unreleased-to h k who b own Over p u =
    (u.0, u.1, subst (λ (x : List Entry). IsOver x b u.0 u.1) p.1 (over-grown h p.0 b u.0 u.1 u.2), u.3)

-- ---- after a call

-- the entries of a pass with one more
pub entries-wrote : (p : PassView) (n : ℕ) (e : Entry) → entries (wrote p n e).mine ≡ entries p.mine ++ e ∷ []
entries-wrote p n e = map-append (λ (x : ℕ × Entry). x.1) p.mine ((n, e) ∷ [])

pub goes_on-with : (shown log : List Entry) (e : Entry) → IsPrefix shown log → IsPrefix shown (log ++ e ∷ [])
goes_on-with shown log e p = prefix_more shown log (e ∷ []) p
