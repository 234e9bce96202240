-- What the blocks of a session made stays what they made, however the history goes on.
use Rattle.std.proofs.Common.{◌≡◌, ℕ, ◌||◌, Bool, true, false, not, cond, List, [], ◌∷◌, ◌++◌, Option, Some, None, refl, sym, ◌∙◌, ap, subst}
use Rattle.std.specs.List.{list_any, take_while}
use Rattle.std.proofs.lemmas.List.Folds.{list_any-append}
use Rattle.std.proofs.lemmas.List.Sums.{take_while-cons}
use Rattle.latch_model.specs.Histories.{Begin, HeldLatch, begin_with, in_front, latches_held}
use Rattle.latch_model.specs.declared.history.Entry.{Entry}
use Rattle.latch_model.specs.declared.history.Entry.TheVariants.{Begun, Ended}
use Rattle.latch_model.specs.declared.latch.Latch.{Latch}
use Rattle.latch_model.proofs.Growing.{in_front-append, begin_with-append}
use Rattle.script.specs.Follows.{AllMadeBy, Block, EndEntry, MadeBy, has_wait, is_called, is_early, is_poison, is_wait, passed_behind, passed_from, passed_in}
use Rattle.script.specs.declared.command.Command.{Command}
use Rattle.replay.specs.Blocks.{with_more}
use Rattle.replay.specs.Sessions.{EachBegun}

pub each_begun-grown : (h more es : List Entry) → EachBegun h es → EachBegun (h ++ more) es
each_begun-grown h more [] each = tt
each_begun-grown h more (Begun id lane who mode request ∷ es) each =
    ((each.0.0, begin_with-append h more id each.0.0 each.0.1), each_begun-grown h more es each.1)
each_begun-grown h more (Ended id who grant cause fault ∷ es) each = each_begun-grown h more es each

pub each_begun-more : (h es fs : List Entry) → EachBegun h es → EachBegun h fs → EachBegun h (es ++ fs)
each_begun-more h [] fs each rest = rest
each_begun-more h (Begun id lane who mode request ∷ es) fs each rest = (each.0, each_begun-more h es fs each.1 rest)
each_begun-more h (Ended id who grant cause fault ∷ es) fs each rest = each_begun-more h es fs each rest

-- what the checks of a block passed, in a longer history
pub passed-grown : (h more : List Entry) (k : ℕ) (b : Begin) → begin_with h k ≡ Some b → (d : Block) → passed_in (h ++ more) k d ≡ passed_in h k d
passed-grown h more k b begun d =
    ap (λ (earlier : List Entry). passed_from d.latches (latches_held earlier) None d.more) (in_front-append h more k b begun)

-- what blocks made, in a longer history
pub made_grown : (h more : List Entry) (bs : List Block) (es : List Entry) → EachBegun h es → AllMadeBy (passed_in h) bs es
    → AllMadeBy (passed_in (h ++ more)) bs es
made_grown h more [] [] each made = tt
made_grown h more (d ∷ ds) (Begun id lane who mode request ∷ Ended k session grant cause fault ∷ es) each made = (
  subst
      (λ (passed : Option (List Latch)). MadeBy d passed (record { id = id; lane = lane; who = who; mode = mode; request = request })
      (record { id = k; grant = grant; cause = cause; fault = fault }))
      (sym (passed-grown h more id each.0.0 each.0.1 d)) made.0,
  made_grown h more ds es each.1 made.1,
)
made_grown h more [] (e ∷ es) each made = absurd made
made_grown h more (d ∷ ds) [] each made = absurd made
made_grown h more (d ∷ ds) (Begun id lane who mode request ∷ []) each made = absurd made
made_grown h more (d ∷ ds) (Begun id lane who mode request ∷ Begun i l w m r ∷ es) each made = absurd made
made_grown h more (d ∷ ds) (Ended id who grant cause fault ∷ es) each made = absurd made

-- a begin and its end behind what the blocks in front made
pub made_more : (passed : ℕ → Block → Option (List Latch)) (bs : List Block) (es : List Entry) (d : Block) (b : Begin) (e : EndEntry) (who : ℕ) →
    AllMadeBy passed bs es → MadeBy d (passed b.id d) b e →
    AllMadeBy passed (bs ++ d ∷ []) (es ++ Begun b.id b.lane b.who b.mode b.request ∷ Ended e.id who e.grant e.cause e.fault ∷ [])
made_more passed [] [] d b e who made last = (last, tt)
made_more passed (c ∷ cs) (Begun id lane w mode request ∷ Ended k session grant cause fault ∷ es) d b e who made last =
    (made.0, made_more passed cs es d b e who made.1 last)
made_more passed [] (x ∷ es) d b e who made last = absurd made
made_more passed (c ∷ cs) [] d b e who made last = absurd made
made_more passed (c ∷ cs) (Begun id lane w mode request ∷ []) d b e who made last = absurd made
made_more passed (c ∷ cs) (Begun id lane w mode request ∷ Begun i l u m r ∷ es) d b e who made last = absurd made
made_more passed (c ∷ cs) (Ended id w grant cause fault ∷ es) d b e who made last = absurd made

-- ---- what a block with one more command passed, has and is

passed_from-more : (declared : List Latch) (held : List HeldLatch) (before : Option (List Latch)) (cs : List Command) (c : Command) →
    passed_from declared held before (cs ++ c ∷ []) ≡ passed_behind declared held c (passed_from declared held before cs)
passed_from-more declared held before [] c = refl
passed_from-more declared held before (d ∷ ds) c = passed_from-more declared held (passed_behind declared held d before) ds c

pub passed-more : (h : List Entry) (k : ℕ) (b : Block) (c : Command) →
    passed_in h k (with_more b c) ≡ passed_behind b.latches (latches_held (in_front h k)) c (passed_in h k b)
passed-more h k b c = passed_from-more b.latches (latches_held (in_front h k)) None b.more c

or_false : (x : Bool) → (x || false) ≡ x
or_false true = refl
or_false false = refl

some-more : (p : Command → Bool) (cs : List Command) (c : Command) → list_any p (cs ++ c ∷ []) ≡ (list_any p cs || p c)
some-more p cs c = list_any-append p cs (c ∷ []) ∙ ap (λ (x : Bool). list_any p cs || x) (or_false (p c))

pub called-more : (b : Block) (c : Command) → is_called (with_more b c) ≡ (is_called b || is_poison c)
called-more b c = some-more is_poison b.more c

pub waits-more : (b : Block) (c : Command) → has_wait (with_more b c) ≡ (has_wait b || is_wait c)
waits-more b c = some-more is_wait b.more c

-- ---- whether a block is called early

front_kept : (cs : List Command) (d : Command) → list_any is_wait cs ≡ true →
    take_while (λ x. not (is_wait x)) (cs ++ d ∷ []) ≡ take_while (λ x. not (is_wait x)) cs
front_kept [] d w = cc
front_kept (c ∷ cs) d w =
    take_while-cons (λ x. not (is_wait x)) c (cs ++ d ∷ [])
    ∙ (by (is_wait c) w (front_kept cs d) ∙ sym (take_while-cons (λ x. not (is_wait x)) c cs))
  where
    by : (x : Bool) → (x || list_any is_wait cs) ≡ true
        → (list_any is_wait cs ≡ true → take_while (λ y. not (is_wait y)) (cs ++ d ∷ []) ≡ take_while (λ y. not (is_wait y)) cs)
        → cond (not x) (c ∷ take_while (λ y. not (is_wait y)) (cs ++ d ∷ [])) [] ≡ cond (not x) (c ∷ take_while (λ y. not (is_wait y)) cs) []
    by true u rest = refl
    by false u rest = ap (λ (ys : List Command). c ∷ ys) (rest u)

-- once a block has a `wait`, whether it is called early is settled
pub early-kept : (b : Block) (c : Command) → has_wait b ≡ true → is_early (with_more b c) ≡ is_early b
early-kept b c waits = ap (list_any is_poison) (front_kept b.more c waits)

front_whole : (cs : List Command) (d : Command) → list_any is_wait cs ≡ false → is_wait d ≡ true → take_while (λ x. not (is_wait x)) (cs ++ d ∷ []) ≡ cs
front_whole [] d none w = take_while-cons (λ x. not (is_wait x)) d [] ∙ ap (λ (x : Bool). cond (not x) (d ∷ take_while (λ y. not (is_wait y)) []) []) w
front_whole (c ∷ cs) d none w =
    take_while-cons (λ x. not (is_wait x)) c (cs ++ d ∷ []) ∙ by (is_wait c) none (λ n. front_whole cs d n w)
  where
    by : (x : Bool) → (x || list_any is_wait cs) ≡ false
        → (list_any is_wait cs ≡ false → take_while (λ y. not (is_wait y)) (cs ++ d ∷ []) ≡ cs)
        → cond (not x) (c ∷ take_while (λ y. not (is_wait y)) (cs ++ d ∷ [])) [] ≡ c ∷ cs
    by true u rest = cc
    by false u rest = ap (λ (ys : List Command). c ∷ ys) (rest u)

-- at the first `wait` it is called early exactly where it is called
pub early-first : (b : Block) (c : Command) → has_wait b ≡ false → is_wait c ≡ true → is_early (with_more b c) ≡ is_called b
early-first b c none w = ap (list_any is_poison) (front_whole b.more c none w)
