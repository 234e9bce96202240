-- Latches whose marks have no bit in common are not in conflict.
use Rattle.std.proofs.Common.{◌≡◌, ◌≢◌, ◌==◌, ◌&&◌, ℕ, ◌+◌, ◌*◌, ◌-◌, ◌%◌, ◌^◌, ◌<◌, min, max, Bool, true, false, cond, List, [], ◌∷◌, map}
use Rattle.std.proofs.Common.{Option, Some, None, refl, sym, ◌∙◌, ap, subst, arith}
use Rattle.std.proofs.lemmas.Bool.{cond_both, false_from_ne_true, or_from}
use Rattle.std.proofs.lemmas.Bool.Decides.{nat_tests}
use Rattle.std.proofs.lemmas.List.Elements.{All-head, All-tail}
use Rattle.std.proofs.lemmas.Nat.Bits.{bit_at_and, bit_at_ones, bit_at_or, bit_at-pow_same, bit_at-zero}
use Rattle.std.proofs.lemmas.Slice.Eq.{bytes_eq-Decides}
use Rattle.std.specs.Int.{bit_at}
use Rattle.std.specs.List.{All, cons_option, filter_map, list_any}
use Rattle.std.specs.Prelude.{bit_and, bit_or}
use Rattle.std.specs.Str.{bytes_eq}
use Rattle.span_key.specs.Spans.{Pair, overlap}
use Rattle.latch_model.specs.Carrying.{number_against, numbers_against}
use Rattle.latch_model.specs.Histories.{begins, holds_latches}
use Rattle.latch_model.specs.Latches.{conflict, interfere, local, normal, same, some_conflict}
use Rattle.latch_model.specs.Marks.{IsMarked, entry_mark, latches_mark, number_by, place_from, seen, span_mark}
use Rattle.latch_model.specs.declared.history.Entry.{Entry}
use Rattle.latch_model.specs.declared.history.Entry.TheVariants.{Begun, Ended}
use Rattle.latch_model.specs.declared.latch.Latch.{Latch}
use Rattle.latch_model.specs.declared.marks.Marked.{Marked}
use Rattle.latch_model.proofs.Carrying.{filter_map-seen, numbers_of_entries}
use Rattle.latch_model.proofs.LatchLaws.{single-keys}

-- two marks without a common bit
abbrev Apart : ℕ → ℕ → Type 0
Apart a b = (i : ℕ) → min (bit_at a i) (bit_at b i) ≡ 0

apart_is : (a b : ℕ) → bit_and a b ≡ 0 → Apart a b
apart_is a b none i = sym (bit_at_and a b i) ∙ (ap (λ n. bit_at n i) none ∙ bit_at-zero i)

apart_left : (a b c : ℕ) → Apart (bit_or a b) c → Apart a c × Apart b c
apart_left a b c apart = (λ i. omega (arith, apart i, bit_at_or a b i), λ i. omega (arith, apart i, bit_at_or a b i))

apart_right : (a b c : ℕ) → Apart a (bit_or b c) → Apart a b × Apart a c
apart_right a b c apart = (λ i. omega (arith, apart i, bit_at_or b c i), λ i. omega (arith, apart i, bit_at_or b c i))

-- a common bit
meets : (a b i : ℕ) → bit_at a i ≡ 1 → bit_at b i ≡ 1 → Apart a b → ⊥
meets a b i x y apart = omega (arith, apart i, x, y)

place_lt : (place : ℕ) (bs : List ℕ) → place < 64 → place_from place bs < 64
unfolding place_from
place_lt place [] lt = lt
place_lt place (b ∷ bs) lt = place_lt ((place * 5 + b) % 64) bs (omega arith)

-- spans without a common bit share no key
spans_apart : (s t : Pair) → Apart (span_mark s) (span_mark t) → overlap s t ≡ false
spans_apart (a, []) (b, []) apart =
    sym (single-keys (a, []) (b, []) refl refl)
    ∙ false_from_ne_true (bytes_eq a b) (λ e. meets (2 ^ place_from 0 a) (2 ^ place_from 0 b) (place_from 0 a) (bit_at-pow_same (place_from 0 a))
    (subst (λ k. bit_at (2 ^ place_from 0 k) (place_from 0 a) ≡ 1) ((bytes_eq-Decides a b).0 e) (bit_at-pow_same (place_from 0 a))) apart)
spans_apart (a, []) (b, y ∷ ys) apart = absurd (meets (2 ^ place_from 0 a) (2 ^ 64 - 1) (place_from 0 a) (bit_at-pow_same (place_from 0 a))
    (bit_at_ones 64 (place_from 0 a) (place_lt 0 a (omega arith))) apart)
spans_apart (a, x ∷ xs) (b, []) apart = absurd (meets (2 ^ 64 - 1) (2 ^ place_from 0 b) (place_from 0 b)
    (bit_at_ones 64 (place_from 0 b) (place_lt 0 b (omega arith))) (bit_at-pow_same (place_from 0 b)) apart)
spans_apart (a, x ∷ xs) (b, y ∷ ys) apart = absurd (meets (2 ^ 64 - 1) (2 ^ 64 - 1) 0 (bit_at_ones 64 0 (omega arith)) (bit_at_ones 64 0 (omega arith)) apart)

-- then nothing is left of a conflict
no_conflict : (s t o : Bool) → o ≡ false → (s && (t && o)) ≡ false
no_conflict true true o e = e
no_conflict true false o e = refl
no_conflict false t o e = refl

latch_apart : (l : Latch) (ms : List Latch) → Apart (span_mark l.span) (latches_mark ms) → list_any (conflict l) ms ≡ false
latch_apart l [] apart = refl
latch_apart l (m ∷ ms) apart =
    let parts = apart_right (span_mark l.span) (latches_mark ms) (span_mark m.span) apart in
    or_from (conflict l m) (list_any (conflict l) ms)
    (no_conflict (same (local l) (local m)) (interfere l.access (normal l) m.access (normal m)) (overlap l.span m.span) (spans_apart l.span m.span parts.1))
    (latch_apart l ms parts.0)

lists_apart : (ls ms : List Latch) → Apart (latches_mark ls) (latches_mark ms) → some_conflict ls ms ≡ false
lists_apart [] ms apart = refl
lists_apart (l ∷ ls) ms apart =
    let parts = apart_left (latches_mark ls) (span_mark l.span) (latches_mark ms) apart in
    or_from (list_any (conflict l) ms) (some_conflict ls ms) (latch_apart l ms parts.1) (lists_apart ls ms parts.0)

-- so an entry that is passed by has no number against the latches of the other mark
passed_by : (ls : List Latch) (e : Entry) → bit_and (entry_mark e) (latches_mark ls) ≡ 0 → number_against ls e ≡ None
passed_by ls (Ended id who grant poison fault) none = refl
passed_by ls (Begun id lane who mode request) none = by (holds_latches mode) (some_conflict ls request.latches)
    (lists_apart ls request.latches (λ i. omega (arith, apart_is (latches_mark request.latches) (latches_mark ls) none i)))
  where
    by : (t u : Bool) → u ≡ false → cond (t && u) (Some id) None ≡ None
    by true true f = cc
    by true false f = refl
    by false u f = refl

number_by_is : (ls : List Latch) (m : Marked) → IsMarked m → number_by ls (latches_mark ls) m ≡ number_against ls m.entry.now
number_by_is ls m own = cond_both (bit_and m.mark (latches_mark ls) == 0) None (number_against ls m.entry.now) (λ v. v ≡ number_against ls m.entry.now)
    (λ none. sym (passed_by ls m.entry.now (subst (λ x. bit_and x (latches_mark ls) ≡ 0) own (zero_from none)))) (λ some. refl)
  where
    zero_from : (bit_and m.mark (latches_mark ls) == 0) ≡ true → bit_and m.mark (latches_mark ls) ≡ 0
    zero_from h = grind (arith, nat_tests)

numbers_by : (ls : List Latch) (ms : List Marked) → All IsMarked ms →
    filter_map (number_by ls (latches_mark ls)) ms ≡ filter_map (λ m. number_against ls m.entry.now) ms
numbers_by ls [] own = refl
numbers_by ls (m ∷ ms) own =
    ap (λ o. cons_option o (filter_map (number_by ls (latches_mark ls)) ms)) (number_by_is ls m (All-head IsMarked m ms own))
    ∙ ap (cons_option (number_against ls m.entry.now)) (numbers_by ls ms (All-tail IsMarked m ms own))

-- The numbers by the marks are those of the requests.
pub numbers_by_marks : (ls : List Latch) (mark : ℕ) → mark ≡ latches_mark ls → (ms : List Marked) → All IsMarked ms →
    filter_map (number_by ls mark) ms ≡ numbers_against ls (begins (seen ms))
numbers_by_marks ls mark is ms own =
    ap (λ n. filter_map (number_by ls n) ms) is
    ∙ (numbers_by ls ms own
    ∙ (filter_map-seen (λ (m : Marked). m.entry.now) (number_against ls) ms ∙ numbers_of_entries ls (seen ms)))
