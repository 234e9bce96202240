-- The commands of a generated script: each by itself is one of scripts, and the lines are short enough for the limit of scripts.
use Rattle.std.proofs.Common.{◌≡◌, ℕ, zero, suc, ◌+◌, ◌-◌, ◌*◌, ◌%◌, ◌<◌, ◌≤◌, ◌&&◌, Bool, true, false, cond, leb, eqb, List, [], ◌∷◌, ◌++◌, length, map, take}
use Rattle.std.proofs.Common.{None, codes, decimal, refl, ap, arith, length-append, IsTrue}
use Rattle.std.specs.Char.{is_ascii_digit}
use Rattle.std.specs.List.{AllByRecursion, list_all}
use Rattle.std.proofs.lemmas.Bool.{le-leb, leb-true, leb-false}
use Rattle.std.proofs.lemmas.Fmt.{length-decimal-le}
use Rattle.std.proofs.lemmas.List.Concat.{flat_map-append}
use Rattle.std.proofs.lemmas.List.Elements.{All-from_recursion}
use Rattle.latch_model.specs.declared.latch.Latch.{Latch}
use Rattle.latch_model.specs.declared.latch.Mode.{Mode}
use Rattle.latch_model.specs.declared.latch.Mode.TheVariants.{Acquire, Optimistic, Look}
use Rattle.latch_model.specs.declared.latch.Policy.{Policy}
use Rattle.latch_model.specs.declared.latch.Policy.TheVariants.{Wait as policy_wait, Error}
use Rattle.script.specs.declared.command.Command.{Command}
use Rattle.script.specs.declared.command.Command.TheVariants.{Begin, Wait, Check, Poison, Release}
use Rattle.script.specs.Commands.{fields_of, line_of, mode_text, policy_text}
use Rattle.script.specs.Generated.{begin_command, closed_before, closing, closings_from, draw, drawn_latches, first_check, generated, last_closings}
use Rattle.script.specs.Generated.{mode_of, name_of, opening_of, openings_from, poisoning, policy_of, skips_wait}
use Rattle.script.specs.Scripts.{AreScriptLatches, FitsLimit, IsCommand, IsScriptLatch, is_letter, is_name, is_name_byte}
use Rattle.script.specs.Spaced.{spaced}
use Rattle.script.specs.Texts.{latch_text}
use Rattle.script.proofs.Choices.{and_both}
use Rattle.script.proofs.Drawn.{IsDrawn, drawn_are}
use Rattle.script.proofs.Laws.Bytes.{Each, Each-weaker}
use Rattle.script.proofs.Laws.Numbers.{Each-decimal}
use Rattle.script.proofs.Laws.Sizes.{lines_text}
use Rattle.script.proofs.Numbered.{each_of_both}
use Rattle.script.proofs.Spelled.{line_is, spaced-cons}

-- ---- names and numbers

digit_in_name : (c : ℕ) → is_ascii_digit c ≡ true → is_name_byte c ≡ true
digit_in_name c h = grind arith

number_short : (i : ℕ) → i < 20000 → length (decimal i) ≤ 5
number_short i low = length-decimal-le 5 i (omega arith) (omega arith) (omega arith)

pub name_is : (i : ℕ) → i < 20000 → IsTrue (is_name (name_of i))
name_is i low =
    let digits : Each is_name_byte (decimal i) = Each-weaker is_ascii_digit is_name_byte digit_in_name (decimal i) (Each-decimal i (omega arith)) in
    let few : leb (length (decimal i)) 15 ≡ true = let n = number_short i low in le-leb (length (decimal i)) 15 (omega arith) in
    and_both (is_letter 113) (list_all is_name_byte (decimal i) && leb (length (decimal i)) 15) refl
    (and_both (list_all is_name_byte (decimal i)) (leb (length (decimal i)) 15) digits few)

session_short : (i : ℕ) → length (decimal (i % 64 + 1)) ≤ 2
session_short i = length-decimal-le 2 (i % 64 + 1) (omega arith) (omega arith) (omega arith)

-- ---- commands with their lines

-- each of these commands is one of scripts, and their lines have at most n bytes
record Fit (cs : List Command) (n : ℕ) : Type 0 where
  each : AllByRecursion IsCommand cs
  short : length (lines_text cs) ≤ n

fit_both : (xs ys : List Command) (m n k : ℕ) → Fit xs m → Fit ys n → m + n ≤ k → Fit (xs ++ ys) k
fit_both xs ys m n k a b within = record {
  each = each_of_both IsCommand xs ys a.each b.each;
  short =
      let e : lines_text (xs ++ ys) ≡ lines_text xs ++ lines_text ys = flat_map-append (λ c. line_of (fields_of c)) xs ys in
      let f = length-append (lines_text xs) (lines_text ys) in
      let g = ap length e in
      let p = a.short in
      let q = b.short in
      omega arith;
}

fit_none : (n : ℕ) → Fit [] n
fit_none n = record { each = tt; short = omega arith }

fit_one : (c : Command) (n : ℕ) → IsCommand c → length (line_of (fields_of c)) ≤ n → Fit (c ∷ []) n
fit_one c n is short = record {
  each = (is, tt);
  short = let e = length-append (line_of (fields_of c)) [] in omega arith;
}

-- ---- lines

-- a line of a word and further fields
line_size : (word : List ℕ) (fs : List (List ℕ)) → length (line_of (word ∷ fs)) ≡ length word + length (spaced fs) + 1
line_size word fs =
    let e = ap length (line_is word fs) in
    let f = length-append word (spaced fs ++ 10 ∷ []) in
    let g = length-append (spaced fs) (10 ∷ []) in
    omega arith

spaced_size : (f : List ℕ) (fs : List (List ℕ)) → length (spaced (f ∷ fs)) ≡ 1 + length f + length (spaced fs)
spaced_size f fs =
    let e = ap length (spaced-cons f fs) in
    let g = length-append f (spaced fs) in
    omega arith

latches_size : (ls : List Latch) → AllByRecursion IsDrawn ls → length (spaced (map latch_text ls)) ≤ 21 * length ls
latches_size [] each = omega arith
latches_size (l ∷ ls) each =
    let e = spaced_size (latch_text l) (map latch_text ls) in
    let here = each.0.short in
    let more = latches_size ls each.1 in
    omega arith

-- the line of a word and a request's name
named_size : (word : List ℕ) (i : ℕ) → i < 20000 → length (line_of (word ∷ name_of i ∷ [])) ≤ length word + 8
named_size word i low =
    let e = line_size word (name_of i ∷ []) in
    let f = spaced_size (name_of i) [] in
    let n = number_short i low in
    omega arith

mode_short : (m : Mode) → length (mode_text m) ≤ 10
mode_short Acquire = omega arith
mode_short Optimistic = omega arith
mode_short Look = omega arith

policy_short : (p : Policy) → length (policy_text p) ≤ 5
policy_short policy_wait = omega arith
policy_short Error = omega arith

latches_are : (ls : List Latch) → AllByRecursion IsDrawn ls → AllByRecursion IsScriptLatch ls
latches_are [] each = tt
latches_are (l ∷ ls) each = (each.0.latch, latches_are ls each.1)

script_latches : (ls : List Latch) → length ls ≤ 16 → AllByRecursion IsDrawn ls → AreScriptLatches ls
script_latches ls few each = record { few = few; each = All-from_recursion IsScriptLatch ls (latches_are ls each) }

opening_short : (i : ℕ) (mode : Mode) (policy : Policy) (ls : List Latch) → i < 20000 → length ls ≤ 4 → AllByRecursion IsDrawn ls
    → length (line_of (fields_of (Begin (i % 64 + 1) (name_of i) mode policy None ls))) ≤ 111
opening_short i mode policy ls low few each =
    let texts = map latch_text ls in
    let e = line_size (mode_text mode) (decimal (i % 64 + 1) ∷ name_of i ∷ policy_text policy ∷ texts) in
    let f = spaced_size (decimal (i % 64 + 1)) (name_of i ∷ policy_text policy ∷ texts) in
    let g = spaced_size (name_of i) (policy_text policy ∷ texts) in
    let h = spaced_size (policy_text policy) texts in
    let m = mode_short mode in
    let s = session_short i in
    let n = number_short i low in
    let p = policy_short policy in
    let l = latches_size ls each in
    omega arith

fit_opening : (i : ℕ) (mode : Mode) (policy : Policy) (ls : List Latch) → i < 20000 → length ls ≤ 4 → AllByRecursion IsDrawn ls
    → Fit (Begin (i % 64 + 1) (name_of i) mode policy None ls ∷ []) 111
fit_opening i mode policy ls low few each = fit_one (Begin (i % 64 + 1) (name_of i) mode policy None ls) 111 (record {
  session_low = omega arith;
  session_high = omega arith;
  name_spelled = name_is i low;
  turns_range = tt;
  latches_fit = script_latches ls (omega arith) each;
}) (opening_short i mode policy ls low few each)

-- the first of some latches, for a check
one_drawn : (ls : List Latch) → AllByRecursion IsDrawn ls → AllByRecursion IsDrawn (take 1 ls)
one_drawn [] each = tt
one_drawn (l ∷ ls) each = (each.0, tt)

one_at_most : (ls : List Latch) → length (take 1 ls) ≤ 1
one_at_most [] = omega arith
one_at_most (l ∷ ls) = omega arith

fit_check : (mode : Mode) (i : ℕ) (ls : List Latch) → i < 20000 → AllByRecursion IsDrawn ls → Fit (first_check mode i ls) 34
fit_check Acquire i ls low each = fit_none 34
fit_check Look i ls low each = fit_none 34
fit_check Optimistic i ls low each =
    let one = take 1 ls in
    let few = one_at_most ls in
    let drawn = one_drawn ls each in
    let e = line_size (codes "check") (name_of i ∷ map latch_text one) in
    let f = spaced_size (name_of i) (map latch_text one) in
    let n = number_short i low in
    let l = latches_size one drawn in
    fit_one (Check (name_of i) one) 34 (name_is i low, script_latches one (omega arith) drawn) (omega arith)

fit_poison : (b : Bool) (i : ℕ) → i < 20000 → Fit (cond b (Poison (name_of i) ∷ []) []) 14
fit_poison true i low = let n = named_size (codes "poison") i low in fit_one (Poison (name_of i)) 14 (name_is i low) (omega arith)
fit_poison false i low = fit_none 14

fit_release : (i : ℕ) → i < 20000 → Fit (Release (name_of i) ∷ []) 15
fit_release i low = let n = named_size (codes "release") i low in fit_one (Release (name_of i)) 15 (name_is i low) (omega arith)

fit_closing : (b : Bool) (i : ℕ) → i < 20000 → Fit (cond b (Release (name_of i) ∷ []) (Wait (name_of i) ∷ Release (name_of i) ∷ [])) 27
fit_closing true i low = let r = fit_release i low in record { each = r.each; short = let s = r.short in omega arith }
fit_closing false i low =
    let n = named_size (codes "wait") i low in
    fit_both (Wait (name_of i) ∷ []) (Release (name_of i) ∷ []) 12 15 27
    (fit_one (Wait (name_of i)) 12 (name_is i low) (omega arith)) (fit_release i low) (omega arith)

-- ---- all commands

fit_before : (b : Bool) (i : ℕ) → i < 20000 → Fit (cond b (closing (i - 64)) []) 27
fit_before true i low = fit_closing (skips_wait (mode_of (i - 64)) (i - 64)) (i - 64) (omega arith)
fit_before false i low = fit_none 27

fit_request : (i : ℕ) (ls : List Latch) → i < 20000 → length ls ≤ 4 → AllByRecursion IsDrawn ls → Fit (opening_of i ls) 186
fit_request i ls low few each =
    let before = closed_before i in
    let opening = begin_command i ls ∷ [] in
    let checks = first_check (mode_of i) i ls in
    let poisons = poisoning i in
    let a = fit_before (leb 64 i) i low in
    let b = fit_opening i (mode_of i) (policy_of i) ls low few each in
    let c = fit_check (mode_of i) i ls low each in
    let d = fit_poison (eqb (i % 97) 50) i low in
    let ab = fit_both before opening 27 111 138 a b (omega arith) in
    let abc = fit_both (before ++ opening) checks 138 34 172 ab c (omega arith) in
    fit_both ((before ++ opening) ++ checks) poisons 172 14 186 abc d (omega arith)

fit_openings : (n i x : ℕ) → i + n ≤ 20000 → Fit (openings_from n i x) (186 * n)
fit_openings zero i x low = fit_none 0
fit_openings (suc n) i x low =
    let c = draw x in
    let ls = drawn_latches (1 + c % 4) c in
    let drawn = drawn_are (1 + c % 4) c in
    let many = drawn.many in
    fit_both (opening_of i ls.0) (openings_from n (i + 1) ls.1) 186 (186 * n) (186 * suc n)
    (fit_request i ls.0 (omega arith) (omega arith) drawn.each) (fit_openings n (i + 1) ls.1 (omega arith)) (omega arith)

fit_closings : (n i : ℕ) → i + n ≤ 20000 → Fit (closings_from n i) (27 * n)
fit_closings zero i low = fit_none 0
fit_closings (suc n) i low =
    fit_both (closing i) (closings_from n (i + 1)) 27 (27 * n) (27 * suc n) (fit_closing (skips_wait (mode_of i) i) i (omega arith))
    (fit_closings n (i + 1) (omega arith)) (omega arith)

fit_last : (b : Bool) (n : ℕ) → leb n 64 ≡ b → n ≤ 20000 → Fit (cond b (closings_from n 0) (closings_from 64 (n - 64))) 1728
fit_last true n e low =
    let few = leb-true n 64 e in
    let f = fit_closings n 0 (omega arith) in
    let short = f.short in
    record { each = f.each; short = omega arith }
fit_last false n e low =
    let many = leb-false n 64 e in
    fit_closings 64 (n - 64) (omega arith)

fit_all : (n : ℕ) → n ≤ 20000 → Fit (generated n) (186 * n + 1728)
fit_all n low = fit_both (openings_from n 0 n) (last_closings n) (186 * n) 1728 (186 * n + 1728)
    (fit_openings n 0 n (omega arith)) (fit_last (leb n 64) n refl low) (omega arith)

-- ---- the laws

pub generated_commands : (n : ℕ) → n ≤ 20000 → AllByRecursion IsCommand (generated n)
generated_commands n low = (fit_all n low).each

-- A line of a generated script has at most 111 bytes, and a request at most 186, so 20,000 requests stay under the limit.
pub generated_fits : (n : ℕ) → n ≤ 20000 → FitsLimit (generated n)
generated_fits n low =
    let f = (fit_all n low).short in
    let e = length-append (codes "latch script 1\n") (lines_text (generated n) ++ codes "end\n") in
    let g = length-append (lines_text (generated n)) (codes "end\n") in
    record { short = omega arith }
