-- The fields of a command hold no space and no line feed.
use Rattle.std.proofs.Common.{◌≡◌, ℕ, ◌^◌, ◌<◌, ◌≤◌, Bool, true, false, ◌&&◌, leb, ltb, List, [], ◌∷◌, ◌++◌, length, map, Option, Some, None, decimal}
use Rattle.std.proofs.Common.{codes, refl, IsTrue, arith}
use Rattle.std.specs.Prelude.{IfSome}
use Rattle.std.specs.Char.{is_ascii_digit}
use Rattle.std.specs.List.{AllByRecursion, list_all, join_with_byte}
use Rattle.std.proofs.lemmas.Bool.{and_parts}
use Rattle.std.proofs.lemmas.List.Elements.{recursion_from_All}
use Rattle.latch_model.specs.declared.latch.Access.{Access}
use Rattle.latch_model.specs.declared.latch.Access.TheVariants.{Read, Write}
use Rattle.latch_model.specs.declared.latch.Latch.{Latch}
use Rattle.latch_model.specs.declared.latch.Mode.{Mode}
use Rattle.latch_model.specs.declared.latch.Mode.TheVariants.{Acquire, Optimistic, Look}
use Rattle.latch_model.specs.declared.latch.Policy.{Policy}
use Rattle.latch_model.specs.declared.latch.Policy.TheVariants.{Wait as policy_wait, Error}
use Rattle.script.specs.declared.command.Command.{Command}
use Rattle.script.specs.declared.command.Command.TheVariants.{Begin, Wait, Check, Poison, Release, Metrics}
use Rattle.script.specs.Fields.{has_byte}
use Rattle.script.specs.Commands.{mode_text, policy_text, turns_fields, fields_of}
use Rattle.script.specs.Scripts.{is_letter, is_name_byte, is_name, IsScriptLatch, AreScriptLatches, IsCommand}
use Rattle.script.specs.Texts.{access_text, span_text, stamp_text, latch_text}
use Rattle.script.specs.declared.limits.TheConstants.{TURN_LIMIT}
use Rattle.script.proofs.Laws.Bytes.{Each, Each-cons, Each-append, Each-weaker, lacks}
use Rattle.script.proofs.Laws.Numbers.{Each-decimal}
use Rattle.script.proofs.Laws.Spans.{is_span_byte, Each-span_text}
use Rattle.script.proofs.Laws.Stamps.{is_stamp_byte, Each-stamp_text}

abbrev pub is_dark : ℕ → Bool
is_dark c = ltb 32 c

abbrev pub AreDark : List (List ℕ) → Type 0
AreDark fs = AllByRecursion (Each is_dark) fs

dark_digit : (c : ℕ) → is_ascii_digit c ≡ true → is_dark c ≡ true
dark_digit c h = grind arith

dark_span : (c : ℕ) → is_span_byte c ≡ true → is_dark c ≡ true
dark_span c h = grind arith

dark_stamp : (c : ℕ) → is_stamp_byte c ≡ true → is_dark c ≡ true
dark_stamp c h = grind arith

dark_letter : (c : ℕ) → is_letter c ≡ true → is_dark c ≡ true
dark_letter c h = grind arith

dark_name : (c : ℕ) → is_name_byte c ≡ true → is_dark c ≡ true
dark_name c h = grind arith

-- ---- each field

decimal_dark : (n : ℕ) → n < 2 ^ 64 → Each is_dark (decimal n)
decimal_dark n lt = Each-weaker is_ascii_digit is_dark dark_digit (decimal n) (Each-decimal n lt)

access_dark : (a : Access) → Each is_dark (access_text a)
access_dark Read = refl
access_dark Write = refl

latch_dark : (l : Latch) → IsScriptLatch l → Each is_dark (latch_text l)
latch_dark l ok =
    let span = Each-weaker is_span_byte is_dark dark_span (span_text l.span)
    (Each-span_text l.span (record { some = ok.key; key = ok.span.key.bytes; end = ok.span.end.bytes })) in
    let stamp = Each-weaker is_stamp_byte is_dark dark_stamp (stamp_text l.stamp)
    (Each-stamp_text l.stamp (record { wall = ok.wall; logical = ok.logical })) in
    Each-append is_dark (access_text l.access ++ span_text l.span) (stamp_text l.stamp)
    (Each-append is_dark (access_text l.access) (span_text l.span) (access_dark l.access) span) stamp

-- each byte of a name passes a test that letters and digits pass
pub name_each : (p : ℕ → Bool) → ((c : ℕ) → is_letter c ≡ true → p c ≡ true) → ((c : ℕ) → is_name_byte c ≡ true → p c ≡ true)
    → (n : List ℕ) → IsTrue (is_name n) → Each p n
name_each p first other [] ok = refl
name_each p first other (c ∷ cs) ok =
    let w = and_parts (is_letter c) (list_all is_name_byte cs && leb (length cs) 15) ok in
    let q = and_parts (list_all is_name_byte cs) (leb (length cs) 15) w.1 in
    Each-cons p c cs (first c w.0) (Each-weaker is_name_byte p other cs q.0)

name_dark : (n : List ℕ) → IsTrue (is_name n) → Each is_dark n
name_dark n ok = name_each is_dark dark_letter dark_name n ok

mode_dark : (m : Mode) → Each is_dark (mode_text m)
mode_dark Acquire = refl
mode_dark Optimistic = refl
mode_dark Look = refl

policy_dark : (p : Policy) → Each is_dark (policy_text p)
policy_dark policy_wait = refl
policy_dark Error = refl

-- ---- the fields of a command

latches_dark : (ls : List Latch) → AllByRecursion IsScriptLatch ls → AreDark (map latch_text ls)
latches_dark [] ok = tt
latches_dark (l ∷ ls) ok = (latch_dark l ok.0, latches_dark ls ok.1)

are_dark : (ls : List Latch) → AreScriptLatches ls → AreDark (map latch_text ls)
are_dark ls ok = latches_dark ls (recursion_from_All IsScriptLatch ls ok.each)

rest_dark : (turns : Option ℕ) (ls : List Latch) → IfSome turns (λ n. (1 ≤ n) × (n ≤ TURN_LIMIT)) → AreScriptLatches ls
    → AreDark (turns_fields turns ++ map latch_text ls)
rest_dark None ls t ok = are_dark ls ok
rest_dark (Some n) ls t ok =
    let lt : n < 2 ^ 64 = let h = t.1 in omega arith in
    (Each-append is_dark (codes "turns=") (decimal n) refl (decimal_dark n lt), are_dark ls ok)

pub fields_dark : (c : Command) → IsCommand c → AreDark (fields_of c)
fields_dark (Begin session name mode policy turns latches) ok =
    let lt : session < 2 ^ 64 = let h = ok.session_high in omega arith in
    (mode_dark mode, (decimal_dark session lt, (name_dark name ok.name_spelled, (policy_dark policy, rest_dark turns latches ok.turns_range ok.latches_fit))))
fields_dark (Wait name) ok = (refl, (name_dark name ok, tt))
fields_dark (Check name latches) ok = (refl, (name_dark name ok.0, are_dark latches ok.1))
fields_dark (Poison name) ok = (refl, (name_dark name ok, tt))
fields_dark (Release name) ok = (refl, (name_dark name ok, tt))
fields_dark Metrics ok = (refl, tt)

-- ---- no space in a field, and no line feed in a line

pub no_spaces : (fs : List (List ℕ)) → AreDark fs → AllByRecursion (λ f. has_byte 32 f ≡ false) fs
no_spaces [] h = tt
no_spaces (f ∷ fs) h = (lacks is_dark 32 f refl h.0, no_spaces fs h.1)

abbrev is_line_byte : ℕ → Bool
is_line_byte c = ltb 31 c

line_weaker : (c : ℕ) → is_dark c ≡ true → is_line_byte c ≡ true
line_weaker c h = grind arith

joined_each : (fs : List (List ℕ)) → AreDark fs → Each is_line_byte (join_with_byte 32 fs)
joined_each [] h = refl
joined_each (f ∷ []) h = Each-weaker is_dark is_line_byte line_weaker f h.0
joined_each (f ∷ g ∷ fs) h =
    Each-append is_line_byte f (32 ∷ join_with_byte 32 (g ∷ fs)) (Each-weaker is_dark is_line_byte line_weaker f h.0)
    (Each-cons is_line_byte 32 (join_with_byte 32 (g ∷ fs)) refl (joined_each (g ∷ fs) h.1))

pub no_line_feed : (fs : List (List ℕ)) → AreDark fs → has_byte 10 (join_with_byte 32 fs) ≡ false
no_line_feed fs h = lacks is_line_byte 10 (join_with_byte 32 fs) refl (joined_each fs h)
