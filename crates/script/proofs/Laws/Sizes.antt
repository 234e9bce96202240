-- How short names, lines and scripts are: a line has at least 7 bytes, so a script has few commands.
use Rattle.std.proofs.Common.{◌≡◌, ℕ, ◌+◌, ◌*◌, ◌≤◌, ◌&&◌, leb, List, [], ◌∷◌, ◌++◌, length, map, IsTrue, codes, decimal, arith}
use Rattle.std.specs.List.{AllByRecursion, join_with_byte, list_all, flat_map}
use Rattle.std.proofs.lemmas.Bool.{and_parts, leb-true}
use Rattle.std.proofs.lemmas.List.{length-append}
use Rattle.std.proofs.lemmas.List.Elements.{recursion_from_All}
use Rattle.latch_model.specs.declared.latch.Mode.{Mode}
use Rattle.latch_model.specs.declared.latch.Mode.TheVariants.{Acquire, Optimistic, Look}
use Rattle.script.specs.Commands.{fields_of, line_of, mode_text, policy_text, turns_fields}
use Rattle.script.specs.Scripts.{is_letter, is_name_byte, is_name, IsCommand, IsScript, FitsLimit}
use Rattle.script.specs.Texts.{latch_text}
use Rattle.script.specs.declared.command.Command.{Command}
use Rattle.script.specs.declared.command.Command.TheVariants.{Begin, Wait, Check, Poison, Release, Metrics}
use Rattle.script.specs.declared.limits.TheConstants.{COMMAND_LIMIT}

pub name_size : (n : List ℕ) → IsTrue (is_name n) → (1 ≤ length n) × (length n ≤ 16)
name_size [] ok = absurd cc
name_size (c ∷ cs) ok =
    let p = and_parts (is_letter c) (list_all is_name_byte cs && leb (length cs) 15) ok in
    let q = and_parts (list_all is_name_byte cs) (leb (length cs) 15) p.1 in
    let h = leb-true (length cs) 15 q.1 in
    (omega arith, omega arith)

-- joined fields are as long as the first two with a byte between, at least
joined_two : (a b : List ℕ) (more : List (List ℕ)) → length a + 1 + length b ≤ length (join_with_byte 32 (a ∷ b ∷ more))
joined_two a b [] = let e = length-append a (32 ∷ b) in omega arith
joined_two a b (c ∷ more) =
    let e = length-append a (32 ∷ join_with_byte 32 (b ∷ c ∷ more)) in
    let f = length-append b (32 ∷ join_with_byte 32 (c ∷ more)) in
    omega arith

-- and three of them likewise
joined_three : (a b c : List ℕ) (more : List (List ℕ)) → length a + 2 + length b + length c ≤ length (join_with_byte 32 (a ∷ b ∷ c ∷ more))
joined_three a b c more =
    let e = length-append a (32 ∷ join_with_byte 32 (b ∷ c ∷ more)) in
    let f = joined_two b c more in
    omega arith

line_length : (fs : List (List ℕ)) → length (line_of fs) ≡ length (join_with_byte 32 fs) + 1
line_length fs = length-append (join_with_byte 32 fs) (10 ∷ [])

mode_length : (m : Mode) → 4 ≤ length (mode_text m)
mode_length Acquire = omega arith
mode_length Optimistic = omega arith
mode_length Look = omega arith

line_size : (c : Command) → IsCommand c → 7 ≤ length (line_of (fields_of c))
line_size (Begin session name mode policy turns latches) ok =
    let more = policy_text policy ∷ (turns_fields turns ++ map latch_text latches) in
    let e = line_length (mode_text mode ∷ decimal session ∷ name ∷ more) in
    let j = joined_three (mode_text mode) (decimal session) name more in
    let m = mode_length mode in
    let n = (name_size name ok.name_spelled).0 in
    omega arith
line_size (Wait name) ok =
    let e = line_length (codes "wait" ∷ name ∷ []) in
    let j = joined_two (codes "wait") name [] in
    let n = (name_size name ok).0 in
    omega arith
line_size (Check name latches) ok =
    let e = line_length (codes "check" ∷ name ∷ map latch_text latches) in
    let j = joined_two (codes "check") name (map latch_text latches) in
    omega arith
line_size (Poison name) ok =
    let e = line_length (codes "poison" ∷ name ∷ []) in
    let j = joined_two (codes "poison") name [] in
    omega arith
line_size (Release name) ok =
    let e = line_length (codes "release" ∷ name ∷ []) in
    let j = joined_two (codes "release") name [] in
    omega arith
line_size Metrics ok = omega arith

-- the lines of commands
abbrev pub lines_text : List Command → List ℕ
lines_text cs = flat_map (λ c. line_of (fields_of c)) cs

lines_size : (cs : List Command) → AllByRecursion IsCommand cs → 7 * length cs ≤ length (lines_text cs)
lines_size [] ok = omega arith
lines_size (c ∷ cs) ok =
    let e = length-append (line_of (fields_of c)) (lines_text cs) in
    let first = line_size c ok.0 in
    let others = lines_size cs ok.1 in
    omega arith

pub few_commands : (cs : List Command) → IsScript cs → FitsLimit cs → length cs ≤ COMMAND_LIMIT
few_commands cs script fits =
    let short = fits.short in
    let e = length-append (codes "latch script 1\n") (lines_text cs ++ codes "end\n") in
    let f = length-append (lines_text cs) (codes "end\n") in
    let each = lines_size cs (recursion_from_All IsCommand cs script.commands) in
    omega arith
