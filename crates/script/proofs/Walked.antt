-- A line is the first of the parts that lines are, and there is always one more part.
use Rattle.std.proofs.Common.{◌≡◌, ℕ, ◌+◌, ◌≤◌, eqb, ltb, Bor, codes, Bool, true, false, cond, List, [], ◌∷◌, ◌++◌, length, Option, Some, None, Result}
use Rattle.std.proofs.Common.{Ok, Err, refl, sym, ap, subst, ◌∙◌}
use Rattle.std.specs.List.{onto_first, before_first, after_first}
use Rattle.std.specs.Option.{MatchOption}
use Rattle.std.specs.Str.{bytes_eq}
use Rattle.script.specs.Commands.{rule_cause}
use Rattle.script.specs.Fields.{◌>>=◌, is_byte, has_byte}
use Rattle.script.specs.Lines.{fields, command_at}
use Rattle.script.specs.Views.{more_at}
use Rattle.script.specs.Reading.{lines, at_line, ok_unless, next_at, end_at, commands_at, all_at, script_at, nothing_more}
use Rattle.script.specs.Outcomes.{FieldFails, ScriptFails, IsAtLine}
use Rattle.script.specs.declared.command.Command.{Command}
use Rattle.script.specs.declared.limits.TheConstants.{TEXT_LIMIT}
use Rattle.script.specs.declared.fault.FieldFault.{FieldFault}
use Rattle.script.specs.declared.fault.FieldFault.TheVariants as faults
use Rattle.script.specs.declared.fault.ReadScript.{ReadScript}
use Rattle.std.proofs.lemmas.Bool.{le-ltb}
use Rattle.script.proofs.Laws.Steps.{ok_is}
use Rattle.script.proofs.Parts.{one_part, first_part}
use Rattle.script.proofs.Choices.{false-true}

first_onto : (x : ℕ) (parts : List (List ℕ)) → (p : List ℕ) × (ps : List (List ℕ)) × (onto_first x parts ≡ p ∷ ps)
first_onto x [] = (x ∷ [], [], refl)
first_onto x (part ∷ parts) = (x ∷ part, parts, refl)

some_part : (b : Bool) (x : ℕ) (parts : List (List ℕ)) → (p : List ℕ) × (ps : List (List ℕ)) × (cond b ([] ∷ parts) (onto_first x parts) ≡ p ∷ ps)
some_part true x parts = ([], parts, refl)
some_part false x parts = first_onto x parts

pub first_line : (bytes : List ℕ) → (p : List ℕ) × (ps : List (List ℕ)) × (lines bytes ≡ p ∷ ps)
first_line [] = ([], [], refl)
first_line (x ∷ xs) = some_part (is_byte 10 x) x (lines xs)

-- ---- the walk

pub line_step : (cs : List Command) (n : ℕ) (line after : List ℕ) → commands_at cs n (line ∷ lines after)
    ≡ cond (bytes_eq line (codes "end")) (end_at cs n (lines after)) (at_line n (next_at cs line) >>= λ c. commands_at (cs ++ c ∷ []) (n + 1) (lines after))
unfolding commands_at
line_step cs n line after = let p = first_line after in rw p.2 refl

pub no_step : (cs : List Command) (n : ℕ) (last : List ℕ) → commands_at cs n (last ∷ []) ≡ Err (n, 1)
unfolding commands_at
no_step cs n last = refl

pub first_step : (line after : List ℕ)
    → all_at (line ∷ lines after) ≡ cond (bytes_eq line (codes "latch script 1")) (commands_at [] 2 (lines after)) (Err (1, 2))
unfolding all_at
first_step line after = let p = first_line after in rw p.2 refl

pub first_none : (last : List ℕ) → all_at (last ∷ []) ≡ Err (1, 1)
unfolding all_at
first_none last = refl

-- one command more, or its cause
pub one_more : (cs : List Command) (o : Option ℕ) (c : Command) → (ok_unless o c >>= λ d. Ok (cs ++ d ∷ [])) ≡ ok_unless o (cs ++ c ∷ [])
one_more cs None c = refl
one_more cs (Some cause) c = refl

-- ---- lines of the bytes

pub cut_lines : (b : List ℕ) (r : Option (Bor (List ℕ) × Bor (List ℕ)))
    → MatchOption r (has_byte 10 b ≡ false) (λ x. (has_byte 10 b ≡ true) × (x.0.now ≡ before_first (is_byte 10) b) × (x.1.now ≡ after_first (is_byte 10) b))
    → MatchOption r (lines b ≡ b ∷ []) (λ x. lines b ≡ x.0.now ∷ lines x.1.now)
cut_lines b None h = one_part (is_byte 10) b h
cut_lines b (Some x) h = first_part (is_byte 10) b h.0 ∙ rw (h.1, h.2) refl

more_parts : (b : Bool) (x : ℕ) (p : List ℕ) (ps : List (List ℕ)) → nothing_more (cond b ([] ∷ p ∷ ps) (onto_first x (p ∷ ps))) ≡ false
more_parts true x p ps = refl
more_parts false x p ps = refl

-- where bytes are left, more than one empty part is left
pub more_left : (b : List ℕ) → eqb (length b) 0 ≡ false → nothing_more (lines b) ≡ false
more_left [] h = absurd (false-true (sym h))
more_left (x ∷ xs) h =
    let p = first_line xs in
    ap (λ (parts : List (List ℕ)). nothing_more (cond (is_byte 10 x) ([] ∷ parts) (onto_first x parts))) p.2 ∙ more_parts (is_byte 10 x) x p.0 p.1

-- ---- one line more

pub next_fails : (e : FieldFault) (cs : List Command) (line : List ℕ) → FieldFails e (command_at (fields line)) → FieldFails e (more_at cs line)
unfolding next_at
next_fails faults.Memory cs line h = tt
next_fails (faults.Bad cause) cs line h = rw h refl

pub more_is : (cs : List Command) (line : List ℕ) (c : Command) → command_at (fields line) ≡ Ok c
    → more_at cs line ≡ ok_unless (rule_cause cs c) (cs ++ c ∷ [])
unfolding next_at
more_is cs line c h = rw h (one_more cs (rule_cause cs c) c)

abbrev Walked : Type 0
Walked = Result (List Command) (ℕ × ℕ)

-- the rest of a walk
walk_on : (cs : List Command) (n : ℕ) (rest line after : List ℕ) (total : Walked) → lines rest ≡ line ∷ lines after → commands_at cs n (lines rest) ≡ total
    → cond (bytes_eq line (codes "end")) (end_at cs n (lines after))
    (at_line n (next_at cs line) >>= λ c. commands_at (cs ++ c ∷ []) (n + 1) (lines after)) ≡ total
walk_on cs n rest line after total e so_far = sym (line_step cs n line after) ∙ sym (ap (commands_at cs n) e) ∙ so_far

pub at_end : (cs : List Command) (n : ℕ) (rest line after : List ℕ) (total : Walked) → lines rest ≡ line ∷ lines after → commands_at cs n (lines rest) ≡ total
    → bytes_eq line (codes "end") ≡ true → end_at cs n (lines after) ≡ total
at_end cs n rest line after total e so_far last = rw last at (walk_on cs n rest line after total e so_far)

no_command : (cs : List Command) (r : Result Command ℕ) (cause : ℕ) → (r >>= λ c. Ok (cs ++ c ∷ [])) ≡ Err cause → r ≡ Err cause
no_command cs (Ok c) cause h = absurd cc
no_command cs (Err d) cause h = cc

one_command : (cs : List Command) (r : Result Command ℕ) (ds : List Command) → (r >>= λ c. Ok (cs ++ c ∷ [])) ≡ Ok ds
    → (c : Command) × (r ≡ Ok c) × (cs ++ c ∷ [] ≡ ds)
one_command cs (Ok c) ds h = (c, refl, ok_is {C = ℕ} (cs ++ c ∷ []) ds h)
one_command cs (Err d) ds h = absurd cc

pub at_fault : (f : FieldFault) (r : ReadScript) (cs : List Command) (n : ℕ) (rest line after : List ℕ) (total : Walked) → IsAtLine n f r
    → FieldFails f (more_at cs line)
    → lines rest ≡ line ∷ lines after → commands_at cs n (lines rest) ≡ total → bytes_eq line (codes "end") ≡ false → ScriptFails r total
at_fault faults.Memory r cs n rest line after total is h e so_far last = subst (λ (x : ReadScript). ScriptFails x total) (sym is) tt
at_fault (faults.Bad cause) r cs n rest line after total is h e so_far last =
    let fails = no_command cs (next_at cs line) cause h in
    let w = rw last at (walk_on cs n rest line after total e so_far) in
    subst (λ (x : ReadScript). ScriptFails x total) (sym is) (sym (rw fails at w))

pub goes_on : (cs ds : List Command) (n : ℕ) (rest line after : List ℕ) (total : Walked) → more_at cs line ≡ Ok ds
    → lines rest ≡ line ∷ lines after → commands_at cs n (lines rest) ≡ total → bytes_eq line (codes "end") ≡ false
    → commands_at ds (n + 1) (lines after) ≡ total
goes_on cs ds n rest line after total h e so_far last =
    let one = one_command cs (next_at cs line) ds h in
    let w = rw last at (walk_on cs n rest line after total e so_far) in
    ap (λ (x : List Command). commands_at x (n + 1) (lines after)) (sym one.2) ∙ rw one.1 at w

pub no_line : (cs : List Command) (n : ℕ) (rest : List ℕ) (total : Walked) → lines rest ≡ rest ∷ [] → commands_at cs n (lines rest) ≡ total
    → total ≡ Err (n, 1)
no_line cs n rest total e so_far = sym so_far ∙ ap (commands_at cs n) e ∙ no_step cs n rest

-- ---- the first line

pub all_is : (b : List ℕ) → length b ≤ TEXT_LIMIT → script_at b ≡ all_at (lines b)
unfolding script_at
all_is b short = let fits : ltb TEXT_LIMIT (length b) ≡ false = le-ltb TEXT_LIMIT (length b) short in rw fits refl

pub none_first : (b : List ℕ) → length b ≤ TEXT_LIMIT → lines b ≡ b ∷ [] → script_at b ≡ Err (1, 1)
none_first b short e = all_is b short ∙ ap all_at e ∙ first_none b

pub other_first : (b line after : List ℕ) → length b ≤ TEXT_LIMIT → lines b ≡ line ∷ lines after → bytes_eq line (codes "latch script 1") ≡ false
    → script_at b ≡ Err (1, 2)
other_first b line after short e differs = all_is b short ∙ ap all_at e ∙ first_step line after ∙ rw differs refl

pub is_first : (b line after : List ℕ) → length b ≤ TEXT_LIMIT → lines b ≡ line ∷ lines after → bytes_eq line (codes "latch script 1") ≡ true
    → script_at b ≡ commands_at [] 2 (lines after)
is_first b line after short e same = all_is b short ∙ ap all_at e ∙ first_step line after ∙ rw same refl
