-- The lines of a script, from one line on, are read in one way.
use Rattle.std.proofs.Common.{◌≡◌, ℕ, ◌+◌, true, false, cond, List, [], ◌∷◌, ◌++◌, map, Option, Some, None, Result, Ok, Err, codes, refl, sym, ap, subst}
use Rattle.std.proofs.Common.{◌∙◌, ◌≢◌, inl, inr, append-nil, append_assoc}
use Rattle.std.specs.Str.{bytes_eq}
use Rattle.std.specs.List.{AllByRecursion, join_with_byte}
use Rattle.std.proofs.lemmas.Bool.{false_from_ne_true}
use Rattle.std.proofs.lemmas.Slice.Eq.{bytes_eq-Decides}
use Rattle.script.specs.declared.command.Command.{Command}
use Rattle.script.specs.declared.command.Command.TheVariants.{Begin, Wait, Check, Poison, Release, Metrics}
use Rattle.script.specs.Commands.{fields_of, rule_cause, some_live}
use Rattle.script.specs.Fields.{◌>>=◌}
use Rattle.script.specs.Lines.{fields, command_at}
use Rattle.script.specs.Reading.{at_line, ok_unless, next_at, nothing_more, end_at, commands_at}
use Rattle.script.specs.Scripts.{IsCommand}
use Rattle.script.proofs.Laws.Steps.{ok_bound, ok_is, chosen, ok_unless_err, ok_when}
use Rattle.script.proofs.Laws.Commands.{command_takes, command_again}
use Rattle.script.proofs.Laws.Printed.{fields_dark, no_spaces}
use Rattle.script.proofs.Laws.Parts.{parts_again, parts_take}

-- a command's line, without its line feed, and the last two parts of a script
abbrev pub body : Command → List ℕ
body c = join_with_byte 32 (fields_of c)

abbrev pub last : List (List ℕ)
last = codes "end" ∷ [] ∷ []

-- ---- one line

some_fields : (c : Command) → fields_of c ≢ []
some_fields (Begin session name mode policy turns latches) e = cc
some_fields (Wait name) e = cc
some_fields (Check name latches) e = cc
some_fields (Poison name) e = cc
some_fields (Release name) e = cc
some_fields Metrics e = cc

pub fields_again : (c : Command) → IsCommand c → fields (body c) ≡ fields_of c
fields_again c ok = parts_again 32 (fields_of c) (some_fields c) (no_spaces (fields_of c) (fields_dark c ok))

unless_takes : (o : Option ℕ) (c d : Command) → ok_unless o c ≡ Ok d → (o ≡ None) × (c ≡ d)
unless_takes None c d e = (refl, ok_is {C = ℕ} c d e)
unless_takes (Some n) c d e = absurd cc

record IsNext (earlier : List Command) (line : List ℕ) (c : Command) : Type 0 where
  spelled : line ≡ body c
  fits : IsCommand c
  rule : rule_cause earlier c ≡ None

next_takes : (earlier : List Command) (line : List ℕ) (c : Command) → next_at earlier line ≡ Ok c → IsNext earlier line c
unfolding next_at
next_takes earlier line c e =
    let a = ok_bound (command_at (fields line)) (λ d. ok_unless (rule_cause earlier d) d) c e in
    let r = unless_takes (rule_cause earlier a.0) a.0 c a.2 in
    let k = command_takes (fields line) a.0 a.1 in
    subst (IsNext earlier line) r.1 (record { spelled = parts_take 32 line (fields_of a.0) k.0; fits = k.1; rule = r.0 })

next_again : (earlier : List Command) (c : Command) → IsCommand c → rule_cause earlier c ≡ None → next_at earlier (body c) ≡ Ok c
unfolding next_at
next_again earlier c ok rule = rw (fields_again c ok, command_again c ok, rule) refl

-- the line `end` spells no command
no_command : (c : Command) → command_at (codes "end" ∷ []) ≡ Ok c → ⊥
unfolding command_at
no_command c e = cc

not_end : (c : Command) → IsCommand c → bytes_eq (body c) (codes "end") ≡ false
not_end c ok = false_from_ne_true (bytes_eq (body c) (codes "end")) (λ h.
    let same : body c ≡ codes "end" = (bytes_eq-Decides (body c) (codes "end")).0 h in
    let parts : codes "end" ∷ [] ≡ fields_of c = sym (ap fields same) ∙ fields_again c ok in
    no_command c (ap command_at parts ∙ command_again c ok))

-- ---- the last line

nothing_is : (next : List ℕ) (more : List (List ℕ)) → nothing_more (next ∷ more) ≡ true → next ∷ more ≡ [] ∷ []
nothing_is [] [] h = refl
nothing_is [] (part ∷ parts) h = absurd cc
nothing_is (b ∷ bs) more h = absurd cc

end_takes : (earlier : List Command) (n : ℕ) (next : List ℕ) (more : List (List ℕ)) (cs : List Command) → end_at earlier n (next ∷ more) ≡ Ok cs
    → (some_live earlier ≡ false) × (next ∷ more ≡ [] ∷ []) × (earlier ≡ cs)
unfolding end_at
end_takes earlier n next more cs e =
    let a = ok_unless_err (some_live earlier) (n, 16) (cond (nothing_more (next ∷ more)) (Ok earlier) (Err (n + 1, 17))) cs e in
    let b = ok_when (nothing_more (next ∷ more)) (n + 1, 17) (Ok earlier) cs a.1 in
    (a.0, nothing_is next more b.0, ok_is {C = ℕ × ℕ} earlier cs b.1)

end_again : (earlier : List Command) (n : ℕ) → some_live earlier ≡ false → end_at earlier n ([] ∷ []) ≡ Ok earlier
unfolding end_at
end_again earlier n h = rw h refl

-- ---- the commands behind others

abbrev pub MayFollow : List Command → List Command → Type 0
MayFollow earlier [] = Unit {0}
MayFollow earlier (c ∷ more) = (rule_cause earlier c ≡ None) × MayFollow (earlier ++ c ∷ []) more

pub record Walk (earlier : List Command) (ls : List (List ℕ)) (cs : List Command) : Type 0 where
  pub more : List Command
  pub whole : cs ≡ earlier ++ more
  pub parts : ls ≡ map body more ++ last
  pub each : AllByRecursion IsCommand more
  pub rules : MayFollow earlier more
  pub ended : some_live cs ≡ false

at_takes : (n : ℕ) (r : Result Command ℕ) (c : Command) → at_line n r ≡ Ok c → r ≡ Ok c
at_takes n (Ok d) c e = cc
at_takes n (Err cause) c e = absurd cc

walk_ends : (earlier : List Command) (line : List ℕ) (rest : List (List ℕ)) (cs : List Command) → bytes_eq line (codes "end") ≡ true
    → some_live earlier ≡ false → rest ≡ [] ∷ [] → earlier ≡ cs → Walk earlier (line ∷ rest) cs
walk_ends earlier line rest cs h live r same = record {
  more = [];
  whole = sym same ∙ sym (append-nil earlier);
  parts = ap (λ (x : List ℕ). x ∷ rest) ((bytes_eq-Decides line (codes "end")).0 h) ∙ ap (λ (x : List (List ℕ)). codes "end" ∷ x) r;
  each = tt;
  rules = tt;
  ended = subst (λ (x : List Command). some_live x ≡ false) same live;
}

walk_on : (earlier : List Command) (line : List ℕ) (c : Command) (rest : List (List ℕ)) (cs : List Command) → IsNext earlier line c
    → Walk (earlier ++ c ∷ []) rest cs → Walk earlier (line ∷ rest) cs
walk_on earlier line c rest cs n w = record {
  more = c ∷ w.more;
  whole = w.whole ∙ append_assoc earlier (c ∷ []) w.more;
  parts = ap (λ (x : List ℕ). x ∷ rest) n.spelled ∙ ap (λ (x : List (List ℕ)). body c ∷ x) w.parts;
  each = (n.fits, w.each);
  rules = (n.rule, w.rules);
  ended = w.ended;
}

pub commands_take : (earlier : List Command) (n : ℕ) (ls : List (List ℕ)) (cs : List Command) → commands_at earlier n ls ≡ Ok cs → Walk earlier ls cs
unfolding commands_at
commands_take earlier n [] cs e = absurd cc
commands_take earlier n (line ∷ []) cs e = absurd cc
commands_take earlier n (line ∷ next ∷ more) cs e =
    let step = at_line n (next_at earlier line) in
    elim (chosen (bytes_eq line (codes "end")) (end_at earlier n (next ∷ more)) (step >>= λ c. commands_at (earlier ++ c ∷ []) (n + 1) (next ∷ more))
    (Ok cs) e) [
      | inl h ↦
          let a = end_takes earlier n next more cs h.1 in
          walk_ends earlier line (next ∷ more) cs h.0 a.0 a.1 a.2
      | inr h ↦
          let a = ok_bound step (λ c. commands_at (earlier ++ c ∷ []) (n + 1) (next ∷ more)) cs h.1 in
          walk_on earlier line a.0 (next ∷ more) cs (next_takes earlier line a.0 (at_takes n (next_at earlier line) a.0 a.1))
          (commands_take (earlier ++ a.0 ∷ []) (n + 1) (next ∷ more) cs a.2)
    ]

-- ---- and again

goes_on : (earlier : List Command) (n : ℕ) (line : List ℕ) (c : Command) (rest : List (List ℕ)) → rest ≢ [] → bytes_eq line (codes "end") ≡ false
    → next_at earlier line ≡ Ok c
    → commands_at earlier n (line ∷ rest) ≡ commands_at (earlier ++ c ∷ []) (n + 1) rest
unfolding commands_at
goes_on earlier n line c [] some h e = absurd (some refl)
goes_on earlier n line c (next ∷ more) some h e = rw (h, e) refl

some_parts : (more : List Command) → map body more ++ last ≢ []
some_parts [] e = cc
some_parts (c ∷ more) e = cc

pub commands_again : (earlier : List Command) (n : ℕ) (more : List Command) → AllByRecursion IsCommand more → MayFollow earlier more
    → some_live (earlier ++ more) ≡ false
    → commands_at earlier n (map body more ++ last) ≡ Ok (earlier ++ more)
unfolding commands_at
commands_again earlier n [] each rules live =
    let same : earlier ++ [] ≡ earlier = append-nil earlier in
    let ended : some_live earlier ≡ false = subst (λ (x : List Command). some_live x ≡ false) same live in
    end_again earlier n ended ∙ ap (λ (x : List Command). Ok x) (sym same)
commands_again earlier n (c ∷ more) each rules live =
    let same : (earlier ++ c ∷ []) ++ more ≡ earlier ++ c ∷ more = append_assoc earlier (c ∷ []) more in
    let ended : some_live ((earlier ++ c ∷ []) ++ more) ≡ false = subst (λ (x : List Command). some_live x ≡ false) (sym same) live in
    goes_on earlier n (body c) c (map body more ++ last) (some_parts more) (not_end c each.0) (next_again earlier c each.0 rules.0)
    ∙ commands_again (earlier ++ c ∷ []) (n + 1) more each.1 rules.1 ended
    ∙ ap (λ (x : List Command). Ok x) same
