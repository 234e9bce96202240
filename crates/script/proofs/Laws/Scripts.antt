-- A script is spelled in one way: what is read is spelled so, what is spelled so is read, and a fault comes where nothing is spelled.
use Rattle.std.proofs.Common.{◌≡◌, ◌≤◌, ◌↔◌, ℕ, zero, suc, false, ltb, List, [], ◌∷◌, ◌++◌, length, map, take, slice_get, Some, None, Result, Ok, Err}
use Rattle.std.proofs.Common.{codes, refl, sym, ap, subst, ◌∙◌, append-nil, append_assoc, All}
use Rattle.std.specs.Str.{bytes_eq}
use Rattle.std.specs.Result.{result_err}
use Rattle.std.specs.List.{AllByRecursion, slice_split}
use Rattle.std.proofs.lemmas.Bool.{ltb-false, le-ltb}
use Rattle.std.proofs.lemmas.List.Elements.{All-from_recursion, recursion_from_All}
use Rattle.std.proofs.lemmas.Slice.Eq.{bytes_eq-Decides}
use Rattle.script.specs.declared.command.Command.{Command}
use Rattle.script.specs.Commands.{fields_of, rule_cause}
use Rattle.script.specs.Fields.{is_byte}
use Rattle.script.specs.Reading.{lines, commands_at, all_at, script_at, fault}
use Rattle.script.specs.Scripts.{IsCommand, IsScript, text_of, Spells}
use Rattle.script.specs.declared.limits.TheConstants.{TEXT_LIMIT}
use Rattle.script.proofs.Laws.Steps.{ok_is, ok_unless_err, ok_when}
use Rattle.script.proofs.Laws.Printed.{fields_dark, no_line_feed}
use Rattle.script.proofs.Laws.Parts.{first_part, same_parts}
use Rattle.script.proofs.Laws.Sizes.{lines_text}
use Rattle.script.proofs.Laws.Walk.{body, last, MayFollow, Walk, commands_take, commands_again}

-- ---- the rules, by the place of a command and by steps

pub follow_at : (earlier more : List Command) → MayFollow earlier more → (n : ℕ) (c : Command) → slice_get more n ≡ Some c
    → rule_cause (earlier ++ take n more) c ≡ None
follow_at earlier [] rules n c e = absurd cc
follow_at earlier (d ∷ more) rules zero c e =
    let same : d ≡ c = cc in
    subst (λ (x : Command). rule_cause (earlier ++ []) x ≡ None) same (rw append-nil rules.0)
follow_at earlier (d ∷ more) rules (suc n) c e =
    subst (λ (x : List Command). rule_cause x c ≡ None) (append_assoc earlier (d ∷ []) (take n more)) (follow_at (earlier ++ d ∷ []) more rules.1 n c e)

follow_from : (earlier more : List Command) → ((n : ℕ) (c : Command) → slice_get more n ≡ Some c → rule_cause (earlier ++ take n more) c ≡ None)
    → MayFollow earlier more
follow_from earlier [] at = tt
follow_from earlier (d ∷ more) at = (
  subst (λ (x : List Command). rule_cause x d ≡ None) (append-nil earlier) (at 0 d refl),
  follow_from (earlier ++ d ∷ []) more
      (λ n c e. subst (λ (x : List Command). rule_cause x c ≡ None) (sym (append_assoc earlier (d ∷ []) (take n more))) (at (suc n) c e)),
)

-- ---- all lines

abbrev pub lines_of : List Command → List (List ℕ)
lines_of cs = codes "latch script 1" ∷ (map body cs ++ last)

from_walk : (rest : List (List ℕ)) (cs : List Command) → Walk [] rest cs → (rest ≡ map body cs ++ last) × IsScript cs
from_walk rest cs w =
    let same : w.more ≡ cs = sym w.whole in
    let rules : MayFollow [] cs = subst (MayFollow []) same w.rules in (
      w.parts ∙ ap (λ (x : List Command). map body x ++ last) same,
      record {
        commands = All-from_recursion IsCommand cs (subst (AllByRecursion IsCommand) same w.each);
        rules = follow_at [] cs rules;
        released = w.ended;
      },
    )

pub all_takes : (ls : List (List ℕ)) (cs : List Command) → all_at ls ≡ Ok cs → (ls ≡ lines_of cs) × IsScript cs
unfolding all_at
all_takes [] cs e = absurd cc
all_takes (line ∷ []) cs e = absurd cc
all_takes (line ∷ next ∷ more) cs e =
    let a = ok_when (bytes_eq line (codes "latch script 1")) (1, 2) (commands_at [] 2 (next ∷ more)) cs e in
    let first : line ≡ codes "latch script 1" = (bytes_eq-Decides line (codes "latch script 1")).0 a.0 in
    let w = from_walk (next ∷ more) cs (commands_take [] 2 (next ∷ more) cs a.1) in
    (ap (λ (x : List ℕ). x ∷ next ∷ more) first ∙ ap (λ (x : List (List ℕ)). codes "latch script 1" ∷ x) w.0, w.1)

all_step : (rest : List (List ℕ)) (cs : List Command) → commands_at [] 2 rest ≡ Ok cs → all_at (codes "latch script 1" ∷ rest) ≡ Ok cs
unfolding all_at commands_at
all_step [] cs e = absurd cc
all_step (next ∷ more) cs e = e

pub all_again : (cs : List Command) → IsScript cs → all_at (lines_of cs) ≡ Ok cs
all_again cs ok = all_step (map body cs ++ last) cs
    (commands_again [] 2 cs (recursion_from_All IsCommand cs ok.commands) (follow_from [] cs ok.rules) ok.released)

-- ---- the lines of a spelling

regrouped : (a : List ℕ) (x : ℕ) (f t : List ℕ) → ((a ++ x ∷ []) ++ f) ++ t ≡ a ++ x ∷ (f ++ t)
regrouped a x f t = simp append_assoc

lines_again : (cs : List Command) (t : List ℕ) → AllByRecursion IsCommand cs
    → slice_split (is_byte 10) (lines_text cs ++ t) ≡ map body cs ++ slice_split (is_byte 10) t
lines_again [] t ok = refl
lines_again (c ∷ cs) t ok =
    ap (slice_split (is_byte 10)) (regrouped (body c) 10 (lines_text cs) t)
    ∙ first_part 10 (body c) (lines_text cs ++ t) (no_line_feed (fields_of c) (fields_dark c ok.0))
    ∙ ap (λ (x : List (List ℕ)). body c ∷ x) (lines_again cs t ok.1)

pub lines_of_text : (cs : List Command) → All IsCommand cs → lines (text_of cs) ≡ lines_of cs
lines_of_text cs ok =
    first_part 10 (codes "latch script 1") (lines_text cs ++ codes "end\n") refl
    ∙ ap (λ (x : List (List ℕ)). codes "latch script 1" ∷ x) (lines_again cs (codes "end\n") (recursion_from_All IsCommand cs ok))

pub text_takes : (b : List ℕ) (cs : List Command) → all_at (lines b) ≡ Ok cs → (b ≡ text_of cs) × IsScript cs
text_takes b cs e =
    let a = all_takes (lines b) cs e in
    (same_parts 10 b (text_of cs) (a.0 ∙ sym (lines_of_text cs a.1.commands)), a.1)

pub text_again : (cs : List Command) → IsScript cs → all_at (lines (text_of cs)) ≡ Ok cs
text_again cs ok = ap all_at (lines_of_text cs ok.commands) ∙ all_again cs ok

-- ---- the two laws

pub script_takes : (b : List ℕ) (cs : List Command) → script_at b ≡ Ok cs → Spells b cs
unfolding script_at
script_takes b cs e =
    let a = ok_unless_err (ltb TEXT_LIMIT (length b)) (0, 18) (all_at (lines b)) cs e in
    let t = text_takes b cs a.1 in
    let short : length b ≤ TEXT_LIMIT = ltb-false TEXT_LIMIT (length b) a.0 in
    record { script = t.1; fits = record { short = subst (λ (x : List ℕ). length x ≤ TEXT_LIMIT) t.0 short }; spelled = t.0 }

pub script_again : (b : List ℕ) (cs : List Command) → Spells b cs → script_at b ≡ Ok cs
unfolding script_at
script_again b cs s =
    let short : ltb TEXT_LIMIT (length b) ≡ false = le-ltb TEXT_LIMIT (length b)
    (subst (λ (x : List ℕ). length x ≤ TEXT_LIMIT) (sym s.spelled) s.fits.short) in
    let read : all_at (lines b) ≡ Ok cs = ap (λ (x : List ℕ). all_at (lines x)) s.spelled ∙ text_again cs s.script in
    rw short read

-- ---- what follows from them

-- bytes spell one script at most
pub one_script : (b : List ℕ) (cs ds : List Command) → Spells b cs → Spells b ds → cs ≡ ds
one_script b cs ds s t = ok_is {C = ℕ × ℕ} cs ds (sym (script_again b cs s) ∙ script_again b ds t)

-- two scripts never have one spelling, however long it is
pub one_spelling : (cs ds : List Command) → IsScript cs → IsScript ds → text_of cs ≡ text_of ds → cs ≡ ds
one_spelling cs ds s t e = ok_is {C = ℕ × ℕ} cs ds (sym (text_again cs s) ∙ ap (λ (x : List ℕ). all_at (lines x)) e ∙ text_again ds t)

none_ok : {A C : Type 0} (r : Result A C) → result_err r ≡ None → (x : A) × (r ≡ Ok x)
none_ok (Ok x) e = (x, refl)
none_ok (Err d) e = absurd cc

-- there is no fault exactly where a script is spelled
pub fault_none : (b : List ℕ) → fault b ≡ None ↔ ((cs : List Command) × Spells b cs)
fault_none b = (
  λ e. let a = none_ok (script_at b) e in (a.0, script_takes b a.0 a.1),
  λ s. ap result_err (script_again b s.0 s.1),
)
