-- A line is its first field, and each other field with a space in front.
use Rattle.std.proofs.Common.{◌≡◌, ℕ, List, [], ◌∷◌, ◌++◌, sym, ap, ◌∙◌, append_assoc}
use Rattle.std.specs.List.{join_with_byte}
use Rattle.std.proofs.lemmas.List.{append-nil}
use Rattle.std.proofs.lemmas.List.Concat.{flat_map-cons, flat_map-append}
use Rattle.script.specs.Commands.{line_of}
use Rattle.script.specs.Spaced.{spaced}

pub spaced-cons : (f : List ℕ) (fs : List (List ℕ)) → spaced (f ∷ fs) ≡ 32 ∷ (f ++ spaced fs)
spaced-cons f fs = flat_map-cons (λ (g : List ℕ). 32 ∷ g) f fs

pub joined : (f : List ℕ) (fs : List (List ℕ)) → join_with_byte 32 (f ∷ fs) ≡ f ++ spaced fs
joined f [] = sym (append-nil f)
joined f (g ∷ fs) = ap (λ (x : List ℕ). f ++ (32 ∷ x)) (joined g fs) ∙ ap (λ (x : List ℕ). f ++ x) (sym (spaced-cons g fs))

pub line_is : (f : List ℕ) (fs : List (List ℕ)) → line_of (f ∷ fs) ≡ f ++ (spaced fs ++ 10 ∷ [])
line_is f fs = ap (λ (x : List ℕ). x ++ 10 ∷ []) (joined f fs) ∙ append_assoc f (spaced fs) (10 ∷ [])

pub spaced-append : (fs gs : List (List ℕ)) → spaced (fs ++ gs) ≡ spaced fs ++ spaced gs
spaced-append fs gs = flat_map-append (λ (g : List ℕ). 32 ∷ g) fs gs

-- what was written part by part is a line
pub check_line : (out word name : List ℕ) (fs : List (List ℕ)) → ((out ++ word) ++ (32 ∷ name)) ++ (spaced fs ++ 10 ∷ []) ≡ out ++ line_of (word ∷ name ∷ fs)
check_line out word name fs =
    let right : line_of (word ∷ name ∷ fs) ≡ word ++ (32 ∷ (name ++ (spaced fs ++ 10 ∷ []))) =
    line_is word (name ∷ fs) ∙ ap (λ (x : List ℕ). word ++ (x ++ 10 ∷ [])) (spaced-cons name fs)
    ∙ ap (λ (x : List ℕ). word ++ (32 ∷ x)) (append_assoc name (spaced fs) (10 ∷ [])) in
    append_assoc (out ++ word) (32 ∷ name) (spaced fs ++ 10 ∷ []) ∙ append_assoc out word (32 ∷ (name ++ (spaced fs ++ 10 ∷ [])))
    ∙ ap (λ (x : List ℕ). out ++ x) (sym right)

regroup : (out word a b c d : List ℕ) → ((out ++ (word ++ a)) ++ b) ++ (c ++ d) ≡ out ++ (word ++ ((a ++ (b ++ c)) ++ d))
regroup out word a b c d = simp append_assoc

pub begin_line : (out word : List ℕ) (front ts fs : List (List ℕ))
    → ((out ++ (word ++ spaced front)) ++ spaced ts) ++ (spaced fs ++ 10 ∷ []) ≡ out ++ line_of (word ∷ (front ++ (ts ++ fs)))
begin_line out word front ts fs =
    let parts : spaced (front ++ (ts ++ fs)) ≡ spaced front ++ (spaced ts ++ spaced fs) = spaced-append front (ts ++ fs)
    ∙ ap (λ (x : List ℕ). spaced front ++ x) (spaced-append ts fs) in
    let right : line_of (word ∷ (front ++ (ts ++ fs))) ≡ word ++ ((spaced front ++ (spaced ts ++ spaced fs)) ++ 10 ∷ []) = line_is word (front ++ (ts ++ fs))
    ∙ ap (λ (x : List ℕ). word ++ (x ++ 10 ∷ [])) parts in
    regroup out word (spaced front) (spaced ts) (spaced fs) (10 ∷ []) ∙ ap (λ (x : List ℕ). out ++ x) (sym right)
