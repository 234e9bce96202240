-- Passes over a list: one element further.
use Rattle.std.proofs.Common.{◌≡◌, ℕ, ◌+◌, ◌<◌, Bool, false, List, [], ◌∷◌, ◌++◌, codes, length, map, take, drop, get_or, refl, ap, sym, ◌∙◌}
use Rattle.std.proofs.Common.{append-nil, append_assoc, drop-cons, add-one}
use Rattle.std.proofs.Math.Seq.{take-suc}
use Rattle.std.proofs.lemmas.Grind.{flat_map-append}
use Rattle.std.proofs.lemmas.List.{map-append}
use Rattle.std.specs.List.{flat_map, join_with_byte}
use Rattle.report.specs.Passing.{comma_unless, is_nil}
use Rattle.latch_model.specs.declared.history.Entry.{Entry}
use Rattle.report.specs.Reports.{entry_line, report_text}
use Rattle.report.specs.Words.{summary_of, summary_text}
use Rattle.report.specs.declared.counts.Summary.{Summary}
use Rattle.report.proofs.Commas.{join_last}

-- an element, and those behind it
pub drop_next : {X : Type 0} (xs : List X) (n : ℕ) (x : X) → n < length xs → x ≡ get_or xs n x → drop n xs ≡ x ∷ drop (n + 1) xs
drop_next xs n x lt is = drop-cons xs n x lt ∙ ap (λ m. get_or xs n x ∷ drop m xs) (sym (add-one n)) ∙ ap (λ y. y ∷ drop (n + 1) xs) (sym is)

-- those in front, and an element
pub take_next : {X : Type 0} (xs : List X) (n : ℕ) (x : X) → n < length xs → x ≡ get_or xs n x → take (n + 1) xs ≡ take n xs ++ x ∷ []
take_next xs n x lt is = ap (λ m. take m xs) (add-one n) ∙ take-suc xs n x lt ∙ ap (λ y. take n xs ++ y ∷ []) (sym is)

-- what is written for the elements passed, and for one more
pub written_next : {X : Type 0} (f : X → List ℕ) (xs : List X) (n : ℕ) (x : X) (start old new : List ℕ) → n < length xs → x ≡ get_or xs n x
    → old ≡ start ++ flat_map f (take n xs) → new ≡ old ++ f x → new ≡ start ++ flat_map f (take (n + 1) xs)
written_next f xs n x start old new lt is so_far more =
    let all : flat_map f (take (n + 1) xs) ≡ flat_map f (take n xs) ++ f x =
    ap (flat_map f) (take_next xs n x lt is) ∙ flat_map-append f (take n xs) (x ∷ []) ∙ ap (λ v. flat_map f (take n xs) ++ v) (append-nil (f x)) in
    more ∙ ap (λ v. v ++ f x) so_far ∙ append_assoc start (flat_map f (take n xs)) (f x) ∙ ap (λ v. start ++ v) (sym all)

nil_of : {X Y : Type 0} (f : X → Y) (xs : List X) → is_nil xs ≡ is_nil (map f xs)
nil_of f [] = refl
nil_of f (x ∷ xs) = refl

not_nil : {X : Type 0} (xs : List X) (x : X) → false ≡ is_nil (xs ++ x ∷ [])
not_nil [] x = refl
not_nil (y ∷ ys) x = refl

-- something has been passed
pub passed_next : {X : Type 0} (xs : List X) (n : ℕ) (x : X) → n < length xs → x ≡ get_or xs n x → false ≡ is_nil (take (n + 1) xs)
passed_next xs n x lt is = not_nil (take n xs) x ∙ ap is_nil (sym (take_next xs n x lt is))

-- what is written with commas between, and one more
pub joined_next : {X : Type 0} (f : X → List ℕ) (xs : List X) (n : ℕ) (x : X) (start old new : List ℕ) (first : Bool) → n < length xs → x ≡ get_or xs n x
    → first ≡ is_nil (take n xs) → old ≡ start ++ join_with_byte 44 (map f (take n xs)) → new ≡ old ++ (comma_unless first ++ f x)
    → new ≡ start ++ join_with_byte 44 (map f (take (n + 1) xs))
joined_next f xs n x start old new first lt is none so_far more =
    let passed = map f (take n xs) in
    let all : join_with_byte 44 (map f (take (n + 1) xs)) ≡ join_with_byte 44 passed ++ (comma_unless first ++ f x) =
    ap (λ ys. join_with_byte 44 (map f ys)) (take_next xs n x lt is) ∙ ap (join_with_byte 44) (map-append f (take n xs) (x ∷ []))
    ∙ join_last passed (f x) first (none ∙ nil_of f (take n xs)) in
    more ∙ ap (λ v. v ++ (comma_unless first ++ f x)) so_far ∙ append_assoc start (join_with_byte 44 passed) (comma_unless first ++ f x)
    ∙ ap (λ v. start ++ v) (sym all)

three_parts : (start first middle last : List ℕ) → ((start ++ first) ++ middle) ++ last ≡ start ++ ((first ++ middle) ++ last)
three_parts start first middle last = simp append_assoc

-- the report, by its parts
pub report_lines : (h : List Entry) (s : Summary) (start a b new : List ℕ) → s ≡ summary_of h → a ≡ start ++ codes "latch report 1\n"
    → b ≡ a ++ flat_map (entry_line h) h → new ≡ b ++ summary_text s → new ≡ start ++ report_text h
report_lines h s start a b new is ea eb en =
    let lines : List ℕ = flat_map (entry_line h) h in
    en ∙ ap (λ v. v ++ summary_text s) (eb ∙ ap (λ v. v ++ lines) ea) ∙ three_parts start (codes "latch report 1\n") lines (summary_text s)
    ∙ ap (λ t. start ++ ((codes "latch report 1\n" ++ lines) ++ summary_text t)) is
