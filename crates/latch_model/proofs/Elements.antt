-- Laws of lists, tests and options that speak of nothing else: what holds of each element, filters of filters and of maps, first elements.
use Rattle.std.proofs.Common.{◌≡◌, ℕ, zero, suc, ◌≤◌, length, take, Bool, true, false, cond, ◌&&◌, ◌||◌, List, [], ◌∷◌, ◌++◌, map, Option, Some, None}
use Rattle.std.proofs.Common.{refl, sym, ap, ◌∙◌, inl, inr, arith}
use Rattle.std.specs.List.{filter, flat_map, list_any}
use Rattle.std.specs.Option.{option_or, option_map}
use Rattle.std.proofs.lemmas.List.{map-append}
use Rattle.latch_model.proofs.Lists.{In}

-- P holds of each element
abbrev pub Each : {X : Type 0} → (X → Type 0) → List X → Type 0
Each P [] = Unit {0}
Each P (x ∷ xs) = P x × Each P xs

pub Each-append : {X : Type 0} (P : X → Type 0) (xs ys : List X) → Each P xs → Each P ys → Each P (xs ++ ys)
Each-append P [] ys h k = k
Each-append P (x ∷ xs) ys h k = (h.0, Each-append P xs ys h.1 k)

pub Each-map : {X : Type 0} (P Q : X → Type 0) → ((x : X) → P x → Q x) → (xs : List X) → Each P xs → Each Q xs
Each-map P Q f [] h = tt
Each-map P Q f (x ∷ xs) h = (f x h.0, Each-map P Q f xs h.1)

pub Each-both : {X : Type 0} (P Q : X → Type 0) (xs : List X) → Each P xs → Each Q xs → Each (λ x. P x × Q x) xs
Each-both P Q [] h k = tt
Each-both P Q (x ∷ xs) h k = ((h.0, k.0), Each-both P Q xs h.1 k.1)

pub Each-at_map : {X Y : Type 0} (P : Y → Type 0) (f : X → Y) (xs : List X) → Each (λ x. P (f x)) xs → Each P (map f xs)
Each-at_map P f [] h = tt
Each-at_map P f (x ∷ xs) h = (h.0, Each-at_map P f xs h.1)

pub Each-from_In : {X : Type 0} (P : X → Type 0) (xs : List X) → ((x : X) → In x xs → P x) → Each P xs
Each-from_In P [] f = tt
Each-from_In P (x ∷ xs) f = (f x (inl refl), Each-from_In P xs (λ y there. f y (inr there)))

-- filters
filter_step : {X : Type 0} (p : X → Bool) (x : X) (xs : List X) (b : Bool) → p x ≡ b → filter p (x ∷ xs) ≡ cond b (x ∷ filter p xs) (filter p xs)
filter_step p x xs b e = ap (λ c. cond c (x ∷ filter p xs) (filter p xs)) e

pub filter_yes : {X : Type 0} (p : X → Bool) (x : X) (xs : List X) → p x ≡ true → filter p (x ∷ xs) ≡ x ∷ filter p xs
filter_yes p x xs e = filter_step p x xs true e

pub filter_no : {X : Type 0} (p : X → Bool) (x : X) (xs : List X) → p x ≡ false → filter p (x ∷ xs) ≡ filter p xs
filter_no p x xs e = filter_step p x xs false e

filter_same_step : {X : Type 0} (x : X) (ys zs : List X) (a b : Bool) → a ≡ b → ys ≡ zs → cond a (x ∷ ys) ys ≡ cond b (x ∷ zs) zs
filter_same_step x ys zs a b e f = cc

-- two tests that agree on each element
pub filter_agree_each : {X : Type 0} (p q : X → Bool) (xs : List X) → Each (λ x. p x ≡ q x) xs → filter p xs ≡ filter q xs
filter_agree_each p q [] h = refl
filter_agree_each p q (x ∷ xs) h = filter_same_step x (filter p xs) (filter q xs) (p x) (q x) h.0 (filter_agree_each p q xs h.1)

filter_twice_step : {X : Type 0} (p : X → Bool) (x : X) (xs : List X) (a : Bool) (zs : List X) → filter p xs ≡ zs →
    filter p (cond a (x ∷ xs) xs) ≡ cond (a && p x) (x ∷ zs) zs
filter_twice_step p x xs true zs e = filter_same_step x (filter p xs) zs (p x) (p x) refl e
filter_twice_step p x xs false zs e = e

pub filter-filter : {X : Type 0} (p q : X → Bool) (xs : List X) → filter p (filter q xs) ≡ filter (λ x. q x && p x) xs
filter-filter p q [] = refl
filter-filter p q (x ∷ xs) = filter_twice_step p x (filter q xs) (q x) (filter (λ x. q x && p x) xs) (filter-filter p q xs)

map_cond : {X Y : Type 0} (f : X → Y) (a : Bool) (x : X) (xs : List X) → map f (cond a (x ∷ xs) xs) ≡ cond a (f x ∷ map f xs) (map f xs)
map_cond f true x xs = refl
map_cond f false x xs = refl

pub filter-map : {X Y : Type 0} (f : X → Y) (p : Y → Bool) (xs : List X) → filter p (map f xs) ≡ map f (filter (λ x. p (f x)) xs)
filter-map f p [] = refl
filter-map f p (x ∷ xs) =
    filter_same_step (f x) (filter p (map f xs)) (map f (filter (λ x. p (f x)) xs)) (p (f x)) (p (f x)) refl (filter-map f p xs)
    ∙ sym (map_cond f (p (f x)) x (filter (λ x. p (f x)) xs))

Each-cond : {X : Type 0} (P : X → Type 0) (a : Bool) (x : X) (xs : List X) → P x → Each P xs → Each P (cond a (x ∷ xs) xs)
Each-cond P true x xs h k = (h, k)
Each-cond P false x xs h k = k

pub Each-filter : {X : Type 0} (P : X → Type 0) (p : X → Bool) (xs : List X) → Each P xs → Each P (filter p xs)
Each-filter P p [] h = tt
Each-filter P p (x ∷ xs) h = Each-cond P (p x) x (filter p xs) h.0 (Each-filter P p xs h.1)

Each-cond_yes : {X : Type 0} (p : X → Bool) (a : Bool) (x : X) (xs : List X) → p x ≡ a → Each (λ x. p x ≡ true) xs →
    Each (λ x. p x ≡ true) (cond a (x ∷ xs) xs)
Each-cond_yes p true x xs h k = (h, k)
Each-cond_yes p false x xs h k = k

pub Each-filter_yes : {X : Type 0} (p : X → Bool) (xs : List X) → Each (λ x. p x ≡ true) (filter p xs)
Each-filter_yes p [] = tt
Each-filter_yes p (x ∷ xs) = Each-cond_yes p (p x) x (filter p xs) refl (Each-filter_yes p xs)

-- maps
pub map-map : {X Y Z : Type 0} (f : X → Y) (g : Y → Z) (xs : List X) → map g (map f xs) ≡ map (λ x. g (f x)) xs
map-map f g [] = refl
map-map f g (x ∷ xs) = ap (λ ys. g (f x) ∷ ys) (map-map f g xs)

pub map_agree : {X Y : Type 0} (f g : X → Y) (xs : List X) → Each (λ x. f x ≡ g x) xs → map f xs ≡ map g xs
map_agree f g [] h = refl
map_agree f g (x ∷ xs) h = ap (λ y. y ∷ map f xs) h.0 ∙ ap (λ ys. g x ∷ ys) (map_agree f g xs h.1)

pub flat_map-map : {X Y Z : Type 0} (f : X → Y) (g : Y → List Z) (xs : List X) → flat_map g (map f xs) ≡ flat_map (λ x. g (f x)) xs
flat_map-map f g [] = refl
flat_map-map f g (x ∷ xs) = ap (λ ys. g (f x) ++ ys) (flat_map-map f g xs)

pub map-flat_map : {X Y Z : Type 0} (f : X → List Y) (g : Y → Z) (xs : List X) → map g (flat_map f xs) ≡ flat_map (λ x. map g (f x)) xs
map-flat_map f g [] = refl
map-flat_map f g (x ∷ xs) = map-append g (f x) (flat_map f xs) ∙ ap (λ ys. map g (f x) ++ ys) (map-flat_map f g xs)

pub flat_map_agree : {X Y : Type 0} (f g : X → List Y) → ((x : X) → f x ≡ g x) → (xs : List X) → flat_map f xs ≡ flat_map g xs
flat_map_agree f g h [] = refl
flat_map_agree f g h (x ∷ xs) = ap (λ y. y ++ flat_map f xs) (h x) ∙ ap (λ ys. g x ++ ys) (flat_map_agree f g h xs)

pub Each-flat_map : {X Y : Type 0} (P : Y → Type 0) (f : X → List Y) (xs : List X) → Each (λ x. Each P (f x)) xs → Each P (flat_map f xs)
Each-flat_map P f [] h = tt
Each-flat_map P f (x ∷ xs) h = Each-append P (f x) (flat_map f xs) h.0 (Each-flat_map P f xs h.1)

-- whether some element passes
pub list_any-map : {X Y : Type 0} (f : X → Y) (p : Y → Bool) (xs : List X) → list_any p (map f xs) ≡ list_any (λ x. p (f x)) xs
list_any-map f p [] = refl
list_any-map f p (x ∷ xs) = ap (λ b. p (f x) || b) (list_any-map f p xs)

pub list_any_agree : {X : Type 0} (p q : X → Bool) (xs : List X) → Each (λ x. p x ≡ q x) xs → list_any p xs ≡ list_any q xs
list_any_agree p q [] h = refl
list_any_agree p q (x ∷ xs) h = ap (λ b. b || list_any p xs) h.0 ∙ ap (λ b. q x || b) (list_any_agree p q xs h.1)

any_filter_step : {X : Type 0} (p : X → Bool) (x : X) (xs : List X) (a r : Bool) → list_any p xs ≡ r → list_any p (cond a (x ∷ xs) xs) ≡ ((p x && a) || r)
any_filter_step p x xs true r e = grind arith
any_filter_step p x xs false r e = grind arith

pub list_any-filter : {X : Type 0} (p q : X → Bool) (xs : List X) → list_any p (filter q xs) ≡ list_any (λ x. p x && q x) xs
list_any-filter p q [] = refl
list_any-filter p q (x ∷ xs) = any_filter_step p x (filter q xs) (q x) (list_any (λ x. p x && q x) xs) (list_any-filter p q xs)

-- the first element
abbrev pub head : {X : Type 0} → List X → Option X
head [] = None
head (x ∷ xs) = Some x

pub head-append : {X : Type 0} (xs ys : List X) → head (xs ++ ys) ≡ option_or (head xs) (head ys)
head-append [] ys = refl
head-append (x ∷ xs) ys = refl

pub option_or_assoc : {X : Type 0} (a b c : Option X) → option_or (option_or a b) c ≡ option_or a (option_or b c)
option_or_assoc None b c = refl
option_or_assoc (Some x) b c = refl

pub option_map-or : {X Y : Type 0} (f : X → Y) (a b : Option X) → option_map f (option_or a b) ≡ option_or (option_map f a) (option_map f b)
option_map-or f None b = refl
option_map-or f (Some x) b = refl

-- all of a list
pub take_whole : {X : Type 0} (xs : List X) (i : ℕ) → length xs ≤ i → take i xs ≡ xs
take_whole [] zero l = refl
take_whole [] (suc i) l = refl
take_whole (x ∷ xs) zero l = absurd (omega arith)
take_whole (x ∷ xs) (suc i) l = ap (λ ys. x ∷ ys) (take_whole xs i (omega arith))
