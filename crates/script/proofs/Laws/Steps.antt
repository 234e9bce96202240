-- What a step that succeeded says of its parts.
use Rattle.std.proofs.Common.{◌≡◌, ℕ, Bool, true, false, cond, ◌⊎◌, inl, inr, Option, Some, None, Result, Ok, Err, refl}
use Rattle.script.specs.Fields.{◌>>?◌, ◌>>=◌, or_cause}

pub some_bound : {A B : Type 0} (o : Option A) (f : A → Option B) (y : B) → (o >>? f) ≡ Some y → (x : A) × (o ≡ Some x) × (f x ≡ Some y)
some_bound (Some x) f y e = (x, refl, e)
some_bound None f y e = absurd cc

pub ok_bound : {A B C : Type 0} (r : Result A C) (f : A → Result B C) (y : B) → (r >>= f) ≡ Ok y → (x : A) × (r ≡ Ok x) × (f x ≡ Ok y)
ok_bound (Ok x) f y e = (x, refl, e)
ok_bound (Err d) f y e = absurd cc

pub cause_ok : {A : Type 0} (n : ℕ) (o : Option A) (x : A) → or_cause n o ≡ Ok x → o ≡ Some x
cause_ok n (Some y) x e = cc
cause_ok n None x e = absurd cc

pub some_is : {A : Type 0} (x y : A) → Some x ≡ Some y → x ≡ y
some_is x y e = cc

abbrev pub done : {A C : Type 0} → A → Result A C
done x = Ok x

pub ok_is : {A C : Type 0} (x y : A) → done {C = C} x ≡ done y → x ≡ y
ok_is x y e = cc

-- which way a test went
pub chosen : {A : Type 0} (b : Bool) (x y z : A) → cond b x y ≡ z → ((b ≡ true) × (x ≡ z)) ⊎ ((b ≡ false) × (y ≡ z))
chosen true x y z e = inl (refl, e)
chosen false x y z e = inr (refl, e)

-- a test whose other answer is none, and one whose answer is a cause
pub some_when : {A : Type 0} (b : Bool) (x y : A) → cond b (Some x) None ≡ Some y → (b ≡ true) × (x ≡ y)
some_when true x y e = (refl, cc)
some_when false x y e = absurd cc

pub ok_unless_err : {A C : Type 0} (b : Bool) (d : C) (r : Result A C) (y : A) → cond b (Err d) r ≡ Ok y → (b ≡ false) × (r ≡ Ok y)
ok_unless_err true d r y e = absurd cc
ok_unless_err false d r y e = (refl, e)

pub ok_when : {A C : Type 0} (b : Bool) (d : C) (r : Result A C) (y : A) → cond b r (Err d) ≡ Ok y → (b ≡ true) × (r ≡ Ok y)
ok_when true d r y e = (refl, e)
ok_when false d r y e = absurd cc

pub some_if : {A : Type 0} (b : Bool) (o : Option A) (y : A) → cond b o None ≡ Some y → (b ≡ true) × (o ≡ Some y)
some_if true o y e = (refl, e)
some_if false o y e = absurd cc
