-- The blocks of a session grow with its commands: an opening adds a block, and another command goes into the last one.
use Rattle.std.proofs.Common.{◌≡◌, ℕ, zero, suc, ◌+◌, Bool, true, false, cond, List, [], ◌∷◌, ◌++◌, length, take, slice_get, Option, Some}
use Rattle.std.proofs.Common.{refl, ◌∙◌}
use Rattle.std.proofs.Common.{ap, arith}
use Rattle.std.specs.List.{enumerate_from, filter}
use Rattle.std.proofs.lemmas.List.Elements.{filter-append}
use Rattle.std.proofs.lemmas.List.{append-nil}
use Rattle.std.proofs.Math.Seq.{take-length}
use Rattle.latch_model.specs.declared.latch.Latch.{Latch}
use Rattle.latch_model.specs.declared.latch.Mode.{Mode}
use Rattle.latch_model.specs.declared.latch.Policy.{Policy}
use Rattle.latch_model.proofs.Members.{take_next}
use Rattle.script.specs.Follows.{Block, blocks_of, in_blocks, is_of, with_command}
use Rattle.script.specs.declared.command.Command.{Command}
use Rattle.script.specs.declared.command.Command.TheVariants.{Begin, Wait, Check, Poison, Release, Metrics}
use Rattle.replay.specs.Blocks.{blocks_until, commands_until, new_block, with_more}

-- A command on a name: neither an opening nor metrics.
abbrev pub IsOnName : Command → Type 0
IsOnName (Begin session name mode policy turns latches) = ⊥
IsOnName (Wait name) = Unit {0}
IsOnName (Check name latches) = Unit {0}
IsOnName (Poison name) = Unit {0}
IsOnName (Release name) = Unit {0}
IsOnName Metrics = ⊥

-- ---- one command more

enumerate_more : {X : Type 0} (n : ℕ) (xs : List X) (x : X) → enumerate_from n (xs ++ x ∷ []) ≡ enumerate_from n xs ++ (n + length xs, x) ∷ []
enumerate_more n [] x = let e : n ≡ n + 0 = omega arith in ap (λ (k : ℕ). (k, x) ∷ []) e
enumerate_more n (y ∷ ys) x =
    let e : (n + 1) + length ys ≡ n + length (y ∷ ys) = omega arith in
    ap (λ ps. (n, y) ∷ ps) (enumerate_more (n + 1) ys x ∙ ap (λ (k : ℕ). enumerate_from (n + 1) ys ++ (k, x) ∷ []) e)

taken : {X : Type 0} (xs : List X) (k : ℕ) (x : X) → slice_get xs k ≡ Some x → length (take k xs) ≡ k
taken [] zero x e = refl
taken [] (suc k) x e = cc
taken (y ∷ ys) zero x e = refl
taken (y ∷ ys) (suc k) x e = ap suc (taken ys k x e)

place_is : (cs : List Command) (i : ℕ) (c : Command) → slice_get cs i ≡ Some c → 2 + length (take i cs) ≡ i + 2
place_is cs i c at = omega (arith, taken cs i c at)

until_next : (cs : List Command) (w i : ℕ) (c : Command) → slice_get cs i ≡ Some c →
    commands_until cs w (i + 1) ≡ commands_until cs w i ++ cond (is_of cs w c) ((i + 2, c) ∷ []) []
until_next cs w i c at =
    ap (λ (xs : List Command). filter (λ (p : ℕ × Command). is_of cs w p.1) (enumerate_from 2 xs)) (take_next cs i c at)
    ∙ (ap (filter (λ (p : ℕ × Command). is_of cs w p.1)) (enumerate_more 2 (take i cs) c)
    ∙ (filter-append (λ (p : ℕ × Command). is_of cs w p.1) (enumerate_from 2 (take i cs)) ((2 + length (take i cs), c) ∷ [])
    ∙ ap (λ (k : ℕ). commands_until cs w i ++ cond (is_of cs w c) ((k, c) ∷ []) []) (place_is cs i c at)))

-- a command of another session changes nothing
pub until_other : (cs : List Command) (w i : ℕ) (c : Command) → slice_get cs i ≡ Some c → is_of cs w c ≡ false →
    blocks_until cs w (i + 1) ≡ blocks_until cs w i
until_other cs w i c at other =
    ap (λ (ps : List (ℕ × Command)). (in_blocks ps).1)
    (until_next cs w i c at
    ∙ (ap (λ (b : Bool). commands_until cs w i ++ cond b ((i + 2, c) ∷ []) []) other ∙ append-nil (commands_until cs w i)))

pub until_own : (cs : List Command) (w i : ℕ) (c : Command) → slice_get cs i ≡ Some c → is_of cs w c ≡ true →
    blocks_until cs w (i + 1) ≡ (in_blocks (commands_until cs w i ++ (i + 2, c) ∷ [])).1
until_own cs w i c at own =
    ap (λ (ps : List (ℕ × Command)). (in_blocks ps).1)
    (until_next cs w i c at ∙ ap (λ (b : Bool). commands_until cs w i ++ cond b ((i + 2, c) ∷ []) []) own)

-- at the end all commands have been run
pub until_all : (cs : List Command) (w : ℕ) → blocks_until cs w (length cs) ≡ blocks_of cs w
until_all cs w = ap (λ (xs : List Command). (in_blocks (filter (λ (p : ℕ × Command). is_of cs w p.1) (enumerate_from 2 xs))).1) (take-length cs)

-- ---- an opening

abbrev added : Block → List Command × List Block → List Command × List Block
added b r = (r.0, r.1 ++ b ∷ [])

opening_behind : (p : ℕ × Command) (b : Block) (r : List Command × List Block) → with_command p.0 p.1 (added b r) ≡ added b (with_command p.0 p.1 r)
opening_behind (n, Begin session name mode policy turns latches) b r = refl
opening_behind (n, Wait name) b r = refl
opening_behind (n, Check name latches) b r = refl
opening_behind (n, Poison name) b r = refl
opening_behind (n, Release name) b r = refl
opening_behind (n, Metrics) b r = refl

in_blocks_opening : (ps : List (ℕ × Command)) (n session : ℕ) (name : List ℕ) (mode : Mode) (policy : Policy) (turns : Option ℕ) (latches : List Latch) →
    in_blocks (ps ++ (n, Begin session name mode policy turns latches) ∷ []) ≡ added (new_block n mode policy turns latches) (in_blocks ps)
in_blocks_opening [] n session name mode policy turns latches = refl
in_blocks_opening (p ∷ ps) n session name mode policy turns latches =
    ap (with_command p.0 p.1) (in_blocks_opening ps n session name mode policy turns latches)
    ∙ opening_behind p (new_block n mode policy turns latches) (in_blocks ps)

pub opens_block : (ps : List (ℕ × Command)) (n session : ℕ) (name : List ℕ) (mode : Mode) (policy : Policy) (turns : Option ℕ) (latches : List Latch) →
    (in_blocks (ps ++ (n, Begin session name mode policy turns latches) ∷ [])).1 ≡ (in_blocks ps).1 ++ new_block n mode policy turns latches ∷ []
opens_block ps n session name mode policy turns latches =
    ap (λ (r : List Command × List Block). r.1) (in_blocks_opening ps n session name mode policy turns latches)

-- ---- a command on a name

abbrev last_more : Command → List Block → List Block
last_more c [] = []
last_more c (b ∷ []) = with_more b c ∷ []
last_more c (b ∷ d ∷ bs) = b ∷ last_more c (d ∷ bs)

last_more_is : (c : Command) (bs : List Block) (b : Block) → last_more c (bs ++ b ∷ []) ≡ bs ++ with_more b c ∷ []
last_more_is c [] b = refl
last_more_is c (d ∷ []) b = refl
last_more_is c (d ∷ e ∷ bs) b = ap (λ (xs : List Block). d ∷ xs) (last_more_is c (e ∷ bs) b)

abbrev grown : Command → List Command → List Block → List Command × List Block
grown c front [] = (front ++ c ∷ [], [])
grown c front (b ∷ bs) = (front, last_more c (b ∷ bs))

grown_behind : (p : ℕ × Command) (c : Command) (front : List Command) (bs : List Block) →
    with_command p.0 p.1 (grown c front bs) ≡ grown c (with_command p.0 p.1 (front, bs)).0 (with_command p.0 p.1 (front, bs)).1
grown_behind (n, Begin session name mode policy turns latches) c front [] = refl
grown_behind (n, Begin session name mode policy turns latches) c front (b ∷ bs) = refl
grown_behind (n, Wait name) c front [] = refl
grown_behind (n, Wait name) c front (b ∷ bs) = refl
grown_behind (n, Check name latches) c front [] = refl
grown_behind (n, Check name latches) c front (b ∷ bs) = refl
grown_behind (n, Poison name) c front [] = refl
grown_behind (n, Poison name) c front (b ∷ bs) = refl
grown_behind (n, Release name) c front [] = refl
grown_behind (n, Release name) c front (b ∷ bs) = refl
grown_behind (n, Metrics) c front [] = refl
grown_behind (n, Metrics) c front (b ∷ bs) = refl

alone : (n : ℕ) (c : Command) → IsOnName c → in_blocks ((n, c) ∷ []) ≡ grown c [] []
alone n (Begin session name mode policy turns latches) on = absurd on
alone n (Wait name) on = refl
alone n (Check name latches) on = refl
alone n (Poison name) on = refl
alone n (Release name) on = refl
alone n Metrics on = absurd on

in_blocks_grown : (ps : List (ℕ × Command)) (n : ℕ) (c : Command) → IsOnName c →
    in_blocks (ps ++ (n, c) ∷ []) ≡ grown c (in_blocks ps).0 (in_blocks ps).1
in_blocks_grown [] n c on = alone n c on
in_blocks_grown (p ∷ ps) n c on =
    ap (with_command p.0 p.1) (in_blocks_grown ps n c on) ∙ grown_behind p c (in_blocks ps).0 (in_blocks ps).1

some_blocks : (c : Command) (front : List Command) (bs : List Block) (b : Block) → (grown c front (bs ++ b ∷ [])).1 ≡ bs ++ with_more b c ∷ []
some_blocks c front [] b = refl
some_blocks c front (d ∷ bs) b = last_more_is c (d ∷ bs) b

pub grows_block : (ps : List (ℕ × Command)) (n : ℕ) (c : Command) (bs : List Block) (b : Block) → IsOnName c → (in_blocks ps).1 ≡ bs ++ b ∷ [] →
    (in_blocks (ps ++ (n, c) ∷ [])).1 ≡ bs ++ with_more b c ∷ []
grows_block ps n c bs b on last =
    ap (λ (r : List Command × List Block). r.1) (in_blocks_grown ps n c on)
    ∙ (ap (λ (xs : List Block). (grown c (in_blocks ps).0 xs).1) last ∙ some_blocks c (in_blocks ps).0 bs b)
