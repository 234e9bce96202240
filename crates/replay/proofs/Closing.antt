-- The end of a run: all passes are closed, and the history follows the script.
use Rattle.std.proofs.Common.{◌≡◌, ℕ, zero, suc, ◌+◌, ◌-◌, ◌<◌, ◌≤◌, ◌==◌, Bool, true, false, IsTrue, List, [], ◌∷◌, ◌++◌, length, map, take, drop}
use Rattle.std.proofs.Common.{slice_get, Some, refl, sym, ◌∙◌, ap, subst, arith, inl, inr}
use Rattle.std.specs.List.{All, Contains, enumerate_from}
use Rattle.std.proofs.lemmas.Bool.{eq-eqb, eqb-true}
use Rattle.std.proofs.lemmas.List.{append-nil, length-map}
use Rattle.std.proofs.lemmas.List.Elements.{All-contains}
use Rattle.std.proofs.lemmas.Option.{get_or_from_slice_get, slice_get_within}
use Rattle.std.proofs.Math.Seq.{take-length}
use Rattle.atomic_table.specs.Seated.{TableId}
use Rattle.latch_model.specs.declared.history.Entry.{Entry}
use Rattle.latch_model.proofs.Lists.{Contains-from_In, In, In-filter, In-from_Contains, list_any-In}
use Rattle.latch_model.proofs.Members.{enumerate_of-In, filter_of-In, get_below, list_any_of}
use Rattle.script.specs.Follows.{AllMadeBy, Block, Follows, FollowsScript, blocks_of, commands_of, entries_of, in_blocks, is_of, is_session_of}
use Rattle.script.specs.Follows.{opens_in, passed_in, session_of}
use Rattle.script.specs.Scripts.{IsCommand, IsScript}
use Rattle.script.specs.declared.command.Command.{Command}
use Rattle.script.specs.declared.command.Command.TheVariants.{Begin, Wait, Check, Poison, Release, Metrics}
use Rattle.sequence_core.specs.Says.{AreFresh, DeskState, HasEachPass}
use Rattle.sequence_core.proofs.Passes.{has_each}
use Rattle.signal_board.specs.Rule.{ByGiven, IsPrefix, own}
use Rattle.signal_board.specs.Says.{PassSays}
use Rattle.replay.specs.Running.{FollowsIn, Fresh, Rested, lane_numbers, numbers_from, whos}
use Rattle.replay.proofs.Following.{follows-grown, same_session}

false-true : false ≡ true → ⊥
false-true e = cc

abbrev IsOpening : Command → Type 0
IsOpening (Begin session name mode policy turns latches) = Unit {0}
IsOpening (Wait name) = ⊥
IsOpening (Check name latches) = ⊥
IsOpening (Poison name) = ⊥
IsOpening (Release name) = ⊥
IsOpening Metrics = ⊥

-- ---- lists by their places

all-of : {X : Type 0} (P : X → Type 0) (xs : List X) → ((i : ℕ) (x : X) → slice_get xs i ≡ Some x → P x) → All P xs
all-of P xs h k d lt =
    let w = get_below xs k lt in
    subst P (sym (get_or_from_slice_get xs k w.0 d w.1)) (h k w.0 w.1)

at-of : {X : Type 0} (P : X → Type 0) (xs : List X) (i : ℕ) (x : X) → All P xs → slice_get xs i ≡ Some x → P x
at-of P xs i x all at = subst P (get_or_from_slice_get xs i x x at) (all i x (slice_get_within xs i x at))

some_is : {X : Type 0} (a b : X) → Some a ≡ Some b → a ≡ b
some_is a b g = cc

map-at : {X Y : Type 0} (f : X → Y) (xs : List X) (i : ℕ) (x : X) → slice_get xs i ≡ Some x → slice_get (map f xs) i ≡ Some (f x)
map-at f [] i x e = cc
map-at f (y ∷ ys) zero x e = ap Some (ap f (some_is y x e))
map-at f (y ∷ ys) (suc i) x e = map-at f ys i x e

-- a slice that was lent is what it was left as
drop_all : {X : Type 0} (xs : List X) → drop (length xs) xs ≡ []
drop_all [] = refl
drop_all (x ∷ xs) = drop_all xs

pub lent-whole : {X : Type 0} (len : ℕ) (new items : List X) → len ≡ length items → length new ≡ length items → take len (new ++ drop (length new) items) ≡ new
lent-whole len new items whole same =
    ap (λ (n : ℕ). take len (new ++ drop n items)) same
    ∙ (ap (λ xs. take len (new ++ xs)) (drop_all items)
    ∙ (ap (take len) (append-nil new) ∙ (ap (λ (n : ℕ). take n new) (whole ∙ sym same) ∙ take-length new)))

-- ---- the passes

pub all-fresh : (table : TableId) (n : ℕ) (passes : List PassSays) → AreFresh table n passes → All (Fresh table) passes
all-fresh table n passes f = all-of (Fresh table) passes (λ i p at. subst (Fresh table) (sym (f.each i p at)) (refl, refl, refl, omega arith))

same-length : (new old : List PassSays) → whos new ≡ whos old → length new ≡ length old
same-length new old e = sym (length-map new (λ (p : PassSays). p.p.who)) ∙ (ap length e ∙ length-map old (λ (p : PassSays). p.p.who))

pub lent-passes : (len : ℕ) (new items : List PassSays) → len ≡ length items → whos new ≡ whos items → take len (new ++ drop (length new) items) ≡ new
lent-passes len new items whole same = lent-whole len new items whole (same-length new items same)

-- the numbers of new passes are 1, 2, .. in their order
numbers-at : (n k i m : ℕ) → slice_get (numbers_from n k) i ≡ Some m → m ≡ n + i + 1
numbers-at n zero i m e = cc
numbers-at n (suc k) zero m e = let f : n + 1 ≡ m = some_is (n + 1) m e in omega arith
numbers-at n (suc k) (suc i) m e = let f : m ≡ (n + 1) + i + 1 = numbers-at (n + 1) k i m e in omega arith

numbers-length : (n k : ℕ) → length (numbers_from n k) ≡ k
numbers-length n zero = refl
numbers-length n (suc k) = ap suc (numbers-length (n + 1) k)

fresh-from : (table : TableId) (n : ℕ) (passes : List PassSays) → ((i : ℕ) (p : PassSays) → slice_get passes i ≡ Some p → p.p.who ≡ n + i + 1) →
    whos passes ≡ numbers_from n (length passes)
fresh-from table n [] each = refl
fresh-from table n (p ∷ ps) each =
    let zeroth : p.p.who ≡ n + 0 + 1 = each 0 p refl in
    let first : p.p.who ≡ n + 1 = omega arith in
    ap (λ (w : ℕ). w ∷ whos ps) first
    ∙ ap (λ (ws : List ℕ). (n + 1) ∷ ws) (fresh-from table (n + 1) ps (λ i q at. let f : q.p.who ≡ n + suc i + 1 = each (suc i) q at in omega arith))

pub fresh-whos : (table : TableId) (n : ℕ) (passes : List PassSays) → AreFresh table n passes → whos passes ≡ lane_numbers n
fresh-whos table n passes f =
    fresh-from table 0 passes (λ i p at. let e : p.p.who ≡ i + 1 = ap (λ (x : PassSays). x.p.who) (f.each i p at) in omega arith)
    ∙ ap (numbers_from 0) f.as_many

-- ---- the sessions of a script

-- without an opening of the session it has no block
none_opens : (ps : List (ℕ × Command)) → ((p : ℕ × Command) → In p ps → IsOpening p.1 → ⊥) → (in_blocks ps).1 ≡ []
none_opens [] no_one = refl
none_opens ((k, Begin session name mode policy turns latches) ∷ ps) no_one = absurd (no_one (k, Begin session name mode policy turns latches) (inl refl) tt)
none_opens ((k, Wait name) ∷ ps) no_one = none_opens ps (λ p i. no_one p (inr i))
none_opens ((k, Check name latches) ∷ ps) no_one = none_opens ps (λ p i. no_one p (inr i))
none_opens ((k, Poison name) ∷ ps) no_one = none_opens ps (λ p i. no_one p (inr i))
none_opens ((k, Release name) ∷ ps) no_one = none_opens ps (λ p i. no_one p (inr i))
none_opens ((k, Metrics) ∷ ps) no_one = none_opens ps (λ p i. no_one p (inr i))

opens_own : (cs : List Command) (w : ℕ) (c : Command) → is_of cs w c ≡ true → IsOpening c → opens_in w c ≡ true
opens_own cs w (Begin session name mode policy turns latches) own is = own
opens_own cs w (Wait name) own is = absurd is
opens_own cs w (Check name latches) own is = absurd is
opens_own cs w (Poison name) own is = absurd is
opens_own cs w (Release name) own is = absurd is
opens_own cs w Metrics own is = absurd is

no_blocks : (cs : List Command) (w : ℕ) → is_session_of cs w ≡ false → blocks_of cs w ≡ []
no_blocks cs w no_session =
    none_opens (commands_of cs w) (λ p i is.
    let own = filter_of-In (λ (q : ℕ × Command). is_of cs w q.1) (enumerate_from 2 cs) p i in
    false-true (sym no_session ∙ list_any-In (opens_in w) cs p.1 (enumerate_of-In 2 p.0 cs p.1 own.0) (opens_own cs w p.1 own.1 is)))

-- one with an entry is a session of the script
some_session : (cs : List Command) (w : ℕ) (passed : _) (es : List Entry) (e : Entry) → In e es → AllMadeBy passed (blocks_of cs w) es →
    is_session_of cs w ≡ true
some_session cs w passed es e i made = by (is_session_of cs w) refl
  where
    none : (xs : List Entry) → In e xs → AllMadeBy passed [] xs → ⊥
    none [] j m = j
    none (x ∷ xs) j m = m

    by : (x : Bool) → is_session_of cs w ≡ x → is_session_of cs w ≡ true
    by true is = is
    by false is = absurd (none es i (subst (λ (bs : List Block). AllMadeBy passed bs es) (no_blocks cs w is) made))

-- its number is in range
session_range : (cs : List Command) → IsScript cs → (w : ℕ) → is_session_of cs w ≡ true → (0 < w) × (w ≤ 64)
session_range cs s w is =
    let c = list_any_of (opens_in w) cs is in
    ranges c.0 (All-contains IsCommand cs c.0 s.commands (Contains-from_In cs c.0 c.1)) c.2
  where
    ranges : (c : Command) → IsCommand c → opens_in w c ≡ true → (0 < w) × (w ≤ 64)
    ranges (Begin session name mode policy turns latches) k e =
        let same : session ≡ w = eqb-true session w e in
        let low : 1 ≤ session = k.session_low in
        let high : session ≤ 64 = k.session_high in
        (omega arith, omega arith)
    ranges (Wait name) k e = cc
    ranges (Check name latches) k e = cc
    ranges (Poison name) k e = cc
    ranges (Release name) k e = cc
    ranges Metrics k e = cc

module _ (n : ℕ) (passes : List PassSays) (numbered : whos passes ≡ lane_numbers n) where
  count : length passes ≡ n
  count = sym (length-map passes (λ (p : PassSays). p.p.who)) ∙ (ap length numbered ∙ numbers-length 0 n)

  number : (i : ℕ) (p : PassSays) → slice_get passes i ≡ Some p → p.p.who ≡ i + 1
  number i p at =
      let e : p.p.who ≡ 0 + i + 1 =
      numbers-at 0 n i p.p.who (ap (λ (ws : List ℕ). slice_get ws i) (sym numbered) ∙ map-at (λ (q : PassSays). q.p.who) passes i p at) in
      omega arith

  pub each-pass : (d : DeskState) → d.given ≡ n → All (Rested d.core.signals) passes → HasEachPass d passes
  each-pass d given rested =
      has_each d passes (count ∙ sym given) (λ i p at.
      let r = at-of (Rested d.core.signals) passes i p rested at in
      record { same = r.0; number = number i p at; idle = r.1 })

  -- a pass of each number
  of-number : (w : ℕ) → 0 < w → w ≤ n → (p : PassSays) × (i : ℕ) × (slice_get passes i ≡ Some p) × (p.p.who ≡ w)
  of-number w low high =
      let c : length passes ≡ n = count in
      let g = get_below passes (w - 1) (omega arith) in
      let e : g.0.p.who ≡ (w - 1) + 1 = number (w - 1) g.0 g.1 in
      (g.0, w - 1, g.1, omega arith)

  -- ---- the history follows the script

  module _ (table : TableId) (log : List Entry) (cs : List Command) (script : IsScript cs) (rested : All (Rested table) passes)
      (follows : All (FollowsIn cs) passes) (own_is : (p : PassSays) → Contains passes p → p.p.mine ≡ own p.p.who log)
      (shown : (p : PassSays) → Contains passes p → IsPrefix p.p.shown log) (by_given : ByGiven log n) (range_fits : (w : ℕ) → w ≤ 64 → w ≤ n) where
    there : (i : ℕ) (p : PassSays) → slice_get passes i ≡ Some p → Contains passes p
    there i p at = (i, slice_get_within passes i p at, get_or_from_slice_get passes i p p at)

    follows-log : (w : ℕ) → 0 < w → w ≤ n → Follows log w cs
    follows-log w low high =
        let g = of-number w low high in
        let r = at-of (Rested table) passes g.1 g.0 rested g.2 in
        subst (λ (x : ℕ). Follows log x cs) g.3
        (follows-grown g.0.p.shown log g.0.p.who cs (shown g.0 (there g.1 g.0 g.2)) (sym r.2 ∙ own_is g.0 (there g.1 g.0 g.2))
        (at-of (FollowsIn cs) passes g.1 g.0 follows g.2))

    -- no entry is of another
    has_entry : (w : ℕ) (e : Entry) → In e log → session_of e ≡ w → In e (entries_of w log)
    has_entry w e i same = In-filter (λ (x : Entry). session_of x == w) log e i (eq-eqb (session_of e) w same)

    pub follows-script : FollowsScript log cs
    follows-script = record {
      each = λ w is. let range = session_range cs script w is in follows-log w range.0 (range_fits w range.1);
      no_others = all-of (λ e. IsTrue (is_session_of cs (session_of e))) log (λ i e at.
          let by = by_given i e at in
          let low : 0 < session_of e = subst (λ (x : ℕ). 0 < x) (same_session e) by.0 in
          let high : session_of e ≤ n = subst (λ (x : ℕ). x ≤ n) (same_session e) by.1 in
          some_session cs (session_of e) (passed_in log) (entries_of (session_of e) log) e
          (has_entry (session_of e) e (In-from_Contains log e (i, slice_get_within log i e at, get_or_from_slice_get log i e e at)) refl)
          (follows-log (session_of e) low high));
    }
