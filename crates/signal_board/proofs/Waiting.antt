-- For whom a request waits: after its begin, and while it polls.
use Rattle.std.proofs.Common.{◌≡◌, ℕ, ◌<◌, Bool, true, false, List, [], ◌∷◌, ◌++◌, length, slice_get, refl, sym, ap, ◌∙◌, subst, inl, inr, Option, Some, None}
use Rattle.std.specs.List.{Contains}
use Rattle.std.specs.Prelude.{IfSome, IfNone}
use Rattle.latch_model.specs.Histories.{Begin, before, entry_of}
use Rattle.latch_model.specs.Legal.{IsLegal}
use Rattle.latch_model.specs.declared.history.Cause.{Cause}
use Rattle.latch_model.specs.declared.history.Entry.{Entry}
use Rattle.latch_model.specs.declared.history.Sizes.{Sizes}
use Rattle.latch_model.proofs.Counting.{begin_is}
use Rattle.latch_model.proofs.Lists.{In, In-from_Contains}
use Rattle.signal_board.specs.Rule.{InLane, IsPrerequisite}
use Rattle.signal_board.specs.Says.{LaneSays, shown_to, told_cause, told_end}
use Rattle.signal_board.specs.Steps.{known, new_request}
use Rattle.signal_board.specs.Views.{RequestView}
use Rattle.signal_board.specs.Waits.{SameRequest, WaitsFor}
use Rattle.signal_board.proofs.Asking.{asks_same, new_before, new_prerequisite}
use Rattle.signal_board.proofs.Lists.{contains_here, contains_none}

-- a begin of a legal history stands in its lane
pub lane_there : (h : List Entry) (k : Sizes) → IsLegal h k → (q : ℕ) (b : Begin) → q < length h → slice_get h q ≡ Some (entry_of b) → InLane h b.id b.lane
lane_there h k legal q b lt at = (b, (begin_is h k (length h) (λ n e lt at. legal n e at) q b lt at).1, refl)

only_one : (n p : ℕ) → Contains (n ∷ []) p → p ≡ n
only_one n p there = by (In-from_Contains (n ∷ []) p there)
  where
    by : In p (n ∷ []) → p ≡ n
    by (inl same) = sym same
    by (inr none) = absurd none

-- A new request waits for the one that the model has before it, or for none.
pub waits_as : (log : List Entry) (b : Begin) (k : Sizes) (all : List Entry) → all ≡ log ++ entry_of b ∷ [] → IsLegal all k → (r : RequestView) →
    r ≡ shown_to all (new_request log (entry_of b)) → (w : Option (ℕ × ℕ)) →
    IfSome w (λ (x : ℕ × ℕ). (before all b.id ≡ x.0 ∷ []) × InLane all x.0 x.1) → IfNone w (before all b.id ≡ []) → WaitsFor r w
waits_as log b k all is legal r r_is None one none = λ p lane asks.
    let lawful = subst (λ (l : List Entry). IsLegal l k) is legal in
    let empty = subst (λ (l : List Entry). before l b.id ≡ []) is none in
    absurd (contains_none p (subst (λ (ids : List ℕ). Contains ids p) empty
    (new_before log all b k lawful p lane (subst (λ (q : RequestView). IsPrerequisite q p lane) r_is asks))))
waits_as log b k all is legal r r_is (Some w) one none =
    let lawful = subst (λ (l : List Entry). IsLegal l k) is legal in
    let alone = subst (λ (l : List Entry). (before l b.id ≡ w.0 ∷ []) × InLane l w.0 w.1) is one in
    subst (λ (q : RequestView). IsPrerequisite q w.0 w.1 × ((p lane : ℕ) → IsPrerequisite q p lane → p ≡ w.0)) (sym r_is) (
      new_prerequisite log all b k lawful w.0 w.1 (subst (λ (ids : List ℕ). Contains ids w.0) (sym alone.0) (contains_here [] w.0)) alone.1,
      λ p lane asks. only_one w.0 p (subst (λ (ids : List ℕ). Contains ids p) alone.0 (new_before log all b k lawful p lane asks)),
    )

-- Two views of one request wait for the same requests.
pub asks_as : (a b : LaneSays) → SameRequest a b → (p lane : ℕ) → IsPrerequisite a.r p lane → IsPrerequisite b.r p lane
asks_as a b same p lane asks = asks_same b.r a.r p lane same.2 (ap (λ x. x.request) same.1) asks

pub same_back : (a b : LaneSays) → SameRequest a b → SameRequest b a
same_back a b same = (sym same.0, sym same.1, sym same.2)

pub same_then : (a b c : LaneSays) → SameRequest a b → SameRequest b c → SameRequest a c
same_then a b c one two = (two.0 ∙ one.0, two.1 ∙ one.1, two.2 ∙ one.2)

pub same_told_end : (t : Bool) (i : ℕ) (a : LaneSays) → SameRequest a (record a { r = told_end t i a.r })
same_told_end true i a = (refl, refl, refl)
same_told_end false i a = (refl, refl, refl)

pub same_told_cause : (t : Bool) (i : ℕ) (a : LaneSays) → SameRequest a (record a { r = told_cause t i a.r })
same_told_cause true i a = (refl, refl, refl)
same_told_cause false i a = same_told_end (known i a.r.poisoned) i a

-- A cause doesn't change for whom a request waits.
pub waits_caused : (r : RequestView) (cause : Cause) (w : Option (ℕ × ℕ)) → WaitsFor r w → WaitsFor (record r { cause = cause }) w
waits_caused r cause None waits = waits
waits_caused r cause (Some w) waits = waits
