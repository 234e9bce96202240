-- What a seat learns of ends, and held latches of requests that are known ended.
use Rattle.std.proofs.Common.{◌≡◌, ◌∙◌, ℕ, zero, suc, Bool, true, false, List, [], ◌∷◌, ◌++◌, Some, refl, sym, ap, subst, inl, inr, arith}
use Rattle.std.proofs.lemmas.List.{append-nil, append_assoc}
use Rattle.std.proofs.lemmas.List.Elements.{Contains-append_cases, Contains-append_right}
use Rattle.std.specs.List.{Contains, slice_get}
use Rattle.latch_model.specs.Histories.{HeldLatch, has_ended, in_waiting_order, met_by}
use Rattle.latch_model.specs.declared.latch.Latch.{Latch}
use Rattle.latch_model.proofs.Lists.{Contains-from_In, In, In-flat_map, In-from_Contains}
use Rattle.signal_board.specs.Rule.{IsPrerequisite}
use Rattle.signal_board.specs.Says.{LaneSays, told_end}
use Rattle.signal_board.specs.Views.{RequestView}
use Rattle.row_pool.specs.SeatView.{SeatView}
use Rattle.latch_shots.specs.Met.{IsMet}
use Rattle.latch_shots.specs.declared.met.MetLatch.{MetLatch}
use Rattle.shot_walks.specs.Waits.{AllEnded, Learns, Passed, WaitsForEach, waits_for}

-- ---- what a seat learns
pub learns_nothing : (s : LaneSays) → Learns s s
learns_nothing s = (refl, λ p h. h)

-- one end, where a request is found done
pub learns_end : (b : Bool) (p : ℕ) (s t : LaneSays) → t ≡ record s { r = told_end b p s.r } → Learns s t
learns_end b p s t e = subst (Learns s) (sym e) (by b)
  where
    by : (b : Bool) → Learns s (record s { r = told_end b p s.r })
    by true = (refl, λ q h. Contains-append_right (p ∷ []) s.r.ended q h)
    by false = learns_nothing s

pub learns_both : (s t u : LaneSays) → Learns s t → Learns t u → Learns s u
learns_both s t u a b = (b.0 ∙ ap (λ (w : LaneSays). record w { r = record w.r { ended = u.r.ended } }) a.0, λ p h. b.1 p (a.1 p h))

-- what it waits for stays
pub waits_stay : (s t : LaneSays) → Learns s t → waits_for t.r ≡ waits_for s.r
waits_stay s t a = ap (λ (w : LaneSays). waits_for w.r) a.0

pub waits_still : (s t : LaneSays) (x : HeldLatch) → Learns s t → Contains (waits_for s.r) x → Contains (waits_for t.r) x
waits_still s t x a h = subst (λ (xs : List HeldLatch). Contains xs x) (sym (waits_stay s t a)) h

pub latches_stay : (s t : LaneSays) → Learns s t → t.r.request.latches ≡ s.r.request.latches
latches_stay s t a = ap (λ (w : LaneSays). w.r.request.latches) a.0

-- and so does what it has been shown
pub not_shown_still : (s t : LaneSays) (p q : ℕ) → Learns s t → p ≡ q → has_ended t.r.shown p ≡ false → has_ended s.r.shown q ≡ false
not_shown_still s t p q a same e = sym (λ i. has_ended (ap (λ (w : LaneSays). w.r.shown) a.0 i) (same i)) ∙ e

-- ---- held latches of requests that are known ended
pub ended_grow : (ended more : List ℕ) (xs : List HeldLatch) → ((p : ℕ) → Contains ended p → Contains more p) → AllEnded ended xs → AllEnded more xs
ended_grow ended more xs keeps all = λ x h. keeps x.by (all x h)

pub ended_none : (ended : List ℕ) → AllEnded ended []
ended_none ended = λ x h. absurd (let lt = h.1 in omega arith)

pub ended_one : (ended : List ℕ) (x : HeldLatch) → Contains ended x.by → AllEnded ended (x ∷ [])
ended_one ended x has = λ y h. by y (In-from_Contains (x ∷ []) y h)
  where
    by : (y : HeldLatch) → In y (x ∷ []) → Contains ended y.by
    by y (inl same) = subst (λ (z : HeldLatch). Contains ended z.by) same has
    by y (inr none) = absurd none

pub ended_both : (ended : List ℕ) (xs ys : List HeldLatch) → AllEnded ended xs → AllEnded ended ys → AllEnded ended (xs ++ ys)
ended_both ended xs ys a b = λ x h. elim (Contains-append_cases xs ys x h) [ inl l ↦ a x l | inr r ↦ b x r ]

-- ---- what was passed
pub passed_none : (ended : List ℕ) (all : List HeldLatch) → Passed ended all all
passed_none ended all = record { front = []; parted = refl; over = ended_none ended }

pub passed_whole : (ended : List ℕ) (all : List HeldLatch) → AllEnded ended all → Passed ended all []
passed_whole ended all e = record { front = all; parted = sym (append-nil all); over = e }

pub passed_all : (ended : List ℕ) (all : List HeldLatch) → Passed ended all [] → AllEnded ended all
passed_all ended all p = subst (AllEnded ended) (sym (p.parted ∙ append-nil p.front)) p.over

pub passed_grow : (ended more : List ℕ) (all ahead : List HeldLatch) → ((p : ℕ) → Contains ended p → Contains more p) → Passed ended all ahead
    → Passed more all ahead
passed_grow ended more all ahead keeps p =
    record { front = p.front; parted = p.parted; over = ended_grow ended more p.front keeps p.over }

-- more was passed, in front of what comes later
pub passed_within : (ended : List ℕ) (all todo ahead later : List HeldLatch) → Passed ended all (todo ++ later) → Passed ended todo ahead
    → Passed ended all (ahead ++ later)
passed_within ended all todo ahead later p q = record {
  front = p.front ++ q.front;
  parted = p.parted ∙ ap (λ zs. p.front ++ (zs ++ later)) q.parted ∙ regroup p.front q.front ahead later;
  over = ended_both ended p.front q.front p.over q.over;
}
  where
    regroup : (ps qs rs ts : List HeldLatch) → ps ++ ((qs ++ rs) ++ ts) ≡ (ps ++ qs) ++ (rs ++ ts)
    regroup ps qs rs ts = simp append_assoc

pub passed_next : (ended : List ℕ) (all : List HeldLatch) (x : HeldLatch) (rest : List HeldLatch) → Passed ended all (x ∷ rest) → Contains ended x.by
    → Passed ended all rest
passed_next ended all x rest p has = passed_within ended all (x ∷ []) [] rest p (passed_whole ended (x ∷ []) (ended_one ended x has))

-- what is ahead is of all
pub passed_ahead : (ended : List ℕ) (all ahead : List HeldLatch) (x : HeldLatch) → Passed ended all ahead → Contains ahead x → Contains all x
passed_ahead ended all ahead x p h = subst (λ (xs : List HeldLatch). Contains xs x) (sym p.parted) (Contains-append_right p.front ahead x h)

-- ---- for whom a request waits
pub waits_first : (r : RequestView) (todo : List HeldLatch) (x : HeldLatch) (rest : List HeldLatch) → WaitsForEach r todo → todo ≡ x ∷ rest
    → Contains (waits_for r) x
waits_first r todo x rest w e = w x (subst (λ (xs : List HeldLatch). Contains xs x) (sym e) (0, omega arith, refl))

pub waits_ahead : (r : RequestView) (ended : List ℕ) (todo ahead : List HeldLatch) → WaitsForEach r todo → Passed ended todo ahead → WaitsForEach r ahead
waits_ahead r ended todo ahead w p = λ y h. w y (passed_ahead ended todo ahead y p h)

pub prerequisite : (r : RequestView) (v : SeatView) (m : MetLatch) (x : HeldLatch) → IsMet v m x → Contains (waits_for r) x → IsPrerequisite r m.by m.lane
prerequisite r v m x met has = (x, has, sym met.whose, sym met.runs_in)

In-get : {X : Type 0} (xs : List X) (n : ℕ) (x : X) → slice_get xs n ≡ Some x → In x xs
In-get [] n x e = cc
In-get (y ∷ ys) zero x e = inl cc
In-get (y ∷ ys) (suc n) x e = inr (In-get ys n x e)

-- for what a latch of the waiting order meets
pub waits_at : (r : RequestView) (k : ℕ) (l : Latch) → slice_get (in_waiting_order r.request.latches) k ≡ Some l → WaitsForEach r (met_by r.shot l)
waits_at r k l at = λ x h. Contains-from_In (waits_for r) x
    (In-flat_map (met_by r.shot) (in_waiting_order r.request.latches) l x (In-get (in_waiting_order r.request.latches) k l at)
    (In-from_Contains (met_by r.shot l) x h))
