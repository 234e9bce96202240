-- The last held latch whose request hasn't ended.
use Rattle.std.proofs.Common.{◌≡◌, ◌+◌, ◌∙◌, ℕ, false, List, [], ◌∷◌, ◌++◌, Option, Some, None, refl, sym, ap, subst, arith}
use Rattle.std.proofs.lemmas.List.{append_assoc}
use Rattle.std.proofs.lemmas.List.Elements.{Contains-append_right}
use Rattle.std.specs.List.{Contains, flat_map}
use Rattle.std.specs.Prelude.{IfSome}
use Rattle.latch_model.specs.Histories.{HeldLatch, has_ended, met_by}
use Rattle.latch_model.specs.declared.latch.Latch.{Latch}
use Rattle.signal_board.specs.Says.{LaneSays}
use Rattle.signal_board.specs.Views.{RequestView}
use Rattle.shot_walks.specs.Waits.{AllEnded, IsLastOpen, IsWaitedFor, Learns, waits_for}
use Rattle.shot_walks.proofs.Ends.{ended_both, ended_grow, ended_none, not_shown_still, waits_stay}
use Rattle.shot_walks.proofs.Orders.{IsNext, met_before, met_from, met_parts}

-- ---- along a walk
-- more is known
pub last_grow : (old now new : RequestView) (xs : List HeldLatch) (last : Option ℕ) → ((p : ℕ) → Contains now.ended p → Contains new.ended p)
    → IsLastOpen old now xs last → IsLastOpen old new xs last
last_grow old now new xs None keeps h = ended_grow now.ended new.ended xs keeps h
last_grow old now new xs (Some by) keeps (x, h, whose) = (
  x,
  record { front = h.front; rest = h.rest; parted = h.parted; over = ended_grow now.ended new.ended h.rest keeps h.over; not_shown = h.not_shown },
  whose,
)

-- one more is found open
pub last_open : (old new : RequestView) (xs : List HeldLatch) (x : HeldLatch) (by : ℕ) → by ≡ x.by → has_ended old.shown x.by ≡ false
    → IsLastOpen old new (xs ++ x ∷ []) (Some by)
last_open old new xs x by whose unended =
    (x, record { front = xs; rest = []; parted = refl; over = ended_none new.ended; not_shown = unended }, sym whose)

-- some that are found ended are behind
pub last_behind : (old new : RequestView) (xs ys : List HeldLatch) (last : Option ℕ) → AllEnded new.ended ys → IsLastOpen old new xs last
    → IsLastOpen old new (xs ++ ys) last
last_behind old new xs ys None over h = ended_both new.ended xs ys h over
last_behind old new xs ys (Some by) over (x, h, whose) = (
  x,
  record {
    front = h.front;
    rest = h.rest ++ ys;
    parted = ap (λ zs. zs ++ ys) h.parted ∙ append_assoc h.front (x ∷ h.rest) ys;
    over = ended_both new.ended h.rest ys h.over over;
    not_shown = h.not_shown;
  },
  whose,
)

-- and some are in front of one that is open
pub last_in_front : (old new : RequestView) (xs ys : List HeldLatch) (by : ℕ) → IsLastOpen old new ys (Some by) → IsLastOpen old new (xs ++ ys) (Some by)
last_in_front old new xs ys by (x, h, whose) = (
  x,
  record {
    front = xs ++ h.front;
    rest = h.rest;
    parted = ap (λ zs. xs ++ zs) h.parted ∙ sym (append_assoc xs h.front (x ∷ h.rest));
    over = h.over;
    not_shown = h.not_shown;
  },
  whose,
)

-- what a walk comes to next, and then the rest
pub met_there : (all front todo : List HeldLatch) (x : HeldLatch) (rest : List HeldLatch) → all ≡ front ++ todo → todo ≡ x ∷ rest → Contains all x
met_there all front todo x rest parted e =
    subst (λ (xs : List HeldLatch). Contains xs x) (sym (parted ∙ ap (λ xs. front ++ xs) e))
    (Contains-append_right front (x ∷ rest) x (0, omega arith, refl))

pub met_next : (all front todo : List HeldLatch) (x : HeldLatch) (rest : List HeldLatch) → all ≡ front ++ todo → todo ≡ x ∷ rest
    → all ≡ (front ++ x ∷ []) ++ rest
met_next all front todo x rest parted e = parted ∙ ap (λ xs. front ++ xs) e ∙ sym (append_assoc front (x ∷ []) rest)

-- what it knew when it had learnt some ends counts for what it knew before
pub last_after : (s t : LaneSays) (new : RequestView) (xs : List HeldLatch) (last : Option ℕ) → Learns s t → IsLastOpen t.r new xs last
    → IsLastOpen s.r new xs last
last_after s t new xs None a h = h
last_after s t new xs (Some by) a (x, h, whose) = (
  x,
  record {
    front = h.front;
    rest = h.rest;
    parted = h.parted;
    over = h.over;
    not_shown = not_shown_still s t x.by x.by a refl h.not_shown;
  },
  whose,
)

pub last_waits : (old new : RequestView) (last : Option ℕ) → IsLastOpen old new (waits_for old) last → IfSome last (IsWaitedFor old)
last_waits old new None h = tt
last_waits old new (Some by) (x, h, whose) = (x, met_there (waits_for old) h.front (x ∷ h.rest) x h.rest h.parted refl, whose)

-- ---- along the waiting order, from its end
-- one more latch meets nothing that is open
pub all_from : (t u : LaneSays) (k : ℕ) (l : Latch) → Learns t u → IsNext t.r k l → AllEnded u.r.ended (met_by t.r.shot l)
    → AllEnded t.r.ended (met_from t.r (k + 1)) → AllEnded u.r.ended (met_from u.r k)
all_from t u k l a next here behind =
    subst (AllEnded u.r.ended) (ap (flat_map (met_by t.r.shot)) (sym next) ∙ ap (λ (w : LaneSays). met_from w.r k) (sym a.0))
    (ended_both u.r.ended (met_by t.r.shot l) (met_from t.r (k + 1)) here (ended_grow t.r.ended u.r.ended (met_from t.r (k + 1)) a.1 behind))

-- one more latch meets one that is open
pub last_from : (s t u : LaneSays) (k : ℕ) (l : Latch) (by : ℕ) → Learns s t → Learns t u → IsNext t.r k l
    → IsLastOpen t.r u.r (met_by t.r.shot l) (Some by) → AllEnded t.r.ended (met_from t.r (k + 1)) → IsLastOpen s.r u.r (waits_for s.r) (Some by)
last_from s t u k l by a b next here behind =
    last_after s t u.r (waits_for s.r) (Some by) a
    (subst (λ (xs : List HeldLatch). IsLastOpen t.r u.r xs (Some by)) (sym whole)
    (last_in_front t.r u.r (met_before t.r k) (met_by t.r.shot l ++ met_from t.r (k + 1)) by
    (last_behind t.r u.r (met_by t.r.shot l) (met_from t.r (k + 1)) (Some by) (ended_grow t.r.ended u.r.ended (met_from t.r (k + 1)) b.1 behind) here)))
  where
    whole : waits_for s.r ≡ met_before t.r k ++ (met_by t.r.shot l ++ met_from t.r (k + 1))
    whole = sym (waits_stay s t a) ∙ met_parts t.r k ∙ ap (λ ls. met_before t.r k ++ flat_map (met_by t.r.shot) ls) next
