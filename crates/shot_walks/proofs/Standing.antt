-- Where a request stands in what it waits for.
use Rattle.std.proofs.Common.{◌≡◌, ◌∙◌, ℕ, false, List, [], ◌∷◌, ◌++◌, drop, Option, Some, None, refl, sym, ap, arith, subst}
use Rattle.std.specs.List.{Contains, cons_option}
use Rattle.latch_model.specs.Declaration.{Declaration}
use Rattle.latch_model.specs.Histories.{HeldLatch, Snapshot, has_ended, in_waiting_order, met_in}
use Rattle.signal_board.specs.Says.{LaneSays}
use Rattle.signal_board.specs.Views.{RequestView}
use Rattle.row_pool.specs.SeatView.{SeatView}
use Rattle.latch_shots.specs.Met.{IsMet}
use Rattle.latch_shots.specs.Shots.{Content, ShowsSnapshot}
use Rattle.latch_shots.specs.declared.met.MetLatch.{MetLatch}
use Rattle.shot_walks.specs.Places.{ComesTo, FindsOpen, IsAt, Stands}
use Rattle.shot_walks.specs.Waits.{AllEnded, Learns, Passed, waits_for}
use Rattle.shot_walks.specs.declared.place.Place.{Place}
use Rattle.shot_walks.proofs.Ends.{ended_none, not_shown_still, passed_ahead, passed_grow, passed_next, passed_whole, waits_stay}
use Rattle.shot_walks.proofs.Orders.{met_before, met_from, met_parts}

-- A request stands where it stood when it learns of more ends, and whatever else changes of it but its latches and its snapshot.
pub stands-stays : (c : Content) (p : Place) (r t : RequestView) (last : Option HeldLatch) → t.request ≡ r.request → t.shot ≡ r.shot
    → ((q : ℕ) → Contains r.ended q → Contains t.ended q) → Stands c p r last → Stands c p t last
stands-stays c p r t last request shot keeps h = record {
  shows = subst (ShowsSnapshot c) (sym shot) h.shows;
  at = h.at;
  later = h.later;
  comes = subst (λ (z : Declaration × Snapshot). ComesTo c p.walk z.1 (drop p.ask (in_waiting_order z.0.latches)) h.later) both h.comes;
  passed = passed_grow r.ended t.ended (waits_for t) (cons_option last h.later) keeps
      (subst (λ (z : Declaration × Snapshot). Passed r.ended (met_in z.1 z.0.latches) (cons_option last h.later)) both h.passed);
}
  where
    both : ◌≡◌ {A = Declaration × Snapshot} (r.request, r.shot) (t.request, t.shot)
    both = λ i. (sym request i, sym shot i)

pub stands-learnt : (c : Content) (p : Place) (s t : LaneSays) (last : Option HeldLatch) → Learns s t → Stands c p s.r last → Stands c p t.r last
stands-learnt c p s t last a =
    stands-stays c p s.r t.r last (ap (λ (w : LaneSays). w.r.request) a.0) (ap (λ (w : LaneSays). w.r.shot) a.0) a.1

-- It stands there in the shots, whatever links are followed in them.
pub stands-in : (c d : Content) (p : Place) (r : RequestView) (last : Option HeldLatch) → d ≡ c → Stands c p r last → Stands d p r last
stands-in c d p r last same h = subst (λ (z : Content). Stands z p r last) (sym same) h

-- ---- behind all that it waits for
-- A request that waits for nothing stands there, whatever the number of the latch with which it goes on.
pub stands-end : (c : Content) (k : ℕ) (r : RequestView) → ShowsSnapshot c r.shot → waits_for r ≡ []
    → Stands c (record { ask = k; walk = None; met = None }) r None
stands-end c k r shows none = record {
  shows = shows;
  at = tt;
  later = [];
  comes = sym (behind_none (met_before r k) (met_from r k) (sym (met_parts r k) ∙ none));
  passed = passed_whole r.ended (waits_for r) (subst (AllEnded r.ended) (sym none) (ended_none r.ended));
}
  where
    behind_none : (xs ys : List HeldLatch) → xs ++ ys ≡ [] → ys ≡ []
    behind_none [] ys e = e
    behind_none (x ∷ xs) ys e = cc

-- ---- the held latch at which it stands
pub at_some : (v : SeatView) (kept : Option MetLatch) (m : MetLatch) (last : Option HeldLatch) → kept ≡ Some m → IsAt v kept last
    → (x : HeldLatch) × (last ≡ Some x) × IsMet v m x
at_some v kept m last is h = by last (subst (λ (o : Option MetLatch). IsAt v o last) is h)
  where
    by : (last : Option HeldLatch) → IsAt v (Some m) last → (x : HeldLatch) × (last ≡ Some x) × IsMet v m x
    by None h = absurd h
    by (Some x) h = (x, refl, h)

pub stands-waits : (c : Content) (p : Place) (r : RequestView) (x : HeldLatch) → Stands c p r (Some x) → Contains (waits_for r) x
stands-waits c p r x h = passed_ahead r.ended (waits_for r) (x ∷ h.later) x h.passed (0, omega arith, refl)

-- it is found open
pub still_open : (c : Content) (p q : Place) (s t : LaneSays) (x : HeldLatch) → q ≡ p → t ≡ s → Stands c p s.r (Some x) → has_ended s.r.shown x.by ≡ false
    → FindsOpen c q s.r t.r x
still_open c p q s t x same learnt h e =
    subst (λ (z : Place × LaneSays). FindsOpen c z.0 s.r z.1.r x) both (record { rest = h.later; passed = h.passed; not_shown = e }, h)
  where
    both : ◌≡◌ {A = Place × LaneSays} (p, s) (q, t)
    both = λ i. (sym same i, sym learnt i)

-- or known ended, and passed
pub stands-past : (c : Content) (p q : Place) (r : RequestView) (x : HeldLatch) → q ≡ record p { met = None } → Stands c p r (Some x) → Contains r.ended x.by
    → Stands c q r None
stands-past c p q r x is h has = subst (λ (z : Place). Stands c z r None) (sym is) (record {
  shows = h.shows;
  at = tt;
  later = h.later;
  comes = h.comes;
  passed = passed_next r.ended (waits_for r) x h.later h.passed has;
})

-- ---- what is found after more was learnt
pub finds-open-after : (c : Content) (p : Place) (s t : LaneSays) (new : RequestView) (x : HeldLatch) → Learns s t → FindsOpen c p t.r new x
    → FindsOpen c p s.r new x
finds-open-after c p s t new x a f = (
  record {
    rest = f.0.rest;
    passed = subst (λ xs. Passed new.ended xs (x ∷ f.0.rest)) (waits_stay s t a) f.0.passed;
    not_shown = not_shown_still s t x.by x.by a refl f.0.not_shown;
  },
  f.1,
)
