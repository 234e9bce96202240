-- One latch of the waiting order is looked at.
use Rattle.std.proofs.Common.{◌≡◌, ◌+◌, ℕ, false, List, [], ◌∷◌, ◌++◌, drop, Option, Some, None, refl, sym, subst}
use Rattle.std.proofs.lemmas.List.Elements.{Contains-append_left}
use Rattle.std.specs.List.{flat_map}
use Rattle.latch_model.specs.Histories.{HeldLatch, Snapshot, has_ended, in_waiting_order, met_by}
use Rattle.latch_model.specs.declared.latch.Latch.{Latch}
use Rattle.signal_board.specs.Says.{LaneSays}
use Rattle.signal_board.specs.Views.{RequestView}
use Rattle.latch_shots.specs.Met.{IsMet}
use Rattle.latch_shots.specs.Shots.{Content, ShowsSnapshot}
use Rattle.latch_shots.specs.Walks.{MeetsIn}
use Rattle.latch_shots.specs.declared.met.MetLatch.{MetLatch}
use Rattle.latch_shots.specs.declared.walk.Walk.{Walk}
use Rattle.shot_walks.specs.Places.{ComesTo, FindsOpen, Stands}
use Rattle.shot_walks.specs.Waits.{AllEnded, Learns, Passed, WaitsForEach, waits_for}
use Rattle.shot_walks.specs.declared.place.Place.{Place}
use Rattle.shot_walks.proofs.Orders.{IsNext, met_from}
use Rattle.shot_walks.proofs.Ends.{passed_ahead, passed_grow, passed_whole, passed_within}

-- Latch number k of the waiting order is looked at: its walk comes to these, and all in front of them is passed.
pub record LooksAt (c : Content) (w : Walk) (l : Latch) (r : RequestView) (k : ℕ) : Type 0 where
  pub todo : List HeldLatch
  pub meets : MeetsIn c w l todo
  pub passed : Passed r.ended (waits_for r) (todo ++ met_from r (k + 1))

-- by the walk that had begun, or by one that begins
pub looks-at : (c d : Content) (p : Place) (kept : Option Walk) (w : Walk) (l : Latch) (r : RequestView) → kept ≡ p.walk → IsNext r p.ask l
    → ((s : Snapshot) (ls : List Latch) (later : List HeldLatch) → ShowsSnapshot c s → ComesTo c kept s (l ∷ ls) later
    → (todo : List HeldLatch) × MeetsIn d w l todo × (later ≡ todo ++ flat_map (met_by s) ls))
    → Stands c p r None → LooksAt d w l r p.ask
looks-at c d p kept w l r is next begun h =
    let behind = drop (p.ask + 1) (in_waiting_order r.request.latches) in
    let comes = subst (λ (o : Option Walk). ComesTo c o r.shot (l ∷ behind) h.later) (sym is)
    (subst (λ (ls : List Latch). ComesTo c p.walk r.shot ls h.later) next h.comes) in
    let (todo, meets, parted) = begun r.shot behind h.later h.shows comes in
    record { todo = todo; meets = meets; passed = subst (Passed r.ended (waits_for r)) parted h.passed }

pub looks-waits : (d : Content) (w : Walk) (l : Latch) (r : RequestView) (k : ℕ) → (o : LooksAt d w l r k) → WaitsForEach r o.todo
looks-waits d w l r k o = λ x h.
    passed_ahead r.ended (waits_for r) (o.todo ++ met_from r (k + 1)) x o.passed (Contains-append_left o.todo (met_from r (k + 1)) x h)

-- ---- what is found
-- what holds of the request with the ends that it learnt holds of what it is then
with_ends : (c : Content) (p : Place) (s t : LaneSays) (last : Option HeldLatch) → Learns s t → Stands c p (record s.r { ended = t.r.ended }) last
    → Stands c p t.r last
with_ends c p s t last a h = subst (λ (w : LaneSays). Stands c p w.r last) (sym a.0) h

-- more of its walk was passed
passed_more : (d : Content) (w : Walk) (l : Latch) (s t : LaneSays) (k : ℕ) (ahead : List HeldLatch) → Learns s t → (o : LooksAt d w l s.r k)
    → Passed t.r.ended o.todo ahead → Passed t.r.ended (waits_for s.r) (ahead ++ met_from s.r (k + 1))
passed_more d w l s t k ahead a o p =
    passed_within t.r.ended (waits_for s.r) o.todo ahead (met_from s.r (k + 1))
    (passed_grow s.r.ended t.r.ended (waits_for s.r) (o.todo ++ met_from s.r (k + 1)) a.1 o.passed) p

-- all of it: it goes on with the next latch
pub looked-past : (c d e : Content) (p : Place) (w : Walk) (left : Option Walk) (l : Latch) (s t : LaneSays) → Learns s t → e ≡ c → left ≡ None
    → Stands c p s.r None → (o : LooksAt d w l s.r p.ask) → AllEnded t.r.ended o.todo → Stands e (record { ask = p.ask + 1; walk = left; met = p.met }) t.r None
looked-past c d e p w left l s t a same none h o over =
    subst (λ (z : Content). Stands z next t.r None) (sym same) (with_ends c next s t None a (record {
      shows = h.shows;
      at = h.at;
      later = met_from s.r (p.ask + 1);
      comes = subst (λ (u : Option Walk). ComesTo c u s.r.shot (drop (p.ask + 1) (in_waiting_order s.r.request.latches)) (met_from s.r (p.ask + 1))) (sym none)
          refl;
      passed = passed_more d w l s t p.ask [] a o (passed_whole t.r.ended o.todo over);
    }))
  where
    next : Place
    next = record { ask = p.ask + 1; walk = left; met = p.met }

-- a held latch whose request hasn't ended: it stands there
pub looked-open : (c d e : Content) (p q : Place) (w u : Walk) (l : Latch) (m : MetLatch) (x : HeldLatch) (rest : List HeldLatch) (s t : LaneSays)
    → Learns s t → e ≡ c → q ≡ record { ask = p.ask; walk = Some u; met = Some m } → IsNext s.r p.ask l → Stands c p s.r None → (o : LooksAt d w l s.r p.ask)
    → Passed t.r.ended o.todo (x ∷ rest) → IsMet e.view m x → has_ended s.r.shown x.by ≡ false → MeetsIn e u l rest → FindsOpen e q s.r t.r x
looked-open c d e p q w u l m x rest s t a same is next h o passed met unended meets = (
  record { rest = rest ++ met_from s.r (p.ask + 1); passed = more; not_shown = unended },
  subst (λ (z : Place). Stands e z t.r (Some x)) (sym is)
      (with_ends e (record { ask = p.ask; walk = Some u; met = Some m }) s t (Some x) a (record {
        shows = subst (λ (z : Content). ShowsSnapshot z s.r.shot) (sym same) h.shows;
        at = met;
        later = rest ++ met_from s.r (p.ask + 1);
        comes = subst (λ (ls : List Latch). ComesTo e (Some u) s.r.shot ls (rest ++ met_from s.r (p.ask + 1))) (sym next) (rest, meets, refl);
        passed = more;
      })),
)
  where
    more : Passed t.r.ended (waits_for s.r) ((x ∷ rest) ++ met_from s.r (p.ask + 1))
    more = passed_more d w l s t p.ask (x ∷ rest) a o passed
