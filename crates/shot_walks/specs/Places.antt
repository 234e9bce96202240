-- How far a request has come in what it waits for, and what it finds when it goes on.
use Rattle.std.specs.Prelude.{◌≡◌, List, [], ◌∷◌, ◌++◌, drop, Option, Some, None, IfSome}
use Rattle.std.specs.List.{Contains, cons_option, flat_map}
use Rattle.latch_model.specs.Histories.{HeldLatch, Snapshot, in_waiting_order, met_by}
use Rattle.latch_model.specs.declared.latch.Latch.{Latch}
use Rattle.row_pool.specs.SeatView.{SeatView}
use Rattle.signal_board.specs.Says.{LaneSays}
use Rattle.signal_board.specs.Views.{RequestView}
use Rattle.latch_shots.specs.Met.{IsMet}
use Rattle.latch_shots.specs.Shots.{Content, ShowsSnapshot}
use Rattle.latch_shots.specs.Walks.{MeetsIn}
use Rattle.latch_shots.specs.declared.met.MetLatch.{MetLatch}
use Rattle.latch_shots.specs.declared.walk.Walk.{Walk}
use Rattle.shot_walks.specs.Waits.{AllEnded, FirstOpen, Passed, waits_for}
use Rattle.shot_walks.specs.declared.place.Next.{Next}
use Rattle.shot_walks.specs.declared.place.Next.TheVariants as next
use Rattle.shot_walks.specs.declared.place.Place.{Place}

-- What is kept of the held latch at which a request stands. There is none before anything was met, and once all has ended.
abbrev pub IsAt : SeatView → Option MetLatch → Option HeldLatch → Type 0
IsAt v None None = Unit {0}
IsAt v None (Some x) = ⊥
IsAt v (Some m) None = ⊥
IsAt v (Some m) (Some x) = IsMet v m x

-- What these latches still come to: where the walk of the first has begun, what that still comes to and what the others meet, and else what they all meet.
abbrev pub ComesTo : Content → Option Walk → Snapshot → List Latch → List HeldLatch → Type 0
ComesTo c None s ls later = later ≡ flat_map (met_by s) ls
ComesTo c (Some w) s [] later = ⊥
ComesTo c (Some w) s (l ∷ ls) later = (todo : List HeldLatch) × MeetsIn c w l todo × (later ≡ todo ++ flat_map (met_by s) ls)

-- A request has come so far in these shots, which show its snapshot: it stands at this held latch, or at none, and behind that it goes on. What it passed is
-- known ended.
pub record Stands (c : Content) (p : Place) (r : RequestView) (last : Option HeldLatch) : Type 0 where
  pub shows : ShowsSnapshot c r.shot
  pub at : IsAt c.view p.met last
  pub later : List HeldLatch
  pub comes : ComesTo c p.walk r.shot (drop p.ask (in_waiting_order r.request.latches)) later
  pub passed : Passed r.ended (waits_for r) (cons_option last later)

-- All that the request waits for is known ended.
abbrev pub FindsNone : Content → Place → RequestView → RequestView → Type 0
FindsNone c p old new = AllEnded new.ended (waits_for old) × Stands c p new None

-- The request stands at the first held latch whose request hasn't ended.
abbrev pub FindsOpen : Content → Place → RequestView → RequestView → HeldLatch → Type 0
FindsOpen c p old new x = FirstOpen old new x × Stands c p new (Some x)

-- What a request that stood at `last` finds when it goes on. Where it still stands there, it has learnt nothing; else that one is known ended.
abbrev pub Finds : Content → Place → LaneSays → LaneSays → Option HeldLatch → Next → Type 0
Finds c p old new last next.AllEnded = FindsNone c p old.r new.r
Finds c p old new last next.Still = (new ≡ old) × ((x : HeldLatch) × (last ≡ Some x) × FindsOpen c p old.r new.r x)
Finds c p old new last (next.Open m) =
    IfSome last (λ y. Contains new.r.ended y.by) × ((x : HeldLatch) × IsMet c.view m x × FindsOpen c p old.r new.r x)
