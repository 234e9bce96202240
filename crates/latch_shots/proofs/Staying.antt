-- What is said of shots and of walks stays while they are searched.
use Rattle.std.proofs.Common.{◌≡◌, List, sym, ap, ◌∙◌, subst}
use Rattle.atomic_table.specs.Seated.{TableId}
use Rattle.latch_model.specs.Histories.{HeldLatch, Snapshot}
use Rattle.latch_model.specs.declared.latch.Latch.{Latch}
use Rattle.row_pool.specs.SeatView.{SeatView}
use Rattle.latch_shots.specs.Met.{IsMet}
use Rattle.latch_shots.specs.Shots.{AreShots, Content, ShowsSnapshot, content_of, view_of}
use Rattle.latch_shots.specs.Walks.{Meets, MeetsIn}
use Rattle.latch_shots.specs.declared.met.MetLatch.{MetLatch}
use Rattle.latch_shots.specs.declared.shots.Shots.{Shots}
use Rattle.latch_shots.specs.declared.walk.Walk.{Walk}

-- the shots are as they were, but for the links that were followed
pub content-stays : (c : Content) (t : TableId) (v : SeatView) → t ≡ c.table → v ≡ c.view → record c { table = t; view = v } ≡ c
content-stays c t v p q = ap (λ t. record c { table = t; view = v }) p ∙ ap (λ v. record c { view = v }) q

-- then they show the snapshot that they showed, a walk still comes to what it came to, and a latch that was met is still met
pub AreShots-stays : (a b : Shots) (s : Snapshot) → content_of b ≡ content_of a → AreShots a s → AreShots b s
AreShots-stays a b s same h = subst (λ c. ShowsSnapshot c s) (sym same) h

pub Meets-stays : (a b : Shots) (w : Walk) (l : Latch) (todo : List HeldLatch) → content_of b ≡ content_of a → Meets a w l todo → Meets b w l todo
Meets-stays a b w l todo same h = subst (λ c. MeetsIn c w l todo) (sym same) h

pub IsMet-stays : (a b : Shots) (m : MetLatch) (x : HeldLatch) → content_of b ≡ content_of a → IsMet (view_of a) m x → IsMet (view_of b) m x
IsMet-stays a b m x same h = subst (λ (c : Content). IsMet c.view m x) (sym same) h
