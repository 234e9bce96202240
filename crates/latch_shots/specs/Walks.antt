-- What the walk over what a latch meets still has to come to.
use Rattle.std.specs.Prelude.{◌≡◌, ℕ, ◌+◌, List, [], ◌++◌}
use Rattle.std.specs.List.{filter}
use Rattle.span_key.specs.Scopes.{scope_of}
use Rattle.span_key.specs.Spans.{Pair}
use Rattle.latch_model.specs.Histories.{HeldLatch}
use Rattle.latch_model.specs.declared.latch.Access.{Access}
use Rattle.latch_model.specs.declared.latch.Access.TheVariants.{Read, Write}
use Rattle.latch_model.specs.declared.latch.Latch.{Latch}
use Rattle.row_pool.specs.SeatView.{SeatView}
use Rattle.row_pool.specs.Trees.{Tree}
use Rattle.latch_item.specs.Shape.{Refers}
use Rattle.overlap_iter.specs.Overlaps.{found}
use Rattle.overlap_iter.specs.Walks.{HasRoot, Walks, steps_left}
use Rattle.overlap_iter.specs.declared.cursor.Cursor.{Cursor}
use Rattle.latch_shots.specs.Held.{held_in}
use Rattle.latch_shots.specs.Met.{counts}
use Rattle.latch_shots.specs.Shots.{Content, content_of, shot_of}
use Rattle.latch_shots.specs.declared.shots.Shots.{Shots}
use Rattle.latch_shots.specs.declared.walk.Walk.{Walk}

-- of the latches that items say, those of others than a request whose stamps get in the way of a latch
abbrev pub meeting : ℕ → Latch → Access → List Tree → List HeldLatch
meeting own l access xs = filter (counts own l) (held_in access xs)

-- The cursor still comes to these items of a tree that the seat reaches.
pub record Among (v : SeatView) (c : Cursor) (span : Pair) (xs : List Tree) : Type 0 where
  pub root : Tree
  pub work : ℕ
  pub reached : HasRoot v root
  pub walks : Walks span root c xs work

-- These are the reads that a latch meets.
abbrev pub MeetsReads : Content → Latch → List HeldLatch → Type 0
MeetsReads c l later = (xs : List Tree) × Refers c.view (shot_of c (scope_of l.span) Read) xs × (later ≡ meeting c.own l Read (found l.span xs))

-- What comes behind those of one access: behind the writes the reads, where the latch writes, and else nothing.
abbrev pub MeetsBehind : Access → Access → Content → Latch → List HeldLatch → Type 0
MeetsBehind Read own c l later = later ≡ []
MeetsBehind Write Read c l later = later ≡ []
MeetsBehind Write Write c l later = MeetsReads c l later

-- The walk still comes to the held latches `todo`, in this order.
pub record MeetsIn (c : Content) (w : Walk) (l : Latch) (todo : List HeldLatch) : Type 0 where
  pub items : List Tree
  pub among : Among c.view w.cursor l.span items
  pub later : List HeldLatch
  pub behind : MeetsBehind w.access l.access c l later
  pub todo_is : todo ≡ meeting c.own l w.access items ++ later

abbrev pub Meets : Shots → Walk → Latch → List HeldLatch → Type 0
Meets shots w l todo = MeetsIn (content_of shots) w l todo

-- A bound on the steps that are left, so that a loop over the answers is seen to end: no cursor has more than 74,115, and one through the reads may follow.
abbrev pub steps_behind : Access → ℕ
steps_behind Read = 0
steps_behind Write = 74116

abbrev pub walk_steps_left : Walk → ℕ
walk_steps_left w = steps_left w.cursor + steps_behind w.access
