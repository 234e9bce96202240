-- The walk over what a latch meets, step by step.
use Rattle.std.proofs.Common.{◌≡◌, ℕ, true, false, cond, List, [], ◌∷◌, ◌++◌, append-nil, refl, sym, ap, ◌∙◌, subst}
use Rattle.std.specs.Prelude.{MatchOption, None, Option, Some}
use Rattle.span_key.specs.Scopes.{scope_of}
use Rattle.span_key.specs.Spans.{Pair}
use Rattle.latch_model.specs.Histories.{HeldLatch, Snapshot, met_by}
use Rattle.latch_model.specs.declared.latch.Access.{Access}
use Rattle.latch_model.specs.declared.latch.Access.TheVariants.{Read, Write}
use Rattle.latch_model.specs.declared.latch.Latch.{Latch}
use Rattle.row_pool.specs.SeatView.{SeatView}
use Rattle.row_pool.specs.Trees.{Tree}
use Rattle.row_pool.specs.Views.{ViewInvariant}
use Rattle.latch_item.specs.Items.{HasItem, item_of}
use Rattle.latch_item.specs.Shape.{Refers}
use Rattle.latch_item.specs.declared.shot.Shot.{Shot}
use Rattle.overlap_iter.proofs.Frames.{has-item, root-stays}
use Rattle.overlap_iter.proofs.WholeWalks.{shot-root}
use Rattle.overlap_iter.specs.Overlaps.{found}
use Rattle.overlap_iter.specs.Walks.{Came, WalksWithin, root_of}
use Rattle.overlap_iter.specs.declared.cursor.Cursor.{Cursor}
use Rattle.latch_shots.specs.Held.{held_as}
use Rattle.latch_shots.specs.Met.{IsMet, counts}
use Rattle.latch_shots.specs.Shots.{Content, ShowsSnapshot, shot_of}
use Rattle.latch_shots.specs.Walks.{Among, MeetsBehind, MeetsIn, MeetsReads, meeting}
use Rattle.latch_shots.specs.declared.met.MetLatch.{MetLatch}
use Rattle.latch_shots.specs.declared.walk.Walk.{Walk}
use Rattle.latch_shots.proofs.Meeting.{listed, met-parts}

-- a walk that begins in a shot
pub among-first : (v w : SeatView) (shot : Shot) (span : Pair) (c : Cursor) (xs : List Tree) (n m k : ℕ) → w ≡ v → Refers v shot xs
    → WalksWithin span (root_of v shot.root) c (found span xs) n m k → Among w c span (found span xs)
among-first v w shot span c xs n m k same o walks = subst (λ z. Among z c span (found span xs)) (sym same) (record {
  root = root_of v shot.root;
  work = walks.work;
  reached = shot-root v shot.root shot.height xs o;
  walks = walks.walks;
})

-- an item that is passed
pub meeting-past : (own : ℕ) (l : Latch) (a : Access) (todo : List Tree) (x : Tree) (rest : List Tree) → todo ≡ x ∷ rest
    → counts own l (held_as a (item_of x)) ≡ false → meeting own l a todo ≡ meeting own l a rest
meeting-past own l a todo x rest e apart =
    ap (meeting own l a) e ∙ ap (λ b. cond b (held_as a (item_of x) ∷ meeting own l a rest) (meeting own l a rest)) apart

-- an item that is met
pub meeting-next : (own : ℕ) (l : Latch) (a : Access) (todo : List Tree) (x : Tree) (rest : List Tree) → todo ≡ x ∷ rest
    → counts own l (held_as a (item_of x)) ≡ true → meeting own l a todo ≡ held_as a (item_of x) ∷ meeting own l a rest
meeting-next own l a todo x rest e meets =
    ap (meeting own l a) e ∙ ap (λ b. cond b (held_as a (item_of x) ∷ meeting own l a rest) (meeting own l a rest)) meets

-- the walk over what a latch meets begins among the writes
pub meets-begin : (b d : Content) (s : Snapshot) (l : Latch) (shot : Shot) (c : Cursor) (n m : ℕ) (k : List Tree → ℕ) → ViewInvariant b.view
    → ShowsSnapshot b s → d ≡ b → shot ≡ shot_of b (scope_of l.span) Write
    → ((xs : List Tree) → Refers b.view shot xs → WalksWithin l.span (root_of b.view shot.root) c (found l.span xs) n m (k xs))
    → MeetsIn d (record { cursor = c; access = Write }) l (met_by s l)
meets-begin b d s l shot c n m k sound h same is walks =
    let o = listed b s l Write sound h in
    let p = met-parts b s l sound h o in
    let refers = subst (λ z. Refers b.view z o.items) (sym is) o.refers in
    subst (λ z. MeetsIn z (record { cursor = c; access = Write }) l (met_by s l)) (sym same) (record {
      items = found l.span o.items;
      among = among-first b.view b.view shot l.span c o.items n m (k o.items) refl refers (walks o.items refers);
      later = p.later;
      behind = p.behind;
      todo_is = p.all;
    })

-- ---- one step
-- the cursor came to an item
pub record CameTo (v : SeatView) (c : Cursor) (span : Pair) (todo : List Tree) (i : ℕ) : Type 0 where
  pub item : Tree
  pub rest : List Tree
  pub next : todo ≡ item ∷ rest
  pub here : HasItem v i (item_of item)
  pub among : Among v c span rest

pub came-to : (v w : SeatView) (c d : Cursor) (span : Pair) (todo : List Tree) (i n m : ℕ) → (a : Among v c span todo) → w ≡ v
    → Came span a.root d todo i n m a.work → CameTo w d span todo i
came-to v w c d span todo i n m a same o =
    let up = root-stays v w a.root same a.reached in
    record {
      item = o.item;
      rest = o.rest;
      next = o.next;
      here = has-item w a.root o.item i up o.inside o.here o.latch;
      among = record { root = a.root; work = o.walks.work; reached = up; walks = o.walks.walks };
    }

-- the cursor came to its end
pub among-end : (v w : SeatView) (c d : Cursor) (span : Pair) (todo : List Tree) (n m : ℕ) → (a : Among v c span todo) → w ≡ v
    → WalksWithin span a.root d [] n m a.work → Among w d span []
among-end v w c d span todo n m a same o =
    record { root = a.root; work = o.work; reached = root-stays v w a.root same a.reached; walks = o.walks }

-- what the walk met of the items xs, where the cursor has come to the items ys of them
pub met-next : (own : ℕ) (l : Latch) (a b : Access) (xs ys rest : List Tree) (x : Tree) → b ≡ a → meeting own l a xs ≡ meeting own l a ys → ys ≡ x ∷ rest
    → counts own l (held_as b (item_of x)) ≡ true → meeting own l a xs ≡ held_as b (item_of x) ∷ meeting own l a rest
met-next own l a b xs ys rest x same so_far e meets = so_far
    ∙ subst (λ z. meeting own l a ys ≡ held_as z (item_of x) ∷ meeting own l a rest) (sym same)
    (meeting-next own l a ys x rest e (subst (λ z. counts own l (held_as z (item_of x)) ≡ true) same meets))

pub met-past : (own : ℕ) (l : Latch) (a b : Access) (xs ys rest : List Tree) (x : Tree) → b ≡ a → meeting own l a xs ≡ meeting own l a ys → ys ≡ x ∷ rest
    → counts own l (held_as b (item_of x)) ≡ false → meeting own l a xs ≡ meeting own l a rest
met-past own l a b xs ys rest x same so_far e apart =
    so_far ∙ meeting-past own l a ys x rest e (subst (λ z. counts own l (held_as z (item_of x)) ≡ false) same apart)

-- ---- the walk as a whole
-- what is left behind an item that was met
pub meets-rest : (c d : Content) (w u : Walk) (l : Latch) (rest : List Tree) (later : List HeldLatch) → d ≡ c → u.access ≡ w.access
    → MeetsBehind w.access l.access c l later → Among d.view u.cursor l.span rest → MeetsIn d u l (meeting d.own l w.access rest ++ later)
meets-rest c d w u l rest later same access behind among = record {
  items = rest;
  among = among;
  later = later;
  behind = subst (λ a. MeetsBehind a l.access d l later) (sym access) (subst (λ z. MeetsBehind w.access l.access z l later) (sym same) behind);
  todo_is = ap (λ a. meeting d.own l a rest ++ later) (sym access);
}

-- where the writes are passed, the reads are left
pub reads-left : (c d : Content) (w : Walk) (l : Latch) (todo : List HeldLatch) → d ≡ c → w.access ≡ Write → l.access ≡ Write → (h : MeetsIn c w l todo)
    → meeting c.own l w.access h.items ≡ [] → MeetsReads d l todo
reads-left c d w l todo same among_writes own h none =
    let behind = subst (λ z. MeetsBehind Write z c l h.later) own (subst (λ z. MeetsBehind z l.access c l h.later) among_writes h.behind) in
    let all : todo ≡ h.later = h.todo_is ∙ ap (λ xs. xs ++ h.later) none in
    subst (λ z. MeetsReads z l todo) (sym same) (behind.0, behind.1, all ∙ behind.2)

-- what the walk came to among the reads
pub reads-next : (d : Content) (u : Walk) (l : Latch) (result : Option MetLatch) (todo : List HeldLatch) (xs : List Tree) → u.access ≡ Read
    → todo ≡ meeting d.own l Read xs
    → MatchOption result ((meeting d.own l Read xs ≡ []) × Among d.view u.cursor l.span [])
    (λ m. (x : HeldLatch) × (rest : List Tree) × (meeting d.own l Read xs ≡ x ∷ meeting d.own l Read rest) × IsMet d.view m x × Among d.view u.cursor l.span rest)
    → MatchOption result ((todo ≡ []) × MeetsIn d u l [])
    (λ m. (x : HeldLatch) × (rest : List HeldLatch) × (todo ≡ x ∷ rest) × IsMet d.view m x × MeetsIn d u l rest)
reads-next d u l None todo xs access e (none, among) = (
  e ∙ none,
  record {
    items = [];
    among = among;
    later = [];
    behind = subst (λ a. MeetsBehind a l.access d l []) (sym access) refl;
    todo_is = refl;
  },
)
reads-next d u l (Some m) todo xs access e (x, rest, next, met, among) = (
  x,
  meeting d.own l Read rest,
  e ∙ next,
  met,
  record {
    items = rest;
    among = among;
    later = [];
    behind = subst (λ a. MeetsBehind a l.access d l []) (sym access) refl;
    todo_is = sym (append-nil (meeting d.own l u.access rest) ∙ ap (λ a. meeting d.own l a rest) access);
  },
)
