-- What a request keeps while it learns more.
use Rattle.std.proofs.Common.{◌≡◌, ◌≤◌, ◌∙◌, ℕ, List, [], ◌∷◌, ◌++◌, map, Option, None, refl, sym, ap, subst, inl}
use Rattle.std.specs.List.{Contains}
use Rattle.atomic_table.specs.Seated.{TableId}
use Rattle.latch_model.specs.Declaration.{Declaration}
use Rattle.latch_model.specs.Histories.{HeldLatch, ascending}
use Rattle.latch_model.specs.declared.history.Cause.{Cause}
use Rattle.latch_model.specs.declared.history.Entry.{Entry}
use Rattle.latch_model.specs.declared.history.Fault.{Fault}
use Rattle.latch_model.specs.declared.history.Fault.TheVariants as fault
use Rattle.latch_model.specs.declared.history.Grant.{Grant}
use Rattle.latch_model.specs.declared.history.Grant.TheVariants.{Never, Waited, Checked}
use Rattle.latch_model.specs.declared.latch.Mode.{Mode}
use Rattle.latch_model.proofs.Ascending.{In-ascending}
use Rattle.latch_model.proofs.Lists.{Contains-from_In, In, In-append_right, In-from_Contains}
use Rattle.latch_model.specs.declared.latch.Latch.{Latch}
use Rattle.latch_shots.specs.Shots.{AreShots, Content, IsReturned, ShowsSnapshot, content_of}
use Rattle.latch_shots.specs.declared.shots.Returned.{Returned}
use Rattle.latch_shots.specs.declared.shots.Shots.{Shots}
use Rattle.shot_walks.specs.declared.place.Place.{Place}
use Rattle.shot_walks.specs.Orders.{IsOrder}
use Rattle.shot_walks.specs.Places.{Stands}
use Rattle.shot_walks.specs.Waits.{Learns, waits_for}
use Rattle.shot_walks.proofs.Standing.{stands-in, stands-stays}
use Rattle.signal_board.specs.Rule.{IsPrerequisite}
use Rattle.signal_board.specs.Says.{LaneSays, shown_to}
use Rattle.signal_board.specs.Steps.{FaultGiven, GrantGiven, warned}
use Rattle.signal_board.specs.Views.{RequestView}
use Rattle.waiter.specs.Kept.{GrantedKept, IsBack, OptimistKept, WaitingKept, WalkKept, stood_at}
use Rattle.waiter.specs.Says.{CoreId, Last, LastGiven, MayAbandon, Unpolled, Ready, Blocked, Poisoned}

-- a request with other knowledge
abbrev pub knowing : RequestView → List Entry → List ℕ → List ℕ → Cause → RequestView
knowing r shown ended poisoned cause = record r { shown = shown; ended = ended; poisoned = poisoned; cause = cause }

-- the last poll is as it was where what was known stays known
pub last_stays : (r : RequestView) (shown : List Entry) (ended poisoned : List ℕ) (cause : Cause) (turns : ℕ) (last : Last) →
    ((p : ℕ) → Contains r.ended p → Contains ended p) → ((p : ℕ) → Contains r.poisoned p → Contains poisoned p) →
    LastGiven r turns last → LastGiven (knowing r shown ended poisoned cause) turns last
last_stays r shown ended poisoned cause turns Unpolled e p g = tt
last_stays r shown ended poisoned cause turns Ready e p g = λ q lane is. e q (g q lane is)
last_stays r shown ended poisoned cause turns (Blocked x) e p g = g
last_stays r shown ended poisoned cause turns (Poisoned x) e p g = (g.0, g.1, p x.by g.2)

-- what is known stays known when more is heard
pub heard : (ids known : List ℕ) (p : ℕ) → Contains known p → Contains (ids ++ known) p
heard ids known p has = Contains-from_In (ids ++ known) p (In-append_right ids known p (In-from_Contains known p has))

-- so is the walk
pub walk_stays : (r : RequestView) (shots : Shots) (order : List ℕ) (place : Place) (last : Last) (shown : List Entry) (ended poisoned : List ℕ)
    (cause : Cause) → ((p : ℕ) → Contains r.ended p → Contains ended p) → WalkKept r shots order place last →
    WalkKept (knowing r shown ended poisoned cause) shots order place last
walk_stays r shots order place last shown ended poisoned cause e w = record {
  order_is = w.order_is;
  stands = stands-stays (content_of shots) place r (knowing r shown ended poisoned cause) (stood_at last) refl refl e w.stands;
}

-- What a waiting request keeps.
module _ (who : ℕ) (mode : Mode) (request : Declaration) (shots : Shots) (turns : ℕ) (last : Last) (order : List ℕ) (place : Place) (s t : LaneSays) where
  abbrev pub KeepsWaiting : LaneSays → Type 0
  KeepsWaiting = WaitingKept who mode request shots turns last order place

  -- where it waiting_knows more
  pub waiting_knows : (shown : List Entry) (ended poisoned : List ℕ) (cause : Cause) → ((p : ℕ) → Contains s.r.ended p → Contains ended p) →
      ((p : ℕ) → Contains s.r.poisoned p → Contains poisoned p) → t ≡ record s { r = knowing s.r shown ended poisoned cause } → KeepsWaiting s → KeepsWaiting t
  waiting_knows shown ended poisoned cause e p is g = subst KeepsWaiting (sym is) (record {
    who_is = g.who_is;
    mode_is = g.mode_is;
    request_is = g.request_is;
    given = last_stays s.r shown ended poisoned cause turns last e p g.given;
    walk = walk_stays s.r shots order place last shown ended poisoned cause e g.walk;
  })

  -- where it has a cause, was shown the history, heard of others, or learnt of ends
  pub caused : (cause : Cause) → t ≡ record s { r = record s.r { cause = cause } } → KeepsWaiting s → KeepsWaiting t
  caused cause = waiting_knows s.r.shown s.r.ended s.r.poisoned cause (λ p h. h) (λ p h. h)

  pub told : (log : List Entry) → t ≡ record s { r = shown_to log s.r } → KeepsWaiting s → KeepsWaiting t
  told log = waiting_knows log s.r.ended s.r.poisoned s.r.cause (λ p h. h) (λ p h. h)

  pub heard_of : (ids : List ℕ) → t ≡ record s { r = warned ids s.r } → KeepsWaiting s → KeepsWaiting t
  heard_of ids = waiting_knows s.r.shown s.r.ended (ids ++ s.r.poisoned) s.r.cause (λ p h. h) (heard ids s.r.poisoned)

  pub learnt : Learns s t → KeepsWaiting s → KeepsWaiting t
  learnt l = waiting_knows s.r.shown t.r.ended s.r.poisoned s.r.cause l.1 (λ p h. h) l.0

-- or where only links of its shots were followed
pub waiting_in : (who : ℕ) (mode : Mode) (request : Declaration) (shots new : Shots) (turns : ℕ) (last : Last) (order : List ℕ) (place : Place) (s : LaneSays) →
    content_of new ≡ content_of shots → WaitingKept who mode request shots turns last order place s →
    WaitingKept who mode request new turns last order place s
waiting_in who mode request shots new turns last order place s same g = record {
  who_is = g.who_is;
  mode_is = g.mode_is;
  request_is = g.request_is;
  given = g.given;
  walk = record {
    order_is = g.walk.order_is;
    stands = stands-in (content_of shots) (content_of new) place s.r (stood_at last) same g.walk.stands;
  };
}

-- a grant stays given
pub grant_stays : (r : RequestView) (shown : List Entry) (ended poisoned : List ℕ) (cause : Cause) (grant : Grant) →
    GrantGiven r grant → GrantGiven (knowing r shown ended poisoned cause) grant
grant_stays r shown ended poisoned cause Never g = tt
grant_stays r shown ended poisoned cause (Waited front) g = g
grant_stays r shown ended poisoned cause (Checked asked) g = g

-- What a granted request keeps.
module _ (who : ℕ) (mode : Mode) (request : Declaration) (grant : Grant) (returned : Returned) (s t : LaneSays) where
  abbrev pub KeepsGranted : LaneSays → Type 0
  KeepsGranted = GrantedKept who mode request grant returned

  granted_knows : (shown : List Entry) (ended poisoned : List ℕ) (cause : Cause) → t ≡ record s { r = knowing s.r shown ended poisoned cause } →
      KeepsGranted s → KeepsGranted t
  granted_knows shown ended poisoned cause is g = subst KeepsGranted (sym is) (record {
    who_is = g.who_is;
    mode_is = g.mode_is;
    request_is = g.request_is;
    given = grant_stays s.r shown ended poisoned cause grant g.given;
    back = g.back;
  })

  pub granted_caused : (cause : Cause) → t ≡ record s { r = record s.r { cause = cause } } → KeepsGranted s → KeepsGranted t
  granted_caused cause = granted_knows s.r.shown s.r.ended s.r.poisoned cause

  pub granted_told : (log : List Entry) → t ≡ record s { r = shown_to log s.r } → KeepsGranted s → KeepsGranted t
  granted_told log = granted_knows log s.r.ended s.r.poisoned s.r.cause

  pub granted_heard : (ids : List ℕ) → t ≡ record s { r = warned ids s.r } → KeepsGranted s → KeepsGranted t
  granted_heard ids = granted_knows s.r.shown s.r.ended (ids ++ s.r.poisoned) s.r.cause

-- what is left of closed shots is of their own pool
pub is_back : (rows : TableId) (number : ℕ) (returned : Returned) → IsReturned rows number returned → IsBack returned.seat.table returned
is_back rows number returned is = (
  number,
  record {
    same_table = refl;
    same_number = is.same_number;
    split_off = is.split_off;
    no_refs = is.no_refs;
    owns = is.owns;
  },
)

-- an optimistic request keeps what it keeps, whatever else it knows
pub optimist_knows : (who : ℕ) (request : Declaration) (shots : Shots) (passed : Option (List Latch)) (s t : LaneSays) (poisoned : List ℕ) (cause : Cause) →
    t ≡ record s { r = record s.r { poisoned = poisoned; cause = cause } } → OptimistKept who request shots passed s → OptimistKept who request shots passed t
optimist_knows who request shots passed s t poisoned cause is g = subst (OptimistKept who request shots passed) (sym is) (record {
  who_is = g.who_is;
  mode_is = g.mode_is;
  request_is = g.request_is;
  shows = g.shows;
  given = g.given;
})

pub optimist_in : (who : ℕ) (request : Declaration) (shots new : Shots) (passed : Option (List Latch)) (s : LaneSays) → content_of new ≡ content_of shots →
    OptimistKept who request shots passed s → OptimistKept who request new passed s
optimist_in who request shots new passed s same g = record {
  who_is = g.who_is;
  mode_is = g.mode_is;
  request_is = g.request_is;
  shows = subst (λ (c : Content). ShowsSnapshot c s.r.shot) (sym same) g.shows;
  given = g.given;
}

-- what a waiting request keeps before its first poll
pub walk_starts : (r : RequestView) (request : Declaration) (shots : Shots) (latches : List Latch) (order : List ℕ) (place : Place) →
    latches ≡ request.latches → request ≡ r.request → IsOrder order latches → AreShots shots r.shot →
    ((c : Content) (q : RequestView) → ShowsSnapshot c q.shot → Stands c place q None) → WalkKept r shots order place Unpolled
walk_starts r request shots latches order place are is o shows starts = record {
  order_is = subst (IsOrder order) (are ∙ ap (λ (d : Declaration). d.latches) is) o;
  stands = starts (content_of shots) r shows;
}

-- ---- nothing to wait for
-- Where no number is listed, no held latch is.
none_listed : (xs : List HeldLatch) → ascending (map (λ x. x.by) xs) ≡ [] → xs ≡ []
none_listed [] e = refl
none_listed (x ∷ xs) e = absurd (subst (In x.by) e (In-ascending x.by (x.by ∷ map (λ y. y.by) xs) (inl refl)))

-- A request that waits for nothing stands at no held latch, and may go on behind all.
walk_ends : (r : RequestView) (shots : Shots) (order : List ℕ) (place end : Place) (turns : ℕ) (last : Last) → waits_for r ≡ [] →
    ((c : Content) (q : RequestView) → ShowsSnapshot c q.shot → waits_for q ≡ [] → Stands c end q None) → LastGiven r turns last →
    WalkKept r shots order place last → WalkKept r shots order end last
walk_ends r shots order place end turns last none ends given w = record {
  order_is = w.order_is;
  stands = subst (Stands (content_of shots) end r) (sym (nowhere last given)) (ends (content_of shots) r w.stands.shows none);
}
  where
    never : (x : HeldLatch) → Contains (waits_for r) x → ⊥
    never x has = In-from_Contains [] x (subst (λ (xs : List HeldLatch). Contains xs x) none has)

    nowhere : (last : Last) → LastGiven r turns last → stood_at last ≡ None
    nowhere Unpolled g = refl
    nowhere Ready g = refl
    nowhere (Blocked x) g = absurd (never x g.0)
    nowhere (Poisoned x) g = absurd (never x g.0)

pub waiting_ends : (who : ℕ) (mode : Mode) (request : Declaration) (shots : Shots) (turns : ℕ) (last : Last) (order : List ℕ) (place end : Place)
    (s : LaneSays) → ascending (map (λ x. x.by) (waits_for s.r)) ≡ [] →
    ((c : Content) (q : RequestView) → ShowsSnapshot c q.shot → waits_for q ≡ [] → Stands c end q None) →
    WaitingKept who mode request shots turns last order place s → WaitingKept who mode request shots turns last order end s
waiting_ends who mode request shots turns last order place end s none ends g = record {
  who_is = g.who_is;
  mode_is = g.mode_is;
  request_is = g.request_is;
  given = g.given;
  walk = walk_ends s.r shots order place end turns last (none_listed (waits_for s.r) none) ends g.given g.walk;
}

-- a fault that the last poll allows
pub may_fault : (core : CoreId) (r : RequestView) (turns : ℕ) (last : Last) (f : Fault) → LastGiven r turns last →
    MayAbandon (record { core = core; r = r; turns = turns; last = last }) f → FaultGiven r Never f
may_fault core r turns last fault.None g m = tt
may_fault core r turns last (fault.Poisoned p) g m =
    let x : HeldLatch = m.0 in
    let given = subst (LastGiven r turns) m.1 g in
    let is : IsPrerequisite r p x.lane = (x, given.0, m.2, refl) in
    (given.1, refl, (x.lane, is), subst (Contains r.poisoned) m.2 given.2)
may_fault core r turns last (fault.Cancelled n) g m =
    let x : HeldLatch = m.1.0 in
    let given = subst (LastGiven r turns) m.1.1 g in
    let is : IsPrerequisite r x.by x.lane = (x, given.0, refl, refl) in
    (refl, subst (λ k. 1 ≤ k) (sym m.0) given.1, (x.by, x.lane, is))
