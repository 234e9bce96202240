-- Places of latches in the waiting order.
use Rattle.std.proofs.Common.{◌≡◌, ◌+◌, ◌<◌, ◌≤◌, ◌∙◌, ◌&&◌, ℕ, zero, suc, Bool, true, false, not, cond, List, [], ◌∷◌, ◌++◌, drop, take, map, length}
use Rattle.std.proofs.Common.{Some, refl, sym, ap, add-one, arith, slice_index_or, subst}
use Rattle.std.proofs.lemmas.Grind.{flat_map-append}
use Rattle.std.proofs.lemmas.List.{append_assoc, drop_all, get_or_default, length-map, map-append, take-append-drop}
use Rattle.std.proofs.lemmas.List.Elements.{filter-append}
use Rattle.std.specs.List.{flat_map, slice_get}
use Rattle.latch_model.specs.Histories.{HeldLatch, Snapshot, in_waiting_order, met_by, those_of}
use Rattle.latch_model.specs.Latches.{has_access, in_scope, local, reads, writes}
use Rattle.latch_model.specs.declared.latch.Access.{Access}
use Rattle.latch_model.specs.declared.latch.Access.TheVariants.{Read, Write}
use Rattle.latch_model.specs.declared.latch.Latch.{Latch}
use Rattle.latch_model.proofs.Members.{take_next}
use Rattle.latch_model.proofs.Scan.{drop_next}
use Rattle.signal_board.specs.Views.{RequestView}
use Rattle.span_key.specs.declared.scopes.Scope.{Scope}
use Rattle.span_key.specs.declared.scopes.Scope.TheVariants.{Global, Local}
use Rattle.shot_walks.specs.Orders.{IsOrder, latch_at, no_latch}
use Rattle.shot_walks.specs.Waits.{waits_for}

get_map : {X Y : Type 0} (f : X → Y) (xs : List X) (k : ℕ) (d : X) → k < length xs → slice_get (map f xs) k ≡ Some (f (slice_index_or xs k d))
get_map f [] k d lt = absurd (omega arith)
get_map f (x ∷ xs) zero d lt = refl
get_map f (x ∷ xs) (suc k) d lt = get_map f xs k d (omega arith)

-- the latch number k of the waiting order
pub order_at : (ls : List Latch) (order : List ℕ) (k : ℕ) (l : Latch) → IsOrder order ls → k < length order
    → l ≡ slice_index_or ls (slice_index_or order k 0) l → slice_get (in_waiting_order ls) k ≡ Some l
order_at ls order k l is lt e =
    ap (λ xs. slice_get xs k) (sym is.0) ∙ (get_map (latch_at ls) order k 0 lt
    ∙ ap Some (get_or_default ls (slice_index_or order k 0) no_latch l (is.1 k 0 lt) ∙ sym e))

-- it, and those behind it
pub order_next : (ls : List Latch) (order : List ℕ) (k : ℕ) (l : Latch) → IsOrder order ls → k < length order
    → l ≡ slice_index_or ls (slice_index_or order k 0) l → drop k (in_waiting_order ls) ≡ l ∷ drop (k + 1) (in_waiting_order ls)
order_next ls order k l is lt e =
    drop_next (in_waiting_order ls) k l (order_at ls order k l is lt e) ∙ ap (λ n. l ∷ drop n (in_waiting_order ls)) (sym (add-one k))

-- and what they meet
pub meets_next : (s : Snapshot) (ls : List Latch) (order : List ℕ) (k : ℕ) (l : Latch) → IsOrder order ls → k < length order
    → l ≡ slice_index_or ls (slice_index_or order k 0) l
    → flat_map (met_by s) (drop k (in_waiting_order ls)) ≡ met_by s l ++ flat_map (met_by s) (drop (k + 1) (in_waiting_order ls))
meets_next s ls order k l is lt e = ap (flat_map (met_by s)) (order_next ls order k l is lt e)

-- ---- the latches of a request
-- Latch number k of the waiting order is next.
abbrev pub IsNext : RequestView → ℕ → Latch → Type 0
IsNext r k l = drop k (in_waiting_order r.request.latches) ≡ l ∷ drop (k + 1) (in_waiting_order r.request.latches)

pub is_next : (r : RequestView) (ls : List Latch) (order : List ℕ) (k : ℕ) (l : Latch) → ls ≡ r.request.latches → IsOrder order ls → k < length order
    → l ≡ slice_index_or ls (slice_index_or order k 0) l → IsNext r k l
is_next r ls order k l mine is lt e =
    subst (λ (ms : List Latch). drop k (in_waiting_order ms) ≡ l ∷ drop (k + 1) (in_waiting_order ms)) mine (order_next ls order k l is lt e)

-- what its latches meet from number k on, and what in front of that
abbrev pub met_from : RequestView → ℕ → List HeldLatch
met_from r k = flat_map (met_by r.shot) (drop k (in_waiting_order r.request.latches))

abbrev pub met_before : RequestView → ℕ → List HeldLatch
met_before r k = flat_map (met_by r.shot) (take k (in_waiting_order r.request.latches))

pub met_parts : (r : RequestView) (k : ℕ) → waits_for r ≡ met_before r k ++ met_from r k
met_parts r k =
    ap (flat_map (met_by r.shot)) (sym (take-append-drop k (in_waiting_order r.request.latches)))
    ∙ flat_map-append (met_by r.shot) (take k (in_waiting_order r.request.latches)) (drop k (in_waiting_order r.request.latches))

-- behind the last there is none
pub met_from_end : (r : RequestView) (ls : List Latch) (order : List ℕ) → ls ≡ r.request.latches → IsOrder order ls → met_from r (length order) ≡ []
met_from_end r ls order mine is =
    let many : length (in_waiting_order r.request.latches) ≤ length order =
    subst (λ (ms : List Latch). length (in_waiting_order ms) ≤ length order) mine
    (let e = ap length (sym is.0) ∙ length-map order (latch_at ls) in omega arith) in
    ap (flat_map (met_by r.shot)) (drop_all (length order) (in_waiting_order r.request.latches) many)

-- ---- the places of the latches of one scope and access
-- one more latch was looked at, which is of the scope and access or isn't
pub those_next : (scope : Scope) (access : Access) (ls : List Latch) (k : ℕ) (l : Latch) (b : Bool) → slice_get ls k ≡ Some l
    → b ≡ (in_scope scope l && has_access access l) → those_of scope access (take (k + 1) ls) ≡ those_of scope access (take k ls) ++ cond b (l ∷ []) []
those_next scope access ls k l b at e =
    ap (those_of scope access) (take_next ls k l at)
    ∙ (filter-append (λ l. in_scope scope l && has_access access l) (take k ls) (l ∷ [])
    ∙ ap (λ c. those_of scope access (take k ls) ++ cond c (l ∷ []) []) (sym e))

-- each latch stands in one of the four groups
pub order_counts : (ls : List Latch)
    → length (those_of Global Read ls) + length (those_of Global Write ls) + length (those_of Local Read ls) + length (those_of Local Write ls)
    ≡ length ls
order_counts [] = refl
order_counts (l ∷ ls) = by (local l) l.access (those_of Global Read ls) (those_of Global Write ls) (those_of Local Read ls)
    (those_of Local Write ls) (order_counts ls)
  where
    by : (b : Bool) (a : Access) (x y z w : List Latch) → length x + length y + length z + length w ≡ length ls
        → length (cond (not b && reads a) (l ∷ x) x) + length (cond (not b && writes a) (l ∷ y) y) + length (cond (b && reads a) (l ∷ z) z)
        + length (cond (b && writes a) (l ∷ w) w) ≡ suc (length ls)
    by true Read x y z w e = omega arith
    by true Write x y z w e = omega arith
    by false Read x y z w e = omega arith
    by false Write x y z w e = omega arith

-- the first ones of a group are no more than all
pub those_fewer : (scope : Scope) (access : Access) (ls : List Latch) (k : ℕ) → length (those_of scope access (take k ls)) ≤ length (those_of scope access ls)
those_fewer scope access ls zero = omega arith
those_fewer scope access [] (suc k) = omega arith
those_fewer scope access (l ∷ ls) (suc k) = by (in_scope scope l && has_access access l) (those_fewer scope access ls k)
  where
    by : (b : Bool) → length (those_of scope access (take k ls)) ≤ length (those_of scope access ls)
        → length (cond b (l ∷ those_of scope access (take k ls)) (those_of scope access (take k ls))) ≤ length (cond b (l ∷ those_of scope access ls)
        (those_of scope access ls))
    by true le = omega arith
    by false le = le

-- one more place is kept where the latch is of the group
pub place_added : (scope : Scope) (access : Access) (ls : List Latch) (k : ℕ) (l : Latch) (old now new : List ℕ) → slice_get ls k ≡ Some l
    → true ≡ (in_scope scope l && has_access access l) → new ≡ now ++ k ∷ []
    → map (latch_at ls) now ≡ map (latch_at ls) old ++ those_of scope access (take k ls)
    → map (latch_at ls) new ≡ map (latch_at ls) old ++ those_of scope access (take (k + 1) ls)
place_added scope access ls k l old now new at b e is =
    ap (map (latch_at ls)) e
    ∙ (map-append (latch_at ls) now (k ∷ [])
    ∙ (ap (λ zs. zs ++ latch_at ls k ∷ []) is
    ∙ (append_assoc (map (latch_at ls) old) (those_of scope access (take k ls)) (latch_at ls k ∷ [])
    ∙ ap (λ zs. map (latch_at ls) old ++ zs) (ap (λ m. those_of scope access (take k ls) ++ m ∷ []) (here ls k l at)
    ∙ sym (those_next scope access ls k l true at b)))))
  where
    here : (ls : List Latch) (k : ℕ) (l : Latch) → slice_get ls k ≡ Some l → latch_at ls k ≡ l
    here [] k l e = cc
    here (m ∷ ls) zero l e = cc
    here (m ∷ ls) (suc k) l e = here ls k l e
