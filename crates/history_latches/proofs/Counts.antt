-- The counts of a scope, by its lists of held latches.
use Rattle.std.proofs.Common.{◌≡◌, ℕ, suc, ◌+◌, ◌≤◌, Bool, true, false, cond, not, ◌||◌, nat_le, ◌&&◌, List, [], ◌∷◌, length, map}
use Rattle.std.proofs.Common.{refl, sym, ◌∙◌, ap, subst, inl, inr, arith}
use Rattle.std.proofs.Math.Seq.{take-length}
use Rattle.std.proofs.lemmas.Bool.Decides.{nat_tests}
use Rattle.std.proofs.lemmas.List.{length-append, length-map}
use Rattle.std.proofs.lemmas.List.Elements.{filter-append}
use Rattle.std.proofs.lemmas.List.Sums.{length-filter, sum_by-append}
use Rattle.std.specs.List.{count_by, enumerate_from, filter, flat_map, list_any, sum_by}
use Rattle.span_key.specs.declared.scopes.Scope.{Scope}
use Rattle.latch_model.specs.Histories.{Begin, HeldLatch, begins, has_ended, held, holds_latches, in_order, latches_held, latches_held_by, listed}
use Rattle.latch_model.specs.Histories.{list_of, open_begins}
use Rattle.latch_model.specs.Latches.{has_access, in_scope}
use Rattle.latch_model.specs.Legal.{IsLegal}
use Rattle.latch_model.specs.Metrics.{count_latches, from_last_writer, held_among, held_count, pending_count, writes_in}
use Rattle.latch_model.specs.declared.history.Entry.{Entry}
use Rattle.latch_model.specs.declared.history.Sizes.{Sizes}
use Rattle.latch_model.specs.declared.latch.Access.{Access}
use Rattle.latch_model.specs.declared.latch.Access.TheVariants.{Read, Write}
use Rattle.latch_model.specs.declared.latch.Latch.{Latch}
use Rattle.latch_model.proofs.Appending.{IsLegal-below}
use Rattle.latch_model.proofs.Counting.{Rises, Rises-begins}
use Rattle.latch_model.proofs.Elements.{filter-filter, filter-map}
use Rattle.latch_model.proofs.Lists.{In}
use Rattle.latch_model.proofs.SnapshotOrder.{filter-in_order}
use Rattle.held_latches.specs.Holding.{writer_of}
use Rattle.held_latches.specs.declared.counts.Counted.{Counted}
use Rattle.held_latches.proofs.Counting.{length-order}
use Rattle.history_latches.specs.Counted.{counts_of}
use Rattle.history_latches.specs.Lists.{listed_in, lists_of}
use Rattle.history_latches.specs.Logs.{HoldsLog}
use Rattle.history_latches.specs.Writers.{last_writer}
use Rattle.history_latches.specs.declared.latches.HistoryLatches.{HistoryLatches}
use Rattle.history_latches.proofs.Ending.{filter_swap, of_those}
use Rattle.history_latches.proofs.Listing.{is_of, length_listed, list_is}

abbrev counts : Scope → Access → Latch → Bool
counts scope access l = in_scope scope l && has_access access l

-- the latches of one request
length_one : (b : Begin) (scope : Scope) (access : Access) (n : ℕ) (ls : List Latch) →
    length (filter (is_of scope access) (map (λ (p : ℕ × Latch). record { by = b.id; lane = b.lane; place = p.0; latch = p.1 }) (enumerate_from n ls)))
    ≡ length (filter (counts scope access) ls)
length_one b scope access n [] = refl
length_one b scope access n (l ∷ ls) = by (counts scope access l) (length_one b scope access (n + 1) ls)
  where
    rest : List HeldLatch
    rest = filter (is_of scope access)
        (map (λ (p : ℕ × Latch). record { by = b.id; lane = b.lane; place = p.0; latch = p.1 }) (enumerate_from (n + 1) ls))

    first : HeldLatch
    first = record { by = b.id; lane = b.lane; place = n; latch = l }

    by : (t : Bool) → length rest ≡ length (filter (counts scope access) ls) →
        length (cond t (first ∷ rest) rest) ≡ length (cond t (l ∷ filter (counts scope access) ls) (filter (counts scope access) ls))
    by true e = ap suc e
    by false e = e

-- those of some requests
length_those : (scope : Scope) (access : Access) (bs : List Begin) →
    length (filter (is_of scope access) (flat_map latches_held_by bs)) ≡ count_latches scope access bs
length_those scope access [] = refl
length_those scope access (b ∷ bs) =
    let count : Begin → ℕ = λ (x : Begin). count_by (counts scope access) x.request.latches in
    let first : length (filter (is_of scope access) (latches_held_by b)) ≡ count_by (counts scope access) b.request.latches =
    length_one b scope access 0 b.request.latches ∙ length-filter (counts scope access) b.request.latches in
    let rest = length_those scope access bs in
    let split = ap length (filter-append (is_of scope access) (latches_held_by b) (flat_map latches_held_by bs)) in
    let both = length-append (filter (is_of scope access) (latches_held_by b)) (filter (is_of scope access) (flat_map latches_held_by bs)) in
    let sum : sum_by count (b ∷ bs) ≡ sum_by count (b ∷ []) + sum_by count bs = sum_by-append count (b ∷ []) bs in
    let one : sum_by count (b ∷ []) ≡ count_by (counts scope access) b.request.latches = omega arith in
    omega arith

-- A list of held latches is as long as the definition counts.
count_held : (h : List Entry) (scope : Scope) (access : Access) → length (listed_in (latches_held h) scope access) ≡ held_count scope access h
count_held h scope access = length_listed (latches_held h) scope access ∙ length_those scope access (held h)

-- the last writer is one of them
writer_in : (scope : Scope) (bs : List Begin) → list_any (writes_in scope) bs ≡ true → (b : Begin) × In b bs × (b.id ≡ last_writer scope bs)
writer_in scope [] t = cc
writer_in scope (x ∷ xs) t = by (list_any (writes_in scope) xs) (writes_in scope x) refl t (λ u. writer_in scope xs u)
  where
    by : (later now : Bool) → list_any (writes_in scope) xs ≡ later → (now || list_any (writes_in scope) xs) ≡ true →
        (list_any (writes_in scope) xs ≡ true → (b : Begin) × In b xs × (b.id ≡ last_writer scope xs)) →
        (b : Begin) × In b (x ∷ xs) × (b.id ≡ cond later (last_writer scope xs) (cond now x.id 0))
    by true now e u rest = let w = rest e in (w.0, inr w.1, w.2)
    by false true e u rest = (x, inl refl, refl)
    by false false e u rest = cc

all_from : (w : ℕ) (bs : List Begin) → ((y : Begin) → In y bs → w ≤ y.id) → filter (λ (b : Begin). nat_le w b.id) bs ≡ bs
all_from w [] h = refl
all_from w (x ∷ xs) h =
    let le = h x (inl refl) in
    let yes : nat_le w x.id ≡ true = grind (arith, nat_tests) in
    ap (λ t. cond t (x ∷ filter (λ (b : Begin). nat_le w b.id) xs) (filter (λ (b : Begin). nat_le w b.id) xs)) yes
    ∙ ap (λ ys. x ∷ ys) (all_from w xs (λ y there. h y (inr there)))

-- those from the last writer on
from_writer : (scope : Scope) (bs : List Begin) → Rises bs → from_last_writer scope bs ≡ filter (λ (b : Begin). nat_le (last_writer scope bs) b.id) bs
from_writer scope [] rises = refl
from_writer scope (x ∷ xs) rises = by (list_any (writes_in scope) xs) (writes_in scope x) refl (from_writer scope xs rises.1)
  where
    by : (later now : Bool) → list_any (writes_in scope) xs ≡ later →
        from_last_writer scope xs ≡ filter (λ (b : Begin). nat_le (last_writer scope xs) b.id) xs →
        cond later (from_last_writer scope xs) (x ∷ xs)
        ≡ filter (λ (b : Begin). nat_le (cond later (last_writer scope xs) (cond now x.id 0)) b.id) (x ∷ xs)
    by true now e rest =
        let w = writer_in scope xs e in
        let above = rises.0 w.0 w.1 in
        let is = w.2 in
        let no : nat_le (last_writer scope xs) x.id ≡ false = grind (arith, nat_tests) in
        rest ∙ sym (ap (λ t. cond t (x ∷ filter (λ (b : Begin). nat_le (last_writer scope xs) b.id) xs)
        (filter (λ (b : Begin). nat_le (last_writer scope xs) b.id) xs)) no)
    by false true e rest =
        sym (all_from x.id (x ∷ xs) (λ y there. elim there [
          | inl is ↦ subst (λ (z : Begin). x.id ≤ z.id) is (omega arith)
          | inr more ↦ let a = rises.0 y more in omega arith
        ]))
    by false false e rest = sym (all_from 0 (x ∷ xs) (λ y there. omega arith))

-- The pending reads are those of the requests from the last writer on.
count_pending : (h : List Entry) (sizes : Sizes) (scope : Scope) → IsLegal h sizes →
    count_by (λ (x : HeldLatch). nat_le (last_writer scope (begins h)) x.by) (listed_in (latches_held h) scope Read) ≡ pending_count scope h
count_pending h sizes scope legal =
    sym (length-filter from (in_order (map listed (filter test (latches_held h)))))
    ∙ (ap length (filter-in_order from (map listed (filter test (latches_held h))))
    ∙ (length-order (filter from (map listed (filter test (latches_held h))))
    ∙ (ap length (filter-map listed from (filter test (latches_held h)))
    ∙ (length-map (filter from (filter test (latches_held h))) listed
    ∙ (ap length (filter_swap from test (latches_held h))
    ∙ (ap (λ xs. length (filter test xs)) (sym (of_those (λ k. nat_le w k) (held h)))
    ∙ (length_those scope Read (filter late (held h)) ∙ ap (count_latches scope Read) same)))))))
  where
    w : ℕ
    w = last_writer scope (begins h)

    from : HeldLatch → Bool
    from x = nat_le w x.by

    test : HeldLatch → Bool
    test x = is_of scope Read x

    late : Begin → Bool
    late b = nat_le w b.id

    rises : Rises (begins h)
    rises = subst (λ (t : List Entry). Rises (begins t)) (take-length h)
        (Rises-begins h sizes (length h) (IsLegal-below h sizes (length h) legal) (length h) (omega arith) (omega arith))

    holds : Begin → Bool
    holds b = holds_latches b.mode

    still : Begin → Bool
    still b = not (has_ended h b.id)

    same : filter late (held h) ≡ held_among h (from_last_writer scope (begins h))
    same =
        filter_swap late holds (open_begins h)
        ∙ (ap (filter holds) (filter_swap late still (begins h))
        ∙ (ap (λ bs. filter holds (filter still bs)) (sym (from_writer scope (begins h) rises))
        ∙ (filter_swap holds still (from_last_writer scope (begins h))
        ∙ filter-filter still holds (from_last_writer scope (begins h)))))

-- The counts of one scope, where what is held is what the history says.
pub counts_are : (h : HistoryLatches) (log : List Entry) (sizes : Sizes) (scope : Scope) (c : Counted) → HoldsLog h log sizes → IsLegal log sizes →
    c.read ≡ length (list_of (lists_of (latches_held log)) scope Read) →
    c.pending ≡ count_by (λ (x : HeldLatch). nat_le (writer_of h.held scope) x.by) (list_of (lists_of (latches_held log)) scope Read) →
    c.write ≡ length (list_of (lists_of (latches_held log)) scope Write) → c ≡ counts_of scope log
counts_are h log sizes scope c keeps legal read pending write = λ i. record {
  read = (read ∙ (ap length (list_is (latches_held log) scope Read) ∙ count_held log scope Read)) i;
  pending = (pending ∙ (ap (count_by (λ (x : HeldLatch). nat_le (writer_of h.held scope) x.by)) (list_is (latches_held log) scope Read)
      ∙ (ap (λ n. count_by (λ (x : HeldLatch). nat_le n x.by) (listed_in (latches_held log) scope Read)) (keeps.writers scope)
      ∙ count_pending log sizes scope legal))) i;
  write = (write ∙ (ap length (list_is (latches_held log) scope Write) ∙ count_held log scope Write)) i;
}
