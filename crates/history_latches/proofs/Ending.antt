-- The lists behind an end: the latches of its request go.
use Rattle.std.proofs.Common.{◌≡◌, ℕ, ◌==◌, Bool, true, false, cond, not, ◌&&◌, List, [], ◌∷◌, ◌++◌, map, refl, sym, ap, ◌∙◌}
use Rattle.std.proofs.lemmas.List.Elements.{filter-append, filter_agree}
use Rattle.std.specs.List.{filter, flat_map}
use Rattle.span_key.specs.declared.scopes.Scope.{Scope}
use Rattle.span_key.specs.declared.scopes.Scope.TheVariants.{Global, Local}
use Rattle.latch_model.specs.Histories.{Begin, HeldLatch, held, holds_latches, in_order, latches_held, latches_held_by, listed, open_begins}
use Rattle.latch_model.specs.declared.history.Cause.{Cause}
use Rattle.latch_model.specs.declared.history.Entry.{Entry}
use Rattle.latch_model.specs.declared.history.Entry.TheVariants.{Ended}
use Rattle.latch_model.specs.declared.history.Fault.{Fault}
use Rattle.latch_model.specs.declared.history.Grant.{Grant}
use Rattle.latch_model.specs.declared.latch.Access.{Access}
use Rattle.latch_model.specs.declared.latch.Access.TheVariants.{Read, Write}
use Rattle.latch_model.proofs.Counting.{open_begins-ended}
use Rattle.latch_model.proofs.Elements.{Each, filter-filter, filter-map}
use Rattle.latch_model.proofs.SnapshotOrder.{filter-in_order}
use Rattle.latch_shots.specs.Held.{others}
use Rattle.held_latches.specs.Lists.{without_by}
use Rattle.history_latches.specs.Lists.{listed_in, lists_of}
use Rattle.history_latches.proofs.Listing.{is_of}
use Rattle.history_latches.proofs.Requests.{by_all}

and_swap : (a b : Bool) → (a && b) ≡ (b && a)
and_swap true true = refl
and_swap true false = refl
and_swap false true = refl
and_swap false false = refl

pub filter_swap : {X : Type 0} (p q : X → Bool) (xs : List X) → filter p (filter q xs) ≡ filter q (filter p xs)
filter_swap p q xs =
    filter-filter p q xs ∙ (filter_agree (λ x. q x && p x) (λ x. p x && q x) (λ x. and_swap (q x) (p x)) xs ∙ sym (filter-filter q p xs))

-- the latches of those requests whose numbers pass
of_one : (q : ℕ → Bool) (n : ℕ) (t : Bool) (xs : List HeldLatch) → q n ≡ t → Each (λ (x : HeldLatch). x.by ≡ n) xs → filter (λ x. q x.by) xs ≡ cond t xs []
of_one q n true [] e h = refl
of_one q n false [] e h = refl
of_one q n true (x ∷ xs) e h =
    ap (λ t. cond t (x ∷ filter (λ y. q y.by) xs) (filter (λ y. q y.by) xs)) (ap q h.0 ∙ e) ∙ ap (λ ys. x ∷ ys) (of_one q n true xs e h.1)
of_one q n false (x ∷ xs) e h =
    ap (λ t. cond t (x ∷ filter (λ y. q y.by) xs) (filter (λ y. q y.by) xs)) (ap q h.0 ∙ e) ∙ of_one q n false xs e h.1

pub of_those : (q : ℕ → Bool) (bs : List Begin) →
    flat_map latches_held_by (filter (λ (b : Begin). q b.id) bs) ≡ filter (λ (x : HeldLatch). q x.by) (flat_map latches_held_by bs)
of_those q [] = refl
of_those q (b ∷ bs) = by (q b.id) refl (of_those q bs)
  where
    left : List Begin
    left = filter (λ (x : Begin). q x.id) bs

    more : List HeldLatch
    more = filter (λ (x : HeldLatch). q x.by) (flat_map latches_held_by bs)

    split : filter (λ (x : HeldLatch). q x.by) (latches_held_by b ++ flat_map latches_held_by bs)
        ≡ filter (λ (x : HeldLatch). q x.by) (latches_held_by b) ++ more
    split = filter-append (λ (x : HeldLatch). q x.by) (latches_held_by b) (flat_map latches_held_by bs)

    by : (t : Bool) → q b.id ≡ t → flat_map latches_held_by left ≡ more →
        flat_map latches_held_by (cond t (b ∷ left) left) ≡ filter (λ (x : HeldLatch). q x.by) (latches_held_by b ++ flat_map latches_held_by bs)
    by true e rest = ap (λ xs. latches_held_by b ++ xs) rest ∙ sym (split ∙ ap (λ xs. xs ++ more) (of_one q b.id true (latches_held_by b) e (by_all b)))
    by false e rest = rest ∙ sym (split ∙ ap (λ xs. xs ++ more) (of_one q b.id false (latches_held_by b) e (by_all b)))

pub held_ended : (h : List Entry) (id who : ℕ) (grant : Grant) (cause : Cause) (fault : Fault) →
    latches_held (h ++ Ended id who grant cause fault ∷ []) ≡ others id (latches_held h)
held_ended h id who grant cause fault =
    ap (λ bs. flat_map latches_held_by (filter (λ (x : Begin). holds_latches x.mode) bs)) (open_begins-ended h id who grant cause fault)
    ∙ (ap (flat_map latches_held_by) (filter_swap (λ (x : Begin). holds_latches x.mode) (λ (x : Begin). not (x.id == id)) (open_begins h))
    ∙ of_those (λ k. not (k == id)) (held h))

-- one list without those of one request
one_less : (id : ℕ) (xs : List HeldLatch) (scope : Scope) (access : Access) → listed_in (others id xs) scope access ≡ others id (listed_in xs scope access)
one_less id xs scope access =
    ap (λ zs. in_order (map listed zs)) (filter_swap (is_of scope access) (λ (x : HeldLatch). not (x.by == id)) xs)
    ∙ (ap in_order (sym (filter-map listed (λ (x : HeldLatch). not (x.by == id)) (filter (is_of scope access) xs)))
    ∙ sym (filter-in_order (λ (x : HeldLatch). not (x.by == id)) (map listed (filter (is_of scope access) xs))))

lists_less : (id : ℕ) (xs : List HeldLatch) → lists_of (others id xs) ≡ without_by id (lists_of xs)
lists_less id xs = λ i. record {
  global_reads = one_less id xs Global Read i;
  global_writes = one_less id xs Global Write i;
  local_reads = one_less id xs Local Read i;
  local_writes = one_less id xs Local Write i;
}

-- the lists behind an end
pub lists_ended : (h : List Entry) (id who : ℕ) (grant : Grant) (cause : Cause) (fault : Fault) →
    lists_of (latches_held (h ++ Ended id who grant cause fault ∷ [])) ≡ without_by id (lists_of (latches_held h))
lists_ended h id who grant cause fault = ap lists_of (held_ended h id who grant cause fault) ∙ lists_less id (latches_held h)
